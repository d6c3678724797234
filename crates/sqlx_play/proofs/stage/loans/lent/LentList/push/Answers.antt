use Rattle.std.proofs.Common.{ap, ◌∙◌, ◌++◌, ◌∷◌, []}
use Rattle.sqlx_pool_places.specs.Numbered.{items_at}
use Rattle.sqlx_pool_places.proofs.Places.{items-push}
use Rattle.sqlx_play.proofs.stage.loans.lent.LentList.push.Goals as goal

pub returns-clause-ok : goal.returns-clause-ok
returns-clause-ok c =
    rw (← c.self.view_is) (ap items_at c.push_reserved.ensures.items ∙ items-push c.make_room.new.places.items c.args.lent ∙ ap (λ l. l ++ c.args.lent ∷ []) c.make_room.ensures.items)
