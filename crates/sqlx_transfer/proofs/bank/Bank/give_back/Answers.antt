use Rattle.std.proofs.Common.{◌≡◌, ◌∷◌, ◌++◌, map, sym, ap, subst, ◌∙◌, get_or}
use Rattle.std.specs.List.{remove}
use Rattle.sqlx_play.specs.stage.LinksStand.{side_of}
use Rattle.sqlx_transfer.specs.declared.holder.Holder.{Holder}
use Rattle.sqlx_transfer.specs.Pool.{IsPool}
use Rattle.sqlx_transfer.specs.Stands.{held_of}
use Rattle.sqlx_transfer.proofs.Connections.{pool_held, pool_given, index_mid, remove_mid}
use Rattle.sqlx_transfer.proofs.bank.Bank.give_back.Goals as goal

pub returns-clause-given : goal.returns-clause-given
returns-clause-given g c = λ max before own after whole place pool rests.
    let out : Holder = c.remove-client.result in
    let mine : out ≡ own = c.remove-client.ensures.value ∙ (λ i. get_or (whole i) (sym place i) out) ∙ index_mid before own after out in
    let held = subst (λ (h : Holder). IsPool max c.args.self.now.core.pool (map held_of before ++ held_of h ∷ map held_of after) pool.idle) (sym mine) (pool_held max c.args.self.now.core.pool before own after pool) in
    let taken = c.take_back.ensures max (map held_of before) (map held_of after) pool.idle held in (
      pool_given max c.args.self.now.core.pool c.take_back.new.pool.pool before own after out.lent pool taken (ap (λ (h : Holder). side_of h.lent.raw) mine ∙ rests),
      c.remove-client.ensures.items ∙ (λ i. remove (whole i) (sym place i)) ∙ remove_mid before own after,
    )
