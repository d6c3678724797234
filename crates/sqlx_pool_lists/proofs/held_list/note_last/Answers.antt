use Rattle.std.proofs.Common.{◌∙◌, sym, nat_eq}
use Rattle.std.specs.HashMap.{get}
use Rattle.sqlx_pool_lists.proofs.HeldLists.{noted-push, if-none}
use Rattle.sqlx_pool_lists.proofs.held_list.note_last.Goals as goal

pub returns : goal.returns
returns c = λ t.
    let none = if-none c.find.result (sym c.is_some.ensures ∙ c.if-is_some.false) c.find.ensures.none in
    noted-push c.args.places.now (get nat_eq c.args.noted.now) (get nat_eq c.note.new.noted) c.args.loan (c.requires c.if-not-all_noted.false) (c.note.ensures t) none
