use Rattle.std.proofs.Common.{◌∙◌, ap, length, length-append, ◌++◌, ◌∷◌, [], arith}
use Rattle.sqlx_pool_lists.specs.HeldList.{loans_at}
use Rattle.sqlx_pool_lists.proofs.HeldLists.{loans-push}
use Rattle.sqlx_pool_lists.proofs.held_list.HeldList.push_reserved.Goals as goal

pub invariant_of-self : goal.invariant_of-self
invariant_of-self c =
    let e = ap loans_at c.push_reserved.ensures.items ∙ loans-push c.make_room-all_noted.new.places.items c.args.loan ∙ ap (λ l. l ++ c.args.loan ∷ []) c.make_room-all_noted.ensures.loans in
    let n = ap length e ∙ length-append (loans_at c.self.inside.places.items) (c.args.loan ∷ []) in
    record {
      found = λ t. rw c.push_reserved.ensures.items (rw c.deref.ensures.value at c.note_last-self-inside.ensures t);
      counted_right = let len = c.self.invariant.counted_right in omega (arith, n, len);
      fits = let room = c.self.invariant.fits in let same = c.push_reserved.ensures.capacity in let before = c.make_room-all_noted.ensures.capacity in omega (arith, room, same, before);
    }

pub returns-clause-items : goal.returns-clause-items
returns-clause-items c = rw (← c.self.view_is) (ap loans_at c.push_reserved.ensures.items ∙ loans-push c.make_room-all_noted.new.places.items c.args.loan ∙ ap (λ l. l ++ c.args.loan ∷ []) c.make_room-all_noted.ensures.loans)
