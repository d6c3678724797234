use Rattle.std.proofs.Common.{◌≡◌, ◌∙◌, ◌++◌, ◌∷◌, [], ap, sym, subst, None, to_z-of_z}
use Rattle.std.specs.Cmp.{int_cmp_total}
use Rattle.std.specs.Ordering.{int_cmp}
use Rattle.std.specs.FinMap.{find, get-from_entries, from_entries, from_entries_push, int_cmp-IsAntisymmetric}
use Rattle.sqlx_pool_places.specs.Numbered.{items_at}
use Rattle.sqlx_pool_places.proofs.Places.{items-push}
use Rattle.mem_store.specs.OwnWrites.{number_of, StandOnce}
use Rattle.mem_store.proofs.OnceEach.{once-pushed}
use Rattle.mem_store.proofs.writes.Writes.push.Goals as goal

-- the key isn't among the writes
none : (c : goal.After-push_reserved) → find int_cmp c.args.key (items_at c.self.inside.places.items) ≡ None
none c = sym (get-from_entries int_cmp_total (items_at c.self.inside.places.items) c.args.key) ∙ rw (← c.self.view_is) at c.requires

added : (c : goal.After-push_reserved) → items_at c.push_reserved.new.self.items ≡ items_at c.self.inside.places.items ++ (c.args.key, c.args.value) ∷ []
added c =
    ap items_at (rw (to_z-of_z c.ranges.key) at c.push_reserved.ensures.items)
    ∙ items-push c.make_room.new.places.items (c.args.key, c.args.value)
    ∙ ap (λ l. l ++ (c.args.key, c.args.value) ∷ []) c.make_room.ensures.items

pub invariant_of-self-2 : goal.invariant_of-self-2
invariant_of-self-2 c =
    let tells = rw c.deref.ensures.value at c.note_last.ensures in
    let number : number_of (c.args.key, c.args.value) ≡ c.cast_unsigned.result = sym (rw (to_z-of_z c.ranges.key) at c.cast_unsigned.ensures) in (
      rw (rw (to_z-of_z c.ranges.key) at c.push_reserved.ensures.items) (tells (c.args.key, c.args.value) number),
      subst StandOnce (sym (added c)) (once-pushed (items_at c.self.inside.places.items) c.args.key c.args.value c.ranges.key c.self.invariant.1 (none c)),
    )

pub returns-clause-ok : goal.returns-clause-ok
returns-clause-ok c =
    rw (← c.self.view_is) (ap from_entries (added c) ∙ from_entries_push int_cmp_total int_cmp-IsAntisymmetric (items_at c.self.inside.places.items) c.args.key c.args.value (none c))
