use Rattle.std.proofs.Common.{◌≡◌, ◌∙◌, Option, None, Some, false, is_some, nat_eq, refl, sym}
use Rattle.std.specs.HashMap.{get}
use Rattle.std.proofs.lemmas.Bool.{both_ways}
use Rattle.sqlx_pool_places.proofs.Places.{noted-push}
use Rattle.sqlx_pool_places.proofs.notes.Notes.note_last.Goals.{then-is_none, else-is_none}
use Rattle.sqlx_pool_places.proofs.notes.Notes.note_last.Goals as goal

none : {A : Type 0} (o : Option A) → is_some o ≡ false → o ≡ None
none None e = refl
none (Some x) e = absurd cc

pub returns-after-is_none : goal.returns-after-is_none
returns-after-is_none g c = elim c.if-is_none.branch [
  | then-is_none w ↦ λ x own all i y at.
      let free = rw (none c.find.result (w.if-is_none.ensures {u = tt})) at c.find.ensures.none in
      rw w.self-is (noted-push g.N.Numbering.number c.args.places.now (get nat_eq c.args.self.now.noted) (get nat_eq w.note-self.new.noted) x c.args.number (c.requires c.if-self.true) (w.note-self.ensures (sym w.self2-is ∙ all)) free own i y at)
  | else-is_none w ↦ λ x own all. absurd (both_ways _ w.if-is_none.false (sym w.self2-is ∙ all))
]
