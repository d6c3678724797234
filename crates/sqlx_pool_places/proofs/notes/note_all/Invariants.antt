use Rattle.std.proofs.Common.{◌≡◌, ℕ, ◌<◌, nat_eq, Some, slice_get}
use Rattle.std.specs.HashMap.{get}
use Rattle.sqlx_pool_places.proofs.notes.note_all.Given as goal

-- each place so far is noted
abbrev pub invariant-loop-place : goal.invariant-loop-place
invariant-loop-place g l = (j : ℕ) → j < l.place → (x : _) → slice_get l.places j ≡ Some (Some x) → get nat_eq l.noted (g.N.Numbering.number x) ≡ Some j
