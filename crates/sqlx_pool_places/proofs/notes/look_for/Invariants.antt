use Rattle.sqlx_pool_places.specs.Numbered.{HasNone}
use Rattle.sqlx_pool_places.proofs.notes.look_for.Given as goal

-- no place so far has it
abbrev pub invariant-loop-place : goal.invariant-loop-place
invariant-loop-place g l = HasNone g.N.Numbering.number l.number l.places l.place
