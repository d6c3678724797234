use Rattle.std.proofs.lemmas.Map.Keys.{IsStrictlyIncreasing-from_sorted}
use Rattle.sqlx_pool_places.proofs.line.Line.waiting.Goals as goal

pub returns-clause-rising : goal.returns-clause-rising
returns-clause-rising c = rw (← c.self.view_is) (IsStrictlyIncreasing-from_sorted _ c.self.invariant.sound.rising)
