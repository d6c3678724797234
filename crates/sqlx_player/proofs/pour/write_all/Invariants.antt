use Rattle.std.proofs.Common.{◌≤◌, length}
use Rattle.sqlx_player.proofs.Pieces.{HandedSoFar}
use Rattle.sqlx_player.proofs.scripts.Parts.{Wrote}
use Rattle.sqlx_player.proofs.pour.write_all.Given as goal

-- what stands before the rest was written
abbrev pub invariant-loop-rest : goal.invariant-loop-rest
invariant-loop-rest g l = record {
  wrote : Wrote (g.K.Sink.written l.initial.sink) (g.K.Sink.written l.sink) l.text l.rest;
  handed : HandedSoFar (g.K.Sink.pieces l.initial.sink) (g.K.Sink.pieces l.sink) l.text l.rest;
  rises : g.K.Sink.faults l.initial.sink ≤ g.K.Sink.faults l.sink;
}

abbrev pub decreases-loop-rest : goal.decreases-loop-rest
decreases-loop-rest g l = length l.rest
