use Rattle.std.proofs.Common.{◌+◌, ◌≤◌, [], length}
use Rattle.sqlx_lines.specs.Scripts.{limit}
use Rattle.sqlx_player.proofs.scripts.Handed.{HandedLines}
use Rattle.sqlx_player.proofs.player.play_lines.Given as goal

-- the lines before the rest were played
abbrev pub invariant-loop-rest : goal.invariant-loop-rest
invariant-loop-rest g l = record {
  played : (first : _) → g.A.Responder.stands l.initial.responder first [] → HandedLines g.A.Responder.language (g.A.Responder.stands l.responder) l.text l.rest l.number (g.K.Sink.written l.initial.sink) (g.K.Sink.written l.sink) (g.K.Sink.pieces l.initial.sink) (g.K.Sink.pieces l.sink) first;
  counted : l.number + length l.rest ≤ limit + 2;
  rises : g.K.Sink.faults l.initial.sink ≤ g.K.Sink.faults l.sink;
}

abbrev pub decreases-loop-rest : goal.decreases-loop-rest
decreases-loop-rest g l = length l.rest
