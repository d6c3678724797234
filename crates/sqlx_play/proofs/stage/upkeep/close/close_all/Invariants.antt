use Rattle.std.proofs.Common.{◌≡◌}
use Rattle.std.specs.VecDeque.{deque_len}
use Rattle.sqlx_play.specs.events.Closes.{closed_all}
use Rattle.sqlx_play.proofs.stage.upkeep.close.close_all.Given as goal

-- the others are closed behind those that were
abbrev pub invariant-loop-first : goal.invariant-loop-first
invariant-loop-first l = record {
  closed : closed_all l.idle.items l.store ≡ closed_all l.initial.idle.items l.initial.store;
  runs : l.store.runs ≡ l.initial.store.runs;
}

abbrev pub decreases-loop-first : goal.decreases-loop-first
decreases-loop-first l = deque_len l.idle
