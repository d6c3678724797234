-- What the steps of a lone pool do, by the step, and what is told of its states.
use Rattle.std.proofs.Common.{◌≡◌, ℕ, Bool, true, false, not, max, [], None, Ok, Err, length, inl, inr, sym, ap, ◌∙◌, if◌then◌else◌}
use Rattle.std.proofs.lemmas.List.{append-nil}
use Rattle.std.specs.Bool.{⊤}
use Rattle.sqlx_pool_marks.specs.Cut.{cut_of}
use Rattle.sqlx_pool_marks.specs.EventTable.{size_at}
use Rattle.sqlx_pool_marks.specs.Marks.{is_open, idle_of}
use Rattle.sqlx_pool_lists.specs.MaintenanceSteps.{close_state_of}
use Rattle.sqlx_pool_core.specs.Logs.{moment_of}
use Rattle.sqlx_pool_parts.specs.LogStart.{is_long}
use Rattle.sqlx_pool_parts.specs.MarkLog.{IsCopyOf}
use Rattle.sqlx_pool_parts.specs.State.{PoolState, since_start}
use Rattle.sqlx_pool_parts.specs.declared.mark_log.MarkLog.{MarkLog}
use Rattle.sqlx_pool.specs.Calls.{Look, Step}
use Rattle.sqlx_pool.specs.Calls as call
use Rattle.sqlx_pool.specs.Refusals.{AreLoansUsed, AreTicketsUsed}
use Rattle.sqlx_pool.specs.Steps.{Asks, Cancels, Closes, ClosesLoan, CutsIf, Detaches, EndsTest, EndsTry, Fills, Gives, GoesOn, HoldsPlace, Keeps, Leaks, LendsPast, Reaps, ServesNew, ServesPolled, Starts}
use Rattle.sqlx_pool.specs.Upkeep.{IsFilled, back_test, to_reap}

module _ {C O : Type 0} where
  -- what a step of a pool of this maximum does; a lone pool has no children
  abbrev pub DoesLone : ℕ → Step C (⊤) → PoolState C O → PoolState C O → Type 0
  DoesLone most (call.Ask n now client (Ok ticket)) before after = Asks now client ticket before after
  DoesLone most (call.Ask n now client (Err e)) before after = after ≡ before
  DoesLone most (call.ServeNew n now client lent) before after = ServesNew now client lent before after
  DoesLone most (call.LendPast n now client (Ok lent)) before after = LendsPast most client now lent before after
  DoesLone most (call.LendPast n now client (Err e)) before after = after ≡ before
  DoesLone most (call.Begin n client ticket now m start) before after = (m.0 ≡ moment_of before.core now) × Starts most client ticket now start before after
  DoesLone most (call.ServePolled n client ticket now lent) before after = ServesPolled client ticket now lent before after
  DoesLone most (call.EndTest n client ticket verdict answer) before after = EndsTest client ticket verdict answer before after
  DoesLone most (call.EndTry n client ticket now tried answer) before after = EndsTry client ticket now tried answer before after
  DoesLone most (call.Cancel n client ticket ended) before after = Cancels client ticket ended before after
  DoesLone most (call.Give n client lent now accepted given) before after = Gives client lent now accepted given before after
  DoesLone most (call.CloseLoan n client id ended) before after = ClosesLoan client id ended before after
  DoesLone most (call.Detach n client id ended) before after = Detaches client id ended before after
  DoesLone most (call.Leak n client id ended) before after = Leaks client id ended before after
  DoesLone most (call.Reap n now idle) before after = Reaps now idle before after
  DoesLone most (call.FirstPlace n (Ok place)) before after = HoldsPlace (max before.core.options.min_connections 1) place before after
  DoesLone most (call.FirstPlace n (Err e)) before after = after ≡ before
  DoesLone most (call.MinimumPlace n (Ok place)) before after = HoldsPlace before.core.options.min_connections place before after
  DoesLone most (call.MinimumPlace n (Err e)) before after = after ≡ before
  DoesLone most (call.MinimumDone n now raw back) before after = Fills now raw back before after
  DoesLone most (call.Close n idle) before after = Closes idle before after
  DoesLone most (call.Cut n) before after = CutsIf true before after
  DoesLone most (call.CutIfLong n) before after = CutsIf (is_long before.start (length before.marks)) before after
  DoesLone most (call.Limit n limit) before after = after ≡ record before { start = record before.start { limit = limit } }
  DoesLone most call.SetConnect before after = Keeps before after
  DoesLone most call.Audit before after = Keeps before after
  DoesLone most (call.AddChild options named) before after = ⊥
  DoesLone most (call.Retire n idle) before after = ⊥

  -- what is told of a state, which keeps the connect options in a value of its own
  abbrev pub TellsLone : {P : Type 0} → (O → P) → Look (⊤) MarkLog P → PoolState C O → Type 0
  TellsLone own (call.Size n count) state = count ≡ size_at state.core.places state.marks
  TellsLone own (call.NumIdle n count) state = count ≡ length (idle_of state.marks)
  TellsLone own (call.IsClosed n closed) state = is_open state.marks ≡ not closed
  TellsLone own (call.Closing n closing) state = closing ≡ close_state_of state.marks
  TellsLone own (call.LogLen n count) state = count ≡ length (since_start state)
  TellsLone own (call.LogIs n log) state = IsCopyOf state log
  TellsLone own call.TicketsUsed state = AreTicketsUsed state
  TellsLone own call.LoansUsed state = AreLoansUsed state
  TellsLone own (call.TestsAt n created now at) state = at ≡ back_test created now state
  TellsLone own (call.NothingToReap n now) state = to_reap now state ≡ None
  TellsLone own (call.IsFilled n) state = IsFilled state
  TellsLone own (call.Owns n count) state = ⊥
  TellsLone own call.IsFull state = ⊥
  TellsLone own (call.Connects options) state = own state.connect ≡ options

  -- a log without new marks goes on
  on-same : (before after : PoolState C O) → after.marks ≡ before.marks → GoesOn before after
  on-same before after is = inl ([], is ∙ sym (append-nil before.marks))

  on-equal : (before after : PoolState C O) → after ≡ before → GoesOn before after
  on-equal before after is = on-same before after (ap (λ s. s.marks) is)

  -- so one that was cut, or wasn't
  on-cut : (cut : Bool) (before after : PoolState C O) → after.marks ≡ (if cut then cut_of before.marks else before.marks) → GoesOn before after
  on-cut true before after is = inr is
  on-cut false before after is = on-same before after is

  -- behind each step the log went on, or was cut
  pub goes-on : (most : ℕ) (s : Step C (⊤)) (before after : PoolState C O) → DoesLone most s before after → GoesOn before after
  goes-on most (call.Ask n now client (Ok ticket)) before after d = inl (_, d.marks)
  goes-on most (call.Ask n now client (Err e)) before after d = on-equal before after d
  goes-on most (call.ServeNew n now client lent) before after d = inl (_, d.marks)
  goes-on most (call.LendPast n now client (Ok lent)) before after d = inl (_, d.marks)
  goes-on most (call.LendPast n now client (Err e)) before after d = on-equal before after d
  goes-on most (call.Begin n client ticket now m start) before after d = inl (_, d.1.marks)
  goes-on most (call.ServePolled n client ticket now lent) before after d = inl (_, d.marks)
  goes-on most (call.EndTest n client ticket verdict answer) before after d = inl (_, d.marks)
  goes-on most (call.EndTry n client ticket now tried answer) before after d = inl (_, d.marks)
  goes-on most (call.Cancel n client ticket ended) before after d = inl (_, d.marks)
  goes-on most (call.Give n client lent now accepted given) before after d = inl (_, d.marks)
  goes-on most (call.CloseLoan n client id ended) before after d = inl (_, d.marks)
  goes-on most (call.Detach n client id ended) before after d = inl (_, d.marks)
  goes-on most (call.Leak n client id ended) before after d = inl (_, d.marks)
  goes-on most (call.Reap n now idle) before after d = inl (_, d.marks)
  goes-on most (call.FirstPlace n (Ok place)) before after d = on-same before after d.marks
  goes-on most (call.FirstPlace n (Err e)) before after d = on-equal before after d
  goes-on most (call.MinimumPlace n (Ok place)) before after d = on-same before after d.marks
  goes-on most (call.MinimumPlace n (Err e)) before after d = on-equal before after d
  goes-on most (call.MinimumDone n now raw back) before after d = inl (_, d.marks)
  goes-on most (call.Close n idle) before after d = inl (_, d.marks)
  goes-on most (call.Cut n) before after d = inr d.marks
  goes-on most (call.CutIfLong n) before after d = on-cut (is_long before.start (length before.marks)) before after d.marks
  goes-on most (call.Limit n limit) before after d = on-same before after (ap (λ s. s.marks) d)
  goes-on most call.SetConnect before after d = on-same before after d.marks
  goes-on most call.Audit before after d = on-same before after d.marks
  goes-on most (call.AddChild options named) before after d = absurd d
  goes-on most (call.Retire n idle) before after d = absurd d
