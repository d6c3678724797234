-- What the steps of a family do, by the step, and what is told of its states. Pools go by their names.
use Rattle.std.proofs.Common.{◌≡◌, ◌⊎◌, ◌^◌, ◌-◌, ◌≤◌, ℕ, Bool, true, false, max, List, [], ◌∷◌, ◌++◌, Some, None, Ok, Err, length, get_or, inl, inr, refl, sym, ap, subst, ◌∙◌, le_of_eq, le-add_right, length-append, length-set, append-nil, if◌then◌else◌}
use Rattle.std.specs.Prelude.{slice_set}
use Rattle.std.proofs.lemmas.Bool.Decides.{eqb_tells, leb_tells}
use Rattle.std.proofs.lemmas.List.{get_or-set_same, get_or-set_other, get_or_append_left, get_or_past}
use Rattle.sqlx_pool_marks.specs.declared.mark.Mark.{Mark}
use Rattle.sqlx_pool_lists.specs.Core.{size}
use Rattle.sqlx_pool_core.specs.Logs.{moment_of}
use Rattle.sqlx_pool_parts.specs.LogStart.{is_long}
use Rattle.sqlx_pool_parts.specs.declared.mark_log.MarkLog.{MarkLog}
use Rattle.sqlx_pool.specs.Calls.{Look, Step}
use Rattle.sqlx_pool.specs.Calls as call
use Rattle.sqlx_family.specs.Pools.{counts_as_closed, pool_in}
use Rattle.sqlx_family.specs.Permits.{owned_by}
use Rattle.sqlx_family_steps.specs.FamilyCut.{cut_in}
use Rattle.sqlx_family_steps.specs.FamilySteps.{closing_in}
use Rattle.sqlx_family_pool.specs.FamilyState.{FamilyState, IsNamed, IsUnnamed, IsWithinLimitIn, cut_at, log_of, since_start_in, start_at, with_made}
use Rattle.sqlx_family_pool.specs.Steps.{Adds, Asks, Cancels, Closes, ClosesLoan, CutsIf, Detaches, EndsTest, EndsTry, Fills, Gives, GoesOn, GoesOnIn, HoldsPlace, Keeps, Leaks, LendsPast, Limits, Reaps, RefusesAsk, Retires, Starts}
use Rattle.sqlx_family_pool.specs.Upkeep.{AreLoansUsed, AreTicketsUsed, IsFilledIn, IsReadOf, back_test_in, to_reap_in}

module _ {C O : Type 0} where
  -- what a step of a pool of a family does; nothing is lent at once to an ask, or to a poll that begins
  abbrev pub DoesFamily : Step C ℕ → FamilyState C O → FamilyState C O → Type 0
  DoesFamily (call.Ask q now client (Ok ticket)) before after = Asks q now client ticket before after
  DoesFamily (call.Ask q now client (Err e)) before after = RefusesAsk q before after
  DoesFamily (call.ServeNew q now client None) before after = after ≡ before
  DoesFamily (call.ServeNew q now client (Some lent)) before after = ⊥
  DoesFamily (call.LendPast q now client (Ok lent)) before after = LendsPast q client now lent before after
  DoesFamily (call.LendPast q now client (Err e)) before after = after ≡ before
  DoesFamily (call.Begin q client ticket now m start) before after = (m.0 ≡ moment_of (pool_in q before.family) now) × Starts q client ticket now start before after
  DoesFamily (call.ServePolled q client ticket now None) before after = after ≡ before
  DoesFamily (call.ServePolled q client ticket now (Some lent)) before after = ⊥
  DoesFamily (call.EndTest q client ticket verdict answered) before after = EndsTest q client ticket verdict answered before after
  DoesFamily (call.EndTry q client ticket now tried answered) before after = EndsTry q client ticket now tried answered before after
  DoesFamily (call.Cancel q client ticket ended) before after = Cancels q client ticket ended before after
  DoesFamily (call.Give q client lent now accepted answered) before after = Gives q client lent now accepted answered before after
  DoesFamily (call.CloseLoan q client id ended) before after = ClosesLoan q client id ended before after
  DoesFamily (call.Detach q client id ended) before after = Detaches q client id ended before after
  DoesFamily (call.Leak q client id ended) before after = Leaks q client id ended before after
  DoesFamily (call.Reap q now idle) before after = Reaps q now idle before after
  DoesFamily (call.FirstPlace q (Ok place)) before after = HoldsPlace q (max (pool_in q before.family).options.min_connections 1) place before after
  DoesFamily (call.FirstPlace q (Err e)) before after = after ≡ before
  DoesFamily (call.MinimumPlace q (Ok place)) before after = HoldsPlace q (pool_in q before.family).options.min_connections place before after
  DoesFamily (call.MinimumPlace q (Err e)) before after = after ≡ before
  DoesFamily (call.MinimumDone q now raw back) before after = Fills q now raw back before after
  DoesFamily (call.Close q idle) before after = Closes q idle before after
  DoesFamily (call.Cut q) before after = CutsIf q true before after
  DoesFamily (call.CutIfLong q) before after = CutsIf q (is_long (start_at before q) (length (log_of before q))) before after × IsWithinLimitIn after q
  DoesFamily (call.Limit q limit) before after = Limits q limit before after
  DoesFamily call.SetConnect before after = Keeps before after
  DoesFamily call.Audit before after = Keeps before after
  DoesFamily (call.AddChild options (Ok name)) before after = Adds options name before after
  DoesFamily (call.AddChild options (Err e)) before after = after ≡ before
  DoesFamily (call.Retire q idle) before after = Retires q idle before after

  -- what is told of a state, which keeps the connect options in a value of its own
  abbrev pub TellsFamily : {P : Type 0} → (O → P) → Look ℕ (ℕ × MarkLog) P → FamilyState C O → Type 0
  TellsFamily own (call.Size q count) state = count ≡ size (pool_in q state.family)
  TellsFamily own (call.NumIdle q count) state = count ≡ length (pool_in q state.family).idle
  TellsFamily own (call.IsClosed q closed) state = counts_as_closed q state.family ≡ closed
  TellsFamily own (call.Closing q closing) state = closing ≡ closing_in q state.family
  TellsFamily own (call.LogLen q count) state = count ≡ length (since_start_in state q)
  TellsFamily own (call.LogIs q read) state = IsReadOf q read.0 read.1 state
  TellsFamily own call.TicketsUsed state = AreTicketsUsed state
  TellsFamily own call.LoansUsed state = AreLoansUsed state
  TellsFamily own (call.TestsAt q created now at) state = IsNamed q state → at ≡ back_test_in q created now state
  TellsFamily own (call.NothingToReap q now) state = IsNamed q state → to_reap_in q now state ≡ None
  TellsFamily own (call.IsFilled q) state = IsNamed q state → IsFilledIn q state
  TellsFamily own (call.Owns q count) state = count ≡ owned_by q state.family
  TellsFamily own call.IsFull state = length state.family.pools ≡ 2 ^ 32 - 1
  TellsFamily own (call.Connects options) state = own state.connect ≡ options

module _ {C O : Type 0} (before after : FamilyState C O) where
  -- the logs are as they were
  same_logs : after.logs ≡ before.logs → GoesOn before after
  same_logs is = (le_of_eq (sym (ap length is)), λ p. inl ([], ap (λ (l : List (List Mark)). get_or l p []) is ∙ sym (append-nil (log_of before p))))

  -- all is as it was
  same : after ≡ before → GoesOn before after
  same is = same_logs (ap (λ s. s.logs) is)

  -- one pool has another log, which goes on from its own or is that one cut
  module _ (q : ℕ) (now : List Mark) (goes : ((more : List Mark) × (now ≡ log_of before q ++ more)) ⊎ (now ≡ cut_in before.family.shared (log_of before q))) (is : after.logs ≡ slice_set before.logs q now) where
    same_long : length after.logs ≡ length before.logs
    same_long = ap length is ∙ length-set before.logs q now

    moved : log_of after q ≡ now → ((more : List Mark) × (now ≡ log_of before q ++ more)) ⊎ (now ≡ cut_in before.family.shared (log_of before q)) → GoesOnIn q before after
    moved here (inl on) = inl (on.0, here ∙ on.1)
    moved here (inr cut) = inr (here ∙ cut)

    own : GoesOnIn q before after
    own = elim (leb_tells (length before.logs) q) [
      | inl past ↦ inl ([], get_or_past after.logs q [] (subst (λ (n : ℕ). n ≤ q) (sym same_long) past.1) ∙ sym (get_or_past before.logs q [] past.1) ∙ sym (append-nil (log_of before q)))
      | inr lt ↦ moved (ap (λ (l : List (List Mark)). get_or l q []) is ∙ get_or-set_same before.logs q now [] lt.1) goes
    ]

    set_logs : GoesOn before after
    set_logs = (
      le_of_eq (sym same_long),
      λ p. elim (eqb_tells p q) [
        | inl here ↦ subst (λ (n : ℕ). GoesOnIn n before after) (sym here.1) own
        | inr other ↦ inl ([], ap (λ (l : List (List Mark)). get_or l p []) is ∙ get_or-set_other before.logs q p now [] other.1 ∙ sym (append-nil (log_of before p)))
      ],
    )

  -- marks came behind the log of one pool
  made_logs : (q : ℕ) (more : List Mark) → after.logs ≡ with_made q more before.logs → GoesOn before after
  made_logs q more is = set_logs q (log_of before q ++ more) (inl (more, refl)) is

  -- the log of one pool was cut
  cut_logs : (q : ℕ) → after ≡ cut_at q before → GoesOn before after
  cut_logs q is = set_logs q (cut_in before.family.shared (log_of before q)) (inr refl) (ap (λ s. s.logs) is)

  -- so one that was cut, or wasn't
  cut_if : (q : ℕ) (cut : Bool) → after ≡ (if cut then cut_at q before else before) → GoesOn before after
  cut_if q true is = cut_logs q is
  cut_if q false is = same is

  -- a pool was added
  added_logs : after.logs ≡ before.logs ++ [] ∷ [] → GoesOn before after
  added_logs is = (
    subst (λ (n : ℕ). length before.logs ≤ n) (sym (ap length is ∙ length-append before.logs ([] ∷ []))) (le-add_right (length before.logs) 1),
    λ p. elim (leb_tells (length before.logs) p) [
      | inl past ↦ inl (log_of after p, sym (ap (λ (l : List Mark). l ++ log_of after p) (get_or_past before.logs p [] past.1)))
      | inr lt ↦ inl ([], ap (λ (l : List (List Mark)). get_or l p []) is ∙ get_or_append_left before.logs ([] ∷ []) [] p lt.1 ∙ sym (append-nil (log_of before p)))
    ],
  )

  -- where a pool has its name the logs go on, and else nothing changed
  named_or : (q : ℕ) → (IsNamed q before → GoesOn before after) → (IsUnnamed q before → after ≡ before) → GoesOn before after
  named_or q named unnamed = elim (leb_tells (length before.family.pools) q) [
    | inl past ↦ same (unnamed past.1)
    | inr lt ↦ named lt.1
  ]

  -- so where marks came behind the log of a pool
  made_named : (q : ℕ) (more : List Mark) → (IsNamed q before → after.logs ≡ with_made q more before.logs) → (IsUnnamed q before → after ≡ before) → GoesOn before after
  made_named q more named unnamed = named_or q (λ lt. made_logs q more (named lt)) unnamed

-- behind each step each pool's log went on, or was cut
pub goes-on : {C O : Type 0} (s : Step C ℕ) (before after : FamilyState C O) → DoesFamily s before after → GoesOn before after
goes-on (call.Ask q now client (Ok ticket)) before after d = made_logs before after q _ d.marks
goes-on (call.Ask q now client (Err e)) before after d = same_logs before after d.logs
goes-on (call.ServeNew q now client None) before after d = same before after d
goes-on (call.ServeNew q now client (Some lent)) before after d = absurd d
goes-on (call.LendPast q now client (Ok lent)) before after d = made_logs before after q _ d.marks
goes-on (call.LendPast q now client (Err e)) before after d = same before after d
goes-on (call.Begin q client ticket now m start) before after d = made_named before after q _ d.1.marks (λ past. (d.1.unnamed past).1)
goes-on (call.ServePolled q client ticket now None) before after d = same before after d
goes-on (call.ServePolled q client ticket now (Some lent)) before after d = absurd d
goes-on (call.EndTest q client ticket verdict answered) before after d = made_named before after q _ d.marks (λ past. (d.unnamed past).1)
goes-on (call.EndTry q client ticket now tried answered) before after d = made_named before after q _ d.marks (λ past. (d.unnamed past).1)
goes-on (call.Cancel q client ticket ended) before after d = made_named before after q _ d.marks (λ past. (d.unnamed past).1)
goes-on (call.Give q client lent now accepted answered) before after d = made_named before after q _ d.marks (λ past. (d.unnamed past).1)
goes-on (call.CloseLoan q client id ended) before after d = made_named before after q _ d.marks (λ past. (d.unnamed past).1)
goes-on (call.Detach q client id ended) before after d = made_named before after q _ d.marks (λ past. (d.unnamed past).1)
goes-on (call.Leak q client id ended) before after d = made_named before after q _ d.marks (λ past. (d.unnamed past).1)
goes-on (call.Reap q now idle) before after d = made_named before after q _ d.marks (λ past. (d.unnamed past).1)
goes-on (call.FirstPlace q (Ok place)) before after d = same_logs before after d.logs
goes-on (call.FirstPlace q (Err e)) before after d = same before after d
goes-on (call.MinimumPlace q (Ok place)) before after d = same_logs before after d.logs
goes-on (call.MinimumPlace q (Err e)) before after d = same before after d
goes-on (call.MinimumDone q now raw back) before after d = made_named before after q _ d.marks (λ past. (d.unnamed past).1)
goes-on (call.Close q idle) before after d = made_named before after q _ d.marks (λ past. (d.unnamed past).1)
goes-on (call.Cut q) before after d = named_or before after q (λ lt. cut_logs before after q (d.becomes lt)) d.unnamed
goes-on (call.CutIfLong q) before after d = named_or before after q (λ lt. cut_if before after q (is_long (start_at before q) (length (log_of before q))) (d.0.becomes lt)) d.0.unnamed
goes-on (call.Limit q limit) before after d = named_or before after q (λ lt. same_logs before after (ap (λ s. s.logs) (d.becomes lt))) d.unnamed
goes-on call.SetConnect before after d = same_logs before after d.logs
goes-on call.Audit before after d = same_logs before after d.logs
goes-on (call.AddChild options (Ok name)) before after d = added_logs before after d.logs
goes-on (call.AddChild options (Err e)) before after d = same before after d
goes-on (call.Retire q idle) before after d = made_named before after q _ d.marks (λ past. (d.unnamed past).1)
