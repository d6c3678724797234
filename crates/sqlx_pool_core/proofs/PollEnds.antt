-- What a whole poll answers, by the calls that it made.
use Rattle.std.proofs.Common.{◌≡◌, ℕ, ◌≤◌, ◌<◌, inl, inr, Bool, true, false, Option, Some, None, List, [], ◌∷◌, ◌++◌, ◌+◌, drop, All, refl, sym, ap, subst, ◌∙◌, arith}
use Rattle.std.proofs.lemmas.Bool.{ltb-true}
use Rattle.std.proofs.lemmas.List.{append_assoc}
use Rattle.std.proofs.lemmas.List.Elements.{All-head, All-tail, All-weaker}
use Rattle.sqlx_text.specs.declared.Moment.{Moment}
use Rattle.sqlx_text.specs.declared.error.Error.{Error}
use Rattle.sqlx_pool_marks.specs.declared.mark.Mark.{Mark}
use Rattle.sqlx_pool_core.specs.declared.idle_check.Opening.{Opening}
use Rattle.sqlx_pool_core.specs.declared.idle_check.Opening.TheVariants as opening
use Rattle.sqlx_pool_lists.specs.declared.steps.Idle.{Idle}
use Rattle.sqlx_pool_lists.specs.declared.steps.Start.{Start}
use Rattle.sqlx_pool_lists.specs.declared.steps.Start.TheVariants as start
use Rattle.sqlx_pool_lists.specs.declared.steps.Verdict.{Verdict}
use Rattle.sqlx_pool_lists.specs.declared.steps.Verdict.TheVariants as verdict
use Rattle.sqlx_pool_lists.specs.declared.steps.Polled.{Polled}
use Rattle.sqlx_pool_lists.specs.declared.steps.Polled.TheVariants as polled
use Rattle.sqlx_pool_lists.specs.declared.steps.AfterTest.{AfterTest}
use Rattle.sqlx_pool_lists.specs.declared.steps.AfterTest.TheVariants as tested
use Rattle.sqlx_pool_lists.specs.declared.ticket.Ticket.{Ticket}
use Rattle.sqlx_pool_marks.specs.declared.turn.Turn.{Turn}
use Rattle.sqlx_pool_marks.specs.declared.turn.Turn.TheVariants as turned
use Rattle.sqlx_pool_lists.specs.declared.ticket.Phase.{Phase}
use Rattle.sqlx_pool_lists.specs.declared.ticket.Phase.TheVariants as phase
use Rattle.sqlx_pool_core.specs.Calls.{Call, Facts, ping, close, close_hard}
use Rattle.sqlx_pool_lists.specs.Core.{Core}
use Rattle.sqlx_pool_lists.specs.CoreTurn.{core_turn}
use Rattle.sqlx_pool_core.specs.CameTo.{IfAccepted, IfOpened, IfFailed, IsForGood}
use Rattle.sqlx_pool_core.specs.PollParts.{BacksOff, IfBackoff, IfReady, IfRefused, first_depth}
use Rattle.sqlx_pool_lists.specs.PollSteps.{phase_for, start_answer, started, tested_at, may_test_next, test_answer, after_test}
use Rattle.sqlx_pool_core.specs.Walk.{Next, Test, Connect, Answer, IfAnswer, first, then_by, last, judges, tells, Connects, Goes, Polls}
use Rattle.sqlx_pool_core.proofs.CheckKeeps.{quiet-keeps, tests-more}
use Rattle.sqlx_pool_core.proofs.CheckEnds.{tests-rest, tries-rest, tries-cause, sooner, Counted, IfUnopened, counted-before, unopened}
use Rattle.sqlx_pool_core.proofs.WholePoll.{takes, taken-phase}
use Rattle.sqlx_pool_core.proofs.Polling.{tested-found, next-found}

-- ---- what a poll answers

-- it isn't a connect that was refused
abbrev pub IsPlain : {C : Type 0} → Polled C → Type 0
IsPlain (polled.Refused error) = ⊥
IsPlain other = Unit {0}

unrefused : {C : Type 0} (a : Polled C) (P : Error → Type 0) → IsPlain a → IfRefused a P
unrefused (polled.Refused e) P h = absurd h
unrefused polled.NotHeld P h = tt
unrefused polled.Closed P h = tt
unrefused polled.TimedOut P h = tt
unrefused polled.Exhausted P h = tt
unrefused polled.Waiting P h = tt
unrefused (polled.Backoff until) P h = tt
unrefused (polled.Ready lent) P h = tt

first-plain : {C : Type 0} (s : Start C) → IfAnswer (first s) IsPlain
first-plain start.NotHeld = tt
first-plain start.Closed = tt
first-plain start.TimedOut = tt
first-plain start.Exhausted = tt
first-plain start.Waiting = tt
first-plain (start.Backoff until) = tt
first-plain (start.Test i) = tt
first-plain start.Connect = tt

then-plain : {C : Type 0} (a : AfterTest C) → IfAnswer (then_by a) IsPlain
then-plain (tested.NotHeld verdict) = tt
then-plain (tested.Closed raw) = tt
then-plain (tested.Ready lent) = tt
then-plain (tested.Test i) = tt
then-plain tested.Connect = tt

sooner-refused : {C : Type 0} (a b c : ℕ) (r : Polled C) → a ≤ b → IfRefused r (λ e. IsForGood b c e) → IfRefused r (λ e. IsForGood a c e)
sooner-refused a b c (polled.Refused e) h why = (sooner e a b c h why.0, why.1)
sooner-refused a b c polled.NotHeld h why = tt
sooner-refused a b c polled.Closed h why = tt
sooner-refused a b c polled.TimedOut h why = tt
sooner-refused a b c polled.Exhausted h why = tt
sooner-refused a b c polled.Waiting h why = tt
sooner-refused a b c (polled.Backoff until) h why = tt
sooner-refused a b c (polled.Ready lent) h why = tt

-- after a test no ticket backs off
then-still : {C : Type 0} (a : AfterTest C) → IfAnswer (then_by a) (λ p. IfBackoff p (λ until. ⊥))
then-still (tested.NotHeld verdict) = tt
then-still (tested.Closed raw) = tt
then-still (tested.Ready lent) = tt
then-still (tested.Test i) = tt
then-still tested.Connect = tt

-- a poll backs off at once by its turn
backoff-turn : {C : Type 0} (u : Turn) (idle : List (Idle C)) (until : ℕ) → start.Backoff until ≡ start_answer u idle → u ≡ turned.Backoff until
backoff-turn turned.NotHeld idle until e = absurd cc
backoff-turn turned.Closed idle until e = absurd cc
backoff-turn turned.TimedOut idle until e = absurd cc
backoff-turn turned.Exhausted idle until e = absurd cc
backoff-turn turned.Waiting idle until e = absurd cc
backoff-turn (turned.Backoff n) idle until e = cc
backoff-turn turned.Test [] until e = absurd cc
backoff-turn turned.Test (i ∷ rest) until e = absurd cc
backoff-turn turned.Connect idle until e = absurd cc

-- where one more is tested, more than one may be in a poll
may-next : (c : ℕ) (created : Moment) (tries : ℕ) (p : Option Phase) → tested_at c p ≡ Some created → may_test_next tries p ≡ true → 1 < tries
may-next c created tries (Some (phase.Testing d since before)) e may = let h = ltb-true (before + 1) tries may in omega (arith, h)
may-next c created tries (Some phase.Waiting) e may = absurd cc
may-next c created tries (Some phase.Connecting) e may = absurd cc
may-next c created tries (Some (phase.Backoff until)) e may = absurd cc
may-next c created tries None e may = absurd cc

module _ {C O X : Type 0} (does : Call C O → X → X → Type 0) (depth : X → C → ℕ) (faults refusals : X → ℕ) (IsShort : X → Type 0) (facts : (c : Call C O) (old new : X) → does c old new → Facts faults refusals depth IsShort c old new)
    (options : O) (k t m : ℕ) where
  ends-cause : (core : Core C) (o : Opening C) (x : Ticket) (P : Error → Type 0) → IfFailed o P → IfRefused (last (tells m x core o) o) P
  ends-cause core (opening.Opened raw) x P h = tt
  ends-cause core opening.Rejected x P h = tt
  ends-cause core opening.Transient x P h = tt
  ends-cause core (opening.Failed e) x P h = h

  connects-cause : (core new : Core C) (old now : X) (r : Polled C) (made : List Mark) → Connects does depth options k t m core new old now r made → IfRefused r (λ e. IsForGood (faults old) (faults now) e)
  connects-cause core new old now r made c =
      subst (λ (p : Polled C). IfRefused p (λ e. IsForGood (faults old) (faults now) e)) (sym c.answer)
      (ends-cause core c.opening c.x _ (tries-cause does depth faults refusals IsShort facts core.options.after_connect options c.opening old now c.tries))

  goes-cause : (verdicts : List (Verdict C)) (next : Next C) (core new : Core C) (old now : X) (r : Polled C) (made : List Mark) → IfAnswer next IsPlain
      → Goes does depth options k t m verdicts next core new old now r made → IfRefused r (λ e. IsForGood (faults old) (faults now) e)
  goes-cause [] (Answer a) core new old now r made plain g = subst (λ (p : Polled C). IfRefused p (λ e. IsForGood (faults old) (faults now) e)) (sym g.0) (unrefused a _ plain)
  goes-cause [] Connect core new old now r made plain g = connects-cause core new old now r made g
  goes-cause [] (Test i) core new old now r made plain g = absurd g
  goes-cause (v ∷ vs) (Test i) core new old now r made plain g =
      sooner-refused (faults old) (faults g.0) (faults now) r (tests-more does depth faults (λ c a b d. (facts c a b d).more_faults) core.options m i v old g.0 g.1.1.0)
      (goes-cause vs (then_by (judges k t core i v)) _ new g.0 now r g.1.0 (then-plain (judges k t core i v)) g.1.1.2)
  goes-cause (v ∷ vs) (Answer a) core new old now r made plain g = absurd g
  goes-cause (v ∷ vs) Connect core new old now r made plain g = absurd g

  -- a connect is refused for good for want of memory, or a fault was counted
  pub polls-cause : (core new : Core C) (old now : X) (r : Polled C) → Polls does depth options k t m core new old now r → IfRefused r (λ e. IsForGood (faults old) (faults now) e)
  polls-cause core new old now r p = goes-cause p.verdicts (first p.begun) _ new old now r p.later (first-plain p.begun) p.goes

  -- ---- backing off

  ends-counted : (core : Core C) (o : Opening C) (x : Ticket) (old new : X) → IfUnopened does depth faults refusals IsShort facts o old new → IfBackoff (last (tells m x core o) o) (λ until. Counted does depth faults refusals IsShort facts old new)
  ends-counted core (opening.Opened raw) x old new h = tt
  ends-counted core opening.Rejected x old new h = h
  ends-counted core opening.Transient x old new h = h
  ends-counted core (opening.Failed e) x old new h = tt

  sooner-counted : (r : Polled C) (old mid new : X) → faults old ≤ faults mid → refusals old ≤ refusals mid → IfBackoff r (λ until. Counted does depth faults refusals IsShort facts mid new) → IfBackoff r (λ until. Counted does depth faults refusals IsShort facts old new)
  sooner-counted (polled.Backoff until) old mid new f r h = counted-before does depth faults refusals IsShort facts old mid new f r h
  sooner-counted (polled.Refused e) old mid new f r h = tt
  sooner-counted polled.NotHeld old mid new f r h = tt
  sooner-counted polled.Closed old mid new f r h = tt
  sooner-counted polled.TimedOut old mid new f r h = tt
  sooner-counted polled.Exhausted old mid new f r h = tt
  sooner-counted polled.Waiting old mid new f r h = tt
  sooner-counted (polled.Ready lent) old mid new f r h = tt

  never-counted : (a : Polled C) (old now : X) → IfBackoff a (λ until. ⊥) → IfBackoff a (λ until. Counted does depth faults refusals IsShort facts old now)
  never-counted (polled.Backoff until) old now h = absurd h
  never-counted (polled.Refused e) old now h = tt
  never-counted polled.NotHeld old now h = tt
  never-counted polled.Closed old now h = tt
  never-counted polled.TimedOut old now h = tt
  never-counted polled.Exhausted old now h = tt
  never-counted polled.Waiting old now h = tt
  never-counted (polled.Ready lent) old now h = tt

  goes-counted : (verdicts : List (Verdict C)) (next : Next C) (core new : Core C) (old now : X) (r : Polled C) (made : List Mark) → IfAnswer next (λ a. IfBackoff a (λ until. ⊥))
      → Goes does depth options k t m verdicts next core new old now r made → IfBackoff r (λ until. Counted does depth faults refusals IsShort facts old now)
  goes-counted [] (Answer a) core new old now r made still g = subst (λ (p : Polled C). IfBackoff p (λ until. Counted does depth faults refusals IsShort facts old now)) (sym g.0) (never-counted a old now still)
  goes-counted [] Connect core new old now r made still g =
      subst (λ (p : Polled C). IfBackoff p (λ until. Counted does depth faults refusals IsShort facts old now)) (sym g.answer)
      (ends-counted core g.opening g.x old now (unopened does depth faults refusals IsShort facts core.options.after_connect options g.opening old now g.tries))
  goes-counted [] (Test i) core new old now r made still g = absurd g
  goes-counted (v ∷ vs) (Test i) core new old now r made still g =
      sooner-counted r old g.0 now (tests-more does depth faults (λ c a b d. (facts c a b d).more_faults) core.options m i v old g.0 g.1.1.0)
      (tests-more does depth refusals (λ c a b d. (facts c a b d).more_refusals) core.options m i v old g.0 g.1.1.0)
      (goes-counted vs (then_by (judges k t core i v)) _ new g.0 now r g.1.0 (then-still (judges k t core i v)) g.1.1.2)
  goes-counted (v ∷ vs) (Answer a) core new old now r made still g = absurd g
  goes-counted (v ∷ vs) Connect core new old now r made still g = absurd g

  -- a ticket backs off where that is its turn, or where a refusal was counted
  pub polls-counted : (core new : Core C) (old now : X) (r : Polled C) → Polls does depth options k t m core new old now r → IfBackoff r (BacksOff (core_turn core k t m) (faults old) (faults now) (refusals old) (refusals now))
  polls-counted core new old now r p = by p.begun p.step p.verdicts p.goes
    where
      Goal : Polled C → Type 0
      Goal r = IfBackoff r (BacksOff (core_turn core k t m) (faults old) (faults now) (refusals old) (refusals now))

      plain : (r : Polled C) → IfBackoff r (λ until. Counted does depth faults refusals IsShort facts old now) → Goal r
      plain (polled.Backoff until) h = inr h
      plain (polled.Refused e) h = tt
      plain polled.NotHeld h = tt
      plain polled.Closed h = tt
      plain polled.TimedOut h = tt
      plain polled.Exhausted h = tt
      plain polled.Waiting h = tt
      plain (polled.Ready lent) h = tt

      waits_on : (until : ℕ) (verdicts : List (Verdict C)) → start.Backoff until ≡ start_answer (core_turn core k t m) core.idle
          → Goes does depth options k t m verdicts (Answer (polled.Backoff until)) (started t m (start.Backoff until) core) new old now r p.later → Goal r
      waits_on until [] step g = subst Goal (sym g.0) (inl (backoff-turn (core_turn core k t m) core.idle until step))
      waits_on until (v ∷ vs) step g = absurd g

      by : (begun : Start C) → begun ≡ start_answer (core_turn core k t m) core.idle → (verdicts : List (Verdict C)) → Goes does depth options k t m verdicts (first begun) (started t m begun core) new old now r p.later → Goal r
      by (start.Backoff until) step verdicts g = waits_on until verdicts step g
      by start.NotHeld step verdicts g = plain r (goes-counted verdicts (first start.NotHeld) _ new old now r p.later tt g)
      by start.Closed step verdicts g = plain r (goes-counted verdicts (first start.Closed) _ new old now r p.later tt g)
      by start.TimedOut step verdicts g = plain r (goes-counted verdicts (first start.TimedOut) _ new old now r p.later tt g)
      by start.Exhausted step verdicts g = plain r (goes-counted verdicts (first start.Exhausted) _ new old now r p.later tt g)
      by start.Waiting step verdicts g = plain r (goes-counted verdicts (first start.Waiting) _ new old now r p.later tt g)
      by (start.Test i) step verdicts g = plain r (goes-counted verdicts (Test i) _ new old now r p.later tt g)
      by start.Connect step verdicts g = plain r (goes-counted verdicts Connect _ new old now r p.later tt g)

  -- what the turn answers at once is the answer
  pub polls-at_once : (core new : Core C) (old now : X) (r : Polled C) → Polls does depth options k t m core new old now r → IfAnswer (first (start_answer (core_turn core k t m) core.idle)) (λ a. r ≡ a)
  polls-at_once core new old now r p = subst (λ (s : Start C). IfAnswer (first s) (λ a. r ≡ a)) p.step (by (first p.begun) p.verdicts p.goes)
    where
      by : (next : Next C) (verdicts : List (Verdict C)) → Goes does depth options k t m verdicts next (started t m p.begun core) new old now r p.later → IfAnswer next (λ a. r ≡ a)
      by (Answer a) [] g = g.0
      by (Answer a) (v ∷ vs) g = absurd g
      by (Test i) verdicts g = tt
      by Connect verdicts g = tt

  -- ---- levels

  -- what is lent next has no level open, or has none when its test begins, where no hook tells it
  abbrev Rests : Bool → Next C → X → Type 0
  Rests hook (Answer a) old = IfReady a (λ lent. depth old lent.raw ≡ 0)
  Rests hook (Test i) old = hook ≡ false → depth old i.lent.raw ≡ 0
  Rests hook Connect old = Unit {0}

  opened-rests : (core mid : Core C) (o : Opening C) (x : Ticket) (new : X) → IfOpened o (λ raw. depth new raw ≡ 0) → IfReady (last (tells m x mid o) o) (λ lent. depth new lent.raw ≡ 0)
  opened-rests core mid (opening.Opened raw) x new h = h
  opened-rests core mid opening.Rejected x new h = tt
  opened-rests core mid opening.Transient x new h = tt
  opened-rests core mid (opening.Failed e) x new h = tt

  connects-rest : (core new : Core C) (old now : X) (r : Polled C) (made : List Mark) → Connects does depth options k t m core new old now r made → IfReady r (λ lent. depth now lent.raw ≡ 0)
  connects-rest core new old now r made c =
      subst (λ (p : Polled C). IfReady p (λ lent. depth now lent.raw ≡ 0)) (sym c.answer)
      (opened-rests core core c.opening c.x now (tries-rest does depth (λ c a b d. (facts c a b d).levels) core.options.after_connect options c.opening old now c.tries))

  -- ---- several tests

  -- The ticket is under test, and the idle connections are the last of these.
  record IsUnder (others : List (Idle C)) (i : Idle C) (core : Core C) : Type 0 where
    under : tested_at i.lent.id (phase_for k t core.tickets) ≡ Some i.lent.created
    front : List (Idle C)
    behind : others ≡ front ++ core.idle

  -- so the poll is, where a connection is tested next
  abbrev UnderIf : List (Idle C) → Next C → Core C → Type 0
  UnderIf others (Test i) core = IsUnder others i core
  UnderIf others next core = Unit {0}

  -- Where the poll is: what is lent next rests.
  record Is (others : List (Idle C)) (hook : Bool) (tries : ℕ) (next : Next C) (core : Core C) (old : X) : Type 0 where
    rest : Rests hook next old
    under : UnderIf others next core
    hook_is : core.options.before_acquire ≡ hook
    tries_is : core.options.idle_tries ≡ tries

  abbrev at_rest : X → Idle C → Type 0
  at_rest x i = depth x i.lent.raw ≡ 0

  all_behind : (P : Idle C → Type 0) (front rest : List (Idle C)) → All P (front ++ rest) → All P rest
  all_behind P [] rest h = h
  all_behind P (i ∷ front) rest h = all_behind P front rest (All-tail P i (front ++ rest) h)

  -- these connections have no level open, where a poll of so many tests needs it and no hook tells it
  abbrev StillRest : List (Idle C) → Bool → ℕ → X → Type 0
  StillRest others hook tries x = hook ≡ false → 1 < tries → All (at_rest x) others

  then_is : (others : List (Idle C)) (hook : Bool) (tries : ℕ) (i : Idle C) (v : Verdict C) (core : Core C) (old between : X) → Is others hook tries (Test i) core old → IfAccepted v (λ raw. depth between raw ≡ 0)
      → StillRest others hook tries between → Is others hook tries (then_by (judges k t core i v)) (after_test k t (judges k t core i v) core) between
  then_is others hook tries i v core old between is good rests = by v (may_test_next core.options.idle_tries (phase_for k t core.tickets)) core.idle refl refl good
    where
      Goal : Verdict C → Bool → List (Idle C) → Type 0
      Goal w next idle = Is others hook tries (then_by (test_answer (Some i.lent.created) false next idle w)) (after_test k t (test_answer (Some i.lent.created) false next idle w) core) between

      by : (w : Verdict C) (next : Bool) (idle : List (Idle C)) → may_test_next core.options.idle_tries (phase_for k t core.tickets) ≡ next → core.idle ≡ idle → IfAccepted w (λ raw. depth between raw ≡ 0) → Goal w next idle
      by (verdict.Accepted lent) next idle may e good = record { rest = good; under = tt; hook_is = is.hook_is; tries_is = is.tries_is }
      by (verdict.Refused n) false idle may e good = record { rest = tt; under = tt; hook_is = is.hook_is; tries_is = is.tries_is }
      by (verdict.Refused n) true [] may e good = record { rest = tt; under = tt; hook_is = is.hook_is; tries_is = is.tries_is }
      by (verdict.Refused n) true (j ∷ rest) may e good =
          let u : IsUnder others i core = is.under in
          let all : hook ≡ false → All (at_rest between) (j ∷ rest) = λ off.
          subst (λ (l : List (Idle C)). All (at_rest between) l) e (all_behind (at_rest between) u.front core.idle (subst (λ (l : List (Idle C)). All (at_rest between) l) u.behind
          (rests off (subst (λ (n : ℕ). 1 < n) is.tries_is (may-next i.lent.id i.lent.created core.options.idle_tries (phase_for k t core.tickets) u.under may))))) in
          record {
            rest = λ off. All-head (at_rest between) j rest (all off);
            under = record {
              under = next-found core (after_test k t (tested.Test j) core) k t i.lent.id i.lent.created j u.under refl;
              front = u.front ++ j ∷ [];
              behind = u.behind ∙ ap (λ (l : List (Idle C)). u.front ++ l) e ∙ sym (append_assoc u.front (j ∷ []) rest) ∙ ap (λ (l : List (Idle C)). (u.front ++ j ∷ []) ++ drop 1 l) (sym e);
            };
            hook_is = is.hook_is;
            tries_is = is.tries_is;
          }

  -- no ping and no close opens a level of these
  still_rest : (others : List (Idle C)) (x y : X) → ((any : C) → depth x any ≡ 0 → depth y any ≡ 0) → All (at_rest x) others → All (at_rest y) others
  still_rest others x y none h = All-weaker (at_rest x) (at_rest y) (λ i. none i.lent.raw) others h

  goes-rest : (others : List (Idle C)) (hook : Bool) (tries : ℕ) (verdicts : List (Verdict C)) (next : Next C) (core new : Core C) (old now : X) (r : Polled C) (made : List Mark) → Is others hook tries next core old → StillRest others hook tries old
      → Goes does depth options k t m verdicts next core new old now r made → IfReady r (λ lent. depth now lent.raw ≡ 0)
  goes-rest others hook tries [] (Answer a) core new old now r made is rests g =
      subst (λ (p : Polled C). IfReady p (λ lent. depth now lent.raw ≡ 0)) (sym g.0) (subst (λ (x : X). IfReady a (λ lent. depth x lent.raw ≡ 0)) (sym g.3) is.rest)
  goes-rest others hook tries [] Connect core new old now r made is rests g = connects-rest core new old now r made g
  goes-rest others hook tries [] (Test i) core new old now r made is rests g = absurd g
  goes-rest others hook tries (v ∷ vs) (Test i) core new old now r made is rests g =
      let rests_now : StillRest others hook tries g.0 = λ off more.
      quiet-keeps does depth (λ x. All (at_rest x) others) (λ conn answer now x y d. still_rest others x y (facts (ping conn answer now) x y d).none) (λ conn x y d. still_rest others x y (facts (close conn) x y d).none) (λ conn x y d. still_rest others x y (facts (close_hard conn) x y d).none)
      core.options m i v old g.0 (is.hook_is ∙ off) (rests off more) g.1.1.0 in
      goes-rest others hook tries vs (then_by (judges k t core i v)) _ new g.0 now r g.1.0
      (then_is others hook tries i v core old g.0 is (tests-rest does depth (λ c a b d. (facts c a b d).levels) core.options m i v old g.0 (λ off. is.rest (sym is.hook_is ∙ off)) g.1.1.0) rests_now) rests_now g.1.1.2
  goes-rest others hook tries (v ∷ vs) (Answer a) core new old now r made is rests g = absurd g
  goes-rest others hook tries (v ∷ vs) Connect core new old now r made is rests g = absurd g

  begun-is : (core : Core C) (begun : Start C) (old : X) → begun ≡ start_answer (core_turn core k t m) core.idle → (core.options.before_acquire ≡ false → first_depth (depth old) core.idle ≡ 0)
      → Is (drop 1 core.idle) core.options.before_acquire core.options.idle_tries (first begun) (started t m begun core) old
  begun-is core start.NotHeld old step h = record { rest = tt; under = tt; hook_is = refl; tries_is = refl }
  begun-is core start.Closed old step h = record { rest = tt; under = tt; hook_is = refl; tries_is = refl }
  begun-is core start.TimedOut old step h = record { rest = tt; under = tt; hook_is = refl; tries_is = refl }
  begun-is core start.Exhausted old step h = record { rest = tt; under = tt; hook_is = refl; tries_is = refl }
  begun-is core start.Waiting old step h = record { rest = tt; under = tt; hook_is = refl; tries_is = refl }
  begun-is core (start.Backoff until) old step h = record { rest = tt; under = tt; hook_is = refl; tries_is = refl }
  begun-is core start.Connect old step h = record { rest = tt; under = tt; hook_is = refl; tries_is = refl }
  begun-is core (start.Test i) old step h =
      let tk = takes core k t m i step in
      record {
        rest = λ off. sym (ap (first_depth (depth old)) tk.idle) ∙ h off;
        under = record {
          under = tested-found i.lent.id i.lent.id i.lent.created 0 _ (taken-phase core (started t m (start.Test i) core) k t m i tk refl) refl;
          front = [];
          behind = refl;
        };
        hook_is = refl;
        tries_is = refl;
      }

  -- what is lent has no level open, where a hook looks at it, or the idle connections have none
  pub polls-rest : (core new : Core C) (old now : X) (r : Polled C) → (core.options.before_acquire ≡ false → first_depth (depth old) core.idle ≡ 0)
      → (core.options.before_acquire ≡ false → 1 < core.options.idle_tries → All (λ i. depth old i.lent.raw ≡ 0) (drop 1 core.idle)) → Polls does depth options k t m core new old now r → IfReady r (λ lent. depth now lent.raw ≡ 0)
  polls-rest core new old now r rests others p =
      goes-rest (drop 1 core.idle) core.options.before_acquire core.options.idle_tries p.verdicts (first p.begun) _ new old now r p.later (begun-is core p.begun old p.step rests) others p.goes
