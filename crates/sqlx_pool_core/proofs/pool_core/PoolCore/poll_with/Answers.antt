use Rattle.std.proofs.Common.{ℕ, max, ap, refl, subst}
use Rattle.sqlx_pool_lists.specs.declared.steps.Start.TheVariants as start
use Rattle.sqlx_pool_lists.specs.Core.{Core}
use Rattle.sqlx_pool_core.specs.Walk.{Test, Connect, GoesOn}
use Rattle.sqlx_pool_core.proofs.TurnAtMarks.{core_turn-stands}
use Rattle.sqlx_pool_core.proofs.WholePoll.{takes, tries, taken-phase, trying-phase}
use Rattle.sqlx_pool_core.proofs.Polling.{tested-found, plain-polls, begun-polls}
use Rattle.sqlx_pool_core.proofs.CallsKeep.{polls-more}
use Rattle.sqlx_pool_core.proofs.PollEnds.{polls-cause, polls-counted, polls-at_once, polls-rest}
use Rattle.sqlx_pool_core.proofs.LonePools.{keeps-then}
use Rattle.sqlx_pool_core.proofs.pool_core.PoolCore.poll_with.Goals as goal

pub test_taken-requires-clause-tested : goal.test_taken-requires-clause-tested
test_taken-requires-clause-tested g c =
    let m = max c.args.self.now.pool.last c.args.now.0 in
    tested-found c.in-Test.idle.lent.id c.in-Test.idle.lent.id c.in-Test.idle.lent.created 0 _
    (taken-phase c.args.self.now.pool c.start.new.self.pool c.args.client c.args.ticket m c.in-Test.idle (takes c.args.self.now.pool c.args.client c.args.ticket m c.in-Test.idle c.in-Test.ensures.own) c.in-Test.ensures.becomes) refl

pub connect-requires-clause-connecting : goal.connect-requires-clause-connecting
connect-requires-clause-connecting g c =
    let m = max c.args.self.now.pool.last c.args.now.0 in
    trying-phase c.args.self.now.pool c.start.new.self.pool c.args.client c.args.ticket m (tries c.args.self.now.pool c.args.client c.args.ticket m c.in-Connect.ensures.own) c.in-Connect.ensures.becomes

pub returns-in-NotHeld-clause-polls : goal.returns-in-NotHeld-clause-polls
returns-in-NotHeld-clause-polls g c = plain-polls _ _ _ _ _ _ _ _ _ start.NotHeld _ c.in-NotHeld.ensures.own refl c.in-NotHeld.ensures.becomes c.in-NotHeld.ensures.makes

pub returns-in-Closed-clause-polls : goal.returns-in-Closed-clause-polls
returns-in-Closed-clause-polls g c = plain-polls _ _ _ _ _ _ _ _ _ start.Closed _ c.in-Closed.ensures.own refl c.in-Closed.ensures.becomes c.in-Closed.ensures.makes

pub returns-in-TimedOut-clause-polls : goal.returns-in-TimedOut-clause-polls
returns-in-TimedOut-clause-polls g c = plain-polls _ _ _ _ _ _ _ _ _ start.TimedOut _ c.in-TimedOut.ensures.own refl c.in-TimedOut.ensures.becomes c.in-TimedOut.ensures.makes

pub returns-in-Exhausted-clause-polls : goal.returns-in-Exhausted-clause-polls
returns-in-Exhausted-clause-polls g c = plain-polls _ _ _ _ _ _ _ _ _ start.Exhausted _ c.in-Exhausted.ensures.own refl c.in-Exhausted.ensures.becomes c.in-Exhausted.ensures.makes

pub returns-in-Waiting-clause-polls : goal.returns-in-Waiting-clause-polls
returns-in-Waiting-clause-polls g c = plain-polls _ _ _ _ _ _ _ _ _ start.Waiting _ c.in-Waiting.ensures.own refl c.in-Waiting.ensures.becomes c.in-Waiting.ensures.makes

pub returns-in-Backoff-clause-polls : goal.returns-in-Backoff-clause-polls
returns-in-Backoff-clause-polls g c = plain-polls _ _ _ _ _ _ _ _ _ (start.Backoff c.in-Backoff.until) _ c.in-Backoff.ensures.own refl c.in-Backoff.ensures.becomes c.in-Backoff.ensures.makes

pub returns-in-Test-clause-polls : goal.returns-in-Test-clause-polls
returns-in-Test-clause-polls g c =
    begun-polls g.X.Outside.does g.X.Outside.depth c.args.options.now c.args.client c.args.ticket (max c.args.self.now.pool.last c.args.now.0) c.args.self.now.pool c.start.new.self.pool c.test_taken.new.self.pool _ _ (start.Test c.in-Test.idle) _
    c.in-Test.ensures.own c.in-Test.ensures.becomes (ap (λ (n : Core _). n.options) c.in-Test.ensures.becomes) c.in-Test.ensures.makes
    (subst (λ (m : ℕ). GoesOn g.X.Outside.does g.X.Outside.depth c.args.options.now c.args.client c.args.ticket m (Test c.in-Test.idle) c.start.new.self.pool c.test_taken.new.self.pool c.args.out.now c.test_taken.new.out c.test_taken.result) c.moment-moment.ensures.moment c.test_taken.ensures.goes)

pub returns-in-Connect-clause-polls : goal.returns-in-Connect-clause-polls
returns-in-Connect-clause-polls g c =
    begun-polls g.X.Outside.does g.X.Outside.depth c.args.options.now c.args.client c.args.ticket (max c.args.self.now.pool.last c.args.now.0) c.args.self.now.pool c.start.new.self.pool c.connect.new.self.pool _ _ start.Connect _
    c.in-Connect.ensures.own c.in-Connect.ensures.becomes (ap (λ (n : Core _). n.options) c.in-Connect.ensures.becomes) c.in-Connect.ensures.makes
    (subst (λ (m : ℕ). GoesOn g.X.Outside.does g.X.Outside.depth c.args.options.now c.args.client c.args.ticket m Connect c.start.new.self.pool c.connect.new.self.pool c.args.out.now c.connect.new.out c.connect.result) c.moment-moment.ensures.moment c.connect.ensures.goes)

pub returns-in-Test-clause-rests : goal.returns-in-Test-clause-rests
returns-in-Test-clause-rests g c = λ rest others. polls-rest g.X.Outside.does g.X.Outside.depth g.X.Outside.faults g.X.Outside.refusals g.X.Outside.IsShort g.met.X.Outside.facts _ _ _ _ _ _ _ _ _ rest others (returns-in-Test-clause-polls g c)

pub returns-in-Connect-clause-rests : goal.returns-in-Connect-clause-rests
returns-in-Connect-clause-rests g c = λ rest others. polls-rest g.X.Outside.does g.X.Outside.depth g.X.Outside.faults g.X.Outside.refusals g.X.Outside.IsShort g.met.X.Outside.facts _ _ _ _ _ _ _ _ _ rest others (returns-in-Connect-clause-polls g c)

pub returns-in-Test-clause-cause : goal.returns-in-Test-clause-cause
returns-in-Test-clause-cause g c = polls-cause g.X.Outside.does g.X.Outside.depth g.X.Outside.faults g.X.Outside.refusals g.X.Outside.IsShort g.met.X.Outside.facts _ _ _ _ _ _ _ _ _ (returns-in-Test-clause-polls g c)

pub returns-in-Connect-clause-cause : goal.returns-in-Connect-clause-cause
returns-in-Connect-clause-cause g c = polls-cause g.X.Outside.does g.X.Outside.depth g.X.Outside.faults g.X.Outside.refusals g.X.Outside.IsShort g.met.X.Outside.facts _ _ _ _ _ _ _ _ _ (returns-in-Connect-clause-polls g c)

pub returns-in-NotHeld-clause-turn : goal.returns-in-NotHeld-clause-turn
returns-in-NotHeld-clause-turn g c = λ marks s. core_turn-stands c.args.self.now.pool marks s c.args.client c.args.ticket (max c.args.self.now.pool.last c.args.now.0)

pub returns-in-Closed-clause-turn : goal.returns-in-Closed-clause-turn
returns-in-Closed-clause-turn g c = λ marks s. core_turn-stands c.args.self.now.pool marks s c.args.client c.args.ticket (max c.args.self.now.pool.last c.args.now.0)

pub returns-in-TimedOut-clause-turn : goal.returns-in-TimedOut-clause-turn
returns-in-TimedOut-clause-turn g c = λ marks s. core_turn-stands c.args.self.now.pool marks s c.args.client c.args.ticket (max c.args.self.now.pool.last c.args.now.0)

pub returns-in-Exhausted-clause-turn : goal.returns-in-Exhausted-clause-turn
returns-in-Exhausted-clause-turn g c = λ marks s. core_turn-stands c.args.self.now.pool marks s c.args.client c.args.ticket (max c.args.self.now.pool.last c.args.now.0)

pub returns-in-Test-clause-turn : goal.returns-in-Test-clause-turn
returns-in-Test-clause-turn g c = λ marks s. core_turn-stands c.args.self.now.pool marks s c.args.client c.args.ticket (max c.args.self.now.pool.last c.args.now.0)

pub returns-in-Connect-clause-turn : goal.returns-in-Connect-clause-turn
returns-in-Connect-clause-turn g c = λ marks s. core_turn-stands c.args.self.now.pool marks s c.args.client c.args.ticket (max c.args.self.now.pool.last c.args.now.0)

pub returns-in-Waiting-clause-turn : goal.returns-in-Waiting-clause-turn
returns-in-Waiting-clause-turn g c = λ marks s. core_turn-stands c.args.self.now.pool marks s c.args.client c.args.ticket (max c.args.self.now.pool.last c.args.now.0)

pub returns-in-Backoff-clause-turn : goal.returns-in-Backoff-clause-turn
returns-in-Backoff-clause-turn g c = λ marks s. core_turn-stands c.args.self.now.pool marks s c.args.client c.args.ticket (max c.args.self.now.pool.last c.args.now.0)

pub returns-in-Test-clause-counts : goal.returns-in-Test-clause-counts
returns-in-Test-clause-counts g c =
    let p = returns-in-Test-clause-polls g c in (
      polls-more g.X.Outside.does g.X.Outside.depth g.X.Outside.faults (λ x a b d. (g.met.X.Outside.facts x a b d).more_faults) _ _ _ _ _ _ _ _ _ p,
      polls-more g.X.Outside.does g.X.Outside.depth g.X.Outside.refusals (λ x a b d. (g.met.X.Outside.facts x a b d).more_refusals) _ _ _ _ _ _ _ _ _ p,
    )

pub returns-in-Connect-clause-counts : goal.returns-in-Connect-clause-counts
returns-in-Connect-clause-counts g c =
    let p = returns-in-Connect-clause-polls g c in (
      polls-more g.X.Outside.does g.X.Outside.depth g.X.Outside.faults (λ x a b d. (g.met.X.Outside.facts x a b d).more_faults) _ _ _ _ _ _ _ _ _ p,
      polls-more g.X.Outside.does g.X.Outside.depth g.X.Outside.refusals (λ x a b d. (g.met.X.Outside.facts x a b d).more_refusals) _ _ _ _ _ _ _ _ _ p,
    )

pub returns-in-Backoff-clause-backs_off : goal.returns-in-Backoff-clause-backs_off
returns-in-Backoff-clause-backs_off g c = polls-counted g.X.Outside.does g.X.Outside.depth g.X.Outside.faults g.X.Outside.refusals g.X.Outside.IsShort g.met.X.Outside.facts _ _ _ _ _ _ _ _ _ (returns-in-Backoff-clause-polls g c)

pub returns-in-Test-clause-backs_off : goal.returns-in-Test-clause-backs_off
returns-in-Test-clause-backs_off g c = polls-counted g.X.Outside.does g.X.Outside.depth g.X.Outside.faults g.X.Outside.refusals g.X.Outside.IsShort g.met.X.Outside.facts _ _ _ _ _ _ _ _ _ (returns-in-Test-clause-polls g c)

pub returns-in-Connect-clause-backs_off : goal.returns-in-Connect-clause-backs_off
returns-in-Connect-clause-backs_off g c = polls-counted g.X.Outside.does g.X.Outside.depth g.X.Outside.faults g.X.Outside.refusals g.X.Outside.IsShort g.met.X.Outside.facts _ _ _ _ _ _ _ _ _ (returns-in-Connect-clause-polls g c)

pub returns-in-NotHeld-clause-at_once : goal.returns-in-NotHeld-clause-at_once
returns-in-NotHeld-clause-at_once g c = polls-at_once g.X.Outside.does g.X.Outside.depth g.X.Outside.faults g.X.Outside.refusals g.X.Outside.IsShort g.met.X.Outside.facts _ _ _ _ _ _ _ _ _ (returns-in-NotHeld-clause-polls g c)

pub returns-in-Closed-clause-at_once : goal.returns-in-Closed-clause-at_once
returns-in-Closed-clause-at_once g c = polls-at_once g.X.Outside.does g.X.Outside.depth g.X.Outside.faults g.X.Outside.refusals g.X.Outside.IsShort g.met.X.Outside.facts _ _ _ _ _ _ _ _ _ (returns-in-Closed-clause-polls g c)

pub returns-in-TimedOut-clause-at_once : goal.returns-in-TimedOut-clause-at_once
returns-in-TimedOut-clause-at_once g c = polls-at_once g.X.Outside.does g.X.Outside.depth g.X.Outside.faults g.X.Outside.refusals g.X.Outside.IsShort g.met.X.Outside.facts _ _ _ _ _ _ _ _ _ (returns-in-TimedOut-clause-polls g c)

pub returns-in-Exhausted-clause-at_once : goal.returns-in-Exhausted-clause-at_once
returns-in-Exhausted-clause-at_once g c = polls-at_once g.X.Outside.does g.X.Outside.depth g.X.Outside.faults g.X.Outside.refusals g.X.Outside.IsShort g.met.X.Outside.facts _ _ _ _ _ _ _ _ _ (returns-in-Exhausted-clause-polls g c)

pub returns-in-Waiting-clause-at_once : goal.returns-in-Waiting-clause-at_once
returns-in-Waiting-clause-at_once g c = polls-at_once g.X.Outside.does g.X.Outside.depth g.X.Outside.faults g.X.Outside.refusals g.X.Outside.IsShort g.met.X.Outside.facts _ _ _ _ _ _ _ _ _ (returns-in-Waiting-clause-polls g c)

pub returns-in-Backoff-clause-at_once : goal.returns-in-Backoff-clause-at_once
returns-in-Backoff-clause-at_once g c = polls-at_once g.X.Outside.does g.X.Outside.depth g.X.Outside.faults g.X.Outside.refusals g.X.Outside.IsShort g.met.X.Outside.facts _ _ _ _ _ _ _ _ _ (returns-in-Backoff-clause-polls g c)

pub returns-in-Test-clause-at_once : goal.returns-in-Test-clause-at_once
returns-in-Test-clause-at_once g c = polls-at_once g.X.Outside.does g.X.Outside.depth g.X.Outside.faults g.X.Outside.refusals g.X.Outside.IsShort g.met.X.Outside.facts _ _ _ _ _ _ _ _ _ (returns-in-Test-clause-polls g c)

pub returns-in-Connect-clause-at_once : goal.returns-in-Connect-clause-at_once
returns-in-Connect-clause-at_once g c = polls-at_once g.X.Outside.does g.X.Outside.depth g.X.Outside.faults g.X.Outside.refusals g.X.Outside.IsShort g.met.X.Outside.facts _ _ _ _ _ _ _ _ _ (returns-in-Connect-clause-polls g c)

pub returns-in-Test-clause-edge : goal.returns-in-Test-clause-edge
returns-in-Test-clause-edge g c = keeps-then c.args.self.now c.start.new.self c.test_taken.new.self c.in-Test.ensures.begun c.in-Test.ensures.edge c.test_taken.ensures.edge

pub returns-in-Connect-clause-edge : goal.returns-in-Connect-clause-edge
returns-in-Connect-clause-edge g c = keeps-then c.args.self.now c.start.new.self c.connect.new.self c.in-Connect.ensures.begun c.in-Connect.ensures.edge c.connect.ensures.edge
