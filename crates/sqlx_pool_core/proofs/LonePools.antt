-- What a step leaves of a lone pool's edge, and of who is entitled.
use Rattle.std.proofs.Common.{◌≡◌, ℕ, ◌+◌, ◌<◌, ◌≤◌, ◌⊎◌, inl, inr, Bool, true, false, not, cond, Option, Some, None, option_map, refl, sym, ap, subst, ◌∙◌, arith}
use Rattle.std.specs.Prelude.{nat_lt}
use Rattle.std.proofs.lemmas.Bool.{and_parts}
use Rattle.std.proofs.lemmas.Bool.Decides.{nat_tests}
use Rattle.sqlx_pool_places.specs.Line.{TicketLine, is_below_edge, beyond, first_beyond, pushed, passed, advanced}
use Rattle.sqlx_pool_places.proofs.Edge.{some_found}
use Rattle.sqlx_pool_lists.specs.declared.steps.Start.{Start}
use Rattle.sqlx_pool_lists.specs.declared.steps.Start.TheVariants as start
use Rattle.sqlx_pool_lists.specs.declared.ticket.Ticket.{Ticket}
use Rattle.sqlx_pool_lists.specs.declared.ticket.Phase.{Phase}
use Rattle.sqlx_pool_lists.specs.declared.ticket.Phase.TheVariants as phase
use Rattle.sqlx_pool_lists.specs.Core.{Core, is_out, ticket_of}
use Rattle.sqlx_pool_lists.specs.CoreTurn.{is_first_in_line}
use Rattle.sqlx_pool_lists.specs.PollSteps.{phase_for, is_in_line}
use Rattle.sqlx_pool_lists.specs.Sound.{IsSound}
use Rattle.sqlx_pool_core.specs.KeptLine.{IsLined}
use Rattle.sqlx_pool_core.specs.LonePool.{LonePool, lone_of, is_entitled, MovesOnce, LeavesEdge, EdgeTells, IfGoesOn, KeepsEntitled}
use Rattle.sqlx_pool_core.proofs.LineSteps.{edge-first}

-- the pool of what is seen
pub pool-is : {C : Type 0} {a b : LonePool C} → a ≡ b → a.pool ≡ b.pool
pool-is e = ap (λ (l : LonePool _). l.pool) e

-- ---- the edge moves

pub advanced-moved : (line : TicketLine) → 0 < beyond line → (advanced line).moves ≡ line.moves + 1
advanced-moved line some = by (first_beyond line) refl
  where
    by : (first : Option ℕ) → first_beyond line ≡ first → (passed first line).moves ≡ line.moves + 1
    by None none = absurd (some_found line.edge line.waiting (omega (arith, some)) none)
    by (Some n) found = refl

pub moves-once : (line new : TicketLine) → 0 < beyond line → new ≡ advanced line → line.edge < new.edge → MovesOnce line new
moves-once line new some is forward = inr (forward, ap (λ (l : TicketLine). l.moves) is ∙ advanced-moved line some)

-- a ticket that doesn't join leaves the line
pub unjoined : (line mid : TicketLine) (t : ℕ) (joined : Bool) → mid ≡ cond joined (pushed t line) line → joined ≡ false → mid ≡ line
unjoined line mid t joined is none = is ∙ ap (λ b. cond b (pushed t line) line) none

-- ---- who is entitled

-- a ticket that waits is entitled exactly where it is below the edge
pub first-below : {C : Type 0} (core : Core C) (line : TicketLine) (k t : ℕ) → IsSound core → IsLined core line → is_in_line (phase_for k t core.tickets) ≡ true → is_first_in_line t core ≡ is_below_edge t line
first-below core line k t s l stands = by (ticket_of k t core.tickets) refl stands
  where
    by_phase : (x : Ticket) → ticket_of k t core.tickets ≡ Some x → (p : Phase) → x.phase ≡ p → is_in_line (Some p) ≡ true → is_first_in_line t core ≡ is_below_edge t line
    by_phase x e phase.Waiting is w = sym (edge-first core line k t x s l e (ap (λ (p : Phase). not (is_out p)) is))
    by_phase x e (phase.Backoff until) is w = absurd cc
    by_phase x e (phase.Testing c created before) is w = absurd cc
    by_phase x e phase.Connecting is w = absurd cc

    by : (o : Option Ticket) → ticket_of k t core.tickets ≡ o → is_in_line (option_map (λ (x : Ticket). x.phase) o) ≡ true → is_first_in_line t core ≡ is_below_edge t line
    by None e w = absurd cc
    by (Some x) e w = by_phase x e x.phase refl w

-- the same by the number of the edge, of what is seen
pub edge-tells : {C : Type 0} (core : Core C) (line : TicketLine) (now : LonePool C) (edge : ℕ) → lone_of core line ≡ now → IsSound core → IsLined core line → edge ≡ line.edge
    → (k t : ℕ) → is_in_line (phase_for k t now.pool.tickets) ≡ true → is_first_in_line t now.pool ≡ nat_lt t edge
edge-tells {C} core line now edge view s l is =
    let told : (k t : ℕ) → is_in_line (phase_for k t core.tickets) ≡ true → is_first_in_line t core ≡ nat_lt t edge = λ k t stands. first-below core line k t s l stands ∙ ap (λ (n : ℕ). nat_lt t n) (sym is) in
    let P : Core C → Type 0 = λ c. (k t : ℕ) → is_in_line (phase_for k t c.tickets) ≡ true → is_first_in_line t c ≡ nat_lt t edge in
    subst P (pool-is view) told

-- ---- what a step keeps

not_later : {C : Type 0} (old new : LonePool C) → LeavesEdge old new ⊎ ((old.edge < new.edge) × (new.moves ≡ old.moves + 1)) → old.edge ≤ new.edge
not_later old new (inl same) = omega (arith, same.0)
not_later old new (inr on) = omega (arith, on.0)

-- who was entitled and waits is entitled, where the edge tells it before and after
keeps-by : {C : Type 0} (old new : LonePool C) → EdgeTells old → EdgeTells new → LeavesEdge old new ⊎ ((old.edge < new.edge) × (new.moves ≡ old.moves + 1)) → KeepsEntitled old new
keeps-by old new was is moves = record { moves = moves; was = was; is = is; stays = stays }
  where
    stays : (k t : ℕ) → is_entitled k t old.pool ≡ true → is_in_line (phase_for k t new.pool.tickets) ≡ true → is_entitled k t new.pool ≡ true
    stays k t entitled stands =
        let waited = and_parts (is_in_line (phase_for k t old.pool.tickets)) (is_first_in_line t old.pool) entitled in
        let below : nat_lt t old.edge ≡ true = sym (was k t waited.0) ∙ entitled in
        let up : old.edge ≤ new.edge = not_later old new moves in
        let still : nat_lt t new.edge ≡ true = grind (arith, nat_tests, below, up) in
        is k t stands ∙ still

-- the edge tells who is entitled in a pool that keeps its line
lone-tells : {C : Type 0} (core : Core C) (line : TicketLine) → IsSound core → IsLined core line → EdgeTells (lone_of core line)
lone-tells core line s l = λ k t stands. rw stands (first-below core line k t s l stands)

pub keeps-entitled : {C : Type 0} (core new : Core C) (line next : TicketLine) → IsSound core → IsLined core line → IsSound new → IsLined new next → MovesOnce line next → KeepsEntitled (lone_of core line) (lone_of new next)
keeps-entitled core new line next s l s_new l_new once = keeps-by (lone_of core line) (lone_of new next) (lone-tells core line s l) (lone-tells new next s_new l_new) once

-- the same, of what is seen
pub view-tells : {C : Type 0} (core : Core C) (line : TicketLine) (now : LonePool C) → lone_of core line ≡ now → IsSound core → IsLined core line → EdgeTells now
view-tells core line now view s l = subst EdgeTells view (lone-tells core line s l)

-- a step that leaves the pool
pub keeps-same : {C : Type 0} (now : LonePool C) → EdgeTells now → KeepsEntitled now now
keeps-same now tells = keeps-by now now tells tells (inl (refl, refl))

-- ---- one step after another

pub leaves-then : {C : Type 0} (old mid new : LonePool C) → LeavesEdge old mid → LeavesEdge mid new → LeavesEdge old new
leaves-then old mid new first second = (second.0 ∙ first.0, second.1 ∙ first.1)

-- a step that leaves the edge, and another
pub keeps-then : {C : Type 0} (old mid new : LonePool C) → LeavesEdge old mid → KeepsEntitled old mid → KeepsEntitled mid new → KeepsEntitled old new
keeps-then old mid new still first second = keeps-by old new first.was second.is (by second.moves)
  where
    by : LeavesEdge mid new ⊎ ((mid.edge < new.edge) × (new.moves ≡ mid.moves + 1)) → LeavesEdge old new ⊎ ((old.edge < new.edge) × (new.moves ≡ old.moves + 1))
    by (inl same) = inl (leaves-then old mid new still same)
    by (inr on) = inr (omega (arith, on.0, still.0), omega (arith, on.1, still.1))

-- ---- a step that leaves the edge

-- the line is left as it was but for a ticket that went
pub edge-left : {C : Type 0} (now : LonePool C) (core new : Core C) (line mid next : TicketLine) → lone_of core line ≡ now → mid.edge ≡ line.edge → mid.moves ≡ line.moves → next ≡ mid → LeavesEdge now (lone_of new next)
edge-left {C} now core new line mid next view edge moves is =
    subst (λ (l : LonePool C). LeavesEdge l (lone_of new next)) view (ap (λ (l : TicketLine). l.edge) is ∙ edge, ap (λ (l : TicketLine). l.moves) is ∙ moves)

pub if-goes-on : {C : Type 0} (P Q : Type 0) (r : Start C) → (P → Q) → IfGoesOn r P → IfGoesOn r Q
if-goes-on P Q (start.Test i) f h = f h
if-goes-on P Q start.Connect f h = f h
if-goes-on P Q start.NotHeld f h = tt
if-goes-on P Q start.Closed f h = tt
if-goes-on P Q start.TimedOut f h = tt
if-goes-on P Q start.Exhausted f h = tt
if-goes-on P Q start.Waiting f h = tt
if-goes-on P Q (start.Backoff until) f h = tt
