-- A poll by which a permit may move from the root to a child.
use Rattle.std.proofs.Common.{◌≡◌, ℕ, ◌+◌, ◌-◌, ◌<◌, ◌||◌, ◌&&◌, inl, inr, Bool, true, false, not, if◌then◌else◌, List, length, Option, Some, None, refl, sym, ap, ◌∙◌, subst, arith, nat_le}
use Rattle.std.proofs.lemmas.Bool.Decides.{eqb_tells}
use Rattle.std.proofs.lemmas.List.{get_or-set_same, get_or-set_other, length-set}
use Rattle.sqlx_pool_marks.specs.declared.mark.Mark.{Mark}
use Rattle.sqlx_pool_marks.specs.PollTable.{turn_at_rest}
use Rattle.sqlx_pool_marks.specs.declared.turn.Turn.{Turn}
use Rattle.sqlx_pool_marks.specs.declared.turn.Turn.TheVariants.{NotHeld}
use Rattle.sqlx_pool_lists.specs.declared.ticket.Ticket.{Ticket}
use Rattle.sqlx_pool_lists.specs.declared.ticket.Phase.{Phase}
use Rattle.sqlx_pool_lists.specs.declared.ticket.Phase.TheVariants as phase
use Rattle.sqlx_pool_lists.specs.declared.steps.Start.{Start}
use Rattle.sqlx_pool_lists.specs.Core.{Core, is_out, free, ticket_of}
use Rattle.sqlx_pool_lists.specs.CoreTurn.{turn_of}
use Rattle.sqlx_pool_lists.specs.PollTable.{is_at_rest, backs_off_until}
use Rattle.sqlx_pool_lists.specs.PollSteps.{phase_for, start_answer, start_marks}
use Rattle.sqlx_pool_lists.specs.Shared.{told, with_permits, is_in_time}
use Rattle.sqlx_family.specs.declared.family.FamilyPool.{FamilyPool}
use Rattle.sqlx_family.specs.NoPool.{no_pool}
use Rattle.sqlx_family.specs.Pools.{Pools, entry_of, counts_as_closed, pool_in}
use Rattle.sqlx_family.specs.RootLine.{is_entitled, is_entitled_alone, is_entitled_by_root, takes_permit}
use Rattle.sqlx_family.specs.Permits.{owned_by, owning, with_less, moved, granted}
use Rattle.sqlx_family.specs.FamilyLogs.{StandTogether, Numbered, MakesTogether, FamilyLogs}
use Rattle.sqlx_family.proofs.LogLemmas.{stand-moved, moved-alike, numbered-along}

-- ---- a pool whose family's permits moved is the same but for its own permits

abbrev paying : {C : Type 0} → ℕ → ℕ → Pools C → FamilyPool C
paying q n f = record { core = with_permits n (entry_of q f).core; retired = (entry_of q f).retired }

pub entry-owning : {C : Type 0} (r q n : ℕ) (f : Pools C) → q < length f.pools → (m : ℕ) × ((entry_of r (owning q n f)).core ≡ with_permits m (entry_of r f).core)
entry-owning r q n f lt = elim (eqb_tells r q) [
  | inl is ↦ (n, subst (λ (k : ℕ). (entry_of k (owning q n f)).core ≡ with_permits n (entry_of k f).core) (sym is.1) (ap (λ (p : FamilyPool _). p.core) (get_or-set_same f.pools q (paying q n f) no_pool lt)))
  | inr is ↦ ((entry_of r f).core.permits, ap (λ (p : FamilyPool _). p.core) (get_or-set_other f.pools q r (paying q n f) no_pool is.1))
]

pool-owning : {C : Type 0} (r q n : ℕ) (f : Pools C) → q < length f.pools → (m : ℕ) × (pool_in r (owning q n f) ≡ with_permits m (pool_in r f))
pool-owning {C} r q n f lt =
    let own = entry-owning r q n f lt in
    let root = entry-owning 0 q n f lt in
    let shut : counts_as_closed r (owning q n f) ≡ counts_as_closed r f = ap (λ (c : Core C). c.shut || (entry_of 0 (owning q n f)).core.shut) own.1 ∙ ap (λ (c : Core C). (entry_of r f).core.shut || c.shut) root.1 in
    (own.0, ap (told (counts_as_closed r (owning q n f)) f.shared) own.1 ∙ ap (λ (b : Bool). told b f.shared (with_permits own.0 (entry_of r f).core)) shut)

pub pool-moved : {C : Type 0} (r from to n : ℕ) (f : Pools C) → from < length f.pools → to < length f.pools → (m : ℕ) × (pool_in r (moved from to n f) ≡ with_permits m (pool_in r f))
pool-moved {C} r from to n f lt lt_to =
    let within : to < length (with_less from n f).pools = (let e = length-set f.pools from (paying from (owned_by from f - n) f) in omega (arith, e, lt_to)) in
    let one = pool-owning r from (owned_by from f - n) f lt in
    let two = pool-owning r to (owned_by to (with_less from n f) + n) (with_less from n f) within in
    (two.0, two.1 ∙ ap (with_permits two.0) one.1)

pub pool-granted : {C : Type 0} (b : Bool) (q : ℕ) (f : Pools C) → q < length f.pools → (m : ℕ) × (pool_in q (granted b q f) ≡ with_permits m (pool_in q f))
pool-granted true q f lt = pool-moved q 0 q 1 f (omega (arith, lt)) lt
pool-granted false q f lt = ((pool_in q f).permits, refl)

stand-granted : {C : Type 0} (b : Bool) (q : ℕ) (f : Pools C) (logs : ℕ → List Mark) → q < length f.pools → StandTogether f logs → StandTogether (granted b q f) logs
stand-granted true q f logs lt s = stand-moved 0 q 1 f logs (omega (arith, lt)) lt s
stand-granted false q f logs lt s = s

numbered-granted : {C : Type 0} (b : Bool) (q : ℕ) (f : Pools C) (logs : ℕ → List Mark) → Numbered f logs → Numbered (granted b q f) logs
numbered-granted true q f logs s = numbered-along f (moved 0 q 1 f) logs (moved-alike 0 q 1 f) s
numbered-granted false q f logs s = s

-- ---- the permit that an entitled ticket needs

pub permit-there : {C : Type 0} (takes : Bool) (q : ℕ) (f : Pools C) (alone entitled : Bool) → entitled ≡ (alone || takes) → (alone ≡ true → 0 < free (entry_of q f).core) → (takes ≡ true → 0 < free (entry_of q (granted takes q f)).core)
    → entitled ≡ true → 0 < free (entry_of q (granted takes q f)).core
permit-there true q f alone entitled is own took e = took refl
permit-there false q f true entitled is own took e = own refl
permit-there false q f false entitled is own took e = absurd (cc (is, e))

-- ---- the turn

-- a ticket that has left the line isn't asked whether it is entitled
turn-left : {C : Type 0} (p : Phase) (one other closed : Bool) (m n d : ℕ) (idle : List C) → is_out p ≡ true
    → (if is_at_rest p then turn_at_rest m one closed n idle d (is_out p) (backs_off_until p) else NotHeld) ≡ (if is_at_rest p then turn_at_rest m other closed n idle d (is_out p) (backs_off_until p) else NotHeld)
turn-left phase.Waiting one other closed m n d idle e = absurd (cc e)
turn-left (phase.Testing c created before) one other closed m n d idle e = refl
turn-left phase.Connecting one other closed m n d idle e = refl
turn-left (phase.Backoff until) one other closed m n d idle e = refl

turn-late : {C : Type 0} (p : Phase) (one other late : Bool) (m n d : ℕ) (idle : List C) → nat_le d m ≡ true
    → (if is_at_rest p then turn_at_rest m one false n idle d (is_out p) (backs_off_until p) else NotHeld) ≡ (if is_at_rest p then turn_at_rest m other false n idle d (is_out p) (backs_off_until p) else NotHeld)
turn-late p one other late m n d idle e = rw e refl

-- by the root's line a ticket is entitled where it leaves the line; elsewhere that doesn't matter
turn-by_root : {C : Type 0} (closed : Bool) (m : ℕ) (core : Core C) (x : Option Ticket) → turn_of (not closed && is_in_time m x) closed m core x ≡ turn_of true closed m core x
turn-by_root closed m core None = refl
turn-by_root true m core (Some x) = refl
turn-by_root false m core (Some x) = by_phase (is_out x.phase) refl (nat_le x.deadline m) refl
  where
    by_phase : (o : Bool) → is_out x.phase ≡ o → (late : Bool) → nat_le x.deadline m ≡ late → turn_of (not false && is_in_time m (Some x)) false m core (Some x) ≡ turn_of true false m core (Some x)
    by_phase true e late f = turn-left x.phase (not false && is_in_time m (Some x)) true false m core.next_conn x.deadline core.idle e
    by_phase false e true f = turn-late x.phase (not false && is_in_time m (Some x)) true true m core.next_conn x.deadline core.idle f
    by_phase false e false f = ap (λ (b : Bool). turn_of (not false && b) false m core (Some x)) (ap (λ (b : Bool). not b && not (nat_le x.deadline m)) e ∙ ap (λ (b : Bool). not false && not b) f)

turn-entitled : {C : Type 0} (alone by_root closed : Bool) (m : ℕ) (core : Core C) (x : Option Ticket)
    → turn_of (alone || (not alone && (by_root && (not closed && is_in_time m x)))) closed m core x ≡ turn_of (alone || by_root) closed m core x
turn-entitled true by_root closed m core x = refl
turn-entitled false false closed m core x = refl
turn-entitled false true closed m core x = turn-by_root closed m core x

module _ {C : Type 0} (q k t m : ℕ) (f : Pools C) (lt : q < length f.pools) (takes alone entitled : Bool) (is_takes : takes ≡ takes_permit q k t m f) (is_alone : alone ≡ is_entitled_alone q t f) (is_entitled_here : entitled ≡ (alone || takes)) (r : Start C) where
  -- The answer of the poll behind the permit is that of an entitled ticket.
  pub start-answered : r ≡ start_answer (turn_of entitled (pool_in q (granted takes q f)).closed m (pool_in q (granted takes q f)) (ticket_of k t (pool_in q (granted takes q f)).tickets)) (pool_in q (granted takes q f)).idle
      → r ≡ start_answer (turn_of (is_entitled q t f) (pool_in q f).closed m (pool_in q f) (ticket_of k t (pool_in q f).tickets)) (pool_in q f).idle
  start-answered e =
      e ∙ ap (λ (c : Core C). start_answer (turn_of entitled c.closed m c (ticket_of k t c.tickets)) c.idle) (pool-granted takes q f lt).1
      ∙ ap (λ (b : Bool). start_answer (turn_of b (pool_in q f).closed m (pool_in q f) (ticket_of k t (pool_in q f).tickets)) (pool_in q f).idle) (is_entitled_here ∙ ap (λ (b : Bool). b || takes) is_alone ∙ ap (λ (b : Bool). is_entitled_alone q t f || b) is_takes)
      ∙ ap (λ (x : Turn). start_answer x (pool_in q f).idle) (turn-entitled (is_entitled_alone q t f) (is_entitled_by_root q t f) (counts_as_closed q f) m (pool_in q f) (ticket_of k t (pool_in q f).tickets))

  -- The marks of the poll are those of the pool as it was.
  pub start-logged : (new : Pools C) → FamilyLogs (granted takes q f) q (start_marks t (phase_for k t (pool_in q (granted takes q f)).tickets) r) new → FamilyLogs f q (start_marks t (phase_for k t (pool_in q f).tickets) r) new
  start-logged new makes logs s =
      let now_made = subst (λ (c : Core C). MakesTogether c.options.max_connections q logs (start_marks t (phase_for k t c.tickets) r) (granted takes q f) new) (pool-granted takes q f lt).1
      (makes logs (stand-granted takes q f logs lt s)) in
      record { stand = now_made.stand; numbered = λ known. now_made.numbered (numbered-granted takes q f logs known); safe = now_made.safe }
