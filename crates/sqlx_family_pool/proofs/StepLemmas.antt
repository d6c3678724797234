-- The value under the lock stands after a step of one pool whose marks were written behind that pool's log.
use Rattle.std.proofs.Common.{◌≡◌, ◌≢◌, ◌==◌, not, nat_lt, ℕ, ◌+◌, ◌^◌, ◌<◌, ◌≤◌, ◌⊎◌, inl, inr, Bool, true, false, Option, Some, None, List, [], ◌∷◌, ◌++◌, map, length, get_or, sum_by, take, drop, All, refl, sym, ap, ◌∙◌, subst, arith}
use Rattle.std.specs.Prelude.{slice_set}
use Rattle.std.proofs.lemmas.Bool.Decides.{eqb_tells}
use Rattle.std.proofs.lemmas.List.{take-append-drop, take-append-le, drop-append-le, get_or-set_same, get_or-set_other, get_or-map, map-set, length-set, length-map, length-append}
use Rattle.std.proofs.lemmas.List.Elements.{All-head, All-tail}
use Rattle.std.proofs.lemmas.List.Sums.{sum_by-set, sum_by-cons}
use Rattle.sqlx_pool_marks.specs.declared.mark.Mark.{Mark}
use Rattle.sqlx_pool_marks.specs.FairLog.{IsSafe}
use Rattle.sqlx_pool_marks.proofs.Counting.{count-append}
use Rattle.sqlx_pool_marks.proofs.FairLaws.{safe-append}
use Rattle.sqlx_pool_log.specs.PackedLog.{PackedRow, marks_of, room_of}
use Rattle.sqlx_pool_lists.specs.declared.shared.Shared.{Shared}
use Rattle.sqlx_pool_lists.specs.declared.options.PoolOptions.{PoolOptions}
use Rattle.sqlx_pool_lists.specs.Core.{Core}
use Rattle.sqlx_pool_lists.specs.StandsFor.{StandsIn}
use Rattle.sqlx_text.specs.declared.Moment.{Moment}
use Rattle.sqlx_pool_lists.specs.declared.steps.Idle.{Idle}
use Rattle.sqlx_pool_lists.specs.declared.steps.Verdict.{Verdict}
use Rattle.sqlx_pool_lists.specs.declared.steps.Verdict.TheVariants as verdict
use Rattle.sqlx_pool_lists.specs.Balance.{Balance, is_lent, lents, ends, marks_due, place_room}
use Rattle.sqlx_pool_lists.specs.PollSteps.{test_answer, after_refusal}
use Rattle.sqlx_pool_core.specs.CameTo.{IfAccepted}
use Rattle.sqlx_pool_lists.specs.MaintenanceSteps.{done_marks}
use Rattle.sqlx_pool_parts.specs.Answers.{IfTestLends}
use Rattle.sqlx_family.specs.declared.family.FamilyPool.{FamilyPool}
use Rattle.sqlx_family.specs.NoPool.{no_pool}
use Rattle.sqlx_family.specs.Pools.{Pools, entry_of, pool_in}
use Rattle.sqlx_family.specs.IsFamily.{permits_of, Joins, IsFamily, maximum_of}
use Rattle.sqlx_family.specs.FamilyLogs.{with_marks, MakesTogether, FamilyLogs}
use Rattle.sqlx_family.proofs.LogLemmas.{same, other, numbered-same}
use Rattle.sqlx_pool_parts.specs.Booked.{Booked}
use Rattle.sqlx_pool.specs.Places.{done_if_marks}
use Rattle.sqlx_pool_parts.specs.declared.log_start.LogStart.{LogStart}
use Rattle.sqlx_pool_parts.specs.State.{RestFlat, no_start}
use Rattle.sqlx_pool.proofs.LeavesLemmas.{Leaves}
use Rattle.sqlx_pool.proofs.StepLemmas.{Books}
use Rattle.sqlx_family_pool.specs.FamilyState.{family_state, with_made, held_in, tickets_in, IsKept}
use Rattle.sqlx_family_pool.proofs.Replaces.{Replaces, sum-but}

-- ---- the permits pay for the connections that have an owner

held-paid : {C : Type 0} (h : Shared) (ps : List (FamilyPool C)) → All (Joins h) ps → sum_by held_in ps ≤ sum_by permits_of ps
held-paid h [] all = omega arith
held-paid h (p ∷ ps) all =
    let head = (All-head (Joins h) p ps all).paid in
    let rest = held-paid h ps (All-tail (Joins h) p ps all) in
    let a = sum_by-cons held_in p ps in
    let b = sum_by-cons permits_of p ps in
    omega (arith, head, rest, a, b)

pub few-held : {C : Type 0} (f : Pools C) → IsFamily f → sum_by held_in f.pools < 2 ^ 32
few-held f is =
    let paid = held-paid f.shared f.pools is.joins in
    let permits = is.permits in
    let small = is.small in
    omega (arith, paid, permits, small)

-- ---- logs by their pools' names

module _ (logs : List (PackedRow)) (q : ℕ) (log : PackedRow) (lt : q < length logs) (is : log ≡ get_or logs q log) where
  pub items-at : get_or (map marks_of logs) q [] ≡ marks_of log
  items-at = get_or-map marks_of logs q log [] lt ∙ ap marks_of (sym is)

  pub capacity-at : get_or (map room_of logs) q 0 ≡ room_of log
  capacity-at = get_or-map room_of logs q log 0 lt ∙ ap room_of (sym is)

  module _ (now : PackedRow) (made : List Mark) (grew : marks_of now ≡ marks_of log ++ made) where
    -- the log of this pool has the marks behind it, and the others are as they were
    pub logs-grow : map marks_of (slice_set logs q now) ≡ with_made q made (map marks_of logs)
    logs-grow =
        map-set marks_of logs q now
        ∙ ap (slice_set (map marks_of logs) q) (grew ∙ ap (λ (l : List Mark). l ++ made) (sym items-at))

-- the same log by log
pub grows-at : (q : ℕ) (made : List Mark) (logs : List (List Mark)) → q < length logs → (p : ℕ) → get_or (with_made q made logs) p [] ≡ with_marks q made (λ r. get_or logs r []) p
grows-at q made logs lt p = elim (eqb_tells p q) [
  | inl is ↦ subst (λ (n : ℕ). get_or (with_made q made logs) n [] ≡ with_marks q made (λ r. get_or logs r []) n) (sym is.1)
      (get_or-set_same logs q (get_or logs q [] ++ made) [] lt ∙ sym (same q made (λ r. get_or logs r [])))
  | inr is ↦ get_or-set_other logs q p (get_or logs q [] ++ made) [] is.1 ∙ sym (other q p made (λ r. get_or logs r []) is.1)
]

-- a name that isn't refused is a pool's
pub is-named : {q n : ℕ} {b : Bool} → b ≡ nat_lt q n → b ≡ true → q < n
is-named e is = grind arith

-- ---- a step

-- marks that come behind a log are safe behind its start
pub behind-start : (max n : ℕ) (marks made : List Mark) → n ≤ length marks → IsSafe max (take n marks) (drop n marks) → IsSafe max marks made → IsSafe max (take n (marks ++ made)) (drop n (marks ++ made))
behind-start max n marks made begins safe now =
    subst (λ (l : List Mark). IsSafe max l (drop n (marks ++ made))) (sym (take-append-le n marks made begins))
    (subst (IsSafe max (take n marks)) (sym (drop-append-le n marks made begins))
    (safe-append max (take n marks) (drop n marks) made safe (subst (λ (l : List Mark). IsSafe max l made) (sym (take-append-drop n marks)) now)))

module _ {C O : Type 0} {levels : C → ℕ} {max : ℕ} {cuts : Bool} {f : Pools C} {logs : List (List Mark)} {starts : List LogStart} {connect : O} {booked : Booked} {capacities : List ℕ} (kept : IsKept levels max cuts (family_state f logs starts connect booked) capacities) where
  -- One pool's core becomes this one but for its permits, and its marks are written behind its log.
  module _ (q : ℕ) (lt : q < length f.pools) (core : Core C) (g : Pools C) (made : List Mark) (backs room : ℕ) (replaces : Replaces q f core g) (makes : FamilyLogs f q made g) (balance : Balance (pool_in q f) (pool_in q g) made backs room)
      (leaves : Leaves levels (pool_in q f) core) (now_connect : O) (now_booked : Booked) (books : Books booked now_booked made backs) (now_capacities : List ℕ)
      (others : (p : ℕ) → p ≢ q → get_or now_capacities p 0 ≡ get_or capacities p 0) (enough : length (get_or logs q []) + marks_due (pool_in q f) + room ≤ get_or now_capacities q 0) where
    abbrev of : ℕ → List Mark
    of r = get_or logs r []

    abbrev begin : ℕ → ℕ
    begin r = (get_or starts r no_start).len

    together : MakesTogether (pool_in q f).options.max_connections q of made f g
    together = makes of kept.standing.stand

    lt_logs : q < length logs
    lt_logs = let e = kept.standing.each in omega (arith, lt, e)

    grown : (p : ℕ) → get_or (with_made q made logs) p [] ≡ with_marks q made of p
    grown p = grows-at q made logs lt_logs p

    here : get_or (with_made q made logs) q [] ≡ of q ++ made
    here = grown q ∙ same q made of

    there : (p : ℕ) → p ≢ q → get_or (with_made q made logs) p [] ≡ of p
    there p ne = grown p ∙ other q p made of ne

    was_named : (p : ℕ) → p < length g.pools → p < length f.pools
    was_named p below = let e = replaces.names in omega (arith, e, below)

    -- what is said of each pool and its log
    each-pool : (P : ℕ → Core C → List Mark → Type 0) → P q (pool_in q g) (of q ++ made) → ((p : ℕ) → p ≢ q → p < length f.pools → P p (pool_in p g) (of p)) → (p : ℕ) → p < length g.pools → P p (pool_in p g) (get_or (with_made q made logs) p [])
    each-pool P own rest p below = elim (eqb_tells p q) [
      | inl is ↦ subst (λ (n : ℕ). P n (pool_in n g) (get_or (with_made q made logs) n [])) (sym is.1) (subst (P q (pool_in q g)) (sym here) own)
      | inr is ↦ subst (P p (pool_in p g)) (sym (there p is.1)) (rest p is.1 (was_named p below))
    ]

    own_options : (pool_in q g).options ≡ (pool_in q f).options
    own_options = ap (λ (c : Core C). c.options) replaces.here.1 ∙ leaves.options

    own_idle : (pool_in q g).idle ≡ core.idle
    own_idle = ap (λ (c : Core C). c.idle) replaces.here.1

    other_options : (p : ℕ) → p ≢ q → (pool_in p g).options ≡ (pool_in p f).options
    other_options p ne = ap (λ (c : Core C). c.options) (replaces.others p ne).1

    other_idle : (p : ℕ) → p ≢ q → (pool_in p g).idle ≡ (pool_in p f).idle
    other_idle p ne = ap (λ (c : Core C). c.idle) (replaces.others p ne).1

    other_due : (p : ℕ) → p ≢ q → marks_due (pool_in p g) ≡ marks_due (pool_in p f)
    other_due p ne = ap (λ (c : Core C). marks_due c) (replaces.others p ne).1

    safe : (p : ℕ) → p < length g.pools → IsSafe (pool_in p g).options.max_connections (take (begin p) (get_or (with_made q made logs) p [])) (drop (begin p) (get_or (with_made q made logs) p []))
    safe = each-pool (λ (p : ℕ) (c : Core C) l. IsSafe c.options.max_connections (take (begin p) l) (drop (begin p) l))
        (subst (λ (o : PoolOptions). IsSafe o.max_connections (take (begin q) (of q ++ made)) (drop (begin q) (of q ++ made))) (sym own_options)
        (behind-start (pool_in q f).options.max_connections (begin q) (of q) made (kept.standing.begins q lt) (kept.standing.safe q lt) together.safe))
        (λ p ne below. subst (λ (o : PoolOptions). IsSafe o.max_connections (take (begin p) (of p)) (drop (begin p) (of p))) (sym (other_options p ne)) (kept.standing.safe p below))

    begins : (p : ℕ) → p < length g.pools → begin p ≤ length (get_or (with_made q made logs) p [])
    begins = each-pool (λ (p : ℕ) (c : Core C) l. begin p ≤ length l)
        (let a = kept.standing.begins q lt in let b = length-append (of q) made in omega (arith, a, b))
        (λ p ne below. kept.standing.begins p below)

    rest : (p : ℕ) → p < length g.pools → RestFlat levels (pool_in p g).idle
    rest = each-pool (λ (p : ℕ) (c : Core C) l. RestFlat levels c.idle)
        (subst (RestFlat levels) (sym own_idle) (leaves.rest (kept.standing.rest q lt)))
        (λ p ne below. subst (RestFlat levels) (sym (other_idle p ne)) (kept.standing.rest p below))

    room_at : (p : ℕ) → p < length g.pools → length (get_or (with_made q made logs) p []) + marks_due (pool_in p g) ≤ get_or now_capacities p 0
    room_at p below = elim (eqb_tells p q) [
      | inl is ↦ subst (λ (n : ℕ). length (get_or (with_made q made logs) n []) + marks_due (pool_in n g) ≤ get_or now_capacities n 0) (sym is.1)
          (let a = ap length here in let b = length-append (of q) made in let c = balance.paid in omega (arith, a, b, c, enough))
      | inr is ↦ let a = ap length (there p is.1) in let b = other_due p is.1 in let c = others p is.1 in let d = kept.room p (was_named p below) in omega (arith, a, b, c, d)
    ]

    most : maximum_of g ≡ max
    most = elim (eqb_tells 0 q) [
      | inl is ↦ subst (λ (n : ℕ). (pool_in n g).options.max_connections ≡ (pool_in n f).options.max_connections) (sym is.1) (ap (λ (o : PoolOptions). o.max_connections) own_options) ∙ kept.standing.most
      | inr is ↦ ap (λ (o : PoolOptions). o.max_connections) (other_options 0 is.1) ∙ kept.standing.most
    ]

    fits : (p : ℕ) → p < length g.pools → (pool_in p g).options.max_connections ≤ max
    fits = each-pool (λ (p : ℕ) (c : Core C) l. c.options.max_connections ≤ max)
        (let a = ap (λ (o : PoolOptions). o.max_connections) own_options in let b = kept.standing.fits q lt in omega (arith, a, b))
        (λ p ne below. let a = ap (λ (o : PoolOptions). o.max_connections) (other_options p ne) in let b = kept.standing.fits p below in omega (arith, a, b))

    held : sum_by held_in g.pools + held_in (entry_of q f) ≡ sum_by held_in f.pools + held_in (entry_of q g)
    held = sum-but held_in no_pool f.pools g.pools q lt replaces.names (λ p ne. ap (λ (c : Core C). length c.held) (replaces.others p ne).1)

    tickets : sum_by tickets_in g.pools + tickets_in (entry_of q f) ≡ sum_by tickets_in f.pools + tickets_in (entry_of q g)
    tickets = sum-but tickets_in no_pool f.pools g.pools q lt replaces.names (λ p ne. ap (λ (c : Core C). length c.tickets) (replaces.others p ne).1)

    loans : sum_by lents (with_made q made logs) + lents (of q) ≡ sum_by lents logs + lents (of q ++ made)
    loans = sum_by-set lents logs q (of q ++ made) [] lt_logs

    asked_now : sum_by tickets_in g.pools + 1 ≤ g.shared.next_ticket
    asked_now = let a = balance.tickets in let b = balance.numbers in let c = kept.asked in let d = tickets in omega (arith, a, b, c, d)

    few_now : (lents made ≤ ends made) ⊎ (now_booked.made ≤ 2 ^ 62) → now_booked.made + sum_by tickets_in g.pools + 1 ≤ 2 ^ 62 + g.shared.next_ticket
    few_now (inl le) = let a = balance.tickets in let b = balance.numbers in let c = kept.few in let d = tickets in let e = books.made_is in omega (arith, a, b, c, d, e, le)
    few_now (inr le) = let a = asked_now in omega (arith, a, le)

    pub stepped : IsKept levels max cuts (family_state g (with_made q made logs) starts now_connect now_booked) now_capacities
    stepped = record {
      standing = record {
        each = let a = length-set logs q (of q ++ made) in let b = kept.standing.each in let c = replaces.names in omega (arith, a, b, c);
        each_start = let b = kept.standing.each_start in let c = replaces.names in omega (arith, b, c);
        stand = λ p below. subst (StandsIn (pool_in p g)) (sym (grown p)) (together.stand p below);
        numbered = numbered-same g (with_marks q made of) (λ r. get_or (with_made q made logs) r []) (λ p below. grown p) (together.numbered kept.standing.numbered);
        safe = safe;
        begins = begins;
        uncut = λ never p below. kept.standing.uncut never p (was_named p below);
        rest = rest;
        most = most;
        fits = fits;
        owned = let a = books.owned in let b = kept.standing.owned in let c = balance.held in let d = held in omega (arith, a, b, c, d);
        made = let a = books.made_is in let b = kept.standing.made in let c = loans in let d = count-append is_lent (of q) made in omega (arith, a, b, c, d);
      };
      asked = asked_now;
      few = few_now books.few;
      room = room_at;
    }

-- The same, where the logs are vectors: a step of the pool whose log was written to.
module _ {C O : Type 0} {levels : C → ℕ} {max : ℕ} {cuts : Bool} {f : Pools C} {starts : List LogStart} {connect : O} {booked : Booked} (logs : List (PackedRow)) (kept : IsKept levels max cuts (family_state f (map marks_of logs) starts connect booked) (map room_of logs))
    (q : ℕ) (lt : q < length f.pools) (log : PackedRow) (is : log ≡ get_or logs q log) where
  pub in-logs : q < length logs
  in-logs = let a = kept.standing.each in let b = length-map logs marks_of in omega (arith, lt, a, b)

  -- the pool's log has room for what is due
  pub room-there : length (marks_of log) + marks_due (pool_in q f) ≤ room_of log
  room-there = let a = kept.room q lt in let b = ap length (items-at logs q log in-logs is) in let c = capacity-at logs q log in-logs is in omega (arith, a, b, c)

  -- the logs grow by what is written behind it
  pub logs-written : (now : PackedRow) (made : List Mark) → marks_of now ≡ marks_of log ++ made → map marks_of (slice_set logs q now) ≡ with_made q made (map marks_of logs)
  logs-written now made grew = logs-grow logs q log in-logs is now made grew

  pub written : {core : Core C} {g : Pools C} {made : List Mark} {backs room : ℕ} → Replaces q f core g → FamilyLogs f q made g → Balance (pool_in q f) (pool_in q g) made backs room → Leaves levels (pool_in q f) core
      → (connect : O) {now_booked : Booked} → Books booked now_booked made backs → (now : PackedRow) → marks_of now ≡ marks_of log ++ made → length (marks_of log) + marks_due (pool_in q f) + room ≤ room_of now
      → IsKept levels max cuts (family_state g (map marks_of (slice_set logs q now)) starts connect now_booked) (map room_of (slice_set logs q now))
  written {core} {g} {made} {backs} {room} replaces makes balance leaves connect {now_booked} books now grew enough =
      subst (λ (l : List (List Mark)). IsKept levels max cuts (family_state g l starts connect now_booked) (map room_of (slice_set logs q now))) (sym (logs-grow logs q log in-logs is now made grew))
      (stepped kept q lt core g made backs room replaces makes balance leaves connect now_booked books (map room_of (slice_set logs q now))
      (λ p ne. ap (λ (l : List ℕ). get_or l p 0) (map-set room_of logs q now) ∙ get_or-set_other (map room_of logs) q p (room_of now) 0 ne)
      (let a = ap length (items-at logs q log in-logs is) in
      let within : q < length (map room_of logs) = (let b = length-map logs room_of in let c = in-logs in omega (arith, b, c)) in
      let here : get_or (map room_of (slice_set logs q now)) q 0 ≡ room_of now = ap (λ (l : List ℕ). get_or l q 0) (map-set room_of logs q now) ∙ get_or-set_same (map room_of logs) q (room_of now) 0 within in
      omega (arith, a, here, enough)))

  -- so for marks into the room that is there
  pub written-within : {core : Core C} {g : Pools C} {made : List Mark} {backs : ℕ} → Replaces q f core g → FamilyLogs f q made g → Balance (pool_in q f) (pool_in q g) made backs 0 → Leaves levels (pool_in q f) core
      → (connect : O) {now_booked : Booked} → Books booked now_booked made backs → (now : PackedRow) → marks_of now ≡ marks_of log ++ made → room_of log ≤ room_of now
      → IsKept levels max cuts (family_state g (map marks_of (slice_set logs q now)) starts connect now_booked) (map room_of (slice_set logs q now))
  written-within replaces makes balance leaves connect books now grew capacity = written replaces makes balance leaves connect books now grew (let room = room-there in omega (arith, room, capacity))

-- the marks of a place that is held
pub held-marks : {C : Type 0} (places : ℕ) → 1 ≤ places → (closed : Bool) (n m : ℕ) (raw : Option C) → done_if_marks (not (places == 0)) closed n m raw ≡ done_marks closed n m raw
held-marks places some closed n m raw = elim (eqb_tells places 0) [
  | inl is ↦ absurd (let e = is.1 in omega (arith, e, some))
  | inr is ↦ by (places == 0) is.0
]
  where
    by : (b : Bool) → b ≡ false → done_if_marks (not b) closed n m raw ≡ done_marks closed n m raw
    by false e = refl
    by true e = absurd cc

-- a place takes no more room than is reserved for it
pub place-few : (held : Bool) → place_room held ≤ 3
place-few true = omega arith
place-few false = omega arith

-- what a test lends was accepted
after-flat : {C : Type 0} (levels : C → ℕ) (next : Bool) (idle : List (Idle C)) → IfTestLends (after_refusal next idle) (λ lent. levels lent.raw ≡ 0)
after-flat levels true (i ∷ rest) = tt
after-flat levels true [] = tt
after-flat levels false idle = tt

pub test-flat : {C : Type 0} (levels : C → ℕ) (created : Option Moment) (closed next : Bool) (idle : List (Idle C)) (verdict : Verdict C) → IfAccepted verdict (λ raw. levels raw ≡ 0) → IfTestLends (test_answer created closed next idle verdict) (λ lent. levels lent.raw ≡ 0)
test-flat levels None closed next idle verdict flat = tt
test-flat levels (Some created) true next idle verdict flat = tt
test-flat levels (Some created) false next idle (verdict.Accepted lent) flat = flat
test-flat levels (Some created) false next idle (verdict.Refused c) flat = after-flat levels next idle
