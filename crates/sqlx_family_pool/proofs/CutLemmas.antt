-- The value under the lock stands where the log of one pool was cut, or got a limit.
use Rattle.std.proofs.Common.{◌≡◌, ◌≢◌, ℕ, ◌+◌, ◌^◌, ◌<◌, ◌≤◌, inl, inr, Bool, true, false, max, Option, Some, None, IfSome, List, [], map, length, get_or, take, drop, cond, refl, sym, ap, ◌∙◌, subst, arith}
use Rattle.std.specs.Prelude.{slice_set}
use Rattle.std.proofs.Math.Seq.{drop-length}
use Rattle.std.proofs.lemmas.Bool.{ne_eqb}
use Rattle.std.proofs.lemmas.Bool.Decides.{eqb_tells, leb_tells}
use Rattle.std.proofs.lemmas.List.{get_or-set_same, get_or-set_other, get_or_default, get_or_past, map-set, length-set, length-map}
use Rattle.std.proofs.lemmas.List.Sums.{sum_by-set, get_or-le-sum_by}
use Rattle.sqlx_pool_marks.specs.declared.mark.Mark.{Mark}
use Rattle.sqlx_pool_marks.specs.FairLog.{IsSafe}
use Rattle.sqlx_pool_marks.proofs.ListFacts.{same_number}
use Rattle.sqlx_pool_log.specs.PackedLog.{PackedRow, marks_of, room_of}
use Rattle.sqlx_pool_lists.specs.Balance.{lents, marks_due}
use Rattle.sqlx_pool_lists.specs.StandsFor.{StandsIn}
use Rattle.sqlx_pool_parts.specs.declared.log_start.LogStart.{LogStart}
use Rattle.sqlx_pool_parts.specs.LogStart.{is_long}
use Rattle.sqlx_pool_parts.specs.Booked.{Booked}
use Rattle.sqlx_pool_parts.specs.State.{no_start}
use Rattle.sqlx_family.specs.Pools.{Pools, pool_in}
use Rattle.sqlx_family.specs.IsFamily.{IsFamily}
use Rattle.sqlx_family.proofs.LogLemmas.{numbered-same}
use Rattle.sqlx_family_steps.specs.FamilyCut.{FamilyCuts, cut_in, start_cut, with_cut}
use Rattle.sqlx_family_pool.specs.FamilyState.{FamilyState, IsWithinLimitIn, cut_at, limited_at, since_start_in, family_state, forgotten, start_at, log_of, IsStanding, IsKept}
use Rattle.sqlx_family_pool.proofs.StepLemmas.{items-at, capacity-at, in-logs}

module _ {C O : Type 0} {levels : C → ℕ} {max : ℕ} {cuts : Bool} {f : Pools C} {starts : List LogStart} {connect : O} {booked : Booked} (logs : List (PackedRow)) (kept : IsKept levels max cuts (family_state f (map marks_of logs) starts connect booked) (map room_of logs))
    (q : ℕ) (lt : q < length f.pools) where
  pub in-starts : q < length starts
  in-starts = let a = kept.standing.each_start in omega (arith, lt, a)

  start-is : (start : LogStart) → start ≡ get_or starts q start → get_or starts q no_start ≡ start
  start-is start e = get_or_default starts q no_start start in-starts ∙ sym e

  -- a log's loans and those that it tells no more have a number
  pub few-loans : IsFamily f → (log : PackedRow) → log ≡ get_or logs q log → (start : LogStart) → start ≡ get_or starts q start → start.lent_before + lents (marks_of log) < 2 ^ 64
  few-loans bounds log is start begun =
      let a = get_or-le-sum_by forgotten starts q no_start in-starts in
      let within : q < length (map marks_of logs) = (let e = kept.standing.each in omega (arith, lt, e)) in
      let b = get_or-le-sum_by lents (map marks_of logs) q [] within in
      let c = ap lents (items-at logs q log (in-logs logs kept q lt log is) is) in
      let d = ap forgotten (start-is start begun) in
      let made = kept.standing.made in
      let few = kept.few in
      let numbers = bounds.few_tickets in
      omega (arith, a, b, c, d, made, few, numbers)

  -- the log of this pool was cut
  module _ (log now : PackedRow) (is : log ≡ get_or logs q log) (left : marks_of now ≡ cut_in f.shared (marks_of log)) (start after : LogStart) (begun : start ≡ get_or starts q start) (begins : after ≡ start_cut start (marks_of log) (marks_of now))
      (stands : FamilyCuts f q) (loans : after.lent_before + lents (marks_of now) ≡ start.lent_before + lents (marks_of log)) (room : room_of log + length (marks_of now) ≤ room_of now + length (marks_of log)) (may : cuts ≡ true) where
    abbrev of : ℕ → List Mark
    of r = get_or (map marks_of logs) r []

    abbrev cut_logs : List (List Mark)
    cut_logs = slice_set (map marks_of logs) q (marks_of now)

    abbrev cut_starts : List LogStart
    cut_starts = slice_set starts q after

    within : q < length (map marks_of logs)
    within = let e = kept.standing.each in omega (arith, lt, e)

    here : get_or cut_logs q [] ≡ marks_of now
    here = get_or-set_same (map marks_of logs) q (marks_of now) [] within

    there : (p : ℕ) → p ≢ q → get_or cut_logs p [] ≡ of p
    there p ne = get_or-set_other (map marks_of logs) q p (marks_of now) [] ne

    start_here : get_or cut_starts q no_start ≡ after
    start_here = get_or-set_same starts q after no_start in-starts

    start_there : (p : ℕ) → p ≢ q → get_or cut_starts p no_start ≡ get_or starts p no_start
    start_there p ne = get_or-set_other starts q p after no_start ne

    long : after.len ≡ length (marks_of now)
    long = ap (λ (s : LogStart). s.len) begins

    log_here : of q ≡ marks_of log
    log_here = items-at logs q log (in-logs logs kept q lt log is) is

    -- what is said of where each pool's log begins, and of the log
    each-pool : (P : ℕ → LogStart → List Mark → Type 0) → P q after (marks_of now) → ((p : ℕ) → p ≢ q → p < length f.pools → P p (get_or starts p no_start) (of p)) → (p : ℕ) → p < length f.pools → P p (get_or cut_starts p no_start) (get_or cut_logs p [])
    each-pool P own rest p below = elim (eqb_tells p q) [
      | inl same ↦ subst (λ (n : ℕ). P n (get_or cut_starts n no_start) (get_or cut_logs n [])) (sym same.1)
          (subst (λ (s : LogStart). P q s (get_or cut_logs q [])) (sym start_here) (subst (P q after) (sym here) own))
      | inr other ↦ subst (λ (s : LogStart). P p s (get_or cut_logs p [])) (sym (start_there p other.1)) (subst (P p (get_or starts p no_start)) (sym (there p other.1)) (rest p other.1 below))
    ]

    -- the logs by the pools' names
    cut_of_all : (p : ℕ) → get_or cut_logs p [] ≡ with_cut f.shared q of p
    cut_of_all p = elim (eqb_tells p q) [
      | inl same ↦ subst (λ (n : ℕ). get_or cut_logs n [] ≡ with_cut f.shared q of n) (sym same.1)
          (here ∙ left ∙ ap (cut_in f.shared) (sym log_here) ∙ sym (ap (λ (b : Bool). cond b (cut_in f.shared (of q)) (of q)) (same_number q)))
      | inr other ↦ there p other.1 ∙ sym (ap (λ (b : Bool). cond b (cut_in f.shared (of p)) (of p)) (ne_eqb p q other.1))
    ]

    cut-so : IsKept levels max cuts (family_state f cut_logs cut_starts connect booked) (map room_of (slice_set logs q now))
    cut-so = record {
      standing = record {
        each = let a = length-set (map marks_of logs) q (marks_of now) in let b = kept.standing.each in omega (arith, a, b);
        each_start = let a = length-set starts q after in let b = kept.standing.each_start in omega (arith, a, b);
        stand = λ p below. subst (StandsIn (pool_in p f)) (sym (cut_of_all p)) ((stands of kept.standing.stand).0 p below);
        numbered = numbered-same f (with_cut f.shared q of) (λ p. get_or cut_logs p []) (λ p below. cut_of_all p) ((stands of kept.standing.stand).1 kept.standing.numbered);
        safe = each-pool (λ p (s : LogStart) l. IsSafe (pool_in p f).options.max_connections (take s.len l) (drop s.len l))
            (subst (IsSafe (pool_in q f).options.max_connections (take after.len (marks_of now))) (sym (ap (λ (n : ℕ). drop n (marks_of now)) long ∙ drop-length (marks_of now))) tt)
            (λ p ne below. kept.standing.safe p below);
        begins = each-pool (λ p (s : LogStart) l. s.len ≤ length l) (omega (arith, long)) (λ p ne below. kept.standing.begins p below);
        uncut = λ never. absurd (let f = sym may ∙ never in cc);
        rest = kept.standing.rest;
        most = kept.standing.most;
        fits = kept.standing.fits;
        owned = kept.standing.owned;
        made = let a = sum_by-set forgotten starts q after no_start in-starts in let b = sum_by-set lents (map marks_of logs) q (marks_of now) [] within in
            let c = ap forgotten (start-is start begun) in let d = ap lents log_here in let e = kept.standing.made in omega (arith, a, b, c, d, e, loans);
      };
      asked = kept.asked;
      few = kept.few;
      room = λ p below. elim (eqb_tells p q) [
        | inl same ↦ subst (λ (n : ℕ). length (get_or cut_logs n []) + marks_due (pool_in n f) ≤ get_or (map room_of (slice_set logs q now)) n 0) (sym same.1)
            (let a = kept.room q lt in let b = ap length here in let c = ap length log_here in let d = capacity-at logs q log (in-logs logs kept q lt log is) is in
            let e = ap (λ (l : List ℕ). get_or l q 0) (map-set room_of logs q now) ∙ get_or-set_same (map room_of logs) q (room_of now) 0 (let g = length-map logs room_of in let h = in-logs logs kept q lt log is in omega (arith, g, h)) in
            omega (arith, a, b, c, d, e, room))
        | inr other ↦ let a = kept.room p below in let b = ap length (there p other.1) in
            let c = ap (λ (l : List ℕ). get_or l p 0) (map-set room_of logs q now) ∙ get_or-set_other (map room_of logs) q p (room_of now) 0 other.1 in omega (arith, a, b, c)
      ];
    }

    pub cut-kept : IsKept levels max cuts (family_state f (map marks_of (slice_set logs q now)) (slice_set starts q after) connect booked) (map room_of (slice_set logs q now))
    cut-kept = subst (λ (l : List (List Mark)). IsKept levels max cuts (family_state f l cut_starts connect booked) (map room_of (slice_set logs q now))) (sym (map-set marks_of logs q now)) cut-so

    -- the value is the one of which this log was cut
    pub cut-is : family_state f (map marks_of (slice_set logs q now)) (slice_set starts q after) connect booked ≡ cut_at q (family_state f (map marks_of logs) starts connect booked)
    cut-is =
        let items : marks_of now ≡ cut_in f.shared (of q) = left ∙ ap (cut_in f.shared) (sym log_here) in
        let begin : after ≡ start_cut (get_or starts q no_start) (of q) (cut_in f.shared (of q)) =
        begins ∙ ap (λ (s : LogStart). start_cut s (marks_of log) (marks_of now)) (sym (start-is start begun)) ∙ ap (λ (l : List Mark). start_cut (get_or starts q no_start) l (marks_of now)) (sym log_here) ∙ ap (start_cut (get_or starts q no_start) (of q)) items in
        ap (λ (l : List (List Mark)). family_state f l (slice_set starts q after) connect booked) (map-set marks_of logs q now ∙ ap (slice_set (map marks_of logs) q) items)
        ∙ ap (λ (s : LogStart). family_state f (slice_set (map marks_of logs) q (cut_in f.shared (of q))) (slice_set starts q s) connect booked) begin

  -- the log of this pool got a limit
  module _ (start : LogStart) (begun : start ≡ get_or starts q start) (limit : Option ℕ) (may : cuts ≡ true) where
    abbrev limited : LogStart
    limited = record start { limit = limit }

    limits : (P : ℕ → LogStart → Type 0) → P q limited → ((p : ℕ) → p ≢ q → p < length f.pools → P p (get_or starts p no_start)) → (p : ℕ) → p < length f.pools → P p (get_or (slice_set starts q limited) p no_start)
    limits P own rest p below = elim (eqb_tells p q) [
      | inl same ↦ subst (λ (n : ℕ). P n (get_or (slice_set starts q limited) n no_start)) (sym same.1) (subst (P q) (sym (get_or-set_same starts q limited no_start in-starts)) own)
      | inr other ↦ subst (P p) (sym (get_or-set_other starts q p limited no_start other.1)) (rest p other.1 below)
    ]

    pub limit-kept : IsKept levels max cuts (family_state f (map marks_of logs) (slice_set starts q limited) connect booked) (map room_of logs)
    limit-kept = record {
      standing = record {
        each = kept.standing.each;
        each_start = let a = length-set starts q limited in let b = kept.standing.each_start in omega (arith, a, b);
        stand = kept.standing.stand;
        numbered = kept.standing.numbered;
        safe = limits (λ p (s : LogStart). IsSafe (pool_in p f).options.max_connections (take s.len (get_or (map marks_of logs) p [])) (drop s.len (get_or (map marks_of logs) p [])))
            (subst (λ (s : LogStart). IsSafe (pool_in q f).options.max_connections (take s.len (get_or (map marks_of logs) q [])) (drop s.len (get_or (map marks_of logs) q []))) (start-is start begun) (kept.standing.safe q lt))
            (λ p ne below. kept.standing.safe p below);
        begins = limits (λ p (s : LogStart). s.len ≤ length (get_or (map marks_of logs) p [])) (let a = kept.standing.begins q lt in let b = ap (λ (s : LogStart). s.len) (start-is start begun) in omega (arith, a, b)) (λ p ne below. kept.standing.begins p below);
        uncut = λ never. absurd (let f = sym may ∙ never in cc);
        rest = kept.standing.rest;
        most = kept.standing.most;
        fits = kept.standing.fits;
        owned = kept.standing.owned;
        made = let a = sum_by-set forgotten starts q limited no_start in-starts in let c = ap forgotten (start-is start begun) in let e = kept.standing.made in omega (arith, a, c, e);
      };
      asked = kept.asked;
      few = kept.few;
      room = kept.room;
    }

    pub limit-is : family_state f (map marks_of logs) (slice_set starts q limited) connect booked ≡ limited_at q limit (family_state f (map marks_of logs) starts connect booked)
    limit-is = ap (λ (s : LogStart). family_state f (map marks_of logs) (slice_set starts q (record s { limit = limit })) connect booked) (sym (start-is start begun))

-- ---- a pool that nobody added

module _ {C O : Type 0} {levels : C → ℕ} {max : ℕ} {cuts : Bool} {state : FamilyState C O} (s : IsStanding levels max cuts state) (q : ℕ) (past : length state.family.pools ≤ q) where
  -- its log never begins
  pub no-start : start_at state q ≡ no_start
  no-start = get_or_past state.starts q no_start (let a = s.each_start in omega (arith, a, past))

  -- it has no log
  pub no-log : log_of state q ≡ []
  no-log = get_or_past state.logs q [] (let a = s.each in omega (arith, a, past))

-- a log that is to be cut may be
pub long-cuts : {C O : Type 0} {levels : C → ℕ} {max : ℕ} {cuts : Bool} {state : FamilyState C O} → IsStanding levels max cuts state → (q : ℕ) → is_long (start_at state q) (length (log_of state q)) ≡ true → cuts ≡ true
long-cuts {cuts = true} {state = state} s q is = refl
long-cuts {cuts = false} {state = state} s q is = elim (leb_tells (length state.family.pools) q) [
  | inl past ↦ never (no-start s q past.1)
  | inr lt ↦ never (s.uncut refl q lt.1)
]
  where
    never : start_at state q ≡ no_start → false ≡ true
    never e = absurd (let f = sym (ap (λ (b : LogStart). is_long b (length (log_of state q))) e) ∙ is in cc)

-- and it is that of a pool
pub long-named : {C O : Type 0} {levels : C → ℕ} {max : ℕ} {cuts : Bool} {state : FamilyState C O} → IsStanding levels max cuts state → (q : ℕ) → is_long (start_at state q) (length (log_of state q)) ≡ true → q < length state.family.pools
long-named {state = state} s q is = elim (leb_tells (length state.family.pools) q) [
  | inl past ↦ absurd (let e = no-start s q past.1 in let f = sym (ap (λ (b : LogStart). is_long b (length (log_of state q))) e) ∙ is in cc)
  | inr lt ↦ lt.1
]

-- behind a cut nothing stands behind the start
pub cut-within : {C O : Type 0} {levels : C → ℕ} {max : ℕ} {cuts : Bool} {state : FamilyState C O} → IsStanding levels max cuts state → (q : ℕ) → q < length state.family.pools → IsWithinLimitIn (cut_at q state) q
cut-within {state = state} s q lt =
    let left = cut_in state.family.shared (log_of state q) in
    let now = start_cut (start_at state q) (log_of state q) left in
    let start : start_at (cut_at q state) q ≡ now = get_or-set_same state.starts q now no_start (let a = s.each_start in omega (arith, a, lt)) in
    let log : log_of (cut_at q state) q ≡ left = get_or-set_same state.logs q left [] (let a = s.each in omega (arith, a, lt)) in
    let none : length (since_start_in (cut_at q state) q) ≡ 0 =
    ap (λ (b : LogStart). length (drop b.len (log_of (cut_at q state) q))) start ∙ ap (λ (l : List Mark). length (drop (length left) l)) log ∙ ap length (drop-length left) in
    by (length (since_start_in (cut_at q state) q)) (start_at (cut_at q state) q).len (start_at (cut_at q state) q).limit none
  where
    by : (n m : ℕ) (limit : Option ℕ) → n ≡ 0 → IfSome limit (λ l. n ≤ max l m)
    by n m None none = tt
    by n m (Some l) none = omega (arith, none)
