-- A new family, a new child, and a pool that only heard of its family or whose log only got room.
use Rattle.std.proofs.Common.{◌≡◌, ◌⊎◌, ℕ, zero, suc, ◌+◌, ◌<◌, ◌≤◌, ◌||◌, inl, inr, Bool, false, List, [], ◌∷◌, ◌++◌, map, length, get_or, le_of_eq, take, drop, refl, sym, ap, ◌∙◌, subst, arith}
use Rattle.std.specs.Prelude.{slice_set}
use Rattle.std.proofs.lemmas.Bool.Decides.{eqb_tells}
use Rattle.std.proofs.lemmas.List.{get_or-set_same, get_or-set_other, get_or_append_left, get_or_push, map-set, length-map, length-append, append-nil, get_or-map, map-append}
use Rattle.std.proofs.Math.Seq.{map-set_same}
use Rattle.std.proofs.lemmas.List.Elements.{All-nil}
use Rattle.std.proofs.lemmas.List.Sums.{sum_by_push}
use Rattle.sqlx_pool_marks.specs.declared.mark.Mark.{Mark}
use Rattle.sqlx_pool_marks.specs.Marks.{next_ticket, next_conn}
use Rattle.sqlx_pool_marks.specs.FairLog.{IsSafe}
use Rattle.sqlx_pool_log.specs.PackedLog.{PackedRow, marks_of, room_of}
use Rattle.sqlx_pool_lists.specs.declared.shared.Shared.{Shared}
use Rattle.sqlx_pool_lists.specs.declared.options.PoolOptions.{PoolOptions}
use Rattle.sqlx_pool_lists.specs.Core.{Core}
use Rattle.sqlx_pool_lists.specs.Balance.{Balance, lents, marks_due}
use Rattle.sqlx_pool_lists.specs.StandsFor.{StandsIn}
use Rattle.sqlx_pool_lists.specs.Shared.{told, shared_of}
use Rattle.sqlx_family.specs.declared.family.FamilyPool.{FamilyPool}
use Rattle.sqlx_family.specs.NoPool.{no_pool}
use Rattle.sqlx_family.specs.Pools.{Pools, entry_of, root_of, counts_as_closed, pool_in, with_pool, new_pool, new_family, with_child}
use Rattle.sqlx_family.specs.IsFamily.{IsFamily}
use Rattle.sqlx_family.specs.FamilyLogs.{IsNext, FamilyLogs}
use Rattle.sqlx_family.proofs.LogLemmas.{stand-stepped, numbered-stepped, numbered-of, numbered-by}
use Rattle.sqlx_pool_parts.specs.Booked.{Booked}
use Rattle.sqlx_pool_parts.specs.declared.log_start.LogStart.{LogStart}
use Rattle.sqlx_pool_parts.specs.State.{RestFlat, no_start}
use Rattle.sqlx_family_pool.specs.FamilyState.{family_state, forgotten, held_in, tickets_in, IsKept}
use Rattle.sqlx_pool.proofs.StepLemmas.{kept-books}
use Rattle.sqlx_family_pool.proofs.Replaces.{Replaces, replaces-with}
use Rattle.sqlx_family_pool.proofs.StepLemmas.{in-logs, written-within}

-- ---- a new pool

new-stands : {C : Type 0} (options : PoolOptions) (n : ℕ) (closed : Bool) (h : Shared) → 1 ≤ h.next_ticket → 1 ≤ h.next_conn → StandsIn (told closed h (new_pool {C = C} options n).core) []
new-stands options n closed h tickets conns = record {
  tickets = refl;
  loans = refl;
  idle = refl;
  leaked = refl;
  shut = refl;
  ticket_number = omega (arith, tickets);
  conn_number = omega (arith, conns);
  named = All-nil _;
  held_born = All-nil _;
  idle_born = All-nil _;
  tested_born = All-nil _;
}

-- a family of one root
module _ {C O : Type 0} (levels : C → ℕ) (max : ℕ) (cuts : Bool) (connect : O) (booked : Booked) where
  begun-so : (options : PoolOptions) → options.max_connections ≡ max → booked ≡ record { owned = 0; made = 0 } → (room : ℕ) → marks_due (pool_in 0 (new_family {C = C} options)) ≤ room
      → IsKept levels max cuts (family_state (new_family {C = C} options) ([] ∷ []) (no_start ∷ []) connect booked) (room ∷ [])
  begun-so options most empty room enough =
      let owned : booked.owned ≡ 0 = ap (λ (b : Booked). b.owned) empty in
      let made : booked.made ≡ 0 = ap (λ (b : Booked). b.made) empty in
      record {
        standing = record {
          each = refl;
          each_start = refl;
          stand = only (λ q. StandsIn (pool_in q (new_family {C = C} options)) (get_or ([] ∷ []) q [])) (new-stands options options.max_connections (counts_as_closed 0 (new_family {C = C} options)) (new_family {C = C} options).shared (omega arith) (omega arith));
          numbered = numbered-of (new_family {C = C} options) (λ q. get_or ([] ∷ []) q []) (first next_ticket refl, first next_conn refl);
          safe = only (λ q. let begun = (get_or (no_start ∷ []) q no_start).len in let log = get_or ([] ∷ []) q [] in IsSafe (pool_in q (new_family {C = C} options)).options.max_connections (take begun log) (drop begun log)) tt;
          begins = only (λ q. (get_or (no_start ∷ []) q no_start).len ≤ length (get_or {A = List Mark} ([] ∷ []) q [])) (omega arith);
          uncut = λ never. only (λ q. get_or (no_start ∷ []) q no_start ≡ no_start) refl;
          rest = only (λ q. RestFlat levels (pool_in q (new_family {C = C} options)).idle) (All-nil _);
          most = most;
          fits = only (λ q. (pool_in q (new_family {C = C} options)).options.max_connections ≤ max) (le_of_eq most);
          owned = owned;
          made = made;
        };
        asked = omega arith;
        few = omega (arith, made);
        room = only (λ q. length (get_or {A = List Mark} ([] ∷ []) q []) + marks_due (pool_in q (new_family {C = C} options)) ≤ get_or (room ∷ []) q 0) (omega (arith, enough));
      }
    where
      -- the one pool
      only : (P : ℕ → Type 0) → P 0 → (q : ℕ) → q < 1 → P q
      only P is zero below = is
      only P is (suc q) below = absurd (omega (arith, below))

      first : (next : List Mark → ℕ) → next [] ≡ 1 → IsNext next (λ q. get_or ([] ∷ []) q []) 1 1
      first next none = record { most = only (λ q. next (get_or ([] ∷ []) q []) ≤ 1) (le_of_eq none); one = (0, (omega arith, none)) }

module _ {C O : Type 0} (levels : C → ℕ) (max : ℕ) (cuts : Bool) (connect : O) (booked : Booked) where
  pub begun : (f : Pools C) (options : PoolOptions) → f ≡ new_family options → options.max_connections ≡ max → booked ≡ record { owned = 0; made = 0 } → (logs : List (PackedRow)) (log : PackedRow) → logs ≡ log ∷ [] → marks_of log ≡ [] → (starts : List LogStart) → starts ≡ no_start ∷ []
      → marks_due (pool_in 0 f) ≤ room_of log → IsKept levels max cuts (family_state f (map marks_of logs) starts connect booked) (map room_of logs)
  begun f options new most empty logs log one none starts first enough =
      subst (λ (f : Pools C). marks_due (pool_in 0 f) ≤ room_of log → IsKept levels max cuts (family_state f (map marks_of logs) starts connect booked) (map room_of logs)) (sym new)
      (λ due. subst (λ (l : List LogStart). IsKept levels max cuts (family_state (new_family options) (map marks_of logs) l connect booked) (map room_of logs)) (sym first)
      (subst (λ (l : List (PackedRow)). IsKept levels max cuts (family_state (new_family options) (map marks_of l) (no_start ∷ []) connect booked) (map room_of l)) (sym one)
      (subst (λ (l : List Mark). IsKept levels max cuts (family_state (new_family options) (l ∷ []) (no_start ∷ []) connect booked) (room_of log ∷ [])) (sym none) (begun-so levels max cuts connect booked options most empty (room_of log) due)))) enough

  -- a family with one child more
  module _ (f : Pools C) (logs : List (PackedRow)) {starts : List LogStart} (kept : IsKept levels max cuts (family_state f (map marks_of logs) starts connect booked) (map room_of logs)) (bounds : IsFamily f) (options : PoolOptions) (small : options.max_connections ≤ max) (log : PackedRow) (none : marks_of log ≡ []) (some : 1 ≤ room_of log) where
    entry-old : (p : ℕ) → p < length f.pools → entry_of p (with_child options f) ≡ entry_of p f
    entry-old p lt = get_or_append_left f.pools (new_pool options 0 ∷ []) no_pool p lt

    pool-old : (p : ℕ) → p < length f.pools → pool_in p (with_child options f) ≡ pool_in p f
    pool-old p lt =
        ap (λ (e : FamilyPool C). told (e.core.shut || (root_of (with_child options f)).shut) f.shared e.core) (entry-old p lt)
        ∙ ap (λ (e : FamilyPool C). told ((entry_of p f).core.shut || e.core.shut) f.shared (entry_of p f).core) (entry-old 0 (let s = bounds.some in omega (arith, s)))

    -- what is said of where each pool's log begins, of the pool, its log and its room
    each-pool : (P : LogStart → Core C → List Mark → ℕ → Type 0) → ((p : ℕ) → p < length f.pools → P (get_or starts p no_start) (pool_in p f) (get_or (map marks_of logs) p []) (get_or (map room_of logs) p 0)) → ((c : Bool) → P no_start (told c f.shared (new_pool {C = C} options 0).core) [] (room_of log))
        → (p : ℕ) → p < length (with_child options f).pools → P (get_or (starts ++ no_start ∷ []) p no_start) (pool_in p (with_child options f)) (get_or (map marks_of logs ++ [] ∷ []) p []) (get_or (map room_of logs ++ room_of log ∷ []) p 0)
    each-pool P rest own p below = elim (eqb_tells p (length f.pools)) [
      | inl is ↦ subst (λ (n : ℕ). P (get_or (starts ++ no_start ∷ []) n no_start) (pool_in n (with_child options f)) (get_or (map marks_of logs ++ [] ∷ []) n []) (get_or (map room_of logs ++ room_of log ∷ []) n 0)) (sym is.1)
          (subst (λ (s : LogStart). P s (pool_in (length f.pools) (with_child options f)) (get_or (map marks_of logs ++ [] ∷ []) (length f.pools) []) (get_or (map room_of logs ++ room_of log ∷ []) (length f.pools) 0)) (sym (get_or_push starts no_start no_start (length f.pools) kept.standing.each_start))
          (subst (λ (e : FamilyPool C). P no_start (told (e.core.shut || (root_of (with_child options f)).shut) f.shared e.core) (get_or (map marks_of logs ++ [] ∷ []) (length f.pools) []) (get_or (map room_of logs ++ room_of log ∷ []) (length f.pools) 0)) (sym (get_or_push f.pools (new_pool options 0) no_pool (length f.pools) refl))
          (subst (λ (l : List Mark). P no_start (told (false || (root_of (with_child options f)).shut) f.shared (new_pool {C = C} options 0).core) l (get_or (map room_of logs ++ room_of log ∷ []) (length f.pools) 0)) (sym (get_or_push (map marks_of logs) [] [] (length f.pools) kept.standing.each))
          (subst (P no_start (told (false || (root_of (with_child options f)).shut) f.shared (new_pool {C = C} options 0).core) []) (sym (get_or_push (map room_of logs) (room_of log) 0 (length f.pools) (let a = kept.standing.each in let b = length-map logs marks_of in let c = length-map logs room_of in omega (arith, a, b, c))))
          (own (false || (root_of (with_child options f)).shut))))))
      | inr is ↦
          let lt : p < length f.pools = (let ne = is.1 in let long = length-append f.pools (new_pool {C = C} options 0 ∷ []) in omega (arith, below, ne, long)) in
          let a = kept.standing.each in
          let b = length-map logs marks_of in
          let c = length-map logs room_of in
          let d = kept.standing.each_start in
          subst (λ (s : LogStart). P s (pool_in p (with_child options f)) (get_or (map marks_of logs ++ [] ∷ []) p []) (get_or (map room_of logs ++ room_of log ∷ []) p 0)) (sym (get_or_append_left starts (no_start ∷ []) no_start p (omega (arith, lt, d))))
          (subst (λ (k : Core C). P (get_or starts p no_start) k (get_or (map marks_of logs ++ [] ∷ []) p []) (get_or (map room_of logs ++ room_of log ∷ []) p 0)) (sym (pool-old p lt))
          (subst (λ (l : List Mark). P (get_or starts p no_start) (pool_in p f) l (get_or (map room_of logs ++ room_of log ∷ []) p 0)) (sym (get_or_append_left (map marks_of logs) ([] ∷ []) [] p (omega (arith, lt, a))))
          (subst (P (get_or starts p no_start) (pool_in p f) (get_or (map marks_of logs) p [])) (sym (get_or_append_left (map room_of logs) (room_of log ∷ []) 0 p (omega (arith, lt, a, b, c)))) (rest p lt))))
    ]

    -- a log with no mark tells no number
    next-child : (next : List Mark → ℕ) (n : ℕ) → next [] ≤ n → IsNext next (λ p. get_or (map marks_of logs) p []) (length f.pools) n → IsNext next (λ p. get_or (map marks_of logs ++ [] ∷ []) p []) (length (with_child options f).pools) n
    next-child next n none known = record {
      most = each-pool (λ s k l m. next l ≤ n) (λ p lt. known.most p lt) (λ c. none);
      one = (
        known.one.0,
        (
          let long = length-append f.pools (new_pool {C = C} options 0 ∷ []) in let below = known.one.1.0 in omega (arith, below, long),
          ap next (get_or_append_left (map marks_of logs) ([] ∷ []) [] known.one.0 (let a = kept.standing.each in let below = known.one.1.0 in omega (arith, a, below))) ∙ known.one.1.1,
        ),
      );
    }

    grown : IsKept levels max cuts (family_state (with_child options f) (map marks_of logs ++ [] ∷ []) (starts ++ no_start ∷ []) connect booked) (map room_of logs ++ room_of log ∷ [])
    grown = record {
      standing = record {
        each = let a = length-append (map marks_of logs) ([] ∷ []) in let b = length-append f.pools (new_pool {C = C} options 0 ∷ []) in let c = kept.standing.each in omega (arith, a, b, c);
        each_start = let a = length-append starts (no_start ∷ []) in let b = length-append f.pools (new_pool {C = C} options 0 ∷ []) in let c = kept.standing.each_start in omega (arith, a, b, c);
        stand = each-pool (λ s k l n. StandsIn k l) (λ p lt. kept.standing.stand p lt) (λ c. new-stands options 0 c f.shared bounds.first_ticket bounds.first_conn);
        numbered = let known = numbered-by f (λ p. get_or (map marks_of logs) p []) kept.standing.numbered in
            numbered-of (with_child options f) (λ p. get_or (map marks_of logs ++ [] ∷ []) p []) (next-child next_ticket f.shared.next_ticket bounds.first_ticket known.0, next-child next_conn f.shared.next_conn bounds.first_conn known.1);
        safe = each-pool (λ (s : LogStart) k l n. IsSafe k.options.max_connections (take s.len l) (drop s.len l)) (λ p lt. kept.standing.safe p lt) (λ c. tt);
        begins = each-pool (λ (s : LogStart) k l n. s.len ≤ length l) (λ p lt. kept.standing.begins p lt) (λ c. omega arith);
        uncut = λ never. each-pool (λ (s : LogStart) k l n. s ≡ no_start) (λ p lt. kept.standing.uncut never p lt) (λ c. refl);
        rest = each-pool (λ s k l n. RestFlat levels k.idle) (λ p lt. kept.standing.rest p lt) (λ c. All-nil _);
        most = ap (λ (e : FamilyPool C). e.core.options.max_connections) (entry-old 0 (let s = bounds.some in omega (arith, s))) ∙ kept.standing.most;
        fits = each-pool (λ s k l n. k.options.max_connections ≤ max) (λ p lt. kept.standing.fits p lt) (λ c. small);
        owned = let a = sum_by_push held_in f.pools (new_pool {C = C} options 0) in let b = kept.standing.owned in omega (arith, a, b);
        made = let a = sum_by_push lents (map marks_of logs) [] in let b = kept.standing.made in let c = sum_by_push forgotten starts no_start in omega (arith, a, b, c);
      };
      asked = let a = sum_by_push tickets_in f.pools (new_pool {C = C} options 0) in let b = kept.asked in omega (arith, a, b);
      few = let a = sum_by_push tickets_in f.pools (new_pool {C = C} options 0) in let b = kept.few in omega (arith, a, b);
      room = each-pool (λ s k l n. length l + marks_due k ≤ n) (λ p lt. kept.room p lt) (λ c. omega (arith, some));
    }

    pub items-pushed : map marks_of (logs ++ log ∷ []) ≡ map marks_of logs ++ [] ∷ []
    items-pushed = map-append marks_of logs (log ∷ []) ∙ ap (λ (l : List Mark). map marks_of logs ++ l ∷ []) none

    pub child-added : (now : List (PackedRow)) → now ≡ logs ++ log ∷ [] → (begun_now : List LogStart) → begun_now ≡ starts ++ no_start ∷ [] → IsKept levels max cuts (family_state (with_child options f) (map marks_of now) begun_now connect booked) (map room_of now)
    child-added now e begun_now d =
        subst (λ (l : List LogStart). IsKept levels max cuts (family_state (with_child options f) (map marks_of now) l connect booked) (map room_of now)) (sym d)
        (subst (λ (l : List (PackedRow)). IsKept levels max cuts (family_state (with_child options f) (map marks_of l) (starts ++ no_start ∷ []) connect booked) (map room_of l)) (sym e)
        (subst (λ (l : List (List Mark)). IsKept levels max cuts (family_state (with_child options f) l (starts ++ no_start ∷ []) connect booked) (map room_of (logs ++ log ∷ []))) (sym (items-pushed))
        (subst (λ (l : List ℕ). IsKept levels max cuts (family_state (with_child options f) (map marks_of logs ++ [] ∷ []) (starts ++ no_start ∷ []) connect booked) l) (sym (map-append room_of logs (log ∷ []))) grown)))

-- ---- a log that only got room

pub reserved : {C O : Type 0} {levels : C → ℕ} {max : ℕ} {cuts : Bool} {f : Pools C} {starts : List LogStart} {connect : O} {booked : Booked} (logs : List (PackedRow)) → IsKept levels max cuts (family_state f (map marks_of logs) starts connect booked) (map room_of logs)
    → (q : ℕ) (log now : PackedRow) → q < length logs → log ≡ get_or logs q log → marks_of now ≡ marks_of log → room_of log ≤ room_of now
    → IsKept levels max cuts (family_state f (map marks_of (slice_set logs q now)) starts connect booked) (map room_of (slice_set logs q now))
reserved {levels = levels} {max = max} {cuts = cuts} {f = f} {starts = starts} {connect = connect} {booked = booked} logs kept q log now lt is items more =
    subst (λ (l : List (List Mark)). IsKept levels max cuts (family_state f l starts connect booked) (map room_of (slice_set logs q now))) (sym (map-set_same marks_of logs q now log (items ∙ ap marks_of is)))
    (subst (IsKept levels max cuts (family_state f (map marks_of logs) starts connect booked)) (sym (map-set room_of logs q now)) (record {
      standing = kept.standing;
      asked = kept.asked;
      few = kept.few;
      room = λ p below. elim (eqb_tells p q) [
        | inl same ↦ subst (λ (n : ℕ). length (get_or (map marks_of logs) n []) + marks_due (pool_in n f) ≤ get_or (slice_set (map room_of logs) q (room_of now)) n 0) (sym same.1)
            (let a = kept.room q (let e = same.1 in omega (arith, e, below)) in
            let long = length-map logs room_of in
            let b = get_or-set_same (map room_of logs) q (room_of now) 0 (omega (arith, long, lt)) in
            let c = get_or-map room_of logs q log 0 lt in
            let d = ap room_of is in
            omega (arith, a, b, c, d, more))
        | inr other ↦ let a = kept.room p below in let b = get_or-set_other (map room_of logs) q p (room_of now) 0 other.1 in omega (arith, a, b)
      ];
    }))

-- the marks are as they were
pub reserved-same : (logs : List (PackedRow)) (q : ℕ) (log now : PackedRow) → log ≡ get_or logs q log → marks_of now ≡ marks_of log → map marks_of (slice_set logs q now) ≡ map marks_of logs
reserved-same logs q log now is items = map-set_same marks_of logs q now log (items ∙ ap marks_of is)

-- ---- a pool that only heard of its family

module _ {C : Type 0} (q : ℕ) (f : Pools C) (lt : q < length f.pools) where
  pub heard-replaces : Replaces q f (pool_in q f) (with_pool q (pool_in q f) f)
  heard-replaces = replaces-with q (pool_in q f) f lt

  pub heard-makes : FamilyLogs f q [] (with_pool q (pool_in q f) f)
  heard-makes logs s = record {
    stand = stand-stepped f q (pool_in q f) [] logs lt s (subst (StandsIn (pool_in q f)) (sym (append-nil (logs q))) (s q lt)) (omega arith) (omega arith);
    numbered = λ known. numbered-stepped f q (pool_in q f) [] logs lt s (subst (StandsIn (pool_in q f)) (sym (append-nil (logs q))) (s q lt)) (omega arith) (omega arith) refl refl known;
    safe = tt;
  }

  pub heard-balance : Balance (pool_in q f) (pool_in q (with_pool q (pool_in q f) f)) [] 0 0
  heard-balance =
      subst (λ (e : FamilyPool C). Balance (pool_in q f) (told (counts_as_closed q (with_pool q (pool_in q f) f)) (shared_of (pool_in q f)) e.core) [] 0 0)
      (sym (get_or-set_same f.pools q (record { core = pool_in q f; retired = (entry_of q f).retired }) no_pool lt))
      (record { tickets = omega arith; numbers = omega arith; held = omega arith; paid = omega arith })

-- the value under the lock stands, where a pool only heard of its family, or not even that, and its log only got room
pub kept-maybe : {C O : Type 0} {levels : C → ℕ} {max : ℕ} {cuts : Bool} {f : Pools C} {starts : List LogStart} {connect : O} {booked : Booked} (logs : List (PackedRow)) → IsKept levels max cuts (family_state f (map marks_of logs) starts connect booked) (map room_of logs)
    → (q : ℕ) → q < length f.pools → (log now : PackedRow) → log ≡ get_or logs q log → marks_of now ≡ marks_of log → room_of log ≤ room_of now → {g : Pools C} → (g ≡ f) ⊎ (g ≡ with_pool q (pool_in q f) f)
    → IsKept levels max cuts (family_state g (map marks_of (slice_set logs q now)) starts connect booked) (map room_of (slice_set logs q now))
kept-maybe {levels = levels} {max = max} {cuts = cuts} {starts = starts} {connect = connect} {booked = booked} logs kept q lt log now is items more (inl same) =
    subst (λ (g : Pools _). IsKept levels max cuts (family_state g (map marks_of (slice_set logs q now)) starts connect booked) (map room_of (slice_set logs q now))) (sym same)
    (reserved logs kept q log now (in-logs logs kept q lt log is) is items more)
kept-maybe {levels = levels} {max = max} {cuts = cuts} {f = f} {starts = starts} {connect = connect} {booked = booked} logs kept q lt log now is items more (inr same) =
    subst (λ (g : Pools _). IsKept levels max cuts (family_state g (map marks_of (slice_set logs q now)) starts connect booked) (map room_of (slice_set logs q now))) (sym same)
    (written-within logs kept q lt log is (heard-replaces q f lt) (heard-makes q f lt) (heard-balance q f lt) (record { options = refl; rest = λ r. r }) connect (kept-books booked [] refl) now (items ∙ sym (append-nil (marks_of log))) more)
