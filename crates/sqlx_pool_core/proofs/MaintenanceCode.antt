-- What holds of every core's value holds after a reap, after the minimum and after a close.
use Rattle.std.proofs.Common.{◌≡◌, ℕ, ◌+◌, ◌-◌, ◌≤◌, List, [], ◌∷◌, ◌++◌, length, refl, ap, sym, ◌∙◌, arith, find, Bool, true, false, not, cond, count_by, Some, None, inl, inr, length-append}
use Rattle.std.proofs.lemmas.Bool.Decides.{eqb_tells}
use Rattle.sqlx_pool_lists.specs.declared.steps.Idle.{Idle}
use Rattle.sqlx_pool_lists.specs.Core.{Core}
use Rattle.sqlx_pool_lists.specs.Sound.{IsSound, rests}
use Rattle.sqlx_pool_lists.specs.Edits.{without_idle, is_another_idle}
use Rattle.sqlx_pool_lists.specs.MaintenanceSteps.{is_reaped_at, without_first, reaped}
use Rattle.sqlx_pool_marks.proofs.ListFacts.{found_counts, filter_none, length-filter_not, count_by-cons, same_number}
use Rattle.sqlx_pool_marks.proofs.Counting.{one, count-filter, count-push}
use Rattle.sqlx_pool_core.proofs.Soundness.{one-le}
use Rattle.sqlx_pool_lists.proofs.IdleQueues.{all-left}

-- ---- reaped

-- the first that passes, of connections that differ, is out alone
pub first-out : {C : Type 0} (p : Idle C → Bool) (xs : List (Idle C)) (i : Idle C) → find p xs ≡ Some i → count_by (rests i.lent.id) xs ≤ 1 → without_first p xs ≡ without_idle i.lent.id xs
first-out p [] i e h = absurd cc
first-out {C} p (x ∷ xs) i e h = by (first-out p xs i) (p x) e
  where
    c : ℕ
    c = i.lent.id

    parts : count_by (rests c) (x ∷ xs) ≡ cond (rests c x) 1 0 + count_by (rests c) xs
    parts = count_by-cons (rests c) x xs

    not_here : (b : Bool) → cond {A = ℕ} b 1 0 ≡ 0 → b ≡ false
    not_here true z = absurd (omega (arith, z))
    not_here false z = refl

    by : (find p xs ≡ Some i → count_by (rests c) xs ≤ 1 → without_first p xs ≡ without_idle c xs) → (b : Bool)
        → cond b (Some x) (find p xs) ≡ Some i → cond b xs (x ∷ without_first p xs) ≡ cond (not (rests c x)) (x ∷ without_idle c xs) (without_idle c xs)
    by rest true k =
        let here : x ≡ i = cc in
        let same : rests c x ≡ true = ap (rests c) here ∙ same_number c in
        let one : cond {A = ℕ} (rests c x) 1 0 ≡ 1 = ap (λ (b : Bool). cond {A = ℕ} b 1 0) same in
        let sum = parts in
        rw same (sym (filter_none (rests c) xs (omega (arith, h, sum, one))))
    by rest false k =
        let counts = found_counts p (rests c) xs i k (same_number c) in
        let sum = parts in
        let other : rests c x ≡ false = not_here (rests c x) (omega (arith, h, sum, counts)) in
        rw other (ap (λ l. x ∷ l) (rest k (omega (arith, h, sum))))

pub sound-without : {C : Type 0} (core : Core C) (c m : ℕ) → IsSound core → IsSound (record core { idle = without_idle c core.idle; last = m })
sound-without core c m s = record {
  some = s.some;
  few = s.few;
  tries = s.tries;
  few_tries = s.few_tries;
  rising = s.rising;
  within = let w = s.within in let l = length-filter_not (rests c) core.idle in omega (arith, w, l);
  paid = s.paid;
  owns = s.owns;
  own = s.own;
  few_tickets = s.few_tickets;
  numbers = s.numbers;
  once = λ d. let w = s.once d in let f = count-filter (rests d) (is_another_idle c) core.idle in omega (arith, w, f);
  opened = λ d n. let w = s.opened d n in let f = count-filter (rests d) (is_another_idle c) core.idle in omega (arith, w, f);
}

-- the idle list from which one was taken
pub reaping : {C : Type 0} (core : Core C) (i : Idle C) (idle : List (Idle C)) (m : ℕ) → IsSound core → Some i ≡ find (is_reaped_at core.options m) core.idle → idle ≡ without_first (is_reaped_at core.options m) core.idle
    → IsSound (record core { idle = idle; last = m }) × (record core { idle = idle; last = m } ≡ reaped m (Some i) core)
reaping core i idle m s is left =
    let w = s.once i.lent.id in
    let e = left ∙ first-out (is_reaped_at core.options m) core.idle i (sym is) (omega (arith, w)) in
    (rw e (sound-without core i.lent.id m s), rw e refl)

-- the idle list from which none was taken
pub reaping-none : {C : Type 0} (core : Core C) (idle : List (Idle C)) (m : ℕ) → IsSound core → None ≡ find (is_reaped_at core.options m) core.idle → idle ≡ without_first (is_reaped_at core.options m) core.idle
    → IsSound (record core { idle = idle }) × (record core { idle = idle } ≡ core)
reaping-none core idle m s is left =
    let e = left ∙ all-left (is_reaped_at core.options m) core.idle (sym is) in
    (rw e s, rw e refl)

-- ---- the minimum

pub sound-kept_new : {C : Type 0} (core : Core C) (i : Idle C) (idle : List (Idle C)) (m : ℕ) → IsSound core → 1 ≤ core.places → i.lent.id ≡ core.next_conn → idle ≡ core.idle ++ i ∷ []
    → IsSound (record core { idle = idle; places = core.places - 1; next_conn = core.next_conn + 1; last = m })
sound-kept_new core i idle m s placed new put =
    let l : length idle ≡ length core.idle + 1 = ap length put ∙ length-append core.idle (i ∷ []) in
    let count : (c : ℕ) → count_by (rests c) idle ≡ count_by (rests c) core.idle + one (rests c) i = λ c. ap (count_by (rests c)) put ∙ count-push (rests c) core.idle i in
    record {
      some = s.some;
      few = s.few;
      tries = s.tries;
      few_tries = s.few_tries;
      rising = s.rising;
      within = let w = s.within in omega (arith, w, l, placed);
      paid = let w = s.paid in omega (arith, w);
      owns = s.owns;
      own = s.own;
      few_tickets = s.few_tickets;
      numbers = omega arith;
      once = λ c. let w = s.once c in let p = count c in
          elim (eqb_tells c i.lent.id) [
            | inl is ↦ let z = s.opened c (omega (arith, is.1, new)) in let o = one-le (rests c) i in omega (arith, z, p, o)
            | inr is ↦ let o : one (rests c) i ≡ 0 = ap (λ (b : Bool). cond b 1 0) is.0 in omega (arith, w, p, o)
          ];
      opened = λ c n. let z = s.opened c (omega (arith, n)) in let p = count c in
          elim (eqb_tells c i.lent.id) [
            | inl is ↦ absurd (omega (arith, is.1, new, n))
            | inr is ↦ let o : one (rests c) i ≡ 0 = ap (λ (b : Bool). cond b 1 0) is.0 in omega (arith, z, p, o)
          ];
    }

-- ---- closed

pub sound-shut : {C : Type 0} (core : Core C) (idle : List (Idle C)) → IsSound core → idle ≡ [] → IsSound (record core { shut = true; closed = true; idle = idle })
sound-shut core idle s none =
    let l : length idle ≡ 0 = ap length none in
    let count : (c : ℕ) → count_by (rests c) idle ≡ 0 = λ c. ap (count_by (rests c)) none in
    record {
      some = s.some;
      few = s.few;
      tries = s.tries;
      few_tries = s.few_tries;
      rising = s.rising;
      within = let w = s.within in omega (arith, w, l);
      paid = s.paid;
      owns = s.owns;
      own = λ (e : true ≡ false). absurd cc;
      few_tickets = s.few_tickets;
      numbers = s.numbers;
      once = λ c. let w = s.once c in let k = count c in omega (arith, w, k);
      opened = λ c n. let w = s.opened c n in let k = count c in omega (arith, w, k);
    }
