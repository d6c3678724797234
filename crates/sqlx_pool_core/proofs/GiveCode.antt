-- What holds of every core's value holds after the steps that end a loan.
use Rattle.std.proofs.Common.{◌≡◌, ℕ, ◌+◌, ◌≤◌, ◌==◌, ◌&&◌, List, [], ◌∷◌, ◌++◌, length, refl, ap, sym, ◌∙◌, subst, arith, find, Bool, true, false, not, cond, count_by, Option, Some, None, is_some, IfSome, inl, inr, if◌then◌else◌, length-append}
use Rattle.std.proofs.lemmas.Bool.Decides.{eqb_tells}
use Rattle.sqlx_pool_lists.specs.declared.ticket.OwnedConn.{OwnedConn}
use Rattle.sqlx_pool_lists.specs.declared.steps.Idle.{Idle}
use Rattle.sqlx_pool_lists.specs.Core.{Core, loan_of, is_held_by}
use Rattle.sqlx_pool_lists.specs.Sound.{IsSound, holds, rests}
use Rattle.sqlx_pool_lists.specs.Edits.{without_loan, is_another_loan}
use Rattle.sqlx_pool_marks.proofs.Counting.{one, count-filter, count-push, count-cons}
use Rattle.sqlx_pool_core.proofs.Soundness.{one-le}

-- ---- what a look-up finds

find_at_head : {X : Type 0} (p : X → Bool) (x y : X) (xs : List X) → (find p xs ≡ Some x → p x ≡ true) → (b : Bool) → p y ≡ b → find p (y ∷ xs) ≡ Some x → p x ≡ true
find_at_head p x y xs rest true e found = let here : y ≡ x = let f : Some y ≡ Some x = rw e at found in cc in ap p (sym here) ∙ e
find_at_head p x y xs rest false e found = rest (rw e at found)

pub find-true : {X : Type 0} (p : X → Bool) (x : X) (xs : List X) → find p xs ≡ Some x → p x ≡ true
find-true p x [] found = absurd cc
find-true p x (y ∷ xs) found = find_at_head p x y xs (find-true p x xs) (p y) refl found

both_true : (a b : Bool) → (a && b) ≡ true → (a ≡ true) × (b ≡ true)
both_true true true e = (refl, refl)
both_true true false e = absurd cc
both_true false b e = absurd cc

eq_true : (a b : ℕ) → (a == b) ≡ true → a ≡ b
eq_true a b e = elim (eqb_tells a b) [ inl is ↦ is.1 | inr is ↦ absurd (let f : true ≡ false = sym e ∙ is.0 in cc) ]

pub loan-conn : (k c : ℕ) (h : OwnedConn) (held : List OwnedConn) → loan_of k c held ≡ Some h → c ≡ h.conn
loan-conn k c h held found = eq_true c h.conn (both_true (c == h.conn) (k == h.client) (find-true (is_held_by k c) h held found)).0

pub loan-client : (k c : ℕ) (h : OwnedConn) (held : List OwnedConn) → loan_of k c held ≡ Some h → k ≡ h.client
loan-client k c h held found = eq_true k h.client (both_true (c == h.conn) (k == h.client) (find-true (is_held_by k c) h held found)).1

pub loan-own-if : (k c : ℕ) (held : List OwnedConn) (o : Option OwnedConn) → o ≡ loan_of k c held → IfSome o (λ h. loan_of h.client h.conn held ≡ Some h)
loan-own-if k c held None e = tt
loan-own-if k c held (Some h) e =
    ap (λ (n : ℕ). loan_of h.client n held) (sym (loan-conn k c h held (sym e))) ∙ ap (λ (n : ℕ). loan_of n c held) (sym (loan-client k c h held (sym e))) ∙ sym e

pub loan-conn-if : (k c : ℕ) (held : List OwnedConn) (o : Option OwnedConn) → o ≡ loan_of k c held → IfSome o (λ h. h.conn ≡ c)
loan-conn-if k c held None e = tt
loan-conn-if k c held (Some h) e = sym (loan-conn k c h held (sym e))

-- ---- counts of loans

-- what a filter leaves and what it drops
left_at : {X : Type 0} (p : X → Bool) (x : X) (xs ys : List X) (b : Bool) → p x ≡ b → length ys + count_by p xs ≡ length xs → length (if not b then x ∷ ys else ys) + count_by p (x ∷ xs) ≡ length (x ∷ xs)
left_at p x xs ys true e h = let f = count-cons p x xs in let o : one p x ≡ 1 = ap (λ (b : Bool). cond b 1 0) e in omega (arith, f, o, h)
left_at p x xs ys false e h = let f = count-cons p x xs in let o : one p x ≡ 0 = ap (λ (b : Bool). cond b 1 0) e in omega (arith, f, o, h)

pub length-without : (c : ℕ) (held : List OwnedConn) → length (without_loan c held) + count_by (holds c) held ≡ length held
length-without c [] = omega arith
length-without c (h ∷ held) = left_at (holds c) h held (without_loan c held) (holds c h) refl (length-without c held)

none_at : (c : ℕ) (h : OwnedConn) (held : List OwnedConn) (b : Bool) → holds c h ≡ b → count_by (holds c) held ≡ 0 → count_by (holds c) (if not b then h ∷ held else held) ≡ 0
none_at c h held true e k = k
none_at c h held false e k = let f = count-cons (holds c) h held in let o : one (holds c) h ≡ 0 = ap (λ (b : Bool). cond b 1 0) e in omega (arith, f, o, k)

pub count-without : (c : ℕ) (held : List OwnedConn) → count_by (holds c) (without_loan c held) ≡ 0
count-without c [] = omega arith
count-without c (h ∷ held) = none_at c h (without_loan c held) (holds c h) refl (count-without c held)

owned_at : (k c : ℕ) (h x : OwnedConn) (held : List OwnedConn) → (loan_of k c held ≡ Some h → 1 ≤ count_by (holds c) held) → (b : Bool) → is_held_by k c x ≡ b → loan_of k c (x ∷ held) ≡ Some h → 1 ≤ count_by (holds c) (x ∷ held)
owned_at k c h x held rest true e found =
    let f = count-cons (holds c) x held in
    let o : one (holds c) x ≡ 1 = ap (λ (b : Bool). cond b 1 0) (both_true (c == x.conn) (k == x.client) e).0 in
    omega (arith, f, o)
owned_at k c h x held rest false e found = let f = count-cons (holds c) x held in let r = rest (rw e at found) in omega (arith, f, r)

pub count-owned : (k c : ℕ) (h : OwnedConn) (held : List OwnedConn) → loan_of k c held ≡ Some h → 1 ≤ count_by (holds c) held
count-owned k c h [] found = absurd cc
count-owned k c h (x ∷ held) found = owned_at k c h x held (count-owned k c h held) (is_held_by k c x) refl found

-- ---- soundness

pub sound-unlent : {C : Type 0} (core : Core C) (c m : ℕ) → IsSound core → IsSound (record core { held = without_loan c core.held; last = m })
sound-unlent core c m s = record {
  some = s.some;
  few = s.few;
  tries = s.tries;
  few_tries = s.few_tries;
  rising = s.rising;
  within = let w = s.within in let l = length-without c core.held in omega (arith, w, l);
  paid = let w = s.paid in let l = length-without c core.held in omega (arith, w, l);
  owns = s.owns;
  own = s.own;
  few_tickets = s.few_tickets;
  numbers = s.numbers;
  once = λ d. let w = s.once d in let f = count-filter (holds d) (is_another_loan c) core.held in omega (arith, w, f);
  opened = λ d n. let w = s.opened d n in let f = count-filter (holds d) (is_another_loan c) core.held in omega (arith, w, f);
}

pub sound-leaked : {C : Type 0} (core : Core C) (k c : ℕ) (h : OwnedConn) (m : ℕ) → IsSound core → loan_of k c core.held ≡ Some h → IsSound (record core { held = without_loan c core.held; leaked = core.leaked + 1; last = m })
sound-leaked core k c h m s found =
    let u = sound-unlent core c m s in
    record {
      some = u.some;
      few = u.few;
      tries = u.tries;
      few_tries = u.few_tries;
      rising = u.rising;
      within = let w = s.within in let l = length-without c core.held in let o = count-owned k c h core.held found in omega (arith, w, l, o);
      paid = let w = s.paid in let l = length-without c core.held in let o = count-owned k c h core.held found in omega (arith, w, l, o);
      owns = s.owns;
      own = s.own;
      few_tickets = u.few_tickets;
      numbers = u.numbers;
      once = u.once;
      opened = u.opened;
    }

pub sound-kept : {C : Type 0} (core : Core C) (k c : ℕ) (h : OwnedConn) (i : Idle C) (m : ℕ) → IsSound core → loan_of k c core.held ≡ Some h → i.lent.id ≡ c
    → IsSound (record core { held = without_loan c core.held; idle = core.idle ++ i ∷ []; last = m })
sound-kept core k c h i m s found same =
    let u = sound-unlent core c m s in
    let l = length-without c core.held in
    let o = count-owned k c h core.held found in
    let n : length (core.idle ++ i ∷ []) ≡ length core.idle + 1 = length-append core.idle (i ∷ []) in
    record {
      some = u.some;
      few = u.few;
      tries = u.tries;
      few_tries = u.few_tries;
      rising = u.rising;
      within = let w = s.within in omega (arith, w, l, o, n);
      paid = let w = s.paid in omega (arith, w, l, o, n);
      owns = s.owns;
      own = s.own;
      few_tickets = u.few_tickets;
      numbers = u.numbers;
      once = λ d. let w = u.once d in let p = count-push (rests d) core.idle i in
          elim (eqb_tells d i.lent.id) [
            | inl is ↦ let at_c : d ≡ c = is.1 ∙ same in let one_most = one-le (rests d) i in let v = s.once d in
                let gone : count_by (holds d) (without_loan c core.held) ≡ 0 = ap (λ (n : ℕ). count_by (holds n) (without_loan c core.held)) at_c ∙ count-without c core.held in
                let had : 1 ≤ count_by (holds d) core.held = subst (λ (n : ℕ). 1 ≤ count_by (holds n) core.held) (sym at_c) o in
                omega (arith, p, one_most, v, gone, had)
            | inr is ↦ let z : one (rests d) i ≡ 0 = ap (λ (b : Bool). cond b 1 0) is.0 in omega (arith, w, p, z)
          ];
      opened = λ d n. let w = u.opened d n in let p = count-push (rests d) core.idle i in
          elim (eqb_tells d i.lent.id) [
            | inl is ↦ let at_c : d ≡ c = is.1 ∙ same in let v = s.opened d n in
                let had : 1 ≤ count_by (holds d) core.held = subst (λ (n : ℕ). 1 ≤ count_by (holds n) core.held) (sym at_c) o in
                absurd (omega (arith, v, had))
            | inr is ↦ let z : one (rests d) i ≡ 0 = ap (λ (b : Bool). cond b 1 0) is.0 in omega (arith, w, p, z)
          ];
    }

-- ---- by the core before the step

-- the client's loan of this connection is taken away, where it has one
pub taking : {C : Type 0} (core : Core C) (c : ℕ) (held : List OwnedConn) (o : Option OwnedConn) → IsSound core → (is_some o ≡ true → held ≡ without_loan c core.held) → (is_some o ≡ false → held ≡ core.held) → IsSound (record core { held = held })
taking core c held None s some none = rw (none refl) s
taking core c held (Some h) s some none = rw (some refl) (sound-unlent core c core.last s)

-- the client's loan of this connection is leaked
pub leaking : {C : Type 0} (core : Core C) (k c : ℕ) (held : List OwnedConn) (o : Option OwnedConn) → IsSound core → held ≡ without_loan c core.held → loan_of k c core.held ≡ o → is_some o ≡ true → IsSound (record core { held = held; leaked = core.leaked + 1 })
leaking core k c held None s e f found = absurd cc
leaking core k c held (Some h) s e f found = rw e (sound-leaked core k c h core.last s f)
