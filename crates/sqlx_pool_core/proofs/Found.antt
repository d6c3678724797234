-- The ticket that a look-up finds is the only one of its number.
use Rattle.std.proofs.Common.{◌≡◌, ℕ, ◌+◌, ◌<◌, ◌≤◌, List, [], ◌∷◌, refl, ap, sym, ◌∙◌, arith, map, Bool, true, false, ◌==◌, Option, Some, None, inl, inr}
use Rattle.std.proofs.lemmas.Bool.Decides.{eqb_tells}
use Rattle.sqlx_pool_lists.specs.declared.ticket.Ticket.{Ticket}
use Rattle.sqlx_pool_lists.specs.Core.{is_of, ticket_of}
use Rattle.sqlx_pool_lists.specs.Sound.{IsRising, number_of}
use Rattle.sqlx_pool_lists.specs.Edits.{with_ticket, without_ticket}
use Rattle.sqlx_pool_lists.specs.Place.{IsAmong}

-- numbers that rise from above n on
pub rising-bound : (low : ℕ) (ns : List ℕ) (high : ℕ) → IsRising low ns high → low ≤ high
rising-bound low [] high h = h
rising-bound low (n ∷ ns) high h = let r : n + 1 ≤ high = rising-bound (n + 1) ns high h.1 in let s : low ≤ n = h.0 in omega arith

no_eqb : (t n : ℕ) → t < n → (t == n) ≡ false
no_eqb t n h = elim (eqb_tells t n) [ inl is ↦ absurd (omega (arith, is.1)) | inr is ↦ is.0 ]

-- no ticket of that number is behind
pub with-none : (t : ℕ) (f : Ticket → Ticket) (low : ℕ) (tickets : List Ticket) (high : ℕ) → IsRising low (map number_of tickets) high → t < low → with_ticket t f tickets ≡ tickets
with-none t f low [] high r h = refl
with-none t f low (x ∷ tickets) high r h =
    let s : low ≤ x.number = r.0 in
    let e : (t == x.number) ≡ false = no_eqb t x.number (omega arith) in
    rw e (ap (λ (l : List Ticket). x ∷ l) (with-none t f (x.number + 1) tickets high r.1 (omega arith)))

pub without-none : (t : ℕ) (low : ℕ) (tickets : List Ticket) (high : ℕ) → IsRising low (map number_of tickets) high → t < low → without_ticket t tickets ≡ tickets
without-none t low [] high r h = refl
without-none t low (x ∷ tickets) high r h =
    let s : low ≤ x.number = r.0 in
    let e : (t == x.number) ≡ false = no_eqb t x.number (omega arith) in
    rw e (ap (λ (l : List Ticket). x ∷ l) (without-none t (x.number + 1) tickets high r.1 (omega arith)))

pub of-none : (k t : ℕ) (low : ℕ) (tickets : List Ticket) (high : ℕ) → IsRising low (map number_of tickets) high → t < low → ticket_of k t tickets ≡ None
of-none k t low [] high r h = refl
of-none k t low (x ∷ tickets) high r h =
    let s : low ≤ x.number = r.0 in
    let e : (t == x.number) ≡ false = no_eqb t x.number (omega arith) in
    rw e (of-none k t (x.number + 1) tickets high r.1 (omega arith))

at_head : (k t : ℕ) (x y : Ticket) (tickets : List Ticket) (high : ℕ) → IsRising (y.number + 1) (map number_of tickets) high → t ≡ y.number → (t == y.number) ≡ true → ticket_of k t (y ∷ tickets) ≡ Some x → (b : Bool) → (k == y.client) ≡ b → IsAmong t x (y ∷ tickets)
at_head k t x y tickets high r is e found true same =
    let found : Some y ≡ Some x = rw (e, same) at found in
    let here : y ≡ x = cc in
    let gone : without_ticket t tickets ≡ tickets = without-none t (y.number + 1) tickets high r (omega arith) in
    record {
      front = [];
      back = tickets;
      all = ap (λ (z : Ticket). z ∷ tickets) here;
      number = is ∙ ap number_of here;
      others = rw e gone;
      changed = λ f. rw e (ap (λ (l : List Ticket). f y ∷ l) (with-none t f (y.number + 1) tickets high r (omega arith)) ∙ ap (λ (z : Ticket). f z ∷ tickets) here);
    }
at_head k t x y tickets high r is e found false same =
    let found : ticket_of k t tickets ≡ Some x = rw (e, same) at found in
    let none : ticket_of k t tickets ≡ None = of-none k t (y.number + 1) tickets high r (omega arith) in
    absurd (let no : ◌≡◌ {A = Option Ticket} None (Some x) = sym none ∙ found in cc)

further : (t : ℕ) (x y : Ticket) (tickets : List Ticket) → (t == y.number) ≡ false → IsAmong t x tickets → IsAmong t x (y ∷ tickets)
further t x y tickets e is = record {
  front = y ∷ is.front;
  back = is.back;
  all = ap (λ (l : List Ticket). y ∷ l) is.all;
  number = is.number;
  others = rw e (ap (λ (l : List Ticket). y ∷ l) is.others);
  changed = λ f. rw e (ap (λ (l : List Ticket). y ∷ l) (is.changed f));
}

pub found-among : (k t : ℕ) (x : Ticket) (low : ℕ) (tickets : List Ticket) (high : ℕ) → IsRising low (map number_of tickets) high → ticket_of k t tickets ≡ Some x → IsAmong t x tickets
found-among k t x low [] high r found = absurd cc
found-among k t x low (y ∷ tickets) high r found =
    elim (eqb_tells t y.number) [
      | inl is ↦ at_head k t x y tickets high r.1 is.1 is.0 found (k == y.client) refl
      | inr is ↦ let found : ticket_of k t tickets ≡ Some x = rw is.0 at found in further t x y tickets is.0 (found-among k t x (y.number + 1) tickets high r.1 found)
    ]

-- a look-up finds a ticket of the client and the number
found_at : (k t : ℕ) (x y : Ticket) (tickets : List Ticket) → (ticket_of k t tickets ≡ Some x → is_of k t x ≡ true) → ticket_of k t (y ∷ tickets) ≡ Some x → (b : Bool) → is_of k t y ≡ b → is_of k t x ≡ true
found_at k t x y tickets rest found true e = let found : Some y ≡ Some x = rw e at found in let here : y ≡ x = cc in ap (is_of k t) (sym here) ∙ e
found_at k t x y tickets rest found false e = let found : ticket_of k t tickets ≡ Some x = rw e at found in rest found

pub found-is : (k t : ℕ) (x : Ticket) (tickets : List Ticket) → ticket_of k t tickets ≡ Some x → is_of k t x ≡ true
found-is k t x [] found = absurd cc
found-is k t x (y ∷ tickets) found = found_at k t x y tickets (found-is k t x tickets) found (is_of k t y) refl
