-- The numbers of the tickets that wait, after one of them was asked, changed or ended.
use Rattle.std.proofs.Common.{◌≡◌, ℕ, ◌+◌, ◌<◌, ◌≤◌, ◌==◌, Bool, true, false, not, cond, List, [], ◌∷◌, ◌++◌, length, Option, Some, None, Less, refl, sym, ap, ◌∙◌, arith, map}
use Rattle.std.specs.Prelude.{nat_lt, ◌&&◌, filter, take_while, All}
use Rattle.std.specs.List.{AllByRecursion}
use Rattle.std.specs.List.Sorted.{IsStrictlySortedBy}
use Rattle.std.specs.Ordering.{nat_cmp}
use Rattle.std.proofs.lemmas.Bool.Decides.{nat_tests}
use Rattle.std.proofs.lemmas.List.Elements.{All-nil, All-cons}
use Rattle.std.proofs.lemmas.List.Sums.{take_while-cons}
use Rattle.sqlx_pool_places.proofs.Edge.{left_out, below}
use Rattle.sqlx_pool_marks.proofs.Counting.{one, count-cons}
use Rattle.sqlx_pool_lists.specs.declared.ticket.Ticket.{Ticket}
use Rattle.sqlx_pool_lists.specs.Core.{waits, waiting, ticket_of}
use Rattle.sqlx_pool_lists.specs.Sound.{IsRising, number_of}
use Rattle.sqlx_pool_lists.specs.Edits.{with_ticket, without_ticket}
use Rattle.sqlx_pool_lists.specs.Place.{IsAmong}
use Rattle.sqlx_pool_lists.specs.CoreTurn.{before, is_another}
use Rattle.sqlx_pool_core.proofs.Found.{of-none}
use Rattle.sqlx_pool_core.specs.KeptLine.{waiting_numbers}

-- the first ticket's number, where it waits, and the others'
abbrev joined : Bool → Ticket → List Ticket → List ℕ
joined b x xs = map number_of (cond b (x ∷ filter waits xs) (filter waits xs))

pub length-numbers : (xs : List Ticket) → length (waiting_numbers xs) ≡ waiting xs
length-numbers [] = refl
length-numbers (x ∷ xs) = by (length-numbers xs) (waits x) refl
  where
    by : length (waiting_numbers xs) ≡ waiting xs → (b : Bool) → waits x ≡ b → length (joined b x xs) ≡ waiting (x ∷ xs)
    by rest true is = let w : one waits x ≡ 1 = ap (λ b. cond {A = ℕ} b 1 0) is in omega (arith, count-cons waits x xs, rest)
    by rest false is = let w : one waits x ≡ 0 = ap (λ b. cond {A = ℕ} b 1 0) is in omega (arith, count-cons waits x xs, rest)

pub numbers-append : (xs ys : List Ticket) → waiting_numbers (xs ++ ys) ≡ waiting_numbers xs ++ waiting_numbers ys
numbers-append [] ys = refl
numbers-append (x ∷ xs) ys = by (numbers-append xs ys) (waits x)
  where
    by : waiting_numbers (xs ++ ys) ≡ waiting_numbers xs ++ waiting_numbers ys → (b : Bool) → joined b x (xs ++ ys) ≡ joined b x xs ++ waiting_numbers ys
    by rest true = ap (λ l. x.number ∷ l) rest
    by rest false = rest

-- the ticket that ended isn't among them
pub numbers-ended : (t : ℕ) (xs : List Ticket) → waiting_numbers (without_ticket t xs) ≡ left_out t (waiting_numbers xs)
numbers-ended t [] = refl
numbers-ended t (x ∷ xs) = by (numbers-ended t xs) (waits x) refl (t == x.number) refl
  where
    by : waiting_numbers (without_ticket t xs) ≡ left_out t (waiting_numbers xs) → (w : Bool) → waits x ≡ w → (b : Bool) → (t == x.number) ≡ b
        → waiting_numbers (cond (not b) (x ∷ without_ticket t xs) (without_ticket t xs)) ≡ left_out t (joined w x xs)
    by rest true is true same = let e : (x.number == t) ≡ true = grind (arith, nat_tests) in rw e rest
    by rest true is false other = let e : (x.number == t) ≡ false = grind (arith, nat_tests) in rw (e, is) (ap (λ l. x.number ∷ l) rest)
    by rest false is true same = rest
    by rest false is false other = rw is rest

-- nor is one that left the line
pub numbers-left : (t : ℕ) (f : Ticket → Ticket) (xs : List Ticket) → ((x : Ticket) → waits (f x) ≡ false) → waiting_numbers (with_ticket t f xs) ≡ left_out t (waiting_numbers xs)
numbers-left t f [] out = refl
numbers-left t f (x ∷ xs) out = by (numbers-left t f xs out) (waits x) refl (t == x.number) refl
  where
    by : waiting_numbers (with_ticket t f xs) ≡ left_out t (waiting_numbers xs) → (w : Bool) → waits x ≡ w → (b : Bool) → (t == x.number) ≡ b
        → waiting_numbers (cond b (f x) x ∷ with_ticket t f xs) ≡ left_out t (joined w x xs)
    by rest true is true same = let e : (x.number == t) ≡ true = grind (arith, nat_tests) in rw (e, out x) rest
    by rest true is false other = let e : (x.number == t) ≡ false = grind (arith, nat_tests) in rw (e, is) (ap (λ l. x.number ∷ l) rest)
    by rest false is true same = rw (out x) rest
    by rest false is false other = rw is rest

-- a new ticket waits behind all others
pub numbers-asked : (xs : List Ticket) (x : Ticket) → waits x ≡ true → waiting_numbers (xs ++ x ∷ []) ≡ waiting_numbers xs ++ x.number ∷ []
numbers-asked xs x is = numbers-append xs (x ∷ []) ∙ ap (λ b. waiting_numbers xs ++ joined b x []) is

-- ---- a ticket that has left the line

numbers_around : (xs ys : List Ticket) (x : Ticket) → waits x ≡ false → waiting_numbers (xs ++ x ∷ ys) ≡ waiting_numbers xs ++ waiting_numbers ys
numbers_around xs ys x is = numbers-append xs (x ∷ ys) ∙ ap (λ b. waiting_numbers xs ++ joined b x ys) is

pub numbers-without : (t : ℕ) (x : Ticket) (xs : List Ticket) → IsAmong t x xs → waits x ≡ false → waiting_numbers (without_ticket t xs) ≡ waiting_numbers xs
numbers-without t x xs is out = ap waiting_numbers is.others ∙ numbers-append is.front is.back ∙ sym (numbers_around is.front is.back x out) ∙ sym (ap waiting_numbers is.all)

pub numbers-with : (t : ℕ) (x : Ticket) (f : Ticket → Ticket) (xs : List Ticket) → IsAmong t x xs → waits x ≡ false → waits (f x) ≡ false → waiting_numbers (with_ticket t f xs) ≡ waiting_numbers xs
numbers-with t x f xs is out still =
    ap waiting_numbers (is.changed f) ∙ numbers_around is.front is.back (f x) still ∙ sym (numbers_around is.front is.back x out) ∙ sym (ap waiting_numbers is.all)

-- ---- they rise

pub numbers-below : (low : ℕ) (ks : List ℕ) (high : ℕ) → IsRising low ks high → All (λ k. k < high) ks
numbers-below low [] high r = All-nil (λ k. k < high)
numbers-below low (k ∷ ks) high r = All-cons (λ k. k < high) k ks (omega (arith, from (k + 1) ks r.1)) (numbers-below (k + 1) ks high r.1)
  where
    from : (low : ℕ) (ns : List ℕ) → IsRising low ns high → low ≤ high
    from low [] h = h
    from low (n ∷ ns) h = omega (arith, from (n + 1) ns h.1, h.0)

sorts : (k n : ℕ) → k < n → nat_cmp k n ≡ Less
sorts k n l = grind (arith, nat_tests)

all_above : (k low : ℕ) (ks : List ℕ) (high : ℕ) → k < low → IsRising low ks high → AllByRecursion (λ n. nat_cmp k n ≡ Less) ks
all_above k low [] high l r = tt
all_above k low (n ∷ ns) high l r = (sorts k n (omega (arith, l, r.0)), all_above k (n + 1) ns high (omega (arith, l, r.0)) r.1)

pub numbers-sorted : (low : ℕ) (ks : List ℕ) (high : ℕ) → IsRising low ks high → IsStrictlySortedBy nat_cmp ks
unfolding IsStrictlySortedBy
numbers-sorted low [] high r = tt
numbers-sorted low (k ∷ ks) high r = (all_above k (k + 1) ks high (omega arith) r.1, numbers-sorted (k + 1) ks high r.1)

-- ---- those before a ticket

none_before : (t low : ℕ) (xs : List Ticket) (high : ℕ) → IsRising low (map number_of xs) high → t ≤ low → below t (waiting_numbers xs) ≡ 0
none_before t low [] high r l = refl
none_before t low (x ∷ xs) high r l = by (none_before t (x.number + 1) xs high r.1 (omega (arith, r.0))) (waits x)
  where
    by : below t (waiting_numbers xs) ≡ 0 → (b : Bool) → below t (joined b x xs) ≡ 0
    by rest true = let e : nat_lt x.number t ≡ false = grind (arith, nat_tests, r.0) in let o : cond {A = ℕ} (nat_lt x.number t) 1 0 ≡ 0 = ap (λ b. cond {A = ℕ} b 1 0) e in omega (arith, count-cons (λ n. nat_lt n t) x.number (waiting_numbers xs), o, rest)
    by rest false = rest

-- what is found isn't below where the numbers begin
found_from : (k t : ℕ) (x : Ticket) (low : ℕ) (xs : List Ticket) (high : ℕ) → IsRising low (map number_of xs) high → ticket_of k t xs ≡ Some x → low ≤ t
found_from k t x low xs high r found = by (nat_lt t low) refl
  where
    by : (b : Bool) → nat_lt t low ≡ b → low ≤ t
    by true l = let n : ticket_of k t xs ≡ None = of-none k t low xs high r (grind (arith, nat_tests)) in absurd (let no : ◌≡◌ {A = Option Ticket} None (Some x) = sym n ∙ found in cc)
    by false l = grind (arith, nat_tests)

-- in the order of asking so many numbers are below a ticket's as waiting tickets stand before it
pub before-numbers : (k t : ℕ) (x : Ticket) (low : ℕ) (xs : List Ticket) (high : ℕ) → IsRising low (map number_of xs) high → ticket_of k t xs ≡ Some x → before t xs ≡ below t (waiting_numbers xs)
before-numbers k t x low [] high r found = cc
before-numbers k t x low (y ∷ xs) high r found = ap waiting (take_while-cons (is_another t) y xs) ∙ by (before-numbers k t x (y.number + 1) xs high r.1) (t == y.number) refl found
  where
    counts : ticket_of k t xs ≡ Some x → before t xs ≡ below t (waiting_numbers xs) → (w : Bool) → waits y ≡ w → waiting (y ∷ take_while (is_another t) xs) ≡ below t (joined w y xs)
    counts found rest true is =
        let o : one waits y ≡ 1 = ap (λ b. cond {A = ℕ} b 1 0) is in
        let l : y.number + 1 ≤ t = found_from k t x (y.number + 1) xs high r.1 found in
        let e : nat_lt y.number t ≡ true = grind (arith, nat_tests) in
        let p : cond {A = ℕ} (nat_lt y.number t) 1 0 ≡ 1 = ap (λ b. cond {A = ℕ} b 1 0) e in
        omega (arith, count-cons waits y (take_while (is_another t) xs), count-cons (λ n. nat_lt n t) y.number (waiting_numbers xs), o, p, rest)
    counts found rest false is = let o : one waits y ≡ 0 = ap (λ b. cond {A = ℕ} b 1 0) is in omega (arith, count-cons waits y (take_while (is_another t) xs), o, rest)

    by : (ticket_of k t xs ≡ Some x → before t xs ≡ below t (waiting_numbers xs)) → (b : Bool) → (t == y.number) ≡ b
        → cond (b && (k == y.client)) (Some y) (ticket_of k t xs) ≡ Some x → waiting (cond (not b) (y ∷ take_while (is_another t) xs) []) ≡ below t (waiting_numbers (y ∷ xs))
    by rest true same found = let is : t ≡ y.number = grind (arith, nat_tests) in sym (none_before t y.number (y ∷ xs) high (omega arith, r.1) (omega arith))
    by rest false other found = counts found (rest found) (waits y) refl
