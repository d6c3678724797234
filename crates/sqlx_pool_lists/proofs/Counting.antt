-- Counts of tickets after one of them changed or ended.
use Rattle.std.proofs.Common.{◌≡◌, ℕ, ◌+◌, ◌*◌, ◌<◌, ◌≤◌, List, [], ◌∷◌, ◌++◌, length, ap, sym, ◌∙◌, arith, map, filter, Bool, true, false, count_by, sum_by, if◌then◌else◌}
use Rattle.std.proofs.lemmas.List.{map-append}
use Rattle.std.proofs.lemmas.List.Sums.{sum_by-append, sum_by-cons}
use Rattle.sqlx_pool_lists.specs.declared.ticket.Phase.{Phase}
use Rattle.sqlx_pool_lists.specs.declared.ticket.Phase.TheVariants as phase
use Rattle.sqlx_pool_lists.specs.Balance.{tests_left, left_to_test, all_left_to_test}
use Rattle.sqlx_pool_marks.proofs.Counting.{one, count-append, count-among}
use Rattle.sqlx_pool_lists.specs.declared.ticket.Ticket.{Ticket}
use Rattle.sqlx_pool_lists.specs.Sound.{IsRising, number_of}
use Rattle.sqlx_pool_lists.specs.Edits.{with_ticket, without_ticket}
use Rattle.sqlx_pool_lists.specs.Place.{IsAmong}

pub count-changed : (p : Ticket → Bool) (t : ℕ) (x : Ticket) (tickets : List Ticket) (f : Ticket → Ticket) → IsAmong t x tickets → count_by p (with_ticket t f tickets) + one p x ≡ count_by p tickets + one p (f x)
count-changed p t x tickets f is =
    let e = ap (count_by p) (is.changed f) ∙ count-among p is.front (f x) is.back in
    let g = ap (count_by p) is.all ∙ count-among p is.front x is.back in
    omega (arith, e, g)

pub count-ended : (p : Ticket → Bool) (t : ℕ) (x : Ticket) (tickets : List Ticket) → IsAmong t x tickets → count_by p (without_ticket t tickets) + one p x ≡ count_by p tickets
count-ended p t x tickets is =
    let e = ap (count_by p) is.others ∙ count-append p is.front is.back in
    let g = ap (count_by p) is.all ∙ count-among p is.front x is.back in
    omega (arith, e, g)

-- ---- sums over tickets

sum-among : (n : Ticket → ℕ) (front : List Ticket) (x : Ticket) (back : List Ticket) → sum_by n (front ++ x ∷ back) ≡ sum_by n front + n x + sum_by n back
sum-among n front x back = let e = sum_by-append n front (x ∷ back) in let f = sum_by-cons n x back in omega (arith, e, f)

pub sum-changed : (n : Ticket → ℕ) (t : ℕ) (x : Ticket) (tickets : List Ticket) (f : Ticket → Ticket) → IsAmong t x tickets → sum_by n (with_ticket t f tickets) + n x ≡ sum_by n tickets + n (f x)
sum-changed n t x tickets f is =
    let e = ap (sum_by n) (is.changed f) ∙ sum-among n is.front (f x) is.back in
    let g = ap (sum_by n) is.all ∙ sum-among n is.front x is.back in
    omega (arith, e, g)

pub sum-ended : (n : Ticket → ℕ) (t : ℕ) (x : Ticket) (tickets : List Ticket) → IsAmong t x tickets → sum_by n (without_ticket t tickets) ≤ sum_by n tickets
sum-ended n t x tickets is =
    let e = ap (sum_by n) is.others ∙ sum_by-append n is.front is.back in
    let g = ap (sum_by n) is.all ∙ sum-among n is.front x is.back in
    omega (arith, e, g)

pub sum-push : (n : Ticket → ℕ) (tickets : List Ticket) (x : Ticket) → sum_by n (tickets ++ x ∷ []) ≡ sum_by n tickets + n x
sum-push n tickets x = let e = sum-among n tickets x [] in omega (arith, e)

few_left : (tries : ℕ) (p : Phase) → tests_left tries p ≤ tries
few_left tries phase.Waiting = omega arith
few_left tries phase.Connecting = omega arith
few_left tries (phase.Testing c created before) = omega arith
few_left tries (phase.Backoff until) = omega arith

-- at most sixteen tests are left for each ticket
pub few-left : (tries : ℕ) (tickets : List Ticket) → tries ≤ 16 → all_left_to_test tries tickets ≤ length tickets * 16
few-left tries [] few = omega arith
few-left tries (x ∷ xs) few =
    let e = sum_by-cons (left_to_test tries) x xs in
    let h = few-left tries xs few in
    let n = few_left tries x.phase in
    omega (arith, e, h, n, few)

-- a changed ticket that keeps its number leaves the numbers
pub numbers-changed : (t : ℕ) (x : Ticket) (tickets : List Ticket) (f : Ticket → Ticket) → IsAmong t x tickets → (f x).number ≡ x.number → map number_of (with_ticket t f tickets) ≡ map number_of tickets
numbers-changed t x tickets f is e =
    ap (map number_of) (is.changed f) ∙ map-append number_of is.front (f x ∷ is.back)
    ∙ ap (λ (n : ℕ). map number_of is.front ++ n ∷ map number_of is.back) e
    ∙ sym (ap (map number_of) is.all ∙ map-append number_of is.front (x ∷ is.back))

-- numbers that rise from further on rise from here on
pub rising-from : (low lower : ℕ) (ns : List ℕ) (high : ℕ) → lower ≤ low → IsRising low ns high → IsRising lower ns high
rising-from low lower [] high h r = omega (arith, h, r)
rising-from low lower (n ∷ ns) high h r = (omega (arith, h, r.0), r.1)

rising_at : (low : ℕ) (p : Ticket → Bool) (x : Ticket) (xs : List Ticket) (high : ℕ) (b : Bool) → low ≤ x.number → IsRising (x.number + 1) (map number_of (filter p xs)) high → IsRising low (map number_of (if b then x ∷ filter p xs else filter p xs)) high
rising_at low p x xs high true h r = (h, r)
rising_at low p x xs high false h r = rising-from (x.number + 1) low (map number_of (filter p xs)) high (omega (arith, h)) r

pub rising-filter : (low : ℕ) (p : Ticket → Bool) (tickets : List Ticket) (high : ℕ) → IsRising low (map number_of tickets) high → IsRising low (map number_of (filter p tickets)) high
rising-filter low p [] high r = r
rising-filter low p (x ∷ xs) high r = rising_at low p x xs high (p x) r.0 (rising-filter (x.number + 1) p xs high r.1)

-- one more number at the end
pub rising-push : (low : ℕ) (ns : List ℕ) (high n : ℕ) → IsRising low ns n → n < high → IsRising low (ns ++ n ∷ []) high
rising-push low [] high n r h = (r, omega (arith, h))
rising-push low (m ∷ ns) high n r h = (r.0, rising-push (m + 1) ns high n r.1 h)
