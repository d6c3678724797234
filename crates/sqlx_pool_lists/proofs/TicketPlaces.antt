-- Tickets at their places, with gaps between them.
use Rattle.std.proofs.Common.{◌≡◌, ℕ, zero, suc, ◌+◌, ◌-◌, ◌*◌, ◌==◌, Bool, true, false, not, cond, List, [], ◌∷◌, ◌++◌, take, sum_by, Some, None, length, filter, slice_get, slice_set, refl, sym, ap, subst, ◌∙◌, arith}
use Rattle.std.proofs.lemmas.Bool.Decides.{nat_tests}
use Rattle.std.proofs.lemmas.List.Sums.{sum_by-cons, length-filter}
use Rattle.std.proofs.Math.Seq.{take-length}
use Rattle.sqlx_pool_lists.specs.declared.ticket.Ticket.{Ticket}
use Rattle.sqlx_pool_places.specs.declared.rising_places.Place.{Place}
use Rattle.sqlx_pool_places.specs.declared.rising_places.Place.TheVariants.{Here, Gap}
use Rattle.sqlx_pool_places.specs.Rising.{things_at, AreAbove, IsRising, IsNowhere}
use Rattle.sqlx_pool_places.proofs.Rising.{above-at, above-nowhere}
use Rattle.sqlx_pool_lists.specs.declared.ticket.Phase.{Phase}
use Rattle.sqlx_pool_lists.specs.declared.ticket.Phase.TheVariants as phase
use Rattle.sqlx_pool_lists.specs.Core.{gone, has_gone, is_out, waiting, ticket_of}
use Rattle.sqlx_pool_lists.specs.Balance.{tests_one, is_testing, testing, tests_left, left_to_test, all_left_to_test}
use Rattle.sqlx_pool_lists.specs.Edits.{without_ticket, with_ticket}
use Rattle.sqlx_pool_lists.specs.Sound.{number_of}

-- ---- a ticket at its place

-- What the tickets are where none of them has a number.
pub record IsMissing (k t : ℕ) (xs : List Ticket) : Type 0 where
  pub found : ticket_of k t xs ≡ None
  pub ended : without_ticket t xs ≡ xs
  pub changed : (w : Ticket) → with_ticket t (λ _. w) xs ≡ xs

pub missing : (k t : ℕ) (ps : List (Place Ticket)) → IsNowhere number_of t ps → IsMissing k t (things_at ps)
missing k t [] none = record { found = refl; ended = refl; changed = λ w. refl }
missing k t (Here x ∷ rest) none =
    let here : (t == x.number) ≡ false = none 0 x refl in
    let more = missing k t rest (λ i y e. none (suc i) y e) in
    record { found = rw here more.found; ended = rw here (ap (λ l. x ∷ l) more.ended); changed = λ w. rw here (ap (λ l. x ∷ l) (more.changed w)) }
missing k t (Gap n ∷ rest) none = let more = missing k t rest (λ i y e. none (suc i) y e) in record { found = more.found; ended = more.ended; changed = more.changed }

-- What the tickets are without the one at a place, and with another there, and which of them is the client's.
pub record IsFound (k t : ℕ) (ps : List (Place Ticket)) (i : ℕ) (x : Ticket) : Type 0 where
  pub found : ticket_of k t (things_at ps) ≡ cond (k == x.client) (Some x) None
  pub ended : things_at (slice_set ps i (Gap t)) ≡ without_ticket t (things_at ps)
  pub changed : (w : Ticket) → things_at (slice_set ps i (Here w)) ≡ with_ticket t (λ _. w) (things_at ps)

pub found-at : (k t : ℕ) (ps : List (Place Ticket)) (i : ℕ) (x : Ticket) → IsRising number_of ps → slice_get ps i ≡ Some (Here x) → x.number ≡ t → IsFound k t ps i x
found-at k t [] i x rising at is = absurd cc
found-at k t (Gap n ∷ rest) zero x rising at is = absurd cc
found-at k t (Gap n ∷ rest) (suc i) x rising at is = let more = found-at k t rest i x rising.1 at is in record { found = more.found; ended = more.ended; changed = more.changed }
found-at k t (Here y ∷ rest) zero x rising at is =
    let here : y ≡ x = cc in
    let number : y.number ≡ t = ap (λ z. z.number) here ∙ is in
    let same : (t == y.number) ≡ true = grind (arith, nat_tests, number) in
    let none = missing k t rest (above-nowhere number_of t rest (subst (λ n. AreAbove number_of n rest) number rising.0)) in
    record { found = rw (same, none.found, here) refl; ended = rw same (sym none.ended); changed = λ w. rw same (ap (λ l. w ∷ l) (sym (none.changed w))) }
found-at k t (Here y ∷ rest) (suc i) x rising at is =
    let l = above-at number_of y.number rest i (Here x) rising.0 at in
    let other : (t == y.number) ≡ false = grind (arith, nat_tests, l, is) in
    let more = found-at k t rest i x rising.1 at is in
    record { found = rw other more.found; ended = rw other (ap (λ l. y ∷ l) more.ended); changed = λ w. rw other (ap (λ l. y ∷ l) (more.changed w)) }

-- the ticket is the client's, or another's
pub mine : (k : ℕ) (x : Ticket) → x.client ≡ k → cond (k == x.client) (Some x) None ≡ Some x
mine k x is = let same : (k == x.client) ≡ true = grind (arith, nat_tests, is) in rw same refl

pub another : (k : ℕ) (x : Ticket) → (x.client ≡ k → ⊥) → cond (k == x.client) (Some x) None ≡ None
another k x other = let differs : (k == x.client) ≡ false = grind (arith, nat_tests, other) in rw differs refl

-- ---- counts

-- one for a ticket that has left the line
abbrev pub one : Ticket → ℕ
one x = cond (has_gone x) 1 0

gone-cons : (x : Ticket) (xs : List Ticket) → gone (x ∷ xs) ≡ one x + gone xs
gone-cons x xs = sum_by-cons (λ y. cond {A = ℕ} (has_gone y) 1 0) x xs

-- How many tickets there are without the one at a place, and with another there, and how many of them have left the line.
pub record AreCounted (t : ℕ) (ps : List (Place Ticket)) (i : ℕ) (x : Ticket) : Type 0 where
  pub len : length (things_at ps) ≡ suc (length (things_at (slice_set ps i (Gap t))))
  pub gone_without : gone (things_at (slice_set ps i (Gap t))) + one x ≡ gone (things_at ps)
  pub same_len : (w : Ticket) → length (things_at (slice_set ps i (Here w))) ≡ length (things_at ps)
  pub gone_with : (w : Ticket) → gone (things_at (slice_set ps i (Here w))) + one x ≡ gone (things_at ps) + one w

pub counted-at : (t : ℕ) (ps : List (Place Ticket)) (i : ℕ) (x : Ticket) → slice_get ps i ≡ Some (Here x) → AreCounted t ps i x
counted-at t [] i x at = absurd cc
counted-at t (Gap n ∷ rest) zero x at = absurd cc
counted-at t (Gap n ∷ rest) (suc i) x at = let more = counted-at t rest i x at in record { len = more.len; gone_without = more.gone_without; same_len = more.same_len; gone_with = more.gone_with }
counted-at t (Here y ∷ rest) zero x at =
    let here : y ≡ x = cc in
    let same : one y ≡ one x = ap one here in
    let sum = gone-cons y (things_at rest) in
    record { len = refl; gone_without = omega (arith, sum, same); same_len = λ w. refl; gone_with = λ w. omega (arith, sum, same, gone-cons w (things_at rest)) }
counted-at t (Here y ∷ rest) (suc i) x at =
    let more = counted-at t rest i x at in
    let sum = gone-cons y (things_at rest) in
    record {
      len = ap suc more.len;
      gone_without = omega (arith, sum, more.gone_without, gone-cons y (things_at (slice_set rest i (Gap t))));
      same_len = λ w. ap suc (more.same_len w);
      gone_with = λ w. omega (arith, sum, more.gone_with w, gone-cons y (things_at (slice_set rest i (Here w))));
    }

pub gone-push : (xs : List Ticket) (x : Ticket) → gone (xs ++ x ∷ []) ≡ gone xs + one x
gone-push [] x = omega (arith, gone-cons x [])
gone-push (y ∷ ys) x = omega (arith, gone-push ys x, gone-cons y ys, gone-cons y (ys ++ x ∷ []))

pub all-counted : (xs : List Ticket) → waiting xs + gone xs ≡ length xs
all-counted [] = refl
all-counted (x ∷ xs) = by (all-counted xs) (has_gone x) refl
  where
    by : waiting xs + gone xs ≡ length xs → (b : Bool) → has_gone x ≡ b → waiting (x ∷ xs) + gone (x ∷ xs) ≡ length (x ∷ xs)
    by rest true is = omega (arith, gone-cons x xs, sum_by-cons (λ y. cond {A = ℕ} (not (has_gone y)) 1 0) x xs, ap (λ b. cond {A = ℕ} b 1 0) is, ap (λ b. cond {A = ℕ} (not b) 1 0) is)
    by rest false is = omega (arith, gone-cons x xs, sum_by-cons (λ y. cond {A = ℕ} (not (has_gone y)) 1 0) x xs, ap (λ b. cond {A = ℕ} b 1 0) is, ap (λ b. cond {A = ℕ} (not b) 1 0) is)

-- ---- those that have left the line

-- so many have left it
pub all-gone : (xs : List Ticket) → take (gone xs) (filter has_gone xs) ≡ filter has_gone xs
all-gone xs = ap (λ n. take n (filter has_gone xs)) (sym (length-filter has_gone xs)) ∙ take-length (filter has_gone xs)

-- where none has left the line
pub none-gone : (xs : List Ticket) → 0 ≡ gone xs → filter has_gone xs ≡ []
none-gone xs none = sym (all-gone xs) ∙ ap (λ n. take n (filter has_gone xs)) (sym none)

not_tested : (p : Phase) → is_out p ≡ false → tests_one p ≡ false
not_tested phase.Waiting e = refl
not_tested phase.Connecting e = absurd cc
not_tested (phase.Testing c created before) e = absurd cc
not_tested (phase.Backoff until) e = absurd cc

one_tested : (x : Ticket) (xs : List Ticket) (g t : Bool) → is_out x.phase ≡ g → tests_one x.phase ≡ t → (g ≡ false → t ≡ false) → length (filter is_testing (filter has_gone (x ∷ xs))) ≡ cond {A = ℕ} t 1 0 + length (filter is_testing (filter has_gone xs))
one_tested x xs true true e f still = rw (e, f) (omega arith)
one_tested x xs true false e f still = rw (e, f) (omega arith)
one_tested x xs false true e f still = absurd (let it : true ≡ false = still refl in cc)
one_tested x xs false false e f still = rw e (omega arith)

-- each whose connection is under test has left it
pub testing-gone : (xs : List Ticket) → length (filter is_testing (filter has_gone xs)) ≡ testing xs
testing-gone [] = refl
testing-gone (x ∷ xs) =
    let one = one_tested x xs (is_out x.phase) (tests_one x.phase) refl refl (not_tested x.phase) in
    omega (arith, one, testing-gone xs, sum_by-cons (λ y. cond {A = ℕ} (is_testing y) 1 0) x xs)

left_waiting : (tries : ℕ) (p : Phase) → is_out p ≡ false → tests_left tries p ≡ tries - 1
left_waiting tries phase.Waiting e = refl
left_waiting tries phase.Connecting e = absurd cc
left_waiting tries (phase.Testing c created before) e = absurd cc
left_waiting tries (phase.Backoff until) e = absurd cc

-- what is left to test for those that have left the line, and for each that waits
pub left-parts : (tries : ℕ) (xs : List Ticket) → sum_by (left_to_test tries) (filter has_gone xs) + waiting xs * (tries - 1) ≡ all_left_to_test tries xs
left-parts tries [] = omega arith
left-parts tries (x ∷ xs) = by (left-parts tries xs) (is_out x.phase) refl
  where
    wait : (g : Bool) → is_out x.phase ≡ g → waiting (x ∷ xs) ≡ cond {A = ℕ} (not g) 1 0 + waiting xs
    wait g e = sum_by-cons (λ y. cond {A = ℕ} (not (has_gone y)) 1 0) x xs ∙ ap (λ b. cond {A = ℕ} (not b) 1 0 + waiting xs) e

    by : sum_by (left_to_test tries) (filter has_gone xs) + waiting xs * (tries - 1) ≡ all_left_to_test tries xs → (g : Bool) → is_out x.phase ≡ g → sum_by (left_to_test tries) (filter has_gone (x ∷ xs)) + waiting (x ∷ xs) * (tries - 1) ≡ all_left_to_test tries (x ∷ xs)
    by rest true e =
        let out : sum_by (left_to_test tries) (filter has_gone (x ∷ xs)) ≡ left_to_test tries x + sum_by (left_to_test tries) (filter has_gone xs) = rw e (sum_by-cons (left_to_test tries) x (filter has_gone xs)) in
        omega (arith, out, ap (λ n. n * (tries - 1)) (wait true e), sum_by-cons (left_to_test tries) x xs, rest)
    by rest false e =
        let out : sum_by (left_to_test tries) (filter has_gone (x ∷ xs)) ≡ sum_by (left_to_test tries) (filter has_gone xs) = rw e refl in
        omega (arith, out, ap (λ n. n * (tries - 1)) (wait false e), left_waiting tries x.phase e, sum_by-cons (left_to_test tries) x xs, rest)
