-- Who owns a connection, by the pool's list and by its marks.
use Rattle.std.proofs.Common.{◌≡◌, ℕ, ◌≤◌, ◌+◌, ◌||◌, ◌==◌, List, [], ◌∷◌, Bool, true, false, cond, Some, is_some, find, length, count_by, sym, ap, refl, ◌∙◌, arith}
use Rattle.std.specs.List.{list_any}
use Rattle.std.proofs.lemmas.Bool.{and_parts}
use Rattle.sqlx_pool_marks.specs.declared.mark.Mark.{Mark}
use Rattle.sqlx_pool_marks.specs.Marks.{loans_of}
use Rattle.sqlx_pool_marks.proofs.ListFacts.{list_any-map, count_by-cons, length-filter_not}
use Rattle.sqlx_pool_lists.specs.declared.ticket.OwnedConn.{OwnedConn}
use Rattle.sqlx_pool_lists.specs.Core.{Core, loan, loan_of, is_held_by}
use Rattle.sqlx_pool_lists.specs.Edits.{without_loan}
use Rattle.sqlx_pool_lists.specs.StandsFor.{StandsIn}
use Rattle.sqlx_tenants_rules.specs.Rules.{is_loan_by}

found-any : {X : Type 0} (p : X → Bool) (xs : List X) → is_some (find p xs) ≡ list_any p xs
found-any p [] = refl
found-any p (x ∷ xs) = by (p x) (found-any p xs)
  where
    by : (b : Bool) → is_some (find p xs) ≡ list_any p xs → is_some (cond b (Some x) (find p xs)) ≡ (b || list_any p xs)
    by true rest = refl
    by false rest = rest

-- the client owns the connection by the marks where the pool keeps its loan
pub owns-stands : {C : Type 0} (core : Core C) (marks : List Mark) → StandsIn core marks → (k c : ℕ) → is_some (loan_of k c core.held) ≡ list_any (is_loan_by k c) (loans_of marks)
owns-stands core marks s k c = found-any (is_held_by k c) core.held ∙ sym (list_any-map loan (is_loan_by k c) core.held) ∙ ap (list_any (is_loan_by k c)) s.loans

found-counts : {X : Type 0} (p q : X → Bool) → ((x : X) → p x ≡ true → q x ≡ true) → (xs : List X) (y : X) → find p xs ≡ Some y → 1 ≤ count_by q xs
found-counts p q more [] y e = absurd cc
found-counts p q more (x ∷ xs) y e = by (found-counts p q more xs y) (p x) refl e
  where
    by : (find p xs ≡ Some y → 1 ≤ count_by q xs) → (b : Bool) → p x ≡ b → cond b (Some x) (find p xs) ≡ Some y → 1 ≤ count_by q (x ∷ xs)
    by rest true is e = let here = ap (λ (b : Bool). cond {A = ℕ} b 1 0) (more x is) in let c = count_by-cons q x xs in omega (arith, here, c)
    by rest false is e = let some = rest e in let c = count_by-cons q x xs in omega (arith, some, c)

-- a loan that is found is one less when it ends
pub one-less : (k c : ℕ) (held : List OwnedConn) (h : OwnedConn) → loan_of k c held ≡ Some h → length (without_loan c held) + 1 ≤ length held
one-less k c held h e =
    let some = found-counts (is_held_by k c) (λ (x : OwnedConn). c == x.conn) (λ x is. (and_parts (c == x.conn) (k == x.client) is).0) held h e in
    let all = length-filter_not (λ (x : OwnedConn). c == x.conn) held in
    omega (arith, some, all)
