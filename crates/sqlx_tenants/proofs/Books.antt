-- What changes of a book leave as it was.
use Rattle.std.proofs.Common.{◌≡◌, ℕ, ◌<◌, ◌≤◌, ◌+◌, ◌-◌, List, [], ◌∷◌, length, get_or, max, ap, refl, ◌∙◌, arith, suc, zero}
use Rattle.std.specs.Prelude.{slice_set}
use Rattle.std.proofs.lemmas.List.{length-set}
use Rattle.sqlx_pool_marks.specs.declared.mark.Mark.{Mark}
use Rattle.sqlx_tenants_rules.specs.Book.{Account, Book, nobody, account, owning, moved, greatest}
use Rattle.sqlx_tenants.proofs.Lists.{look-set}

-- ---- the greatest number

pub greatest-some : (f : Account → ℕ) (book : Book) → 1 ≤ greatest f book
unfolding greatest
greatest-some f [] = omega arith
greatest-some f (a ∷ book) = let e = greatest-some f book in omega (arith, e)

pub greatest-bound : (f : Account → ℕ) (book : Book) (i : ℕ) (d : Account) → i < length book → f (get_or book i d) ≤ greatest f book
unfolding greatest
greatest-bound f [] i d lt = omega (arith, lt)
greatest-bound f (a ∷ book) zero d lt = omega arith
greatest-bound f (a ∷ book) (suc i) d lt = let e = greatest-bound f book i d (omega (arith, lt)) in omega (arith, e)

pub greatest-kept : (f : Account → ℕ) (book : Book) (i : ℕ) (y d : Account) → i < length book → f y ≡ f (get_or book i d) → greatest f (slice_set book i y) ≡ greatest f book
unfolding greatest
greatest-kept f [] i y d lt e = refl
greatest-kept f (a ∷ book) zero y d lt e = ap (λ n. max n (greatest f book)) e
greatest-kept f (a ∷ book) (suc i) y d lt e = ap (λ n. max (f a) n) (greatest-kept f book i y d (omega (arith, lt)) e)

pub greatest-raised : (f : Account → ℕ) (book : Book) (i : ℕ) (y : Account) → i < length book → greatest f book ≤ f y → greatest f (slice_set book i y) ≡ f y
unfolding greatest
greatest-raised f [] i y lt le = omega (arith, lt)
greatest-raised f (a ∷ book) zero y lt le = omega (arith, le)
greatest-raised f (a ∷ book) (suc i) y lt le = let e = greatest-raised f book i y (omega (arith, lt)) (omega (arith, le)) in omega (arith, e, le)

-- ---- permits alone

module _ (q n : ℕ) (book : Book) (lt : q < length book) where
  abbrev paid : Account
  paid = record (account q book) { owned = n }

  pub length-owning : length (owning q n book) ≡ length book
  length-owning = length-set book q paid

  pub marks-owning : (r : ℕ) → (account r (owning q n book)).marks ≡ (account r book).marks
  marks-owning r = look-set (λ (a : Account). a.marks) book q r paid nobody lt refl

  pub budget-owning : (r : ℕ) → (account r (owning q n book)).budget ≡ (account r book).budget
  budget-owning r = look-set (λ (a : Account). a.budget) book q r paid nobody lt refl

  pub greatest-owning : (f : List Mark → ℕ) → greatest (λ a. f a.marks) (owning q n book) ≡ greatest (λ a. f a.marks) book
  greatest-owning f = greatest-kept (λ a. f a.marks) book q paid nobody lt refl

module _ (from to n : ℕ) (book : Book) (lt : from < length book) (lt_to : to < length book) where
  abbrev less : Book
  less = owning from ((account from book).owned - n) book

  within : to < length less
  within = let e = length-owning from ((account from book).owned - n) book lt in omega (arith, e, lt_to)

  pub length-moved : length (moved from to n book) ≡ length book
  length-moved = length-owning to ((account to less).owned + n) less within ∙ length-owning from ((account from book).owned - n) book lt

  pub marks-moved : (r : ℕ) → (account r (moved from to n book)).marks ≡ (account r book).marks
  marks-moved r = marks-owning to ((account to less).owned + n) less within r ∙ marks-owning from ((account from book).owned - n) book lt r

  pub budget-moved : (r : ℕ) → (account r (moved from to n book)).budget ≡ (account r book).budget
  budget-moved r = budget-owning to ((account to less).owned + n) less within r ∙ budget-owning from ((account from book).owned - n) book lt r

  pub greatest-moved : (f : List Mark → ℕ) → greatest (λ a. f a.marks) (moved from to n book) ≡ greatest (λ a. f a.marks) book
  greatest-moved f = greatest-owning to ((account to less).owned + n) less within f ∙ greatest-owning from ((account from book).owned - n) book lt f

-- A book that has the marks and the budgets of another.
pub record SameLogs (book other : Book) : Type 0 where
  pub names : length book ≡ length other
  pub marks : (r : ℕ) → (account r book).marks ≡ (account r other).marks
  pub budgets : (r : ℕ) → (account r book).budget ≡ (account r other).budget
  pub greatest : (f : List Mark → ℕ) → greatest (λ a. f a.marks) book ≡ greatest (λ a. f a.marks) other

pub same-moved : (from to n : ℕ) (book : Book) → from < length book → to < length book → SameLogs (moved from to n book) book
same-moved from to n book lt lt_to = record {
  names = length-moved from to n book lt lt_to;
  marks = marks-moved from to n book lt lt_to;
  budgets = budget-moved from to n book lt lt_to;
  greatest = greatest-moved from to n book lt lt_to;
}

pub same-as-it-is : (book : Book) → SameLogs book book
same-as-it-is book = record { names = refl; marks = λ r. refl; budgets = λ r. refl; greatest = λ f. refl }
