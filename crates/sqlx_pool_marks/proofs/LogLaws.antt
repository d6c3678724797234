-- What a fair log says of each of its marks.
use Rattle.std.proofs.Common.{◌≡◌, ℕ, ◌≤◌, Bool, true, false, not, ◌&&◌, IsTrue, List, [], ◌∷◌, ◌++◌, None, find, option_map, refl, sym, ap, subst, append-nil, append_assoc}
use Rattle.std.specs.List.{list_any}
use Rattle.sqlx_pool_marks.specs.declared.mark.Mark.{Mark}
use Rattle.sqlx_pool_marks.specs.declared.mark.Mark.TheVariants.{Left, Lent}
use Rattle.sqlx_pool_marks.specs.Standing.{last_mark}
use Rattle.sqlx_pool_marks.specs.Marks.{Loan, loans_of, is_loan_of}
use Rattle.sqlx_pool_marks.specs.View.{View, view_of, size}
use Rattle.sqlx_pool_marks.specs.FairLog.{is_owned, is_idle, is_live, KeepsSize, IsInOrder, IsSafeMark, first_of_marks, IsSafe, IsOrdered}
use Rattle.sqlx_pool_marks.specs.Laws.{SafeLogsLendOnce, OrderedLogsKeepTheLine, SafeLogsKeepTheMaximum}

-- each mark of a safe log is safe where it stands
pub safe-at : (max : ℕ) (before xs ys : List Mark) (m : Mark) → IsSafe max before (xs ++ m ∷ ys)
    → IsSafeMark max (view_of (before ++ xs)) (view_of ((before ++ xs) ++ m ∷ [])) (last_mark None (before ++ xs)) m (first_of_marks ys)
safe-at max before [] ys m f =
    subst (λ (l : List Mark). IsSafeMark max (view_of l) (view_of (l ++ m ∷ [])) (last_mark None l) m (first_of_marks ys)) (sym (append-nil before)) f.0
safe-at max before (x ∷ xs) ys m f =
    subst (λ (l : List Mark). IsSafeMark max (view_of l) (view_of (l ++ m ∷ [])) (last_mark None l) m (first_of_marks ys)) (append_assoc before (x ∷ []) xs)
    (safe-at max (before ++ x ∷ []) xs ys m f.1)

-- each mark of a log in order is in order where it stands
pub order-at : (max : ℕ) (before xs ys : List Mark) (m : Mark) → IsOrdered max before (xs ++ m ∷ ys) → IsInOrder max (view_of (before ++ xs)) m (first_of_marks ys)
order-at max before [] ys m f = subst (λ (l : List Mark). IsInOrder max (view_of l) m (first_of_marks ys)) (sym (append-nil before)) f.0
order-at max before (x ∷ xs) ys m f =
    subst (λ (l : List Mark). IsInOrder max (view_of l) m (first_of_marks ys)) (append_assoc before (x ∷ []) xs) (order-at max (before ++ x ∷ []) xs ys m f.1)

-- ---- owners

find_at : (c : ℕ) (l : Loan) (ls : List Loan) (b : Bool) → is_loan_of c l ≡ b → list_any (is_loan_of c) (l ∷ ls) ≡ false → (list_any (is_loan_of c) ls ≡ false → find (is_loan_of c) ls ≡ None) → find (is_loan_of c) (l ∷ ls) ≡ None
find_at c l ls true e none rest = absurd (let f : true ≡ false = rw e at none in cc)
find_at c l ls false e none rest = let n : list_any (is_loan_of c) ls ≡ false = rw e at none in rw e (rest n)

find_none : (c : ℕ) (ls : List Loan) → list_any (is_loan_of c) ls ≡ false → find (is_loan_of c) ls ≡ None
find_none c [] e = refl
find_none c (l ∷ ls) e = find_at c l ls (is_loan_of c l) refl e (find_none c ls)

third : (a b c : Bool) → IsTrue (a && not b && not c) → c ≡ false
third a b false t = refl
third true true true t = absurd (let f : (true && not true && not true) ≡ true = t in cc)
third true false true t = absurd (let f : (true && not false && not true) ≡ true = t in cc)
third false true true t = absurd (let f : (false && not true && not true) ≡ true = t in cc)
third false false true t = absurd (let f : (false && not false && not true) ≡ true = t in cc)

pub lends-once : SafeLogsLendOnce
lends-once max start marks f front later client conn e =
    let safe = safe-at max start front later (Lent client conn) (subst (IsSafe max start) e f) in
    let v = view_of (start ++ front) in
    let free = third (is_live conn v) (is_idle conn v) (is_owned conn v) safe.finds.1 in
    ap (option_map (λ (l : Loan). l.client)) (find_none conn (loans_of (start ++ front)) free)

-- ---- the line

pub keeps-the-line : OrderedLogsKeepTheLine
keeps-the-line max start marks f front later ticket e =
    let order = order-at max start front later (Left ticket) (subst (IsOrdered max start) e f) in
    (order.0, order.1)

-- ---- the maximum

at_end : (max : ℕ) (m : Mark) (after : View) → KeepsSize max after m None → size after ≤ max
at_end max (Left t) after k = k
at_end max (Lent k c) after h = h
at_end max m after k = k

pub keeps-the-maximum : SafeLogsKeepTheMaximum
keeps-the-maximum max start [] within f = subst (λ (l : List Mark). size (view_of l) ≤ max) (sym (append-nil start)) within
keeps-the-maximum max start (m ∷ []) within f = at_end max m (view_of (start ++ m ∷ [])) f.0.keeps
keeps-the-maximum max start (m ∷ n ∷ later) within f =
    subst (λ (l : List Mark). size (view_of l) ≤ max) (append_assoc start (m ∷ []) (n ∷ later)) (behind (start ++ m ∷ []) n later f.1)
  where
    behind : (before : List Mark) (x : Mark) (xs : List Mark) → IsSafe max before (x ∷ xs) → size (view_of (before ++ x ∷ xs)) ≤ max
    behind before x [] g = at_end max x (view_of (before ++ x ∷ [])) g.0.keeps
    behind before x (y ∷ ys) g =
        subst (λ (l : List Mark). size (view_of l) ≤ max) (append_assoc before (x ∷ []) (y ∷ ys)) (behind (before ++ x ∷ []) y ys g.1)
