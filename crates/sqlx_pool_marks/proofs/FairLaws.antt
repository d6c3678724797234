-- Fair logs join, and what may follow depends on the view and the last mark alone.
use Rattle.std.proofs.Common.{◌≡◌, ℕ, ◌<◌, ◌≤◌, Bool, true, false, not, IsTrue, inr, List, [], ◌∷◌, ◌++◌, Option, Some, None, refl, sym, ap, ◌∙◌, subst, append-nil, append_assoc, find, option_map}
use Rattle.sqlx_pool_marks.specs.declared.mark.Mark.{Mark}
use Rattle.sqlx_pool_marks.specs.declared.mark.Mark.TheVariants.{Asked, Left, Taken, Reaped, Opened, Lent, Kept, Closed, Detached, Leaked, Ended, Shut}
use Rattle.sqlx_pool_marks.specs.Standing.{last_mark}
use Rattle.sqlx_pool_marks.specs.Marks.{Loan, IdleEntry, LiveConn, is_loan_of, is_live_conn}
use Rattle.sqlx_pool_marks.specs.View.{View, view_of, view_after, size, waiting, free}
use Rattle.sqlx_pool_marks.specs.FairLog.{FindsSafe, is_owned, is_amid, Unless, GoesOn, serves, IsInOrder, IsSafeMark, first_of_marks, IsSafe, IsOrdered, IsFair}
use Rattle.sqlx_pool_marks.specs.Laws.{keeps_unowned, ViewsTellTheFuture, OneViewSaysTheSame}
use Rattle.sqlx_pool_marks.proofs.Pushed.{view_of-push, last_mark-push}

-- ---- more marks behind

unless_from : (b : Bool) (P : Type 0) → P → Unless b P
unless_from true P p = tt
unless_from false P p = p

last_settled : (m : Mark) → is_amid m None ≡ false
last_settled (Asked t k d) = refl
last_settled (Left t) = refl
last_settled (Taken c) = refl
last_settled (Reaped c) = refl
last_settled (Opened c m) = refl
last_settled (Lent k c) = refl
last_settled (Kept c m) = refl
last_settled (Closed c) = refl
last_settled (Detached c) = refl
last_settled (Leaked c) = refl
last_settled (Ended t) = refl
last_settled Shut = refl

goes_on : (v : View) (t : ℕ) (idle : List IdleEntry) (next : Option Mark) → GoesOn v t idle None → GoesOn v t idle next
goes_on v t [] next h = tt
goes_on v t (r ∷ rest) next h = absurd h

pub in_order : (max : ℕ) (v : View) (m : Mark) (next : Option Mark) → IsInOrder max v m None → IsInOrder max v m next
in_order max v (Left t) next h = (h.0, h.1, goes_on v t v.idle next h.2)
in_order max v (Lent k c) next h = unless_from (serves v k next) (waiting v < free max v) h
in_order max v (Asked t k d) next h = tt
in_order max v (Taken c) next h = tt
in_order max v (Reaped c) next h = tt
in_order max v (Opened c m) next h = tt
in_order max v (Kept c m) next h = tt
in_order max v (Closed c) next h = tt
in_order max v (Detached c) next h = tt
in_order max v (Leaked c) next h = tt
in_order max v (Ended t) next h = tt
in_order max v Shut next h = tt

-- a safe mark that may be the last may have any behind it
pub safe-followed : (max : ℕ) (v after : View) (last : Option Mark) (m : Mark) (next : Option Mark) → IsSafeMark max v after last m None → IsSafeMark max v after last m next
safe-followed max v after last m next f = record {
  finds = f.finds;
  keeps = unless_from (is_amid m next) (size after ≤ max) (subst (λ b. Unless b (size after ≤ max)) (last_settled m) f.keeps);
}

pub safe-append : (max : ℕ) (before xs ys : List Mark) → IsSafe max before xs → IsSafe max (before ++ xs) ys → IsSafe max before (xs ++ ys)
safe-append max before [] ys f g = subst (λ l. IsSafe max l ys) (append-nil before) g
safe-append max before (m ∷ []) ys f g = (safe-followed max (view_of before) (view_of (before ++ m ∷ [])) (last_mark None before) m (first_of_marks ys) f.0, g)
safe-append max before (m ∷ n ∷ xs) ys f g =
    (f.0, safe-append max (before ++ m ∷ []) (n ∷ xs) ys f.1 (subst (λ l. IsSafe max l ys) (sym (append_assoc before (m ∷ []) (n ∷ xs))) g))

pub order-append : (max : ℕ) (before xs ys : List Mark) → IsOrdered max before xs → IsOrdered max (before ++ xs) ys → IsOrdered max before (xs ++ ys)
order-append max before [] ys f g = subst (λ l. IsOrdered max l ys) (append-nil before) g
order-append max before (m ∷ []) ys f g = (in_order max (view_of before) m (first_of_marks ys) f.0, g)
order-append max before (m ∷ n ∷ xs) ys f g =
    (f.0, order-append max (before ++ m ∷ []) (n ∷ xs) ys f.1 (subst (λ l. IsOrdered max l ys) (sym (append_assoc before (m ∷ []) (n ∷ xs))) g))

pub fair-append : (max : ℕ) (before xs ys : List Mark) → IsFair max before xs → IsFair max (before ++ xs) ys → IsFair max before (xs ++ ys)
fair-append max before xs ys f g = record { safe = safe-append max before xs ys f.safe g.safe; order = order-append max before xs ys f.order g.order }

-- ---- equal views

after_same : (one two : List Mark) (m : Mark) → view_of one ≡ view_of two → view_of (one ++ m ∷ []) ≡ view_of (two ++ m ∷ [])
after_same one two m views = view_of-push one m ∙ ap (λ v. view_after v m) views ∙ sym (view_of-push two m)

-- the views behind the same marks
pub views-append : (one two later : List Mark) → view_of one ≡ view_of two → view_of (one ++ later) ≡ view_of (two ++ later)
views-append one two [] views = ap view_of (append-nil one) ∙ views ∙ ap view_of (sym (append-nil two))
views-append one two (m ∷ later) views =
    ap view_of (sym (append_assoc one (m ∷ []) later)) ∙ views-append (one ++ m ∷ []) (two ++ m ∷ []) later (after_same one two m views) ∙ ap view_of (append_assoc two (m ∷ []) later)

pub order-views : (max : ℕ) (one two later : List Mark) → view_of one ≡ view_of two → IsOrdered max one later → IsOrdered max two later
order-views max one two [] views f = tt
order-views max one two (m ∷ later) views f =
    (subst (λ v. IsInOrder max v m (first_of_marks later)) views f.0, order-views max (one ++ m ∷ []) (two ++ m ∷ []) later (after_same one two m views) f.1)

was_owned : (b : Bool) → not b ≡ false → IsTrue b
was_owned true e = refl
was_owned false e = absurd cc

-- what a mark finds, whatever the mark before it was
finds_anyhow : (v : View) (last other : Option Mark) (m : Mark) → keeps_unowned v (Some m) ≡ false → FindsSafe v last m → FindsSafe v other m
finds_anyhow v last other (Kept c m) e f = (f.0, inr (was_owned (is_owned c v) e))
finds_anyhow v last other (Asked t k d) e f = f
finds_anyhow v last other (Left t) e f = f
finds_anyhow v last other (Taken c) e f = f
finds_anyhow v last other (Reaped c) e f = f
finds_anyhow v last other (Opened c m) e f = f
finds_anyhow v last other (Lent k c) e f = f
finds_anyhow v last other (Closed c) e f = f
finds_anyhow v last other (Detached c) e f = f
finds_anyhow v last other (Leaked c) e f = f
finds_anyhow v last other (Ended t) e f = f
finds_anyhow v last other Shut e f = f

moved : (max : ℕ) (one two : List Mark) (last : Option Mark) (m : Mark) (next : Option Mark) → view_of one ≡ view_of two
    → IsSafeMark max (view_of one) (view_of (one ++ m ∷ [])) last m next → IsSafeMark max (view_of two) (view_of (two ++ m ∷ [])) last m next
moved max one two last m next views f =
    subst (λ v. IsSafeMark max v (view_of (two ++ m ∷ [])) last m next) views
    (subst (λ a. IsSafeMark max (view_of one) a last m next) (after_same one two m views) f)

-- behind one view and one last mark
safe_same : (max : ℕ) (one two later : List Mark) → view_of one ≡ view_of two → last_mark None one ≡ last_mark None two → IsSafe max one later → IsSafe max two later
safe_same max one two [] views lasts f = tt
safe_same max one two (m ∷ later) views lasts f = (
  subst (λ l. IsSafeMark max (view_of two) (view_of (two ++ m ∷ [])) l m (first_of_marks later)) lasts (moved max one two (last_mark None one) m (first_of_marks later) views f.0),
  safe_same max (one ++ m ∷ []) (two ++ m ∷ []) later (after_same one two m views) (last_mark-push one m ∙ sym (last_mark-push two m)) f.1,
)

pub safe-views : (max : ℕ) (one two later : List Mark) → view_of one ≡ view_of two → keeps_unowned (view_of one) (first_of_marks later) ≡ false → IsSafe max one later → IsSafe max two later
safe-views max one two [] views owned f = tt
safe-views max one two (m ∷ later) views owned f = (
  moved max one two (last_mark None two) m (first_of_marks later) views
      (record { finds = finds_anyhow (view_of one) (last_mark None one) (last_mark None two) m owned f.0.finds; keeps = f.0.keeps }),
  safe_same max (one ++ m ∷ []) (two ++ m ∷ []) later (after_same one two m views) (last_mark-push one m ∙ sym (last_mark-push two m)) f.1,
)

pub views-tell : ViewsTellTheFuture
views-tell max one two later views = record { safe = safe-views max one two later views; order = order-views max one two later views; views = views-append one two later views }

pub says-the-same : OneViewSaysTheSame
says-the-same one two views = record {
  tickets = ap (λ v. v.tickets) views;
  loans = ap (λ v. v.loans) views;
  idle = ap (λ v. v.idle) views;
  leaked = ap (λ v. v.leaked) views;
  shut = ap (λ v. v.shut) views;
  ticket_number = ap (λ v. v.next_ticket) views;
  conn_number = ap (λ v. v.next_conn) views;
  owners = λ conn. ap (λ (v : View). option_map (λ (l : Loan). l.client) (find (is_loan_of conn) v.loans)) views;
  births = λ conn. ap (λ (v : View). option_map (λ (b : LiveConn). b.moment) (find (is_live_conn conn) v.live)) views;
}
