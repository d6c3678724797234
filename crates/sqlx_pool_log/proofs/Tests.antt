-- What a test finds in packed marks.
use Rattle.std.proofs.Common.{◌≡◌, ℕ, ◌+◌, Bool, true, false, ◌||◌, ◌&&◌, ◌==◌, List, [], ◌∷◌, ◌++◌, refl, ap, ◌∙◌}
use Rattle.std.specs.List.{list_any}
use Rattle.std.proofs.lemmas.List.Folds.{list_any-append}
use Rattle.sqlx_pool_marks.specs.declared.mark.Mark.{Mark}
use Rattle.sqlx_pool_marks.specs.declared.mark.Mark.TheVariants.{Asked, Left, Taken, Lent, Kept, Ended}
use Rattle.sqlx_pool_log.specs.declared.entry.LoanMarks.{LoanMarks}
use Rattle.sqlx_pool_log.specs.declared.entry.Entry.{Entry}
use Rattle.sqlx_pool_marks.specs.Marks.{is_ended, ends_conn, ends_loan, ends_rest}
use Rattle.sqlx_pool_log.specs.Entries.{mark_if, loan_marks, marks_in, marks_at}
use Rattle.sqlx_pool_marks.proofs.ListFacts.{or-false}

pub any_at : (p : Mark → Bool) (es : List Entry) → list_any p (marks_at es) ≡ list_any (λ e. list_any p (marks_in e)) es
any_at p [] = refl
any_at p (e ∷ es) = list_any-append p (marks_in e) (marks_at es) ∙ ap (λ b. list_any p (marks_in e) || b) (any_at p es)

pub any-if : (p : Mark → Bool) (so : Bool) (m : Mark) (rest : List Mark) → list_any p (mark_if so m ++ rest) ≡ ((so && p m) || list_any p rest)
any-if p true m rest = refl
any-if p false m rest = refl

-- a mark that isn't looked for
pub skip : (p : Mark → Bool) (so : Bool) (m : Mark) (rest : List Mark) → p m ≡ false → list_any p (mark_if so m ++ rest) ≡ list_any p rest
skip p true m rest unmet = ap (λ b. b || list_any p rest) unmet
skip p false m rest unmet = refl

-- one that is
pub meet : (p : Mark → Bool) (so : Bool) (m : Mark) (rest : List Mark) → p m ≡ true → list_any p (mark_if so m ++ rest) ≡ (so || list_any p rest)
meet p true m rest met = ap (λ b. b || list_any p rest) met
meet p false m rest met = refl

-- ---- what a test finds in the marks of a loan

last-one : (p : Mark → Bool) (so : Bool) (m : Mark) → list_any p (mark_if so m) ≡ (so && p m)
last-one p true m = or-false (p m)
last-one p false m = refl

-- the tests of each mark of a loan in turn
pub any_in_loan : (p : Mark → Bool) (e : LoanMarks) → list_any p (loan_marks e) ≡ ((e.asked && p (Asked e.ticket e.client (e.asked_at + e.timeout))) || ((e.left && p (Left e.ticket)) || ((e.taken && p (Taken e.conn)) || ((e.lent && p (Lent e.client e.conn)) || ((e.ended && p (Ended e.ticket)) || (e.kept && p (Kept e.conn e.moment)))))))
any_in_loan p e = by e.asked e.left e.taken e.lent e.ended e.kept
  where
    by : (a b c d f g : Bool) → list_any p (mark_if a (Asked e.ticket e.client (e.asked_at + e.timeout)) ++ (mark_if b (Left e.ticket) ++ (mark_if c (Taken e.conn) ++ (mark_if d (Lent e.client e.conn) ++ (mark_if f (Ended e.ticket) ++ mark_if g (Kept e.conn e.moment))))))
        ≡ ((a && p (Asked e.ticket e.client (e.asked_at + e.timeout))) || ((b && p (Left e.ticket)) || ((c && p (Taken e.conn)) || ((d && p (Lent e.client e.conn)) || ((f && p (Ended e.ticket)) || (g && p (Kept e.conn e.moment)))))))
    by a b c d f g = any-if p a _ _ ∙ ap (λ x. (a && p (Asked e.ticket e.client (e.asked_at + e.timeout))) || x) (any-if p b _ _ ∙ ap (λ x. (b && p (Left e.ticket)) || x) (any-if p c _ _ ∙ ap (λ x. (c && p (Taken e.conn)) || x) (any-if p d _ _ ∙ ap (λ x. (d && p (Lent e.client e.conn)) || x) (any-if p f _ _ ∙ ap (λ x. (f && p (Ended e.ticket)) || x) (last-one p g (Kept e.conn e.moment))))))

and_false : (x : Bool) → (x && false) ≡ false
and_false true = refl
and_false false = refl

-- where only one of six is looked for
pub ticket_ends_in : (t : ℕ) (e : LoanMarks) → list_any (is_ended t) (loan_marks e) ≡ (e.ended && (t == e.ticket))
ticket_ends_in t e = any_in_loan (is_ended t) e ∙ rw (and_false e.asked, and_false e.left, and_false e.taken, and_false e.lent, and_false e.kept) (or-false (e.ended && (t == e.ticket)))

both : (x y z : Bool) → ((x && z) || (y && z)) ≡ ((x || y) && z)
both true true true = refl
both true true false = refl
both true false z = or-false z
both false y z = refl

pub loan_ends_in : (k c : ℕ) (e : LoanMarks) → list_any (ends_loan (record { client = k; conn = c })) (loan_marks e) ≡ ((e.lent || e.kept) && (c == e.conn))
loan_ends_in k c e = any_in_loan (ends_loan (record { client = k; conn = c })) e ∙ rw (and_false e.asked, and_false e.left, and_false e.taken, and_false e.ended) (both e.lent e.kept (c == e.conn))

pub rest_ends_in : (c m : ℕ) (e : LoanMarks) → list_any (ends_rest (record { conn = c; since = m })) (loan_marks e) ≡ ((e.taken || e.kept) && (c == e.conn))
rest_ends_in c m e = any_in_loan (ends_rest (record { conn = c; since = m })) e ∙ rw (and_false e.asked, and_false e.left, and_false e.lent, and_false e.ended) (both e.taken e.kept (c == e.conn))

pub conn_ends_in : (c : ℕ) (e : LoanMarks) → list_any (ends_conn c) (loan_marks e) ≡ false
conn_ends_in c e = any_in_loan (ends_conn c) e ∙ rw (and_false e.asked, and_false e.left, and_false e.taken, and_false e.lent, and_false e.ended, and_false e.kept) refl

-- no mark
pub empty_loan : (e : LoanMarks) → (e.asked || (e.left || (e.taken || (e.lent || (e.ended || e.kept))))) ≡ false → loan_marks e ≡ []
empty_loan e none = by e.asked e.left e.taken e.lent e.ended e.kept none
  where
    by : (a b c d f g : Bool) → (a || (b || (c || (d || (f || g))))) ≡ false
        → mark_if a (Asked e.ticket e.client (e.asked_at + e.timeout)) ++ (mark_if b (Left e.ticket) ++ (mark_if c (Taken e.conn) ++ (mark_if d (Lent e.client e.conn) ++ (mark_if f (Ended e.ticket) ++ mark_if g (Kept e.conn e.moment))))) ≡ []
    by false false false false false false none = refl
    by a b c d f g none = absurd cc
