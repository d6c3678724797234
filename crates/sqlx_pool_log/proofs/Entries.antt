-- What entries come to that are pushed, written anew, counted and written out.
use Rattle.std.proofs.Common.{◌≡◌, ℕ, ◌+◌, ◌-◌, ◌*◌, ◌<◌, ◌≤◌, Bool, true, false, cond, List, [], ◌∷◌, ◌++◌, Some, length, take, get_or, set, slice_get, refl, sym, ap, ◌∙◌, arith, ◌⊎◌, inl, inr}
use Rattle.std.proofs.lemmas.List.{append_assoc, append-nil, take_more, take_more_set, length-set, length-append, length-take}
use Rattle.std.proofs.Math.Seq.{take-length}
use Rattle.std.proofs.lemmas.Option.{get_or_from_slice_get, slice_get_within}
use Rattle.sqlx_pool_marks.specs.declared.mark.Mark.{Mark}
use Rattle.sqlx_pool_marks.specs.declared.mark.Mark.TheVariants.{Asked, Left, Taken, Lent, Kept, Ended}
use Rattle.sqlx_pool_log.specs.declared.entry.LoanMarks.{LoanMarks}
use Rattle.sqlx_pool_log.specs.declared.entry.Entry.{Entry}
use Rattle.sqlx_pool_log.specs.declared.entry.Entry.TheVariants.{One, Loan}
use Rattle.sqlx_pool_log.specs.Entries.{ask_marks, lent_marks, mark_if, loan_marks, marks_in, marks_at}
use Rattle.sqlx_pool_log.specs.PackedLog.{AreCounted, IsLastLoan, IsJustAsked, IsJustTaken}
use Rattle.sqlx_pool_marks.proofs.ListFacts.{count_by-cons}
use Rattle.sqlx_pool_marks.proofs.Counting.{count-append}
use Rattle.sqlx_pool_lists.specs.Balance.{lents, is_lent}

-- the marks of entries behind others
pub at-append : (xs ys : List Entry) → marks_at (xs ++ ys) ≡ marks_at xs ++ marks_at ys
at-append [] ys = refl
at-append (x ∷ xs) ys = ap (λ l. marks_in x ++ l) (at-append xs ys) ∙ sym (append_assoc (marks_in x) (marks_at xs) (marks_at ys))

-- an entry that is pushed
pub push_items : (xs : List Entry) (e : Entry) → marks_at (xs ++ e ∷ []) ≡ marks_at xs ++ marks_in e
push_items xs e = at-append xs (e ∷ []) ∙ ap (λ l. marks_at xs ++ l) (append-nil (marks_in e))

pub push_length : (xs : List Entry) (e : Entry) → length (marks_at (xs ++ e ∷ [])) ≡ length (marks_at xs) + length (marks_in e)
push_length xs e = ap length (push_items xs e) ∙ length-append (marks_at xs) (marks_in e)

-- ---- an entry that is written anew

-- the last one, where another takes its place
last_split : (xs : List Entry) (i : ℕ) (old : Entry) → slice_get xs i ≡ Some old → i + 1 ≡ length xs → xs ≡ take i xs ++ old ∷ []
last_split xs i old is last = sym (take-length xs) ∙ (ap (λ (n : ℕ). take n xs) (sym last) ∙ (take_more xs i old (slice_get_within xs i old is) ∙ ap (λ (x : Entry). take i xs ++ x ∷ []) (get_or_from_slice_get xs i old old is)))

set_last : (xs : List Entry) (i : ℕ) (new : Entry) → i + 1 ≡ length xs → set xs i new ≡ take i xs ++ new ∷ []
set_last xs i new last = sym (take-length (set xs i new)) ∙ (ap (λ (n : ℕ). take n (set xs i new)) (length-set xs i new ∙ sym last) ∙ take_more_set xs i new (omega (arith, last)))

-- the last entry gets more marks
pub set_items : (xs : List Entry) (i : ℕ) (old : LoanMarks) (new : Entry) (more : List Mark) → IsLastLoan xs i old → marks_in new ≡ loan_marks old ++ more → marks_at (set xs i new) ≡ marks_at xs ++ more
set_items xs i old new more is has =
    ap marks_at (set_last xs i new is.last)
    ∙ (push_items (take i xs) new
    ∙ (ap (λ (l : List Mark). marks_at (take i xs) ++ l) has
    ∙ (sym (append_assoc (marks_at (take i xs)) (loan_marks old) more)
    ∙ ap (λ (l : List Mark). l ++ more) (sym (push_items (take i xs) (Loan old)) ∙ sym (ap marks_at (last_split xs i (Loan old) is.there is.last))))))

-- ---- counts

length-if : (so : Bool) (m : Mark) (rest : List Mark) → length (mark_if so m ++ rest) ≡ cond so 1 0 + length rest
length-if true m rest = omega arith
length-if false m rest = omega arith

length-one : (so : Bool) (m : Mark) → length (mark_if so m) ≡ cond so 1 0
length-one true m = refl
length-one false m = refl

pub loan_length : (e : LoanMarks) → length (loan_marks e) ≡ cond e.asked 1 0 + (cond e.left 1 0 + (cond e.taken 1 0 + (cond e.lent 1 0 + (cond e.ended 1 0 + cond e.kept 1 0))))
loan_length e = length-if e.asked _ _ ∙ ap (λ (n : ℕ). cond e.asked 1 0 + n) (length-if e.left _ _ ∙ ap (λ (n : ℕ). cond e.left 1 0 + n) (length-if e.taken _ _ ∙ ap (λ (n : ℕ). cond e.taken 1 0 + n) (length-if e.lent _ _ ∙ ap (λ (n : ℕ). cond e.lent 1 0 + n) (length-if e.ended _ _ ∙ ap (λ (n : ℕ). cond e.ended 1 0 + n) (length-one e.kept _)))))

one-most : (b : Bool) → cond {A = ℕ} b 1 0 ≤ 1
one-most true = omega arith
one-most false = omega arith

entry-few : (e : Entry) → length (marks_in e) ≤ 6
entry-few (One m) = omega arith
entry-few (Loan e) = let l = loan_length e in omega (arith, l, one-most e.asked, one-most e.left, one-most e.taken, one-most e.lent, one-most e.ended, one-most e.kept)

pub few_marks : (xs : List Entry) → length (marks_at xs) ≤ 6 * length xs
few_marks [] = omega arith
few_marks (x ∷ xs) = let l = length-append (marks_in x) (marks_at xs) in omega (arith, l, entry-few x, few_marks xs)

pub set_counts : (xs : List Entry) (i : ℕ) (old : LoanMarks) (new : Entry) (more : List Mark) (n : ℕ) → IsLastLoan xs i old → marks_in new ≡ loan_marks old ++ more → AreCounted xs n → AreCounted (set xs i new) (n + length more)
set_counts xs i old new more n is has counted =
    let l = ap length (set_items xs i old new more is has) ∙ length-append (marks_at xs) more in
    record { counted_right = omega (arith, l, counted.counted_right); few = let e = length-set xs i new in omega (arith, e, counted.few) }

pub set_capacity : (xs : List Entry) (i : ℕ) (old : LoanMarks) (new : Entry) (more : List Mark) (room : ℕ) → IsLastLoan xs i old → marks_in new ≡ loan_marks old ++ more → length (marks_at xs) + (room - length xs) ≤ length (marks_at (set xs i new)) + (room - length (set xs i new))
set_capacity xs i old new more room is has =
    let l = ap length (set_items xs i old new more is has) ∙ length-append (marks_at xs) more in
    let e = length-set xs i new in
    rw e (omega (arith, l))

-- the marks of one entry more
pub count_step : (xs : List Entry) (i m n : ℕ) (d : Entry) → i < length xs → m ≡ length (marks_at (take i xs)) → n ≡ length (marks_in (get_or xs i d)) → m + n ≡ length (marks_at (take (i + 1) xs))
count_step xs i m n d lt so_far more = let l = ap (λ (l : List Entry). length (marks_at l)) (take_more xs i d lt) ∙ push_length (take i xs) (get_or xs i d) in omega (arith, l, so_far, more)

pub few_first : (xs : List Entry) (i : ℕ) → length (marks_at (take i xs)) ≤ 6 * length xs
few_first xs i = let l = length-take i xs in let f = few_marks (take i xs) in omega (arith, l, f)

-- ---- marks that are written out

pub write_three : (all a b c : List Mark) → ((all ++ a) ++ b) ++ c ≡ all ++ (a ++ (b ++ c))
write_three all a b c = append_assoc (all ++ a) b c ∙ append_assoc all a (b ++ c)

pub write_both : (all : List Mark) (e : LoanMarks) → (all ++ ask_marks e) ++ lent_marks e ≡ all ++ loan_marks e
write_both all e = append_assoc all (ask_marks e) (lent_marks e) ∙ ap (λ l. all ++ l) (append_assoc (mark_if e.asked (Asked e.ticket e.client (e.asked_at + e.timeout))) (mark_if e.left (Left e.ticket) ++ mark_if e.taken (Taken e.conn)) (lent_marks e) ∙ ap (λ l. mark_if e.asked (Asked e.ticket e.client (e.asked_at + e.timeout)) ++ l) (append_assoc (mark_if e.left (Left e.ticket)) (mark_if e.taken (Taken e.conn)) (lent_marks e)))

pub write_step : (xs : List Entry) (i : ℕ) (d : Entry) (marks new : List Mark) → i < length xs → marks ≡ marks_at (take i xs) → new ≡ marks ++ marks_in (get_or xs i d) → new ≡ marks_at (take (i + 1) xs)
write_step xs i d marks new lt so_far more = more ∙ (ap (λ l. l ++ marks_in (get_or xs i d)) so_far ∙ (sym (push_items (take i xs) (get_or xs i d)) ∙ ap marks_at (sym (take_more xs i d lt))))

-- ---- loans

lent-skip : (so : Bool) (m : Mark) (rest : List Mark) → is_lent m ≡ false → lents (mark_if so m ++ rest) ≡ lents rest
lent-skip true m rest unmet = count_by-cons is_lent m rest ∙ (ap (λ (b : Bool). cond {A = ℕ} b 1 0 + lents rest) unmet ∙ omega arith)
lent-skip false m rest unmet = refl

lent-meet : (so : Bool) (m : Mark) (rest : List Mark) → is_lent m ≡ true → lents (mark_if so m ++ rest) ≡ cond so 1 0 + lents rest
lent-meet true m rest met = count_by-cons is_lent m rest ∙ ap (λ (b : Bool). cond {A = ℕ} b 1 0 + lents rest) met
lent-meet false m rest met = omega arith

lent-last : (so : Bool) (m : Mark) → is_lent m ≡ false → lents (mark_if so m) ≡ 0
lent-last true m unmet = count_by-cons is_lent m [] ∙ (ap (λ (b : Bool). cond {A = ℕ} b 1 0 + lents []) unmet ∙ refl)
lent-last false m unmet = refl

pub lent_in : (e : LoanMarks) → lents (loan_marks e) ≡ cond e.lent 1 0
lent_in e = lent-skip e.asked (Asked e.ticket e.client (e.asked_at + e.timeout)) _ refl ∙ (lent-skip e.left (Left e.ticket) _ refl ∙ (lent-skip e.taken (Taken e.conn) _ refl ∙ (lent-meet e.lent (Lent e.client e.conn) _ refl ∙ (ap (λ (n : ℕ). cond e.lent 1 0 + n) (lent-skip e.ended (Ended e.ticket) _ refl ∙ lent-last e.kept (Kept e.conn e.moment) refl) ∙ omega arith))))

pub lent_step : (xs : List Entry) (i m n : ℕ) (d : Entry) → i < length xs → m ≡ lents (marks_at (take i xs)) → n ≡ lents (marks_in (get_or xs i d)) → m + n ≡ lents (marks_at (take (i + 1) xs))
lent_step xs i m n d lt so_far more =
    let l = ap (λ (l : List Entry). lents (marks_at l)) (take_more xs i d lt) ∙ (ap lents (push_items (take i xs) (get_or xs i d)) ∙ count-append is_lent (marks_at (take i xs)) (marks_in (get_or xs i d))) in
    omega (arith, l, so_far, more)

-- a loan that is kept too
pub kept_too : (e : LoanMarks) (m : ℕ) → e.kept ≡ false → marks_in (Loan (record e { kept = true; moment = m })) ≡ loan_marks e ++ Kept e.conn m ∷ []
kept_too e m not_kept = rw not_kept (by e.asked e.left e.taken e.lent e.ended)
  where
    by : (a b c d f : Bool) → mark_if a (Asked e.ticket e.client (e.asked_at + e.timeout)) ++ (mark_if b (Left e.ticket) ++ (mark_if c (Taken e.conn) ++ (mark_if d (Lent e.client e.conn) ++ (mark_if f (Ended e.ticket) ++ (Kept e.conn m ∷ [])))))
        ≡ (mark_if a (Asked e.ticket e.client (e.asked_at + e.timeout)) ++ (mark_if b (Left e.ticket) ++ (mark_if c (Taken e.conn) ++ (mark_if d (Lent e.client e.conn) ++ (mark_if f (Ended e.ticket) ++ []))))) ++ Kept e.conn m ∷ []
    by a b c d f = sym (append_assoc (mark_if a (Asked e.ticket e.client (e.asked_at + e.timeout))) (mark_if b (Left e.ticket) ++ (mark_if c (Taken e.conn) ++ (mark_if d (Lent e.client e.conn) ++ (mark_if f (Ended e.ticket) ++ [])))) (Kept e.conn m ∷ []) ∙ ap (λ l. mark_if a (Asked e.ticket e.client (e.asked_at + e.timeout)) ++ l) (append_assoc (mark_if b (Left e.ticket)) (mark_if c (Taken e.conn) ++ (mark_if d (Lent e.client e.conn) ++ (mark_if f (Ended e.ticket) ++ []))) (Kept e.conn m ∷ []) ∙ ap (λ l. mark_if b (Left e.ticket) ++ l) (append_assoc (mark_if c (Taken e.conn)) (mark_if d (Lent e.client e.conn) ++ (mark_if f (Ended e.ticket) ++ [])) (Kept e.conn m ∷ []) ∙ ap (λ l. mark_if c (Taken e.conn) ++ l) (append_assoc (mark_if d (Lent e.client e.conn)) (mark_if f (Ended e.ticket) ++ []) (Kept e.conn m ∷ []) ∙ ap (λ l. mark_if d (Lent e.client e.conn) ++ l) (append_assoc (mark_if f (Ended e.ticket)) [] (Kept e.conn m ∷ []))))))

-- an ask whose ticket takes a connection too
pub taken_too : (e : LoanMarks) (t c : ℕ) → IsJustAsked t e → marks_in (Loan (record e { left = true; taken = true; conn = c })) ≡ loan_marks e ++ Left t ∷ Taken c ∷ []
taken_too e t c is = rw (is.asked, is.left, is.taken, is.lent, is.ended, is.kept, is.of) refl

-- a connection that is lent too
pub lent_too : (e : LoanMarks) (k t c : ℕ) → IsJustTaken k t c e → marks_in (Loan (record e { lent = true; ended = true; client = k })) ≡ loan_marks e ++ Lent k c ∷ Ended t ∷ []
lent_too e k t c is = rw (is.left, is.taken, is.lent, is.ended, is.kept, is.of, is.got) (by e.asked is.by_client)
  where
    by : (a : Bool) → (a ≡ false) ⊎ (e.client ≡ k) → mark_if a (Asked t k (e.asked_at + e.timeout)) ++ (Left t ∷ Taken c ∷ Lent k c ∷ Ended t ∷ []) ≡ (mark_if a (Asked t e.client (e.asked_at + e.timeout)) ++ (Left t ∷ Taken c ∷ [])) ++ Lent k c ∷ Ended t ∷ []
    by false so = refl
    by true (inl never) = absurd cc
    by true (inr same) = rw same refl
