-- What a cut leaves of entries.
use Rattle.std.proofs.Common.{◌≡◌, ℕ, suc, ◌+◌, ◌<◌, ◌≤◌, Bool, true, false, cond, ◌||◌, ◌&&◌, List, [], ◌∷◌, ◌++◌, Some, length, take, drop, get_or, set, slice_get, refl, sym, ap, ◌∙◌, subst, arith}
use Rattle.std.specs.List.{list_any}
use Rattle.std.proofs.lemmas.List.{append_assoc, append-nil, take_more_set, drop-set-lt}
use Rattle.std.proofs.Math.Seq.{drop-cons}
use Rattle.std.proofs.lemmas.Option.{get_or_from_slice_get}
use Rattle.sqlx_pool_marks.specs.declared.mark.Mark.{Mark}
use Rattle.sqlx_pool_marks.specs.declared.mark.Mark.TheVariants.{Asked, Left, Taken, Lent, Kept, Ended}
use Rattle.sqlx_pool_log.specs.declared.entry.LoanMarks.{LoanMarks}
use Rattle.sqlx_pool_log.specs.declared.entry.Entry.{Entry}
use Rattle.sqlx_pool_marks.specs.Marks.{Loan as LoanOf, is_ended, ends_loan}
use Rattle.sqlx_pool_marks.specs.Cut.{is_needed, needed_of}
use Rattle.sqlx_pool_log.specs.Entries.{mark_if, loan_marks, marks_in, marks_at}
use Rattle.sqlx_pool_log.specs.Cut.{cut_marks}
use Rattle.sqlx_pool_log.proofs.Entries.{at-append}
use Rattle.sqlx_pool_log.proofs.Tests.{skip, meet}
use Rattle.sqlx_pool_marks.proofs.ListFacts.{same_number}

-- six lists in front of another
assoc6 : (a b c d e f rest : List Mark) → (a ++ (b ++ (c ++ (d ++ (e ++ f))))) ++ rest ≡ a ++ (b ++ (c ++ (d ++ (e ++ (f ++ rest)))))
assoc6 a b c d e f rest = append_assoc a (b ++ (c ++ (d ++ (e ++ f)))) rest ∙ ap (λ l. a ++ l) (append_assoc b (c ++ (d ++ (e ++ f))) rest ∙ ap (λ l. b ++ l) (append_assoc c (d ++ (e ++ f)) rest ∙ ap (λ l. c ++ l) (append_assoc d (e ++ f) rest ∙ ap (λ l. d ++ l) (append_assoc e f rest))))

module _ (ticket conn : ℕ) where
  -- of a mark that may be there
  pub needed-if : (so : Bool) (m : Mark) (rest : List Mark) → needed_of ticket conn (mark_if so m ++ rest) ≡ mark_if (so && is_needed ticket conn m rest) m ++ needed_of ticket conn rest
  needed-if false m rest = refl
  needed-if true m rest = by (is_needed ticket conn m rest)
    where
      by : (b : Bool) → cond b (m ∷ needed_of ticket conn rest) (needed_of ticket conn rest) ≡ mark_if b m ++ needed_of ticket conn rest
      by true = refl
      by false = refl

  -- of a loan's marks
  pub needed_of_loan : (e : LoanMarks) (later : List Mark) → needed_of ticket conn (loan_marks e ++ later) ≡ loan_marks (cut_marks ticket e later) ++ needed_of ticket conn later
  needed_of_loan e later = ap (needed_of ticket conn) (assoc6 a b c d f g later) ∙ (parts ∙ (says ∙ sym (assoc6 (mark_if (cut_marks ticket e later).asked A) (mark_if (cut_marks ticket e later).left B) (mark_if false C) (mark_if (cut_marks ticket e later).lent D) (mark_if (cut_marks ticket e later).ended F) (mark_if (cut_marks ticket e later).kept G) (needed_of ticket conn later))))
    where
      A : Mark
      A = Asked e.ticket e.client (e.asked_at + e.timeout)

      B : Mark
      B = Left e.ticket

      C : Mark
      C = Taken e.conn

      D : Mark
      D = Lent e.client e.conn

      F : Mark
      F = Ended e.ticket

      G : Mark
      G = Kept e.conn e.moment

      a : List Mark
      a = mark_if e.asked A

      b : List Mark
      b = mark_if e.left B

      c : List Mark
      c = mark_if e.taken C

      d : List Mark
      d = mark_if e.lent D

      f : List Mark
      f = mark_if e.ended F

      g : List Mark
      g = mark_if e.kept G

      n : Bool → Mark → List Mark → List Mark
      n so m rest = mark_if (so && is_needed ticket conn m rest) m

      parts : needed_of ticket conn (a ++ (b ++ (c ++ (d ++ (f ++ (g ++ later))))))
          ≡ n e.asked A (b ++ (c ++ (d ++ (f ++ (g ++ later))))) ++ (n e.left B (c ++ (d ++ (f ++ (g ++ later)))) ++ (n e.taken C (d ++ (f ++ (g ++ later))) ++ (n e.lent D (f ++ (g ++ later)) ++ (n e.ended F (g ++ later) ++ (n e.kept G later ++ needed_of ticket conn later)))))
      parts = needed-if e.asked A (b ++ (c ++ (d ++ (f ++ (g ++ later)))))
          ∙ ap (λ l. n e.asked A (b ++ (c ++ (d ++ (f ++ (g ++ later))))) ++ l) (needed-if e.left B (c ++ (d ++ (f ++ (g ++ later))))
          ∙ ap (λ l. n e.left B (c ++ (d ++ (f ++ (g ++ later)))) ++ l) (needed-if e.taken C (d ++ (f ++ (g ++ later)))
          ∙ ap (λ l. n e.taken C (d ++ (f ++ (g ++ later))) ++ l) (needed-if e.lent D (f ++ (g ++ later))
          ∙ ap (λ l. n e.lent D (f ++ (g ++ later)) ++ l) (needed-if e.ended F (g ++ later)
          ∙ ap (λ l. n e.ended F (g ++ later) ++ l) (needed-if e.kept G later)))))

      ended_behind : list_any (is_ended e.ticket) (d ++ (f ++ (g ++ later))) ≡ (e.ended || list_any (is_ended e.ticket) later)
      ended_behind = skip (is_ended e.ticket) e.lent D (f ++ (g ++ later)) refl ∙ (meet (is_ended e.ticket) e.ended F (g ++ later) (same_number e.ticket) ∙ ap (λ x. e.ended || x) (skip (is_ended e.ticket) e.kept G later refl))

      ended_behind_left : list_any (is_ended e.ticket) (c ++ (d ++ (f ++ (g ++ later)))) ≡ (e.ended || list_any (is_ended e.ticket) later)
      ended_behind_left = skip (is_ended e.ticket) e.taken C (d ++ (f ++ (g ++ later))) refl ∙ ended_behind

      ended_behind_asked : list_any (is_ended e.ticket) (b ++ (c ++ (d ++ (f ++ (g ++ later))))) ≡ (e.ended || list_any (is_ended e.ticket) later)
      ended_behind_asked = skip (is_ended e.ticket) e.left B (c ++ (d ++ (f ++ (g ++ later)))) refl ∙ ended_behind_left

      loan : LoanOf
      loan = record { client = e.client; conn = e.conn }

      loan_behind : list_any (ends_loan loan) (f ++ (g ++ later)) ≡ (e.kept || list_any (ends_loan loan) later)
      loan_behind = skip (ends_loan loan) e.ended F (g ++ later) refl ∙ meet (ends_loan loan) e.kept G later (same_number e.conn)

      and_no : (x : Bool) → (x && false) ≡ false
      and_no true = refl
      and_no false = refl

      says : n e.asked A (b ++ (c ++ (d ++ (f ++ (g ++ later))))) ++ (n e.left B (c ++ (d ++ (f ++ (g ++ later)))) ++ (n e.taken C (d ++ (f ++ (g ++ later))) ++ (n e.lent D (f ++ (g ++ later)) ++ (n e.ended F (g ++ later) ++ (n e.kept G later ++ needed_of ticket conn later)))))
          ≡ mark_if (cut_marks ticket e later).asked A ++ (mark_if (cut_marks ticket e later).left B ++ (mark_if false C ++ (mark_if (cut_marks ticket e later).lent D ++ (mark_if (cut_marks ticket e later).ended F ++ (mark_if (cut_marks ticket e later).kept G ++ needed_of ticket conn later)))))
      says = rw (ended_behind_asked, ended_behind_left, loan_behind, and_no e.taken) refl

  -- of one mark
  pub needed_of_one : (m : Mark) (later : List Mark) → needed_of ticket conn (m ∷ later) ≡ mark_if (is_needed ticket conn m later) m ++ needed_of ticket conn later
  needed_of_one m later = needed-if true m later

  -- an entry in turn, of which nothing is needed, or something
  pub cut_step : (xs : List Entry) (kept at : ℕ) (x : Entry) (some : List Mark) → at < length xs → slice_get xs at ≡ Some x → needed_of ticket conn (marks_in x ++ marks_at (drop (at + 1) xs)) ≡ some ++ needed_of ticket conn (marks_at (drop (at + 1) xs))
      → (marks_at (take kept xs) ++ some) ++ needed_of ticket conn (marks_at (drop (at + 1) xs)) ≡ marks_at (take kept xs) ++ needed_of ticket conn (marks_at (drop at xs))
  cut_step xs kept at x some lt is cuts = append_assoc (marks_at (take kept xs)) some (needed_of ticket conn (marks_at (drop (at + 1) xs))) ∙ ap (λ l. marks_at (take kept xs) ++ l) (sym cuts ∙ ap (needed_of ticket conn) (sym first))
    where
      split : drop at xs ≡ get_or xs at x ∷ drop (at + 1) xs
      split = let e : suc at ≡ at + 1 = omega arith in subst (λ (n : ℕ). drop at xs ≡ get_or xs at x ∷ drop n xs) e (drop-cons xs at x lt)

      first : marks_at (drop at xs) ≡ marks_in x ++ marks_at (drop (at + 1) xs)
      first = ap marks_at split ∙ ap (λ (y : Entry). marks_in y ++ marks_at (drop (at + 1) xs)) (get_or_from_slice_get xs at x x is)

  pub cut_step_none : (xs : List Entry) (kept at : ℕ) (x : Entry) → at < length xs → slice_get xs at ≡ Some x → needed_of ticket conn (marks_in x ++ marks_at (drop (at + 1) xs)) ≡ needed_of ticket conn (marks_at (drop (at + 1) xs))
      → marks_at (take kept xs) ++ needed_of ticket conn (marks_at (drop (at + 1) xs)) ≡ marks_at (take kept xs) ++ needed_of ticket conn (marks_at (drop at xs))
  cut_step_none xs kept at x lt is cuts = ap (λ l. l ++ needed_of ticket conn (marks_at (drop (at + 1) xs))) (sym (append-nil (marks_at (take kept xs)))) ∙ cut_step xs kept at x [] lt is cuts

  pub cut_step_some : (xs : List Entry) (kept at : ℕ) (x cut : Entry) → kept ≤ at → at < length xs → slice_get xs at ≡ Some x → needed_of ticket conn (marks_in x ++ marks_at (drop (at + 1) xs)) ≡ marks_in cut ++ needed_of ticket conn (marks_at (drop (at + 1) xs))
      → marks_at (take (kept + 1) (set xs kept cut)) ++ needed_of ticket conn (marks_at (drop (at + 1) (set xs kept cut))) ≡ marks_at (take kept xs) ++ needed_of ticket conn (marks_at (drop at xs))
  cut_step_some xs kept at x cut few lt is cuts =
      ap (λ (l : List Entry). marks_at l ++ needed_of ticket conn (marks_at (drop (at + 1) (set xs kept cut)))) (take_more_set xs kept cut (omega (arith, few, lt)))
      ∙ (ap (λ (l : List Entry). marks_at (take kept xs ++ cut ∷ []) ++ needed_of ticket conn (marks_at l)) (drop-set-lt (at + 1) xs kept cut (omega (arith, few)))
      ∙ (ap (λ (l : List Mark). l ++ needed_of ticket conn (marks_at (drop (at + 1) xs))) (at-append (take kept xs) (cut ∷ []) ∙ ap (λ l. marks_at (take kept xs) ++ l) (append-nil (marks_in cut)))
      ∙ cut_step xs kept at x (marks_in cut) lt is cuts))
