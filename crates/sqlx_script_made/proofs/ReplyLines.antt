-- No newline stands in the text of a reply or of the closing report.
use Rattle.std.proofs.Common.{◌≡◌, ℕ, zero, suc, ◌+◌, ◌/◌, ◌%◌, ◌==◌, Bool, true, false, not, ℤ, pos, negsuc, List, [], ◌∷◌, ◌++◌, codes, nat_lt, refl, ap, ◌∙◌, inl, inr, arith}
use Rattle.std.specs.Fmt.{decimal, signed_decimal, digits, digits_onto, digit_glyph}
use Rattle.std.specs.List.{list_all}
use Rattle.std.proofs.lemmas.Bool.{cases_Bool, cond-true, cond-false, and_from}
use Rattle.std.proofs.lemmas.Bool.Decides.{nat_tests}
use Rattle.std.proofs.lemmas.List.Folds.{list_all-append}
use Rattle.sqlx_savepoints.specs.Texts.{text_of}
use Rattle.sqlx_savepoints.specs.declared.level_text.LevelText.{LevelText}
use Rattle.sqlx_savepoints.specs.declared.level_text.LevelText.TheVariants as level
use Rattle.sqlx_script.specs.Texts.{reply_text, report_text}
use Rattle.sqlx_script.specs.declared.reply.Reply.{Reply}
use Rattle.sqlx_script.specs.declared.reply.Reply.TheVariants.{Ticket, PoolClosed, PoolTimedOut, NotHeld, Waiting, Backoff, Ready, Io, DatabaseRefused, Cancelled, NothingToLend, Kept, Closed, Detached, Leaked, Reaped, Opened, Closing, StateOpen, StateClosing, StateClosed, Level, DatabaseDeep, DatabaseBusy, InvalidSavePointStatement, BeginFailed, Written, Value, RowNotFound}
use Rattle.sqlx_script.specs.declared.report.Report.{Report}

-- whether no newline is in it
abbrev pub is_one : List ℕ → Bool
is_one text = list_all (λ b. not (b == 10)) text

-- two texts without a newline make one
both : (a b : List ℕ) → is_one a ≡ true → is_one b ≡ true → is_one (a ++ b) ≡ true
both a b h k = list_all-append (λ c. not (c == 10)) a b ∙ and_from (is_one a) (is_one b) h k

glyph_one : (n : ℕ) → not (digit_glyph false (n % 10) == 10) ≡ true
glyph_one n =
    let small : nat_lt (n % 10) 10 ≡ true = grind (arith, nat_tests) in
    let is : digit_glyph false (n % 10) ≡ 48 + n % 10 = cond-true (nat_lt (n % 10) 10) _ _ small in
    let apart : (48 + n % 10 == 10) ≡ false = grind (arith, nat_tests) in
    ap (λ g. not (g == 10)) is ∙ ap not apart

onto_one : (k n : ℕ) (acc : List ℕ) → is_one acc ≡ true → is_one (digits_onto k 10 false n acc) ≡ true
onto_one zero n acc h = h
onto_one (suc k) n acc h =
    let more : is_one (digit_glyph false (n % 10) ∷ acc) ≡ true = and_from (not (digit_glyph false (n % 10) == 10)) (is_one acc) (glyph_one n) h in
    elim (cases_Bool (n / 10 == 0)) [
      | inl yes' ↦ ap is_one (cond-true (n / 10 == 0) _ _ yes') ∙ more
      | inr no' ↦ ap is_one (cond-false (n / 10 == 0) _ _ no') ∙ onto_one k (n / 10) (digit_glyph false (n % 10) ∷ acc) more
    ]

number : (n : ℕ) → is_one (decimal n) ≡ true
unfolding digits
number n = onto_one 64 n [] refl

signed : (z : ℤ) → is_one (signed_decimal z) ≡ true
signed (pos n) = number n
signed (negsuc n) = number (suc n)

level_one : (text : LevelText) → is_one (text_of text) ≡ true
level_one level.Begin = refl
level_one level.BeginImmediate = refl
level_one level.Commit = refl
level_one level.Rollback = refl
level_one (level.Savepoint n) = both (codes "SAVEPOINT _sqlx_savepoint_") (decimal n) refl (number n)
level_one (level.Release n) = both (codes "RELEASE SAVEPOINT _sqlx_savepoint_") (decimal n) refl (number n)
level_one (level.RollbackTo n) = both (codes "ROLLBACK TO SAVEPOINT _sqlx_savepoint_") (decimal n) refl (number n)

-- the text of a reply is one line
pub reply_one : (r : Reply) → is_one (reply_text r) ≡ true
reply_one (Ticket n) = both (codes "ticket ") (decimal n) refl (number n)
reply_one PoolClosed = refl
reply_one PoolTimedOut = refl
reply_one NotHeld = refl
reply_one Waiting = refl
reply_one (Backoff until) = both (codes "backoff ") (decimal until) refl (number until)
reply_one (Ready n) = both (codes "ready ") (decimal n) refl (number n)
reply_one Io = refl
reply_one DatabaseRefused = refl
reply_one Cancelled = refl
reply_one NothingToLend = refl
reply_one Kept = refl
reply_one (Closed n) = both (codes "closed ") (decimal n) refl (number n)
reply_one (Detached n) = both (codes "detached ") (decimal n) refl (number n)
reply_one (Leaked n) = both (codes "leaked ") (decimal n) refl (number n)
reply_one (Reaped r n) =
    both (codes "reaped " ++ decimal r ++ codes " opened ") (decimal n) (both (codes "reaped " ++ decimal r) (codes " opened ") (both (codes "reaped ") (decimal r) refl (number r)) refl) (number n)
reply_one (Opened n) = both (codes "opened ") (decimal n) refl (number n)
reply_one (Closing n) = both (codes "closing ") (decimal n) refl (number n)
reply_one StateOpen = refl
reply_one StateClosing = refl
reply_one StateClosed = refl
reply_one (Level d text) =
    both (codes "level " ++ decimal d ++ codes " ") (text_of text) (both (codes "level " ++ decimal d) (codes " ") (both (codes "level ") (decimal d) refl (number d)) refl) (level_one text)
reply_one DatabaseDeep = refl
reply_one DatabaseBusy = refl
reply_one InvalidSavePointStatement = refl
reply_one BeginFailed = refl
reply_one (Written n) = both (codes "ok ") (decimal n) refl (number n)
reply_one (Value v) = both (codes "value ") (signed_decimal v) refl (signed v)
reply_one RowNotFound = refl

-- the closing report is one line
pub report_one : (r : Report) → is_one (report_text r) ≡ true
report_one r =
    let held = both (codes "held ") (decimal r.held) refl (number r.held) in
    let idle = both (codes "held " ++ decimal r.held ++ codes " idle ") (decimal r.idle) (both (codes "held " ++ decimal r.held) (codes " idle ") held refl) (number r.idle) in
    let front = codes "held " ++ decimal r.held ++ codes " idle " ++ decimal r.idle in
    let leaked = both (front ++ codes " leaked ") (decimal r.leaked) (both front (codes " leaked ") idle refl) (number r.leaked) in
    let before = front ++ codes " leaked " ++ decimal r.leaked in
    both (before ++ codes " waiting ") (decimal r.waiting) (both before (codes " waiting ") leaked refl) (number r.waiting)
