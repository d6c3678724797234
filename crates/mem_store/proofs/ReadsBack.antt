-- The text of a statement is read as that statement, and what a text's front and its digits are to that.
use Rattle.std.proofs.Common.{◌≡◌, ◌≢◌, ℕ, ◌<◌, ◌^◌, ◌&&◌, Bool, true, false, cond, nat_lt, List, [], ◌∷◌, ◌++◌, length, get_or, take, drop, Ok, Err, Option, Some, None, bytes_eq, decimal, refl, sym, ap, ◌∙◌, arith, ltb-true, lt-ltb, take-append-drop}
use Rattle.std.specs.Str.{all_ascii_digits}
use Rattle.std.specs.Str.Parse.{digits_value, ParsesUnsigned}
use Rattle.std.specs.Cmp.Lexicographic.{bytes_decides}
use Rattle.std.proofs.lemmas.Bool.{cond-true, cond-false}
use Rattle.std.proofs.lemmas.List.{take-append-le, take_all}
use Rattle.std.proofs.lemmas.Str.Parse.{IsNumeralModel, numerals_by_value, tells_all_ascii_digits, parse_plain}
use Rattle.std.proofs.lemmas.Fmt.{first_decimal, digits_decimal, digits_value-decimal}
use Rattle.sqlx_savepoints.specs.declared.level_text.LevelText.TheVariants.{Begin, BeginImmediate, Commit, Rollback, Savepoint, Release, RollbackTo}
use Rattle.mem_store.specs.declared.statement.Statement.{Statement}
use Rattle.mem_store.specs.declared.statement.Statement.TheVariants.{Put, Delete, Get, SelectAll, SelectOne, Level}
use Rattle.mem_store.specs.Statements.{IsNumber, IsHeld, ReadsBack, behind, is_savepoint_number, savepoint_number, statement_text, read_statement}

-- ---- what stands behind words

same_text : (text : List ℕ) → bytes_eq text text ≡ true
same_text text = (bytes_decides text text).1 refl

front : (words rest : List ℕ) → take (length words) (words ++ rest) ≡ words
front words rest = take-append-le (length words) words rest (omega arith) ∙ take_all (length words) words (omega arith)

-- a text that begins with the words
pub behind-words : (words text rest : List ℕ) → text ≡ words ++ rest → Some (drop (length words) text) ≡ behind words text
behind-words words text rest is =
    sym (cond-true (bytes_eq (take (length words) text) words) _ _ (ap (λ t. bytes_eq t words) (ap (take (length words)) is ∙ front words rest) ∙ same_text words))

-- a text that doesn't
pub behind-none : (words text : List ℕ) → ((rest : List ℕ) → text ≢ words ++ rest) → None ≡ behind words text
behind-none words text lacks =
    elim (bytes_eq (take (length words) text) words) as (λ (b : Bool). bytes_eq (take (length words) text) words ≡ b → None ≡ cond b (Some (drop (length words) text)) None) [
      | true ↦ λ e. absurd (lacks (drop (length words) text) (sym (take-append-drop (length words) text) ∙ ap (λ t. t ++ drop (length words) text) ((bytes_decides _ words).0 e)))
      | false ↦ λ e. refl
    ] refl

-- ---- a savepoint's number

own : IsNumeralModel (λ ds. all_ascii_digits ds ≡ true) (digits_value 10)
own = numerals_by_value (λ ds. all_ascii_digits ds ≡ true) tells_all_ascii_digits

is_number : (digits : List ℕ) → 48 < get_or digits 0 0 → all_ascii_digits digits ≡ true → digits_value 10 digits < 2 ^ 64 → is_savepoint_number digits ≡ true
is_number digits high all small = rw (lt-ltb 48 (get_or digits 0 0) high, all, lt-ltb (digits_value 10 digits) (2 ^ 64) small) refl

-- the number that a parse finds behind a first character above 0
pub parsed-ok : (E : Type 0) (digits : List ℕ) (n : ℕ) → ParsesUnsigned {E = E} 64 10 digits (Ok n) → nat_lt 48 (get_or digits 0 0) ≡ true → Some n ≡ savepoint_number digits
unfolding savepoint_number
parsed-ok E digits n parses first =
    let high : 48 < get_or digits 0 0 = ltb-true 48 (get_or digits 0 0) first in
    let plain : get_or digits 0 0 ≢ 43 = λ e. absurd (omega arith) in
    let read = parse_plain own {E = E} 64 digits (Ok n) parses plain in
    ap Some read.1 ∙ sym (cond-true (is_savepoint_number digits) _ _ (is_number digits high read.0.0 read.0.2))

not_number : (first all small : Bool) (some : Option ℕ) → (all ≡ true → small ≡ true → ⊥) → None ≡ cond (first && (all && small)) some None
not_number false all small some fails = refl
not_number true false small some fails = refl
not_number true true false some fails = refl
not_number true true true some fails = absurd (fails refl refl)

pub parsed-err : (E : Type 0) (digits : List ℕ) (e : E) → ParsesUnsigned {E = E} 64 10 digits (Err e) → nat_lt 48 (get_or digits 0 0) ≡ true → None ≡ savepoint_number digits
unfolding savepoint_number
parsed-err E digits e parses first =
    let high : 48 < get_or digits 0 0 = ltb-true 48 (get_or digits 0 0) first in
    let plain : get_or digits 0 0 ≢ 43 = λ is. absurd (omega arith) in
    let fails = parse_plain own {E = E} 64 digits (Err e) parses plain in
    not_number (nat_lt 48 (get_or digits 0 0)) (all_ascii_digits digits) (nat_lt (digits_value 10 digits) (2 ^ 64)) _
    (λ all small. fails (all, some_digit digits high, ltb-true (digits_value 10 digits) (2 ^ 64) small)) where
      some_digit : (ds : List ℕ) → 48 < get_or ds 0 0 → 0 < length ds
      some_digit [] h = absurd (omega arith)
      some_digit (d ∷ ds) h = omega arith

pub no_digit : (digits : List ℕ) → nat_lt 48 (get_or digits 0 0) ≡ false → None ≡ savepoint_number digits
unfolding savepoint_number
no_digit digits first = sym (cond-false (is_savepoint_number digits) _ _ (ap (λ b. b && (all_ascii_digits digits && nat_lt (digits_value 10 digits) (2 ^ 64))) first))

-- the decimal form of a number is read as that number
number-decimal : (n : ℕ) → IsNumber n → savepoint_number (decimal n) ≡ Some n
unfolding savepoint_number
number-decimal n is =
    let value : digits_value 10 (decimal n) ≡ n = digits_value-decimal own n is.1 in
    let small : digits_value 10 (decimal n) < 2 ^ 64 = omega (arith, value, is.1) in
    cond-true (is_savepoint_number (decimal n)) _ _ (is_number (decimal n) (first_decimal n (omega arith) is.1) (digits_decimal own n is.1) small) ∙ ap Some value

-- ---- statements read back

held : (s : Statement) → IsHeld s → read_statement (statement_text s) ≡ Some s
held Put is = refl
held Delete is = refl
held Get is = refl
held SelectAll is = refl
held SelectOne is = refl
held (Level Begin) is = refl
held (Level BeginImmediate) is = refl
held (Level Commit) is = refl
held (Level Rollback) is = refl
held (Level (Savepoint n)) is = rw (number-decimal n is) refl
held (Level (Release n)) is = rw (number-decimal n is) refl
held (Level (RollbackTo n)) is = rw (number-decimal n is) refl

pub reads_back : ReadsBack
reads_back text (Some s) is = ap read_statement is.1 ∙ held s is.0
reads_back text None none = none
