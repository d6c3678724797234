-- The digits that are written for a number read back as the number.
use Rattle.std.proofs.Common.{◌≡◌, ℕ, zero, suc, ◌^◌, ◌<◌, ◌≤◌, ◌==◌, ◌&&◌, Bool, true, false, not, cond, List, [], ◌∷◌, Some, None, pos, length, get_or, slice_index, refl, ap, ◌∙◌, arith, nat_le, nat_lt}
use Rattle.std.specs.Char.{is_ascii_digit}
use Rattle.std.specs.Fmt.{decimal}
use Rattle.std.specs.List.{list_all}
use Rattle.std.specs.Str.{all_ascii_digits}
use Rattle.std.specs.Str.Parse.{digits_value}
use Rattle.std.proofs.lemmas.Bool.{cond-true, cond-false, and_parts, and_from}
use Rattle.std.proofs.lemmas.Bool.Decides.{nat_tests}
use Rattle.std.proofs.lemmas.Fmt.{digits_decimal, digits_value-decimal, decimal_nonempty, first_decimal, decimal_digit}
use Rattle.std.proofs.lemmas.Str.Parse.{IsNumeralModel, numerals_by_value, tells_all_ascii_digits}
use Rattle.sqlx_lines.specs.Numbers.{has_leading_zero, is_number, number_in, value}

own : IsNumeralModel (λ ds. all_ascii_digits ds ≡ true) (digits_value 10)
own = numerals_by_value (λ ds. all_ascii_digits ds ≡ true) tells_all_ascii_digits

no_zero : (ds : List ℕ) → 48 < get_or ds 0 0 → has_leading_zero ds ≡ false
no_zero [] h = refl
no_zero (b ∷ []) h = refl
no_zero (b ∷ c ∷ ds) h = grind (arith, nat_tests)

no_leading_zero : (n : ℕ) → n < 2 ^ 64 → has_leading_zero (decimal n) ≡ false
no_leading_zero zero h = rw (decimal_digit 0 (omega arith)) refl
no_leading_zero (suc n) h = no_zero (decimal (suc n)) (first_decimal (suc n) (omega arith) h)

not_empty : (k : ℕ) → 0 < k → not (k == 0) ≡ true
not_empty k h = grind (arith, nat_tests)

is_number-decimal : (n : ℕ) → n < 2 ^ 64 → is_number (decimal n) ≡ true
is_number-decimal n h =
    and_from (not (length (decimal n) == 0) && not (has_leading_zero (decimal n))) (all_ascii_digits (decimal n))
    (and_from (not (length (decimal n) == 0)) (not (has_leading_zero (decimal n))) (not_empty (length (decimal n)) (decimal_nonempty n h)) (ap not (no_leading_zero n h)))
    (digits_decimal own n h)

within : (b : Bool) (low high v n : ℕ) → b ≡ true → v ≡ n → low ≤ n → n < high → cond (b && nat_le low v && nat_lt v high) (Some v) None ≡ Some n
within b low high v n yes' e l s =
    let below : nat_le low v ≡ true = grind (arith, nat_tests) in
    let above : nat_lt v high ≡ true = grind (arith, nat_tests) in
    cond-true (b && nat_le low v && nat_lt v high) _ _ (and_from (b && nat_le low v) (nat_lt v high) (and_from b (nat_le low v) yes' below) above) ∙ ap Some e

-- a number in its range reads back
pub number_in-decimal : (low high n : ℕ) → low ≤ n → n < high → n < 2 ^ 64 → number_in low high (decimal n) ≡ Some n
unfolding number_in
number_in-decimal low high n l s h = within (is_number (decimal n)) low high (digits_value 10 (decimal n)) n (is_number-decimal n h) (digits_value-decimal own n h) l s

no_minus : (ds : List ℕ) → all_ascii_digits ds ≡ true → (slice_index ds 0 == 45) ≡ false
no_minus [] h = refl
no_minus (b ∷ ds) h =
    let digit : is_ascii_digit b ≡ true = (and_parts (is_ascii_digit b) (all_ascii_digits ds) h).0 in
    grind (arith, nat_tests)

-- a value without a minus reads back
pub value-decimal : (n : ℕ) → n < 2 ^ 63 → value (decimal n) ≡ Some (pos n)
unfolding value
value-decimal n h =
    cond-false (slice_index (decimal n) 0 == 45) _ _ (no_minus (decimal n) (digits_decimal own n (omega arith)))
    ∙ rw (number_in-decimal 0 9223372036854775808 n (omega arith) (omega (arith, h)) (omega arith)) refl

-- whether a byte is neither a blank nor a newline
abbrev pub is_inner : ℕ → Bool
is_inner b = not (b == 32) && not (b == 10)

digits_inner : (ds : List ℕ) → all_ascii_digits ds ≡ true → list_all is_inner ds ≡ true
digits_inner [] h = refl
digits_inner (b ∷ ds) h =
    let parts = and_parts (is_ascii_digit b) (all_ascii_digits ds) h in
    let digit : is_ascii_digit b ≡ true = parts.0 in
    let here : is_inner b ≡ true = grind (arith, nat_tests) in
    and_from (is_inner b) (list_all is_inner ds) here (digits_inner ds parts.1)

pub decimal_inner : (n : ℕ) → n < 2 ^ 64 → list_all is_inner (decimal n) ≡ true
decimal_inner n h = digits_inner (decimal n) (digits_decimal own n h)
