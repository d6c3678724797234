-- Each byte of a valid script is a newline or from 0x20 to 0x7E.
use Rattle.std.proofs.Common.{◌++◌, ◌≡◌, ℕ, zero, suc, ◌+◌, ◌-◌, ◌^◌, ◌==◌, ◌&&◌, Bool, true, false, not, cond, IsTrue, List, [], ◌∷◌, Option, Some, None, length, take, slice_index, codes, refl, sym, ap, subst, ◌∙◌, inl, inr, nat_lt, nat_le, arith}
use Rattle.std.specs.Char.{is_ascii_digit}
use Rattle.std.specs.Str.{all_ascii_digits, bytes_eq}
use Rattle.std.specs.Str.Parse.{digits_value}
use Rattle.std.specs.List.{list_all, slice_split, onto_first}
use Rattle.std.proofs.lemmas.Bool.{cases_Bool, cond-true, cond-false, and_parts, and_from}
use Rattle.std.proofs.lemmas.Bool.Decides.{nat_tests}
use Rattle.std.proofs.lemmas.Slice.Eq.{bytes_eq-Decides}
use Rattle.sqlx_lines.specs.Words.{is_blank, words_of, ends_well, lines_of, longer}
use Rattle.sqlx_lines.specs.Numbers.{◌>>=◌, is_number, has_leading_zero, number_in, value, plain_value, minus_value, millis, nanos, name_number, key}
use Rattle.sqlx_script.specs.Numbers.{limit_nanos, opens}
use Rattle.sqlx_script.specs.Letters.{plus_or_minus, hook_letter, after_connect_letter, connect_letter, statement_letter, sign, statement, poll_answers, give_answers, switches}
use Rattle.sqlx_lines.specs.Rows.{row, row_if, ended, words0, words1, words2, words3, words4, words5}
use Rattle.sqlx_lines.proofs.Rows.{bound}
use Rattle.sqlx_script.specs.Laws.{is_plain, is_script_byte}
use Rattle.sqlx_script.specs.Grammar.{last_moment, not_before, pool_grammar, statement_of, put_words, poll_words, step_of, pool_name, limits_after, event_words, pool_words, event_of, pool_of}
use Rattle.sqlx_lines.specs.Words.{whole}
use Rattle.sqlx_lines.specs.Scripts.{Reading, reading_at, reading_from, Script, script_after, script_lines, IsScript}
use Rattle.sqlx_script.specs.declared.answers.HookAnswer.{HookAnswer}
use Rattle.sqlx_script.specs.declared.answers.AfterConnectAnswer.{AfterConnectAnswer}
use Rattle.sqlx_script.specs.declared.answers.ConnectAnswer.{ConnectAnswer}
use Rattle.sqlx_script.specs.declared.answers.StatementAnswer.{StatementAnswer}
use Rattle.sqlx_script.specs.declared.pool_line.PoolLine.{PoolLine}
use Rattle.sqlx_script.specs.declared.step.Event.{Event}
use Rattle.sqlx_script.specs.declared.step.Step.{Step}
use Rattle.sqlx_script.specs.declared.step.Step.TheVariants.{Ask, Cancel, Try, Give, End, Detach, Leak, Reap, Min, CloseState, Begin, Custom, Put, Del, Get, Commit, Rollback, GiveUp, Close}

-- the bytes of a word are from 0x20 to 0x7E
abbrev plain : List ℕ → Bool
plain word = list_all is_plain word

-- those of all these words are
abbrev all_plain : List (List ℕ) → Bool
all_plain words = list_all plain words

-- ---- from words to the text between blanks

onto_plain : (b : ℕ) (words : List (List ℕ)) → all_plain (onto_first b words) ≡ true → (is_plain b ≡ true) × (all_plain words ≡ true)
onto_plain b [] h = ((and_parts (is_plain b) true (and_parts (is_plain b && true) true h).0).0, refl)
onto_plain b (w ∷ ws) h =
    let both = and_parts (is_plain b && plain w) (all_plain ws) h in
    let first = and_parts (is_plain b) (plain w) both.0 in
    (first.0, and_from (plain w) (all_plain ws) first.1 both.1)

-- a text is plain where its words are
text_plain : (text : List ℕ) → all_plain (slice_split is_blank text) ≡ true → plain text ≡ true
text_plain [] h = refl
text_plain (b ∷ text) h = elim (cases_Bool (is_blank b)) [
  | inl yes' ↦
      let here : is_plain b ≡ true = grind (arith, nat_tests) in
      let rest : all_plain (slice_split is_blank text) ≡ true = subst (λ ws. all_plain ws ≡ true) (cond-true (is_blank b) ([] ∷ slice_split is_blank text) _ yes') h in
      and_from (is_plain b) (plain text) here (text_plain text rest)
  | inr no' ↦
      let split : all_plain (onto_first b (slice_split is_blank text)) ≡ true = subst (λ ws. all_plain ws ≡ true) (cond-false (is_blank b) ([] ∷ slice_split is_blank text) _ no') h in
      let parts = onto_plain b (slice_split is_blank text) split in
      and_from (is_plain b) (plain text) parts.0 (text_plain text parts.1)
]

-- ---- the kinds of words

-- a word of this kind is plain
abbrev IsPlainKind : {A : Type 0} → (List ℕ → Option A) → Type 0
IsPlainKind {A} p = (w : List ℕ) (x : A) → p w ≡ Some x → plain w ≡ true

digits_plain : (w : List ℕ) → all_ascii_digits w ≡ true → plain w ≡ true
digits_plain [] h = refl
digits_plain (b ∷ w) h =
    let parts = and_parts (is_ascii_digit b) (all_ascii_digits w) h in
    let digit : is_ascii_digit b ≡ true = parts.0 in
    let here : is_plain b ≡ true = grind (arith, nat_tests) in
    and_from (is_plain b) (plain w) here (digits_plain w parts.1)

-- what a test let through passed it
passed : {A : Type 0} (b : Bool) (x y : A) → cond b (Some x) None ≡ Some y → b ≡ true
passed true x y h = refl
passed false x y h = cc

number_plain : (low high : ℕ) → IsPlainKind (number_in low high)
unfolding number_in
number_plain low high w x h =
    let all = passed (is_number w && nat_le low (digits_value 10 w) && nat_lt (digits_value 10 w) high) (digits_value 10 w) x h in
    let first = (and_parts (is_number w && nat_le low (digits_value 10 w)) (nat_lt (digits_value 10 w) high) all).0 in
    let number = (and_parts (is_number w) (nat_le low (digits_value 10 w)) first).0 in
    digits_plain w (and_parts (not (length w == 0) && not (has_leading_zero w)) (all_ascii_digits w) number).1

name_plain : IsPlainKind name_number
name_plain = number_plain 0 (2 ^ 32)

opens_plain : IsPlainKind opens
opens_plain = number_plain 0 65536

key_plain : IsPlainKind key
key_plain = number_plain 0 1000

value_plain : IsPlainKind value
unfolding value
value_plain [] x h = refl
value_plain (b ∷ w) x h = elim (cases_Bool (b == 45)) [
  | inl yes' ↦
      let here : is_plain b ≡ true = grind (arith, nat_tests) in
      let read : minus_value w ≡ Some x = sym (cond-true (b == 45) (minus_value w) (plain_value (b ∷ w)) yes') ∙ h in
      let number = bound (number_in 1 9223372036854775809 w) _ x read in
      and_from (is_plain b) (plain w) here (number_plain 1 9223372036854775809 w number.0 number.1)
  | inr no' ↦
      let read : plain_value (b ∷ w) ≡ Some x = sym (cond-false (b == 45) (minus_value w) (plain_value (b ∷ w)) no') ∙ h in
      let number = bound (number_in 0 9223372036854775808 (b ∷ w)) _ x read in
      number_plain 0 9223372036854775808 (b ∷ w) number.0 number.1
]

-- a word that equals a plain text
same_plain : (w text : List ℕ) → bytes_eq w text ≡ true → plain text ≡ true → plain w ≡ true
same_plain w text same h = subst (λ x. plain x ≡ true) (sym ((bytes_eq-Decides w text).0 same)) h

pool_name_plain : IsPlainKind pool_name
unfolding pool_name
pool_name_plain w x h = elim (cases_Bool (bytes_eq w (codes "pool"))) [
  | inl yes' ↦ same_plain w (codes "pool") yes' refl
  | inr no' ↦ same_plain w (codes "pool2") (passed (bytes_eq w (codes "pool2")) true x (sym (cond-false (bytes_eq w (codes "pool")) _ _ no') ∙ h)) refl
]

limit_nanos_plain : IsPlainKind limit_nanos
unfolding limit_nanos
limit_nanos_plain w x h = elim (cases_Bool (bytes_eq w (45 ∷ []))) [
  | inl yes' ↦ same_plain w (45 ∷ []) yes' refl
  | inr no' ↦
      let read : (millis w >>= λ ms. Some (Some (nanos ms))) ≡ Some x = sym (cond-false (bytes_eq w (45 ∷ [])) _ _ no') ∙ h in
      let number = bound (millis w) _ x read in
      number_plain 0 (2 ^ 40) w number.0 number.1
]

-- ---- letters

plus_or_minus_plain : (b : ℕ) (x : Bool) → plus_or_minus b ≡ Some x → is_plain b ≡ true
unfolding plus_or_minus
plus_or_minus_plain b x h = grind (arith, nat_tests)

hook_letter_plain : (b : ℕ) (x : HookAnswer) → hook_letter b ≡ Some x → is_plain b ≡ true
unfolding hook_letter
hook_letter_plain b x h = grind (arith, nat_tests)

after_connect_letter_plain : (b : ℕ) (x : AfterConnectAnswer) → after_connect_letter b ≡ Some x → is_plain b ≡ true
unfolding after_connect_letter
after_connect_letter_plain b x h = grind (arith, nat_tests)

connect_letter_plain : (b : ℕ) (x : ConnectAnswer) → connect_letter b ≡ Some x → is_plain b ≡ true
unfolding connect_letter
connect_letter_plain b x h = grind (arith, nat_tests)

statement_letter_plain : (b : ℕ) (x : StatementAnswer) → statement_letter b ≡ Some x → is_plain b ≡ true
unfolding statement_letter
statement_letter_plain b x h = grind (arith, nat_tests)

one_plain : (b : ℕ) → is_plain b ≡ true → plain (b ∷ []) ≡ true
one_plain b h = and_from (is_plain b) true h refl

sign_plain : IsPlainKind sign
unfolding sign
sign_plain [] x h = cc
sign_plain (b ∷ []) x h = one_plain b (plus_or_minus_plain b x h)
sign_plain (b ∷ c ∷ w) x h = cc

statement_plain : IsPlainKind statement
unfolding statement
statement_plain [] x h = cc
statement_plain (b ∷ []) x h = one_plain b (statement_letter_plain b x h)
statement_plain (b ∷ c ∷ w) x h = cc

give_answers_plain : IsPlainKind give_answers
unfolding give_answers
give_answers_plain [] x h = cc
give_answers_plain (r ∷ []) x h = cc
give_answers_plain (r ∷ p ∷ []) x h =
    let release = bound (hook_letter r) _ x h in
    let ping = bound (plus_or_minus p) _ x release.2 in
    and_from (is_plain r) (plain (p ∷ [])) (hook_letter_plain r release.0 release.1) (one_plain p (plus_or_minus_plain p ping.0 ping.1))
give_answers_plain (r ∷ p ∷ c ∷ w) x h = cc

-- four plain bytes
four_plain : (p b c a : ℕ) → is_plain p ≡ true → is_plain b ≡ true → is_plain c ≡ true → is_plain a ≡ true → plain (p ∷ b ∷ c ∷ a ∷ []) ≡ true
four_plain p b c a h i j k =
    and_from (is_plain p) (plain (b ∷ c ∷ a ∷ [])) h (and_from (is_plain b) (plain (c ∷ a ∷ [])) i (and_from (is_plain c) (plain (a ∷ [])) j (one_plain a k)))

poll_answers_plain : IsPlainKind poll_answers
unfolding poll_answers
poll_answers_plain [] x h = cc
poll_answers_plain (p ∷ []) x h = cc
poll_answers_plain (p ∷ b ∷ []) x h = cc
poll_answers_plain (p ∷ b ∷ c ∷ []) x h = cc
poll_answers_plain (p ∷ b ∷ c ∷ a ∷ []) x h =
    let ping = bound (plus_or_minus p) _ x h in
    let before = bound (hook_letter b) _ x ping.2 in
    let connect = bound (connect_letter c) _ x before.2 in
    let after = bound (after_connect_letter a) _ x connect.2 in
    four_plain p b c a (plus_or_minus_plain p ping.0 ping.1) (hook_letter_plain b before.0 before.1) (connect_letter_plain c connect.0 connect.1) (after_connect_letter_plain a after.0 after.1)
poll_answers_plain (p ∷ b ∷ c ∷ a ∷ d ∷ w) x h = cc

switches_plain : IsPlainKind switches
unfolding switches
switches_plain [] x h = cc
switches_plain (p ∷ []) x h = cc
switches_plain (p ∷ a ∷ []) x h = cc
switches_plain (p ∷ a ∷ b ∷ []) x h = cc
switches_plain (p ∷ a ∷ b ∷ r ∷ []) x h =
    let ping = bound (plus_or_minus p) _ x h in
    let after = bound (plus_or_minus a) _ x ping.2 in
    let before = bound (plus_or_minus b) _ x after.2 in
    let release = bound (plus_or_minus r) _ x before.2 in
    four_plain p a b r (plus_or_minus_plain p ping.0 ping.1) (plus_or_minus_plain a after.0 after.1) (plus_or_minus_plain b before.0 before.1) (plus_or_minus_plain r release.0 release.1)
switches_plain (p ∷ a ∷ b ∷ r ∷ d ∷ w) x h = cc

-- ---- rows of words

-- words of which something was made are plain
abbrev Tame : {R : Type 0} → (List (List ℕ) → Option R) → Type 0
Tame {R} f = (ws : List (List ℕ)) (r : R) → f ws ≡ Some r → all_plain ws ≡ true

ended_tame : {R : Type 0} (made : R) → Tame (ended made)
ended_tame made [] r h = refl
ended_tame made (w ∷ ws) r h = cc

row_tame : {A R : Type 0} (p : List ℕ → Option A) (f : A → List (List ℕ) → Option R) → IsPlainKind p → ((x : A) → Tame (f x)) → Tame (row p f)
row_tame p f kind tame [] r h = cc
row_tame p f kind tame (w ∷ ws) r h =
    let first = bound (p w) (λ x. f x ws) r h in
    and_from (plain w) (all_plain ws) (kind w first.0 first.1) (tame first.0 ws r first.2)

row_if_tame : {A R : Type 0} (told : Bool) (p : List ℕ → Option A) (other : A) (f : A → List (List ℕ) → Option R) → IsPlainKind p → ((x : A) → Tame (f x)) → Tame (row_if told p other f)
row_if_tame true p other f kind tame = row_tame p f kind tame
row_if_tame false p other f kind tame = tame other

tame0 : {R : Type 0} (made : R) → Tame (words0 made)
unfolding words0
tame0 made = ended_tame made

tame1 : {A R : Type 0} {p : List ℕ → Option A} → IsPlainKind p → (make : A → R) → Tame (words1 p make)
unfolding words1
tame1 {p = p} k make = row_tame p _ k (λ x. ended_tame (make x))

tame2 : {A B R : Type 0} {p : List ℕ → Option A} {q : List ℕ → Option B} → IsPlainKind p → IsPlainKind q → (make : A → B → R) → Tame (words2 p q make)
unfolding words2
tame2 {p = p} {q = q} k l make = row_tame p _ k (λ x. row_tame q _ l (λ y. ended_tame (make x y)))

tame3 : {A B C R : Type 0} {p : List ℕ → Option A} {q : List ℕ → Option B} {r : List ℕ → Option C} → IsPlainKind p → IsPlainKind q → IsPlainKind r → (make : A → B → C → R) → Tame (words3 p q r make)
unfolding words3
tame3 {p = p} {q = q} {r = r} k l m make = row_tame p _ k (λ x. row_tame q _ l (λ y. row_tame r _ m (λ z. ended_tame (make x y z))))

tame4 : {A B C D R : Type 0} {p : List ℕ → Option A} {q : List ℕ → Option B} {r : List ℕ → Option C} {s : List ℕ → Option D} → IsPlainKind p → IsPlainKind q → IsPlainKind r → IsPlainKind s
    → (make : A → B → C → D → R) → Tame (words4 p q r s make)
unfolding words4
tame4 {p = p} {q = q} {r = r} {s = s} k l m n make = row_tame p _ k (λ x. row_tame q _ l (λ y. row_tame r _ m (λ z. row_tame s _ n (λ u. ended_tame (make x y z u)))))

tame5 : {A B C D E R : Type 0} {p : List ℕ → Option A} {q : List ℕ → Option B} {r : List ℕ → Option C} {s : List ℕ → Option D} {t : List ℕ → Option E}
    → IsPlainKind p → IsPlainKind q → IsPlainKind r → IsPlainKind s → IsPlainKind t → (make : A → B → C → D → E → R) → Tame (words5 p q r s t make)
unfolding words5
tame5 {p = p} {q = q} {r = r} {s = s} {t = t} k l m n o make =
    row_tame p _ k (λ x. row_tame q _ l (λ y. row_tame r _ m (λ z. row_tame s _ n (λ u. row_tame t _ o (λ v. ended_tame (make x y z u v))))))

-- ---- lines

-- a name that is this text has plain fields, or the others are asked
pick : (name text : List ℕ) (fields : List (List ℕ)) (f : List (List ℕ) → Option Step) (others : Option Step) (step : Step) → cond (bytes_eq name text) (f fields) others ≡ Some step
    → plain text ≡ true → Tame f → (others ≡ Some step → (plain name ≡ true) × (all_plain fields ≡ true)) → (plain name ≡ true) × (all_plain fields ≡ true)
pick name text fields f others step h t tame rest = elim (cases_Bool (bytes_eq name text)) [
  | inl yes' ↦ (same_plain name text yes' t, tame fields step (sym (cond-true (bytes_eq name text) (f fields) others yes') ∙ h))
  | inr no' ↦ rest (sym (cond-false (bytes_eq name text) (f fields) others no') ∙ h)
]

statement_step_plain : (name : List ℕ) (fields : List (List ℕ)) (step : Step) → statement_of name fields ≡ Some step → (plain name ≡ true) × (all_plain fields ≡ true)
unfolding statement_of put_words
statement_step_plain name fields step h =
    pick name (codes "begin") fields _ _ step h refl (tame3 name_plain name_plain statement_plain Begin) (λ h1.
    pick name (codes "custom") fields _ _ step h1 refl (tame4 name_plain name_plain sign_plain statement_plain Custom) (λ h2.
    pick name (codes "put") fields _ _ step h2 refl (tame5 name_plain name_plain key_plain value_plain statement_plain (λ client connection key value answer. Put client connection key answer value)) (λ h3.
    pick name (codes "del") fields _ _ step h3 refl (tame4 name_plain name_plain key_plain statement_plain Del) (λ h4.
    pick name (codes "get") fields _ _ step h4 refl (tame4 name_plain name_plain key_plain statement_plain Get) (λ h5.
    pick name (codes "commit") fields _ _ step h5 refl (tame3 name_plain name_plain statement_plain Commit) (λ h6.
    pick name (codes "rollback") fields _ _ step h6 refl (tame3 name_plain name_plain statement_plain Rollback) (λ h7.
    pick name (codes "giveup") fields _ _ step h7 refl (tame2 name_plain name_plain GiveUp) (λ h8.
    cc))))))))

poll_plain : (counts_tests : Bool) → Tame (poll_words counts_tests)
unfolding poll_words
poll_plain counts_tests =
    row_tame _ _ name_plain (λ client.
    row_tame _ _ name_plain (λ ticket.
    row_tame _ _ poll_answers_plain (λ answers.
    row_if_tame counts_tests _ _ _ (number_plain 0 65536) (λ n.
    ended_tame _))))

step_plain : (counts_tests : Bool) (name : List ℕ) (fields : List (List ℕ)) (step : Step) → step_of counts_tests name fields ≡ Some step → (plain name ≡ true) × (all_plain fields ≡ true)
unfolding step_of
step_plain counts_tests name fields step h =
    pick name (codes "ask") fields _ _ step h refl (tame1 name_plain Ask) (λ h1.
    pick name (codes "poll") fields _ _ step h1 refl (poll_plain counts_tests) (λ h2.
    pick name (codes "cancel") fields _ _ step h2 refl (tame2 name_plain name_plain Cancel) (λ h3.
    pick name (codes "try") fields _ _ step h3 refl (tame1 name_plain Try) (λ h4.
    pick name (codes "give") fields _ _ step h4 refl (tame4 name_plain name_plain give_answers_plain opens_plain Give) (λ h5.
    pick name (codes "end") fields _ _ step h5 refl (tame3 name_plain name_plain opens_plain End) (λ h6.
    pick name (codes "detach") fields _ _ step h6 refl (tame3 name_plain name_plain opens_plain Detach) (λ h7.
    pick name (codes "leak") fields _ _ step h7 refl (tame3 name_plain name_plain opens_plain Leak) (λ h8.
    pick name (codes "reap") fields _ _ step h8 refl (tame1 opens_plain Reap) (λ h9.
    pick name (codes "min") fields _ _ step h9 refl (tame1 opens_plain Min) (λ h10.
    pick name (codes "closed") fields _ _ step h10 refl (tame0 CloseState) (λ h11.
    pick name (codes "close") fields _ _ step h11 refl (tame0 Close) (λ h12.
    statement_step_plain name fields step h12))))))))))))

event_plain : (counts_tests : Bool) → Tame (event_words counts_tests)
unfolding event_words
event_plain counts_tests [] r h = cc
event_plain counts_tests (name ∷ []) r h = cc
event_plain counts_tests (name ∷ w ∷ fields) r h =
    let now = bound (millis w) _ r h in
    let step = bound (step_of counts_tests name fields) _ r now.2 in
    let both = step_plain counts_tests name fields step.0 step.1 in
    and_from (plain name) (all_plain (w ∷ fields)) both.0 (and_from (plain w) (all_plain fields) (number_plain 0 (2 ^ 40) w now.0 now.1) both.1)

limits_plain : (counts_tests : Bool) (max min timeout : ℕ) → Tame (limits_after counts_tests max min timeout)
unfolding limits_after
limits_plain counts_tests max min timeout =
    row_tame _ _ limit_nanos_plain (λ lifetime.
    row_tame _ _ limit_nanos_plain (λ idle.
    row_tame _ _ switches_plain (λ on.
    row_if_tame counts_tests _ _ _ (number_plain 1 17) (λ tries.
    ended_tame _))))

pool_plain : Tame pool_words
unfolding pool_words
pool_plain =
    row_tame _ _ pool_name_plain (λ counts_tests.
    row_tame _ _ (number_plain 1 65536) (λ max.
    row_tame _ _ opens_plain (λ min.
    row_tame _ _ (number_plain 0 (2 ^ 40)) (λ timeout.
    limits_plain counts_tests max min (nanos timeout)))))

-- the bytes of a line may stand in a script
abbrev ok : List ℕ → Bool
ok line = list_all is_script_byte line

-- a newline after plain bytes
ok_by_last : (line : List ℕ) (n : ℕ) → length line ≡ suc n → (slice_index line n == 10) ≡ true → plain (take n line) ≡ true → ok line ≡ true
ok_by_last [] n e newline h = refl
ok_by_last (b ∷ []) zero e newline h = let here : is_script_byte b ≡ true = grind (arith, nat_tests) in and_from (is_script_byte b) true here refl
ok_by_last (b ∷ c ∷ line) zero e newline h = absurd (omega arith)
ok_by_last (b ∷ line) (suc n) e newline h =
    let parts = and_parts (is_plain b) (plain (take n line)) h in
    let first : is_plain b ≡ true = parts.0 in
    let here : is_script_byte b ≡ true = grind (arith, nat_tests) in
    and_from (is_script_byte b) (ok line) here (ok_by_last line n (omega arith) newline parts.1)

ok_line : (line : List ℕ) → ends_well line ≡ true → all_plain (words_of line) ≡ true → ok line ≡ true
ok_line [] ends h = refl
ok_line (b ∷ line) ends h =
    let less : length (b ∷ line) - 1 ≡ length line = omega arith in
    ok_by_last (b ∷ line) (length line) refl (subst (λ n. (slice_index (b ∷ line) n == 10) ≡ true) less ends)
    (subst (λ n. plain (take n (b ∷ line)) ≡ true) less (text_plain (take (length (b ∷ line) - 1) (b ∷ line)) h))

whole_ok : {R : Type 0} (f : List (List ℕ) → Option R) (line : List ℕ) (r : R) → Tame f → whole f line ≡ Some r → ok line ≡ true
whole_ok f line r tame h = elim (cases_Bool (ends_well line)) [
  | inl yes' ↦ ok_line line yes' (tame (words_of line) r (sym (cond-true (ends_well line) (f (words_of line)) None yes') ∙ h))
  | inr no' ↦ let none : None ≡ Some r = sym (cond-false (ends_well line) (f (words_of line)) None no') ∙ h in cc
]

event_ok : (counts_tests : Bool) (line : List ℕ) (e : Event) → event_of counts_tests line ≡ Some e → ok line ≡ true
unfolding event_of
event_ok counts_tests line e h = whole_ok (event_words counts_tests) line e (event_plain counts_tests) h

pool_ok : (line : List ℕ) (p : PoolLine) → pool_of line ≡ Some p → ok line ≡ true
unfolding pool_of
pool_ok line p h = whole_ok pool_words line p pool_plain h

-- ---- scripts

abbrev all_ok : List (List ℕ) → Bool
all_ok lines = list_all ok lines

longer_ok : (b : ℕ) (lines : List (List ℕ)) → all_ok (longer b lines) ≡ true → (is_script_byte b ≡ true) × (all_ok lines ≡ true)
longer_ok b [] h = ((and_parts (is_script_byte b) true (and_parts (is_script_byte b && true) true h).0).0, refl)
longer_ok b (line ∷ lines) h =
    let both = and_parts (is_script_byte b && ok line) (all_ok lines) h in
    let first = and_parts (is_script_byte b) (ok line) both.0 in
    (first.0, and_from (ok line) (all_ok lines) first.1 both.1)

-- bytes may stand in a script where those of its lines may
ok_bytes : (bytes : List ℕ) → all_ok (lines_of bytes) ≡ true → ok bytes ≡ true
ok_bytes [] h = refl
ok_bytes (b ∷ bytes) h = elim (cases_Bool (b == 10)) [
  | inl yes' ↦
      let here : is_script_byte b ≡ true = grind (arith, nat_tests) in
      let cut : all_ok ((b ∷ []) ∷ lines_of bytes) ≡ true = subst (λ ls. all_ok ls ≡ true) (cond-true (b == 10) ((b ∷ []) ∷ lines_of bytes) (longer b (lines_of bytes)) yes') h in
      and_from (is_script_byte b) (ok bytes) here (ok_bytes bytes (and_parts (ok (b ∷ [])) (all_ok (lines_of bytes)) cut).1)
  | inr no' ↦
      let cut : all_ok (longer b (lines_of bytes)) ≡ true = subst (λ ls. all_ok ls ≡ true) (cond-false (b == 10) ((b ∷ []) ∷ lines_of bytes) (longer b (lines_of bytes)) no') h in
      let parts = longer_ok b (lines_of bytes) cut in
      and_from (is_script_byte b) (ok bytes) parts.0 (ok_bytes bytes parts.1)
]

-- a line that is an event, before lines of which none is bad where none of them is
good_event : (pool : PoolLine) (n : ℕ) (done : List Event) (line : List ℕ) (lines : List (List ℕ)) (o : Option Event) → event_of pool.counts_tests line ≡ o
    → ((es : List Event) → (reading_from pool_grammar pool (n + 1) es lines).bad ≡ None → all_ok lines ≡ true)
    → (reading_at n (λ event. reading_from pool_grammar pool (n + 1) (done ++ event ∷ []) lines) (not_before (last_moment done) o)).bad ≡ None → all_ok (line ∷ lines) ≡ true
good_event pool n done line lines None e rest h = cc
good_event pool n done line lines (Some event) e rest h = by_test (nat_lt event.moment.0 (last_moment done)) h
  where
    by_test : (falls : Bool) → (reading_at n (λ event. reading_from pool_grammar pool (n + 1) (done ++ event ∷ []) lines) (cond falls None (Some event))).bad ≡ None → all_ok (line ∷ lines) ≡ true
    by_test true h = cc
    by_test false h = and_from (ok line) (all_ok lines) (event_ok pool.counts_tests line event e) (rest (done ++ event ∷ []) h)

-- lines of which none is bad
good_lines : (pool : PoolLine) (lines : List (List ℕ)) (n : ℕ) (done : List Event) → (reading_from pool_grammar pool n done lines).bad ≡ None → all_ok lines ≡ true
unfolding reading_from
good_lines pool [] n done h = refl
good_lines pool (line ∷ lines) n done h = good_event pool n done line lines (event_of pool.counts_tests line) refl (λ es. good_lines pool lines (n + 1) es) h

good_script : (line : List ℕ) (lines : List (List ℕ)) (script : Script PoolLine Event) (o : Option PoolLine) → pool_of line ≡ o → script_after pool_grammar o lines ≡ Some script → script.lines.bad ≡ None → all_ok (line ∷ lines) ≡ true
good_script line lines script None e reads good = cc
good_script line lines script (Some pool) e reads good =
    let same : reading_from pool_grammar pool 2 [] lines ≡ script.lines = cc in
    and_from (ok line) (all_ok lines) (pool_ok line pool e) (good_lines pool lines 2 [] (ap (λ (r : Reading Event). r.bad) same ∙ good))

good_whole : (lines : List (List ℕ)) (script : Script PoolLine Event) → script_lines pool_grammar lines ≡ Some script → script.lines.bad ≡ None → all_ok lines ≡ true
unfolding script_lines
good_whole [] script reads good = refl
good_whole (line ∷ lines) script reads good = good_script line lines script (pool_of line) refl reads good

-- each byte of a valid script may stand in a script
pub script_bytes : (bytes : List ℕ) (script : Script PoolLine Event) → IsScript pool_grammar bytes script → IsTrue (list_all is_script_byte bytes)
script_bytes bytes script s = ok_bytes bytes (good_whole (lines_of bytes) script s.reads s.good)
