-- Words of a fixed length, without an end of a word.
use Rattle.std.proofs.Common.{◌≡◌, ◌++◌, ℕ, ◌<◌, Bool, true, false, List, [], ◌∷◌, Option, Some, None, length, get_or, take, refl, sym, ap, ◌∙◌, arith}
use Rattle.std.proofs.lemmas.Bool.{ne_eqb}
use Rattle.sqlx_lines.specs.Words.{ends_word, has_end, has_newline, words_in_front}
use Rattle.sqlx_script.specs.Letters.{plus_or_minus, hook_letter, connect_letter, after_connect_letter, statement_letter, sign, statement, poll_answers, give_answers}
use Rattle.sqlx_script.specs.declared.answers.HookAnswer.{HookAnswer}
use Rattle.sqlx_script.specs.declared.answers.AfterConnectAnswer.{AfterConnectAnswer}
use Rattle.sqlx_script.specs.declared.answers.ConnectAnswer.{ConnectAnswer}
use Rattle.sqlx_script.specs.declared.answers.StatementAnswer.{StatementAnswer}
use Rattle.sqlx_lines.specs.Rows.{word, Takes}
use Rattle.sqlx_lines.proofs.Rows.{bound}
use Rattle.sqlx_lines.proofs.Fronts.{front, split}

-- ---- kinds of words of one length

-- words of this kind have that length, and no end of a word
abbrev pub IsShort : {A : Type 0} → ℕ → (List ℕ → Option A) → Type 0
IsShort {A} len p = (w : List ℕ) (x : A) → p w ≡ Some x → (length w ≡ len) × (has_end w ≡ false)

refused : {A : Type 0} (len : ℕ) (p : List ℕ → Option A) (w : List ℕ) (o : Option A) → IsShort len p → p w ≡ o → (length w ≡ len → p w ≡ None) → o ≡ None
refused len p w None is e no' = refl
refused len p w (Some x) is e no' = sym e ∙ no' (is w x e).0

taken_len : (w rest : List ℕ) → take (length w) (w ++ rest) ≡ w
taken_len [] rest = refl
taken_len (b ∷ w) rest = ap (λ x. b ∷ x) (taken_len w rest)

some_rest : (w rest : List ℕ) → ends_word (get_or rest 0 0) ≡ true → length w < length (w ++ rest)
some_rest [] [] end' = cc
some_rest [] (b ∷ rest) end' = omega arith
some_rest (b ∷ w) rest end' = let more = some_rest w rest end' in omega (arith, more)

at_rest : (w rest : List ℕ) → get_or (w ++ rest) (length w) 0 ≡ get_or rest 0 0
at_rest [] rest = refl
at_rest (b ∷ w) rest = at_rest w rest

-- no word of this kind is in front, where so many bytes with an end behind them are none
pub none_short : {A : Type 0} (len : ℕ) (p : List ℕ → Option A) → IsShort len p → (text : List ℕ) → has_newline text ≡ true
    → (len < length text → ends_word (get_or text len 0) ≡ true → p (take len text) ≡ None) → word p (words_in_front text) ≡ None
unfolding word
none_short len p is text some none =
    let first = split text some in
    let words = (front text first.w first.rest some first.is first.inside first.end').words in
    let refused = refused len p first.w (p first.w) is refl (λ e. at_len first.w first.rest len e first.end' (rw first.is at none)) in
    rw (words, refused) refl
  where
    at_len : (w rest : List ℕ) (len : ℕ) → length w ≡ len → ends_word (get_or rest 0 0) ≡ true
        → (len < length (w ++ rest) → ends_word (get_or (w ++ rest) len 0) ≡ true → p (take len (w ++ rest)) ≡ None) → p w ≡ None
    at_len w rest len e end' none = let none' = rw (← e) at none in ap p (sym (taken_len w rest)) ∙ none' (some_rest w rest end') (rw (at_rest w rest) end')

-- nor where there are no such bytes
pub no_short : {A : Type 0} (len : ℕ) (p : List ℕ → Option A) → IsShort len p → (text : List ℕ) → has_newline text ≡ true
    → (len < length text → ends_word (get_or text len 0) ≡ false) → word p (words_in_front text) ≡ None
no_short len p is text some none = none_short len p is text some (λ inside end'. let no' : true ≡ false = sym end' ∙ none inside in cc)

-- nor where such bytes are none of this kind
pub other_short : {A : Type 0} (len : ℕ) (p : List ℕ → Option A) → IsShort len p → (text w rest : List ℕ) → has_newline text ≡ true → text ≡ w ++ rest → length w ≡ len → p w ≡ None
    → word p (words_in_front text) ≡ None
other_short len p is text w rest some parts long none =
    none_short len p is text some (λ _ _. let same : take len text ≡ w = ap (take len) parts ∙ ap (λ n. take n (w ++ rest)) (sym long) ∙ taken_len w rest in ap p same ∙ none)

-- a word of this kind is in front, where so many bytes with an end behind them are one
pub some_short : {A : Type 0} (len : ℕ) (p : List ℕ → Option A) → IsShort len p → (text w rest : List ℕ) (x : A) → has_newline text ≡ true → text ≡ w ++ rest → ends_word (get_or rest 0 0) ≡ true → p w ≡ Some x
    → Takes p text x rest
unfolding word
some_short len p is text w rest x some parts end' e =
    let front = front text w rest some parts (is w x e).1 end' in
    (rw front.words (rw e refl), front.behind, front.stands)

no_end : {A : Type 0} (f : ℕ → Option A) (b : ℕ) (x : A) → f 32 ≡ None → f 10 ≡ None → f b ≡ Some x → ends_word b ≡ false
no_end f b x blank newline some =
    let no_blank = ne_eqb b 32 (λ e. let no' : None ≡ Some x = sym blank ∙ ap f (sym e) ∙ some in cc) in
    let no_newline = ne_eqb b 10 (λ e. let no' : None ≡ Some x = sym newline ∙ ap f (sym e) ∙ some in cc) in
    rw (no_blank, no_newline) refl

plus_inside : (b : ℕ) (x : Bool) → plus_or_minus b ≡ Some x → ends_word b ≡ false
unfolding plus_or_minus
plus_inside b x h = no_end plus_or_minus b x refl refl h

hook_inside : (b : ℕ) (x : HookAnswer) → hook_letter b ≡ Some x → ends_word b ≡ false
unfolding hook_letter
hook_inside b x h = no_end hook_letter b x refl refl h

connect_inside : (b : ℕ) (x : ConnectAnswer) → connect_letter b ≡ Some x → ends_word b ≡ false
unfolding connect_letter
connect_inside b x h = no_end connect_letter b x refl refl h

after_connect_inside : (b : ℕ) (x : AfterConnectAnswer) → after_connect_letter b ≡ Some x → ends_word b ≡ false
unfolding after_connect_letter
after_connect_inside b x h = no_end after_connect_letter b x refl refl h

statement_inside : (b : ℕ) (x : StatementAnswer) → statement_letter b ≡ Some x → ends_word b ≡ false
unfolding statement_letter
statement_inside b x h = no_end statement_letter b x refl refl h

pub sign_short : IsShort 1 sign
unfolding sign
sign_short [] x h = cc
sign_short (b ∷ []) x h = (refl, rw (plus_inside b x h) refl)
sign_short (b ∷ c ∷ w) x h = cc

pub statement_short : IsShort 1 statement
unfolding statement
statement_short [] x h = cc
statement_short (b ∷ []) x h = (refl, rw (statement_inside b x h) refl)
statement_short (b ∷ c ∷ w) x h = cc

pub give_answers_short : IsShort 2 give_answers
unfolding give_answers
give_answers_short [] x h = cc
give_answers_short (r ∷ []) x h = cc
give_answers_short (r ∷ p ∷ []) x h =
    let release = bound (hook_letter r) _ x h in
    let ping = bound (plus_or_minus p) _ x release.2 in
    (refl, rw (hook_inside r release.0 release.1, plus_inside p ping.0 ping.1) refl)
give_answers_short (r ∷ p ∷ c ∷ w) x h = cc

pub poll_answers_short : IsShort 4 poll_answers
unfolding poll_answers
poll_answers_short [] x h = cc
poll_answers_short (p ∷ []) x h = cc
poll_answers_short (p ∷ b ∷ []) x h = cc
poll_answers_short (p ∷ b ∷ c ∷ []) x h = cc
poll_answers_short (p ∷ b ∷ c ∷ a ∷ []) x h =
    let ping = bound (plus_or_minus p) _ x h in
    let before = bound (hook_letter b) _ x ping.2 in
    let connect = bound (connect_letter c) _ x before.2 in
    let after = bound (after_connect_letter a) _ x connect.2 in
    (refl, rw (plus_inside p ping.0 ping.1, hook_inside b before.0 before.1, connect_inside c connect.0 connect.1, after_connect_inside a after.0 after.1) refl)
poll_answers_short (p ∷ b ∷ c ∷ a ∷ d ∷ w) x h = cc
