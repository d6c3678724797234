-- The moment of an event that a line says, and the numbers of a first line, are small.
use Rattle.std.proofs.Common.{◌≡◌, ℕ, ◌<◌, ◌≤◌, ◌^◌, ◌&&◌, Bool, true, false, cond, nat_lt, nat_le, List, [], ◌∷◌, codes, Option, Some, None, refl, sym, subst}
use Rattle.std.specs.Str.{bytes_eq}
use Rattle.std.specs.Str.Parse.{digits_value}
use Rattle.std.proofs.lemmas.Bool.{ltb-true, leb-true, and_parts}
use Rattle.sqlx_lines.specs.Words.{whole, words_of, ends_well}
use Rattle.sqlx_lines.specs.Numbers.{number_in, millis, name_number, is_number}
use Rattle.sqlx_lines.specs.Rows.{row, ended}
use Rattle.sqlx_lines.proofs.Rows.{bound}
use Rattle.sqlx_jobs_rules.specs.declared.queue_line.QueueLine.{QueueLine}
use Rattle.sqlx_jobs_rules.specs.declared.event.Event.{Event}
use Rattle.sqlx_jobs_rules.specs.declared.event.Act.TheVariants.{Add, Claim, Extend, Finish, Drop, Count}
use Rattle.sqlx_jobs_rules.specs.Grammar.{met_of, at, add_words, claim_words, extend_words, finish_words, drop_words, count_words, ending_fields, fields_of, event_words, event_at, jobs_words, opening_words, opening_of}
use Rattle.sqlx_jobs_rules.proofs.Moments.{is_told}

-- ---- numbers

some_of : (b : Bool) (x y : ℕ) → cond b (Some x) None ≡ Some y → (b ≡ true) × (x ≡ y)
some_of true x y h = let same : x ≡ y = cc in (refl, same)
some_of false x y h = cc

number_within : (low high : ℕ) (word : List ℕ) (n : ℕ) → number_in low high word ≡ Some n → (low ≤ n) × (n < high)
unfolding number_in
number_within low high word n h =
    let test = some_of (is_number word && nat_le low (digits_value 10 word) && nat_lt (digits_value 10 word) high) (digits_value 10 word) n h in
    let both = and_parts (is_number word && nat_le low (digits_value 10 word)) (nat_lt (digits_value 10 word) high) test.0 in
    let least = and_parts (is_number word) (nat_le low (digits_value 10 word)) both.0 in
    (subst (λ x. low ≤ x) test.1 (leb-true low (digits_value 10 word) least.1), subst (λ x. x < high) test.1 (ltb-true (digits_value 10 word) high both.1))

-- ---- events

-- what is said of some words has this moment
abbrev HasMoment : ℕ → (List (List ℕ) → Option Event) → Type 0
HasMoment m f = (ws : List (List ℕ)) (event : Event) → f ws ≡ Some event → event.moment ≡ m

ended_has : (m : ℕ) (made : Event) → made.moment ≡ m → HasMoment m (ended made)
ended_has m made is [] event h = let same : made ≡ event = cc in subst (λ (e : Event). e.moment ≡ m) same is
ended_has m made is (w ∷ ws) event h = cc

row_has : {A : Type 0} (m : ℕ) (p : List ℕ → Option A) (f : A → List (List ℕ) → Option Event) → ((x : A) → HasMoment m (f x)) → HasMoment m (row p f)
row_has m p f has [] event h = cc
row_has m p f has (w ∷ ws) event h = let found = bound (p w) (λ x. f x ws) event h in has found.0 ws event found.2

small_row : (f : ℕ → List (List ℕ) → Option Event) → ((m : ℕ) → HasMoment m (f m)) → (ws : List (List ℕ)) (event : Event) → row millis f ws ≡ Some event → event.moment < 2 ^ 40
small_row f has [] event h = cc
small_row f has (w ∷ ws) event h =
    let found = bound (millis w) (λ m. f m ws) event h in
    subst (λ m. m < 2 ^ 40) (sym (has found.0 ws event found.2)) (number_within 0 (2 ^ 40) w found.0 found.1).1

-- whether what some words say is said at a small moment
abbrev IsSmall : (List (List ℕ) → Option Event) → Type 0
IsSmall f = (ws : List (List ℕ)) (event : Event) → f ws ≡ Some event → event.moment < 2 ^ 40

add_small : IsSmall add_words
unfolding add_words
add_small = small_row (λ now. row met_of (λ a. ended (at now (Add a)))) (λ m. row_has m met_of (λ a. ended (at m (Add a))) (λ a. ended_has m (at m (Add a)) refl))

claim_small : IsSmall claim_words
unfolding claim_words
claim_small = small_row (λ now. row name_number (λ w. row met_of (λ a. ended (at now (Claim w a)))))
    (λ m. row_has m name_number (λ w. row met_of (λ a. ended (at m (Claim w a)))) (λ w. row_has m met_of (λ a. ended (at m (Claim w a))) (λ a. ended_has m (at m (Claim w a)) refl)))

extend_small : IsSmall extend_words
unfolding extend_words
extend_small = small_row (λ now. row name_number (λ w. row name_number (λ j. row met_of (λ a. ended (at now (Extend w j a))))))
    (λ m. row_has m name_number (λ w. row name_number (λ j. row met_of (λ a. ended (at m (Extend w j a))))) (λ w. row_has m name_number (λ j. row met_of (λ a. ended (at m (Extend w j a))))
    (λ j. row_has m met_of (λ a. ended (at m (Extend w j a))) (λ a. ended_has m (at m (Extend w j a)) refl))))

finish_small : IsSmall finish_words
unfolding finish_words
finish_small = small_row (λ now. row name_number (λ w. row name_number (λ j. row met_of (λ a. ended (at now (Finish w j a))))))
    (λ m. row_has m name_number (λ w. row name_number (λ j. row met_of (λ a. ended (at m (Finish w j a))))) (λ w. row_has m name_number (λ j. row met_of (λ a. ended (at m (Finish w j a))))
    (λ j. row_has m met_of (λ a. ended (at m (Finish w j a))) (λ a. ended_has m (at m (Finish w j a)) refl))))

drop_small : IsSmall drop_words
unfolding drop_words
drop_small = small_row (λ now. row name_number (λ w. row name_number (λ j. row met_of (λ a. ended (at now (Drop w j a))))))
    (λ m. row_has m name_number (λ w. row name_number (λ j. row met_of (λ a. ended (at m (Drop w j a))))) (λ w. row_has m name_number (λ j. row met_of (λ a. ended (at m (Drop w j a))))
    (λ j. row_has m met_of (λ a. ended (at m (Drop w j a))) (λ a. ended_has m (at m (Drop w j a)) refl))))

count_small : IsSmall count_words
unfolding count_words
count_small = small_row (λ now. ended (at now Count)) (λ m. ended_has m (at m Count) refl)

-- one of two, whichever it is
either_small : (b : Bool) (f g : List (List ℕ) → Option Event) → IsSmall f → IsSmall g → (ws : List (List ℕ)) (event : Event) → cond b (f ws) (g ws) ≡ Some event → event.moment < 2 ^ 40
either_small true f g small_f small_g ws event h = small_f ws event h
either_small false f g small_f small_g ws event h = small_g ws event h

none_small : IsSmall (λ ws. None)
none_small ws event h = cc

ending_small : (name : List ℕ) → IsSmall (ending_fields name)
unfolding ending_fields
ending_small name =
    either_small (bytes_eq name (codes "finish")) finish_words (λ ws. cond (bytes_eq name (codes "drop")) (drop_words ws) (cond (bytes_eq name (codes "count")) (count_words ws) None)) finish_small
    (either_small (bytes_eq name (codes "drop")) drop_words (λ ws. cond (bytes_eq name (codes "count")) (count_words ws) None) drop_small
    (either_small (bytes_eq name (codes "count")) count_words (λ ws. None) count_small none_small))

fields_small : (name : List ℕ) → IsSmall (fields_of name)
fields_small name =
    either_small (bytes_eq name (codes "add")) add_words (λ ws. cond (bytes_eq name (codes "claim")) (claim_words ws) (cond (bytes_eq name (codes "extend")) (extend_words ws) (ending_fields name ws))) add_small
    (either_small (bytes_eq name (codes "claim")) claim_words (λ ws. cond (bytes_eq name (codes "extend")) (extend_words ws) (ending_fields name ws)) claim_small
    (either_small (bytes_eq name (codes "extend")) extend_words (ending_fields name) extend_small (ending_small name)))

words_small : IsSmall event_words
unfolding event_words
words_small [] event h = cc
words_small (w ∷ ws) event h = fields_small w ws event h

-- the moment of an event that a line says
pub event_small : (last : ℕ) (line : List ℕ) (event : Event) → event_at last line ≡ Some event → event.moment < 2 ^ 40
event_small last line event h = by_end (ends_well line) (is_told last (whole event_words line) event h).0
  where
    by_end : (b : Bool) → cond b (event_words (words_of line)) None ≡ Some event → event.moment < 2 ^ 40
    by_end true e = words_small (words_of line) event e
    by_end false e = cc

-- ---- the first line

jobs_small : (ws : List (List ℕ)) (queue : QueueLine) → jobs_words ws ≡ Some queue → (1 ≤ queue.max) × (queue.max < 65) × (queue.lease < 2 ^ 40)
unfolding jobs_words
jobs_small [] queue h = cc
jobs_small (w ∷ ws) queue h =
    let max = bound (number_in 1 65 w) (λ max. row (number_in 1 (2 ^ 40)) (λ lease. ended (record { max = max; lease = lease })) ws) queue h in
    by_rest max.0 (number_within 1 65 w max.0 max.1) ws max.2
  where
    by_rest : (max : ℕ) → (1 ≤ max) × (max < 65) → (ws : List (List ℕ)) → row (number_in 1 (2 ^ 40)) (λ lease. ended (record { max = max; lease = lease })) ws ≡ Some queue → (1 ≤ queue.max) × (queue.max < 65) × (queue.lease < 2 ^ 40)
    by_rest max few [] h = cc
    by_rest max few (v ∷ vs) h =
        let lease = bound (number_in 1 (2 ^ 40) v) (λ lease. ended (record { max = max; lease = lease }) vs) queue h in
        by_end lease.0 (number_within 1 (2 ^ 40) v lease.0 lease.1) vs lease.2
      where
        by_end : (lease : ℕ) → (1 ≤ lease) × (lease < 2 ^ 40) → (vs : List (List ℕ)) → ended (record { max = max; lease = lease }) vs ≡ Some queue → (1 ≤ queue.max) × (queue.max < 65) × (queue.lease < 2 ^ 40)
        by_end lease small [] h = let same : record { max = max; lease = lease } ≡ queue = cc in subst (λ (q : QueueLine). (1 ≤ q.max) × (q.max < 65) × (q.lease < 2 ^ 40)) same (few.0, few.1, small.1)
        by_end lease small (u ∷ us) h = cc

pub opening_small : (line : List ℕ) (queue : QueueLine) → opening_of line ≡ Some queue → (1 ≤ queue.max) × (queue.max < 65) × (queue.lease < 2 ^ 40)
unfolding opening_words
opening_small line queue h = by_end (ends_well line) h
  where
    by_words : (ws : List (List ℕ)) → opening_words ws ≡ Some queue → (1 ≤ queue.max) × (queue.max < 65) × (queue.lease < 2 ^ 40)
    by_words [] e = cc
    by_words (w ∷ ws) e = by_name (bytes_eq w (codes "jobs")) e
      where
        by_name : (b : Bool) → cond b (jobs_words ws) None ≡ Some queue → (1 ≤ queue.max) × (queue.max < 65) × (queue.lease < 2 ^ 40)
        by_name true e = jobs_small ws queue e
        by_name false e = cc

    by_end : (b : Bool) → cond b (opening_words (words_of line)) None ≡ Some queue → (1 ≤ queue.max) × (queue.max < 65) × (queue.lease < 2 ^ 40)
    by_end true e = by_words (words_of line) e
    by_end false e = cc
