-- What a runner answers an event, one kind after the other.
use Rattle.std.proofs.Common.{◌≡◌, ℕ, ◌+◌, ◌<◌, ◌≤◌, ◌==◌, ℤ, pos, Bool, true, nat_lt, List, [], ◌∷◌, ◌++◌, length, Option, Some, None, refl, sym, ap, subst, ◌∙◌}
use Rattle.std.specs.FinMap.{get}
use Rattle.std.proofs.lemmas.Bool.{ltb-true, leb-true}
use Rattle.sqlx_player.specs.Language.{Pairs, events_of}
use Rattle.sqlx_steps_rules.specs.declared.event.Event.{Event}
use Rattle.sqlx_steps_rules.specs.declared.event.Event.TheVariants.{Step, Statement, Apply, Get}
use Rattle.sqlx_steps_rules.specs.declared.event.Write.{Write}
use Rattle.sqlx_steps_rules.specs.declared.reply.Reply.{Reply}
use Rattle.sqlx_steps_rules.specs.declared.reply.Reply.TheVariants.{Defined}
use Rattle.sqlx_steps_rules.specs.Grammar.{is_in_place}
use Rattle.sqlx_steps_rules.specs.Rules.{steps_of, version_of, answer_at, with_statement, apply_reply, version_reached, version_by, found_reply, rows_of}
use Rattle.sqlx_steps.specs.declared.runner.StepRunner.{StepRunner}
use Rattle.sqlx_steps.specs.Keeps.{Keeps}
use Rattle.sqlx_steps.specs.Stands.{StandsFor, AnswersSo}
use Rattle.sqlx_steps.proofs.Standing.{defines, answers, not_first, then_second}

-- ---- what is known of an event in its place

pub statement_within : (d : ℕ) (e : Bool) (event : Event) (w : Write) → event ≡ Statement w → is_in_place d e event ≡ true → 0 < d
statement_within d e event w is h = ltb-true 0 d (then_second e (nat_lt 0 d) (subst (λ (x : Event). is_in_place d e x ≡ true) is h))

pub apply_within : (d : ℕ) (e : Bool) (event : Event) (n f : ℕ) → event ≡ Apply n f → is_in_place d e event ≡ true → n ≤ d
apply_within d e event n f is h = let fits : is_in_place d e (Apply n f) ≡ true = subst (λ (x : Event). is_in_place d e x ≡ true) is h in leb-true n d fits

-- ---- definitions

pub step_answers : (r r' : StepRunner) (pairs : Pairs Event Reply) (event : Event) (n : ℕ) → event ≡ Step n → StandsFor r pairs → is_in_place (length r.definitions) r.ended event ≡ true
    → r'.definitions ≡ r.definitions ++ [] ∷ [] → r'.ended ≡ r.ended → r'.database ≡ r.database → AnswersSo pairs event Defined r'
step_answers r r' pairs event n is s h steps ended database =
    let fits : is_in_place (length r.definitions) r.ended (Step n) ≡ true = subst (λ (x : Event). is_in_place (length r.definitions) r.ended x ≡ true) is h in
    subst (λ (x : Event). AnswersSo pairs x Defined r') (sym is) (record { due = refl; stands = defines r r' pairs (Step n) s refl (not_first r.ended (n == length r.definitions + 1) fits) steps ended database })

pub statement_answers : (r r' : StepRunner) (pairs : Pairs Event Reply) (event : Event) (w : Write) → event ≡ Statement w → StandsFor r pairs → is_in_place (length r.definitions) r.ended event ≡ true
    → r'.definitions ≡ with_statement w r.definitions → r'.ended ≡ r.ended → r'.database ≡ r.database → AnswersSo pairs event Defined r'
statement_answers r r' pairs event w is s h steps ended database =
    let fits : is_in_place (length r.definitions) r.ended (Statement w) ≡ true = subst (λ (x : Event). is_in_place (length r.definitions) r.ended x ≡ true) is h in
    subst (λ (x : Event). AnswersSo pairs x Defined r') (sym is) (record { due = refl; stands = defines r r' pairs (Statement w) s refl (not_first r.ended (nat_lt 0 (length r.definitions)) fits) steps ended database })

-- ---- an apply

pub apply_answers : (r r' : StepRunner) (pairs : Pairs Event Reply) (event : Event) (n f : ℕ) (reply : Reply) (steps : List (List Write)) → event ≡ Apply n f → StandsFor r pairs → steps ≡ r.definitions
    → r'.definitions ≡ r.definitions → r'.ended ≡ true → Keeps steps r'.database.version r'.database → reply ≡ apply_reply n (version_reached steps r.database.version n f)
    → r'.database.version ≡ version_by r.database.version reply → AnswersSo pairs event reply r'
apply_answers r r' pairs event n f reply steps is s same kept ended keeps told version =
    let due : reply ≡ answer_at (steps_of (events_of pairs)) (version_of pairs) (Apply n f) =
    told
    ∙ ap (λ (ss : List (List Write)). apply_reply n (version_reached ss r.database.version n f)) (same ∙ s.steps)
    ∙ ap (λ (v : ℕ). apply_reply n (version_reached (steps_of (events_of pairs)) v n f)) s.version in
    let keeps' : Keeps r.definitions r'.database.version r'.database = subst (λ (ss : List (List Write)). Keeps ss r'.database.version r'.database) same keeps in
    subst (λ (x : Event). AnswersSo pairs x reply r') (sym is) (record { due = due; stands = answers r r' pairs (Apply n f) reply s refl (λ _. refl) kept ended version keeps' })

-- ---- a read

read_stays : (v : ℕ) (o : Option ℤ) → v ≡ version_by v (found_reply o)
read_stays v None = refl
read_stays v (Some value) = refl

pub get_answers : (r r' : StepRunner) (pairs : Pairs Event Reply) (event : Event) (key : ℕ) (reply : Reply) → event ≡ Get key → StandsFor r pairs → r'.definitions ≡ r.definitions → r'.ended ≡ true
    → Keeps r.definitions r.database.version r'.database → reply ≡ found_reply (get (rows_of r.definitions r.database.version) (pos key)) → AnswersSo pairs event reply r'
get_answers r r' pairs event key reply is s kept ended keeps told =
    let due : reply ≡ answer_at (steps_of (events_of pairs)) (version_of pairs) (Get key) =
    told
    ∙ ap (λ (ss : List (List Write)). found_reply (get (rows_of ss r.database.version) (pos key))) s.steps
    ∙ ap (λ (v : ℕ). found_reply (get (rows_of (steps_of (events_of pairs)) v) (pos key))) s.version in
    let version : r'.database.version ≡ version_by r.database.version reply =
    keeps.told ∙ read_stays r.database.version (get (rows_of r.definitions r.database.version) (pos key)) ∙ sym (ap (version_by r.database.version) told) in
    let keeps' : Keeps r.definitions r'.database.version r'.database = subst (λ (v : ℕ). Keeps r.definitions v r'.database) (sym keeps.told) keeps in
    subst (λ (x : Event). AnswersSo pairs x reply r') (sym is) (record { due = due; stands = answers r r' pairs (Get key) reply s refl (λ _. refl) kept ended version keeps' })
