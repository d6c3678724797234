-- Runners that stand for events and replies, behind one event more.
use Rattle.std.proofs.Common.{◌≡◌, ℕ, Bool, true, false, not, ◌&&◌, ◌||◌, cond, List, [], ◌∷◌, ◌++◌, length, Option, Some, None, refl, sym, ap, subst, ◌∙◌}
use Rattle.std.proofs.lemmas.List.{map-append}
use Rattle.sqlx_player.specs.Language.{Pairs, events_of}
use Rattle.sqlx_player.specs.Responds.{IsDue}
use Rattle.sqlx_lines.specs.Words.{whole}
use Rattle.sqlx_lines.specs.Rows.{with_behind}
use Rattle.sqlx_steps_rules.specs.declared.event.Event.{Event}
use Rattle.sqlx_steps_rules.specs.declared.event.Write.{Write}
use Rattle.sqlx_steps_rules.specs.declared.reply.Reply.{Reply}
use Rattle.sqlx_steps_rules.specs.declared.reply.Reply.TheVariants.{Defined}
use Rattle.sqlx_steps_rules.specs.Grammar.{event_words, in_place, is_in_place}
use Rattle.sqlx_steps_rules.specs.Rules.{steps_language, steps_after, steps_of, defined_by, have_ended, ends_definitions, version_after, version_by}
use Rattle.sqlx_steps.specs.declared.database.Database.{Database}
use Rattle.sqlx_steps.specs.declared.runner.StepRunner.{StepRunner}
use Rattle.sqlx_steps.specs.Keeps.{Keeps}
use Rattle.sqlx_steps.specs.Stands.{StandsFor, IsReady}
use Rattle.sqlx_steps.proofs.Keeping.{keeps_anew}

-- ---- one event more

steps_after-push : (steps : List (List Write)) (events : List Event) (event : Event) → steps_after steps (events ++ event ∷ []) ≡ defined_by (steps_after steps events) event
unfolding steps_after
steps_after-push steps [] event = refl
steps_after-push steps (e ∷ events) event = steps_after-push (defined_by steps e) events event

or_assoc : (a b c : Bool) → (a || (b || c)) ≡ ((a || b) || c)
or_assoc true b c = refl
or_assoc false b c = refl

have_ended-push : (events : List Event) (event : Event) → have_ended (events ++ event ∷ []) ≡ (have_ended events || ends_definitions event)
unfolding have_ended
have_ended-push [] event = or_false (ends_definitions event)
  where
    or_false : (b : Bool) → (b || false) ≡ b
    or_false true = refl
    or_false false = refl
have_ended-push (e ∷ events) event = ap (λ b. ends_definitions e || b) (have_ended-push events event) ∙ or_assoc (ends_definitions e) (have_ended events) (ends_definitions event)

version_after-push : (v : ℕ) (pairs : Pairs Event Reply) (pair : Event × Reply) → version_after v (pairs ++ pair ∷ []) ≡ version_by (version_after v pairs) pair.1
unfolding version_after
version_after-push v [] pair = refl
version_after-push v (p ∷ pairs) pair = version_after-push (version_by v p.1) pairs pair

events_of-push : (pairs : Pairs Event Reply) (event : Event) (reply : Reply) → events_of (pairs ++ (event, reply) ∷ []) ≡ events_of pairs ++ event ∷ []
events_of-push pairs event reply = map-append (λ (p : Event × Reply). p.0) pairs ((event, reply) ∷ [])

steps_more : (pairs : Pairs Event Reply) (event : Event) (reply : Reply) → steps_of (events_of (pairs ++ (event, reply) ∷ [])) ≡ defined_by (steps_of (events_of pairs)) event
steps_more pairs event reply = ap steps_of (events_of-push pairs event reply) ∙ steps_after-push [] (events_of pairs) event

ended_more : (pairs : Pairs Event Reply) (event : Event) (reply : Reply) → have_ended (events_of (pairs ++ (event, reply) ∷ [])) ≡ (have_ended (events_of pairs) || ends_definitions event)
ended_more pairs event reply = ap have_ended (events_of-push pairs event reply) ∙ have_ended-push (events_of pairs) event

-- ---- a definition

moved_keeps : (steps steps' : List (List Write)) (d d' : Database) → d' ≡ d → d.version ≡ 0 → Keeps steps d.version d → Keeps steps' d'.version d'
moved_keeps steps steps' d d' same zero k = subst (λ (x : Database). Keeps steps' x.version x) (sym same) (keeps_anew steps steps' d.version d zero k)

pub defines : (r r' : StepRunner) (pairs : Pairs Event Reply) (event : Event) → StandsFor r pairs → ends_definitions event ≡ false → r.ended ≡ false
    → r'.definitions ≡ defined_by r.definitions event → r'.ended ≡ r.ended → r'.database ≡ r.database → StandsFor r' (pairs ++ (event, Defined) ∷ [])
defines r r' pairs event s defining still steps ended same =
    let before : have_ended (events_of pairs) ≡ false = sym s.ended ∙ still in
    record {
      steps = steps ∙ ap (λ ss. defined_by ss event) s.steps ∙ sym (steps_more pairs event Defined);
      ended = ended ∙ still ∙ sym (ended_more pairs event Defined ∙ ap (λ b. b || ends_definitions event) before ∙ defining);
      version = ap (λ (d : Database). d.version) same ∙ s.version ∙ sym (version_after-push 0 pairs (event, Defined));
      fresh = λ _. ap (λ (d : Database). d.version) same ∙ s.fresh still;
      keeps = moved_keeps r.definitions r'.definitions r.database r'.database same (s.fresh still) s.keeps;
    }

-- ---- an apply or a read

or_true : (b : Bool) → (b || true) ≡ true
or_true true = refl
or_true false = refl

pub answers : (r r' : StepRunner) (pairs : Pairs Event Reply) (event : Event) (reply : Reply) → StandsFor r pairs → ends_definitions event ≡ true → ((steps : List (List Write)) → defined_by steps event ≡ steps)
    → r'.definitions ≡ r.definitions → r'.ended ≡ true → r'.database.version ≡ version_by r.database.version reply → Keeps r.definitions r'.database.version r'.database
    → StandsFor r' (pairs ++ (event, reply) ∷ [])
answers r r' pairs event reply s ending defines_none steps ended version keeps = record {
  steps = steps ∙ s.steps ∙ sym (steps_more pairs event reply ∙ defines_none (steps_of (events_of pairs)));
  ended = ended ∙ sym (ended_more pairs event reply ∙ ap (λ b. have_ended (events_of pairs) || b) ending ∙ or_true (have_ended (events_of pairs)));
  version = version ∙ ap (λ v. version_by v reply) s.version ∙ sym (version_after-push 0 pairs (event, reply));
  fresh = λ still. absurd (true_false (sym ended ∙ still));
  keeps = subst (λ ss. Keeps ss r'.database.version r'.database) (sym steps) keeps;
}
  where
    true_false : true ≡ false → ⊥
    true_false e = cc

-- ---- an event that is due

pub not_first : (e b : Bool) → (not e && b) ≡ true → e ≡ false
not_first true b h = cc
not_first false b h = refl

pub then_second : (e b : Bool) → (not e && b) ≡ true → b ≡ true
then_second true b h = cc
then_second false b h = h

told_in_place : (d : ℕ) (e : Bool) (o : Option Event) (event : Event) → in_place d e o ≡ Some event → is_in_place d e event ≡ true
told_in_place d e None event h = cc
told_in_place d e (Some x) event h = by_test (is_in_place d e x) refl h
  where
    by_test : (b : Bool) → is_in_place d e x ≡ b → cond b (Some x) None ≡ Some event → is_in_place d e event ≡ true
    by_test true is h = let same : x ≡ event = cc in subst (λ (y : Event). is_in_place d e y ≡ true) same is
    by_test false is h = cc

pub ready : (r : StepRunner) (event : Event) → IsDue steps_language (λ _ pairs. StandsFor r pairs) event → IsReady r event
ready r event due = record {
  pairs = due.pairs;
  stands = due.stands;
  in_place =
      ap (λ ss. is_in_place (length ss) r.ended event) due.stands.steps
      ∙ ap (λ e. is_in_place (length (steps_of (events_of due.pairs))) e event) due.stands.ended
      ∙ told_in_place (length (steps_of (events_of due.pairs))) (have_ended (events_of due.pairs)) (whole event_words due.line) event due.says;
}

-- ---- a first line

abbrev behind_or : List ℕ → Option (Unit {0} × List ℕ) → List ℕ
behind_or other None = other
behind_or other (Some line) = line.1

-- what a first line that says something tells
pub opening_is : (behind_it behind : List ℕ) (o : Option (Unit {0})) (says : Unit {0}) → Some (says, behind) ≡ with_behind behind_it o → (o ≡ Some tt) × (behind ≡ behind_it)
opening_is behind_it behind None says h = cc
opening_is behind_it behind (Some first) says h = (refl, ap (behind_or behind) h)

-- one that says nothing
pub opening_not : (behind_it : List ℕ) (o : Option (Unit {0})) → None ≡ with_behind behind_it o → o ≡ None
opening_not behind_it None h = refl
opening_not behind_it (Some first) h = cc

-- ---- a new runner

pub new_stands : (r : StepRunner) → r.definitions ≡ [] → r.ended ≡ false → ((steps : List (List Write)) → Keeps steps 0 r.database) → StandsFor r []
unfolding steps_after have_ended version_after
new_stands r none still keeps = record {
  steps = none;
  ended = still;
  version = (keeps []).told;
  fresh = λ _. (keeps []).told;
  keeps = subst (λ (v : ℕ). Keeps r.definitions v r.database) (sym (keeps []).told) (keeps r.definitions);
}
