-- What is told of an event, and the moments of events.
use Rattle.std.proofs.Common.{◌≡◌, ℕ, ◌+◌, ◌<◌, ◌≤◌, Bool, true, false, cond, nat_lt, nat_le, List, [], ◌∷◌, ◌++◌, Option, Some, None, refl, sym, ap, subst, ◌∙◌}
use Rattle.std.proofs.lemmas.Bool.{lt-ltb, le-ltb, ltb-false, le-leb, and_from}
use Rattle.sqlx_lines.specs.Rows.{with_behind}
use Rattle.sqlx_lines.specs.Words.{lines_of, whole}
use Rattle.sqlx_lines.specs.Scripts.{Reading, reading_from, Script, script_after, script_lines}
use Rattle.sqlx_lines.proofs.Readings.{event_next, none_next, end_next}
use Rattle.sqlx_jobs_rules.specs.declared.queue_line.QueueLine.{QueueLine}
use Rattle.sqlx_jobs_rules.specs.declared.event.Event.{Event}
use Rattle.sqlx_jobs_rules.specs.Grammar.{last_moment, not_before, event_words, event_at, jobs_grammar}
use Rattle.sqlx_jobs_rules.specs.Laws.{never_falls, MomentsNeverFall}

pub last_moment-push : (events : List Event) (event : Event) → last_moment (events ++ event ∷ []) ≡ event.moment
last_moment-push [] event = refl
last_moment-push (e ∷ []) event = refl
last_moment-push (e ∷ f ∷ events) event = last_moment-push (f ∷ events) event

abbrev said_or : Event → Option (Event × List ℕ) → Event
said_or other (Some pair) = pair.0
said_or other None = other

pub kept : (b behind : List ℕ) (o : Option Event) (says : Event) (last : ℕ) → Some (says, behind) ≡ with_behind b o → last ≤ says.moment → Some (says, behind) ≡ with_behind b (not_before last o)
kept b behind (Some x) says last h late =
    let same : says ≡ x = ap (said_or says) h in
    let is : nat_lt x.moment last ≡ false = subst (λ (y : Event). nat_lt y.moment last ≡ false) same (le-ltb says.moment last late) in
    h ∙ ap (λ c. with_behind b (cond c None (Some x))) (sym is)
kept b behind None says last h late = cc

pub left_out : (b behind : List ℕ) (o : Option Event) (says : Event) (last : ℕ) → Some (says, behind) ≡ with_behind b o → says.moment < last → None ≡ with_behind b (not_before last o)
left_out b behind (Some x) says last h early =
    let same : says ≡ x = ap (said_or says) h in
    let is : nat_lt x.moment last ≡ true = subst (λ (y : Event). nat_lt y.moment last ≡ true) same (lt-ltb says.moment last early) in
    ap (λ c. with_behind b (cond c None (Some x))) (sym is)
left_out b behind None says last h early = cc

pub nothing : (b : List ℕ) (o : Option Event) (last : ℕ) → None ≡ with_behind b o → None ≡ with_behind b (not_before last o)
nothing b (Some x) last h = cc
nothing b None last h = refl

-- an event that was told is what the line says, and its moment is not below the last
pub is_told : (last : ℕ) (o : Option Event) (event : Event) → not_before last o ≡ Some event → (o ≡ Some event) × (last ≤ event.moment)
is_told last None event h = cc
is_told last (Some x) event h = by_test (nat_lt x.moment last) refl h
  where
    by_test : (c : Bool) → nat_lt x.moment last ≡ c → cond c None (Some x) ≡ Some event → (Some x ≡ Some event) × (last ≤ event.moment)
    by_test true is h = cc
    by_test false is h = let same : x ≡ event = cc in (h, subst (λ (y : Event). last ≤ y.moment) same (ltb-false x.moment last is))

-- ---- scripts

-- the moments of what lines say behind these events never fall
reading_rises : (queue : QueueLine) (number : ℕ) (done : List Event) (lines : List (List ℕ)) → never_falls (last_moment done) (reading_from jobs_grammar queue number done lines).events ≡ true
reading_rises queue number done [] = ap (λ (r : Reading Event). never_falls (last_moment done) r.events) (end_next jobs_grammar queue number done)
reading_rises queue number done (line ∷ lines) = by_event (λ event. reading_rises queue (number + 1) (done ++ event ∷ []) lines) (event_at (last_moment done) line) refl
  where
    by_event : ((event : Event) → never_falls (last_moment (done ++ event ∷ [])) (reading_from jobs_grammar queue (number + 1) (done ++ event ∷ []) lines).events ≡ true)
        → (o : Option Event) → event_at (last_moment done) line ≡ o → never_falls (last_moment done) (reading_from jobs_grammar queue number done (line ∷ lines)).events ≡ true
    by_event later None is = ap (λ (r : Reading Event). never_falls (last_moment done) r.events) (none_next jobs_grammar queue number done line lines is)
    by_event later (Some event) is =
        let late : last_moment done ≤ event.moment = (is_told (last_moment done) (whole event_words line) event is).1 in
        let rises : never_falls event.moment (reading_from jobs_grammar queue (number + 1) (done ++ event ∷ []) lines).events ≡ true =
        subst (λ m. never_falls m (reading_from jobs_grammar queue (number + 1) (done ++ event ∷ []) lines).events ≡ true) (last_moment-push done event) (later event) in
        ap (λ (r : Reading Event). never_falls (last_moment done) r.events) (event_next jobs_grammar queue number done line lines event is)
        ∙ and_from (nat_le (last_moment done) event.moment) _ (le-leb (last_moment done) event.moment late) rises

pub moments_never_fall : MomentsNeverFall
unfolding script_lines
moments_never_fall bytes script is = by_lines (lines_of bytes) is.reads
  where
    by_first : (o : Option QueueLine) (lines : List (List ℕ)) → script_after jobs_grammar o lines ≡ Some script → never_falls 0 script.lines.events ≡ true
    by_first None lines h = cc
    by_first (Some queue) lines h =
        let same : record { first = queue; lines = reading_from jobs_grammar queue 2 [] lines } ≡ script = cc in
        subst (λ (s : Script QueueLine Event). never_falls 0 s.lines.events ≡ true) same (reading_rises queue 2 [] lines)

    by_lines : (lines : List (List ℕ)) → script_lines jobs_grammar lines ≡ Some script → never_falls 0 script.lines.events ≡ true
    by_lines [] h = cc
    by_lines (line ∷ lines) h = by_first (jobs_grammar.first_of line) lines h
