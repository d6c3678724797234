-- Worked scripts: what their events are answered, and what their lines say, by computing the definitions.
use Rattle.std.proofs.Common.{◌≡◌, List, ℕ, pos, negsuc, map, [], ◌∷◌, codes, refl, flat_map, false, true, None, Some, ap, ◌∙◌}
use Rattle.std.specs.FinMap.{empty, get-empty}
use Rattle.std.specs.Ordering.{int_cmp}
use Rattle.sqlx_savepoints.specs.Rows.{Rows, written}
use Rattle.sqlx_savepoints.proofs.Laid.{get-written}
use Rattle.sqlx_lines.specs.Words.{line_of}
use Rattle.sqlx_lines.specs.Numbers.{number_in, value}
use Rattle.sqlx_lines.specs.Scripts.{first_bad, script_lines, reading_from}
use Rattle.sqlx_player.specs.Output.{pairs_after}
use Rattle.sqlx_steps_rules.specs.declared.event.Event.{Event}
use Rattle.sqlx_steps_rules.specs.declared.event.Event.TheVariants.{Step, Statement, Apply, Get}
use Rattle.sqlx_steps_rules.specs.declared.event.Write.{Write}
use Rattle.sqlx_steps_rules.specs.declared.event.Write.TheVariants.{Put, Del}
use Rattle.sqlx_steps_rules.specs.declared.reply.Reply.{Reply}
use Rattle.sqlx_steps_rules.specs.declared.reply.Reply.TheVariants.{Defined, Applied, Stopped, Value, NoRow}
use Rattle.sqlx_steps_rules.specs.Grammar.{step_words, put_words, apply_words, event_words, event_at, opening_words}
use Rattle.sqlx_steps_rules.specs.Rules.{steps_grammar, steps_rules, steps_after, have_ended, applied_of, version_after, version_of, all_changed, found_reply, answer_at}

-- the replies to events, and the version behind them
abbrev told : List Event → List Reply × ℕ
told events = let pairs = pairs_after steps_rules tt [] events in (map (λ (pair : Event × Reply). pair.1) pairs, version_of pairs)

-- text 7 is a statement of step 2, which is given up; a second apply goes on from step 1
a_refused_text_stops : told (
    Step 1 ∷ Statement (Put (pos 1) (pos 10)) ∷ Statement (Put (pos 2) (pos 20)) ∷ Step 2 ∷ Statement (Del (pos 1)) ∷ Statement (Put (pos 3) (pos 30)) ∷
    Apply 2 7 ∷ Apply 2 0 ∷ Apply 2 1 ∷ []) ≡ (Defined ∷ Defined ∷ Defined ∷ Defined ∷ Defined ∷ Defined ∷ Stopped 1 ∷ Applied 2 ∷ Applied 2 ∷ [], 2)
unfolding pairs_after steps_after applied_of version_after
a_refused_text_stops = refl

an_empty_step_costs_three : told (Step 1 ∷ Apply 1 1 ∷ Apply 1 3 ∷ Apply 1 0 ∷ []) ≡ (Defined ∷ Stopped 0 ∷ Stopped 0 ∷ Applied 1 ∷ [], 1)
unfolding pairs_after steps_after applied_of version_after
an_empty_step_costs_three = refl

-- ---- reads

-- two steps: the second deletes a row of the first
abbrev two_steps : List (List Write)
two_steps = (Put (pos 1) (pos 10) ∷ Put (pos 2) (pos 20) ∷ []) ∷ (Del (pos 1) ∷ Put (pos 3) (pos 30) ∷ []) ∷ []

abbrev one_row : Rows
one_row = written (pos 1) (Some (pos 10)) empty

abbrev two_rows : Rows
two_rows = written (pos 2) (Some (pos 20)) one_row

abbrev without_one : Rows
without_one = written (pos 1) None two_rows

a_put_is_read : answer_at two_steps 1 (Get 1) ≡ Value (pos 10)
unfolding all_changed
a_put_is_read = ap found_reply (get-written (pos 2) (Some (pos 20)) one_row (pos 1) ∙ get-written (pos 1) (Some (pos 10)) empty (pos 1))

a_later_step_is_not_read : answer_at two_steps 1 (Get 3) ≡ NoRow
unfolding all_changed
a_later_step_is_not_read =
    ap found_reply (get-written (pos 2) (Some (pos 20)) one_row (pos 3) ∙ get-written (pos 1) (Some (pos 10)) empty (pos 3) ∙ get-empty int_cmp (pos 3))

a_deleted_row_is_gone : answer_at two_steps 2 (Get 1) ≡ NoRow
unfolding all_changed
a_deleted_row_is_gone = ap found_reply (get-written (pos 3) (Some (pos 30)) without_one (pos 1) ∙ get-written (pos 1) None two_rows (pos 1))

-- ---- lines

put : event_at 1 false (line_of (codes "put 999 -5")) ≡ Some (Statement (Put (pos 999) (negsuc 4)))
unfolding event_words put_words number_in value
put = refl

key_too_large : event_at 1 false (line_of (codes "put 1000 5")) ≡ None
unfolding event_words put_words number_in value
key_too_large = refl

steps_in_order : event_at 1 false (line_of (codes "step 3")) ≡ None
unfolding event_words step_words number_in
steps_in_order = refl

more_than_defined : event_at 1 true (line_of (codes "apply 2 0")) ≡ None
unfolding event_words apply_words number_in
more_than_defined = refl

abbrev text : List (List ℕ) → List ℕ
text lines = flat_map line_of lines

-- a definition after an apply
late : first_bad steps_grammar (text (codes "steps" ∷ codes "step 1" ∷ codes "apply 1 0" ∷ codes "step 2" ∷ [])) ≡ Some 4
unfolding script_lines reading_from step_words apply_words event_words opening_words steps_after have_ended number_in
late = refl

-- a statement before the first step
early : first_bad steps_grammar (text (codes "steps" ∷ codes "put 1 1" ∷ [])) ≡ Some 2
unfolding script_lines reading_from put_words event_words opening_words steps_after have_ended number_in value
early = refl
