-- What a call tells of the first line of a text.
use Rattle.std.proofs.Common.{◌≡◌, ℕ, true, false, Bool, cond, List, [], ◌∷◌, Option, Some, None, IfSome, refl, sym, ap, ◌∙◌}
use Rattle.sqlx_lines.specs.Words.{ends_well, words_of}
use Rattle.sqlx_lines.specs.Numbers.{◌>>=◌, millis}
use Rattle.sqlx_lines.specs.Rows.{with_behind}
use Rattle.sqlx_lines.specs.FirstLine.{told}
use Rattle.sqlx_script.specs.Built.{has_few_opens}
use Rattle.sqlx_script.specs.Grammar.{at_moment, step_of, event_words, event_of}
use Rattle.sqlx_lines.specs.declared.first_line.FirstLine.{FirstLine}
use Rattle.sqlx_script.specs.declared.step.Event.{Event}
use Rattle.sqlx_script.specs.declared.step.Step.{Step}
use Rattle.sqlx_script.proofs.FewOpens.{step_few}

abbrev few_in : Option Event → Bool
few_in (Some event) = has_few_opens event.step
few_in None = true

-- an event tells few connects
event_few : (counts_tests : Bool) (ws : List (List ℕ)) → few_in (event_words counts_tests ws) ≡ true
unfolding event_words
event_few counts_tests [] = refl
event_few counts_tests (w ∷ []) = refl
event_few counts_tests (w ∷ v ∷ ws) = few_at (millis v) (step_of counts_tests w ws) refl
  where
    few_at : (ms : Option ℕ) (made : Option Step) → step_of counts_tests w ws ≡ made → few_in (ms >>= λ ms. at_moment ms made) ≡ true
    few_at None made is = refl
    few_at (Some ms) None is = refl
    few_at (Some ms) (Some step) is = step_few counts_tests w ws step is

abbrev said : {T : Type 0} → Option (T × List ℕ) → Option T
said (Some pair) = Some pair.0
said None = None

said_of : {T : Type 0} (behind : List ℕ) (o : Option T) → said (with_behind behind o) ≡ o
said_of behind (Some x) = refl
said_of behind None = refl

-- the event that is told tells few connects
pub told_few : (line : Option (FirstLine Event)) (behind : List ℕ) (counts_tests : Bool) (ws : List (List ℕ)) → told line ≡ with_behind behind (event_words counts_tests ws)
    → IfSome line (λ line. has_few_opens line.says.step ≡ true)
told_few (Some line) behind counts_tests ws h = ap few_in (ap said h ∙ said_of behind (event_words counts_tests ws)) ∙ event_few counts_tests ws
told_few None behind counts_tests ws h = tt

few_whole : (counts_tests : Bool) (line : List ℕ) (c : Bool) → few_in (cond c (event_words counts_tests (words_of line)) None) ≡ true
few_whole counts_tests line true = event_few counts_tests (words_of line)
few_whole counts_tests line false = refl

-- and so does the event that a line says
pub line_few : (counts_tests : Bool) (line : List ℕ) (event : Event) → event_of counts_tests line ≡ Some event → has_few_opens event.step ≡ true
unfolding event_of
line_few counts_tests line event h = ap few_in (sym h) ∙ few_whole counts_tests line (ends_well line)
