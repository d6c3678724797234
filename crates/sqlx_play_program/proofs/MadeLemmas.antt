-- The lines of the output of a script are its replies and its closing report.
use Rattle.std.proofs.Common.{◌≡◌, ℕ, ◌≤◌, true, List, [], ◌∷◌, ◌++◌, map, Some, sym, ap, ◌∙◌, subst, append_assoc, append-nil, arith}
use Rattle.std.specs.List.{flat_map}
use Rattle.sqlx_lines.specs.Words.{lines_of}
use Rattle.sqlx_script.specs.Texts.{reply_text, report_text}
use Rattle.sqlx_lines.specs.Words.{line_of}
use Rattle.sqlx_lines.specs.Scripts.{Script, IsScript, script_of}
use Rattle.sqlx_script_rules.specs.Answer.{report_of}
use Rattle.sqlx_script_rules.specs.Pairs.{Pairs}
use Rattle.sqlx_player.specs.Output.{pairs_of, output_of}
use Rattle.sqlx_script.specs.declared.pool_line.PoolLine.{PoolLine}
use Rattle.sqlx_script.specs.declared.step.Event.{Event}
use Rattle.sqlx_script.specs.Grammar.{pool_grammar}
use Rattle.sqlx_script_rules.specs.Output.{reply_line, pool_rules, pool_language}
use Rattle.sqlx_pool_lists.specs.Core.{Core}
use Rattle.mem_store.specs.Store.{Store, Link}
use Rattle.sqlx_script_made.specs.Made.{made_text}
use Rattle.sqlx_script_made.specs.Summary.{summary_text}
use Rattle.sqlx_script_made.proofs.WordsLemmas.{lines_of-line}
use Rattle.sqlx_script_made.proofs.ReplyLines.{is_one, reply_one, report_one}
use Rattle.sqlx_script_made.proofs.Valid.{made_is_script}
use Rattle.sqlx_player.specs.Causes.{Shown, IsSound}
use Rattle.sqlx_play.specs.Plays.{Plays}
use Rattle.sqlx_play_program.specs.MadeRuns.{summary_of, summary_due}

output_lines : (pairs : Pairs) (closing : List ℕ) → is_one closing ≡ true → lines_of (flat_map reply_line pairs ++ line_of closing) ≡ map reply_line pairs ++ line_of closing ∷ []
output_lines [] closing h = lines_of-line closing [] h
output_lines (pair ∷ pairs) closing h =
    let rest = flat_map reply_line pairs in
    let text = reply_text pair.1 in
    ap lines_of (append_assoc (line_of text) rest (line_of closing) ∙ append_assoc text (10 ∷ []) (rest ++ line_of closing))
    ∙ lines_of-line text (rest ++ line_of closing) (reply_one pair.1)
    ∙ ap (λ lines. line_of text ∷ lines) (output_lines pairs closing h)

-- the summary of what was written for a script is the script's
pub summary-output : (count : ℕ) (script : Script PoolLine Event) (written : List ℕ) → written ≡ output_of pool_rules script → summary_text count (lines_of written) ≡ summary_of count script
summary-output count script written is =
    ap (λ w. summary_text count (lines_of w)) is
    ∙ ap (summary_text count) (output_lines (pairs_of pool_rules script) (report_text (report_of script.first (pairs_of pool_rules script))) (report_one (report_of script.first (pairs_of pool_rules script))))

-- and so it is what is due
pub summary-due : (count : ℕ) (script : Script PoolLine Event) (made : List ℕ) → IsScript pool_grammar made script → summary_due count (script_of pool_grammar made) ≡ summary_of count script
summary-due count script made is = ap (summary_due count) is.reads

-- what a play of the made script, from a source that holds it into an empty sink, leaves in the sink
pub played_is : (made bytes left left' before now : List ℕ) (core : Core Link) (store : Store) → left ≡ made → left ≡ bytes ++ left' → left' ≡ [] → before ≡ []
    → Plays bytes (Some before) (Some now) core store → (script : Script PoolLine Event) × IsScript pool_grammar made script × (now ≡ output_of pool_rules script)
played_is made bytes left left' before now core store holds taken none' empty plays =
    let is : bytes ≡ made = sym (append-nil bytes) ∙ ap (λ rest. bytes ++ rest) (sym none') ∙ sym taken ∙ holds in
    (plays.script, subst (λ b. IsScript pool_grammar b plays.script) is plays.is_script, plays.written ∙ ap (λ b. b ++ output_of pool_rules plays.script) empty)

-- a source that holds the made script and never fails is sound for a sink that never fails
pub made_sound : (count seed : ℕ) (s : Shown) (some : 1 ≤ count) (few : count ≤ 10000) → s.left_before ≡ Some (made_text count seed) → s.read_faults_before ≡ 0 → s.read_faults_now ≡ 0
    → s.write_faults_before ≡ 0 → s.write_faults_now ≡ 0 → IsSound pool_language s (made_text count seed) (made_is_script count seed some few).0
made_sound count seed s some few told r r' w w' = record {
  told = told;
  is_script = (made_is_script count seed some few).1;
  no_read_fault = r' ∙ sym r;
  reads_counted = omega (arith, r');
  no_write_fault = w' ∙ sym w;
  writes_counted = omega (arith, w');
}
