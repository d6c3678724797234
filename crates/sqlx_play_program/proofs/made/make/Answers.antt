use Rattle.std.proofs.Common.{List, [], ℕ, IfErr, refl, sym, ◌∙◌, subst}
use Rattle.std.proofs.lemmas.Result.{on_ok_weaker, err_from_is_err_and}
use Rattle.sqlx_lines.specs.Scripts.{script_of}
use Rattle.sqlx_script.specs.Grammar.{pool_grammar}
use Rattle.sqlx_script_made.specs.Made.{made_text}
use Rattle.std.specs.Io.KnownBytes.{Appends}
use Rattle.std.proofs.KnownBytes.{Appends-nil}
use Rattle.sqlx_player.specs.Causes.{TextCause, WrotePart}
use Rattle.sqlx_play_program.specs.MadeRuns.{summary_due}
use Rattle.sqlx_play_program.proofs.MadeLemmas.{summary-output, summary-due}
use Rattle.sqlx_play_program.proofs.made.make.Goals as goal

pub returns-in_err-summary-clause-cause : goal.returns-in_err-summary-clause-cause
returns-in_err-summary-clause-cause g c =
    let p = err_from_is_err_and c.from_residual-in_err-summary.result c.from_residual-in_err-summary.ensures.1 in
    rw (p.1, p.2) (record { front = []; rest = summary_due c.args.lines (script_of pool_grammar (made_text c.args.lines c.args.seed)); parts = refl; written = Appends-nil (g.K.Sink.written c.args.sink.now) })

pub returns-clause-ok : goal.returns-clause-ok
returns-clause-ok g c =
    let ok = c.in_ok-played.ensures.ok in
    let is = c.deref.ensures.value ∙ c.in_ok-summary.ensures ∙ summary-output c.args.lines ok.0 c.written.result.now (c.written.ensures ∙ ok.2) in
    on_ok_weaker c.write_all.result
    (λ written. record { script = ok.0; is_script = ok.1; written = subst (Appends (g.K.Sink.written c.args.sink.now) (g.K.Sink.written c.write_all.new.sink)) is written }) c.write_all.ensures.ok

pub returns-clause-cause : goal.returns-clause-cause
returns-clause-cause g c =
    let ok = c.in_ok-played.ensures.ok in
    let is = c.deref.ensures.value ∙ c.in_ok-summary.ensures ∙ summary-output c.args.lines ok.0 c.written.result.now (c.written.ensures ∙ ok.2)
    ∙ sym (summary-due c.args.lines ok.0 (made_text c.args.lines c.args.seed) ok.1) in
    subst (λ (text : List ℕ). IfErr c.write_all.result (TextCause (λ _. ⊥) (WrotePart (g.K.Sink.written c.args.sink.now) (g.K.Sink.written c.write_all.new.sink) text) (g.K.Sink.faults c.args.sink.now) (g.K.Sink.faults c.write_all.new.sink))) is
    c.write_all.ensures.cause
