use Rattle.std.proofs.Common.{Some, refl, ap, ◌∙◌}
use Rattle.std.proofs.lemmas.Result.{err_from_is_err_and}
use Rattle.sqlx_script_made.specs.Made.{made_text}
use Rattle.sqlx_script_made.proofs.Valid.{made_is_script}
use Rattle.sqlx_play_program.proofs.MadeLemmas.{played_is, made_sound}
use Rattle.sqlx_play_program.proofs.made.played_made.Goals as goal

pub returns-in_err-played-clause-err : goal.returns-in_err-played-clause-err
returns-in_err-played-clause-err c =
    let sound = c.in_err-played.ensures.complete (made_text c.args.lines c.args.seed) (made_is_script c.args.lines c.args.seed c.requires.some c.requires.few).0
    (made_sound c.args.lines c.args.seed _ c.requires.some c.requires.few (ap Some (c.new-source.ensures ∙ ap (λ v. v.items) c.into_bytes.ensures.value ∙ c.in_ok-text.ensures)) refl refl refl refl) in
    let p = err_from_is_err_and c.from_residual-in_err-played.result c.from_residual-in_err-played.ensures.1 in
    rw (p.1, p.2) sound

pub returns-clause-ok : goal.returns-clause-ok
returns-clause-ok c =
    let ok = c.in_ok-played.ensures.ok in
    played_is (made_text c.args.lines c.args.seed) ok.0 _ _ _ _ _ _ (c.new-source.ensures ∙ ap (λ v. v.items) c.into_bytes.ensures.value ∙ c.in_ok-text.ensures) ok.1.0 ok.1.1 c.new-sink.ensures.written ok.2
