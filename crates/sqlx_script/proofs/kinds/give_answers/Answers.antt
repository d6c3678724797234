use Rattle.std.proofs.Common.{sym, ◌∙◌}
use Rattle.sqlx_script.specs.Letters.{give_answers}
use Rattle.sqlx_script.proofs.ShortWords.{no_short, other_short, some_short, give_answers_short}
use Rattle.sqlx_script.proofs.kinds.give_answers.Goals as goal

pub returns-in_err-word : goal.returns-in_err-word
returns-in_err-word c = rw (c.from_residual-in_err-word.ensures, ← c.in_ok-text.ensures.words) (no_short 2 give_answers give_answers_short c.in_ok-text.field-0.now c.in_ok-text.ensures.newline c.in_err-word.ensures.none)

pub returns-in_err-answers : goal.returns-in_err-answers
returns-in_err-answers c =
    rw (c.from_residual-in_err-answers.ensures, ← c.in_ok-text.ensures.words) (other_short 2 give_answers give_answers_short c.in_ok-text.field-0.now c.in_ok-word.word.now c.in_ok-word.rest.now c.in_ok-text.ensures.newline c.in_ok-word.ensures.some c.in_ok-word.ensures.len (sym c.give_answers.ensures ∙ c.in_err-answers.was))

pub behind-requires : goal.behind-requires
behind-requires c =
    (some_short 2 give_answers give_answers_short c.in_ok-text.field-0.now c.in_ok-word.word.now c.in_ok-word.rest.now _ c.in_ok-text.ensures.newline c.in_ok-word.ensures.some c.in_ok-word.ensures.end (sym c.give_answers.ensures ∙ c.in_ok-answers.was)).2

pub returns : goal.returns
returns c =
    let took = some_short 2 give_answers give_answers_short c.in_ok-text.field-0.now c.in_ok-word.word.now c.in_ok-word.rest.now _ c.in_ok-text.ensures.newline c.in_ok-word.ensures.some c.in_ok-word.ensures.end (sym c.give_answers.ensures ∙ c.in_ok-answers.was) in
    rw c.behind.ensures (rw (← c.in_ok-text.ensures.words) took.0, took.1 ∙ c.in_ok-text.ensures.behind)
