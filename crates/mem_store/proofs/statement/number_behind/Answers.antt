use Rattle.std.proofs.Common.{ap, ◌∙◌, drop}
use Rattle.mem_store.specs.Statements.{number_of, savepoint_number}
use Rattle.mem_store.proofs.ReadsBack.{behind-words, behind-none}
use Rattle.mem_store.proofs.statement.number_behind.Goals as goal

pub returns-in-Some : goal.returns-in-Some
returns-in-Some c =
    let found = c.in-Some.ensures.cases in
    c.number_of.ensures
    ∙ ap savepoint_number (found.2 ∙ ap (λ n. drop n c.args.text.now) found.1.0)
    ∙ ap number_of (behind-words c.args.words.now c.args.text.now (drop found.0 c.args.text.now) found.1.1)

pub returns-in-None : goal.returns-in-None
returns-in-None c = ap number_of (behind-none c.args.words.now c.args.text.now c.in-None.ensures.cases)
