use Rattle.std.proofs.Common.{rules}
use Rattle.mem_store.specs.declared.answer.Answer.TheVariants.{Accept}
use Rattle.sqlx_play_acts.proofs.by_store.roll_back.Goals as goal

pub returns-then-matches-clause-wanting : goal.returns-then-matches-clause-wanting
returns-then-matches-clause-wanting c = λ met. search (rules, c.roll_back.ensures met)

pub returns-then-matches-clause-refused : goal.returns-then-matches-clause-refused
returns-then-matches-clause-refused c = λ met. search (rules, c.roll_back.ensures Accept)
