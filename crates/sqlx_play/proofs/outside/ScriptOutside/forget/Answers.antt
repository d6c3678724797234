use Rattle.std.proofs.Common.{arith}
use Rattle.std.proofs.lemmas.Grind.{common_steps}
use Rattle.sqlx_play.proofs.outside.ScriptOutside.forget.Goals as goal

pub returns-then-eq-clause-becomes : goal.returns-then-eq-clause-becomes
returns-then-eq-clause-becomes c = grind (arith, common_steps)

pub returns-else-eq-clause-becomes : goal.returns-else-eq-clause-becomes
returns-else-eq-clause-becomes c = grind (arith, common_steps)
