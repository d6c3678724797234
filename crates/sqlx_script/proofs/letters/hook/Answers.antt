use Rattle.std.proofs.Common.{rules}
use Rattle.sqlx_script.specs.Letters.{hook_letter}
use Rattle.sqlx_script.proofs.letters.hook.Goals as goal

pub returns-in-94 : goal.returns-in-94
unfolding hook_letter
returns-in-94 c = search rules
