use Rattle.std.proofs.Common.{rules}
use Rattle.sqlite_driver.proofs.open.expect_memory.Goals as goal

pub returns-clause-named : goal.returns-clause-named
returns-clause-named c = search rules

pub returns-then-ne-clause-refused : goal.returns-then-ne-clause-refused
returns-then-ne-clause-refused c = search rules
