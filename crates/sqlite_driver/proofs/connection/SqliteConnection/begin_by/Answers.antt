use Rattle.std.proofs.Common.{rules, inl, refl}
use Rattle.sqlite_driver.proofs.TextLemmas.{begun_by}
use Rattle.sqlite_driver.proofs.connection.SqliteConnection.begin_by.Goals as goal

pub returns-in-Ok-clause-begins : goal.returns-in-Ok-clause-begins
returns-in-Ok-clause-begins c =
    let begins : _ = begun_by c.perform.result c.begun.result c.args.text c.args.self.now c.perform.new.self c.begun.new.self c.perform.ensures.rises c.perform.ensures.ran c.begun.ensures.rest c.begun.ensures.begun c.begun.ensures.told c.begun.ensures.none c.begun.ensures.risen in
    search rules

pub returns-in-Err-clause-begins : goal.returns-in-Err-clause-begins
returns-in-Err-clause-begins c = inl (c.in-Err.ensures.refused c.args.text refl)
