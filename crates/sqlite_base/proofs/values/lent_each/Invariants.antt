use Rattle.std.proofs.Common.{◌≡◌, map, take}
use Rattle.sqlite.specs.Values.{bound}
use Rattle.sqlite_base.specs.Queries.{taken}
use Rattle.sqlite_base.proofs.values.lent_each.Given as goal

-- the values so far, as the database takes them
abbrev pub invariant-loop-value : goal.invariant-loop-value
invariant-loop-value l = bound l.all.items ≡ map taken (take l.value-index l.values)
