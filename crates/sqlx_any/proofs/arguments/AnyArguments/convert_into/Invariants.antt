use Rattle.std.proofs.Common.{◌≡◌, ◌+◌, length}
use Rattle.sqlx_text.specs.declared.fault.Fault.{Fault}
use Rattle.sqlx_any.specs.Converted.{AddsInOrder, RefusesOne}
use Rattle.sqlx_any.proofs.arguments.AnyArguments.convert_into.Given as goal

-- what is left, added behind what was added, is all that there was; none is lost; what refuses one that is left refuses one of all
abbrev pub invariant-loop-value : goal.invariant-loop-value
invariant-loop-value g l =
    ((after : g.row.DB-ArgumentBuffer.Denot) → AddsInOrder g.DB.TakesAnyValues.adds l.values.items (g.DB.Arguments.Arguments.buffered l.args) after
    → AddsInOrder g.DB.TakesAnyValues.adds l.initial.values.items (g.DB.Arguments.Arguments.buffered l.initial.args) after)
    × (g.DB.ArgumentBuffer.ArgumentList.count (g.DB.Arguments.Arguments.buffered l.args) + length l.values.items ≡ length l.initial.values.items)
    × ((fault : Fault) → RefusesOne g.DB.TakesAnyValues.refuses l.values.items fault → RefusesOne g.DB.TakesAnyValues.refuses l.initial.values.items fault)

abbrev pub decreases-loop-value : goal.decreases-loop-value
decreases-loop-value g l = length l.values.items
