-- What a text asks for with its arguments.
use Rattle.std.specs.Prelude.{ℕ, ℤ, List, [], ◌∷◌, Option, Some, None, option_map}
use Rattle.sqlx_any_values.specs.declared.value.AnyValueKind.{AnyValueKind}
use Rattle.sqlx_any_values.specs.declared.value.AnyValueKind.TheVariants.{SmallInt, Integer, BigInt}
use Rattle.sqlx_any.specs.declared.arguments.AnyArguments.{AnyArguments}
use Rattle.mem_store.specs.Statements.{read_statement}
use Rattle.mem_store.specs.declared.statement.Statement.{Statement}
use Rattle.mem_store.specs.declared.statement.Statement.TheVariants.{Put as PutText, Delete as DeleteText, Get as GetText, SelectAll as SelectAllText, SelectOne as SelectOneText, Level as LevelOf}
use Rattle.mem_store.specs.declared.act.Act.{Act}
use Rattle.mem_store.specs.declared.act.Act.TheVariants.{Put, Delete, Get, SelectAll, SelectOne, Level}

-- the whole number of an argument
abbrev pub whole_of : AnyValueKind → Option ℤ
whole_of (SmallInt n) = Some n
whole_of (Integer n) = Some n
whole_of (BigInt n) = Some n
whole_of _ = None

-- a write of the key's value, where both are whole numbers
abbrev pub put_of : Option ℤ → Option ℤ → Option Act
put_of (Some key) (Some value) = Some (Put key value)
put_of _ _ = None

-- what a statement does with these arguments; none where it is no statement's text or they don't fit
abbrev pub act_with : Option Statement → List AnyValueKind → Option Act
act_with (Some PutText) (key ∷ value ∷ []) = put_of (whole_of key) (whole_of value)
act_with (Some DeleteText) (key ∷ []) = option_map Delete (whole_of key)
act_with (Some GetText) (key ∷ []) = option_map Get (whole_of key)
act_with (Some SelectAllText) [] = Some SelectAll
act_with (Some SelectOneText) [] = Some SelectOne
act_with (Some (LevelOf level)) [] = Some (Level level)
act_with _ _ = None

-- the values of arguments, none where there is no list of them
abbrev pub values_of : Option AnyArguments → List AnyValueKind
values_of None = []
values_of (Some arguments) = arguments.values

-- what a text asks for with its arguments
abbrev pub asked : List ℕ → Option AnyArguments → Option Act
asked text arguments = act_with (read_statement text) (values_of arguments)
