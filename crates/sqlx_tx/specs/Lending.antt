-- A reference with another value behind it.
use Rattle.std.specs.Borrow.{MutBor}

-- the reference, with this value behind it
abbrev pub with_value : {T : Type 0} → MutBor T → T → MutBor T
with_value r x = record r { now = x }
