-- The characters of a text, whatever it is made from.
use Rattle.std.specs.Prelude.{ℕ, List, Option, Some, None, drop, length, nat_eq, string_bytes, if◌then◌else◌}
use Rattle.std.specs.List.{starts_with}
use Rattle.sqlx_text.specs.declared.ustr.Text.{Text}
use Rattle.sqlx_text.specs.declared.ustr.Text.TheVariants.{Shared, Owned}

-- the bytes of a text that is shared or owned
abbrev pub bytes_of : Text → List ℕ
bytes_of (Shared text) = text
bytes_of (Owned text) = string_bytes text

-- what follows the prefix in the text, and None where the text doesn't begin with it
abbrev pub without_prefix : List ℕ → List ℕ → Option (List ℕ)
without_prefix prefix text = if starts_with nat_eq text prefix then Some (drop (length prefix) text) else None
