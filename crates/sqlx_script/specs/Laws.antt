-- What the laws of the script language speak of.
use Rattle.std.specs.Prelude.{ℕ, ◌==◌, ◌&&◌, ◌||◌, Bool, nat_le}

-- whether a byte is from 0x20 to 0x7E
abbrev pub is_plain : ℕ → Bool
is_plain b = nat_le 32 b && nat_le b 126

-- whether a byte may stand in a script: it is a newline or from 0x20 to 0x7E
abbrev pub is_script_byte : ℕ → Bool
is_script_byte b = b == 10 || is_plain b
