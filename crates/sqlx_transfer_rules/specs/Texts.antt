-- The text of each reply, and the closing line.
use Rattle.std.specs.Prelude.{ℕ, ℤ, ◌++◌, List, codes}
use Rattle.std.specs.Fmt.{decimal, signed_decimal}
use Rattle.sqlx_lines.specs.Words.{line_of}
use Rattle.sqlx_transfer_rules.specs.declared.reply.Reply.{Reply}
use Rattle.sqlx_transfer_rules.specs.declared.reply.Reply.TheVariants.{Full, Deep, Level, NoConnection, Insufficient, Overflow, Fault, Busy, Moved, Dropped, Balance}

-- the line of a reply
abbrev pub text_of : Reply → List ℕ
text_of Full = line_of (codes "full")
text_of Deep = line_of (codes "deep")
text_of (Level d) = line_of (codes "level " ++ decimal d)
text_of NoConnection = line_of (codes "none")
text_of Insufficient = line_of (codes "insufficient")
text_of Overflow = line_of (codes "overflow")
text_of Fault = line_of (codes "fault")
text_of Busy = line_of (codes "busy")
text_of Moved = line_of (codes "moved")
text_of Dropped = line_of (codes "dropped")
text_of (Balance v) = line_of (codes "balance " ++ signed_decimal v)

-- the closing line
abbrev pub total_text : ℤ → List ℕ
total_text total = line_of (codes "total " ++ signed_decimal total)
