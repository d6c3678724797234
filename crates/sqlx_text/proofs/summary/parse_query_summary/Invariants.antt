use Rattle.std.proofs.Common.{◌≡◌, ◌≤◌, ◌++◌, length, drop, string_bytes}
use Rattle.std.specs.Str.{chars, encode_utf8_all}
use Rattle.sqlx_text.specs.Summary.{summary_of, unwritten}
use Rattle.sqlx_text.proofs.summary.parse_query_summary.Given as goal

abbrev pub invariant-loop-c : goal.invariant-loop-c
invariant-loop-c l =
    (l.place.words_left ≤ 4)
    × (string_bytes l.summary ++ encode_utf8_all (unwritten l.place.in_word l.place.words_left (drop (length l.yielded) (chars l.sql))) ≡ summary_of l.sql)
