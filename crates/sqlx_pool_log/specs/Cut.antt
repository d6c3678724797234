-- What a cut leaves of an entry.
use Rattle.std.specs.Prelude.{ℕ, ◌++◌, false, not, ◌&&◌, ◌||◌, List, take, drop}
use Rattle.std.specs.List.{list_any}
use Rattle.sqlx_pool_marks.specs.declared.mark.Mark.{Mark}
use Rattle.sqlx_pool_marks.specs.Marks.{is_ended, ends_loan, ends_rest}
use Rattle.sqlx_pool_marks.specs.Cut.{is_last, needed_of}
use Rattle.sqlx_pool_log.specs.declared.entry.LoanMarks.{LoanMarks}
use Rattle.sqlx_pool_log.specs.declared.entry.Entry.{Entry}
use Rattle.sqlx_pool_log.specs.Entries.{marks_at}

-- What a cut leaves of a loan's marks, where the log's next ticket is this one and these marks come behind.
abbrev pub cut_marks : ℕ → LoanMarks → List Mark → LoanMarks
cut_marks next e later = record e {
  asked = e.asked && (is_last next e.ticket || not (e.ended || list_any (is_ended e.ticket) later));
  left = e.left && not (e.ended || list_any (is_ended e.ticket) later);
  taken = false;
  lent = e.lent && not (e.kept || list_any (ends_loan (record { client = e.client; conn = e.conn })) later);
  ended = e.ended && is_last next e.ticket;
  kept = e.kept && not (list_any (ends_rest (record { conn = e.conn; since = e.moment })) later);
}

-- what a cut has kept so far, and what it keeps of the entries from a place on
abbrev pub cut_so_far : ℕ → ℕ → ℕ → ℕ → List Entry → List Mark
cut_so_far next_ticket next_conn kept at entries = marks_at (take kept entries) ++ needed_of next_ticket next_conn (marks_at (drop at entries))
