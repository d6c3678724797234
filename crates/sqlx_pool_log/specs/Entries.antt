-- The marks that packed entries stand for.
use Rattle.std.specs.Prelude.{◌+◌, Bool, false, List, [], ◌∷◌, ◌++◌, Option, Some, None, if◌then◌else◌}
use Rattle.sqlx_pool_marks.specs.declared.mark.Mark.{Mark}
use Rattle.sqlx_pool_marks.specs.declared.mark.Mark.TheVariants.{Asked, Left, Taken, Lent, Kept, Ended}
use Rattle.sqlx_pool_log.specs.declared.entry.LoanMarks.{LoanMarks}
use Rattle.sqlx_pool_log.specs.declared.entry.Entry.{Entry}
use Rattle.sqlx_pool_log.specs.declared.entry.Entry.TheVariants.{One, Loan}

-- the mark, where it is so
abbrev pub mark_if : Bool → Mark → List Mark
mark_if so m = if so then m ∷ [] else []

-- none of a loan's marks
abbrev pub no_marks : LoanMarks
no_marks = record { asked = false; left = false; taken = false; lent = false; ended = false; kept = false; client = 0; ticket = 0; conn = 0; moment = 0; asked_at = 0; timeout = 0 }

-- those of a loan's marks that are there
abbrev pub loan_marks : LoanMarks → List Mark
loan_marks e =
    mark_if e.asked (Asked e.ticket e.client (e.asked_at + e.timeout))
    ++ (mark_if e.left (Left e.ticket)
    ++ (mark_if e.taken (Taken e.conn)
    ++ (mark_if e.lent (Lent e.client e.conn)
    ++ (mark_if e.ended (Ended e.ticket)
    ++ mark_if e.kept (Kept e.conn e.moment)))))

-- those before the loan
abbrev pub ask_marks : LoanMarks → List Mark
ask_marks e = mark_if e.asked (Asked e.ticket e.client (e.asked_at + e.timeout)) ++ (mark_if e.left (Left e.ticket) ++ mark_if e.taken (Taken e.conn))

-- those from the loan on
abbrev pub lent_marks : LoanMarks → List Mark
lent_marks e = mark_if e.lent (Lent e.client e.conn) ++ (mark_if e.ended (Ended e.ticket) ++ mark_if e.kept (Kept e.conn e.moment))

-- the marks of an entry
abbrev pub marks_in : Entry → List Mark
marks_in (One m) = m ∷ []
marks_in (Loan e) = loan_marks e

-- the marks of these entries
abbrev pub marks_at : List Entry → List Mark
marks_at [] = []
marks_at (e ∷ rest) = marks_in e ++ marks_at rest

-- the marks of an entry that may be there
abbrev pub marks_of_some : Option Entry → List Mark
marks_of_some None = []
marks_of_some (Some e) = marks_in e
