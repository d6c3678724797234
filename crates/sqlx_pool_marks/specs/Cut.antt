-- A log cut short: of its marks those that later marks still look at, in their order.
use Rattle.std.specs.Prelude.{◌≡◌, ℕ, ◌+◌, Bool, true, false, not, ◌||◌, ◌==◌, List, [], ◌∷◌, if◌then◌else◌}
use Rattle.std.specs.List.{list_any}
use Rattle.sqlx_pool_marks.specs.declared.mark.Mark.{Mark}
use Rattle.sqlx_pool_marks.specs.declared.mark.Mark.TheVariants.{Asked, Left, Taken, Reaped, Opened, Lent, Kept, Closed, Detached, Leaked, Ended, Shut}
use Rattle.sqlx_pool_marks.specs.Marks.{is_ended, ends_conn, ends_loan, ends_rest, next_ticket, next_conn}
use Rattle.sqlx_pool_marks.specs.View.{view_of}

-- the number is the last one that was drawn, where this one comes next
abbrev pub is_last : ℕ → ℕ → Bool
is_last next n = n + 1 == next

-- A mark is needed, where these come after it: what it begins isn't over, or it tells the last number, or how what has that number went. What was leaked and the close are needed for ever.
abbrev pub is_needed : ℕ → ℕ → Mark → List Mark → Bool
is_needed ticket conn (Asked t k d) later = is_last ticket t || not (list_any (is_ended t) later)
is_needed ticket conn (Left t) later = not (list_any (is_ended t) later)
is_needed ticket conn (Taken c) later = false
is_needed ticket conn (Reaped c) later = is_last conn c
is_needed ticket conn (Opened c m) later = is_last conn c || not (list_any (ends_conn c) later)
is_needed ticket conn (Lent k c) later = not (list_any (ends_loan (record { client = k; conn = c })) later)
is_needed ticket conn (Kept c m) later = not (list_any (ends_rest (record { conn = c; since = m })) later)
is_needed ticket conn (Closed c) later = is_last conn c
is_needed ticket conn (Detached c) later = is_last conn c
is_needed ticket conn (Leaked c) later = true
is_needed ticket conn (Ended t) later = is_last ticket t
is_needed ticket conn Shut later = true

-- the needed ones of these marks, where these numbers come next
abbrev pub needed_of : ℕ → ℕ → List Mark → List Mark
needed_of ticket conn [] = []
needed_of ticket conn (m ∷ later) = if is_needed ticket conn m later then m ∷ needed_of ticket conn later else needed_of ticket conn later

-- the marks with which a log that is cut begins
abbrev pub cut_of : List Mark → List Mark
cut_of marks = needed_of (next_ticket marks) (next_conn marks) marks

-- A cut leaves the view as it was.
abbrev pub CutsKeepTheView : Type 0
CutsKeepTheView = (marks : List Mark) → view_of (cut_of marks) ≡ view_of marks
