-- The text of a pool's log.
use Rattle.std.specs.Prelude.{ℕ, ◌++◌, List, [], ◌∷◌, codes}
use Rattle.std.specs.Fmt.{decimal}
use Rattle.sqlx_pool_marks.specs.declared.mark.Mark.{Mark}
use Rattle.sqlx_pool_marks.specs.declared.mark.Mark.TheVariants.{Asked, Left, Taken, Reaped, Opened, Lent, Kept, Closed, Detached, Leaked, Ended, Shut}
use Rattle.sqlx_pool_lists.specs.Balance.{lents}

-- the word of a mark, with the space before its numbers
abbrev pub mark_word : Mark → List ℕ
mark_word (Asked t k d) = codes "asked "
mark_word (Left t) = codes "left "
mark_word (Taken c) = codes "taken "
mark_word (Reaped c) = codes "reaped "
mark_word (Opened c m) = codes "opened "
mark_word (Lent k c) = codes "lent "
mark_word (Kept c m) = codes "kept "
mark_word (Closed c) = codes "closed "
mark_word (Detached c) = codes "detached "
mark_word (Leaked c) = codes "leaked "
mark_word (Ended t) = codes "ended "
mark_word Shut = codes "shut"

-- its numbers; moments and deadlines are in nanoseconds
abbrev pub mark_numbers : Mark → List ℕ
mark_numbers (Asked t k d) = decimal t ++ codes " " ++ decimal k ++ codes " " ++ decimal d
mark_numbers (Left t) = decimal t
mark_numbers (Taken c) = decimal c
mark_numbers (Reaped c) = decimal c
mark_numbers (Opened c m) = decimal c ++ codes " " ++ decimal m
mark_numbers (Lent k c) = decimal k ++ codes " " ++ decimal c
mark_numbers (Kept c m) = decimal c ++ codes " " ++ decimal m
mark_numbers (Closed c) = decimal c
mark_numbers (Detached c) = decimal c
mark_numbers (Leaked c) = decimal c
mark_numbers (Ended t) = decimal t
mark_numbers Shut = []

-- the text of a mark, without its newline
abbrev pub mark_text : Mark → List ℕ
mark_text m = mark_word m ++ mark_numbers m

-- the text of a log: a line for each mark
abbrev pub log_text : List Mark → List ℕ
log_text [] = []
log_text (m ∷ rest) = mark_text m ++ codes "\n" ++ log_text rest

-- the text of a crowd's log: a line for each mark, and then the number of loans
abbrev pub crowd_text : List Mark → List ℕ
crowd_text marks = log_text marks ++ codes "loans " ++ decimal (lents marks) ++ codes "\n"
