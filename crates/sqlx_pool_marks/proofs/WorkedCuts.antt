-- Cuts of small logs, computed.
use Rattle.std.proofs.Common.{◌≡◌, List, [], ◌∷◌, refl}
use Rattle.sqlx_pool_marks.specs.declared.mark.Mark.{Mark}
use Rattle.sqlx_pool_marks.specs.declared.mark.Mark.TheVariants.{Asked, Left, Taken, Opened, Lent, Kept, Closed, Leaked, Ended, Shut}
use Rattle.sqlx_pool_marks.specs.Cut.{cut_of}

-- a loan that was given back: the last numbers and the idle connection stay
one_loan : cut_of (Asked 1 1 30 ∷ Left 1 ∷ Opened 1 0 ∷ Lent 1 1 ∷ Ended 1 ∷ Kept 1 0 ∷ []) ≡ Asked 1 1 30 ∷ Opened 1 0 ∷ Ended 1 ∷ Kept 1 0 ∷ []
one_loan = refl

-- a second loan of it, which isn't over, while another ticket waits
lent_again : cut_of (Asked 1 1 30 ∷ Opened 1 0 ∷ Ended 1 ∷ Kept 1 0 ∷ Asked 2 1 31 ∷ Left 2 ∷ Taken 1 ∷ Lent 1 1 ∷ Ended 2 ∷ Asked 3 2 40 ∷ []) ≡ Opened 1 0 ∷ Lent 1 1 ∷ Asked 3 2 40 ∷ []
lent_again = refl

-- a ticket whose connection is under test, beside one that was closed and had the last number
under_test : cut_of (Opened 1 0 ∷ Kept 1 0 ∷ Opened 2 1 ∷ Kept 2 1 ∷ Asked 1 1 30 ∷ Left 1 ∷ Taken 1 ∷ Closed 2 ∷ []) ≡ Opened 1 0 ∷ Opened 2 1 ∷ Asked 1 1 30 ∷ Left 1 ∷ Closed 2 ∷ []
under_test = refl

-- what was leaked, and the close, stay for ever
leaked_and_shut : cut_of (Opened 1 0 ∷ Lent 1 1 ∷ Leaked 1 ∷ Opened 2 1 ∷ Lent 1 2 ∷ Shut ∷ Closed 2 ∷ []) ≡ Leaked 1 ∷ Opened 2 1 ∷ Shut ∷ Closed 2 ∷ []
leaked_and_shut = refl
