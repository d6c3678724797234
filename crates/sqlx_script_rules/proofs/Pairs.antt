-- Marks, histories and tries behind one more event and its reply.
use Rattle.std.proofs.Common.{◌≡◌, ℕ, List, [], ◌∷◌, ◌++◌, Option, None, refl}
use Rattle.sqlx_pool_marks.specs.declared.mark.Mark.{Mark}
use Rattle.sqlx_script.specs.declared.pool_line.PoolLine.{PoolLine}
use Rattle.sqlx_script.specs.declared.step.Event.{Event}
use Rattle.sqlx_script.specs.declared.reply.Reply.{Reply}
use Rattle.sqlx_savepoints.specs.Changes.{History}
use Rattle.sqlx_script_rules.specs.ScriptMarks.{added, marks_after, marks_of}
use Rattle.sqlx_script_rules.specs.ScriptLevels.{history_after, history_from, history_of}
use Rattle.sqlx_script_rules.specs.Tries.{Tries, tried, tries_after, tries_of}
use Rattle.sqlx_script_rules.specs.Pairs.{Pairs}

-- ---- marks

pub marks_of-nil : (pool : PoolLine) → marks_of pool [] ≡ []
unfolding marks_after
marks_of-nil pool = refl

marks_after-push : (pool : PoolLine) (marks : List Mark) (pairs : Pairs) (pair : Event × Reply)
    → marks_after pool marks (pairs ++ pair ∷ []) ≡ marks_after pool marks pairs ++ added pool (marks_after pool marks pairs) pair
unfolding marks_after
marks_after-push pool marks [] pair = refl
marks_after-push pool marks (p ∷ pairs) pair = marks_after-push pool (marks ++ added pool marks p) pairs pair

pub marks_of-push : (pool : PoolLine) (pairs : Pairs) (pair : Event × Reply) → marks_of pool (pairs ++ pair ∷ []) ≡ marks_of pool pairs ++ added pool (marks_of pool pairs) pair
marks_of-push pool pairs pair = marks_after-push pool [] pairs pair

-- ---- histories

history_from-push : (pool : PoolLine) (marks : List Mark) (past : History) (pairs : Pairs) (pair : Event × Reply)
    → history_from pool marks past (pairs ++ pair ∷ []) ≡ history_after pool (marks_after pool marks pairs) (history_from pool marks past pairs) pair
unfolding history_from marks_after
history_from-push pool marks past [] pair = refl
history_from-push pool marks past (p ∷ pairs) pair = history_from-push pool (marks ++ added pool marks p) (history_after pool marks past p) pairs pair

pub history_of-push : (pool : PoolLine) (pairs : Pairs) (pair : Event × Reply)
    → history_of pool (pairs ++ pair ∷ []) ≡ history_after pool (marks_of pool pairs) (history_of pool pairs) pair
history_of-push pool pairs pair = history_from-push pool [] [] pairs pair

pub history_of-nil : (pool : PoolLine) → history_of pool [] ≡ []
unfolding history_from
history_of-nil pool = refl

-- ---- tries

tries_after-push : (t : ℕ) (tries : Option Tries) (pairs : Pairs) (pair : Event × Reply)
    → tries_after t tries (pairs ++ pair ∷ []) ≡ tried t (tries_after t tries pairs) pair.0.moment.0 pair.0.step pair.1
unfolding tries_after
tries_after-push t tries [] pair = refl
tries_after-push t tries (p ∷ pairs) pair = tries_after-push t (tried t tries p.0.moment.0 p.0.step p.1) pairs pair

pub tries_of-push : (t : ℕ) (pairs : Pairs) (pair : Event × Reply) → tries_of t (pairs ++ pair ∷ []) ≡ tried t (tries_of t pairs) pair.0.moment.0 pair.0.step pair.1
tries_of-push t pairs pair = tries_after-push t None pairs pair

pub tries_of-nil : (t : ℕ) → tries_of t [] ≡ None
unfolding tries_after
tries_of-nil t = refl
