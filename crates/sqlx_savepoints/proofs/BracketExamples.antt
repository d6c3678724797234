-- Worked examples, by computing.
use Rattle.std.proofs.Common.{◌≡◌, pos, true, false, Some, None, List, [], ◌∷◌, refl}
use Rattle.sqlx_savepoints.specs.Changes.{History, opens, writes, commits, rolls_back, leaves}
use Rattle.sqlx_savepoints.specs.Brackets.{value, depth}
use Rattle.sqlx_savepoints.specs.Events.{begin, custom, put, get, commit, give_up, accepted, broken, refusing, Reply, level, ok, row_not_found, not_held, invalid_save_point, begin_failed, io, refused, busy, Event, asked, gone, reply_of, answered}

-- connection 1 writes 9 at key 4 in a bracket inside another one, and commits the inner one
abbrev inner_committed : History
inner_committed = commits 1 ∷ writes 1 (pos 4) (Some (pos 9)) ∷ opens 1 ∷ opens 1 ∷ []

own_reader : value 1 (pos 4) inner_committed ≡ Some (pos 9)
own_reader = refl

other_reader : value 2 (pos 4) inner_committed ≡ None
other_reader = refl

one_left : depth 1 inner_committed ≡ 1
one_left = refl

both_committed : value 2 (pos 4) (commits 1 ∷ inner_committed) ≡ Some (pos 9)
both_committed = refl

-- a rollback of the outer bracket undoes what the inner one committed
outer_rolled_back : value 1 (pos 4) (rolls_back 1 ∷ inner_committed) ≡ None
outer_rolled_back = refl

-- a rollback of the inner one leaves the write before it
inner_rolled_back : value 1 (pos 4) (rolls_back 1 ∷ writes 1 (pos 4) (Some (pos 7)) ∷ opens 1 ∷ writes 1 (pos 4) (Some (pos 5)) ∷ opens 1 ∷ []) ≡ Some (pos 5)
inner_rolled_back = refl

-- a connection that goes takes its open brackets along
gone_with_them : value 1 (pos 4) (leaves 1 ∷ inner_committed) ≡ None
gone_with_them = refl

-- a deletion is a write of no value
deleted : value 2 (pos 4) (writes 1 (pos 4) None ∷ commits 1 ∷ inner_committed) ≡ None
deleted = refl

-- the replies to events, the newest first
abbrev replies : List Event → List Reply
replies [] = []
replies (asked act held met ∷ earlier) = reply_of act held met (answered earlier) ∷ replies earlier
replies (gone c ∷ earlier) = replies earlier

-- on connection 1, in order: begin, custom, put 4 9, a commit on a broken way, get 4, a custom begin that starts nothing, one that starts, give up, give up
day : replies (
    asked (give_up 1) true accepted ∷ asked (give_up 1) true accepted ∷ asked (custom 1 true) true accepted ∷ asked (custom 1 false) true accepted
    ∷ asked (get 1 (pos 4)) true accepted ∷ asked (commit 1) true broken ∷ asked (put 1 (pos 4) (pos 9)) true accepted ∷ asked (custom 1 true) true accepted ∷ asked (begin 1) true accepted ∷ [])
    ≡ not_held ∷ level 0 ∷ level 1 ∷ begin_failed ∷ row_not_found ∷ io ∷ ok 1 ∷ invalid_save_point ∷ level 1 ∷ []
day = refl

-- a write beside another connection's open bracket is busy, until that connection is gone
beside : replies (asked (put 2 (pos 1) (pos 3)) true accepted ∷ gone 1 ∷ asked (put 2 (pos 1) (pos 3)) true accepted ∷ asked (begin 1) true accepted ∷ []) ≡ ok 1 ∷ busy ∷ level 1 ∷ []
beside = refl

-- who doesn't hold the connection is told so before all else
not_the_holder : replies (asked (begin 1) false refusing ∷ asked (begin 1) true refusing ∷ []) ≡ not_held ∷ refused ∷ []
not_the_holder = refl
