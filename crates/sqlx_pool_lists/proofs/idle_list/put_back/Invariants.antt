use Rattle.std.proofs.Common.{◌≡◌, ◌++◌, length, take}
use Rattle.sqlx_pool_lists.proofs.idle_list.put_back.Given as goal

-- none is lost, the first ones stay, and each row keeps its room
abbrev pub invariant-loop-front : goal.invariant-loop-front
invariant-loop-front g l = record {
  items : l.front.items ++ l.back.items ≡ l.initial.front.items ++ l.initial.back.items;
  left : take l.left l.front.items ≡ take l.left l.initial.front.items;
  front : l.front.room ≡ l.initial.front.room;
  back : l.back.room ≡ l.initial.back.room;
}

abbrev pub decreases-loop-front : goal.decreases-loop-front
decreases-loop-front g l = length l.front.items
