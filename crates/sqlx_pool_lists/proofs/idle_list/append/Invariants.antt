use Rattle.std.proofs.Common.{◌≡◌, ◌+◌, ◌++◌, length, take, drop}
use Rattle.sqlx_pool_lists.proofs.idle_list.append.Given as goal

-- none is lost, and each row keeps its room
abbrev pub invariant-loop-more : goal.invariant-loop-more
invariant-loop-more g l = record {
  put : l.front.items ++ take l.more l.back.items ≡ l.initial.front.items ++ take l.initial.more l.initial.back.items;
  left : drop l.more l.back.items ≡ drop l.initial.more l.initial.back.items;
  all : length l.front.items + length l.back.items ≡ length l.initial.front.items + length l.initial.back.items;
  front : l.front.room ≡ l.initial.front.room;
  back : l.back.room ≡ l.initial.back.room;
}

abbrev pub decreases-loop-more : goal.decreases-loop-more
decreases-loop-more g l = l.more
