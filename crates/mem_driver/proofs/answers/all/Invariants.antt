use Rattle.std.proofs.Common.{◌≡◌, map, take}
use Rattle.mem_driver.specs.Answers.{RowsFit, oks, pair_row}
use Rattle.mem_driver.proofs.AnswersLemmas.{rows_as_items}
use Rattle.mem_driver.proofs.answers.all.Given as goal

-- the rows of the pairs so far
abbrev pub invariant-loop-item : goal.invariant-loop-item
invariant-loop-item l = (l.items.items ≡ rows_as_items (map pair_row (take l.item-index l.fn.pairs.items))) × RowsFit (oks l.items.items)
