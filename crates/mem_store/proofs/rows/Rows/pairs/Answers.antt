use Rattle.std.proofs.Common.{◌≡◌, ◌∙◌, ap, sym, map, rules}
use Rattle.std.specs.FinMap.{entries}
use Rattle.std.specs.Map.Iter.{deref_pair}
use Rattle.std.proofs.lemmas.List.{map-append}
use Rattle.std.proofs.lemmas.Map.Iter.{iter_end}
use Rattle.mem_store.proofs.Trees.{entries-from_entries}
use Rattle.mem_store.proofs.rows.Rows.pairs.Goals as goal

pub returns : goal.returns
returns c =
    let all : map deref_pair c.loop-key.yielded ≡ c.self.inside.tree.entries = search (rules, iter_end) in
    c.loop-key.invariant ∙ all ∙ sym (entries-from_entries c.self.inside.tree.entries c.iter-key-items.ensures.ordered) ∙ ap entries c.self.view_is

pub loop-key-preserved : goal.loop-key-preserved
loop-key-preserved c = search (rules, map-append)
