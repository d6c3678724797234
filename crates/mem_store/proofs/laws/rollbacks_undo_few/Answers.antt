use Rattle.mem_store.proofs.UndoBoundLemmas.{undo_few}
use Rattle.mem_store.proofs.laws.rollbacks_undo_few.Goals as goal

pub returns : goal.returns
returns c = undo_few
