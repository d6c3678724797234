use Rattle.mem_store.proofs.ReadsBack.{reads_back}
use Rattle.mem_store.proofs.laws.texts_read_back.Goals as goal

pub returns : goal.returns
returns c = reads_back
