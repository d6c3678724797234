-- What was handed in doesn't bear on the refusals by state and other connections.
use Rattle.std.proofs.Common.{◌≡◌, Some, refl}
use Rattle.mem_store.specs.declared.act.Act.{Act}
use Rattle.mem_store.specs.declared.act.Act.TheVariants.{Put, Delete, Get, SelectAll, SelectOne, Level}
use Rattle.mem_store.specs.declared.answer.Answer.TheVariants.{Accept}
use Rattle.mem_store.specs.Store.{Session, at_work}
use Rattle.mem_store.specs.Acts.{refusal_here}

pub free_here : (act : Act) (session : Session) → refusal_here (Some act) (at_work session.store session.link Accept) ≡ refusal_here (Some act) session
free_here (Put key value) session = refl
free_here (Delete key) session = refl
free_here (Get key) session = refl
free_here SelectAll session = refl
free_here SelectOne session = refl
free_here (Level level) session = refl
