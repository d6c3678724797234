use Rattle.std.proofs.Common.{refl}
use Rattle.mem_driver.proofs.connector.SharedMemConnectorConnectorSharedMem.connect.Goals as goal

-- the store that the lock held numbered the link
pub returns-clause-opened : goal.returns-clause-opened
returns-clause-opened g c = (c.deref_mut.result.now, rw (c.new-3.ensures, c.new-2.ensures, c.new-session.ensures, c.new.ensures, c.in_ok-link.ensures.link) refl)
