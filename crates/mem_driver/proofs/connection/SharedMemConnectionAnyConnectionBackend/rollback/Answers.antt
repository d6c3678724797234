use Rattle.std.proofs.Common.{◌∙◌}
use Rattle.sqlx_traits.specs.Calls.{rollback}
use Rattle.mem_driver.specs.Backend.{Does}
use Rattle.mem_driver.proofs.HeldLemmas.{on_held}
use Rattle.mem_driver.proofs.connection.SharedMemConnectionAnyConnectionBackend.rollback.Goals as goal

pub returns-clause-does : goal.returns-clause-does
returns-clause-does g c = on_held (λ session left. Does rollback session c.rollback-done.result left) c.args.self.now.session c.swap_store.new.self c.rollback-done.new.self c.swap_store-2.new.self
    c.deref_mut.result.now c.deref_mut-2.result.now c.swap_store.ensures.session c.rollback-done.ensures.does c.swap_store-2.ensures.session (c.deref_mut-2.ensures.value ∙ c.swap_store.ensures.store)
