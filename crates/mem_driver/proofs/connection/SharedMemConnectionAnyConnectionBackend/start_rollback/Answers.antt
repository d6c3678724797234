use Rattle.std.proofs.Common.{Ok, ◌∙◌}
use Rattle.sqlx_traits.specs.Calls.{start_rollback}
use Rattle.mem_driver.specs.Backend.{Does}
use Rattle.mem_driver.proofs.HeldLemmas.{on_held}
use Rattle.mem_driver.proofs.connection.SharedMemConnectionAnyConnectionBackend.start_rollback.Goals as goal

pub returns-clause-does : goal.returns-clause-does
returns-clause-does g c = on_held (λ session left. Does start_rollback session (Ok tt) left) c.args.self.now.session c.swap_store.new.self c.start_rollback.new.self c.swap_store-2.new.self
    c.deref_mut.result.now c.deref_mut-2.result.now c.swap_store.ensures.session c.start_rollback.ensures.does c.swap_store-2.ensures.session (c.deref_mut-2.ensures.value ∙ c.swap_store.ensures.store)
