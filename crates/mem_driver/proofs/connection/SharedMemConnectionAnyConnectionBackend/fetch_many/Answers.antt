use Rattle.std.proofs.Common.{◌∙◌}
use Rattle.mem_driver.specs.Backend.{Runs}
use Rattle.mem_driver.proofs.HeldLemmas.{on_held}
use Rattle.mem_driver.proofs.connection.SharedMemConnectionAnyConnectionBackend.fetch_many.Goals as goal

pub returns-clause-steps : goal.returns-clause-steps
returns-clause-steps g c = on_held (λ session left. Runs session c.args.query c.args.persistent c.args.arguments c.fetch_many-steps.result left) c.args.self.now.session c.swap_store.new.self c.fetch_many-steps.new.self c.swap_store-2.new.self
    c.deref_mut.result.now c.deref_mut-2.result.now c.swap_store.ensures.session c.fetch_many-steps.ensures.steps c.swap_store-2.ensures.session (c.deref_mut-2.ensures.value ∙ c.swap_store.ensures.store)
