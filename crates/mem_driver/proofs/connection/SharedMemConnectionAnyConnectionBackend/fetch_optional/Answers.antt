use Rattle.std.proofs.Common.{◌∙◌}
use Rattle.mem_driver.specs.Backend.{Runs}
use Rattle.mem_driver.proofs.HeldLemmas.{on_held}
use Rattle.mem_driver.proofs.connection.SharedMemConnectionAnyConnectionBackend.fetch_optional.Goals as goal

pub returns-clause-row : goal.returns-clause-row
returns-clause-row g c = (
  c.fetch_optional-row.ensures.row.0,
  on_held (λ session left. Runs session c.args.query c.args.persistent c.args.arguments c.fetch_optional-row.ensures.row.0 left) c.args.self.now.session c.swap_store.new.self c.fetch_optional-row.new.self c.swap_store-2.new.self
      c.deref_mut.result.now c.deref_mut-2.result.now c.swap_store.ensures.session c.fetch_optional-row.ensures.row.1 c.swap_store-2.ensures.session (c.deref_mut-2.ensures.value ∙ c.swap_store.ensures.store),
  c.fetch_optional-row.ensures.row.2,
)
