use Rattle.std.proofs.Common.{◌∙◌, ap, sym, option_map}
use Rattle.sqlx_pool_lists.specs.MaintenanceSteps.{idle_conn}
use Rattle.sqlx_pool.proofs.SeenLemmas.{is_none}
use Rattle.sqlx_pool.proofs.lone.LockedArcGlobalPoolSteps.reap.Goals as goal

pub returns-clause-does : goal.returns-clause-does
returns-clause-does g c = let did = c.reap.ensures in record { answer = did.answer; first = did.first; marks = did.marks; becomes = did.becomes }

pub returns-clause-none : goal.returns-clause-none
returns-clause-none g c = λ none. sym c.reap.ensures.answer ∙ ap (λ o. option_map idle_conn o) (is_none c.reap.result none)
