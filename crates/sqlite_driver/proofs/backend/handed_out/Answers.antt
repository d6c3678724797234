-- A list without an error.
use Rattle.std.proofs.Common.{[], Ok, sym, subst}
use Rattle.sqlx_traits.specs.StepList.{StepCauses}
use Rattle.sqlx_traits.proofs.StepLemmas.{causes_of_items}
use Rattle.sqlite_driver.proofs.backend.handed_out.Goals as goal

pub returns-clause-causes : goal.returns-clause-causes
returns-clause-causes c = λ before now arguments. subst (StepCauses before now (Ok arguments)) (sym c.new.ensures) (causes_of_items before now (Ok arguments) c.args.items.items [] tt)
