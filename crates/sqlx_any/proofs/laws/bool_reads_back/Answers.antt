use Rattle.std.proofs.Common.{refl}
use Rattle.sqlx_text.specs.declared.kind.AnyTypeInfoKind.TheVariants as kind
use Rattle.sqlx_any_values.specs.TypedRead.{a_bool}
use Rattle.sqlx_any_values.specs.declared.value.AnyValueKind.TheVariants as value
use Rattle.sqlx_any.proofs.ReadBack.{read_back, read_back_as_some}
use Rattle.sqlx_any.proofs.laws.bool_reads_back.Goals as goal

pub returns-clause-alone : goal.returns-clause-alone
returns-clause-alone g c = (value.Bool c.args.x, λ list. refl, read_back (λ b. b) a_bool (value.Bool c.args.x) c.args.x refl refl)

pub returns-clause-some : goal.returns-clause-some
returns-clause-some g c = (value.Bool c.args.x, λ list. refl, read_back_as_some (λ b. b) a_bool (value.Bool c.args.x) c.args.x refl refl)

pub returns-clause-none : goal.returns-clause-none
returns-clause-none g c = (value.Null kind.Bool, λ list. refl, λ is_checked in_row r read. rw read refl)
