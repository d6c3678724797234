use Rattle.std.proofs.Common.{refl}
use Rattle.sqlx_text.specs.declared.kind.AnyTypeInfoKind.TheVariants as kind
use Rattle.sqlx_any_values.specs.TypedRead.{an_i16}
use Rattle.sqlx_any_values.specs.declared.value.AnyValueKind.TheVariants as value
use Rattle.sqlx_any.proofs.ReadBack.{fits_i16, read_back, read_back_as_some}
use Rattle.sqlx_any.proofs.laws.i16_reads_back.Goals as goal

pub returns-clause-alone : goal.returns-clause-alone
returns-clause-alone g c = (value.SmallInt c.args.x, λ list. refl, read_back (λ n. n) an_i16 (value.SmallInt c.args.x) c.args.x refl (fits_i16 c.args.x c.ranges.x))

pub returns-clause-some : goal.returns-clause-some
returns-clause-some g c = (value.SmallInt c.args.x, λ list. refl, read_back_as_some (λ n. n) an_i16 (value.SmallInt c.args.x) c.args.x refl (fits_i16 c.args.x c.ranges.x))

pub returns-clause-none : goal.returns-clause-none
returns-clause-none g c = (value.Null kind.SmallInt, λ list. refl, λ is_checked in_row r read. rw read refl)
