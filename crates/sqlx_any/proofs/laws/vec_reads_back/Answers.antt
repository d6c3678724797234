use Rattle.std.proofs.Common.{refl, codes}
use Rattle.sqlx_text.specs.declared.kind.AnyTypeInfoKind.TheVariants as kind
use Rattle.sqlx_any_values.specs.TypedRead.{a_blob}
use Rattle.sqlx_any_values.specs.declared.value.AnyValueKind.TheVariants as value
use Rattle.sqlx_any.proofs.ReadBack.{read_back, read_back_as_some}
use Rattle.sqlx_any.proofs.laws.vec_reads_back.Goals as goal

pub returns-clause-alone : goal.returns-clause-alone
returns-clause-alone g c = (value.Blob c.args.x.items, λ list. refl, read_back (λ bytes. bytes.items) (a_blob (codes "Vec<u8>")) (value.Blob c.args.x.items) c.args.x.items refl refl)

pub returns-clause-some : goal.returns-clause-some
returns-clause-some g c = (value.Blob c.args.x.items, λ list. refl, read_back_as_some (λ bytes. bytes.items) (a_blob (codes "Vec<u8>")) (value.Blob c.args.x.items) c.args.x.items refl refl)

pub returns-clause-none : goal.returns-clause-none
returns-clause-none g c = (value.Null kind.Blob, λ list. refl, λ is_checked in_row r read. rw read refl)
