use Rattle.std.proofs.Common.{refl, codes, string_bytes}
use Rattle.sqlx_text.specs.declared.kind.AnyTypeInfoKind.TheVariants as kind
use Rattle.sqlx_any_values.specs.TypedRead.{a_text}
use Rattle.sqlx_any_values.specs.declared.value.AnyValueKind.TheVariants as value
use Rattle.sqlx_any.proofs.ReadBack.{read_back, read_back_as_some}
use Rattle.sqlx_any.proofs.laws.string_reads_back.Goals as goal

pub returns-clause-alone : goal.returns-clause-alone
returns-clause-alone g c = (value.Text (string_bytes c.args.x), λ list. refl, read_back string_bytes (a_text (codes "String")) (value.Text (string_bytes c.args.x)) (string_bytes c.args.x) refl refl)

pub returns-clause-some : goal.returns-clause-some
returns-clause-some g c = (value.Text (string_bytes c.args.x), λ list. refl, read_back_as_some string_bytes (a_text (codes "String")) (value.Text (string_bytes c.args.x)) (string_bytes c.args.x) refl refl)

pub returns-clause-none : goal.returns-clause-none
returns-clause-none g c = (value.Null kind.Text, λ list. refl, λ is_checked in_row r read. rw read refl)
