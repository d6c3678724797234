use Rattle.std.proofs.Common.{[], ◌∷◌, to_z-of_z}
use Rattle.sqlx_any_values.specs.declared.value.AnyValueKind.TheVariants.{BigInt}
use Rattle.mem_store.specs.Statements.{statement_text}
use Rattle.mem_store.specs.declared.statement.Statement.TheVariants.{Get}
use Rattle.sqlx_play_client.proofs.StatementLemmas.{get_comes}
use Rattle.sqlx_play_client.proofs.statements.get_number.Goals as goal

pub returns : goal.returns
returns c =
    let first = c.number_with-asked.ensures (statement_text Get) [] c.in-Ok.ensures in
    let first' = rw (to_z-of_z c.ranges.key) at first in
    get_comes c.args.key c.args.conn.now.backend c.finds.result c.finds.new.conn.backend (c.finds.ensures (statement_text Get) (BigInt c.args.key ∷ []) first')
