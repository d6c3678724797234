use Rattle.std.proofs.Common.{[], ◌∷◌, to_z-of_z}
use Rattle.sqlx_any_values.specs.declared.value.AnyValueKind.TheVariants.{BigInt}
use Rattle.mem_store.specs.Statements.{statement_text}
use Rattle.mem_store.specs.declared.statement.Statement.TheVariants.{Delete}
use Rattle.sqlx_play_client.proofs.StatementLemmas.{delete_comes}
use Rattle.sqlx_play_client.proofs.statements.delete_rows.Goals as goal

pub returns : goal.returns
returns c =
    let first = c.with-query.ensures (statement_text Delete) [] c.in-Ok.ensures in
    let first' = rw (to_z-of_z c.ranges.key) at first in
    delete_comes c.args.key c.args.conn.now.backend c.executes.result c.executes.new.conn.backend (c.executes.ensures (statement_text Delete) (BigInt c.args.key ∷ []) first')
