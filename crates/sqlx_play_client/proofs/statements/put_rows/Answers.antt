use Rattle.std.proofs.Common.{[], ◌∷◌, to_z-of_z}
use Rattle.sqlx_any_values.specs.declared.value.AnyValueKind.TheVariants.{BigInt}
use Rattle.mem_store.specs.Statements.{statement_text}
use Rattle.mem_store.specs.declared.statement.Statement.TheVariants.{Put}
use Rattle.sqlx_play_client.proofs.StatementLemmas.{put_comes}
use Rattle.sqlx_play_client.proofs.statements.put_rows.Goals as goal

pub returns : goal.returns
returns c =
    let first = c.with-query.ensures (statement_text Put) [] c.in-Ok.ensures in
    let first' = rw (to_z-of_z c.ranges.key) at first in
    let second = c.with-query-2.ensures (statement_text Put) (BigInt c.args.key ∷ []) first' in
    let second' = rw (to_z-of_z c.ranges.value) at second in
    put_comes c.args.key c.args.value c.args.conn.now.backend c.executes.result c.executes.new.conn.backend
    (c.executes.ensures (statement_text Put) (BigInt c.args.key ∷ BigInt c.args.value ∷ []) second')
