use Rattle.std.proofs.Common.{◌≡◌, ap, ◌∙◌}
use Rattle.sqlite.specs.Held.{state}
use Rattle.sqlite.specs.Values.{bound}
use Rattle.sqlite_base.specs.Queries.{all_taken}
use Rattle.sqlx_text.specs.declared.error.Error.TheVariants as error
use Rattle.sqlite_base.specs.Refusals.{refusal_error}
use Rattle.sqlite_base.proofs.QueryLemmas.{gives_as, refuses_as}
use Rattle.sqlite_base.proofs.statements.run.Goals as goal

pub returns-clause-gave : goal.returns-clause-gave
returns-clause-gave g c =
    gives_as (state g.S.Store) c.args.text.now (bound c.as_slice.result.now) (all_taken c.args.arguments.now) c.args.conn.now c.given.new.conn (λ all. all.items) c.given.result
    (ap bound c.as_slice.ensures.value ∙ c.in_ok-values.ensures) c.given.ensures.gave

pub returns-clause-refused : goal.returns-clause-refused
returns-clause-refused g c =
    refuses_as (state g.S.Store) c.args.text.now (bound c.as_slice.result.now) (all_taken c.args.arguments.now) c.args.conn.now c.given.new.conn (λ refusal. refusal_error refusal ≡ error.OutOfMemory) refusal_error c.given.result
    (ap bound c.as_slice.ensures.value ∙ c.in_ok-values.ensures) c.given.ensures.refused
