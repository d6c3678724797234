use Rattle.std.proofs.Common.{Bool, [], sym, ap, ◌∙◌, refl, subst}
use Rattle.sqlx_pool_lists.specs.declared.options.PoolOptions.{PoolOptions}
use Rattle.sqlx_pool_lists.specs.declared.steps.AfterConnect.{AfterConnect}
use Rattle.sqlx_pool_lists.specs.PollSteps.{connect_marks, after_connect}
use Rattle.sqlx_pool_core.specs.Chain.{Tries}
use Rattle.sqlx_pool_core.specs.Walk.{last, tells}
use Rattle.sqlx_pool_core.proofs.Polling.{is-connecting, tells-is, logs-by}
use Rattle.sqlx_pool_core.proofs.pool_core.PoolCore.connect.Goals as goal

pub returns-clause-goes : goal.returns-clause-goes
returns-clause-goes g c =
    let core = c.args.self.now.pool in
    let opening = c.try_connect-opening.result in
    let m = c.args.moment.0 in
    let ticket = is-connecting c.args.client c.args.ticket core.tickets c.requires.connecting in
    let is = tells-is c.args.client c.args.ticket m core opening ticket c.requires.open in
    record {
      verdicts = [];
      made = connect_marks c.args.client c.args.ticket m (tells m ticket.x core opening);
      goes = record {
        x = ticket.x;
        found = ticket.found;
        opening = opening;
        tries = subst (λ (hook : Bool). Tries g.X.Outside.does g.X.Outside.depth hook c.args.options.now opening c.args.out.now c.try_connect-opening.new.out)
            (c.get_after_connect-hook.ensures ∙ ap (λ (o : PoolOptions). o.after_connect) c.options.ensures) c.try_connect-opening.ensures;
        answer = c.tell.ensures.answer ∙ ap (λ (a : AfterConnect _). last a opening) is;
        becomes = c.tell.ensures.becomes ∙ ap (λ (a : AfterConnect _). after_connect c.args.client c.args.ticket m a core) is;
        marks = refl;
      };
      makes = logs-by core c.tell.new.self.pool _ _ (ap (λ (a : AfterConnect _). connect_marks c.args.client c.args.ticket m a) (sym is)) c.tell.ensures.makes;
    }
