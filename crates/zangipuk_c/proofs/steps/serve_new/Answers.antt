use Rattle.std.proofs.Common.{◌+◌, ap, sym, ◌∙◌}
use Rattle.sqlx_pool_core.specs.Logs.{moment_of}
use Rattle.sqlx_pool_lists.specs.PollSteps.{serve_marks}
use Rattle.zangipuk_c.proofs.LogLemmas.{noted-serve}
use Rattle.zangipuk_c.proofs.steps.serve_new.Goals as goal

pub returns-clause-continues : goal.returns-clause-continues
returns-clause-continues c =
    let core = c.args.kept.now.core.pool in
    let deadline = moment_of core c.moment.result + core.options.acquire_timeout in
    let next = c.next_ask-ticket.result in
    let at = ap (λ now. moment_of core now + core.options.acquire_timeout) (sym c.moment.ensures) in
    record {
      made = serve_marks c.args.told.client core.next_ticket deadline c.serve_new-lent.result;
      makes = c.serve_new-lent.ensures.makes;
      notes =
          noted-serve c.args.kept.now.log c.serve.new.log c.args.told.client c.serve_new-lent.result next.0 core.next_ticket next.1 deadline
          c.next_ask-ticket.ensures.ticket (λ is. c.next_ask-ticket.ensures.deadline is ∙ at) c.serve.ensures;
    }
