use Rattle.std.proofs.Common.{ap, ◌∙◌, subst, ℕ, max, ◌≡◌, arith}
use Rattle.sqlx_pool_lists.specs.Core.{ticket_of}
use Rattle.sqlx_pool_lists.specs.Makes.{Makes}
use Rattle.sqlx_pool_lists.specs.PollSteps.{connect_answer, connect_marks, after_connect}
use Rattle.sqlx_pool_core.proofs.WholePoll.{connecting-answer}
use Rattle.sqlx_pool_core.proofs.pool_core.PoolCore.connect_ended.Goals as goal

at_last : (last now : ℕ) → now ≡ last → max last now ≡ now
at_last last now e = omega (arith, e)

pub returns-clause-tells : goal.returns-clause-tells
returns-clause-tells g c =
    c.finish_connect.ensures.answer
    ∙ ap (λ (m : ℕ). connect_answer (ticket_of c.args.client c.args.ticket c.args.self.now.pool.tickets) c.args.self.now.pool.shut c.args.self.now.pool.next_conn m c.args.tried) (at_last c.args.self.now.pool.last c.args.moment.0 c.requires.at)

pub returns-clause-answer : goal.returns-clause-answer
returns-clause-answer g c =
    returns-clause-tells g c
    ∙ connecting-answer (ticket_of c.args.client c.args.ticket c.args.self.now.pool.tickets) c.args.self.now.pool.shut c.args.self.now.pool.next_conn c.args.moment.0 c.args.tried c.requires.connecting c.requires.open

pub returns-clause-makes : goal.returns-clause-makes
returns-clause-makes g c = λ marks s.
    subst (λ (m : ℕ). Makes c.args.self.now.pool.options.max_connections marks (connect_marks c.args.client c.args.ticket m c.finish_connect.result) c.finish_connect.new.self.pool)
    (at_last c.args.self.now.pool.last c.args.moment.0 c.requires.at) (c.finish_connect.ensures.makes marks s)

pub returns-clause-becomes : goal.returns-clause-becomes
returns-clause-becomes g c =
    c.finish_connect.ensures.becomes
    ∙ ap (λ (m : ℕ). after_connect c.args.client c.args.ticket m c.finish_connect.result c.args.self.now.pool) (at_last c.args.self.now.pool.last c.args.moment.0 c.requires.at)
