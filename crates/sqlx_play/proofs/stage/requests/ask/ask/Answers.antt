use Rattle.std.proofs.Common.{◌≡◌, Result, Ok, Err, OnErr, ℕ, arith}
use Rattle.sqlx_text.specs.declared.error.Error.{Error}
use Rattle.mem_store.specs.Store.{Link}
use Rattle.sqlx_pool_core.specs.LonePool.{LonePool}
use Rattle.sqlx_pool_core.proofs.LonePools.{pool-is}
use Rattle.sqlx_script_rules.specs.Answer.{answer}
use Rattle.sqlx_play.proofs.asks.Asks.{ask-came, ask-plays}
use Rattle.sqlx_play.specs.stage.Scene.{scene_of}
use Rattle.sqlx_play.proofs.stage.requests.ask.ask.Goals as goal

-- an ask that is refused leaves the pool
left : (r : Result ℕ Error) (old new : LonePool Link) → OnErr r (new ≡ old) → OnErr r (new.pool ≡ old.pool)
left (Ok ticket) old new h = tt
left (Err e) old new h = pool-is h

pub returns-in-Some-clause-ok : goal.returns-in-Some-clause-ok
unfolding answer
returns-in-Some-clause-ok c pairs s =
    let asked = c.ask-answer.ensures in
    ask-plays (scene_of c.args.stage.now) c.ask-answer.new.self.pool pairs c.args.moment c.args.client c.ask-answer.result c.in-Some.reply s c.requires.in_order
    (ask-came c.ask-answer.result c.ask_reply-reply.result c.in-Some.reply c.in-Some.is c.ask_reply-reply.ensures.drawn c.ask_reply-reply.ensures.closed c.ask_reply-reply.ensures.memory
    (λ e. let full = (asked.exhausted.0 e).1 in absurd (omega (arith, full, c.requires.numbers))) asked.causes)
    asked.numbered asked.closed (asked.makes _ s.stands) asked.becomes (left c.ask-answer.result c.args.stage.now.core c.ask-answer.new.self asked.err)
