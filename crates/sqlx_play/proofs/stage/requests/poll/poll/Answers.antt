use Rattle.std.proofs.Common.{◌∙◌, ap, arith, refl}
use Rattle.mem_store.specs.Store.{Store}
use Rattle.sqlx_play.proofs.events.Dispatch.{frames-no_text}
use Rattle.sqlx_play.proofs.polls.PolledMoves.{Moved, polled-moves}
use Rattle.std.proofs.Math.Nat.{max-eq_right}
use Rattle.sqlx_play.proofs.polls.PollPlays.{few-conns}
use Rattle.sqlx_play.proofs.polls.NeverExhausted.{polls-not}
use Rattle.sqlx_play.proofs.polls.PolledPlays.{polled-plays}
use Rattle.sqlx_play.proofs.stage.requests.poll.poll.Goals as goal
use Rattle.sqlx_play.specs.stage.Scene.{scene_of}
use Rattle.std.proofs.Common.{refl}

pub returns-clause-ok : goal.returns-clause-ok
returns-clause-ok c =
    let stage = (scene_of c.args.stage.now) in
    polled-plays stage (record stage { core = c.poll_with-polled.new.self.pool; out = c.poll_with-polled.new.out; lent = c.reply.new.owned }) c.args.moment c.args.client c.args.ticket _ c.args.answers c.begin_poll.new.self
    (few-conns stage c.requires.numbers) c.bounds.ensures.numbered c.begin_poll.ensures.letters c.begin_poll.ensures.opens c.begin_poll.ensures.left c.begin_poll.ensures.store refl (max-eq_right c.requires.in_order)
    c.poll_with-polled.result c.poll_with-polled.ensures.polls c.reply.result c.reply.ensures.answer c.reply.ensures.owned

moved : (c : goal.After-reply) → Moved c.args.moment.0 c.args.stage.now.core.pool c.poll_with-polled.new.self.pool c.begin_poll.new.self c.poll_with-polled.new.out
moved c = polled-moves c.args.client c.args.ticket _ c.args.moment.0 c.args.answers _ _ _ _ c.begin_poll.ensures.letters c.begin_poll.ensures.opens (max-eq_right c.requires.in_order) c.poll_with-polled.result c.poll_with-polled.ensures.polls

pub returns-clause-frame : goal.returns-clause-frame
returns-clause-frame c =
    let stage = (scene_of c.args.stage.now) in
    let m = moved c in
    let a = m.ticket in
    let b = m.conn in
    frames-no_text stage (record stage { core = c.poll_with-polled.new.self.pool; out = c.poll_with-polled.new.out; lent = c.reply.new.owned }) c.args.moment _ c.reply.result (λ reply. refl)
    (record { pool = refl; last = m.last c.requires.in_order; used = omega (arith, a, b) }) (m.runs ∙ ap (λ (s : Store). s.runs) c.begin_poll.ensures.store)

pub reply-requires : goal.reply-requires
reply-requires c = polls-not _ _ _ _ _ _ _ _ _ _ _ (few-conns (scene_of c.args.stage.now) c.requires.numbers) c.poll_with-polled.ensures.polls
