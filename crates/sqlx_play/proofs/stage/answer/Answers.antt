use Rattle.std.proofs.Common.{Ok, refl, arith}
use Rattle.sqlx_play.proofs.events.Dispatch.{plays-event, frames-event, frames-no_text}
use Rattle.sqlx_play.specs.stage.Scene.{scene_of}
use Rattle.sqlx_play.proofs.stage.answer.Goals as goal

pub returns-in-Ask-clause-ok : goal.returns-in-Ask-clause-ok
returns-in-Ask-clause-ok g c = plays-event _ _ c.args.event.now _ _ c.in-Ask.is c.ask.ensures.ok

pub returns-in-Poll-clause-ok : goal.returns-in-Poll-clause-ok
returns-in-Poll-clause-ok g c = plays-event _ _ c.args.event.now _ _ c.in-Poll.is c.poll.ensures.ok

pub returns-in-Cancel-clause-ok : goal.returns-in-Cancel-clause-ok
returns-in-Cancel-clause-ok g c = plays-event _ _ c.args.event.now _ _ c.in-Cancel.is c.cancel.ensures.ok

pub returns-in-Try-clause-ok : goal.returns-in-Try-clause-ok
returns-in-Try-clause-ok g c = plays-event _ _ c.args.event.now _ _ c.in-Try.is c.try_acquire.ensures.ok

pub returns-in-Min-clause-ok : goal.returns-in-Min-clause-ok
returns-in-Min-clause-ok g c = plays-event _ _ c.args.event.now _ _ c.in-Min.is c.min.ensures.ok

pub returns-in-Reap-clause-ok : goal.returns-in-Reap-clause-ok
returns-in-Reap-clause-ok g c = plays-event _ _ c.args.event.now _ _ c.in-Reap.is c.reap.ensures.ok

pub returns-in-Give-clause-ok : goal.returns-in-Give-clause-ok
returns-in-Give-clause-ok g c = plays-event _ _ c.args.event.now _ _ c.in-Give.is c.give.ensures.ok

pub returns-in-End-clause-ok : goal.returns-in-End-clause-ok
returns-in-End-clause-ok g c = plays-event _ _ c.args.event.now _ _ c.in-End.is c.end.ensures.ok

pub returns-in-Detach-clause-ok : goal.returns-in-Detach-clause-ok
returns-in-Detach-clause-ok g c = plays-event _ _ c.args.event.now _ _ c.in-Detach.is c.detach.ensures.ok

pub returns-in-Leak-clause-ok : goal.returns-in-Leak-clause-ok
returns-in-Leak-clause-ok g c = plays-event _ _ c.args.event.now _ _ c.in-Leak.is c.leak.ensures.ok

pub returns-in-Close-clause-ok : goal.returns-in-Close-clause-ok
returns-in-Close-clause-ok g c = plays-event _ _ c.args.event.now _ (Ok c.close.result) c.in-Close.is c.close.ensures.ok

pub returns-in-CloseState-clause-ok : goal.returns-in-CloseState-clause-ok
returns-in-CloseState-clause-ok g c = plays-event _ _ c.args.event.now _ (Ok c.closed.result) c.in-CloseState.is c.closed.ensures

pub returns-in-Ask-clause-frame : goal.returns-in-Ask-clause-frame
returns-in-Ask-clause-frame g c = frames-event _ _ c.args.event.now _ _ c.in-Ask.is c.ask.ensures.frame

pub returns-in-Poll-clause-frame : goal.returns-in-Poll-clause-frame
returns-in-Poll-clause-frame g c = frames-event _ _ c.args.event.now _ _ c.in-Poll.is c.poll.ensures.frame

pub returns-in-Cancel-clause-frame : goal.returns-in-Cancel-clause-frame
returns-in-Cancel-clause-frame g c = frames-event _ _ c.args.event.now _ _ c.in-Cancel.is c.cancel.ensures.frame

pub returns-in-Try-clause-frame : goal.returns-in-Try-clause-frame
returns-in-Try-clause-frame g c = frames-event _ _ c.args.event.now _ _ c.in-Try.is c.try_acquire.ensures.frame

pub returns-in-Min-clause-frame : goal.returns-in-Min-clause-frame
returns-in-Min-clause-frame g c = frames-event _ _ c.args.event.now _ _ c.in-Min.is c.min.ensures.frame

pub returns-in-Reap-clause-frame : goal.returns-in-Reap-clause-frame
returns-in-Reap-clause-frame g c = frames-event _ _ c.args.event.now _ _ c.in-Reap.is c.reap.ensures.frame

pub returns-in-Give-clause-frame : goal.returns-in-Give-clause-frame
returns-in-Give-clause-frame g c = frames-event _ _ c.args.event.now _ _ c.in-Give.is c.give.ensures.frame

pub returns-in-End-clause-frame : goal.returns-in-End-clause-frame
returns-in-End-clause-frame g c = frames-event _ _ c.args.event.now _ _ c.in-End.is c.end.ensures.frame

pub returns-in-Detach-clause-frame : goal.returns-in-Detach-clause-frame
returns-in-Detach-clause-frame g c = frames-event _ _ c.args.event.now _ _ c.in-Detach.is c.detach.ensures.frame

pub returns-in-Leak-clause-frame : goal.returns-in-Leak-clause-frame
returns-in-Leak-clause-frame g c = frames-event _ _ c.args.event.now _ _ c.in-Leak.is c.leak.ensures.frame

pub returns-in-Close-clause-frame : goal.returns-in-Close-clause-frame
returns-in-Close-clause-frame g c =
    frames-event _ _ c.args.event.now _ _ c.in-Close.is
    (frames-no_text (scene_of c.args.stage.now) (scene_of c.close.new.stage) c.args.event.now.moment _ (Ok c.close.result) (λ reply. refl) (record { pool = c.close.ensures.frame.pool; last = omega arith; used = omega arith }) c.close.ensures.runs)

pub returns-in-CloseState-clause-frame : goal.returns-in-CloseState-clause-frame
returns-in-CloseState-clause-frame g c =
    frames-event _ _ c.args.event.now _ _ c.in-CloseState.is
    (frames-no_text (scene_of c.args.stage.now) (scene_of c.args.stage.now) c.args.event.now.moment _ (Ok c.closed.result) (λ reply. refl) (record { pool = refl; last = c.requires.in_order; used = omega arith }) refl)
