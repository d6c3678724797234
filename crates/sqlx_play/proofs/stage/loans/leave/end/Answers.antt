use Rattle.std.proofs.Common.{ℕ, Bool, true, false, subst}
use Rattle.sqlx_pool_marks.specs.declared.mark.Mark.TheVariants as mark
use Rattle.sqlx_script_rules.specs.Answer.{answer}
use Rattle.sqlx_play.specs.events.LoanEnds.{LoanEnds}
use Rattle.sqlx_play.proofs.leaving.PlaysLeave.{end-not, end-done}
use Rattle.sqlx_play.specs.stage.Scene.{scene_of}
use Rattle.sqlx_play.proofs.stage.loans.leave.end.Goals as goal

pub returns-then-not-end_loan-clause-ok : goal.returns-then-not-end_loan-clause-ok
unfolding answer
returns-then-not-end_loan-clause-ok c pairs s =
    end-not (scene_of c.args.stage.now) pairs c.args.moment c.args.client c.args.connection c.args.opens s (scene_of c.end_loan.new.stage)
    (subst (λ (n : ℕ). LoanEnds (scene_of c.args.stage.now) (scene_of c.end_loan.new.stage) (mark.Closed n) c.args.client n false) c.from.ensures
    (subst (λ (b : Bool). LoanEnds (scene_of c.args.stage.now) (scene_of c.end_loan.new.stage) (mark.Closed c.from.result) c.args.client c.from.result b) c.if-not-end_loan.true c.end_loan.ensures.ok))

pub returns-clause-ok : goal.returns-clause-ok
unfolding answer
returns-clause-ok c pairs s =
    end-done (scene_of c.args.stage.now) pairs c.args.moment c.args.client c.args.connection c.args.opens s (scene_of c.end_loan.new.stage) (scene_of c.fill.new.stage) c.in_ok-opened.opened
    (subst (λ (n : ℕ). LoanEnds (scene_of c.args.stage.now) (scene_of c.end_loan.new.stage) (mark.Closed n) c.args.client n true) c.from.ensures
    (subst (λ (b : Bool). LoanEnds (scene_of c.args.stage.now) (scene_of c.end_loan.new.stage) (mark.Closed c.from.result) c.args.client c.from.result b) c.if-not-end_loan.false c.end_loan.ensures.ok))
    c.in_ok-opened.ensures.ok
