use Rattle.std.proofs.Common.{Bool, true, sym, ap, subst, ◌∙◌}
use Rattle.sqlx_pool_marks.specs.declared.mark.Mark.TheVariants as mark
use Rattle.sqlx_pool_lists.specs.Core.{Core}
use Rattle.sqlx_pool_lists.specs.Makes.{Makes}
use Rattle.sqlx_pool_core.specs.ReturnSteps.{leak_marks, leaked}
use Rattle.sqlx_pool_core.specs.LonePool.{LonePool}
use Rattle.mem_store.specs.Store.{Link}
use Rattle.sqlx_play.proofs.leaving.LoanEndsLemmas.{departs-not, departs, leaks-loan}
use Rattle.sqlx_play.specs.stage.Scene.{scene_of}
use Rattle.sqlx_play.proofs.stage.loans.leave.leak_loan.Goals as goal

pub returns-then-not-leak-clause-ok : goal.returns-then-not-leak-clause-ok
returns-then-not-leak-clause-ok c =
    departs-not (scene_of c.args.stage.now) (mark.Leaked c.args.conn) c.args.client c.args.conn c.bounds.ensures.numbered c.leak.new.self.pool
    (sym c.if-not-leak.true ∙ c.leak.ensures.answer) (c.leak.ensures.becomes ∙ ap (λ (b : Bool). leaked c.args.conn b c.args.stage.now.core.pool) c.if-not-leak.true)

pub returns-clause-ok : goal.returns-clause-ok
returns-clause-ok c =
    let old = (scene_of c.args.stage.now) in
    let new = (scene_of c.close_lent.new.stage) in
    let same = ap (λ (whole : LonePool Link). whole.pool) c.close_lent.ensures.core in
    departs old (mark.Leaked c.args.conn) c.args.client c.args.conn c.bounds.ensures.numbered new
    (sym c.if-not-leak.false ∙ c.leak.ensures.answer)
    (leaks-loan old.core new.core c.args.conn (same ∙ c.leak.ensures.becomes ∙ ap (λ (b : Bool). leaked c.args.conn b old.core) c.if-not-leak.false))
    c.close_lent.ensures.pool
    (λ marks s. subst (λ (d : Core Link). Makes old.core.options.max_connections marks (leak_marks c.args.conn true) d) (sym same)
    (subst (λ (b : Bool). Makes old.core.options.max_connections marks (leak_marks c.args.conn b) c.leak.new.self.pool) c.if-not-leak.false (c.leak.ensures.makes marks s)))
    c.close_lent.ensures.store c.close_lent.ensures.lent
