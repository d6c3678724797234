use Rattle.std.proofs.Common.{Bool, true, sym, ap, subst, ◌∙◌}
use Rattle.sqlx_pool_marks.specs.declared.mark.Mark.TheVariants as mark
use Rattle.sqlx_pool_lists.specs.Core.{Core}
use Rattle.sqlx_pool_lists.specs.Makes.{Makes}
use Rattle.sqlx_pool_core.specs.ReturnSteps.{end_marks, released}
use Rattle.sqlx_pool_core.specs.LonePool.{LonePool}
use Rattle.mem_store.specs.Store.{Link}
use Rattle.sqlx_play.proofs.leaving.LoanEndsLemmas.{departs-not, departs, ends-loan}
use Rattle.sqlx_play.specs.stage.Scene.{scene_of}
use Rattle.sqlx_play.proofs.stage.loans.leave.end_loan.Goals as goal

pub returns-then-not-end-clause-ok : goal.returns-then-not-end-clause-ok
returns-then-not-end-clause-ok c =
    departs-not (scene_of c.args.stage.now) (mark.Closed c.args.conn) c.args.client c.args.conn c.bounds.ensures.numbered c.end.new.self.pool
    (sym c.if-not-end.true ∙ c.end.ensures.answer) (c.end.ensures.becomes ∙ ap (λ (b : Bool). released c.args.conn b c.args.stage.now.core.pool) c.if-not-end.true)

pub returns-clause-ok : goal.returns-clause-ok
returns-clause-ok c =
    let old = (scene_of c.args.stage.now) in
    let new = (scene_of c.close_lent.new.stage) in
    let same = ap (λ (whole : LonePool Link). whole.pool) c.close_lent.ensures.core in
    departs old (mark.Closed c.args.conn) c.args.client c.args.conn c.bounds.ensures.numbered new
    (sym c.if-not-end.false ∙ c.end.ensures.answer)
    (ends-loan old.core new.core c.args.conn (same ∙ c.end.ensures.becomes ∙ ap (λ (b : Bool). released c.args.conn b old.core) c.if-not-end.false))
    c.close_lent.ensures.pool
    (λ marks s. subst (λ (d : Core Link). Makes old.core.options.max_connections marks (end_marks c.args.conn true) d) (sym same)
    (subst (λ (b : Bool). Makes old.core.options.max_connections marks (end_marks c.args.conn b) c.end.new.self.pool) c.if-not-end.false (c.end.ensures.makes marks s)))
    c.close_lent.ensures.store c.close_lent.ensures.lent
