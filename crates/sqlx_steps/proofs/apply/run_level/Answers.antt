use Rattle.std.proofs.Common.{pos, length, ◌+◌, sym, ◌∙◌, nat_lt, nat_le, arith}
use Rattle.std.proofs.lemmas.Bool.{and_parts, leb-true, ltb-true}
use Rattle.sqlx_steps.specs.AtWork.{IsAtRest}
use Rattle.sqlx_steps.specs.Texts.{stepped}
use Rattle.sqlx_steps.proofs.Counting.{text_behind, texts_stop, one_refused}
use Rattle.sqlx_steps.proofs.apply.run_level.Goals as goal

pub returns-then-is_refused : goal.returns-then-is_refused
returns-then-is_refused g c = λ n before w.
    let left = c.args.left.now in
    let within = and_parts (nat_lt 0 left) (nat_le left (length c.args.step.now + 2)) (sym c.is_refused.ensures ∙ c.if-is_refused.true) in
    one_refused (λ s l. IsAtRest s l n (stepped c.args.step.now (pos c.args.version) before)) (λ s l. IsAtRest s l n before) (λ s l. IsAtRest s l n before) (length c.args.step.now + 2) left left _ _ _
    (ltb-true 0 left within.0) (leb-true left (length c.args.step.now + 2) within.1) (c.run_refused.ensures n before w)

pub returns-in-All : goal.returns-in-All
returns-in-All g c = λ n before w.
    let ran = c.in-All.ensures n before before w in
    text_behind (λ s l. IsAtRest s l n (stepped c.args.step.now (pos c.args.version) before)) (λ s l. IsAtRest s l n before) (λ s l. IsAtRest s l n (stepped c.args.step.now (pos c.args.version) before)) (λ s l. IsAtRest s l n before)
    (length c.args.step.now + 1) (length c.args.step.now + 2) c.args.left.now c.run_writes-ran.new.left c.commit.new.left c.commit.result (g.W.Work.store c.commit.new.work) (g.W.Work.link c.commit.new.work)
    (λ d. d) (λ k. k) (omega arith) ran.1 ran.2 c.commit.ensures.counts (c.commit.ensures.text n before _ ran.0)

pub returns-in-Refused : goal.returns-in-Refused
returns-in-Refused g c = λ n before w.
    texts_stop _ _ _ _ (length c.args.step.now + 1) (length c.args.step.now + 2) _ _ _ _ _ _ _ _ c.in-Refused.is (λ k. c.give_up.ensures n before k.0 k.1) (omega arith) (c.run_writes-ran.ensures n before before w)
