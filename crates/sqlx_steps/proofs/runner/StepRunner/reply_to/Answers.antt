use Rattle.std.proofs.Common.{◌≡◌, true, Result, Ok, Err, IfOk, refl, sym, ap, ◌∙◌}
use Rattle.sqlx_player.specs.Language.{Pairs}
use Rattle.sqlx_steps_rules.specs.declared.event.Event.{Event}
use Rattle.sqlx_steps_rules.specs.declared.event.Event.TheVariants.{Apply}
use Rattle.sqlx_steps_rules.specs.declared.reply.Reply.{Reply}
use Rattle.sqlx_steps_rules.specs.Rules.{apply_reply, version_reached, version_by}
use Rattle.sqlx_steps.specs.Stands.{StandsFor, AnswersSo}
use Rattle.sqlx_steps.proofs.Answering.{step_answers, statement_answers, apply_answers, get_answers}
use Rattle.sqlx_steps.proofs.runner.StepRunner.reply_to.Goals as goal

both : {E : Type 0} (result : Result Reply E) (P Q R : Reply → Type 0) → ((r : Reply) → P r → Q r → R r) → IfOk result P → IfOk result Q → IfOk result R
both (Ok r) P Q R f p q = f r p q
both (Err e) P Q R f p q = tt

pub returns-in_ok-begin-in-Step : goal.returns-in_ok-begin-in-Step
returns-in_ok-begin-in-Step c = λ pairs s. step_answers c.args.self.now _ pairs c.args.event.now c.in-Step.number c.in-Step.is s c.requires.in_place c.in_ok-begin-in-Step.ensures refl refl

pub returns-in_ok-add-in-Statement : goal.returns-in_ok-add-in-Statement
returns-in_ok-add-in-Statement c = λ pairs s. statement_answers c.args.self.now _ pairs c.args.event.now c.in-Statement.write c.in-Statement.is s c.requires.in_place c.in_ok-add-in-Statement.ensures refl refl

pub returns-in-Apply : goal.returns-in-Apply
returns-in-Apply c =
    both c.apply.result (λ r. r ≡ apply_reply c.in-Apply.upto (version_reached c.steps-steps.result.now c.args.self.now.database.version c.in-Apply.upto c.from.result))
    (λ r. c.apply.new.self.version ≡ version_by c.args.self.now.database.version r)
    (λ r. (pairs : Pairs Event Reply) → StandsFor c.args.self.now pairs → AnswersSo pairs c.args.event.now r (record { definitions = c.args.self.now.definitions; ended = true; database = c.apply.new.self }))
    (λ r told version pairs s.
    apply_answers c.args.self.now _ pairs c.args.event.now c.in-Apply.upto c.from.result r c.steps-steps.result.now (c.in-Apply.is ∙ ap (λ f. Apply c.in-Apply.upto f) (sym c.from.ensures)) s c.steps-steps.ensures refl refl
    c.apply.ensures.keeps told version) c.apply.ensures.reply c.apply.ensures.version

pub returns-in-Get : goal.returns-in-Get
returns-in-Get c = λ pairs s.
    let read = c.get.ensures c.args.self.now.definitions s.keeps in
    get_answers c.args.self.now _ pairs c.args.event.now c.in-Get.key c.get.result c.in-Get.is s refl refl read.1 read.0
