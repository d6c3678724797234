use Rattle.std.proofs.Common.{refl, ap, ◌∙◌}
use Rattle.mem_driver.specs.Session.{Link}
use Rattle.mem_store.specs.declared.answer.Answer.TheVariants.{Accept}
use Rattle.sqlx_steps.proofs.Driving.{moved_left}
use Rattle.sqlx_steps.proofs.by_driver.ByDriverWork.give_up.Goals as goal

pub returns : goal.returns
returns c = λ n before rows within.
    moved_left c.replace-store.result _ c.leave_between-store.result.0 _ c.of.result.side _ c.leave_between-store.result.1.side _
    c.replace-store.ensures.value (ap (λ (l : Link). l.side) c.of.ensures ∙ c.replace-side.ensures.value) refl c.into_parts-side.ensures.0
    Accept n before rows c.leave_between-store.ensures within
