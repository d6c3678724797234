use Rattle.std.proofs.Common.{refl, ap, ◌∙◌}
use Rattle.mem_driver.specs.Session.{Link}
use Rattle.sqlx_steps.proofs.Driving.{moved_gives}
use Rattle.sqlx_steps.proofs.by_driver.ByDriverWork.run.Goals as goal

pub returns : goal.returns
returns c =
    moved_gives c.replace-store.result _ c.run_between-reply.result.1 _ c.of.result.side _ c.run_between-reply.result.2.side _
    c.replace-store.ensures.value (ap (λ (l : Link). l.side) c.of.ensures ∙ c.replace-side.ensures.value) refl c.into_parts-side.ensures.0
    c.args.act c.args.answer c.run_between-reply.result.0 c.run_between-reply.ensures
