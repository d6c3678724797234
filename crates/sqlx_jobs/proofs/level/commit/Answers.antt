use Rattle.std.proofs.Common.{not, subst, sym, Bool}
use Rattle.sqlx_jobs.specs.Level.{Commits}
use Rattle.sqlx_jobs.proofs.Levels.{commits}
use Rattle.sqlx_jobs.proofs.level.commit.Goals as goal

pub returns : goal.returns
returns g c = λ n before rows begun writes within.
    subst (λ (b : Bool). Commits c.args.refused n before rows begun writes (not b) c.run.new.store c.run.new.link) (sym c.is_io.ensures)
    (commits c.args.refused _ _ n before rows begun writes _ _ _ _ c.answer_to.ensures c.in_ok-reply.ensures.reply c.in_ok-reply.ensures.store c.in_ok-reply.ensures.link within)
