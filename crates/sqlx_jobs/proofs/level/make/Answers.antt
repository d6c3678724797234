use Rattle.std.proofs.Common.{◌+◌, ◌<◌, ◌^◌, arith, subst, Bool}
use Rattle.sqlx_jobs.specs.Level.{Puts, Commits, put_in, changed}
use Rattle.sqlx_jobs.proofs.Levels.{makes, makes_none}
use Rattle.sqlx_jobs.proofs.level.make.Goals as goal

pub returns-in_ok-committed : goal.returns-in_ok-committed
returns-in_ok-committed g c = λ n rows begun writes within few.
    let small : writes < 2 ^ 32 = omega (arith, few) in
    let more : writes + 1 < 2 ^ 32 = omega (arith, few) in
    let put = subst (λ (b : Bool). Puts b c.args.change.now.first n rows rows begun writes c.in_ok-accepted.accepted c.put.new.store c.put.new.link) c.refuses_write.ensures (c.in_ok-accepted.ensures n rows rows begun writes within small) in
    makes c.args.met c.args.change.now n rows begun writes _ _ _ _ _ _ _ _ c.if-accepted.true put
    (λ h. c.in_ok-put_second.ensures n rows (put_in c.args.change.now.first rows) begun (writes + 1) h more)
    (λ h. subst (λ (b : Bool). Commits b n rows (changed c.args.change.now rows) begun (writes + 1) c.in_ok-committed.committed c.commit.new.store c.commit.new.link) c.refuses_commit.ensures (c.in_ok-committed.ensures n rows (changed c.args.change.now rows) begun (writes + 1) h))

pub returns-in_ok-rollback : goal.returns-in_ok-rollback
returns-in_ok-rollback g c = λ n rows begun writes within few.
    let small : writes < 2 ^ 32 = omega (arith, few) in
    let put = subst (λ (b : Bool). Puts b c.args.change.now.first n rows rows begun writes c.in_ok-accepted.accepted c.put.new.store c.put.new.link) c.refuses_write.ensures (c.in_ok-accepted.ensures n rows rows begun writes within small) in
    makes_none c.args.met c.args.change.now n rows begun writes _ _ _ _ _ c.if-accepted.false put (λ h. c.in_ok-rollback.ensures n rows rows begun writes h)
