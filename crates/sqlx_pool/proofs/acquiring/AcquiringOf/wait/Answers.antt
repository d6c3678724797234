use Rattle.sqlx_pool.proofs.RefusalLemmas.{refusal_sooner}
use Rattle.sqlx_pool.proofs.TallyLemmas.{kept_since, lent_since, rose_twice}
use Rattle.sqlx_pool.proofs.acquiring.AcquiringOf.wait.Goals as goal

pub returns-in-Ready-clause-lent : goal.returns-in-Ready-clause-lent
returns-in-Ready-clause-lent g c = lent_since _ _ _ c.loop-round.invariant.0 c.in-Ready.ensures.tally

pub returns-in-Ready-clause-counts : goal.returns-in-Ready-clause-counts
returns-in-Ready-clause-counts g c = rose_twice _ _ _ _ _ _ (c.loop-round.invariant.1, c.loop-round.invariant.2) c.in-Ready.ensures.counts

pub returns-in-Failed-clause-refused : goal.returns-in-Failed-clause-refused
returns-in-Failed-clause-refused g c = kept_since _ _ _ c.loop-round.invariant.0 c.in-Failed.ensures.tally

pub returns-in-Failed-clause-causes : goal.returns-in-Failed-clause-causes
returns-in-Failed-clause-causes g c = refusal_sooner _ _ _ c.in-Failed.error c.loop-round.invariant.1 c.in-Failed.ensures.causes

pub returns-in-Failed-clause-counts : goal.returns-in-Failed-clause-counts
returns-in-Failed-clause-counts g c = rose_twice _ _ _ _ _ _ (c.loop-round.invariant.1, c.loop-round.invariant.2) c.in-Failed.ensures.counts
