use Rattle.std.proofs.Common.{inl, refl}
use Rattle.sqlx_any.proofs.executor.AnyConnectionExecutorAny.fetch_many.Goals as goal

pub returns-in-Err-clause-steps : goal.returns-in-Err-clause-steps
returns-in-Err-clause-steps g c = inl (rw (← c.in-Err.ensures.taken) (assumption, refl))

pub returns-in-Err-clause-unencoded : goal.returns-in-Err-clause-unencoded
returns-in-Err-clause-unencoded g c = rw (← c.in-Err.ensures.taken) (assumption, refl)

pub returns-in-Err-clause-causes : goal.returns-in-Err-clause-causes
returns-in-Err-clause-causes g c = rw (← c.in-Err.ensures.taken, c.not_encoded.ensures) (inl refl, tt)
