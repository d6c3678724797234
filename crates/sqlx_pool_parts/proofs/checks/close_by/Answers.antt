use Rattle.sqlx_pool_parts.proofs.checks.close_by.Goals as goal

pub returns-in-CloseHard-clause-counts : goal.returns-in-CloseHard-clause-counts
returns-in-CloseHard-clause-counts g c = let f = g.met.X.Outside.facts _ _ _ c.close_hard.ensures in (f.more_faults, f.more_refusals)

pub returns-in-Pass-clause-counts : goal.returns-in-Pass-clause-counts
returns-in-Pass-clause-counts g c = let f = g.met.X.Outside.facts _ _ _ c.close.ensures in (f.more_faults, f.more_refusals)

pub returns-in-Close-clause-counts : goal.returns-in-Close-clause-counts
returns-in-Close-clause-counts g c = let f = g.met.X.Outside.facts _ _ _ c.close-in-Close.ensures in (f.more_faults, f.more_refusals)
