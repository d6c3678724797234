use Rattle.tests_database.proofs.executor.ToyConnectionExecutorToy.fetch_many.Goals as goal

pub returns-in-Ok-clause-causes : goal.returns-in-Ok-clause-causes
returns-in-Ok-clause-causes g c = c.hand_out.ensures.causes (g.Q.Execute.arguments c.args.query)
