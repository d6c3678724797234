use Rattle.sqlx_traits.proofs.execute.Tuple2OptionArgumentsExecute.take_arguments.Goals as goal

pub returns-clause-taken : goal.returns-clause-taken
returns-clause-taken g c = cc
