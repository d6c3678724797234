use Rattle.sqlx_script_rules.proofs.InTurn.{stops-in-turn}
use Rattle.sqlx_script_rules.proofs.laws.stops_waiting_in_turn.Goals as goal

pub returns : goal.returns
returns c = stops-in-turn
