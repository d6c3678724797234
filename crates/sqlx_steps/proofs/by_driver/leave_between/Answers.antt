use Rattle.sqlx_steps.proofs.Driving.{left_between}
use Rattle.sqlx_steps.proofs.by_driver.leave_between.Goals as goal

pub returns : goal.returns
returns c = (
  c.leave.new.conn.backend.work.answer,
  left_between _ c.at_work-conn.result.backend.work c.leave.new.conn.backend.work _ _ c.at_work-conn.ensures c.leave.ensures c.taken_apart.ensures.0 c.taken_apart.ensures.1,
)
