use Rattle.std.proofs.Common.{refl, ap}
use Rattle.mem_driver.specs.Session.{Link}
use Rattle.sqlx_steps.proofs.Keeping.{new_keeps}
use Rattle.sqlx_steps.proofs.database.Database.new.Goals as goal

pub returns : goal.returns
returns c = λ steps. new_keeps steps _ c.new-store.result c.in_ok-link.link refl c.opened.ensures c.new-store.ensures c.in_ok-link.ensures.ok (ap (λ (l : Link). l.side) c.in_ok-link.ensures.link)
