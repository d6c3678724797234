use Rattle.std.proofs.Common.{◌≡◌, true, false, Err, ap}
use Rattle.sqlx_pool.proofs.acquire.Acquire.begin.Goals as goal

never : {A : Type 0} → false ≡ true → A
never e = absurd cc

pub returns-in-Err-begin : goal.returns-in-Err-begin
returns-in-Err-begin g c =
    let e = c.in-Err-begin.ensures in
    (c.in-Ok.holder, c.in-Ok.ensures, (e.held, (e.does, e.levels, e.rises, e.cause), ((λ bad. never (e.only_inside (ap Err bad)).0), (λ bad. never (e.only_custom (ap Err bad)).0))))
