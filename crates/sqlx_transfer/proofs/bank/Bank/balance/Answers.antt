use Rattle.std.proofs.Common.{ℤ, Option, pos, ap, ◌∙◌, w64, rules}
use Rattle.std.proofs.lemmas.Int.{to_z-of_z}
use Rattle.std.specs.FinMap.{get}
use Rattle.std.specs.Prelude.{unwrap_or}
use mir.Val.{SFits}
use Rattle.sqlx_transfer.proofs.Shows.{shown}
use Rattle.sqlx_transfer.proofs.bank.Bank.balance.Goals as goal

pub returns : goal.returns
returns g c = λ first pairs s some few.
    let row = shown c.args.self.now.core.pool c.args.self.now.store c.args.self.now.holders.items c.args.self.now.line first pairs s c.args.account some few in
    let fits : SFits w64 c.unwrap_or.result = search rules in
    let small : SFits w64 c.from.result = search rules in
    to_z-of_z w64 c.unwrap_or.result fits ∙ c.unwrap_or.ensures ∙ ap (λ (o : Option ℤ). unwrap_or o (pos 0)) (c.get.ensures ∙ ap (get c.args.self.now.store.rows) (to_z-of_z w64 c.from.result small ∙ c.from.ensures) ∙ row)
