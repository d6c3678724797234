use Rattle.std.proofs.Common.{◌≡◌, ◌++◌, ◌∷◌, [], List, map, sym, subst, arith}
use Rattle.sqlx_transfer_rules.specs.declared.event.Event.TheVariants.{Start}
use Rattle.sqlx_transfer_rules.specs.declared.reply.Reply.TheVariants.{Level}
use Rattle.sqlx_transfer_rules.specs.Rules.{answer}
use Rattle.sqlx_transfer.specs.declared.holder.Holder.{Holder}
use Rattle.sqlx_transfer.specs.Stands.{held_of, Stands}
use Rattle.sqlx_transfer.proofs.Bankings.{full}
use Rattle.sqlx_transfer.proofs.Taking.{takes}
use Rattle.sqlx_transfer.proofs.bank.Bank.take_connection.Goals as goal

pub returns-in_default : goal.returns-in_default
returns-in_default g c = λ first pairs s few inside.
    let none = c.in_default.ensures first.max (map held_of c.args.self.now.holders.items) s.pool.idle s.pool.pool in
    full c.args.self.now.core.pool c.args.self.now.store c.args.self.now.line first pairs c.args.self.now.holders.items c.args.client s c.requires.none none.0 c.lend.new.pool.pool none.1

pub returns : goal.returns
returns g c = λ first pairs s few inside.
    let l = c.in-Some.ensures first.max (map held_of c.args.self.now.holders.items) s.pool.idle s.pool.pool in
    subst (λ (hs : List Holder). (Level 1 ≡ answer first pairs (Start c.args.client)) × Stands c.lend.new.pool.pool c.begin.new.store hs c.args.self.now.line first (pairs ++ (Start c.args.client, Level 1) ∷ [])) (sym c.in_ok-push.ensures.items)
    (takes c.args.self.now.core.pool c.lend.new.pool.pool c.args.self.now.store c.begin.new.store c.args.self.now.holders.items c.args.self.now.line first pairs c.args.client c.in-Some.lent c.begin.new.link s few c.requires.none (omega (arith, c.ranges.client)) l c.in_ok-begin.ensures)
