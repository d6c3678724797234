use Rattle.std.proofs.Common.{◌≡◌, List, sym, subst, arith}
use Rattle.sqlx_transfer.specs.declared.holder.Holder.{Holder}
use Rattle.sqlx_transfer.specs.Stands.{HasPlace}
use Rattle.std.proofs.Common.{◌++◌, ◌∷◌, []}
use Rattle.mem_store.specs.Store.{Store}
use Rattle.sqlx_transfer_rules.specs.declared.bank_line.BankLine.{BankLine}
use Rattle.sqlx_transfer_rules.specs.declared.reply.Reply.TheVariants.{Level}
use Rattle.sqlx_transfer_rules.specs.Rules.{answer}
use Rattle.sqlx_transfer.specs.BankSteps.{ending}
use Rattle.sqlx_transfer.specs.Stands.{Stands}
use Rattle.std.proofs.Common.{map, false}
use Rattle.sqlx_transfer_rules.specs.Transfers.{is_among}
use Rattle.sqlx_transfer.specs.Stands.{client_of}
use Rattle.sqlx_transfer.proofs.Bankings.{end-none}
use Rattle.sqlx_transfer.proofs.AtPlace.{ends_stay_at, ends_leave_at}
use Rattle.sqlx_transfer.proofs.bank.Bank.end_level.Goals as goal

pub returns-in_default : goal.returns-in_default
returns-in_default g c = λ first pairs s few inside.
    end-none c.args.self.now.core.pool c.args.self.now.store c.args.self.now.line first pairs c.args.self.now.holders.items c.args.client s (subst (λ (l : List Holder). is_among c.args.client (map client_of l) ≡ false) c.deref.ensures.value c.in_default.ensures.none) c.args.commits

pub returns-then-levels-eq0 : goal.returns-then-levels-eq0
returns-then-levels-eq0 g c = λ first pairs s few inside.
    let p = subst (λ (l : List Holder). HasPlace l c.args.client c.in-Some.place) c.deref.ensures.value c.in-Some.ensures.some in
    let done = ends_leave_at c.args.self.now.core.pool c.args.self.now.store c.args.self.now.holders.items c.args.self.now.line first pairs s few c.args.client c.in-Some.place p c.index_mut-holder.result.now c.index_mut-holder.ensures.value
    c.args.commits c.end_for.new.store c.end_for.new.link c.in_ok-end_for.ensures c.depth-levels.result c.depth-levels.ensures c.if-levels-eq0.true c.give_back.new.self.core.pool c.give_back.new.self.holders.items c.give_back.ensures.given in
    subst (λ (st : Store). (Level c.depth-levels.result ≡ answer first pairs (ending c.args.client c.args.commits)) × Stands c.give_back.new.self.core.pool st c.give_back.new.self.holders.items c.give_back.new.self.line first (pairs ++ (ending c.args.client c.args.commits, Level c.depth-levels.result) ∷ [])) (sym c.give_back.ensures.store)
    (subst (λ (ln : BankLine). (Level c.depth-levels.result ≡ answer first pairs (ending c.args.client c.args.commits)) × Stands c.give_back.new.self.core.pool c.end_for.new.store c.give_back.new.self.holders.items ln first (pairs ++ (ending c.args.client c.args.commits, Level c.depth-levels.result) ∷ [])) (sym c.give_back.ensures.line) done)

pub returns-else-levels-eq0 : goal.returns-else-levels-eq0
returns-else-levels-eq0 g c = λ first pairs s few inside.
    let p = subst (λ (l : List Holder). HasPlace l c.args.client c.in-Some.place) c.deref.ensures.value c.in-Some.ensures.some in
    let some = c.if-levels-eq0.false in
    ends_stay_at c.args.self.now.core.pool c.args.self.now.store c.args.self.now.holders.items c.args.self.now.line first pairs s few c.args.client c.in-Some.place p c.index_mut-holder.result.now c.index_mut-holder.ensures.value
    c.args.commits c.end_for.new.store c.end_for.new.link c.in_ok-end_for.ensures c.depth-levels.result c.depth-levels.ensures (omega (arith, some))
