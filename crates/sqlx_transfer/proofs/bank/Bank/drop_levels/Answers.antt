use Rattle.std.proofs.Common.{◌≡◌, List, sym, subst}
use Rattle.sqlx_transfer.specs.declared.holder.Holder.{Holder}
use Rattle.sqlx_transfer.specs.Stands.{HasPlace}
use Rattle.std.proofs.Common.{◌++◌, ◌∷◌, []}
use Rattle.mem_store.specs.Store.{Store}
use Rattle.sqlx_transfer_rules.specs.declared.bank_line.BankLine.{BankLine}
use Rattle.sqlx_transfer_rules.specs.declared.event.Event.TheVariants.{Drop}
use Rattle.sqlx_transfer_rules.specs.declared.reply.Reply.TheVariants.{Dropped}
use Rattle.sqlx_transfer_rules.specs.Rules.{answer}
use Rattle.sqlx_transfer.specs.Stands.{Stands}
use Rattle.std.proofs.Common.{map, false}
use Rattle.sqlx_transfer_rules.specs.Transfers.{is_among}
use Rattle.sqlx_transfer.specs.Stands.{client_of}
use Rattle.sqlx_transfer.proofs.Bankings.{drop-none}
use Rattle.sqlx_transfer.proofs.AtPlace.{drops_at}
use Rattle.sqlx_transfer.proofs.bank.Bank.drop_levels.Goals as goal

pub returns-in_default : goal.returns-in_default
returns-in_default g c = λ first pairs s few inside.
    drop-none c.args.self.now.core.pool c.args.self.now.store c.args.self.now.line first pairs c.args.self.now.holders.items c.args.client s (subst (λ (l : List Holder). is_among c.args.client (map client_of l) ≡ false) c.deref.ensures.value c.in_default.ensures.none)

pub returns : goal.returns
returns g c = λ first pairs s few inside.
    let p = subst (λ (l : List Holder). HasPlace l c.args.client c.in-Some.place) c.deref.ensures.value c.in-Some.ensures.some in
    let done = drops_at c.args.self.now.core.pool c.args.self.now.store c.args.self.now.holders.items c.args.self.now.line first pairs s few c.args.client c.in-Some.place p c.index_mut-holder.result.now c.index_mut-holder.ensures.value
    c.give_all_up.new.store c.give_all_up.new.link c.in_ok-give_all_up.ensures c.give_back.new.self.core.pool c.give_back.new.self.holders.items c.give_back.ensures.given in
    subst (λ (st : Store). (Dropped ≡ answer first pairs (Drop c.args.client)) × Stands c.give_back.new.self.core.pool st c.give_back.new.self.holders.items c.give_back.new.self.line first (pairs ++ (Drop c.args.client, Dropped) ∷ [])) (sym c.give_back.ensures.store)
    (subst (λ (ln : BankLine). (Dropped ≡ answer first pairs (Drop c.args.client)) × Stands c.give_back.new.self.core.pool c.give_all_up.new.store c.give_back.new.self.holders.items ln first (pairs ++ (Drop c.args.client, Dropped) ∷ [])) (sym c.give_back.ensures.line) done)
