use Rattle.std.proofs.Common.{◌≡◌, List, subst}
use Rattle.sqlx_transfer.specs.declared.holder.Holder.{Holder}
use Rattle.sqlx_transfer.specs.Stands.{HasPlace}
use Rattle.std.proofs.Common.{map, false}
use Rattle.sqlx_transfer_rules.specs.Transfers.{is_among}
use Rattle.sqlx_transfer.specs.Stands.{client_of}
use Rattle.sqlx_transfer.proofs.Bankings.{move-none}
use Rattle.sqlx_transfer.proofs.AtPlace.{moves_at}
use Rattle.sqlx_transfer.proofs.bank.Bank.move_amount.Goals as goal

pub returns-in_default : goal.returns-in_default
returns-in_default g c = λ first pairs s few inside.
    let t = c.args.transfer.now in
    move-none c.args.self.now.core.pool c.args.self.now.store c.args.self.now.line first pairs c.args.self.now.holders.items c.args.client s (subst (λ (l : List Holder). is_among c.args.client (map client_of l) ≡ false) c.deref.ensures.value c.in_default.ensures.none) t.from t.to t.amount t.met

pub returns : goal.returns
returns g c = λ first pairs s few inside.
    let p = subst (λ (l : List Holder). HasPlace l c.args.client c.in-Some.place) c.deref.ensures.value c.in-Some.ensures.some in
    moves_at c.args.self.now.core.pool c.args.self.now.store c.args.self.now.holders.items c.args.self.now.line first pairs s few c.args.client c.in-Some.place p c.index_mut-holder.result.now c.index_mut-holder.ensures.value
    c.args.transfer.now inside c.in_ok-reply.reply c.move_for.new.store c.move_for.new.link c.in_ok-reply.ensures
