use Rattle.std.proofs.Common.{◌≡◌, List, subst}
use Rattle.sqlx_transfer.specs.declared.holder.Holder.{Holder}
use Rattle.sqlx_transfer.specs.Stands.{HasPlace}
use Rattle.std.proofs.Common.{map, false}
use Rattle.sqlx_transfer_rules.specs.Transfers.{is_among}
use Rattle.sqlx_transfer.specs.Stands.{client_of}
use Rattle.sqlx_transfer.proofs.AtPlace.{starts_at}
use Rattle.sqlx_transfer.proofs.bank.Bank.start.Goals as goal

pub take_connection-requires : goal.take_connection-requires
take_connection-requires g c = record { none = subst (λ (l : List Holder). is_among c.args.client (map client_of l) ≡ false) c.deref.ensures.value c.in_default.ensures.none }

pub returns : goal.returns
returns g c = λ first pairs s few inside.
    let p = subst (λ (l : List Holder). HasPlace l c.args.client c.in-Some.place) c.deref.ensures.value c.in-Some.ensures.some in
    starts_at c.args.self.now.core.pool c.args.self.now.store c.args.self.now.holders.items c.args.self.now.line first pairs s few c.args.client c.in-Some.place p c.index_mut-holder.result.now c.index_mut-holder.ensures.value
    c.in_ok-reply.reply c.start_next.new.store c.start_next.new.link c.in_ok-reply.ensures
