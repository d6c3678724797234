use Rattle.std.proofs.Common.{◌≡◌, ◌+◌, List, [], sym, ap, subst}
use Rattle.mem_store.specs.Store.{Store, connected}
use Rattle.sqlx_play.specs.stage.LinksStand.{side_of}
use Rattle.sqlx_transfer.specs.declared.holder.Holder.{Holder}
use Rattle.sqlx_transfer.specs.Stands.{Stands}
use Rattle.sqlx_transfer.proofs.OpeningLemmas.{wrote_none, fresh}
use Rattle.sqlx_transfer.proofs.bank.Bank.new.Goals as goal

pub returns : goal.returns
returns g c =
    let store = subst (λ (s : Store). c.connect.new.store ≡ connected (s.given + 1) s) c.new-store.ensures c.in_ok-link.ensures.ok in
    let none = wrote_none c.args.line.opening c.connect.new.store c.in_ok-link.link (ap (λ (s : Store). s.rows) store) (ap (λ (s : Store). s.open_links) store) (ap side_of c.in_ok-link.ensures.link) in
    let wrote = c.in_ok-write_openings.ensures none in
    subst (λ (hs : List Holder). Stands c.fill_pool.new.core.pool c.fill_pool.new.store hs c.args.line c.args.line []) (sym c.new.ensures.items)
    (fresh c.fill_pool.new.core.pool c.write_openings.new.store c.fill_pool.new.store c.write_openings.new.link c.args.line wrote c.in_ok-fill_pool.ensures.alike c.in_ok-fill_pool.ensures.filled)
