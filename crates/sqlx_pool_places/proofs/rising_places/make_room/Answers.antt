use Rattle.std.proofs.Common.{rules, tests, ◌∙◌, ap, sym, subst}
use Rattle.std.proofs.lemmas.Fn.{filter_same}
use Rattle.sqlx_pool_places.specs.Rising.{things_at, IsRising}
use Rattle.sqlx_pool_places.proofs.Rising.{is_taken, rising-closed, things-closed}
use Rattle.sqlx_pool_places.proofs.rising_places.make_room.Goals as goal

pub returns-then-used-saturating_sub-clause-rising : goal.returns-then-used-saturating_sub-clause-rising
returns-then-used-saturating_sub-clause-rising g c =
    let closed = filter_same _ is_taken _ (λ x b q k. search (rules, tests)) _ _ c.retain.ensures.filtered in
    subst (IsRising g.N.Numbering.number) (sym closed) (rising-closed g.N.Numbering.number c.args.places.now.items c.requires)

pub returns-then-used-saturating_sub-clause-things : goal.returns-then-used-saturating_sub-clause-things
returns-then-used-saturating_sub-clause-things g c =
    let closed = filter_same _ is_taken _ (λ x b q k. search (rules, tests)) _ _ c.retain.ensures.filtered in
    ap things_at closed ∙ things-closed g.N.Numbering.number c.args.places.now.items
