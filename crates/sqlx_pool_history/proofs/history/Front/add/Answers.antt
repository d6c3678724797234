use Rattle.std.proofs.Common.{sym, ◌∙◌, ap}
use Rattle.sqlx_pool_history.specs.Chains.{IfLast}
use Rattle.sqlx_pool_history.proofs.Adding.{adds_moves}
use Rattle.sqlx_pool_history.proofs.history.Front.add.Goals as goal

pub compare_exchange-found-requires : goal.compare_exchange-found-requires
compare_exchange-found-requires g c =
    let h = c.requires.head in
    let offer = c.plain-offer.ensures in
    let pen = c.no_pen-pen.ensures in
    let may : IfLast c.self.inside.seen.log (λ last. g.S.Chained.follows last (g.T.Stands.state c.args.value.now)) = rw c.self.view_is c.requires.may in (
      ap (λ w. w.tracked) h,
      c.self.invariant.1 ∙ sym (ap (λ w. w.book) h),
      pen.0 ∙ (c.self.invariant.1 ∙ sym (ap (λ w. w.book) h)),
      offer.0,
      rw (ap (λ w. w.key) h, pen.1, offer.1, offer.3) (adds_moves g.S.Chained.follows c.self.inside.seen.log (g.T.Stands.state c.args.value.now) c.self.inside.len (sym c.self.invariant.0) may),
    )
