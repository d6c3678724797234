use Rattle.std.proofs.Common.{◌≡◌, ◌==◌, false, get_or, All, subst, arith, ne_eqb}
use Rattle.std.proofs.lemmas.List.{take_all}
use Rattle.std.proofs.lemmas.List.Elements.{All-more}
use Rattle.sqlx_transfer.specs.declared.holder.Holder.{Holder}
use Rattle.sqlx_transfer.proofs.Connections.{has_place, not_among}
use Rattle.sqlx_transfer.proofs.holder.place_of.Goals as goal

pub returns-then-holders-place-clause-some : goal.returns-then-holders-place-clause-some
returns-then-holders-place-clause-some c = has_place c.args.holders.now c.args.client c.loop-place.place c.index-holders-place.result c.loop-place-test.true c.if-holders-place.true

pub loop-place-preserved : goal.loop-place-preserved
loop-place-preserved c = (
  omega (arith, c.loop-place-test.true),
  All-more (λ (h : Holder). (h.client == c.args.client) ≡ false) c.args.holders.now c.loop-place.place c.index-holders-place.result c.loop-place-test.true c.loop-place.invariant.1
      (ne_eqb (get_or c.args.holders.now c.loop-place.place c.index-holders-place.result).client c.args.client c.if-holders-place.false),
)

pub returns-clause-none : goal.returns-clause-none
returns-clause-none c = not_among c.args.client c.args.holders.now
    (subst (All (λ (h : Holder). (h.client == c.args.client) ≡ false)) (take_all c.loop-place.place c.args.holders.now c.loop-place-test.false) c.loop-place.invariant.1)
