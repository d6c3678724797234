use Rattle.std.proofs.Common.{◌≡◌, ◌<◌, ◌^◌, ℤ, ◌+ℤ◌, sym, ap, ◌∙◌, w64, to_z, of_z, rules, arith}
use Rattle.std.proofs.lemmas.Int.{ints, to_z-of_z}
use mir.Syntax.{w128}
use mir.Val.{SFits}
use Rattle.sqlx_transfer.proofs.Shows.{total_none, total_more}
use Rattle.sqlx_transfer.proofs.bank.Bank.total_upto.Goals as goal

pub loop-account-init : goal.loop-account-init
loop-account-init g c = record {
  sum = λ first pairs s few. sym (total_none first pairs);
  within = omega arith;
  high = omega (arith, ints);
  low = omega (arith, ints);
}

pub loop-account-preserved : goal.loop-account-preserved
loop-account-preserved g c =
    let T : ℤ = to_z w128 c.loop-account.total-bits in
    let fits : SFits w64 c.balance.result = search rules in
    let wide : SFits w128 c.from-total.result = search rules in
    let high = c.loop-account.invariant.high in
    let low = c.loop-account.invariant.low in
    let few = c.loop-account-test.true in
    let small : c.loop-account.account < 2 ^ 32 = omega (arith, few, c.ranges.accounts) in
    let x : to_z w128 (of_z w128 c.from-total.result) ≡ c.balance.result = to_z-of_z w128 c.from-total.result wide ∙ c.from-total.ensures ∙ to_z-of_z w64 c.balance.result fits in
    let sum : to_z w128 (of_z w128 (T +ℤ c.balance.result)) ≡ T +ℤ c.balance.result = omega (arith, ints, high, low, small, fits) in
    let next : to_z w128 (of_z w128 (T +ℤ to_z w128 (of_z w128 c.from-total.result))) ≡ T +ℤ c.balance.result = ap (λ (z : ℤ). to_z w128 (of_z w128 (T +ℤ z))) x ∙ sum in
    record {
      sum = λ first pairs s inside.
          next ∙ (λ i. c.loop-account.invariant.sum first pairs s (omega (arith, inside)) i +ℤ c.balance.ensures first pairs s (omega arith) inside i) ∙ sym (total_more first pairs c.loop-account.account);
      within = omega (arith, few);
      high = omega (arith, ints, next, high, fits);
      low = omega (arith, ints, next, low, fits);
    }
