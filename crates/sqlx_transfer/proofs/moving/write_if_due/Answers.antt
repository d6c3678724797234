use Rattle.std.proofs.Common.{◌≡◌, ◌<◌, ◌^◌, pos, ℤ, ◌+ℤ◌, ◌-ℤ◌, int_lt, false, subst, sym, ap, ◌∙◌, w64, to_z, of_z, arith}
use Rattle.std.proofs.lemmas.Int.{ints, to_z-of_z, to_z_pos}
use Rattle.sqlx_transfer_rules.specs.Rules.{greatest, move_met}
use Rattle.sqlx_transfer.specs.At.{At}
use Rattle.sqlx_transfer.specs.Moving.{both_past}
use Rattle.sqlx_transfer.proofs.MoveLemmas.{fits}
use Rattle.sqlx_transfer.proofs.moving.write_if_due.Goals as goal

pub returns : goal.returns
returns g c = λ past o k n b at.
    let t = c.args.transfer.now in
    let no = c.if-lacks.false in
    let no' = c.if-passes_greatest.false in
    let same_from : to_z w64 (of_z w64 c.args.from) ≡ c.args.from = to_z-of_z w64 c.args.from c.ranges.from in
    let same_to : to_z w64 (of_z w64 c.args.to) ≡ c.args.to = to_z-of_z w64 c.args.to c.ranges.to in
    let small : t.amount < 2 ^ 63 = c.lacks.ensures.small no in
    let amount : to_z w64 t.amount ≡ pos t.amount = to_z_pos w64 t.amount small in
    let enough = c.lacks.ensures.enough no in
    let room = c.passes_greatest.ensures.fits no' in
    let has : int_lt c.args.from (pos t.amount) ≡ false = ap (λ (x : ℤ). int_lt x (pos t.amount)) (sym same_from) ∙ sym c.lacks.ensures.lacks ∙ no in
    let takes : int_lt (pos greatest) (c.args.to +ℤ pos t.amount) ≡ false = (λ i. int_lt (pos greatest) (sym same_to i +ℤ sym amount i)) ∙ sym c.passes_greatest.ensures.passes ∙ no' in
    let less : to_z w64 (of_z w64 (to_z w64 (of_z w64 c.args.from) -ℤ to_z w64 t.amount)) ≡ c.args.from -ℤ pos t.amount = omega (arith, ints, c.ranges.from, enough, small) in
    let more : to_z w64 (of_z w64 (to_z w64 (of_z w64 c.args.to) +ℤ to_z w64 t.amount)) ≡ c.args.to +ℤ pos t.amount = omega (arith, ints, c.ranges.to, room, small) in
    let both = subst (λ (y : ℤ). (c.in_ok-reply.reply ≡ move_met t.met n) × At (both_past t.met n k (pos t.from) (c.args.from -ℤ pos t.amount) (pos t.to) y past) o k n b c.write_both.new.store c.write_both.new.link) more
    (subst (λ (x : ℤ). (c.in_ok-reply.reply ≡ move_met t.met n) × At (both_past t.met n k (pos t.from) x (pos t.to) (to_z w64 (of_z w64 (to_z w64 (of_z w64 c.args.to) +ℤ to_z w64 t.amount))) past) o k n b c.write_both.new.store c.write_both.new.link) less
    (c.in_ok-reply.ensures past o k n b at)) in
    fits t n c.args.from c.args.to k past o b c.in_ok-reply.reply c.write_both.new.store c.write_both.new.link has takes both
