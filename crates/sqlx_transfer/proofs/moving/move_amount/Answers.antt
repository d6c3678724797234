use Rattle.std.proofs.Common.{◌≡◌, ◌∷◌, ◌+◌, pos, ℤ, subst, sym, ◌∙◌, w64, rules, to_z, of_z}
use Rattle.std.proofs.lemmas.Int.{to_z-of_z}
use mir.Val.{SFits}
use Rattle.sqlx_savepoints.specs.Changes.{opens}
use Rattle.sqlx_savepoints.specs.Standing.{standing}
use Rattle.sqlx_transfer_rules.specs.declared.reply.Reply.{Reply}
use Rattle.sqlx_transfer.specs.At.{At}
use Rattle.sqlx_transfer.specs.Moving.{choice_past, moved_reply, moved_things, end_of}
use Rattle.sqlx_transfer.proofs.MoveLemmas.{value_within, ends}
use Rattle.sqlx_transfer.proofs.moving.move_amount.Goals as goal

pub returns : goal.returns
returns g c = λ past o k n b from to at low few sees_from sees_to.
    let t = c.args.transfer.now in
    let begun = c.in_ok-begin.ensures past o k n b at low few in
    let one = c.in_ok-from.ensures (opens k ∷ past) o k n (b + 1) from begun (value_within past k (pos t.from) from sees_from) in
    let two = c.in_ok-to.ensures (opens k ∷ past) o k n (b + 1) to one.1 (value_within past k (pos t.to) to sees_to) in
    let fits_from : SFits w64 c.in_ok-from.from = search rules in
    let fits_to : SFits w64 c.in_ok-to.to = search rules in
    let same_from = to_z-of_z w64 c.in_ok-from.from fits_from ∙ one.0 in
    let same_to = to_z-of_z w64 c.in_ok-to.to fits_to ∙ two.0 in
    let due = subst (λ (x : ℤ). (c.in_ok-reply.reply ≡ moved_reply t n x to) × At (choice_past t n x to k (opens k ∷ past)) o k n (b + 1) c.write_if_due.new.store c.write_if_due.new.link) same_from
    (subst (λ (y : ℤ). (c.in_ok-reply.reply ≡ moved_reply t n (to_z w64 (of_z w64 c.in_ok-from.from)) y) × At (choice_past t n (to_z w64 (of_z w64 c.in_ok-from.from)) y k (opens k ∷ past)) o k n (b + 1) c.write_if_due.new.store c.write_if_due.new.link) same_to
    (c.in_ok-reply.ensures (opens k ∷ past) o k n (b + 1) two.1)) in
    let end = ends t n from to k past in
    record {
      told = due.0;
      after = end_of c.in_ok-reply.reply k ∷ choice_past t n from to k (opens k ∷ past);
      at = c.in_ok-finish.ensures (choice_past t n from to k (opens k ∷ past)) o k n (b + 1) due.1 end.0;
      stands = subst (λ (r : Reply). standing (end_of r k ∷ choice_past t n from to k (opens k ∷ past)) ≡ moved_things r t from to k (standing past)) (sym due.0) end.1;
    }
