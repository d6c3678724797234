use Rattle.std.proofs.Common.{ℤ, pos, subst, sym, w64}
use Rattle.std.proofs.lemmas.Int.{to_z-of_z}
use Rattle.mem_store.specs.Store.{at_work}
use Rattle.sqlx_play_acts.specs.declared.act.Act.{Act}
use Rattle.sqlx_play_acts.specs.declared.act.Act.TheVariants.{Put}
use Rattle.sqlx_transfer.specs.declared.level.Written.{Written}
use Rattle.sqlx_transfer.specs.At.{Puts}
use Rattle.sqlx_transfer.proofs.Acts.{Did, puts}
use Rattle.sqlx_transfer.proofs.level.put.Goals as goal

pub returns : goal.returns
returns g c = λ past o k n b at.
    let did = subst (λ (a : Act). Did a (at_work c.args.store.now c.args.link.now c.answer_to.result) c.in_ok-reply.reply c.run.new.store c.run.new.link) c.put_of.ensures (c.in_ok-reply.ensures.reply, c.in_ok-reply.ensures.store, c.in_ok-reply.ensures.link) in
    let did' = subst (λ (v : ℤ). Did (Put (pos c.args.account) v) (at_work c.args.store.now c.args.link.now c.answer_to.result) c.in_ok-reply.reply c.run.new.store c.run.new.link) (to_z-of_z w64 c.args.value c.ranges.value) did in
    subst (λ (w : Written). Puts c.args.refused (pos c.args.account) c.args.value past o k n b w c.run.new.store c.run.new.link) (sym c.told_of.ensures)
    (puts c.args.refused past o k n b _ _ (pos c.args.account) c.args.value _ _ _ _ c.answer_to.ensures at did'.0 did'.1 did'.2)
