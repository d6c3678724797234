use Rattle.std.proofs.Common.{pos, ap, subst, ◌∙◌, w64, rules}
use Rattle.std.proofs.lemmas.Int.{to_z-of_z}
use mir.Val.{SFits}
use Rattle.mem_store.specs.declared.answer.Answer.TheVariants as answer
use Rattle.mem_store.specs.Store.{at_work}
use Rattle.sqlx_play_acts.specs.declared.act.Act.{Act}
use Rattle.sqlx_transfer.specs.At.{value_of}
use Rattle.sqlx_transfer.proofs.Acts.{Did, reads}
use Rattle.sqlx_transfer.proofs.level.read.Goals as goal

pub returns : goal.returns
returns g c = λ past o k n b v at sees.
    let did = subst (λ (a : Act). Did a (at_work c.args.store.now c.args.link.now answer.Accept) c.in_ok-reply.reply c.run.new.store c.run.new.link) c.get_of.ensures (c.in_ok-reply.ensures.reply, c.in_ok-reply.ensures.store, c.in_ok-reply.ensures.link) in
    let done = reads past o k n b _ _ (pos c.args.account) v _ _ _ at sees did.0 did.1 did.2 in
    let fits : SFits w64 c.value_of.result = search rules in
    (to_z-of_z w64 c.value_of.result fits ∙ c.value_of.ensures ∙ ap value_of done.0, done.1)
