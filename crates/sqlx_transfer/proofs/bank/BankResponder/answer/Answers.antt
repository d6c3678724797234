use Rattle.std.proofs.Common.{◌++◌, ◌∷◌, [], ap, subst, ◌∙◌}
use Rattle.sqlx_transfer_rules.specs.declared.reply.Reply.{Reply}
use Rattle.sqlx_transfer_rules.specs.Texts.{text_of}
use Rattle.sqlx_transfer.specs.Stands.{Stands}
use Rattle.sqlx_transfer.proofs.Worked.{due_inside}
use Rattle.sqlx_transfer.proofs.bank.BankResponder.answer.Goals as goal

pub returns : goal.returns
returns g c = λ first pairs s few.
    let done = c.in_ok-reply.ensures first pairs s few (due_inside c.args.self.now.core.pool c.args.self.now.store c.args.self.now.holders.items c.args.self.now.line c.args.event.now c.requires first pairs s) in (
      c.fill_line.ensures ∙ ap text_of done.0,
      subst (λ (r : Reply). Stands c.reply_to.new.self.core.pool c.reply_to.new.self.store c.reply_to.new.self.holders.items c.reply_to.new.self.line first (pairs ++ (c.args.event.now, r) ∷ [])) done.0 done.1,
    )
