use Rattle.std.proofs.Common.{ap, sym, subst, ◌∙◌, ◌++◌, ◌∷◌, []}
use Rattle.sqlx_jobs_rules.specs.declared.reply.Reply.{Reply}
use Rattle.sqlx_jobs_rules.specs.Texts.{text_of}
use Rattle.sqlx_jobs_rules.specs.Jobs.{reply_at, jobs_of}
use Rattle.sqlx_jobs.specs.Stands.{Stands}
use Rattle.sqlx_jobs.proofs.Standing.{due_short, stands_more}
use Rattle.sqlx_jobs.proofs.queue.JobQueueResponder.answer.Goals as goal

pub reply_to-requires : goal.reply_to-requires
reply_to-requires g c = record {
  short = due_short c.args.self.now.core.pool c.args.self.now.store c.args.self.now.lease c.args.self.now.last c.args.event.now c.requires;
  holds = (c.requires.pairs, c.requires.stands.holds);
}

pub returns : goal.returns
returns g c = λ first pairs s few.
    let done = c.in_ok-reply.ensures.answers pairs s.holds few in
    let event = c.args.event.now in
    let is = done.0 ∙ ap (λ lease. reply_at lease event.moment (jobs_of pairs) event.act) s.set_up in
    let stands = stands_more _ _ _ _ c.args.self.now.lease c.args.self.now.last first pairs event c.in_ok-reply.reply s done.1 in (
      c.fill_line.ensures ∙ ap text_of is,
      subst (λ (r : Reply). Stands c.reply_to.new.self.core.pool c.reply_to.new.self.store c.reply_to.new.self.lease event.moment first (pairs ++ (event, r) ∷ [])) is
          (subst (λ lease. Stands c.reply_to.new.self.core.pool c.reply_to.new.self.store lease event.moment first (pairs ++ (event, c.in_ok-reply.reply) ∷ [])) (sym c.reply_to.ensures.lease) stands),
    )
