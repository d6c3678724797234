use Rattle.sqlx_steps.proofs.Keeping.{apply_keeps, told_due}
use Rattle.sqlx_steps.proofs.database.Database.apply.Goals as goal

pub lend-id-requires : goal.lend-id-requires
lend-id-requires c = (c.requires.keeps.link, c.requires.keeps.rests)

pub take_back-requires : goal.take_back-requires
take_back-requires c = (c.lend-id.ensures c.requires.keeps.link c.requires.keeps.rests).1

pub returns-clause-keeps : goal.returns-clause-keeps
returns-clause-keeps c =
    (apply_keeps c.args.steps.now c.args.self.now (record { store = c.apply_steps-store.result.0; pool = c.take_back.new.pool; version = c.version-self.result }) c.args.upto c.args.refuse
    c.apply_steps-store.result.2 c.replace-store.result c.lend-id.result.raw c.apply_steps-store.result.1 c.requires.keeps c.requires.upto c.replace-store.ensures.value
    (c.lend-id.ensures c.requires.keeps.link c.requires.keeps.rests).0 c.apply_steps-store.ensures c.take_back.ensures c.version-self.ensures).0

pub returns-clause-reply : goal.returns-clause-reply
returns-clause-reply c =
    told_due c.args.steps.now c.args.self.now.version c.args.upto c.args.refuse c.apply_steps-store.result.2 c.reply.result
    (apply_keeps c.args.steps.now c.args.self.now (record { store = c.apply_steps-store.result.0; pool = c.take_back.new.pool; version = c.version-self.result }) c.args.upto c.args.refuse
    c.apply_steps-store.result.2 c.replace-store.result c.lend-id.result.raw c.apply_steps-store.result.1 c.requires.keeps c.requires.upto c.replace-store.ensures.value
    (c.lend-id.ensures c.requires.keeps.link c.requires.keeps.rests).0 c.apply_steps-store.ensures c.take_back.ensures c.version-self.ensures).1
    c.reply.ensures
