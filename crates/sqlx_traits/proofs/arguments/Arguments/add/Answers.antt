use Rattle.std.proofs.Common.{◌∙◌, ap}
use Rattle.sqlx_traits.proofs.arguments.Arguments.add.Goals as goal

pub returns-in-Ok-clause-ok : goal.returns-in-Ok-clause-ok
returns-in-Ok-clause-ok g c =
    g.met.Self.Arguments.puts c.args.self.now c.encode.new.buf ∙ (c.in-Ok.ensures.ok ∙ ap (g.T.Encode.encoded c.args.value) c.buffer.ensures.value)

pub returns-in-Ok-clause-one : goal.returns-in-Ok-clause-one
returns-in-Ok-clause-one g c = rw (g.met.Self.Arguments.puts c.args.self.now c.encode.new.buf, ← c.buffer.ensures.value) c.in-Ok.ensures.one

pub returns-in-Err-clause-err : goal.returns-in-Err-clause-err
returns-in-Err-clause-err g c =
    ap (g.Self.Arguments.with_buffer c.args.self.now) (c.in-Err.ensures.err ∙ c.buffer.ensures.value) ∙ g.met.Self.Arguments.keeps c.args.self.now
