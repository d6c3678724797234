use Rattle.std.proofs.Common.{◌≡◌, ◌∙◌, ap, [], None, arith}
use Rattle.mem_store.specs.Statements.{read_statement}
use Rattle.mem_driver.specs.Asked.{act_with, asked}
use Rattle.mem_driver.specs.Session.{depth}
use Rattle.mem_driver.proofs.BeginLemmas.{begins-outside}
use Rattle.mem_driver.proofs.session.MemSession.begin_by.Goals as goal

pub returns-clause-begins : goal.returns-clause-begins
returns-clause-begins c =
    let none : depth c.args.self.now ≡ 0 = omega (arith, c.if-depth-gt0.false, c.depth.ensures) in
    begins-outside (depth c.args.self.now) (asked c.args.statement None) c.asked-act.result c.args.self.now c.begin_outside.result c.begin_outside.new.self none
    (c.asked-act.ensures ∙ ap (λ s. act_with s []) (c.statement_of.ensures ∙ ap read_statement c.as_str.ensures))
    c.begin_outside.ensures.begins
