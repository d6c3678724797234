use Rattle.std.proofs.Common.{◌∙◌, arith, sym}
use Rattle.sqlx_pool_parts.proofs.CloseLemmas.{closes_first, closes_none}
use Rattle.sqlx_pool_parts.proofs.checks.close_all.Goals as goal

pub loop-first-init : goal.loop-first-init
loop-first-init g c = record { closes = λ last all. all; counts = (omega arith, omega arith) }

pub loop-first-preserved : goal.loop-first-preserved
loop-first-preserved g c = record {
  closes = closes_first g.X.Outside.does c.args.check c.in-Some.first c.args.idle.items c.loop-first.idle.items c.pop_front.new.self.items c.args.out.now c.loop-first.out c.close_by.new.out c.loop-first.invariant.closes c.in-Some.ensures.items c.close_by.ensures.closes;
  counts = (omega (arith, c.loop-first.invariant.counts.0, c.close_by.ensures.counts.0), omega (arith, c.loop-first.invariant.counts.1, c.close_by.ensures.counts.1));
}

pub returns-clause-closes : goal.returns-clause-closes
returns-clause-closes g c =
    closes_none g.X.Outside.does c.args.check c.args.idle.items c.loop-first.idle.items c.args.out.now c.loop-first.out c.loop-first.invariant.closes (sym c.loop-first.idle.ok.0 ∙ c.in_default.ensures.cases.0)
