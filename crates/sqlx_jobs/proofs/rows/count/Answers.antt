use Rattle.std.proofs.Common.{◌&&◌, not, cond, sym, ap, ◌∙◌, arith}
use Rattle.sqlx_jobs_rules.specs.Jobs.{is_ready, is_held}
use Rattle.sqlx_jobs.proofs.Numbers.{count-none, count-push}
use Rattle.sqlx_jobs.proofs.rows.count.Goals as goal

pub loop-before-init : goal.loop-before-init
loop-before-init g c = record {
  told = λ jobs t. record { of_ready = sym (count-none (is_ready c.args.now jobs)); of_held = sym (count-none (is_held c.args.now jobs)); of_done = sym (count-none jobs.done) };
  ready = omega arith;
  held = omega arith;
  done = omega arith;
}

pub loop-before-preserved : goal.loop-before-preserved
loop-before-preserved g c = record {
  told = λ jobs t.
      let so_far = c.loop-before.invariant.told jobs t in
      let ready = c.one_if-ready.ensures.is ∙ ap (λ b. cond b 1 0) (c.is_neither.ensures ∙ (λ i. not (c.is_done-is_done.ensures jobs t i) && not (c.is_held-is_held.ensures jobs t i))) in
      let held = c.one_if-held.ensures.is ∙ ap (λ b. cond b 1 0) (c.is_held-is_held.ensures jobs t) in
      let done = c.one_if-done.ensures.is ∙ ap (λ b. cond b 1 0) (c.is_done-is_done.ensures jobs t) in
      record {
        of_ready = omega (arith, so_far.of_ready, ready, count-push (is_ready c.args.now jobs) c.loop-before.before);
        of_held = omega (arith, so_far.of_held, held, count-push (is_held c.args.now jobs) c.loop-before.before);
        of_done = omega (arith, so_far.of_done, done, count-push jobs.done c.loop-before.before);
      };
  ready = omega (arith, c.loop-before.invariant.ready, c.one_if-ready.ensures.few);
  held = omega (arith, c.loop-before.invariant.held, c.one_if-held.ensures.few);
  done = omega (arith, c.loop-before.invariant.done, c.one_if-done.ensures.few);
}
