use Rattle.std.proofs.Common.{◌+◌, codes, refl, sym, ap, ◌∙◌, arith}
use Rattle.sqlx_lines.specs.Words.{lines_of, line_of}
use Rattle.sqlx_script_made.specs.Summary.{beginning, last_of}
use Rattle.sqlx_script_made.proofs.SummaryLemmas.{counted_more, at_most_one}
use Rattle.sqlx_script_made.proofs.summary.read_lines.Goals as goal

pub loop-rest-preserved : goal.loop-rest-preserved
loop-rest-preserved c =
    let at = sym c.cut_line.ensures.line in
    let was = c.loop-rest.invariant in
    let line = c.cut_line.result.0.now in
    let rest = lines_of c.cut_line.result.1.now in
    record {
      ready = rw c.add.ensures.ready (counted_more c.loop-rest.told.ready _ _ (codes "ready ") line rest refl (ap (λ ls. c.loop-rest.told.ready + beginning (codes "ready ") ls) at ∙ was.ready));
      kept = rw c.add.ensures.kept (counted_more c.loop-rest.told.kept _ _ (line_of (codes "kept")) line rest refl (ap (λ ls. c.loop-rest.told.kept + beginning (line_of (codes "kept")) ls) at ∙ was.kept));
      closed = rw c.add.ensures.closed (counted_more c.loop-rest.told.closed _ _ (codes "closed ") line rest refl (ap (λ ls. c.loop-rest.told.closed + beginning (codes "closed ") ls) at ∙ was.closed));
      few_ready = omega (arith, c.cut_line.ensures.shorter, c.add.ensures.ready, at_most_one (codes "ready ") line, was.few_ready);
      few_kept = omega (arith, c.cut_line.ensures.shorter, c.add.ensures.kept, at_most_one (line_of (codes "kept")) line, was.few_kept);
      few_closed = omega (arith, c.cut_line.ensures.shorter, c.add.ensures.closed, at_most_one (codes "closed ") line, was.few_closed);
      last = rw c.add.ensures.last (ap (last_of c.loop-rest.told.last.now) at ∙ was.last);
    }
