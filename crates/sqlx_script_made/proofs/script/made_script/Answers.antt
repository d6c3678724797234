use Rattle.std.proofs.Common.{append-nil, string_bytes, ◌+◌, ◌-◌, ◌/◌, ◌++◌, ap, refl, ◌∙◌, arith}
use Rattle.sqlx_script_made.specs.Blocks.{block_at}
use Rattle.sqlx_script_made.specs.Made.{lines_from, first_line}
use Rattle.sqlx_script_made.proofs.ScriptLemmas.{text_more, text_all, block_stays, block_more, small_block}
use Rattle.sqlx_script_made.proofs.script.made_script.Goals as goal
use Rattle.sqlx_script_made.proofs.script.made_script.Goals.{then-place-eq6, else-place-eq6}

pub loop-line-init : goal.loop-line-init
unfolding block_at
loop-line-init c = record {
  text =
      ap (λ bs. (string_bytes c.in_ok-text.text ++ bs) ++ lines_from c.args.seed 2 (c.args.lines + 1 - 2)) c.new-page.ensures
      ∙ ap (λ t. t ++ lines_from c.args.seed 2 (c.args.lines + 1 - 2)) (append-nil (string_bytes c.in_ok-text.text) ∙ c.in_ok-text.ensures.ok)
      ∙ ap (λ k. first_line ++ lines_from c.args.seed 2 k) (omega arith);
  block = c.first-block.ensures;
}

pub next-block-requires-clause-ticket : goal.next-block-requires-clause-ticket
next-block-requires-clause-ticket c =
    omega (arith, (small_block c.args.seed ((c.loop-line.line - 2) / 7) c.loop-line.block (omega (arith, c.loop-line-test.true, c.requires.few)) c.loop-line.invariant.block).ticket)

pub next-block-requires-clause-connection : goal.next-block-requires-clause-connection
next-block-requires-clause-connection c =
    omega (arith, (small_block c.args.seed ((c.loop-line.line - 2) / 7) c.loop-line.block (omega (arith, c.loop-line-test.true, c.requires.few)) c.loop-line.invariant.block).connection)

pub loop-line-preserved : goal.loop-line-preserved
loop-line-preserved c = record {
  text =
      text_more c.args.seed c.loop-line.line c.args.lines _ _ _ _ c.loop-line.block (omega (arith, c.loop-line-test.true)) c.loop-line.invariant.block c.loop-line.invariant.text refl
      c.in_ok-push_line.ensures;
  block = elim c.if-place-eq6.branch [
    | then-place-eq6 w ↦ w.block-is ∙ w.next-block.ensures ∙ block_more c.args.seed c.loop-line.line c.loop-line.block c.loop-line.auto.line c.loop-line.invariant.block w.if-place-eq6.true
    | else-place-eq6 w ↦ w.block-is ∙ block_stays c.args.seed c.loop-line.line c.loop-line.block c.loop-line.auto.line c.loop-line.invariant.block w.if-place-eq6.false
  ];
}

pub returns : goal.returns
returns c = c.in_ok-push_page.ensures.text ∙ text_all c.args.seed c.loop-line.line c.args.lines _ _ (omega (arith, c.loop-line-test.false)) c.loop-line.invariant.text
