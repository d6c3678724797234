use Rattle.std.proofs.Common.{◌<◌, ◌≤◌, ◌∙◌, [], ◌∷◌, ◌++◌, ap, get_or, pos, length, map, take_all, subst}
use Rattle.either.specs.declared.Either.TheVariants.{Right}
use Rattle.mem_driver.specs.Answers.{pair_row}
use Rattle.mem_driver.proofs.AnswersLemmas.{all-steps, all-fit, pushed-row, rows_as_items}
use Rattle.mem_driver.proofs.answers.all.Goals as goal

pub loop-item-preserved : goal.loop-item-preserved
loop-item-preserved c =
    let inside : c.loop-item.item-index < length c.args.pairs.items = subst (λ xs. c.loop-item.item-index < length xs) c.deref-item-items.ensures.value c.loop-item-test.true in (
      pushed-row c.args.pairs.items c.loop-item.item-index (pos 0, pos 0) c.loop-item.items.items c.push_row.new.items.items inside c.loop-item.invariant.0
          (c.in_ok-push_row.ensures.items ∙ ap (λ row. c.loop-item.items.items ++ Right row ∷ []) c.in_ok-pair.ensures.row
          ∙ ap (λ xs. c.loop-item.items.items ++ Right (pair_row (get_or xs c.loop-item.item-index (pos 0, pos 0))) ∷ []) c.deref-item-items.ensures.value),
      c.in_ok-push_row.ensures.fits c.loop-item.invariant.1 c.in_ok-pair.ensures.fits,
    )

pub returns-clause-steps : goal.returns-clause-steps
returns-clause-steps c =
    let past : length c.args.pairs.items ≤ c.loop-item.item-index = subst (λ xs. length xs ≤ c.loop-item.item-index) c.deref-item-items.ensures.value c.loop-item-test.false in
    all-steps c.finished.result c.loop-item.items.items (map pair_row c.args.pairs.items)
    (c.loop-item.invariant.0 ∙ ap (λ pairs. rows_as_items (map pair_row pairs)) (take_all c.loop-item.item-index c.args.pairs.items past)) c.finished.ensures

pub returns-clause-fits : goal.returns-clause-fits
returns-clause-fits c = all-fit c.finished.result c.loop-item.items.items c.loop-item.invariant.1 c.finished.ensures
