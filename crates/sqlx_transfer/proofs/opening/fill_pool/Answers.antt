use Rattle.std.proofs.Common.{[], refl, ap, ◌∙◌, arith}
use Rattle.mem_store.specs.Store.{Store}
use Rattle.sqlx_play.specs.stage.LinksStand.{side_of}
use Rattle.sqlx_transfer.proofs.OpeningLemmas.{fills_one, fills_more}
use Rattle.sqlx_transfer.proofs.opening.fill_pool.Goals as goal

pub loop-count-init : goal.loop-count-init
loop-count-init c = (omega arith, c.requires.some, fills_one c.args.max c.opened.new.pool.pool c.args.first c.requires.rests (c.opened.ensures c.args.max [] c.requires.pool (omega (arith, c.requires.some))), record { rows = refl; open_links = refl; runs = refl })

pub loop-count-preserved : goal.loop-count-preserved
loop-count-preserved c =
    let f = c.loop-count.invariant.2 in
    let alike = c.loop-count.invariant.3 in
    let ok = c.in_ok-link.ensures.ok in
    let count = f.count' in
    let room = c.loop-count-test.true in (
      omega arith,
      omega (arith, room),
      fills_more c.args.max c.loop-count.count c.loop-count.core.pool c.opened-in-loop-count.new.pool.pool c.in_ok-link.link (ap side_of c.in_ok-link.ensures.link) f (c.opened-in-loop-count.ensures c.args.max f.idle f.pool (omega (arith, count, room))),
      record { rows = ap (λ (s : Store). s.rows) ok ∙ alike.rows; open_links = ap (λ (s : Store). s.open_links) ok ∙ alike.open_links; runs = ap (λ (s : Store). s.runs) ok ∙ alike.runs },
    )
