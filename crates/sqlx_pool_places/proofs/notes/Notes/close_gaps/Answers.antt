use Rattle.std.proofs.Common.{rules, tests, ◌∙◌, ap, length, is_some}
use Rattle.std.proofs.lemmas.Fn.{filter_same}
use Rattle.sqlx_pool_places.specs.Numbered.{items_at}
use Rattle.sqlx_pool_places.proofs.Places.{items-closed}
use Rattle.sqlx_pool_places.proofs.notes.Notes.close_gaps.Goals as goal

pub returns-clause-items : goal.returns-clause-items
returns-clause-items g c =
    let closed = filter_same _ is_some _ (λ x b q k. search (rules, tests)) _ _ c.retain.ensures.filtered in
    ap items_at closed ∙ (items-closed c.args.places.now.items).0

pub returns-clause-len : goal.returns-clause-len
returns-clause-len g c =
    let closed = filter_same _ is_some _ (λ x b q k. search (rules, tests)) _ _ c.retain.ensures.filtered in
    ap length closed ∙ (items-closed c.args.places.now.items).1
