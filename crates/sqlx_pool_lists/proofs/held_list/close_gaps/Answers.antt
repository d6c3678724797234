use Rattle.std.proofs.Common.{rules, tests, ◌∙◌, ap, length, is_some, arith}
use Rattle.std.proofs.lemmas.Fn.{filter_same}
use Rattle.sqlx_pool_lists.specs.HeldList.{loans_at}
use Rattle.sqlx_pool_lists.proofs.HeldLists.{loans-closed}
use Rattle.sqlx_pool_lists.proofs.held_list.close_gaps.Goals as goal

pub returns-clause-loans : goal.returns-clause-loans
returns-clause-loans c =
    let closed = filter_same _ is_some _ (λ x b q k. search (rules, tests)) _ _ c.retain.ensures.filtered in
    ap loans_at closed ∙ (loans-closed c.args.places.now.items).0

pub returns-clause-room : goal.returns-clause-room
returns-clause-room c =
    let closed = filter_same _ is_some _ (λ x b q k. search (rules, tests)) _ _ c.retain.ensures.filtered in
    let n = ap length closed ∙ (loans-closed c.args.places.now.items).1 in
    omega (arith, n, c.requires, c.retain.ensures.capacity)

pub returns-then-not-notes-clause-loans : goal.returns-then-not-notes-clause-loans
returns-then-not-notes-clause-loans c =
    let closed = filter_same _ is_some _ (λ x b q k. search (rules, tests)) _ _ c.retain.ensures.filtered in
    ap loans_at closed ∙ (loans-closed c.args.places.now.items).0

pub returns-then-not-notes-clause-room : goal.returns-then-not-notes-clause-room
returns-then-not-notes-clause-room c =
    let closed = filter_same _ is_some _ (λ x b q k. search (rules, tests)) _ _ c.retain.ensures.filtered in
    let n = ap length closed ∙ (loans-closed c.args.places.now.items).1 in
    omega (arith, n, c.requires, c.retain.ensures.capacity)
