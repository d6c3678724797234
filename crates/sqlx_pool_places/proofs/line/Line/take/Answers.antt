use Rattle.std.proofs.Common.{◌≡◌, ◌∙◌, true, refl, sym, ap, lt-ltb}
use Rattle.sqlx_pool_places.specs.Line.{is_waiting, is_below_edge}
use Rattle.sqlx_pool_places.proofs.Edge.{without_none}
use Rattle.sqlx_pool_places.proofs.line.Line.take.Goals as goal

pub returns-else-remove-clause-becomes : goal.returns-else-remove-clause-becomes
returns-else-remove-clause-becomes g c = c.remove.ensures.becomes ∙ without_none c.args.ticket c.args.self.now (sym c.remove.ensures.answer ∙ c.if-remove.false)

pub returns-then-remove-clause-answer : goal.returns-then-remove-clause-answer
returns-then-remove-clause-answer g c =
    let waits : is_waiting c.args.ticket c.args.self.now ≡ true = sym c.remove.ensures.answer ∙ c.if-remove.true in
    let below : is_below_edge c.args.ticket c.args.self.now ≡ true = ap (is_below_edge c.args.ticket) (sym c.self.view_is) ∙ lt-ltb _ _ c.if-ticket-self.true in
    rw (waits, below) refl
