use Rattle.std.proofs.Common.{◌≡◌, ◌≤◌, ℕ, arith, inl, inr, refl, sym, ◌∙◌}
use Rattle.std.proofs.lemmas.Bool.{ltb-true, ltb-false}
use Rattle.sqlx_tx.proofs.calls.within.Goals as goal

-- below one there is nothing
none_left : (n : ℕ) → n ≤ 0 → n ≡ 0
none_left n few = omega arith

pub returns-then-is_in_transaction : goal.returns-then-is_in_transaction
returns-then-is_in_transaction g c = record {
  runs = inr (
    c.begin.new.conn,
    c.ran-given.new.conn,
    c.ran-given.result,
    ((c.in_default.ensures.does, c.in_default.ensures.rises, tt), c.in_default.ensures.ok),
    c.ran-given.ensures,
    inr (ltb-true 0 (g.DB.Connection.Depth.levels c.ran-given.new.conn) (sym c.is_in_transaction.ensures ∙ c.if-is_in_transaction.true), c.ended.ensures.ends),
  );
}

pub returns-else-is_in_transaction : goal.returns-else-is_in_transaction
returns-else-is_in_transaction g c = record {
  runs = inr (
    c.begin.new.conn,
    c.ran-given.new.conn,
    c.ran-given.result,
    ((c.in_default.ensures.does, c.in_default.ensures.rises, tt), c.in_default.ensures.ok),
    c.ran-given.ensures,
    inl (none_left (g.DB.Connection.Depth.levels c.ran-given.new.conn) (ltb-false 0 (g.DB.Connection.Depth.levels c.ran-given.new.conn) (sym c.is_in_transaction.ensures ∙ c.if-is_in_transaction.false)), refl, refl),
  );
}
