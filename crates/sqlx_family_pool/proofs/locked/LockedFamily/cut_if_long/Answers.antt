use Rattle.std.proofs.Common.{◌∙◌, sym, subst}
use Rattle.sqlx_family_pool.specs.FamilyState.{IsWithinLimitIn}
use Rattle.sqlx_family_pool.proofs.CutLemmas.{long-cuts, long-named, cut-within}
use Rattle.sqlx_family_pool.proofs.locked.LockedFamily.cut_if_long.Goals as goal

pub cut-requires : goal.cut-requires
cut-requires g c = long-cuts c.facts.ensures c.args.pool (sym c.is_long.ensures ∙ c.if-is_long.true)

pub returns-then-is_long-clause-within : goal.returns-then-is_long-clause-within
returns-then-is_long-clause-within g c =
    let named = long-named c.facts.ensures c.args.pool (sym c.is_long.ensures ∙ c.if-is_long.true) in
    subst (λ s. IsWithinLimitIn s c.args.pool) (sym (c.cut.ensures.becomes named)) (cut-within c.facts.ensures c.args.pool named)
