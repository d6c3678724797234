use Rattle.std.proofs.Common.{◌≡◌, ℕ, ◌≤◌, [], None, Result, Ok, Err, IfOk, ap, subst, sym, ◌∙◌}
use Rattle.sqlx_pool_lists.specs.declared.options.PoolOptions.{PoolOptions}
use Rattle.sqlx_pool_lists.specs.StandsFor.{StandsFor}
use Rattle.sqlx_pool_core.specs.LonePool.{LonePool}
use Rattle.sqlx_single.specs.Single.{IsEmpty}
use Rattle.sqlx_single.proofs.Singles.{new_empty}
use Rattle.sqlx_single.proofs.new_pool_of.Goals as goal

by_result : {C E : Type 0} (options : PoolOptions) (r : Result (LonePool C) E) → IfOk r (λ c. StandsFor c.pool []) → IfOk r (λ c. c.pool.options ≡ options) → IfOk r (λ c. c.pool.places ≡ 0)
    → 1 ≤ options.max_connections → options.min_connections ≡ 1 → options.max_lifetime ≡ None → IfOk r (λ c. IsEmpty c.pool)
by_result options (Ok c) s o p some least lifetime = new_empty c.pool options s o p some least lifetime
by_result options (Err e) s o p some least lifetime = tt

by_options : {C E : Type 0} (options : PoolOptions) (max : ℕ) (r : Result (LonePool C) E) → IfOk r (λ c. c.pool.options ≡ options) → options.max_connections ≡ max → IfOk r (λ c. c.pool.options.max_connections ≡ max)
by_options options max (Ok c) o is = ap (λ (o : PoolOptions). o.max_connections) o ∙ is
by_options options max (Err e) o is = tt

pub returns : goal.returns
returns g c =
    let most = ap (λ (o : PoolOptions). o.max_connections) c.max_lifetime.ensures ∙ ap (λ (o : PoolOptions). o.max_connections) c.min_connections.ensures ∙ ap (λ (o : PoolOptions). o.max_connections) c.max_connections.ensures in
    record {
      empty =
          by_result c.max_lifetime.result c.new-2.result c.new-2.ensures.stands c.new-2.ensures.options c.new-2.ensures.places
          (subst (λ n. 1 ≤ n) (sym most) c.requires)
          (ap (λ (o : PoolOptions). o.min_connections) c.max_lifetime.ensures ∙ ap (λ (o : PoolOptions). o.min_connections) c.min_connections.ensures)
          (ap (λ (o : PoolOptions). o.max_lifetime) c.max_lifetime.ensures);
      max = by_options c.max_lifetime.result c.args.max c.new-2.result c.new-2.ensures.options most;
    }
