use Rattle.std.proofs.Common.{◌≡◌, ℕ, [], None, Result, Ok, Err, IfOk, ap, ◌∙◌}
use Rattle.sqlx_pool_lists.specs.declared.options.PoolOptions.{PoolOptions}
use Rattle.sqlx_pool_core.specs.LonePool.{LonePool}
use Rattle.sqlx_pool_lists.specs.StandsFor.{StandsFor}
use Rattle.sqlx_transfer.specs.Pool.{IsPool}
use Rattle.sqlx_transfer.proofs.Pools.{new_empty}
use Rattle.sqlx_transfer.proofs.pool.new_pool.Goals as goal

by_result : {C E : Type 0} (options : PoolOptions) (n : ℕ) (r : Result (LonePool C) E) → IfOk r (λ c. StandsFor c.pool []) → IfOk r (λ c. c.pool.options ≡ options) → IfOk r (λ c. c.pool.places ≡ 0)
    → options.max_connections ≡ n → options.min_connections ≡ n → options.max_lifetime ≡ None → IfOk r (λ c. IsPool n c.pool [] [])
by_result options n (Ok c) s o p most least lifetime = new_empty c.pool options n s o p most least lifetime
by_result options n (Err e) s o p most least lifetime = tt

pub returns : goal.returns
returns g c =
    by_result c.max_lifetime.result c.args.max c.new-2.result c.new-2.ensures.stands c.new-2.ensures.options c.new-2.ensures.places
    (ap (λ (o : PoolOptions). o.max_connections) c.max_lifetime.ensures ∙ ap (λ (o : PoolOptions). o.max_connections) c.min_connections.ensures ∙ ap (λ (o : PoolOptions). o.max_connections) c.max_connections.ensures)
    (ap (λ (o : PoolOptions). o.min_connections) c.max_lifetime.ensures ∙ ap (λ (o : PoolOptions). o.min_connections) c.min_connections.ensures)
    (ap (λ (o : PoolOptions). o.max_lifetime) c.max_lifetime.ensures)
