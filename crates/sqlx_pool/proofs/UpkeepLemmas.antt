-- What a front has seen when upkeep ends.
use Rattle.std.proofs.Common.{◌≡◌, ◌⊎◌, List, inl, inr}
use mathlib.Core.List.{IsPrefix}
use Rattle.sqlx_pool_lists.specs.declared.options.PoolOptions.{PoolOptions}
use Rattle.sqlx_pool_lists.specs.declared.steps.Openings.{Openings}
use Rattle.sqlx_pool_history.specs.Shows.{Showed}
use Rattle.sqlx_pool_history.proofs.Showing.{showed_later}
use Rattle.sqlx_pool_parts.specs.declared.filled.Filled.{Filled}
use Rattle.sqlx_pool_parts.specs.declared.filled.Filled.TheVariants as filled
use Rattle.sqlx_pool.specs.Upkeep.{EndsKeeping, IfUnfilled}

-- why a try opened nothing, said by less
pub unfilled-weaker : (saw sees counted : Type 0) (r : Filled) → (saw → sees) → IfUnfilled r saw counted → IfUnfilled r sees counted
unfilled-weaker saw sees counted filled.Full less why = less why
unfilled-weaker saw sees counted filled.Refused less why = why
unfilled-weaker saw sees counted filled.Opened less why = tt
unfilled-weaker saw sees counted filled.Short less why = tt

-- where the pool had no place that was seen, and where a try was refused it was counted
pub unfilled-why : (saw counted : Type 0) (r : Filled) → (r ≡ filled.Full) ⊎ (r ≡ filled.Refused) → IfUnfilled r saw counted → saw ⊎ counted
unfilled-why saw counted filled.Full is why = inl why
unfilled-why saw counted filled.Refused is why = inr why
unfilled-why saw counted filled.Opened (inl is) why = absurd cc
unfilled-why saw counted filled.Opened (inr is) why = absurd cc
unfilled-why saw counted filled.Short (inl is) why = absurd cc
unfilled-why saw counted filled.Short (inr is) why = absurd cc

-- why keeping the minimum ends, said by less
pub ends-weaker : {saw sees counted counts : Type 0} (options : PoolOptions) (openings : Openings) → (saw → sees) → (counted → counts) → EndsKeeping options saw counted openings → EndsKeeping options sees counts openings
ends-weaker options openings less fewer (inl most) = inl most
ends-weaker options openings less fewer (inr (inl short)) = inr (inl short)
ends-weaker options openings less fewer (inr (inr (inl saw))) = inr (inr (inl (less saw)))
ends-weaker options openings less fewer (inr (inr (inr counted))) = inr (inr (inr (fewer counted)))

-- what was seen, or need not have been, still was
pub or_later : {A S : Type 0} (old mid new : List S) (holds : S → Type 0) → IsPrefix mid new → A ⊎ Showed old mid holds → A ⊎ Showed old new holds
or_later old mid new holds later (inl a) = inl a
or_later old mid new holds later (inr saw) = inr (showed_later old mid new holds saw later)
