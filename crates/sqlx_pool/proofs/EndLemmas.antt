-- How far a poll has come, and why its ticket ended, told of a later moment.
use Rattle.std.proofs.Common.{◌≡◌, ◌⊎◌, ℕ, ◌+◌, ◌≤◌, Result, Ok, Err, IfErr, inl, inr, refl, ap, arith}
use Rattle.sqlx_pool_lists.specs.Balance.{one_if}
use Rattle.sqlx_text.specs.declared.error.Error.{Error}
use Rattle.sqlx_text.specs.declared.error.Error.TheVariants as error
use Rattle.sqlx_pool_core.specs.CameTo.{IsForGood}
use Rattle.sqlx_pool.specs.declared.stage.Stage.{Stage}
use Rattle.sqlx_pool.specs.declared.stage.Stage.TheVariants as stage
use Rattle.sqlx_pool.specs.Refusals.{IsEnd, IsPollRefusal}
use Rattle.sqlx_pool.specs.Stage.{has_lent, IfEnded}
use Rattle.sqlx_pool.proofs.RefusalLemmas.{refusal_sooner}

module _ {C H : Type 0} where
  ended : (P Q : Error → Type 0) → ((e : Error) → P e → Q e) → (s : Stage C H) → IfEnded s P → IfEnded s Q
  ended P Q then (stage.Failed e) p = then e p
  ended P Q then (stage.Left raw hard e) p = then e p
  ended P Q then (stage.Lent lent held) p = tt
  ended P Q then (stage.Pending why) p = tt
  ended P Q then (stage.Test idle moment) p = tt
  ended P Q then stage.Connect p = tt

  -- a ticket that ended by the pool's rules is refused so
  pub ended_by_rules : (f n : ℕ) (s : Stage C H) → IfEnded s IsEnd → IfEnded s (IsPollRefusal f n)
  ended_by_rules f n s p = ended IsEnd (IsPollRefusal f n) (λ e is. inl is) s p

  -- so one that ended as its connect was refused for good
  pub ended_for_good : (f n : ℕ) (error : Error) (s : Stage C H) → IsForGood f n error → IfEnded s (λ e. IsEnd e ⊎ (e ≡ error)) → IfEnded s (IsPollRefusal f n)
  ended_for_good f n error s good p = ended (λ e. IsEnd e ⊎ (e ≡ error)) (IsPollRefusal f n) by s p
    where
      by : (e : Error) → IsEnd e ⊎ (e ≡ error) → IsPollRefusal f n e
      by e (inl is) = inl is
      by e (inr same) = inr (rw (same) good)

  -- a loan that is counted in a poll that wanted a connect
  pub connect_first : (s : Stage C H) (new old k : ℕ) → s ≡ stage.Connect → new ≡ old + k → new + one_if (has_lent s) ≡ old + k
  connect_first s new old k is e = let none : one_if (has_lent s) ≡ 0 = ap (λ (x : Stage C H). one_if (has_lent x)) is in omega (arith, e, none)

-- why an ask is refused is why a poll is
pub asked_refused : (f n : ℕ) (e : Error) → (e ≡ error.PoolClosed) ⊎ ((e ≡ error.Exhausted) ⊎ (e ≡ error.OutOfMemory)) → IsPollRefusal f n e
asked_refused f n e (inl is) = inl (inl is)
asked_refused f n e (inr (inl is)) = inl (inr (inr (inl is)))
asked_refused f n e (inr (inr is)) = inr (inl is, (rw (is) refl))

-- a poll that is refused by counts of a later moment is refused by those of an earlier one
pub refused_sooner : {T : Type 0} (a b c : ℕ) (r : Result T Error) → a ≤ b → IfErr r (IsPollRefusal b c) → IfErr r (IsPollRefusal a c)
refused_sooner a b c (Ok x) more p = tt
refused_sooner a b c (Err e) more p = refusal_sooner a b c e more p
