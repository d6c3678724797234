-- A chain goes on.
use Rattle.std.proofs.Common.{◌≡◌, ◌<◌, List, [], ◌∷◌, ◌++◌, length, subst, sym, refl, ap, arith}
use Rattle.sqlx_pool_history.specs.Chains.{EndsWith, IfLast, IsChain}

module _ {S : Type 0} where
  -- a chain with a state more that follows
  pub chain_snoc : (follows : S → S → Type 0) (log : List S) (state : S) → IsChain follows log → IfLast log (λ last. follows last state) → IsChain follows (log ++ state ∷ [])
  chain_snoc follows [] state chain may = tt
  chain_snoc follows (x ∷ []) state chain may = (may, tt)
  chain_snoc follows (x ∷ y ∷ later) state chain may = (chain.0, chain_snoc follows (y ∷ later) state chain.1 may)

  -- what holds of each state that is this one holds of the last, where that is this one
  pub if_last : (log : List S) (holds does : S → Type 0) → ((state : S) → holds state → does state) → IfLast log holds → IfLast log does
  if_last [] holds does less last = tt
  if_last (x ∷ []) holds does less last = less x last
  if_last (x ∷ y ∷ later) holds does less last = if_last (y ∷ later) holds does less last

  -- so a state may come next that follows the value, where the last state is that of the value
  pub may_follow : (follows : S → S → Type 0) (log : List S) (value after : S) → IfLast log (λ last. last ≡ value) → follows value after → IfLast log (λ last. follows last after)
  may_follow follows log value after last f = if_last log (λ state. state ≡ value) (λ state. follows state after) (λ state is. subst (λ s. follows s after) (sym is) f) last

  -- a state that was added is the last
  pub last_snoc : (log : List S) (state : S) (holds : S → Type 0) → holds state → IfLast (log ++ state ∷ []) holds
  last_snoc [] state holds is = is
  last_snoc (x ∷ []) state holds is = is
  last_snoc (x ∷ y ∷ later) state holds is = last_snoc (y ∷ later) state holds is

  -- so behind the adding of it
  pub last_here : (log new : List S) (state : S) → new ≡ log ++ state ∷ [] → IfLast new (λ last. last ≡ state)
  last_here log new state is = subst (λ l. IfLast l (λ last. last ≡ state)) (sym is) (last_snoc log state (λ last. last ≡ state) refl)

  -- where there is a state, there is a last one
  pub ends_last : (log : List S) (holds : S → Type 0) → 0 < length log → IfLast log holds → EndsWith log holds
  ends_last [] holds some last = absurd (omega arith)
  ends_last (x ∷ []) holds some last = ([], x, refl, last)
  ends_last (x ∷ y ∷ later) holds some last =
      let rest = ends_last (y ∷ later) holds (omega arith) last in
      (x ∷ rest.0, rest.1, ap (λ (l : List S). x ∷ l) rest.2, rest.3)
