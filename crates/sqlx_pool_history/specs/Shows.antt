-- What a front shows that was handed to a call.
use Rattle.std.specs.Prelude.{◌≡◌, List, [], ◌∷◌, ◌++◌}
use mathlib.Core.List.{IsPrefix}
use Rattle.sqlx_pool_history.specs.Chains.{EndsWith}

-- The front has grown, and ends with a state of which this holds.
abbrev pub Shows : {S : Type 0} → List S → List S → (S → Type 0) → Type 0
Shows old new holds = IsPrefix old new × EndsWith new holds

-- The front has grown by a step and by what stood before it: the step went from the one of these states to the other.
abbrev pub Steps : {S : Type 0} → List S → List S → (S → S → Type 0) → Type 0
Steps {S = S} old new goes = (seen : List S) × (after : S) × IsPrefix old seen × (new ≡ seen ++ after ∷ []) × EndsWith seen (λ before. goes before after)

-- Since the front ended where it did, a state stood of which this holds, and the front has seen it.
abbrev pub Showed : {S : Type 0} → List S → List S → (S → Type 0) → Type 0
Showed {S = S} old new holds = (seen : List S) × IsPrefix old seen × EndsWith seen holds × IsPrefix seen new
