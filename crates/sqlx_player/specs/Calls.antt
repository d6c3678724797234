-- The calls of a source or a sink in memory: which of them fail, and the pieces that they took.
use Rattle.std.specs.Prelude.{ℕ, ◌+◌, ◌-◌, ◌^◌, ◌==◌, min, Bool, List, [], ◌∷◌, take, drop}
use Rattle.std.specs.List.{list_any}

-- the number of the call behind so many, which is never above the last number there is
abbrev pub next_call : ℕ → ℕ
next_call calls = min (calls + 1) (2 ^ 64 - 1)

-- whether the call behind so many is among those that fail
abbrev pub fails_next : List ℕ → ℕ → Bool
fails_next fails calls = list_any (λ n. n == next_call calls) fails

-- bytes, cut into pieces of these sizes
unfoldable pub cut : List ℕ → List ℕ → List (List ℕ)
cut [] bytes = []
cut (size ∷ sizes) bytes = take size bytes ∷ cut sizes (drop size bytes)
