-- By which writes a text gets to a sink, where the sink tells that.
use Rattle.std.specs.Prelude.{◌≡◌, ℕ, ◌<◌, List, [], ◌∷◌, ◌++◌, length, Option, Some, None, Result, Ok, Err, ⊤}
use Rattle.sqlx_player.specs.declared.error.PlayError.{PlayError}
use Rattle.sqlx_player.specs.declared.failed.Failed.{Failed}

-- The pieces grew by these, as long as they are told: where a write doesn't take its piece whole, they aren't told any more.
abbrev pub GrowsBy : Option (List (List ℕ)) → Option (List (List ℕ)) → List (List ℕ) → Type 0
GrowsBy (Some before) (Some now) pieces = now ≡ before ++ pieces
GrowsBy (Some before) None pieces = ⊤
GrowsBy None (Some now) pieces = ⊥
GrowsBy None None pieces = ⊤

-- what a write does to the pieces: they grow by what it was handed, if it took that whole; and not where it failed
abbrev pub TakesPiece : Option (List (List ℕ)) → Option (List (List ℕ)) → Result ℕ Failed → List ℕ → Type 0
TakesPiece before now (Ok n) piece = (n ≡ length piece → GrowsBy before now (piece ∷ [])) × (n < length piece → now ≡ None)
TakesPiece before now (Err e) piece = GrowsBy before now []

-- a text is one piece, and no text none
abbrev pub pieces_of : List ℕ → List (List ℕ)
pieces_of [] = []
pieces_of (b ∷ text) = (b ∷ text) ∷ []

-- a text was handed out whole, or nothing was
abbrev pub HandsOut : {T : Type 0} → Option (List (List ℕ)) → Option (List (List ℕ)) → List ℕ → Result T PlayError → Type 0
HandsOut before now text (Ok done) = GrowsBy before now (pieces_of text)
HandsOut before now text (Err e) = GrowsBy before now []
