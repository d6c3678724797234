-- States of which each follows the one before.
use Rattle.std.specs.Prelude.{◌≡◌, ⊤, List, [], ◌∷◌, ◌++◌}

module _ {S : Type 0} where
  -- the list ends with a state of which this holds
  abbrev pub EndsWith : List S → (S → Type 0) → Type 0
  EndsWith seen holds = (before : List S) × (state : S) × (seen ≡ before ++ state ∷ []) × holds state

  -- of the last state this holds, if there is one
  abbrev pub IfLast : List S → (S → Type 0) → Type 0
  IfLast [] holds = ⊤
  IfLast (x ∷ []) holds = holds x
  IfLast (x ∷ y ∷ later) holds = IfLast (y ∷ later) holds

  -- each state follows the one before
  abbrev pub IsChain : (S → S → Type 0) → List S → Type 0
  IsChain follows [] = ⊤
  IsChain follows (x ∷ []) = ⊤
  IsChain follows (x ∷ y ∷ later) = follows x y × IsChain follows (y ∷ later)
