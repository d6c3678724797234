-- What a mark begins and no mark behind it ends.
use Rattle.std.specs.Prelude.{ℕ, ◌+◌, Bool, List, [], ◌∷◌, ◌++◌, Option, Some, None, if◌then◌else◌}
use Rattle.std.specs.List.{list_any}
use Rattle.sqlx_pool_marks.specs.declared.mark.Mark.{Mark}

-- x, unless a later mark ends it
abbrev pub still : {X : Type 0} → (X → Mark → Bool) → Option X → List Mark → List X
still ends None later = []
still ends (Some x) later = if list_any (ends x) later then [] else x ∷ []

-- what a mark begins and no later mark ends, in the order of beginning
abbrev pub standing : {X : Type 0} → (Mark → Option X) → (X → Mark → Bool) → List Mark → List X
standing begins ends [] = []
standing begins ends (m ∷ later) = still ends (begins m) later ++ standing begins ends later

-- the number after n, or one more than the number that was drawn
abbrev pub next_after : Option ℕ → ℕ → ℕ
next_after None n = n
next_after (Some drawn) n = drawn + 1

-- one more than the last number that these marks draw, and n where they draw none
abbrev pub next_number : (Mark → Option ℕ) → ℕ → List Mark → ℕ
next_number draws n [] = n
next_number draws n (m ∷ later) = next_number draws (next_after (draws m) n) later

-- the last of these marks
abbrev pub last_mark : Option Mark → List Mark → Option Mark
last_mark before [] = before
last_mark before (m ∷ later) = last_mark (Some m) later
