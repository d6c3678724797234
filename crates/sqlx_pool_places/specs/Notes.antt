-- When notes tell where numbered things stand.
use Rattle.std.specs.Prelude.{◌≡◌, ℕ, true, List, Option, nat_eq}
use Rattle.std.specs.HashMap.{get}
use Rattle.sqlx_pool_places.specs.declared.notes.Notes.{Notes}
use Rattle.sqlx_pool_places.specs.Numbered.{AreNoted}

-- where all are said to be noted, each is
abbrev pub Tells : {X : Type 0} → (X → ℕ) → Notes → List (Option X) → Type 0
Tells number notes places = notes.all ≡ true → AreNoted number places (get nat_eq notes.noted)
