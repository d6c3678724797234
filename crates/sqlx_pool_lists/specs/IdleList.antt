-- The idle connections, kept so that a reap which finds none looks at none.
use Rattle.std.specs.Prelude.{◌≡◌, ℕ, ◌≤◌, Bool, true, List, [], ◌∷◌, ◌++◌, length, ◌<◌, ◌^◌, ⊤}
use Rattle.std.specs.List.{AllByRecursion}
use Rattle.sqlx_pool_lists.specs.declared.steps.Idle.{Idle}

-- Idle connections in the order of their coming back, and for how many there is room.
pub record IdleQueue (C : Type 0) : Type 0 where
  pub items : List (Idle C)
  pub room : ℕ

module _ {C : Type 0} where
  -- none was opened before a moment
  abbrev pub AreOpenedFrom : ℕ → List (Idle C) → Type 0
  AreOpenedFrom from idle = AllByRecursion (λ (i : Idle C). from ≤ i.lent.created.0) idle

  -- none rested before a moment
  abbrev pub AreRestingFrom : ℕ → List (Idle C) → Type 0
  AreRestingFrom from idle = AllByRecursion (λ (i : Idle C). from ≤ i.since.0) idle

  -- all rested at a moment
  abbrev pub AreRestingBy : ℕ → List (Idle C) → Type 0
  AreRestingBy by idle = AllByRecursion (λ (i : Idle C). i.since.0 ≤ by) idle

  -- each came back no later than those behind it
  abbrev pub AreInTurn : List (Idle C) → Type 0
  AreInTurn [] = ⊤
  AreInTurn (i ∷ rest) = AreRestingFrom i.since.0 rest × AreInTurn rest

-- None was opened before a moment, and where they are said to be in turn, they are.
pub record AreBounded {C : Type 0} (idle : List (Idle C)) (from : ℕ) (in_turn : Bool) : Type 0 where
  pub opened : AreOpenedFrom from idle
  pub resting : in_turn ≡ true → AreInTurn idle

-- All of two rows fit into a room, and each row has that room.
pub record FitsInEach {C : Type 0} (room : ℕ) (front back : IdleQueue C) : Type 0 where
  pub all : length (front.items ++ back.items) ≤ room
  pub in_front : room ≤ front.room
  pub in_back : room ≤ back.room
  pub small : room < 2 ^ 64
