-- The loans, kept so that one is found and ended without a look at the others.
use Rattle.std.specs.Prelude.{◌≡◌, ℕ, ◌≤◌, Bool, true, List, [], ◌∷◌, Option, Some, None, length, slice_get}
use Rattle.sqlx_pool_lists.specs.declared.ticket.OwnedConn.{OwnedConn}

-- Loans in the order of lending, and for how many there is room.
pub record HeldQueue : Type 0 where
  pub items : List OwnedConn
  pub room : ℕ

-- the loans at these places, some of which are gaps
abbrev pub loans_at : List (Option OwnedConn) → List OwnedConn
loans_at [] = []
loans_at (Some h ∷ rest) = h ∷ loans_at rest
loans_at (None ∷ rest) = loans_at rest

-- each loan's place is noted at its connection
abbrev pub AreNoted : List (Option OwnedConn) → (ℕ → Option ℕ) → Type 0
AreNoted places noted = (i : ℕ) (h : OwnedConn) → slice_get places i ≡ Some (Some h) → noted h.conn ≡ Some i

-- what was noted still is, and so is what stands at this place
pub record IsNotedToo (before after : ℕ → Option ℕ) (held : Option OwnedConn) (place : ℕ) : Type 0 where
  pub kept : (q j : ℕ) → before q ≡ Some j → after q ≡ Some j
  pub one_more : (h : OwnedConn) → held ≡ Some h → after h.conn ≡ Some place

-- Where they are said to be noted, they are; they are counted, and there are places for as many as there is room.
pub record AreAtTheirPlaces (places : List (Option OwnedConn)) (noted : ℕ → Option ℕ) (all_noted : Bool) (counted room capacity : ℕ) : Type 0 where
  pub found : all_noted ≡ true → AreNoted places noted
  pub counted_right : counted ≡ length (loans_at places)
  pub fits : room ≤ capacity
