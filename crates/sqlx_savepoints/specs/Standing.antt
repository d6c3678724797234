-- What stands: the history with every done thing struck out. Open brackets and the writes that may survive are left, the newest first.
use Rattle.std.specs.Prelude.{ℕ, zero, suc, ◌==◌, ℤ, Bool, true, false, not, ◌&&◌, ◌||◌, if◌then◌else◌, Option, None, List, [], ◌∷◌}
use Rattle.std.specs.Ordering.{int_eq}
use Rattle.sqlx_savepoints.specs.Changes.{Change, opens, writes, commits, rolls_back, leaves, History}

-- an open bracket, or a write
pub data Standing : Type 0 where
  opened : ℕ → Standing
  wrote : ℕ → ℤ → Option ℤ → Standing

-- whether this is an open bracket of the connection
abbrev pub opens_for : ℕ → Standing → Bool
opens_for c (opened d) = d == c
opens_for c (wrote d key value) = false

-- whether this is of the connection
abbrev pub is_of : ℕ → Standing → Bool
is_of c (opened d) = d == c
is_of c (wrote d key value) = d == c

-- whether a number is 0
abbrev pub is_zero : ℕ → Bool
is_zero zero = true
is_zero (suc n) = false

-- the number of open brackets of the connection
abbrev pub depth_of : ℕ → List Standing → ℕ
depth_of c [] = 0
depth_of c (thing ∷ before) = if opens_for c thing then suc (depth_of c before) else depth_of c before

-- the connection's newest open bracket struck out
abbrev pub struck : ℕ → List Standing → List Standing
struck c [] = []
struck c (thing ∷ before) = if opens_for c thing then before else thing ∷ struck c before

-- the newest open bracket struck out together with what the connection wrote in it
abbrev pub cut : ℕ → List Standing → List Standing
cut c [] = []
cut c (thing ∷ before) = if opens_for c thing then before else (if is_of c thing then cut c before else thing ∷ cut c before)

-- the same, where there is an open bracket
abbrev pub cut_if_open : ℕ → List Standing → List Standing
cut_if_open c things = if is_zero (depth_of c things) then things else cut c things

-- all open brackets of the connection struck out together with what it wrote in them
abbrev pub cleared : ℕ → List Standing → List Standing
cleared c [] = []
cleared c (thing ∷ before) = if opens_for c thing || (is_of c thing && not (is_zero (depth_of c before))) then cleared c before else thing ∷ cleared c before

-- what stands after one more change
abbrev pub after : List Standing → Change → List Standing
after things (opens c) = opened c ∷ things
after things (writes c key value) = wrote c key value ∷ things
after things (commits c) = struck c things
after things (rolls_back c) = cut_if_open c things
after things (leaves c) = cleared c things

-- what stands after a history
abbrev pub standing : History → List Standing
standing [] = []
standing (change ∷ past) = after (standing past) change

-- whether a write of the connection survives for the reader, where this stands before it: it is the reader's own, or no bracket around it is open
abbrev pub seen_by : ℕ → ℕ → List Standing → Bool
seen_by reader c before = reader == c || is_zero (depth_of c before)

-- the value of the key that the reader sees
abbrev pub value_of : ℕ → ℤ → List Standing → Option ℤ
value_of reader key [] = None
value_of reader key (opened c ∷ before) = value_of reader key before
value_of reader key (wrote c k value ∷ before) = if seen_by reader c before && int_eq key k then value else value_of reader key before
