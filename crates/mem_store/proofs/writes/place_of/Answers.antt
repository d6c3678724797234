use Rattle.std.proofs.Common.{◌≡◌, ℕ, ℤ, List, IfSome, IfNone, Option, Some, None, to_z-of_z, length}
use mir.Val.{SFits, of_z}
use Rattle.std.specs.Int.{w64}
use Rattle.std.specs.Ordering.{int_cmp}
use Rattle.std.specs.FinMap.{find}
use Rattle.sqlx_pool_places.specs.Numbered.{items_at, HasNone, IsFirstAt}
use Rattle.mem_store.specs.OwnWrites.{number_of, StandOnce, StandsAt}
use Rattle.mem_store.proofs.OnceEach.{none-at, stands-at}
use Rattle.mem_store.proofs.writes.place_of.Goals as goal

module _ (key : ℤ) (places : List (Option (ℤ × Option ℤ))) (n : ℕ) (is : n ≡ of_z w64 key) where
  some : SFits w64 key → StandOnce (items_at places) → (r : Option ℕ) → IfSome r (IsFirstAt number_of n places) → IfSome r (StandsAt key places)
  some fits once (Some place) at = stands-at key places place once n is fits at
  some fits once None at = tt

  none : (r : Option ℕ) → IfNone r (HasNone number_of n places (length places)) → IfNone r (find int_cmp key (items_at places) ≡ None)
  none (Some place) at = tt
  none None at = none-at n key places is at

pub returns-clause-some : goal.returns-clause-some
returns-clause-some c = some c.args.key c.args.places.now c.cast_unsigned.result (rw (to_z-of_z c.ranges.key) at c.cast_unsigned.ensures) c.ranges.key c.requires.once c.find.result c.find.ensures.some

pub returns-clause-none : goal.returns-clause-none
returns-clause-none c = none c.args.key c.args.places.now c.cast_unsigned.result (rw (to_z-of_z c.ranges.key) at c.cast_unsigned.ensures) c.find.result c.find.ensures.none
