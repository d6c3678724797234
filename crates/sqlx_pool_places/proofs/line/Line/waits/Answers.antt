use Rattle.std.proofs.Common.{◌≡◌, ℕ, ◌∙◌, List, Option, Some, None, slice_get, is_some, sym, ap, Bor}
use Rattle.std.specs.Prelude.{IfSome, IfNone}
use Rattle.sqlx_pool_places.specs.declared.rising_places.Place.{Place}
use Rattle.sqlx_pool_places.specs.declared.rising_places.Place.TheVariants.{Here}
use Rattle.sqlx_pool_places.specs.Rising.{things_at, IsNowhere}
use Rattle.sqlx_pool_places.proofs.Edge.{has}
use Rattle.sqlx_pool_places.proofs.LinePlaces.{has-there, has-not}
use Rattle.sqlx_pool_places.proofs.line.Line.waits.Goals as goal

told : (t : ℕ) (ps : List (Place ℕ)) (found : Option (ℕ × Bor ℕ)) → IfSome found (λ p. (slice_get ps p.0 ≡ Some (Here p.1.now)) × (p.1.now ≡ t)) → IfNone found (IsNowhere (λ m. m) t ps) → is_some found ≡ has t (things_at ps)
told t ps (Some p) some none = sym (has-there ps p.0 t (some.0 ∙ ap (λ m. Some (Here m)) some.1))
told t ps None some none = sym (has-not ps t none)

pub returns : goal.returns
returns c = rw (← c.self.view_is) (c.is_some.ensures ∙ told c.args.ticket c.self.inside.places.items c.find_place.result c.find_place.ensures.some c.find_place.ensures.none)
