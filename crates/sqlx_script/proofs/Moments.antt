-- The moments of events, which never fall.
use Rattle.std.proofs.Common.{◌≡◌, ℕ, ◌≤◌, Bool, true, false, cond, nat_lt, List, [], ◌∷◌, ◌++◌, Option, Some, None, refl, subst}
use Rattle.std.proofs.lemmas.Bool.{ltb-false}
use Rattle.sqlx_script.specs.Grammar.{last_moment, not_before}
use Rattle.sqlx_script.specs.declared.step.Event.{Event}

-- the last of one more event
pub last_moment-push : (events : List Event) (event : Event) → last_moment (events ++ event ∷ []) ≡ event.moment.0
last_moment-push [] event = refl
last_moment-push (e ∷ []) event = refl
last_moment-push (e ∷ f ∷ events) event = last_moment-push (f ∷ events) event

-- an event that is told is what the line says, and its moment isn't below the last
pub is_told : (last : ℕ) (o : Option Event) (event : Event) → not_before last o ≡ Some event → (o ≡ Some event) × (last ≤ event.moment.0)
is_told last None event h = cc
is_told last (Some x) event h = by_test (nat_lt x.moment.0 last) refl h
  where
    by_test : (c : Bool) → nat_lt x.moment.0 last ≡ c → cond c None (Some x) ≡ Some event → (Some x ≡ Some event) × (last ≤ event.moment.0)
    by_test true is h = cc
    by_test false is h = let same : x ≡ event = cc in (h, subst (λ (y : Event). last ≤ y.moment.0) same (ltb-false x.moment.0 last is))
