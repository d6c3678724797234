-- A reading, line by line.
use Rattle.std.proofs.Common.{◌≡◌, ℕ, ◌+◌, List, [], ◌∷◌, ◌++◌, Some, None, refl, ap}
use Rattle.sqlx_lines.specs.Scripts.{Grammar, with_event, reading_at, reading_from}

-- the next line is an event
pub event_next : {F E : Type 0} (g : Grammar F E) (first : F) (number : ℕ) (done : List E) (line : List ℕ) (lines : List (List ℕ)) (e : E) → g.event_of first done line ≡ Some e
    → reading_from g first number done (line ∷ lines) ≡ with_event e (reading_from g first (number + 1) (done ++ e ∷ []) lines)
unfolding reading_from
event_next {F} {E} g first number done line lines e is = ap (reading_at number (λ (e : E). reading_from g first (number + 1) (done ++ e ∷ []) lines)) is

-- the next line is no event
pub none_next : {F E : Type 0} (g : Grammar F E) (first : F) (number : ℕ) (done : List E) (line : List ℕ) (lines : List (List ℕ)) → g.event_of first done line ≡ None
    → reading_from g first number done (line ∷ lines) ≡ record { events = []; bad = Some number }
unfolding reading_from
none_next {F} {E} g first number done line lines is = ap (reading_at number (λ (e : E). reading_from g first (number + 1) (done ++ e ∷ []) lines)) is

-- no line is left
pub end_next : {F E : Type 0} (g : Grammar F E) (first : F) (number : ℕ) (done : List E) → reading_from g first number done [] ≡ record { events = []; bad = None }
unfolding reading_from
end_next g first number done = refl
