-- What a text gives.
use Rattle.std.proofs.Common.{◌≡◌, ◌⊎◌, ◌≤◌, ◌++◌, ◌∷◌, [], ℕ, List, Option, None, Result, Ok, Err, IfErr, IfNone, IfOk, inl, inr, length, drop, refl, sym, subst}
use Rattle.std.proofs.lemmas.List.{drop_all}
use Rattle.either.specs.declared.Either.TheVariants.{Left}
use Rattle.sqlite_value.specs.Order.{Row}
use Rattle.sqlite.specs.Outline.{Outline}
use Rattle.sqlite.specs.State.{HasCleanDisk, Shown, State}
use Rattle.sqlx_text.specs.declared.error.Error.{Error}
use Rattle.sqlx_text.specs.declared.error.Error.TheVariants as error
use Rattle.sqlite_base.specs.Refusals.{IsUnfit}
use Rattle.sqlite_base.specs.Queries.{GainsRows, Gives, GivesRows, HasRows, IsPrepared, Item, RefusesQuery, RefusesRows, RefusesToShow, no_count}

-- no row is left
pub rows_all : (names : List (List ℕ)) (rows : List Row) (at : ℕ) (items : List Item) → length rows ≤ at → GainsRows names (drop at rows) items items
rows_all names rows at items past = subst (λ rest. GainsRows names rest items items) (sym (drop_all at rows past)) refl

-- these rows, listed, with a result behind them
abbrev pub Completes : List (List ℕ) → List Row → List Item → Type 0
Completes names rows items = (listed : List Item) × GainsRows names rows [] listed × (items ≡ listed ++ Left no_count ∷ [])

-- the rows that were listed are completed by a result behind them
pub completes : {A E : Type 0} (names : List (List ℕ)) (rows : List Row) (listed : List Item) (items : A → List Item) (r : Result A E)
    → GainsRows names rows [] listed → IfOk r (λ all. items all ≡ listed ++ Left no_count ∷ []) → IfOk r (λ all. Completes names rows (items all))
completes names rows listed items (Ok all) gains finished = (listed, gains, finished)
completes names rows listed items (Err e) gains finished = tt

-- completed, they are the rows of a text
pub gives_rows : {C A E : Type 0} (state : C → State) (text : List ℕ) (values : Row) (before prepared after : C) (outline : Outline) (rows : List Row) (items : A → List Item) (r : Result A E)
    → IsPrepared text (state before) (state prepared) outline → (HasCleanDisk (state after) → Shown text values (state prepared) (state after) rows)
    → IfOk r (λ all. Completes outline.columns rows (items all)) → IfOk r (λ all. GivesRows state text values before after (items all))
gives_rows state text values before prepared after outline rows items (Ok all) is shows (listed, gains, same) = (outline, prepared, rows, listed, is, shows, gains, same)
gives_rows state text values before prepared after outline rows items (Err e) is shows completed = tt

-- the rows of a text that has some are what it gives
pub gives_asked : {C A E : Type 0} (state : C → State) (text : List ℕ) (values : Row) (before asked after : C) (items : A → List Item) (r : Result A E)
    → HasRows text values (state before) (state asked) → IfOk r (λ all. GivesRows state text values asked after (items all)) → IfOk r (λ all. Gives state text values before after (items all))
gives_asked state text values before asked after items (Ok all) has gives = inr (asked, has, gives)
gives_asked state text values before asked after items (Err e) has gives = tt

-- the same by another name of the values
pub gives_as : {C A E : Type 0} (state : C → State) (text : List ℕ) (values due : Row) (before after : C) (items : A → List Item) (r : Result A E)
    → values ≡ due → IfOk r (λ all. Gives state text values before after (items all)) → IfOk r (λ all. Gives state text due before after (items all))
gives_as state text values due before after items r also gives = subst (λ row. IfOk r (λ all. Gives state text row before after (items all))) also gives

-- a text whose rows can't be shown after it was prepared is refused
pub refuses_shown : {C : Type 0} (state : C → State) (text : List ℕ) (values : Row) (before prepared after : C) (outline : Outline) (e : Error)
    → IsPrepared text (state before) (state prepared) outline → RefusesToShow text values (state prepared) (state after) e → RefusesRows state text values before after e
refuses_shown state text values before prepared after outline e is refuses = inr (outline, prepared, is, inl refuses)

-- and so is one whose rows are shown and have no form, unless memory is wanting
pub unfit_refused : {C : Type 0} (state : C → State) (text : List ℕ) (values : Row) (before prepared after : C) (outline : Outline) (rows : List Row) (e : Error)
    → IsPrepared text (state before) (state prepared) outline → (HasCleanDisk (state after) → Shown text values (state prepared) (state after) rows)
    → IsUnfit e → (e ≡ error.OutOfMemory) ⊎ RefusesRows state text values before after e
unfit_refused state text values before prepared after outline rows e is shows (inl none) = inr (inr (outline, prepared, is, inr (rows, shows, none)))
unfit_refused state text values before prepared after outline rows e is shows (inr wants) = inl wants

-- the same of a refusal
pub refuses_unfit : {C A X : Type 0} (state : C → State) (text : List ℕ) (values : Row) (before prepared after : C) (outline : Outline) (rows : List Row) (told : X → Error) (r : Result A X)
    → IsPrepared text (state before) (state prepared) outline → (HasCleanDisk (state after) → Shown text values (state prepared) (state after) rows)
    → IfErr r (λ x. IsUnfit (told x)) → IfErr r (λ x. (told x ≡ error.OutOfMemory) ⊎ RefusesRows state text values before after (told x))
refuses_unfit state text values before prepared after outline rows told (Ok all) is shows unfit = tt
refuses_unfit state text values before prepared after outline rows told (Err x) is shows unfit = unfit_refused state text values before prepared after outline rows (told x) is shows unfit

-- want of memory is a refusal of that kind
pub unfit_of : {A X : Type 0} (told : X → Error) (r : Result A X) → IfErr r (λ x. told x ≡ error.OutOfMemory) → IfErr r (λ x. IsUnfit (told x))
unfit_of told (Ok a) wants = tt
unfit_of told (Err x) wants = inr wants

-- a text is refused whose rows are
pub refuses_asked : {C A X : Type 0} (state : C → State) (text : List ℕ) (values : Row) (before asked after : C) (told : X → Error) (r : Result A X)
    → HasRows text values (state before) (state asked) → IfErr r (λ x. (told x ≡ error.OutOfMemory) ⊎ RefusesRows state text values asked after (told x))
    → IfErr r (λ x. (told x ≡ error.OutOfMemory) ⊎ RefusesQuery state text values before after (told x))
refuses_asked state text values before asked after told (Ok a) has refuses = tt
refuses_asked state text values before asked after told (Err x) has (inl wants) = inl wants
refuses_asked state text values before asked after told (Err x) has (inr refuses) = inr (inr (asked, has, refuses))

-- a refused query by another name of the values
pub refuses_as : {C A X : Type 0} (state : C → State) (text : List ℕ) (values due : Row) (before after : C) (W : X → Type 0) (told : X → Error) (r : Result A X)
    → values ≡ due → IfErr r (λ x. W x ⊎ RefusesQuery state text values before after (told x)) → IfErr r (λ x. W x ⊎ RefusesQuery state text due before after (told x))
refuses_as state text values due before after W told r also refuses = subst (λ row. IfErr r (λ x. W x ⊎ RefusesQuery state text row before after (told x))) also refuses

-- what holds where there is no count holds where that is so
pub where_none : {T P : Type 0} (count : Option T) → count ≡ None → IfNone count P → P
where_none {P = P} count none holds = subst (λ o. IfNone o P) none holds
