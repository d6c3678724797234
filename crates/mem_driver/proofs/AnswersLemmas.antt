-- Step lists: their numbers have 64 bits, and what an act gives has no errors.
use Rattle.std.proofs.Common.{◌≡◌, ℕ, ◌<◌, ◌||◌, false, cond, ℤ, pos, negsuc, w64, SFits, List, [], ◌∷◌, ◌++◌, map, Option, Result, Ok, Err, IfOk, refl, sym, subst, ap, ◌∙◌, ◌+◌, length, take, get_or, le-ltb, arith}
use Rattle.std.proofs.lemmas.List.{map-append, take_more}
use Rattle.std.specs.List.{AllByRecursion}
use Rattle.std.specs.FinMap.{entries}
use Rattle.either.specs.declared.Either.TheVariants.{Left, Right}
use Rattle.sqlx_text.specs.declared.fault.Fault.TheVariants as fault
use Rattle.sqlx_traits.specs.StepList.{StepCauses}
use Rattle.sqlx_any.specs.Rows.{RowParts}
use Rattle.sqlx_any_values.specs.TypedRead.{read_i64}
use Rattle.sqlx_any.specs.declared.arguments.AnyArguments.{AnyArguments}
use Rattle.sqlx_any_values.specs.declared.value.AnyValueKind.TheVariants.{BigInt}
use Rattle.mem_store.specs.Acts.{rows_seen, seen_by}
use Rattle.mem_store.specs.Store.{Session as Work}
use Rattle.mem_store.specs.declared.act.Act.{Act}
use Rattle.mem_store.specs.declared.act.Act.TheVariants.{Put, Delete, Get, SelectAll, SelectOne, Level}
use Rattle.mem_driver.specs.Answers.{Answers, IsI64, Item, RowsFit, done, found, listed, oks, pair_row, steps_of, value_of}

-- ---- numbers

reads : (n : ℤ) → SFits w64 n → read_i64 (BigInt n) ≡ Ok n
reads (pos n) fits = ap (λ b. cond b (Err fault.OutOfRange) (Ok (pos n))) (le-ltb 9_223_372_036_854_775_807 n (omega (arith, fits.sfits)))
reads (negsuc n) fits = ap (λ b. cond (b || false) (Err fault.OutOfRange) (Ok (negsuc n))) (le-ltb 9_223_372_036_854_775_807 n (omega (arith, fits.sfits)))

-- a number of 64 bits is read as such
pub is_i64 : (n : ℤ) → SFits w64 n → IsI64 (value_of n)
is_i64 n fits = (n, refl, reads n fits)

-- ---- rows and the items of a list

pub fit_pushed : (items : List Item) (row : RowParts) → RowsFit (oks items) → AllByRecursion IsI64 row.values → RowsFit (oks (items ++ Right row ∷ []))
fit_pushed [] row fit fits = (fits, tt)
fit_pushed (Left result ∷ items) row fit fits = fit_pushed items row fit fits
fit_pushed (Right other ∷ items) row fit fits = (fit.0, fit_pushed items row fit.1 fits)

pub fit_done : (items : List Item) (rows : ℕ) → RowsFit (oks items) → RowsFit (oks items ++ done rows)
fit_done [] rows fit = tt
fit_done (Left result ∷ items) rows fit = fit_done items rows fit
fit_done (Right row ∷ items) rows fit = (fit.0, fit_done items rows fit.1)

-- the rows as items of a list
abbrev pub rows_as_items : List RowParts → List Item
rows_as_items rows = map Right rows

pub listed-done : (rows : List RowParts) → oks (rows_as_items rows) ++ done 0 ≡ listed rows
listed-done [] = refl
listed-done (row ∷ rows) = ap (λ list. Ok (Right row) ∷ list) (listed-done rows)

module _ {E : Type 0} where
  -- a list of such items that is made
  pub all-steps : (made : Result Answers E) (items : List Item) (rows : List RowParts) → items ≡ rows_as_items rows → IfOk made (λ steps. steps ≡ oks items ++ done 0) → IfOk made (λ steps. steps ≡ listed rows)
  all-steps (Ok steps) items rows are is = is ∙ ap (λ some. oks some ++ done 0) are ∙ listed-done rows
  all-steps (Err e) items rows are is = tt

  pub all-fit : (made : Result Answers E) (items : List Item) → RowsFit (oks items) → IfOk made (λ steps. steps ≡ oks items ++ done 0) → IfOk made RowsFit
  all-fit (Ok steps) items fit is = subst RowsFit (sym is) (fit_done items 0 fit)
  all-fit (Err e) items fit is = tt

-- one more pair's row among the items
pub pushed-row : (pairs : List (ℤ × ℤ)) (at : ℕ) (none : ℤ × ℤ) (items items' : List Item) → at < length pairs → items ≡ rows_as_items (map pair_row (take at pairs))
    → items' ≡ items ++ Right (pair_row (get_or pairs at none)) ∷ [] → items' ≡ rows_as_items (map pair_row (take (at + 1) pairs))
pushed-row pairs at none items items' inside are is =
    is ∙ ap (λ before. before ++ Right (pair_row (get_or pairs at none)) ∷ []) are
    ∙ sym (ap (λ some. rows_as_items (map pair_row some)) (take_more pairs at none inside)
    ∙ ap rows_as_items (map-append pair_row (take at pairs) (get_or pairs at none ∷ []))
    ∙ map-append Right (map pair_row (take at pairs)) (pair_row (get_or pairs at none) ∷ []))

-- ---- no errors

listed_need_no_cause : (rows : List RowParts) (before now : ℕ) (arguments : Option AnyArguments) → StepCauses before now (Ok arguments) (listed rows)
listed_need_no_cause [] before now arguments = tt
listed_need_no_cause (row ∷ rows) before now arguments = listed_need_no_cause rows before now arguments

pub steps_need_no_cause : (act : Act) (work : Work) (before now : ℕ) (arguments : Option AnyArguments) → StepCauses before now (Ok arguments) (steps_of act work)
steps_need_no_cause (Put key value) work before now arguments = tt
steps_need_no_cause (Delete key) work before now arguments = tt
steps_need_no_cause (Get key) work before now arguments = listed_need_no_cause (found (seen_by key work)) before now arguments
steps_need_no_cause SelectAll work before now arguments = listed_need_no_cause (map pair_row (entries (rows_seen work))) before now arguments
steps_need_no_cause SelectOne work before now arguments = tt
steps_need_no_cause (Level level) work before now arguments = tt
