-- What a statement with arguments comes to, by the run of its text.
use Rattle.std.proofs.Common.{◌≡◌, ◌⊎◌, inl, inr, true, cond, is_some, ℤ, [], ◌∷◌, Option, Some, None, Result, Ok, Err, refl, ap, subst, ◌∙◌}
use Rattle.sqlx_text.specs.declared.error.Error.{Error}
use Rattle.sqlx_text.specs.declared.error.Error.TheVariants as error
use Rattle.sqlx_traits.specs.StepList.{combined, results_of, rows_of, first_of, one_or}
use Rattle.sqlx_any_values.specs.Results.{no_result, with_next}
use Rattle.sqlx_any_values.specs.TypedRead.{read_i64}
use Rattle.sqlx_any_values.specs.declared.query_result.AnyQueryResult.{AnyQueryResult}
use Rattle.sqlx_any_values.specs.declared.value.AnyValue.{AnyValue}
use Rattle.sqlx_any_values.specs.declared.value.AnyValueKind.TheVariants.{BigInt}
use Rattle.mem_store.specs.declared.act.Act.{Act}
use Rattle.mem_store.specs.declared.act.Act.TheVariants.{Put, Delete, Get}
use Rattle.mem_store.specs.declared.refusal.Refusal.{Refusal}
use Rattle.mem_store.specs.declared.statement.Statement.TheVariants as text
use Rattle.mem_store.specs.Acts.{refusal_of, seen_by}
use Rattle.mem_store.specs.Statements.{statement_text}
use Rattle.mem_driver.specs.Answers.{Answers, IsI64, RowsFit, done, found as found_rows, listed, result_of, value_of}
use Rattle.mem_driver.specs.Backend.{Runs, answer_met, left_met}
use Rattle.mem_driver.specs.Session.{Session, noted_if}
use Rattle.sqlx_play_client.specs.Bound.{Executes, FindsNumber, ReadsRow}
use Rattle.sqlx_play_levels.specs.Told.{Comes, Finds, after_met, by_refusal, found}

-- the results of a run as one
abbrev combined_of : Answers → Result AnyQueryResult Error
combined_of list = combined with_next no_result (results_of list)

-- the store's session after the act, by the refusal that it meets
left_work : (act : Act) (session : Session) (met : Option Refusal) → (left_met (Some act) session met).work ≡ after_met act session.work met
left_work act session None = refl
left_work act session (Some reason) = refl

put_met : (key value : ℤ) (session : Session) (met : Option Refusal) → combined_of (answer_met (Some (Put key value)) session met) ≡ by_refusal (Ok (result_of 1)) met
put_met key value session None = refl
put_met key value session (Some reason) = refl

pub put_comes : (key value : ℤ) (before : Session) (answer : Result AnyQueryResult Error) (after : Session)
    → Executes Runs before (statement_text text.Put) (BigInt key ∷ BigInt value ∷ []) answer after → Comes (Put key value) (Ok (result_of 1)) before.work answer after.work
put_comes key value before answer after (list, inl (inl (inl acts), fits), is) =
    let session = noted_if true (statement_text text.Put) before in
    let met = refusal_of (Some (Put key value)) before.work in
    inl (is ∙ ap combined_of acts.0 ∙ put_met key value session met, ap (λ (s : Session). s.work) acts.1 ∙ left_work (Put key value) session met)
put_comes key value before answer after (list, inl (inl (inr lacks), fits), is) = inr (is ∙ ap combined_of lacks.0, ap (λ (s : Session). s.work) lacks.1)
put_comes key value before answer after (list, inl (inr lacks, fits), is) = inr (is ∙ ap combined_of lacks.0, ap (λ (s : Session). s.work) lacks.1)
put_comes key value before answer after (list, inr lacks, is) = inr (is ∙ ap combined_of lacks.0, ap (λ (s : Session). s.work) lacks.1)

one_or_none : (v : Option ℤ) → combined_of (done (cond (is_some v) 1 0)) ≡ Ok (result_of (cond (is_some v) 1 0))
one_or_none None = refl
one_or_none (Some n) = refl

delete_met : (key : ℤ) (session : Session) (met : Option Refusal) → combined_of (answer_met (Some (Delete key)) session met) ≡ by_refusal (Ok (result_of (cond (is_some (seen_by key session.work)) 1 0))) met
delete_met key session None = one_or_none (seen_by key session.work)
delete_met key session (Some reason) = refl

pub delete_comes : (key : ℤ) (before : Session) (answer : Result AnyQueryResult Error) (after : Session)
    → Executes Runs before (statement_text text.Delete) (BigInt key ∷ []) answer after → Comes (Delete key) (Ok (result_of (cond (is_some (seen_by key before.work)) 1 0))) before.work answer after.work
delete_comes key before answer after (list, inl (inl (inl acts), fits), is) =
    let session = noted_if true (statement_text text.Delete) before in
    let met = refusal_of (Some (Delete key)) before.work in
    inl (is ∙ ap combined_of acts.0 ∙ delete_met key session met, ap (λ (s : Session). s.work) acts.1 ∙ left_work (Delete key) session met)
delete_comes key before answer after (list, inl (inl (inr lacks), fits), is) = inr (is ∙ ap combined_of lacks.0, ap (λ (s : Session). s.work) lacks.1)
delete_comes key before answer after (list, inl (inr lacks, fits), is) = inr (is ∙ ap combined_of lacks.0, ap (λ (s : Session). s.work) lacks.1)
delete_comes key before answer after (list, inr lacks, is) = inr (is ∙ ap combined_of lacks.0, ap (λ (s : Session). s.work) lacks.1)

-- ---- a read

-- the first row of a list, or the error in its place
abbrev ReadsList : Answers → Result ℤ Error → Type 0
ReadsList list r = ReadsRow (one_or error.RowNotFound (first_of (rows_of list))) r

-- a value that fits 64 bits
fits_again : (value : ℤ) → IsI64 (value_of value) → read_i64 (BigInt value) ≡ Ok value
fits_again value (n, same, reads) =
    let kinds : BigInt value ≡ BigInt n = ap (λ (v : AnyValue). v.kind) same in
    let is : n ≡ value = cc in subst (λ (m : ℤ). read_i64 (BigInt m) ≡ Ok m) is reads

found_read : (v : Option ℤ) (r : Result ℤ Error) → RowsFit (listed (found_rows v)) → ReadsList (listed (found_rows v)) r → (r ≡ found v) ⊎ (r ≡ Err error.OutOfMemory)
found_read None r fits read = inl read
found_read (Some value) r fits read = read value (refl, refl, fits_again value fits.0.0)

get_met : (key : ℤ) (session : Session) (met : Option Refusal) (r : Result ℤ Error) → RowsFit (answer_met (Some (Get key)) session met) → ReadsList (answer_met (Some (Get key)) session met) r
    → (r ≡ by_refusal (found (seen_by key session.work)) met) ⊎ (r ≡ Err error.OutOfMemory)
get_met key session None r fits read = found_read (seen_by key session.work) r fits read
get_met key session (Some reason) r fits read = inl read

-- what the read is told as, and the session after it
get_told : (key : ℤ) (before : Session) (answer : Result ℤ Error) (after : Session) → after.work ≡ after_met (Get key) before.work (refusal_of (Some (Get key)) before.work)
    → (answer ≡ by_refusal (found (seen_by key before.work)) (refusal_of (Some (Get key)) before.work)) ⊎ (answer ≡ Err error.OutOfMemory) → Finds key before.work answer after.work
get_told key before answer after left (inl is) = inl (inl (is, left))
get_told key before answer after left (inr wants) = inr (wants, left)

pub get_comes : (key : ℤ) (before : Session) (answer : Result ℤ Error) (after : Session)
    → FindsNumber Runs before (statement_text text.Get) (BigInt key ∷ []) answer after → Finds key before.work answer after.work
get_comes key before answer after (list, inl (inl (inl acts), fits), read) =
    let session = noted_if true (statement_text text.Get) before in
    let met = refusal_of (Some (Get key)) before.work in
    get_told key before answer after (ap (λ (s : Session). s.work) acts.1 ∙ left_work (Get key) session met)
    (get_met key session met answer (subst RowsFit acts.0 fits) (subst (λ l. ReadsList l answer) acts.0 read))
get_comes key before answer after (list, inl (inl (inr lacks), fits), read) = inl (inr (subst (λ l. ReadsList l answer) lacks.0 read, ap (λ (s : Session). s.work) lacks.1))
get_comes key before answer after (list, inl (inr lacks, fits), read) = inl (inr (subst (λ l. ReadsList l answer) lacks.0 read, ap (λ (s : Session). s.work) lacks.1))
get_comes key before answer after (list, inr lacks, read) = inl (inr (subst (λ l. ReadsList l answer) lacks.0 read, ap (λ (s : Session). s.work) lacks.1))
