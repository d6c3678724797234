-- The reply to a statement with arguments, by what the statement comes to.
use Rattle.std.proofs.Common.{◌≡◌, inl, inr, cond, is_some, ℤ, Option, Some, None, Result, Ok, Err, refl, ap, ◌∙◌}
use Rattle.sqlx_text.specs.declared.error.Error.{Error}
use Rattle.sqlx_any_values.specs.declared.query_result.AnyQueryResult.{AnyQueryResult}
use Rattle.sqlx_script.specs.declared.reply.Reply.{Reply}
use Rattle.sqlx_script.specs.declared.reply.Reply.TheVariants as reply
use Rattle.mem_store.specs.declared.act.Act.{Act as Doing}
use Rattle.mem_store.specs.declared.act.Act.TheVariants as doing
use Rattle.mem_store.specs.declared.refusal.Refusal.{Refusal}
use Rattle.mem_store.specs.declared.refusal.Refusal.TheVariants.{Fault, Refused, Unread, Deep, Busy}
use Rattle.mem_store.specs.Store.{Session}
use Rattle.mem_store.specs.Acts.{refusal_of, seen_by}
use Rattle.mem_store.specs.Errors.{error_of}
use Rattle.mem_driver.specs.Answers.{result_of}
use Rattle.sqlx_play_acts.specs.ClientActs.{Gives, GivesThis, LeavesWanting, found_reply, left_by, left_met, ran_reply, refused_reply, reply_met, reply_on}
use Rattle.sqlx_play_levels.specs.Told.{Answered, Comes, Finds, after_met, by_refusal, found, reply_to, told_reply, written_reply}
use Rattle.sqlx_play_acts.specs.declared.act.Act.{Act}
use Rattle.sqlx_play_acts.specs.declared.act.Act.TheVariants.{Put, Delete, Get}

-- a refusal is told by its reply
pub told_refused : (reason : Refusal) → told_reply (error_of reason) ≡ Some (refused_reply reason)
told_refused Fault = refl
told_refused Refused = refl
told_refused Unread = refl
told_refused Deep = refl
told_refused Busy = refl

-- a reply is due
pub gives_some : {E : Type 0} (reply : Reply) (due : Option Reply) (left after : Session) (wanting : Session → Type 0) (result : Result Reply E) → due ≡ Some reply → after ≡ left → Answered due result → GivesThis reply left wanting result after
gives_some reply due left after wanting (Ok told) is at answered = (cc, at)
gives_some reply due left after wanting (Err none) is at answered = absurd cc

-- none is due, since memory was wanting
pub gives_none : {E : Type 0} (reply : Reply) (due : Option Reply) (left after : Session) (wanting : Session → Type 0) (result : Result Reply E) → due ≡ None → wanting after → Answered due result → GivesThis reply left wanting result after
gives_none reply due left after wanting (Ok told) is at answered = absurd cc
gives_none reply due left after wanting (Err none) is at answered = at

-- an act whose statement was done or refused
settles : {A E : Type 0} (act : Act) (statement : Doing) (reply_of : A → Reply) (due : Result A Error) (before after : Session) (met : Option Refusal) (answer : Result A Error) (result : Result Reply E)
    → reply_to reply_of due ≡ Some (ran_reply act before) → after_met statement before met ≡ left_met act before met
    → answer ≡ by_refusal due met → after ≡ after_met statement before met → Answered (reply_to reply_of answer) result
    → GivesThis (reply_met act before met) (left_met act before met) (LeavesWanting act before) result after
settles act statement reply_of due before after None answer result ran same is left answered =
    gives_some (ran_reply act before) (reply_to reply_of answer) (left_met act before None) after (LeavesWanting act before) result (ap (reply_to reply_of) is ∙ ran) (left ∙ same) answered
settles act statement reply_of due before after (Some reason) answer result ran same is left answered =
    gives_some (refused_reply reason) (reply_to reply_of answer) (left_met act before (Some reason)) after (LeavesWanting act before) result (ap (reply_to reply_of) is ∙ told_refused reason) (left ∙ same) answered

put_left : (key value : ℤ) (before : Session) (met : Option Refusal) → after_met (doing.Put key value) before met ≡ left_met (Put key value) before met
put_left key value before None = refl
put_left key value before (Some reason) = refl

pub put_gives : {E : Type 0} (key value : ℤ) (before : Session) (answer : Result AnyQueryResult Error) (result : Result Reply E) (after : Session)
    → Comes (doing.Put key value) (Ok (result_of 1)) before answer after → Answered (reply_to written_reply answer) result → Gives (Put key value) before result after
put_gives key value before answer result after (inl (is, left)) answered =
    let met = refusal_of (Some (doing.Put key value)) before in
    settles (Put key value) (doing.Put key value) written_reply (Ok (result_of 1)) before after met answer result refl (put_left key value before met) is left answered
put_gives key value before answer result after (inr (is, left)) answered = gives_none (reply_on (Put key value) before) (reply_to written_reply answer) (left_by (Put key value) before) after (LeavesWanting (Put key value) before) result (ap (reply_to written_reply) is) left answered

delete_left : (key : ℤ) (before : Session) (met : Option Refusal) → after_met (doing.Delete key) before met ≡ left_met (Delete key) before met
delete_left key before None = refl
delete_left key before (Some reason) = refl

pub delete_gives : {E : Type 0} (key : ℤ) (before : Session) (answer : Result AnyQueryResult Error) (result : Result Reply E) (after : Session)
    → Comes (doing.Delete key) (Ok (result_of (cond (is_some (seen_by key before)) 1 0))) before answer after → Answered (reply_to written_reply answer) result → Gives (Delete key) before result after
delete_gives key before answer result after (inl (is, left)) answered =
    let met = refusal_of (Some (doing.Delete key)) before in
    settles (Delete key) (doing.Delete key) written_reply (Ok (result_of (cond (is_some (seen_by key before)) 1 0))) before after met answer result refl (delete_left key before met) is left answered
delete_gives key before answer result after (inr (is, left)) answered = gives_none (reply_on (Delete key) before) (reply_to written_reply answer) (left_by (Delete key) before) after (LeavesWanting (Delete key) before) result (ap (reply_to written_reply) is) left answered

get_left : (key : ℤ) (before : Session) (met : Option Refusal) → after_met (doing.Get key) before met ≡ left_met (Get key) before met
get_left key before None = refl
get_left key before (Some reason) = refl

value_reply : (v : Option ℤ) → reply_to (λ value. reply.Value value) (found v) ≡ Some (found_reply v)
value_reply None = refl
value_reply (Some value) = refl

pub get_gives : {E : Type 0} (key : ℤ) (before : Session) (answer : Result ℤ Error) (result : Result Reply E) (after : Session)
    → Finds key before answer after → Answered (reply_to (λ value. reply.Value value) answer) result → Gives (Get key) before result after
get_gives key before answer result after (inl (inl (is, left))) answered =
    let met = refusal_of (Some (doing.Get key)) before in
    settles (Get key) (doing.Get key) (λ value. reply.Value value) (found (seen_by key before)) before after met answer result (value_reply (seen_by key before)) (get_left key before met) is left answered
get_gives key before answer result after (inl (inr (is, left))) answered =
    gives_none (reply_on (Get key) before) (reply_to (λ value. reply.Value value) answer) (left_by (Get key) before) after (LeavesWanting (Get key) before) result (ap (reply_to (λ value. reply.Value value)) is) (inl left) answered
get_gives key before answer result after (inr (is, left)) answered =
    gives_none (reply_on (Get key) before) (reply_to (λ value. reply.Value value) answer) (left_by (Get key) before) after (LeavesWanting (Get key) before) result (ap (reply_to (λ value. reply.Value value)) is)
    (inr (left ∙ get_left key before (refusal_of (Some (doing.Get key)) before))) answered
