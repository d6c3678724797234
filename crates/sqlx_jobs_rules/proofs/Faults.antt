-- A run without the event of a fault.
use Rattle.std.proofs.Common.{◌≡◌, List, [], ◌∷◌, ◌++◌, sym, ap, subst, ◌∙◌, append_assoc, append-nil}
use Rattle.std.proofs.lemmas.List.{map-append}
use Rattle.sqlx_player.specs.Language.{Pairs, events_of}
use Rattle.sqlx_player.specs.Output.{pairs_after}
use Rattle.sqlx_player.proofs.scripts.Pairs.{pairs_after-nil, pairs_after-cons}
use Rattle.sqlx_jobs_rules.specs.declared.queue_line.QueueLine.{QueueLine}
use Rattle.sqlx_jobs_rules.specs.declared.event.Event.{Event}
use Rattle.sqlx_jobs_rules.specs.declared.reply.Reply.{Reply}
use Rattle.sqlx_jobs_rules.specs.declared.reply.Reply.TheVariants.{Fault}
use Rattle.sqlx_jobs_rules.specs.Jobs.{Jobs, reply_at, answer, jobs_rules}
use Rattle.sqlx_jobs_rules.specs.Laws.{run_of, AsIfItHadNotCome}
use Rattle.sqlx_jobs_rules.proofs.Jobs.{fault_leaves}
use Rattle.sqlx_jobs_rules.proofs.Runs.{Answered, answered_front, answered_behind, answered-append, run_answered}

-- what is answered behind a fault is answered where its event didn't come
answered_without : (queue : QueueLine) (before between rest : Pairs Event Reply) (event : Event) → Answered queue (before ++ (event, Fault) ∷ between) rest → Answered queue (before ++ between) rest
answered_without queue before between [] event a = tt
answered_without queue before between (pair ∷ rest) event a =
    let same : answer queue (before ++ (event, Fault) ∷ between) pair.0 ≡ answer queue (before ++ between) pair.0 =
    ap (λ (jobs : Jobs). reply_at queue.lease pair.0.moment jobs pair.0.act) (fault_leaves before between event) in
    let later : Answered queue (before ++ (event, Fault) ∷ (between ++ pair ∷ [])) rest = subst (λ (f : Pairs Event Reply). Answered queue f rest) (append_assoc before ((event, Fault) ∷ between) (pair ∷ [])) a.1 in
    (a.0 ∙ same, subst (λ (f : Pairs Event Reply). Answered queue f rest) (sym (append_assoc before between (pair ∷ []))) (answered_without queue before (between ++ pair ∷ []) rest event later))

-- answered pairs are the run of their events
answered_runs : (queue : QueueLine) (front rest : Pairs Event Reply) → Answered queue front rest → pairs_after jobs_rules queue front (events_of rest) ≡ front ++ rest
answered_runs queue front [] a = pairs_after-nil jobs_rules queue front ∙ sym (append-nil front)
answered_runs queue front (pair ∷ rest) a =
    pairs_after-cons jobs_rules queue front pair.0 (events_of rest)
    ∙ ap (λ (r : Reply). pairs_after jobs_rules queue (front ++ (pair.0, r) ∷ []) (events_of rest)) (sym a.0)
    ∙ answered_runs queue (front ++ pair ∷ []) rest a.1
    ∙ append_assoc front (pair ∷ []) rest

pub as_if_it_had_not_come : AsIfItHadNotCome
as_if_it_had_not_come queue events before after event is =
    let all : Answered queue [] (before ++ (event, Fault) ∷ after) = subst (Answered queue []) is (run_answered queue events) in
    let behind : Answered queue (before ++ (event, Fault) ∷ []) after = (answered_behind queue [] before ((event, Fault) ∷ after) all).1 in
    let without : Answered queue before after = subst (λ (f : Pairs Event Reply). Answered queue f after) (append-nil before) (answered_without queue before [] after event behind) in
    ap (λ (es : List Event). run_of queue es) (sym (map-append (λ (p : Event × Reply). p.0) before after))
    ∙ answered_runs queue [] (before ++ after) (answered-append queue [] before after (answered_front queue [] before ((event, Fault) ∷ after) all) without)
