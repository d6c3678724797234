-- Stages that stand for events and replies.
use Rattle.std.proofs.Common.{◌≡◌, ℕ, ◌+◌, ◌*◌, ◌^◌, ◌<◌, ◌≤◌, ◌-◌, true, List, [], ◌∷◌, ◌++◌, Option, Some, length, length-append, refl, sym, ap, subst, ◌∙◌, arith}
use Rattle.std.proofs.lemmas.List.{map-append}
use Rattle.sqlx_script.specs.declared.pool_line.PoolLine.{PoolLine}
use Rattle.sqlx_script.specs.declared.step.Event.{Event}
use Rattle.sqlx_script.specs.declared.reply.Reply.{Reply}
use Rattle.sqlx_script.specs.Built.{has_few_opens}
use Rattle.sqlx_script.specs.Grammar.{event_of}
use Rattle.sqlx_lines.specs.Words.{line_of}
use Rattle.sqlx_script.specs.Texts.{reply_text}
use Rattle.sqlx_script_rules.specs.Answer.{answer}
use Rattle.sqlx_script_rules.specs.Pairs.{Pairs}
use Rattle.sqlx_play.specs.stage.Scene.{Scene}
use Rattle.sqlx_play.specs.stage.StageStands.{StageStands, IsFresh, last_of, numbers_of}
use Rattle.sqlx_play.specs.stage.EventFrame.{Frame}
use Rattle.sqlx_play.specs.ScriptRuns.{runs_of, runs_after}
use Rattle.sqlx_player.specs.Language.{events_of}
use Rattle.sqlx_lines.specs.Scripts.{limit}
use Rattle.sqlx_player.specs.Responds.{IsDue}
use Rattle.sqlx_play.proofs.scripts.RunsAdded.{runs_of-push}
use Rattle.sqlx_script.specs.Grammar.{last_moment}
use Rattle.sqlx_script_rules.specs.Output.{pool_language}
use Rattle.sqlx_play.specs.StandsAt.{StandsAt}
use Rattle.sqlx_script.proofs.Moments.{last_moment-push, is_told}
use Rattle.sqlx_script.proofs.ToldLines.{line_few}

-- a new stage stands for no event
pub fresh_stands : (stage : Scene) (pool : PoolLine) → stage.pool ≡ pool → 1 ≤ pool.tries → IsFresh stage → StandsAt stage 0 pool []
fresh_stands stage pool same tries fresh = record {
  set_up = same;
  stands = fresh.stands;
  runs = fresh.runs;
  moment = refl;
  reached = omega (arith, fresh.last);
  numbers = fresh.numbers;
  tries = tries;
}

-- what an event that is due meets
pub due_few : (stage : Scene) (last : ℕ) (event : Event) → IsDue pool_language (StandsAt stage last) event → has_few_opens event.step ≡ true
due_few stage last event due = line_few due.first.counts_tests due.line event (is_told (last_moment (events_of due.pairs)) (event_of due.first.counts_tests due.line) event due.says).0

pub due_numbers : (stage : Scene) (last : ℕ) (event : Event) → IsDue pool_language (StandsAt stage last) event → numbers_of stage ≤ 2 ^ 62
due_numbers stage last event due = omega (arith, due.stands.numbers, due.few)

pub due_late : (stage : Scene) (last : ℕ) (event : Event) → IsDue pool_language (StandsAt stage last) event → last_of stage ≤ event.moment.0
due_late stage last event due =
    let late = (is_told (last_moment (events_of due.pairs)) (event_of due.first.counts_tests due.line) event due.says).1 in
    omega (arith, late, due.stands.moment, due.stands.reached)

-- the stage after an event
pub stands_after : (stage stage' : Scene) (last : ℕ) (event : Event) (reply : Reply) (pool : PoolLine) (pairs : Pairs) → StandsAt stage last pool pairs → length pairs < limit
    → Frame stage stage' event.moment.0 (2 ^ 20) → stage'.out.store.runs ≡ runs_after event.step reply stage.out.store.runs
    → ((ps : Pairs) → StageStands stage ps → (reply ≡ answer stage.pool ps event) × StageStands stage' (ps ++ (event, reply) ∷ []))
    → (reply ≡ answer pool pairs event) × StandsAt stage' event.moment.0 pool (pairs ++ (event, answer pool pairs event) ∷ [])
stands_after stage stage' last event reply pool pairs s few frame runs plays =
    let played = plays pairs s.stands in
    let is : reply ≡ answer pool pairs event = played.0 ∙ ap (λ (p : PoolLine). answer p pairs event) s.set_up in
    let long : length (pairs ++ (event, answer pool pairs event) ∷ []) ≡ length pairs + 1 = length-append pairs ((event, answer pool pairs event) ∷ []) in (
      is,
      record {
        set_up = frame.pool ∙ s.set_up;
        stands = subst (λ (r : Reply). StageStands stage' (pairs ++ (event, r) ∷ [])) is played.1;
        runs =
            runs
            ∙ ap (λ (r : Reply). runs_after event.step r stage.out.store.runs) is
            ∙ ap (runs_after event.step (answer pool pairs event)) s.runs
            ∙ sym (runs_of-push pairs (event, answer pool pairs event) (omega (arith, few)));
        moment = sym (ap last_moment (map-append (λ (p : Event × Reply). p.0) pairs ((event, answer pool pairs event) ∷ [])) ∙ last_moment-push (events_of pairs) event);
        reached = frame.last;
        numbers = omega (arith, frame.used, s.numbers, long);
        tries = s.tries;
      },
    )
