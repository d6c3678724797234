-- What the program says of a play.
use Rattle.std.proofs.Common.{◌≡◌, ℕ, List, Result, Ok, Err, IfErr, IsErrOf, subst}
use Rattle.sqlx_player.specs.declared.error.PlayError.{PlayError}
use Rattle.sqlx_player.specs.declared.error.PlayError.TheVariants.{Usage}
use Rattle.sqlx_player.specs.Language.{Pairs}
use Rattle.sqlx_player.specs.Causes.{Shown, TookAll, PlayCause}
use Rattle.sqlx_player.specs.Plays.{Plays}
use Rattle.sqlx_steps_rules.specs.declared.event.Event.{Event}
use Rattle.sqlx_steps_rules.specs.declared.reply.Reply.{Reply}
use Rattle.sqlx_steps_rules.specs.Rules.{steps_language}
use Rattle.sqlx_steps.specs.Program.{PlaysSteps}

-- what a play was, apart from the runner
pub plays_steps : (Stands : Unit {0} → Pairs Event Reply → Type 0) (s : Shown) → (bytes : List ℕ) × TookAll s.left_before s.left_now bytes × Plays steps_language Stands bytes s.written_before s.written_now → PlaysSteps s
plays_steps Stands s h = record { bytes = h.0; took = h.1; script = h.2.script; is_script = h.2.is_script; written = h.2.written }

-- a play is no wrong use
pub no_usage : {T : Type 0} (s : Shown) (result : Result T PlayError) → IfErr result (PlayCause steps_language s) → IsErrOf result Usage → ⊥
no_usage s (Ok done) cause is = cc
no_usage s (Err error) cause is = let same : error ≡ Usage = cc in subst (PlayCause steps_language s) same cause
