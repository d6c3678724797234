-- What a statement of a script does on a stage, by the database's statement.
use Rattle.std.specs.Prelude.{◌≡◌, ◌⊎◌, Bool, true, false, find, is_some, pos, ℕ, Option, Some, None, List, ◌∷◌, ◌++◌}
use Rattle.sqlx_pool_lists.specs.declared.steps.Lent.{Lent}
use Rattle.sqlx_pool_lists.specs.Core.{loan_of}
use Rattle.mem_store.specs.declared.answer.Answer.{Answer}
use Rattle.mem_store.specs.declared.answer.Answer.TheVariants as answer
use Rattle.mem_store.specs.Store.{Store, Link, Session}
use Rattle.sqlx_savepoints.specs.Events as bracket
use Rattle.sqlx_script.specs.declared.answers.StatementAnswer.{StatementAnswer}
use Rattle.sqlx_script.specs.declared.answers.StatementAnswer.TheVariants as letter
use Rattle.sqlx_script.specs.declared.step.Step.{Step}
use Rattle.sqlx_script.specs.declared.step.Step.TheVariants.{Begin, Custom, Put, Del, Get, Commit, Rollback, GiveUp}
use Rattle.sqlx_script.specs.declared.reply.Reply.{Reply}
use Rattle.sqlx_script.specs.declared.reply.Reply.TheVariants.{NotHeld}
use Rattle.sqlx_play_acts.specs.declared.act.Act.{Act}
use Rattle.sqlx_play_acts.specs.declared.act.Act.TheVariants as act
use Rattle.sqlx_play_acts.specs.ClientActs.{reply_on, left_by}
use Rattle.sqlx_play.specs.stage.Scene.{Scene}
use Rattle.sqlx_play.specs.declared.stage.loans.statements.Statement.{Statement}
use Rattle.sqlx_script_rules.specs.ScriptLevels as levels
use Rattle.sqlx_script_rules.specs.ScriptLevels.{met_of}
use Rattle.sqlx_play.specs.stage.LentLinks.{is_lent}

-- what meets the statement, as the script's letter says
abbrev pub answer_for : StatementAnswer → Answer
answer_for letter.Runs = answer.Accept
answer_for letter.StatementIo = answer.Io
answer_for letter.StatementRefused = answer.Refuse

-- a level is given up without a statement that could be refused
abbrev pub IsMet : Act → StatementAnswer → Type 0
IsMet act.GiveUp met = met ≡ letter.Runs
IsMet other met = Unit {0}

-- the act on this connection, as brackets see it
abbrev pub act_on : ℕ → Act → bracket.Act
act_on c act.Begin = bracket.begin c
act_on c (act.Custom starts) = bracket.custom c starts
act_on c (act.Put key value) = bracket.put c key value
act_on c (act.Delete key) = bracket.del c key
act_on c (act.Get key) = bracket.get c key
act_on c act.Commit = bracket.commit c
act_on c act.Rollback = bracket.roll_back c
act_on c act.GiveUp = bracket.give_up c

-- the statement as brackets see it
abbrev pub said : Statement → levels.Statement
said s = record { client = s.client; conn = s.connection; act = act_on s.connection s.act; met = met_of s.answer }

-- whether the step is a statement
abbrev pub acts : Step → Bool
acts (Begin client connection answer) = true
acts (Custom client connection begins answer) = true
acts (Put client connection key answer value) = true
acts (Del client connection key answer) = true
acts (Get client connection key answer) = true
acts (Commit client connection answer) = true
acts (Rollback client connection answer) = true
acts (GiveUp client connection) = true
acts other = false

-- what a statement's step does
abbrev pub done_by : Step → Option Act
done_by (Begin client connection answer) = Some act.Begin
done_by (Custom client connection begins answer) = Some (act.Custom begins)
done_by (Put client connection key answer value) = Some (act.Put (pos key) value)
done_by (Del client connection key answer) = Some (act.Delete (pos key))
done_by (Get client connection key answer) = Some (act.Get (pos key))
done_by (Commit client connection answer) = Some act.Commit
done_by (Rollback client connection answer) = Some act.Rollback
done_by (GiveUp client connection) = Some act.GiveUp
done_by other = None

-- the link at work, and the session that its act leaves
abbrev pub at_work : Store → Link → Statement → Session
at_work store link s = record { store = store; link = link; answer = answer_for s.answer }

-- the session that the act leaves
abbrev pub left_at : Store → Link → Statement → Session
left_at store link s = left_by s.act (at_work store link s)

-- The link of the connection did the act where it lies, and the others stay.
pub record RunsThere (s : Statement) (old new : List (Lent Link)) (store_old store_new : Store) (reply : Reply) : Type 0 where
  pub before : List (Lent Link)
  pub own : Lent Link
  pub after : List (Lent Link)
  pub lent : old ≡ before ++ own ∷ after
  pub is : own.id ≡ s.connection
  pub told : reply ≡ reply_on s.act (at_work store_old own.raw s)
  pub store : store_new ≡ (left_at store_old own.raw s).store
  pub links : new ≡ before ++ record own { raw = (left_at store_old own.raw s).link } ∷ after

-- The connection has no link, and nothing changed.
pub record RunsNowhere (s : Statement) (old new : List (Lent Link)) (store_old store_new : Store) : Type 0 where
  pub none : find (is_lent s.connection) old ≡ None
  pub store : store_new ≡ store_old
  pub links : new ≡ old

-- The client's connection did the act, on its link.
pub record RunsOnLink (old new : Scene) (s : Statement) (reply : Reply) : Type 0 where
  pub owned : is_some (loan_of s.client s.connection old.core.held) ≡ true
  pub ran : RunsThere s old.lent.items new.lent.items old.out.store new.out.store reply

-- The client has no such connection, and nothing changed.
pub record RunsNot (old new : Scene) (s : Statement) (reply : Reply) : Type 0 where
  pub told : reply ≡ NotHeld
  pub store : new.out.store ≡ old.out.store
  pub links : new.lent.items ≡ old.lent.items
  pub cause : (is_some (loan_of s.client s.connection old.core.held) ≡ false) ⊎ (find (is_lent s.connection) old.lent.items ≡ None)

-- The act was done on the client's connection, or the client has no such connection.
abbrev pub Runs : Scene → Scene → Statement → Reply → Type 0
Runs old new s reply = RunsOnLink old new s reply ⊎ RunsNot old new s reply
