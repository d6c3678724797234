-- What each call makes of the outside of a script.
use Rattle.std.specs.Prelude.{◌≡◌, ◌+◌, ◌-◌, ◌≤◌, Bool, true, false, ⊤, Result, IfOk, IfErr, OnOk, OnErr, is_ok}
use Rattle.sqlx_text.specs.declared.error.Error.{Error}
use Rattle.sqlx_text.specs.declared.error.Error.TheVariants.{OutOfMemory}
use Rattle.sqlx_pool_core.specs.Outside.{is_transient, says_yes, says_ok}
use Rattle.sqlx_pool_core.specs.Calls as call
use Rattle.sqlx_script.specs.declared.answers.ConnectAnswer.{ConnectAnswer}
use Rattle.sqlx_script.specs.declared.answers.ConnectAnswer.TheVariants.{Connected, Transient}
use Rattle.sqlx_script.specs.Letters.{answering}
use Rattle.sqlx_script.specs.Built.{accepts, sets_up}
use Rattle.mem_store.specs.Store.{Link, connected, new_link, closed_at}
use Rattle.sqlx_play.specs.declared.outside.ScriptOutside.{ScriptOutside}
use Rattle.sqlx_play.specs.outside.ScriptOutside.{Opens, answers_ping, accepts_acquire, beside, depth_of, next_connect, poll_letters, give_letters}

-- the letter's refusal may pass
abbrev pub is_passing : ConnectAnswer → Bool
is_passing Transient = true
is_passing other = false

-- A connect: the letter's link or the letter's refusal, or want of memory.
pub record Connects (result : Result Link Error) (old new : ScriptOutside) : Type 0 where
  pub opened : Opens (next_connect old) (new_link (old.store.given + 1)) result
  pub passing : IfErr result (λ e. is_transient e ≡ is_passing (next_connect old))
  pub want : IfErr result (λ e. next_connect old ≡ Connected → e ≡ OutOfMemory)
  pub rests : IfOk result (λ conn. depth_of new conn ≡ 0)
  pub store : OnOk result (new.store ≡ connected (old.store.given + 1) old.store)
  pub unopened : OnErr result (new.store ≡ old.store)
  pub letters : poll_letters new ≡ poll_letters old
  pub opens : new.opens ≡ old.opens - 1

-- A call that leaves the link, the store and the letters of a poll.
pub record Stays (conn now : Link) (old new : ScriptOutside) : Type 0 where
  pub link : now ≡ conn
  pub store : new.store ≡ old.store
  pub letters : poll_letters new ≡ poll_letters old
  pub opens : new.opens ≡ old.opens
  -- what was left open on another link stays
  pub left : beside conn.number new.left_open ≡ beside conn.number old.left_open

-- A close: it ends a test, and nothing is left open on its link.
pub record Closes (conn : Link) (old new : ScriptOutside) : Type 0 where
  pub store : new.store ≡ closed_at conn.depth old.store
  pub letters : poll_letters new ≡ answering (poll_letters old) (old.tests - 1)
  pub opens : new.opens ≡ old.opens
  pub left : new.left_open ≡ beside conn.number old.left_open

-- a connect and a ping that are refused, and a hook that refuses, are counted
abbrev pub Facts : call.Call Link (⊤) → ScriptOutside → ScriptOutside → Type 0
Facts c old new = call.Facts (λ out. out.faults) (λ out. out.refusals) depth_of (λ out. ⊤) c old new

-- what a call makes of the outside of a script; a hook says what its letter says of a link without an open level
abbrev pub Does : call.Call Link (⊤) → ScriptOutside → ScriptOutside → Type 0
Does (call.connect options result) old new = Connects result old new × Facts (call.connect options result) old new
Does (call.ping conn answer now) old new = (is_ok answer ≡ answers_ping old) × (new.left_open ≡ old.left_open) × Stays conn now old new × Facts (call.ping conn answer now) old new
Does (call.after_connect conn meta answer now) old new = (depth_of old conn ≡ 0 → says_ok answer (depth_of new now) ≡ sets_up old.after_connect) × Stays conn now old new × Facts (call.after_connect conn meta answer now) old new
Does (call.before_acquire conn meta answer now) old new = (depth_of old conn ≡ 0 → says_yes answer (depth_of new now) ≡ accepts_acquire old) × Stays conn now old new × Facts (call.before_acquire conn meta answer now) old new
Does (call.after_release conn meta answer now) old new =
    (depth_of old conn ≡ 0 → says_yes answer (depth_of new now) ≡ accepts old.after_release) × (depth_of old conn ≤ depth_of new now) × (now ≡ conn) × (new.store ≡ old.store) × (give_letters new ≡ give_letters old)
    × Facts (call.after_release conn meta answer now) old new
Does (call.close conn) old new = Closes conn old new × Facts (call.close conn) old new
Does (call.close_hard conn) old new = Closes conn old new × Facts (call.close_hard conn) old new

-- what is taken for granted of each call
pub does-facts : (c : call.Call Link (⊤)) (old new : ScriptOutside) → Does c old new → Facts c old new
does-facts (call.connect options result) old new d = d.1
does-facts (call.ping conn answer now) old new d = d.3
does-facts (call.after_connect conn meta answer now) old new d = d.2
does-facts (call.before_acquire conn meta answer now) old new d = d.2
does-facts (call.after_release conn meta answer now) old new d = d.5
does-facts (call.close conn) old new d = d.1
does-facts (call.close_hard conn) old new d = d.1
