-- What the outside of a script answers: the letters of the present line.
use Rattle.std.specs.Prelude.{◌≡◌, ℕ, ◌==◌, ◌||◌, Bool, false, nat_lt, max, Option, Some, None, Result, Ok, Err, if◌then◌else◌}
use Rattle.sqlx_text.specs.declared.error.Error.{Error}
use Rattle.sqlx_text.specs.declared.error.Error.TheVariants.{Io, Database}
use Rattle.sqlx_text.specs.declared.io_fault.IoFault.TheVariants.{ConnectionRefused, Other}
use Rattle.sqlx_script.specs.declared.answers.PollAnswers.{PollAnswers}
use Rattle.sqlx_script.specs.declared.answers.GiveAnswers.{GiveAnswers}
use Rattle.sqlx_script.specs.declared.answers.ConnectAnswer.{ConnectAnswer}
use Rattle.sqlx_script.specs.declared.answers.ConnectAnswer.TheVariants.{Connected, Transient, ConnectIo, ConnectDatabase}
use Rattle.sqlx_script.specs.Built.{accepts}
use Rattle.mem_store.specs.Store.{Link}
use Rattle.sqlx_play.specs.declared.outside.ScriptOutside.{ScriptOutside}

-- the letters that a poll's line has
abbrev pub poll_letters : ScriptOutside → PollAnswers
poll_letters out = record { ping = out.ping; before_acquire = out.before_acquire; connect = out.connect; after_connect = out.after_connect; tests = out.tests }

-- a ping is answered: by its letter, where the letters answer this test yet
abbrev pub answers_ping : ScriptOutside → Bool
answers_ping out = (out.tests == 0) || out.ping

-- the hook before an acquire accepts: by its letter, where the letters answer this test yet
abbrev pub accepts_acquire : ScriptOutside → Bool
accepts_acquire out = (out.tests == 0) || accepts out.before_acquire

-- the letters that a give's line has
abbrev pub give_letters : ScriptOutside → GiveAnswers
give_letters out = record { after_release = out.after_release; ping = answers_ping out }

-- what the next connect is answered by
abbrev pub next_connect : ScriptOutside → ConnectAnswer
next_connect out = if nat_lt 0 out.opens then Connected else out.connect

-- whether a hook left a level open on the link of this number
abbrev pub is_left_open : Option ℕ → ℕ → Bool
is_left_open None number = false
is_left_open (Some left) number = left == number

-- the link on which a hook left a level open, if it is another than the one of this number
abbrev pub beside : ℕ → Option ℕ → Option ℕ
beside number None = None
beside number (Some left) = if left == number then None else Some left

-- how many levels of the link are open: one at least, where a hook left one open
abbrev pub depth_of : ScriptOutside → Link → ℕ
depth_of out link = if is_left_open out.left_open link.number then max 1 link.depth else link.depth

-- the letter that a refused connect had; None is want of memory
abbrev pub refused_by : Error → Option ConnectAnswer
refused_by (Io ConnectionRefused) = Some Transient
refused_by (Io Other) = Some ConnectIo
refused_by (Database fault) = Some ConnectDatabase
refused_by other = None

-- the letter, if it refuses
abbrev pub refusal_of : ConnectAnswer → Option ConnectAnswer
refusal_of Connected = None
refusal_of other = Some other

-- a connect by this letter gives this link, unless memory is wanting, or the letter's refusal
abbrev pub Opens : ConnectAnswer → Link → Result Link Error → Type 0
Opens letter link (Ok opened) = (letter ≡ Connected) × (opened ≡ link)
Opens letter link (Err error) = refused_by error ≡ refusal_of letter
