-- The reply to what a poll of the pool came to, and who owns what then.
use Rattle.std.specs.Prelude.{List, [], ◌∷◌, ◌++◌, Option, Some, None}
use Rattle.sqlx_pool_lists.specs.declared.steps.Lent.{Lent}
use Rattle.sqlx_pool_lists.specs.declared.steps.Polled.{Polled}
use Rattle.sqlx_pool_lists.specs.declared.steps.Polled.TheVariants as polled
use Rattle.sqlx_script.specs.declared.answers.ConnectAnswer.{ConnectAnswer}
use Rattle.sqlx_script.specs.declared.answers.ConnectAnswer.TheVariants.{ConnectIo, ConnectDatabase}
use Rattle.sqlx_script.specs.declared.reply.Reply.{Reply}
use Rattle.sqlx_script.specs.declared.reply.Reply.TheVariants as reply
use Rattle.mem_store.specs.Store.{Link}
use Rattle.sqlx_play.specs.outside.ScriptOutside.{refused_by}

-- the reply to a connect that was refused for good; none where memory was wanting
abbrev pub refusal_reply : Option ConnectAnswer → Option Reply
refusal_reply (Some ConnectIo) = Some reply.Io
refusal_reply (Some ConnectDatabase) = Some reply.DatabaseRefused
refusal_reply other = None

-- the reply; none where memory was wanting, or where the numbers of connections are used up
abbrev pub reply_of : Polled Link → Option Reply
reply_of polled.NotHeld = Some reply.NotHeld
reply_of polled.Closed = Some reply.PoolClosed
reply_of polled.TimedOut = Some reply.PoolTimedOut
reply_of polled.Exhausted = None
reply_of polled.Waiting = Some reply.Waiting
reply_of (polled.Backoff until) = Some (reply.Backoff until)
reply_of (polled.Ready lent) = Some (reply.Ready lent.id)
reply_of (polled.Refused error) = refusal_reply (refused_by error)

-- the connections that clients own after a poll: the one that is lent stands last
abbrev pub owned_after : Polled Link → List (Lent Link) → List (Lent Link)
owned_after (polled.Ready lent) owned = owned ++ lent ∷ []
owned_after other owned = owned
