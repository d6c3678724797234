-- The names of the events, as they are written.
use Rattle.std.specs.Prelude.{ℕ, List, codes}
use Rattle.sqlx_script.specs.declared.names.Name.{Name}
use Rattle.sqlx_script.specs.declared.names.Name.TheVariants.{Ask, Poll, Cancel, Try, Give, End, Detach, Leak, Reap, Min, CloseState, Close, Begin, Custom, Put, Del, Get, Commit, Rollback, GiveUp}

-- how a name is written
abbrev pub text_of : Name → List ℕ
text_of Ask = codes "ask"
text_of Poll = codes "poll"
text_of Cancel = codes "cancel"
text_of Try = codes "try"
text_of Give = codes "give"
text_of End = codes "end"
text_of Detach = codes "detach"
text_of Leak = codes "leak"
text_of Reap = codes "reap"
text_of Min = codes "min"
text_of CloseState = codes "closed"
text_of Close = codes "close"
text_of Begin = codes "begin"
text_of Custom = codes "custom"
text_of Put = codes "put"
text_of Del = codes "del"
text_of Get = codes "get"
text_of Commit = codes "commit"
text_of Rollback = codes "rollback"
text_of GiveUp = codes "giveup"
