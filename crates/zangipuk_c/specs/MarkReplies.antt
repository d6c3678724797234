-- What a mark of the log is in numbers: kinds from 20 on, in the order of the marks.
use Rattle.std.specs.Prelude.{ℕ, ◌+◌, ◌-◌, ◌^◌, min}
use Rattle.sqlx_pool_marks.specs.declared.mark.Mark.{Mark}
use Rattle.sqlx_pool_marks.specs.declared.mark.Mark.TheVariants.{Asked, Left, Taken, Reaped, Opened, Lent, Kept, Closed, Detached, Leaked, Ended, Shut}
use Rattle.zangipuk_c.specs.declared.reply.Reply.{Reply}

-- the mark of this place among the marks, of a ticket or a connection, a client and a moment
abbrev pub marked : ℕ → ℕ → ℕ → ℕ → Reply
marked at id client moment = record { kind = 20 + at; id = id; raw = client; created = 0; when = moment; edge = 0 }

-- a mark; a deadline that is later than any moment is the largest number
abbrev pub mark_reply : Mark → Reply
mark_reply (Asked t k d) = marked 0 t k (min d (2 ^ 64 - 1))
mark_reply (Left t) = marked 1 t 0 0
mark_reply (Taken c) = marked 2 c 0 0
mark_reply (Reaped c) = marked 3 c 0 0
mark_reply (Opened c m) = marked 4 c 0 m
mark_reply (Lent k c) = marked 5 c k 0
mark_reply (Kept c m) = marked 6 c 0 m
mark_reply (Closed c) = marked 7 c 0 0
mark_reply (Detached c) = marked 8 c 0 0
mark_reply (Leaked c) = marked 9 c 0 0
mark_reply (Ended t) = marked 10 t 0 0
mark_reply Shut = marked 11 0 0 0
