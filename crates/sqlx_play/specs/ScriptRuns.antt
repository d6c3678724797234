-- How often each kind of text ran on the database of a script, by its events and replies.
use Rattle.std.specs.Prelude.{ℕ, Bool, if◌then◌else◌}
use Rattle.mem_store.specs.declared.runs.Runs.{Runs}
use Rattle.mem_store.specs.Acts.{counted}
use Rattle.sqlx_script.specs.declared.step.Step.{Step}
use Rattle.sqlx_script.specs.declared.reply.Reply.{Reply}
use Rattle.sqlx_script_rules.specs.ScriptTexts.{begins_level, ends_level, writes_row, reads_row, count_of}
use Rattle.sqlx_script_rules.specs.Pairs.{Pairs}

-- how often each kind of text ran for these events and replies
abbrev pub runs_of : Pairs → Runs
runs_of pairs = record { begun = count_of begins_level pairs; ended = count_of ends_level pairs; writes = count_of writes_row pairs; reads = count_of reads_row pairs }

-- one more where it counts, and no more at the greatest count
abbrev pub counted_if : Bool → ℕ → ℕ
counted_if counts n = if counts then counted n else n

-- the runs after a step and its reply
abbrev pub runs_after : Step → Reply → Runs → Runs
runs_after step r runs = record { begun = counted_if (begins_level step r) runs.begun; ended = counted_if (ends_level step r) runs.ended; writes = counted_if (writes_row step r) runs.writes; reads = counted_if (reads_row step r) runs.reads }
