-- How a level ends.
use Rattle.sqlx_traits.specs.Calls.{Call, commit, rollback, start_rollback}
use Rattle.sqlx_play_levels.specs.declared.levels.End.{End}
use Rattle.sqlx_play_levels.specs.declared.levels.End.TheVariants.{Commit, Rollback, GiveUp}

-- the call by which a transaction ends a level so
abbrev pub call_of : End → Call
call_of Commit = commit
call_of Rollback = rollback
call_of GiveUp = start_rollback
