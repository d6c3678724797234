-- The texts of levels, and which of them the ANSI functions take at a depth.
use Rattle.std.specs.Prelude.{ℕ, zero, suc, List, ◌++◌, codes}
use Rattle.std.specs.Fmt.{decimal}
use Rattle.sqlx_savepoints.specs.declared.level_text.LevelText.{LevelText}
use Rattle.sqlx_savepoints.specs.declared.level_text.LevelText.TheVariants.{Begin, BeginImmediate, Commit, Rollback, Savepoint, Release, RollbackTo}

-- the text itself, a savepoint's number in decimal
abbrev pub text_of : LevelText → List ℕ
text_of Begin = codes "BEGIN"
text_of BeginImmediate = codes "BEGIN IMMEDIATE"
text_of Commit = codes "COMMIT"
text_of Rollback = codes "ROLLBACK"
text_of (Savepoint number) = codes "SAVEPOINT _sqlx_savepoint_" ++ decimal number
text_of (Release number) = codes "RELEASE SAVEPOINT _sqlx_savepoint_" ++ decimal number
text_of (RollbackTo number) = codes "ROLLBACK TO SAVEPOINT _sqlx_savepoint_" ++ decimal number

-- what begins a level at this depth
abbrev pub begin_at : ℕ → LevelText
begin_at zero = Begin
begin_at (suc depth) = Savepoint (suc depth)

-- what commits the innermost level at this depth, which is at least 1
abbrev pub commit_at : ℕ → LevelText
commit_at (suc (suc depth)) = Release (suc depth)
commit_at _ = Commit

-- what rolls the innermost level back at this depth, which is at least 1
abbrev pub rollback_at : ℕ → LevelText
rollback_at (suc (suc depth)) = RollbackTo (suc depth)
rollback_at _ = Rollback
