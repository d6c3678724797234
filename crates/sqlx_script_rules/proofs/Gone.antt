-- What marks of openings leave of a history.
use Rattle.std.proofs.Common.{◌≡◌, ℕ, zero, suc, refl}
use Rattle.sqlx_savepoints.specs.Changes.{History}
use Rattle.sqlx_script_rules.specs.ScriptMarks.{openings}
use Rattle.sqlx_script_rules.specs.ScriptLevels.{gone_by}

-- what is opened takes no bracket away
pub gone-openings : (count n m : ℕ) (past : History) → gone_by (openings count n m) past ≡ past
gone-openings zero n m past = refl
gone-openings (suc count) n m past = gone-openings count (suc n) m past
