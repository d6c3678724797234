-- The summary of what was written for a script.
use Rattle.std.specs.Prelude.{ℕ, ◌==◌, List, [], ◌∷◌, ◌++◌, if◌then◌else◌, codes}
use Rattle.std.specs.Fmt.{decimal}
use Rattle.std.specs.List.{starts_with, count_by}
use Rattle.sqlx_lines.specs.Words.{line_of}

-- one for a line that begins with these bytes
abbrev pub one_for : List ℕ → List ℕ → ℕ
one_for front line = if starts_with ◌==◌ line front then 1 else 0

-- how many of the lines begin with these bytes
abbrev pub beginning : List ℕ → List (List ℕ) → ℕ
beginning front lines = count_by (λ line. starts_with ◌==◌ line front) lines

-- the last of the lines, or another where there is none
abbrev pub last_of : List ℕ → List (List ℕ) → List ℕ
last_of other [] = other
last_of other (line ∷ lines) = last_of line lines

-- The summary of a script of so many lines for which these lines were written, the closing report last: how many of them begin with `ready `, are `kept`, and begin with `closed `; and the report.
abbrev pub summary_text : ℕ → List (List ℕ) → List ℕ
summary_text count lines =
    line_of (codes "lines " ++ decimal count)
    ++ line_of (codes "ready " ++ decimal (beginning (codes "ready ") lines))
    ++ line_of (codes "kept " ++ decimal (beginning (line_of (codes "kept")) lines))
    ++ line_of (codes "closed " ++ decimal (beginning (codes "closed ") lines))
    ++ last_of [] lines
