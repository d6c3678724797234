-- What a call tells of the first line of a text.
use Rattle.std.proofs.Common.{◌≡◌, ℕ, ◌<◌, true, List, ◌∷◌, Option, Some, None, IfSome, length, refl, sym, ap, ◌∙◌}
use Rattle.sqlx_lines.specs.Words.{lines_of, first_line, has_newline, behind_line}
use Rattle.sqlx_lines.specs.Rows.{with_behind}
use Rattle.sqlx_lines.specs.FirstLine.{told}
use Rattle.sqlx_lines.specs.declared.first_line.FirstLine.{FirstLine}
use Rattle.sqlx_lines.proofs.FirstLines.{lines_are, shorter}

abbrev said : {T : Type 0} → Option (T × List ℕ) → Option T
said (Some pair) = Some pair.0
said None = None

abbrev rest_of : {T : Type 0} → List ℕ → Option (T × List ℕ) → List ℕ
rest_of other (Some pair) = pair.1
rest_of other None = other

said_of : {T : Type 0} (behind : List ℕ) (o : Option T) → said (with_behind behind o) ≡ o
said_of behind (Some x) = refl
said_of behind None = refl

rest_is : {T : Type 0} (behind : List ℕ) (o : Option T) → rest_of behind (with_behind behind o) ≡ behind
rest_is behind (Some x) = refl
rest_is behind None = refl

-- the text behind a line that was told
pub told_behind : {T : Type 0} (r : Option (FirstLine T)) (line : FirstLine T) (text : List ℕ) (o : Option T) → r ≡ Some line → told r ≡ with_behind (behind_line text) o → line.behind.now ≡ behind_line text
told_behind r line text o is h = ap (rest_of (behind_line text)) (ap told (sym is) ∙ h) ∙ rest_is (behind_line text) o

-- what a line says that was told, and the lines that follow it
pub told_some : {T : Type 0} (r : Option (FirstLine T)) (line : FirstLine T) (text : List ℕ) (o : Option T) → r ≡ Some line → told r ≡ with_behind (behind_line text) o → 0 < length text
    → (o ≡ Some line.says) × (lines_of text ≡ first_line text ∷ lines_of line.behind.now)
told_some r line text o is h some =
    let tells = ap told (sym is) ∙ h in
    (sym (ap said tells ∙ said_of (behind_line text) o), rw (told_behind r line text o is h) (lines_are text some))

-- a line of which nothing was told says nothing
pub told_none : {T : Type 0} (r : Option (FirstLine T)) (behind : List ℕ) (o : Option T) → r ≡ None → told r ≡ with_behind behind o → o ≡ None
told_none r behind o is h = sym (ap said (ap told (sym is) ∙ h) ∙ said_of behind o)

-- the text behind the line that is told is shorter
pub told_shorter : {T : Type 0} (line : Option (FirstLine T)) (text : List ℕ) (o : Option T) → told line ≡ with_behind (behind_line text) o → has_newline text ≡ true
    → IfSome line (λ line. length line.behind.now < length text)
told_shorter (Some line) text o h some = let is = ap (rest_of (behind_line text)) h ∙ rest_is (behind_line text) o in rw is (shorter text some)
told_shorter None text o h some = tt
