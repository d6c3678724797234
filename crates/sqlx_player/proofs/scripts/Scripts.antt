-- What a whole text comes to, by its first line and the lines after it.
use Rattle.std.proofs.Common.{◌≡◌, ℕ, List, [], ◌++◌, Option, Some, None, sym, ap, subst, ◌∙◌, length, ◌<◌, ◌≤◌, append_assoc, arith}
use Rattle.std.specs.Io.KnownBytes.{Appends}
use Rattle.std.proofs.KnownBytes.{Appends-nil, Appends-trans}
use Rattle.sqlx_lines.specs.Words.{lines_of, first_line, behind_line}
use Rattle.sqlx_lines.specs.declared.first_line.FirstLine.{FirstLine}
use Rattle.sqlx_lines.proofs.FirstLines.{lines_are, behind_le}
use Rattle.sqlx_player.specs.Language.{Language, Pairs}
use Rattle.sqlx_player.specs.Responds.{Opens}
use Rattle.sqlx_lines.specs.Scripts.{Grammar, Script, script_after, script_lines, script_of, bad_line, limit}
use Rattle.sqlx_player.specs.Output.{closing_due, replies_due, output_due}
use Rattle.sqlx_player.specs.Causes.{WrotePart, StopsText}
use Rattle.sqlx_player.specs.Plays.{reading_of, PlaysLines, StopsAt, Plays, lines_pairs, lines_text}

-- what opening told, where it told a line
pub opens_some : {F E R A : Type 0} (l : Language F E R) (Stands : A → F → Pairs E R → Type 0) (text : List ℕ) (o : Option (FirstLine A)) (line : FirstLine A) → o ≡ Some line → Opens l Stands text o
    → (first : F) × (l.grammar.first_of (first_line text) ≡ Some first) × Stands line.says first [] × (line.behind.now ≡ behind_line text)
opens_some l Stands text o line is opens = subst (Opens l Stands text) is opens

pub opens_none : {F E R A : Type 0} (l : Language F E R) (Stands : A → F → Pairs E R → Type 0) (text : List ℕ) (o : Option (FirstLine A)) → o ≡ None → Opens l Stands text o → l.grammar.first_of (first_line text) ≡ None
opens_none l Stands text o is opens = subst (Opens l Stands text) is opens

-- the text behind the first line is no longer than the text
pub short_behind : (text behind : List ℕ) → length text ≤ limit → behind ≡ behind_line text → length behind ≤ limit
short_behind text behind short is = let less = behind_le text in rw is (omega (arith, less, short))

-- the script of a first line and of the lines in rest
abbrev pub script_with : {F E : Type 0} → Grammar F E → F → List ℕ → Script F E
script_with g first rest = record { first = first; lines = reading_of g first rest }

-- the script of a text whose first line says this, and of the text behind it
pub script_is : {F E : Type 0} (g : Grammar F E) (text rest : List ℕ) (first : F) → 0 < length text → g.first_of (first_line text) ≡ Some first → rest ≡ behind_line text
    → script_of g text ≡ Some (script_with g first rest)
unfolding script_lines
script_is g text rest first some is behind =
    ap (script_lines g) (lines_are text some) ∙ ap (λ f. script_after g f (lines_of (behind_line text))) is ∙ ap (λ r. Some (script_with g first r)) (sym behind)

pub no_script : {F E : Type 0} (g : Grammar F E) (text : List ℕ) → 0 < length text → g.first_of (first_line text) ≡ None → script_of g text ≡ None
unfolding script_lines
no_script g text some is = ap (script_lines g) (lines_are text some) ∙ ap (λ f. script_after g f (lines_of (behind_line text))) is

pub empty_script : {F E : Type 0} (g : Grammar F E) (text : List ℕ) → text ≡ [] → script_of g text ≡ None
unfolding script_lines
empty_script g text e = ap (script_of g) e

-- line 1 is bad
pub stops_at_first : {F E R : Type 0} (l : Language F E R) (text : List ℕ) (now : Option (List ℕ)) → script_of l.grammar text ≡ None → StopsText l text now now 1
stops_at_first {F} {E} l text now e = (ap bad_line e, subst (λ (s : Option (Script F E)). Appends now now (replies_due l.rules s)) (sym e) (Appends-nil now))

-- a line after the first is bad
pub stops_later : {F E R : Type 0} (l : Language F E R) (text rest : List ℕ) (first : F) (before now : Option (List ℕ)) (n : ℕ) → script_of l.grammar text ≡ Some (script_with l.grammar first rest) → StopsAt l rest before now first n → StopsText l text before now n
stops_later {F} {E} l text rest first before now n e s = (ap bad_line e ∙ s.bad, subst (λ (o : Option (Script F E)). Appends before now (replies_due l.rules o)) (sym e) s.written)

-- a part of the replies was written
pub part_of_replies : {F E R : Type 0} (l : Language F E R) (text rest : List ℕ) (first : F) (before now : Option (List ℕ)) → script_of l.grammar text ≡ Some (script_with l.grammar first rest) → WrotePart before now (lines_text l first rest)
    → WrotePart before now (output_due l.rules (script_of l.grammar text))
part_of_replies l text rest first before now e p =
    let due = closing_due l.rules (reading_of l.grammar first rest).bad (script_with l.grammar first rest) in
    record {
      front = p.front;
      rest = p.rest ++ due;
      parts = sym (append_assoc p.front p.rest due) ∙ ap (λ xs. xs ++ due) p.parts ∙ sym (ap (output_due l.rules) e);
      written = p.written;
    }

-- the replies and a part of the closing line were written
pub part_of_closing : {F E R : Type 0} (l : Language F E R) (Stands : F → Pairs E R → Type 0) (text rest : List ℕ) (first : F) (before mid now : Option (List ℕ)) → script_of l.grammar text ≡ Some (script_with l.grammar first rest)
    → PlaysLines l Stands rest before mid first
    → ((first : F) (pairs : Pairs E R) → Stands first pairs → WrotePart mid now (l.rules.closing first pairs)) → WrotePart before now (output_due l.rules (script_of l.grammar text))
part_of_closing l Stands text rest first before mid now e plays writes =
    let replies = lines_text l first rest in
    let p = writes first (lines_pairs l first rest) plays.stands in
    record {
      front = replies ++ p.front;
      rest = p.rest;
      parts =
          append_assoc replies p.front p.rest
          ∙ ap (λ xs. replies ++ xs) (p.parts ∙ ap (λ bad. closing_due l.rules bad (script_with l.grammar first rest)) (sym plays.good))
          ∙ sym (ap (output_due l.rules) e);
      written = Appends-trans before mid now replies p.front plays.written p.written;
    }

-- all was written
pub plays_text : {F E R : Type 0} (l : Language F E R) (Stands Stands' : F → Pairs E R → Type 0) (text rest : List ℕ) (first : F) (before mid now : Option (List ℕ)) → length text ≤ limit → script_of l.grammar text ≡ Some (script_with l.grammar first rest)
    → PlaysLines l Stands rest before mid first
    → ((first : F) (pairs : Pairs E R) → Stands first pairs → Appends mid now (l.rules.closing first pairs) × Stands' first pairs) → Plays l Stands' text before now
plays_text l Stands Stands' text rest first before mid now short e plays closes =
    let closed = closes first (lines_pairs l first rest) plays.stands in
    record {
      script = script_with l.grammar first rest;
      is_script = record { short = short; reads = e; good = plays.good };
      written = Appends-trans before mid now (lines_text l first rest) _ plays.written closed.0;
      stands = closed.1;
    }
