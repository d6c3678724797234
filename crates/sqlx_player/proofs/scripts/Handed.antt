-- By which writes the lines were answered.
use Rattle.std.proofs.Common.{◌≡◌, ℕ, ◌+◌, ◌<◌, ◌≤◌, List, [], Option, Some, None, sym, ap, subst, ◌∙◌, length}
use Rattle.sqlx_lines.specs.Words.{lines_of}
use Rattle.sqlx_lines.specs.FirstLine.{told}
use Rattle.sqlx_lines.specs.declared.first_line.FirstLine.{FirstLine}
use Rattle.sqlx_lines.specs.Scripts.{Reading, reading_from, script_of, limit}
use Rattle.sqlx_lines.proofs.Readings.{end_next}
use Rattle.sqlx_player.specs.Language.{Language, Pairs}
use Rattle.sqlx_player.specs.Pieces.{GrowsBy, pieces_of}
use Rattle.sqlx_player.specs.Output.{pairs_after, replies_pieces, pieces_due}
use Rattle.sqlx_player.specs.Plays.{Replies, HandsReply, lines_pairs, lines_pieces, PlaysLines}
use Rattle.sqlx_player.proofs.Pieces.{GrowsBy-nil, GrowsBy-trans}
use Rattle.sqlx_player.proofs.scripts.Pairs.{pairs_after-nil, pairs_after-push, replies_pieces-push}
use Rattle.sqlx_player.proofs.scripts.Lines.{PlayedSoFar, Tells, begun, more, few_pairs, ended_text}
use Rattle.sqlx_player.proofs.scripts.Scripts.{script_with}

-- The lines before the rest were played, a piece for each reply.
pub record HandedLines {F E R : Type 0} (l : Language F E R) (Stands : F → Pairs E R → Type 0) (text rest : List ℕ) (number : ℕ) (before now : Option (List ℕ)) (pieces_before pieces_now : Option (List (List ℕ))) (first : F) : Type 0 where
  pub played : PlayedSoFar l Stands text rest number before now first
  pub handed : GrowsBy pieces_before pieces_now (replies_pieces l.rules (pairs_after l.rules first [] played.done))

-- nothing was played yet
pub begins : {F E R : Type 0} (l : Language F E R) (Stands : F → Pairs E R → Type 0) (text : List ℕ) (now : Option (List ℕ)) (pieces : Option (List (List ℕ))) (first : F) → Stands first []
    → HandedLines l Stands text text 2 now now pieces pieces first
begins l Stands text now pieces first fresh = record {
  played = begun l Stands text now first fresh;
  handed = subst (λ ps. GrowsBy pieces pieces (replies_pieces l.rules ps)) (sym (pairs_after-nil l.rules first [])) (GrowsBy-nil pieces);
}

-- one more line was played
pub goes_on : {F E R : Type 0} (l : Language F E R) (Stands Stands' : F → Pairs E R → Type 0) (text rest : List ℕ) (number : ℕ) (before now now' : Option (List ℕ)) (p q q' : Option (List (List ℕ))) (first : F) (r : Option (FirstLine E)) (line : FirstLine E)
    → HandedLines l Stands text rest number before now p q first → r ≡ Some line → Tells l Stands rest (told r) → 0 < length rest
    → number + length rest ≤ limit + 2
    → Replies l Stands Stands' line.says now now'
    → HandsReply l Stands line.says q q'
    → HandedLines l Stands' text line.behind.now (number + 1) before now' p q' first
goes_on l Stands Stands' text rest number before now now' p q q' first r line w is tells some few plays hands =
    let done = w.played.done in
    let pairs = pairs_after l.rules first [] done in
    let piece = hands first pairs w.played.stands (few_pairs l first done rest number w.played.counted some few) in
    let pushed = ap (replies_pieces l.rules) (pairs_after-push l.rules first [] done line.says) ∙ replies_pieces-push l.rules pairs (line.says, l.rules.answer first pairs line.says) in
    record {
      played = more l Stands Stands' text rest number before now now' first r line w.played is tells some few plays;
      handed = subst (GrowsBy p q') (sym pushed) (GrowsBy-trans p q q' (replies_pieces l.rules pairs) _ w.handed piece);
    }

-- no line is left
pub all_handed : {F E R : Type 0} (l : Language F E R) (Stands : F → Pairs E R → Type 0) (text rest : List ℕ) (number : ℕ) (before now : Option (List ℕ)) (p q : Option (List (List ℕ))) (first : F)
    → HandedLines l Stands text rest number before now p q first → rest ≡ [] → GrowsBy p q (lines_pieces l first text)
all_handed {F} {E} l Stands text rest number before now p q first w e =
    let done = w.played.done in
    let next : reading_from l.grammar first number done (lines_of rest) ≡ record { events = []; bad = None } = ap (λ r. reading_from l.grammar first number done (lines_of r)) e ∙ end_next l.grammar first number done in
    let events = ap (λ (r : Reading E). r.events) (ended_text l Stands text rest number before now first w.played None next) in
    subst (λ (es : List E). GrowsBy p q (replies_pieces l.rules (pairs_after l.rules first [] es))) (sym events) w.handed

-- a whole text
pub text_handed : {F E R : Type 0} (l : Language F E R) (Stands : F → Pairs E R → Type 0) (text rest : List ℕ) (first : F) (before mid : Option (List ℕ)) (p q q' : Option (List (List ℕ))) → script_of l.grammar text ≡ Some (script_with l.grammar first rest)
    → PlaysLines l Stands rest before mid first → GrowsBy p q (lines_pieces l first rest)
    → ((first : F) (pairs : Pairs E R) → Stands first pairs → GrowsBy q q' (pieces_of (l.rules.closing first pairs)))
    → GrowsBy p q' (pieces_due l.rules (script_of l.grammar text))
text_handed l Stands text rest first before mid p q q' e plays lines closes =
    let closed = closes first (lines_pairs l first rest) plays.stands in
    subst (GrowsBy p q') (sym (ap (pieces_due l.rules) e)) (GrowsBy-trans p q q' (lines_pieces l first rest) _ lines closed)
