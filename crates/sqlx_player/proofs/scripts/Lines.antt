-- How far the lines after the first were played.
use Rattle.std.proofs.Common.{◌≡◌, ℕ, ◌+◌, ◌<◌, ◌≤◌, true, false, List, [], ◌∷◌, ◌++◌, Option, Some, None, refl, sym, ap, subst, ◌∙◌, append_assoc, append-nil, length, length-append, ◌==◌, eqb-true, arith}
use Rattle.std.specs.Io.KnownBytes.{Appends}
use Rattle.std.proofs.KnownBytes.{Appends-nil, Appends-trans}
use Rattle.sqlx_lines.specs.Words.{lines_of, first_line, behind_line}
use Rattle.sqlx_lines.specs.Rows.{with_behind}
use Rattle.sqlx_lines.specs.FirstLine.{told}
use Rattle.sqlx_lines.specs.declared.first_line.FirstLine.{FirstLine}
use Rattle.sqlx_lines.proofs.FirstLines.{lines_are, behind_shorter}
use Rattle.sqlx_lines.proofs.Readings.{event_next, none_next, end_next}
use Rattle.sqlx_lines.proofs.ToldLines.{told_some, told_none, told_behind}
use Rattle.sqlx_player.specs.Language.{Language, Pairs, events_of}
use Rattle.sqlx_lines.specs.Scripts.{Reading, reading_from, limit}
use Rattle.sqlx_player.specs.Responds.{IsDue}
use Rattle.sqlx_player.specs.Output.{pairs_after, replies_text}
use Rattle.sqlx_player.specs.Causes.{WrotePart}
use Rattle.sqlx_player.specs.Plays.{Replies, RepliesInPart, reading_of, PlaysLines, StopsAt, lines_pairs, lines_text}
use Rattle.sqlx_player.proofs.scripts.Pairs.{pairs_after-append, pairs_after-nil, pairs_after-push, pairs_after-front, events_after, length_after, replies_text-append, replies_text-push}

-- events, and what is read after them
abbrev pub after : {E : Type 0} → List E → Reading E → Reading E
after done reading = record { events = done ++ reading.events; bad = reading.bad }

-- Of the lines of a text the rest is left: line number is the next, and the events so far were played.
pub record PlayedSoFar {F E R : Type 0} (l : Language F E R) (Stands : F → Pairs E R → Type 0) (text rest : List ℕ) (number : ℕ) (before now : Option (List ℕ)) (first : F) : Type 0 where
  pub done : List E
  pub reads : reading_of l.grammar first text ≡ after done (reading_from l.grammar first number done (lines_of rest))
  pub written : Appends before now (replies_text l.rules (pairs_after l.rules first [] done))
  pub stands : Stands first (pairs_after l.rules first [] done)
  pub counted : length done + 2 ≡ number

-- nothing was played yet
abbrev pub begun : {F E R : Type 0} (l : Language F E R) (Stands : F → Pairs E R → Type 0) (text : List ℕ) (now : Option (List ℕ)) (first : F) → Stands first [] → PlayedSoFar l Stands text text 2 now now first
begun l Stands text now first fresh = record {
  done = [];
  reads = refl;
  written = subst (λ ps. Appends now now (replies_text l.rules ps)) (sym (pairs_after-nil l.rules first [])) (Appends-nil now);
  stands = subst (Stands first) (sym (pairs_after-nil l.rules first [])) fresh;
  counted = refl;
}

-- ---- what the next line says

-- what a call tells of the next line, by the pairs that a responder stands for
abbrev pub Tells : {F E R : Type 0} → Language F E R → (F → Pairs E R → Type 0) → List ℕ → Option (E × List ℕ) → Type 0
Tells {F} {E} {R} l Stands rest tells = (first : F) (pairs : Pairs E R) → Stands first pairs → tells ≡ with_behind (behind_line rest) (l.grammar.event_of first (events_of pairs) (first_line rest))

-- and by the events so far
tells_next : {F E R : Type 0} (l : Language F E R) (Stands : F → Pairs E R → Type 0) (text rest : List ℕ) (number : ℕ) (before now : Option (List ℕ)) (first : F) (t : Option (E × List ℕ))
    (w : PlayedSoFar l Stands text rest number before now first) → Tells l Stands rest t → t ≡ with_behind (behind_line rest) (l.grammar.event_of first w.done (first_line rest))
tells_next {F} {E} l Stands text rest number before now first t w tells =
    subst (λ (es : List E). t ≡ with_behind (behind_line rest) (l.grammar.event_of first es (first_line rest))) (events_after l.rules first [] w.done) (tells first (pairs_after l.rules first [] w.done) w.stands)

-- the next line is this event
pub is_next : {F E R : Type 0} (l : Language F E R) (Stands : F → Pairs E R → Type 0) (text rest : List ℕ) (number : ℕ) (before now : Option (List ℕ)) (first : F) (r : Option (FirstLine E)) (line : FirstLine E)
    (w : PlayedSoFar l Stands text rest number before now first) → r ≡ Some line → Tells l Stands rest (told r) → 0 < length rest
    → (l.grammar.event_of first w.done (first_line rest) ≡ Some line.says) × (lines_of rest ≡ first_line rest ∷ lines_of line.behind.now)
is_next l Stands text rest number before now first r line w is tells some =
    told_some r line rest (l.grammar.event_of first w.done (first_line rest)) is (tells_next l Stands text rest number before now first (told r) w tells) some

-- the text behind the next line is shorter
pub shorter_next : {F E R : Type 0} (l : Language F E R) (Stands : F → Pairs E R → Type 0) (text rest : List ℕ) (number : ℕ) (before now : Option (List ℕ)) (first : F) (r : Option (FirstLine E)) (line : FirstLine E)
    → PlayedSoFar l Stands text rest number before now first → r ≡ Some line → Tells l Stands rest (told r) → 0 < length rest → length line.behind.now < length rest
shorter_next l Stands text rest number before now first r line w is tells some =
    let same = told_behind r line rest (l.grammar.event_of first w.done (first_line rest)) is (tells_next l Stands text rest number before now first (told r) w tells) in
    rw same (behind_shorter rest some)

-- ---- what follows

-- the reading of the text, where the next line is this event
pub reads_event : {F E R : Type 0} (l : Language F E R) (Stands : F → Pairs E R → Type 0) (text rest rest' : List ℕ) (number : ℕ) (before now : Option (List ℕ)) (first : F) (e : E) (w : PlayedSoFar l Stands text rest number before now first)
    → l.grammar.event_of first w.done (first_line rest) ≡ Some e → lines_of rest ≡ first_line rest ∷ lines_of rest'
    → reading_of l.grammar first text ≡ after (w.done ++ e ∷ []) (reading_from l.grammar first (number + 1) (w.done ++ e ∷ []) (lines_of rest'))
reads_event {F} {E} l Stands text rest rest' number before now first e w is lines =
    let later = reading_from l.grammar first (number + 1) (w.done ++ e ∷ []) (lines_of rest') in
    w.reads
    ∙ ap (λ ls. after w.done (reading_from l.grammar first number w.done ls)) lines
    ∙ ap (after w.done) (event_next l.grammar first number w.done (first_line rest) (lines_of rest') e is)
    ∙ ap (λ (es : List E). record { events = es; bad = later.bad }) (sym (append_assoc w.done (e ∷ []) later.events))

pub longer : {E : Type 0} (done : List E) (e : E) (number : ℕ) → length done + 2 ≡ number → length (done ++ e ∷ []) + 2 ≡ number + 1
longer done e number is = let more : length (done ++ e ∷ []) ≡ length done + 1 = length-append done (e ∷ []) in omega (arith, is, more)

-- there are fewer pairs than a script has bytes
pub few_pairs : {F E R : Type 0} (l : Language F E R) (first : F) (done : List E) (rest : List ℕ) (number : ℕ) → length done + 2 ≡ number → 0 < length rest → number + length rest ≤ limit + 2 → length (pairs_after l.rules first [] done) < limit
few_pairs l first done rest number counted some few = rw (length_after l.rules first done) (omega (arith, counted, few, some))

-- the event of the next line is due
pub due : {F E R : Type 0} (l : Language F E R) (Stands : F → Pairs E R → Type 0) (text rest : List ℕ) (number : ℕ) (before now : Option (List ℕ)) (first : F) (r : Option (FirstLine E)) (line : FirstLine E)
    → PlayedSoFar l Stands text rest number before now first → r ≡ Some line → Tells l Stands rest (told r) → 0 < length rest
    → number + length rest ≤ limit + 2 → IsDue l Stands line.says
due {F} {E} l Stands text rest number before now first r line w is tells some few =
    let says = is_next l Stands text rest number before now first r line w is tells some in
    record {
      first = first;
      pairs = pairs_after l.rules first [] w.done;
      stands = w.stands;
      few = few_pairs l first w.done rest number w.counted some few;
      line = first_line rest;
      says = subst (λ (es : List E). l.grammar.event_of first es (first_line rest) ≡ Some line.says) (sym (events_after l.rules first [] w.done)) says.0;
    }

-- the next event was played
abbrev pub more : {F E R : Type 0} (l : Language F E R) (Stands Stands' : F → Pairs E R → Type 0) (text rest : List ℕ) (number : ℕ) (before now now' : Option (List ℕ)) (first : F) (r : Option (FirstLine E)) (line : FirstLine E)
    → PlayedSoFar l Stands text rest number before now first → r ≡ Some line → Tells l Stands rest (told r) → 0 < length rest
    → number + length rest ≤ limit + 2
    → Replies l Stands Stands' line.says now now'
    → PlayedSoFar l Stands' text line.behind.now (number + 1) before now' first
more l Stands Stands' text rest number before now now' first r line w is tells some few plays =
    let says = is_next l Stands text rest number before now first r line w is tells some in
    let pairs = pairs_after l.rules first [] w.done in
    let played = plays first pairs w.stands (few_pairs l first w.done rest number w.counted some few) in
    let pushed = pairs_after-push l.rules first [] w.done line.says in
    record {
      done = w.done ++ line.says ∷ [];
      reads = reads_event l Stands text rest line.behind.now number before now first line.says w says.0 says.1;
      written = subst (Appends before now') (sym (ap (replies_text l.rules) pushed ∙ replies_text-push l.rules pairs (line.says, l.rules.answer first pairs line.says))) (Appends-trans before now now' _ _ w.written played.0);
      stands = subst (Stands' first) (sym pushed) played.1;
      counted = longer w.done line.says number w.counted;
    }

-- the text of the lines, where the next line is an event
text_parts : {F E R : Type 0} (l : Language F E R) (Stands : F → Pairs E R → Type 0) (text rest rest' : List ℕ) (number : ℕ) (before now : Option (List ℕ)) (first : F) (e : E) (w : PlayedSoFar l Stands text rest number before now first)
    → l.grammar.event_of first w.done (first_line rest) ≡ Some e → lines_of rest ≡ first_line rest ∷ lines_of rest'
    → (tail : List ℕ) × ((replies_text l.rules (pairs_after l.rules first [] w.done) ++ l.rules.text_of (l.rules.answer first (pairs_after l.rules first [] w.done) e)) ++ tail ≡ lines_text l first text)
text_parts {F} {E} {R} l Stands text rest rest' number before now first e w is lines =
    let pairs = pairs_after l.rules first [] w.done in
    let later : Reading E = reading_from l.grammar first (number + 1) (w.done ++ e ∷ []) (lines_of rest') in
    let pair : E × R = (e, l.rules.answer first pairs e) in
    let events : (reading_of l.grammar first text).events ≡ (w.done ++ e ∷ []) ++ later.events = ap (λ (r : Reading E). r.events) (reads_event l Stands text rest rest' number before now first e w is lines) in
    let front = pairs_after-front l.rules first (pairs ++ pair ∷ []) later.events in
    let all : lines_pairs l first text ≡ (pairs ++ pair ∷ []) ++ front.0 =
    ap (pairs_after l.rules first []) events ∙ pairs_after-append l.rules first [] (w.done ++ e ∷ []) later.events ∙ ap (λ ps. pairs_after l.rules first ps later.events) (pairs_after-push l.rules first [] w.done e) ∙ front.1 in (
      replies_text l.rules front.0,
      sym (ap (replies_text l.rules) all ∙ replies_text-append l.rules (pairs ++ pair ∷ []) front.0 ∙ ap (λ xs. xs ++ replies_text l.rules front.0) (replies_text-push l.rules pairs pair)),
    )

-- the next event's reply was written in part
pub stopped : {F E R : Type 0} (l : Language F E R) (Stands : F → Pairs E R → Type 0) (text rest : List ℕ) (number : ℕ) (before now now' : Option (List ℕ)) (first : F) (r : Option (FirstLine E)) (line : FirstLine E)
    → PlayedSoFar l Stands text rest number before now first → r ≡ Some line → Tells l Stands rest (told r) → 0 < length rest
    → number + length rest ≤ limit + 2
    → RepliesInPart l Stands line.says now now'
    → WrotePart before now' (lines_text l first text)
stopped l Stands text rest number before now now' first r line w is tells some few writes =
    let says = is_next l Stands text rest number before now first r line w is tells some in
    let pairs = pairs_after l.rules first [] w.done in
    let part = writes first pairs w.stands (few_pairs l first w.done rest number w.counted some few) in
    let parts = text_parts l Stands text rest line.behind.now number before now first line.says w says.0 says.1 in
    let done = replies_text l.rules pairs in
    let joined : (done ++ part.front) ++ (part.rest ++ parts.0) ≡ (done ++ (part.front ++ part.rest)) ++ parts.0 = simp append_assoc in
    record {
      front = done ++ part.front;
      rest = part.rest ++ parts.0;
      parts = joined ∙ ap (λ xs. (done ++ xs) ++ parts.0) part.parts ∙ parts.1;
      written = Appends-trans before now now' done part.front w.written part.written;
    }

-- what the lines come to where the next one ends the reading
pub ended_text : {F E R : Type 0} (l : Language F E R) (Stands : F → Pairs E R → Type 0) (text rest : List ℕ) (number : ℕ) (before now : Option (List ℕ)) (first : F) (w : PlayedSoFar l Stands text rest number before now first) (bad : Option ℕ)
    → reading_from l.grammar first number w.done (lines_of rest) ≡ record { events = []; bad = bad } → reading_of l.grammar first text ≡ record { events = w.done; bad = bad }
ended_text {F} {E} l Stands text rest number before now first w bad e = w.reads ∙ ap (after w.done) e ∙ ap (λ (es : List E). record { events = es; bad = bad }) (append-nil w.done)

-- the next line is bad
pub stops : {F E R : Type 0} (l : Language F E R) (Stands : F → Pairs E R → Type 0) (text rest : List ℕ) (number : ℕ) (before now : Option (List ℕ)) (first : F) (r : Option (FirstLine E))
    → PlayedSoFar l Stands text rest number before now first → r ≡ None → Tells l Stands rest (told r) → 0 < length rest → StopsAt l text before now first number
stops {F} {E} l Stands text rest number before now first r w is tells some =
    let none = told_none r (behind_line rest) (l.grammar.event_of first w.done (first_line rest)) is (tells_next l Stands text rest number before now first (told r) w tells) in
    let next : reading_from l.grammar first number w.done (lines_of rest) ≡ record { events = []; bad = Some number } =
    ap (reading_from l.grammar first number w.done) (lines_are rest some) ∙ none_next l.grammar first number w.done (first_line rest) (lines_of (behind_line rest)) none in
    let reads = ended_text l Stands text rest number before now first w (Some number) next in
    record {
      bad = ap (λ (r : Reading E). r.bad) reads;
      written = subst (λ (es : List E). Appends before now (replies_text l.rules (pairs_after l.rules first [] es))) (sym (ap (λ (r : Reading E). r.events) reads)) w.written;
    }

-- a list of no element
pub no_element : (xs : List ℕ) → true ≡ (length xs == 0) → xs ≡ []
no_element [] h = refl
no_element (x ∷ xs) h = absurd (omega (arith, eqb-true (length (x ∷ xs)) 0 (sym h)))

pub some_element : (xs : List ℕ) → false ≡ (length xs == 0) → 0 < length xs
some_element [] h = cc
some_element (x ∷ xs) h = omega arith

-- no line is left
pub finished : {F E R : Type 0} (l : Language F E R) (Stands : F → Pairs E R → Type 0) (text rest : List ℕ) (number : ℕ) (before now : Option (List ℕ)) (first : F)
    → PlayedSoFar l Stands text rest number before now first → rest ≡ [] → PlaysLines l Stands text before now first
finished {F} {E} l Stands text rest number before now first w e =
    let next : reading_from l.grammar first number w.done (lines_of rest) ≡ record { events = []; bad = None } = ap (λ r. reading_from l.grammar first number w.done (lines_of r)) e ∙ end_next l.grammar first number w.done in
    let reads = ended_text l Stands text rest number before now first w None next in
    let events = sym (ap (λ (r : Reading E). r.events) reads) in
    record {
      good = ap (λ (r : Reading E). r.bad) reads;
      written = subst (λ (es : List E). Appends before now (replies_text l.rules (pairs_after l.rules first [] es))) events w.written;
      stands = subst (λ (es : List E). Stands first (pairs_after l.rules first [] es)) events w.stands;
    }
