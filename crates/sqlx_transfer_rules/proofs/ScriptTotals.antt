-- The events of a script are of its bank, and so its closing line tells what the accounts held at first.
use Rattle.std.proofs.Common.{◌≡◌, ℕ, ◌+◌, Bool, true, false, cond, Option, Some, None, List, [], ◌∷◌, ◌++◌, All, refl, ap, subst}
use Rattle.std.proofs.lemmas.List.Elements.{All-nil, All-cons}
use Rattle.sqlx_lines.specs.Words.{lines_of, whole}
use Rattle.sqlx_lines.specs.Scripts.{Script, reading_at, reading_from, script_after, script_lines}
use Rattle.sqlx_transfer_rules.specs.declared.bank_line.BankLine.{BankLine}
use Rattle.sqlx_transfer_rules.specs.declared.event.Event.{Event}
use Rattle.sqlx_transfer_rules.specs.Grammar.{is_in_range, in_range, event_words, event_at, opening_of}
use Rattle.sqlx_transfer_rules.specs.Texts.{total_text}
use Rattle.sqlx_transfer_rules.specs.Rules.{transfer_grammar}
use Rattle.sqlx_transfer_rules.specs.Laws.{IsOfBank, ClosesWithTheOpening}
use Rattle.sqlx_transfer_rules.proofs.Totals.{total_stays}

-- an event that a line says is in range
pub range_told : (accounts : ℕ) (o : Option Event) (event : Event) → in_range accounts o ≡ Some event → is_in_range accounts event ≡ true
range_told accounts None event is = cc
range_told accounts (Some x) event is = by (is_in_range accounts x) refl is
  where
    by : (b : Bool) → is_in_range accounts x ≡ b → cond b (Some x) None ≡ Some event → is_in_range accounts event ≡ true
    by true inside is = let same : x ≡ event = cc in subst (λ (e : Event). is_in_range accounts e ≡ true) same inside
    by false inside is = cc

events_inside : (bank : BankLine) (n : ℕ) (done : List Event) (lines : List (List ℕ)) → All (IsOfBank bank) (reading_from transfer_grammar bank n done lines).events
unfolding reading_from
events_inside bank n done [] = All-nil (IsOfBank bank)
events_inside bank n done (line ∷ lines) = by (event_at bank.accounts line) refl (λ event. events_inside bank (n + 1) (done ++ event ∷ []) lines)
  where
    by : (o : Option Event) → event_at bank.accounts line ≡ o → ((event : Event) → All (IsOfBank bank) (reading_from transfer_grammar bank (n + 1) (done ++ event ∷ []) lines).events)
        → All (IsOfBank bank) (reading_at n (λ event. reading_from transfer_grammar bank (n + 1) (done ++ event ∷ []) lines) o).events
    by None is rest = All-nil (IsOfBank bank)
    by (Some event) is rest = All-cons (IsOfBank bank) event (reading_from transfer_grammar bank (n + 1) (done ++ event ∷ []) lines).events (range_told bank.accounts (whole event_words line) event is) (rest event)

-- the events of a script
script_inside : (lines : List (List ℕ)) (script : Script BankLine Event) → script_lines transfer_grammar lines ≡ Some script → All (IsOfBank script.first) script.lines.events
unfolding script_lines
script_inside [] script is = cc
script_inside (line ∷ lines) script is = by (opening_of line) is
  where
    by : (o : Option BankLine) → script_after transfer_grammar o lines ≡ Some script → All (IsOfBank script.first) script.lines.events
    by None is = cc
    by (Some first) is =
        let same : record { first = first; lines = reading_from transfer_grammar first 2 [] lines } ≡ script = cc in
        subst (λ (s : Script BankLine Event). All (IsOfBank s.first) s.lines.events) same (events_inside first 2 [] lines)

pub closes_with_the_opening : ClosesWithTheOpening
closes_with_the_opening bytes script is = ap total_text (total_stays script.first script.lines.events (script_inside (lines_of bytes) script is.reads))
