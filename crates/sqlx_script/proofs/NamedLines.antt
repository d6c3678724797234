-- The lines that begin with no name.
use Rattle.std.proofs.Common.{◌≡◌, ◌≢◌, ◌++◌, ◌==◌, ◌||◌, ℕ, Bool, true, false, cond, List, [], ◌∷◌, Option, Some, None, codes, drop, get_or, refl, sym, ap, ◌∙◌}
use Rattle.std.specs.Str.{bytes_eq}
use Rattle.std.proofs.lemmas.Bool.{eqb-true}
use Rattle.std.proofs.Common.{rules}
use Rattle.std.proofs.lemmas.Slice.Eq.{bytes_eq-Decides}
use Rattle.sqlx_lines.specs.Words.{is_blank, ends_word, has_end, has_newline, words_in_front, words_behind}
use Rattle.sqlx_lines.proofs.Fronts as fronts
use Rattle.sqlx_lines.proofs.Fronts.{split}
use Rattle.sqlx_lines.specs.Numbers.{◌>>=◌, millis}
use Rattle.sqlx_script.specs.Names.{text_of}
use Rattle.sqlx_script.specs.Grammar.{statement_of, step_of, event_words}
use Rattle.sqlx_script.specs.declared.names.Name.{Name}
use Rattle.sqlx_script.specs.declared.names.Name.TheVariants.{Ask, Poll, Cancel, Try, Give, End, Detach, Leak, Reap, Min, CloseState, Close, Begin, Custom, Put, Del, Get, Commit, Rollback, GiveUp}
use Rattle.sqlx_script.specs.declared.step.Event.{Event}
use Rattle.sqlx_script.specs.declared.step.Step.{Step}

-- ---- a blank stands behind a word that is not the last

same_words : (v w : List ℕ) (vs ws : List (List ℕ)) → v ∷ vs ≡ w ∷ ws → (v ≡ w) × (vs ≡ ws)
same_words v w vs ws h = (ap (λ x. get_or x 0 []) h, ap (drop 1) h)

abbrev Follows : List ℕ → List ℕ → Type 0
Follows text w = (rest : List ℕ) × (text ≡ w ++ 32 ∷ rest)

follows : (w rest v : List ℕ) (ws : List (List ℕ)) → ends_word (get_or rest 0 0) ≡ true → words_behind rest ≡ v ∷ ws → Follows (w ++ rest) w
follows w [] v ws end' h = cc
follows w (b ∷ rest) v ws end' h = blank (is_blank b) (b == 10) refl end' h
  where
    blank : (c d : Bool) → is_blank b ≡ c → (c || d) ≡ true → cond d [] (words_in_front rest) ≡ v ∷ ws → Follows (w ++ b ∷ rest) w
    blank true d is end' h = (rest, rw (eqb-true b 32 is) refl)
    blank false true is end' h = cc
    blank false false is end' h = cc

-- the first of two words and more, with the blank behind it, is in front
pub front : (text w v : List ℕ) (ws : List (List ℕ)) → has_newline text ≡ true → words_in_front text ≡ w ∷ v ∷ ws → Follows text w
front text w v ws some h =
    let first = split text some in
    let words = (fronts.front text first.w first.rest some first.is first.inside first.end').words in
    let both = same_words first.w w (words_behind first.rest) (v ∷ ws) (sym words ∙ h) in
    rw (first.is, both.0) (follows w first.rest v ws first.end' both.1)

-- ---- names have no end of a word

pub no_end : (name : Name) → has_end (text_of name) ≡ false
no_end Ask = refl
no_end Poll = refl
no_end Cancel = refl
no_end Try = refl
no_end Give = refl
no_end End = refl
no_end Detach = refl
no_end Leak = refl
no_end Reap = refl
no_end Min = refl
no_end CloseState = refl
no_end Close = refl
no_end Begin = refl
no_end Custom = refl
no_end Put = refl
no_end Del = refl
no_end Get = refl
no_end Commit = refl
no_end Rollback = refl
no_end GiveUp = refl

-- ---- no event goes by another name

other : (w text : List ℕ) → w ≢ text → bytes_eq w text ≡ false
other w text apart = search (rules, bytes_eq-Decides)

no_step : (counts_tests : Bool) (w : List ℕ) (fields : List (List ℕ)) → ((name : Name) → w ≢ text_of name) → step_of counts_tests w fields ≡ None
unfolding step_of statement_of
no_step counts_tests w fields h =
    rw (
      other w (codes "ask") (h Ask),
      other w (codes "poll") (h Poll),
      other w (codes "cancel") (h Cancel),
      other w (codes "try") (h Try),
      other w (codes "give") (h Give),
      other w (codes "end") (h End),
      other w (codes "detach") (h Detach),
      other w (codes "leak") (h Leak),
      other w (codes "reap") (h Reap),
      other w (codes "min") (h Min),
      other w (codes "closed") (h CloseState),
      other w (codes "close") (h Close),
      other w (codes "begin") (h Begin),
      other w (codes "custom") (h Custom),
      other w (codes "put") (h Put),
      other w (codes "del") (h Del),
      other w (codes "get") (h Get),
      other w (codes "commit") (h Commit),
      other w (codes "rollback") (h Rollback),
      other w (codes "giveup") (h GiveUp),
    ) refl

no_made : (o : Option ℕ) (s : Option Step) (f : ℕ → Step → Event) → s ≡ None → (o >>= λ ms. s >>= λ step. Some (f ms step)) ≡ None
no_made None s f h = refl
no_made (Some ms) s f h = rw h refl

-- words that begin with no name and another word are no event
pub no_event : (counts_tests : Bool) (words : List (List ℕ)) → ((name : Name) (w : List ℕ) (ws : List (List ℕ)) → words ≢ text_of name ∷ w ∷ ws)
    → event_words counts_tests words ≡ None
unfolding event_words
no_event counts_tests [] h = refl
no_event counts_tests (w ∷ []) h = refl
no_event counts_tests (w ∷ v ∷ ws) h = no_made (millis v) (step_of counts_tests w ws) _ (no_step counts_tests w ws (λ name e. h name v ws (ap (λ x. x ∷ v ∷ ws) e)))
