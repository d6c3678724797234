-- Rows that only gain pieces: the lemmas for closures that write tuples.
use Rattle.std.proofs.Common.{◌≡◌, ℕ, Bool, false, List, [], ◌∷◌, ◌++◌, Result, Ok, Err, sym, subst}
use Rattle.sqlx_text.specs.declared.fault.Fault.{Fault}
use Rattle.sqlx_traits.specs.Arguments.{AddsOne}
use Rattle.sqlx_query_drafts.specs.declared.row_parts.RowParts.{RowParts}
use Rattle.sqlx_query_drafts.specs.Builder.{Piece, Text, Bound, Draft, with_piece, entry, Gains, Appends}
use Rattle.sqlx_query_drafts.specs.Tuples.{behind, OnlyAppends, RefusesTuple, WritesRow}
use Rattle.sqlx_query.proofs.DraftLemmas.{gains_then}

module _ {L : Type 0} (count : L → ℕ) (first : ℕ → L → L) where
  -- nothing
  pub appends_none : (d e : Draft L) → e ≡ d → Appends count first d e
  appends_none d e same = record { pieces = []; gains = (tt, same) }

  -- pieces that are known
  pub appends_some : (d e : Draft L) (ps : List (Piece L)) → Gains count first d ps e → Appends count first d e
  appends_some d e ps gained = record { pieces = ps; gains = gained }

  -- pieces, and pieces again
  pub appends_then : (d e h : Draft L) → Appends count first d e → Appends count first e h → Appends count first d h
  appends_then d e h a b = record { pieces = a.pieces ++ b.pieces; gains = gains_then count first d e h a.pieces b.pieces a.gains b.gains }

  -- what is gained between equal drafts
  pub moved : (d b c e : Draft L) (ps : List (Piece L)) → b ≡ d → e ≡ c → Gains count first b ps c → Gains count first d ps e
  moved d b c e ps taken put gained =
      let From : Draft L → Type 0 = λ x. Gains count first x ps e in
      let To : Draft L → Type 0 = λ x. Gains count first b ps x in
      subst From taken (subst To (sym put) gained)

  -- the same of an entry of a list
  pub moved_entry : (d b c e : Draft L) (has later : Bool) (separator : List ℕ) (p : Piece L) → b ≡ d → e ≡ c → has ≡ later
      → Gains count first b (entry has separator p) c → Gains count first d (entry later separator p) e
  moved_entry d b c e has later separator p taken put same gained =
      let At : Bool → Type 0 = λ x. Gains count first b (entry x separator p) c in
      moved d b c e (entry later separator p) taken put (subst At same gained)

  -- a text that is appended between equal drafts
  pub moved_text : (d b c e : Draft L) (t : List ℕ) → b ≡ d → e ≡ c → c ≡ with_piece b (Text t) → Appends count first d e
  moved_text d b c e t taken put wrote = appends_some d e (Text t ∷ []) (moved d b c e (Text t ∷ []) taken put (tt, wrote))

  -- a value that is bound between equal drafts
  pub moved_bound : (d b c e : Draft L) (placeholder : List ℕ) (adds : L → L) → b ≡ d → e ≡ c → c ≡ with_piece b (Bound placeholder adds)
      → AddsOne count first b.arguments c.arguments → Appends count first d e
  moved_bound d b c e placeholder adds taken put bound one =
      let At : Draft L → Type 0 = λ x. AddsOne count first b.arguments x.arguments in
      let ps : List (Piece L) = Bound placeholder adds ∷ [] in
      appends_some d e ps (moved d b c e ps taken put ((subst At bound one, tt), bound))

  module _ {F R T A : Type 0} (buffered : A → L) (parts : R → RowParts A) (step : F → R → T → Result (Unit {0}) Fault → R → F → Type 0) where
    -- what a call of a closure wrote into the row of a draft
    pub row_written : (f : F) (row : R) (item : T) (left : R) (g : F) (before now : Draft L) → OnlyAppends count first buffered parts step
        → step f row item (Ok tt) left g → behind buffered (parts row) ≡ before → (parts row).has_piece ≡ false → now ≡ behind buffered (parts left)
        → WritesRow count first buffered parts step f item g before now
    row_written f row item left g before now works called taken none put =
        let wrote : Appends count first (behind buffered (parts row)) (behind buffered (parts left)) = works f row item (Ok tt) left g called in
        let From : Draft L → Type 0 = λ x. Gains count first x wrote.pieces (behind buffered (parts left)) in
        let gained : From before = subst From taken wrote.gains in
        let To : Draft L → Type 0 = λ x. Gains count first before wrote.pieces x in
        (wrote.pieces, (row, left, taken, none, called, gained), subst To (sym put) gained)

-- what a call of a closure refused
pub row_refused : {F R T : Type 0} (step : F → R → T → Result (Unit {0}) Fault → R → F → Type 0) (f : F) (row : R) (item : T) (fault : Fault) (left : R) (g : F)
    → step f row item (Err fault) left g → RefusesTuple step fault
row_refused step f row item fault left g called = (f, row, item, left, g, called)
