-- Tuples of values, which a closure writes into rows.
use Rattle.std.specs.Prelude.{◌≡◌, ℕ, Bool, true, false, List, [], ◌∷◌, ◌++◌, codes, Result, Ok, Err}
use Rattle.sqlx_text.specs.declared.fault.Fault.{Fault}
use Rattle.sqlx_query_drafts.specs.declared.row_parts.RowParts.{RowParts}
use Rattle.sqlx_query_drafts.specs.Builder.{Piece, Text, Draft, with_piece, with_pieces, Gains, GainsBound, Appends, entry, opening, tuple, tuples_of}

-- the statement that a row continues
abbrev pub behind : {A L : Type 0} → (A → L) → RowParts A → Draft L
behind buffered row = record { initial = row.text.initial; text = row.text.text; arguments = buffered row.arguments; built = row.built }

-- the next entry of a row, with a comma before it unless it is the first
abbrev pub comma : {A L : Type 0} → RowParts A → Piece L → List (Piece L)
comma row p = entry row.has_piece (codes ", ") p

-- the row gains pieces
abbrev pub RowGains : {A L : Type 0} → (L → ℕ) → (ℕ → L → L) → (A → L) → List (Piece L) → RowParts A → RowParts A → Type 0
RowGains count first buffered ps before now = Gains count first (behind buffered before) ps (behind buffered now)

-- the row gains a bound value, at the placeholder of its last argument, and what stands around it
abbrev pub RowGainsBound : {A L : Type 0} → (ℕ → List ℕ) → (L → ℕ) → (ℕ → L → L) → (A → L) → (Piece L → List (Piece L)) → (L → L) → RowParts A → RowParts A → Type 0
RowGainsBound placeholder count first buffered around adds before now = GainsBound placeholder count first around adds (behind buffered before) (behind buffered now)

-- each call of the closure only appends to its row, also where it refuses the item
abbrev pub OnlyAppends : {F R T A L : Type 0} → (L → ℕ) → (ℕ → L → L) → (A → L) → (R → RowParts A) → (F → R → T → Result (Unit {0}) Fault → R → F → Type 0) → Type 0
OnlyAppends {F} {R} {T} count first buffered parts step = (f : F) (row : R) (item : T) (r : Result (Unit {0}) Fault) (left : R) (g : F)
    → step f row item r left g → Appends count first (behind buffered (parts row)) (behind buffered (parts left))

-- a call of the closure, in a row without entries that continues this draft, writes these pieces for the item
abbrev pub Wrote : {F R T A L : Type 0} → (L → ℕ) → (ℕ → L → L) → (A → L) → (R → RowParts A) → (F → R → T → Result (Unit {0}) Fault → R → F → Type 0)
    → F → T → Draft L → List (Piece L) → F → Type 0
Wrote {R = R} count first buffered parts step f item before ps g = (row : R) × (left : R) × (behind buffered (parts row) ≡ before) × ((parts row).has_piece ≡ false)
    × step f row item (Ok tt) left g × Gains count first before ps (behind buffered (parts left))

-- the second draft is the first with what a call of the closure wrote for the item
abbrev pub WritesRow : {F R T A L : Type 0} → (L → ℕ) → (ℕ → L → L) → (A → L) → (R → RowParts A) → (F → R → T → Result (Unit {0}) Fault → R → F → Type 0)
    → F → T → F → Draft L → Draft L → Type 0
WritesRow {L = L} count first buffered parts step f item g before now = (ps : List (Piece L)) × Wrote count first buffered parts step f item before ps g × Gains count first before ps now

-- the second draft is the first with that in parentheses
abbrev pub WritesTuple : {F R T A L : Type 0} → (L → ℕ) → (ℕ → L → L) → (A → L) → (R → RowParts A) → (F → R → T → Result (Unit {0}) Fault → R → F → Type 0)
    → Bool → F → T → F → Draft L → Draft L → Type 0
WritesTuple {L = L} count first buffered parts step later f item g before now = (ps : List (Piece L))
    × Wrote count first buffered parts step f item (with_pieces before (opening later)) ps g × Gains count first before (tuple later ps) now

-- the writer may write these pieces for the items, one call for each, behind the tuples before it, and be the last one then
abbrev pub WritesEach : {W T L : Type 0} → (W → T → Draft L → List (Piece L) → W → Type 0) → Bool → W → Draft L → List T → List (List (Piece L)) → W → Type 0
WritesEach writes later w before [] [] last = w ≡ last
WritesEach {W} writes later w before (x ∷ xs) (ps ∷ pss) last = (next : W) × writes w x (with_pieces before (opening later)) ps next
    × WritesEach writes true next (with_pieces before (tuple later ps)) xs pss last
WritesEach writes later w before xs pss last = ⊥

-- the second draft is the first with the tuples that the closure wrote for the drained items
abbrev pub WritesTuples : {F R T A L : Type 0} → (L → ℕ) → (ℕ → L → L) → (A → L) → (R → RowParts A) → (F → R → T → Result (Unit {0}) Fault → R → F → Type 0)
    → (List T → Type 0) → F → Draft L → Draft L → Type 0
WritesTuples {F} {R} {T} {A} {L} count first buffered parts step drained f before now =
    (items : List T) × (written : List (List (Piece L))) × (last : F)
    × drained items × WritesEach (Wrote count first buffered parts step) false f before items written last × Gains count first before (tuples_of written) now

-- the second draft is the first with a text, the tuples that the closure wrote for the drained items, and another text
abbrev pub GainsRows : {F R T A L : Type 0} → (L → ℕ) → (ℕ → L → L) → (A → L) → (R → RowParts A) → (F → R → T → Result (Unit {0}) Fault → R → F → Type 0)
    → (List T → Type 0) → F → List ℕ → List ℕ → Draft L → Draft L → Type 0
GainsRows {F} {R} {T} {A} {L} count first buffered parts step drained f head tail before now =
    (items : List T) × (written : List (List (Piece L))) × (last : F)
    × drained items × WritesEach (Wrote count first buffered parts step) false f (with_piece before (Text head)) items written last
    × Gains count first before (Text head ∷ (tuples_of written ++ Text tail ∷ [])) now

-- a call of the closure may refuse an item with the fault
abbrev pub RefusesTuple : {F R T : Type 0} → (F → R → T → Result (Unit {0}) Fault → R → F → Type 0) → Fault → Type 0
RefusesTuple {F} {R} {T} step fault = (f : F) × (row : R) × (item : T) × (left : R) × (g : F) × step f row item (Err fault) left g
