-- Drafts of which no query was made yet, and that gain pieces.
use Rattle.std.proofs.Common.{◌≡◌, ℕ, false, List, [], ◌∷◌, refl, ap, ◌∙◌}
use Rattle.sqlx_query_drafts.specs.Builder.{Piece, Draft, with_piece, with_pieces, Gains}

built-with_pieces : {L : Type 0} (d : Draft L) (ps : List (Piece L)) → (with_pieces d ps).built ≡ d.built
built-with_pieces d [] = refl
built-with_pieces d (p ∷ ps) = built-with_pieces (with_piece d p) ps

-- pieces make no query
pub gains_open : {L : Type 0} (count : L → ℕ) (first : ℕ → L → L) (d e : Draft L) (ps : List (Piece L)) → d.built ≡ false → Gains count first d ps e → e.built ≡ false
gains_open count first d e ps unbuilt a = ap (λ x. x.built) a.1 ∙ built-with_pieces d ps ∙ unbuilt
