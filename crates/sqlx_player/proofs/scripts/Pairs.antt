-- The pairs that events bring about, and their text.
use Rattle.std.proofs.Common.{◌≡◌, List, [], ◌∷◌, ◌++◌, length, refl, sym, ap, ◌∙◌, append_assoc, append-nil, ℕ}
use Rattle.std.proofs.lemmas.List.{map-append, length-map}
use Rattle.std.proofs.lemmas.List.Concat.{flat_map-append}
use Rattle.sqlx_player.specs.Language.{Rules, Pairs, events_of}
use Rattle.sqlx_player.specs.Output.{pairs_after, replies_text, replies_pieces}
use Rattle.sqlx_player.specs.Pieces.{pieces_of}

-- events after others
pub pairs_after-append : {F E R : Type 0} (rules : Rules F E R) (first : F) (pairs : Pairs E R) (es fs : List E) → pairs_after rules first pairs (es ++ fs) ≡ pairs_after rules first (pairs_after rules first pairs es) fs
unfolding pairs_after
pairs_after-append rules first pairs [] fs = refl
pairs_after-append rules first pairs (e ∷ es) fs = pairs_after-append rules first (pairs ++ (e, rules.answer first pairs e) ∷ []) es fs

-- no event
pub pairs_after-nil : {F E R : Type 0} (rules : Rules F E R) (first : F) (pairs : Pairs E R) → pairs_after rules first pairs [] ≡ pairs
unfolding pairs_after
pairs_after-nil rules first pairs = refl

-- an event before others
pub pairs_after-cons : {F E R : Type 0} (rules : Rules F E R) (first : F) (pairs : Pairs E R) (e : E) (es : List E)
    → pairs_after rules first pairs (e ∷ es) ≡ pairs_after rules first (pairs ++ (e, rules.answer first pairs e) ∷ []) es
unfolding pairs_after
pairs_after-cons rules first pairs e es = refl

-- one more event
pub pairs_after-push : {F E R : Type 0} (rules : Rules F E R) (first : F) (pairs : Pairs E R) (es : List E) (e : E)
    → pairs_after rules first pairs (es ++ e ∷ []) ≡ pairs_after rules first pairs es ++ (e, rules.answer first (pairs_after rules first pairs es) e) ∷ []
pairs_after-push rules first pairs es e =
    pairs_after-append rules first pairs es (e ∷ [])
    ∙ pairs_after-cons rules first (pairs_after rules first pairs es) e []
    ∙ pairs_after-nil rules first (pairs_after rules first pairs es ++ (e, rules.answer first (pairs_after rules first pairs es) e) ∷ [])

-- the pairs that stood there stay in front
pub pairs_after-front : {F E R : Type 0} (rules : Rules F E R) (first : F) (pairs : Pairs E R) (es : List E) → (more : Pairs E R) × (pairs_after rules first pairs es ≡ pairs ++ more)
pairs_after-front rules first pairs [] = ([], pairs_after-nil rules first pairs ∙ sym (append-nil pairs))
pairs_after-front {F} {E} {R} rules first pairs (e ∷ es) =
    let pair : E × R = (e, rules.answer first pairs e) in
    let rest = pairs_after-front rules first (pairs ++ pair ∷ []) es in
    (pair ∷ rest.0, pairs_after-cons rules first pairs e es ∙ rest.1 ∙ append_assoc pairs (pair ∷ []) rest.0)

-- the events of the pairs are those that brought them about
pub events_after : {F E R : Type 0} (rules : Rules F E R) (first : F) (pairs : Pairs E R) (es : List E) → events_of (pairs_after rules first pairs es) ≡ events_of pairs ++ es
events_after rules first pairs [] = ap events_of (pairs_after-nil rules first pairs) ∙ sym (append-nil (events_of pairs))
events_after {F} {E} {R} rules first pairs (e ∷ es) =
    let pair : E × R = (e, rules.answer first pairs e) in
    ap events_of (pairs_after-cons rules first pairs e es)
    ∙ events_after rules first (pairs ++ pair ∷ []) es
    ∙ ap (λ xs. xs ++ es) (map-append (λ (p : E × R). p.0) pairs (pair ∷ []))
    ∙ append_assoc (events_of pairs) (e ∷ []) es

-- there are as many pairs as events
pub length_after : {F E R : Type 0} (rules : Rules F E R) (first : F) (es : List E) → length (pairs_after rules first [] es) ≡ length es
length_after {F} {E} {R} rules first es =
    sym (length-map (pairs_after rules first [] es) (λ (p : E × R). p.0)) ∙ ap length (events_after rules first [] es)

-- the text of pairs and others after them
pub replies_text-append : {F E R : Type 0} (rules : Rules F E R) (xs ys : Pairs E R) → replies_text rules (xs ++ ys) ≡ replies_text rules xs ++ replies_text rules ys
replies_text-append {F} {E} {R} rules xs ys = flat_map-append (λ (p : E × R). rules.text_of p.1) xs ys

-- the text of one more pair
pub replies_text-push : {F E R : Type 0} (rules : Rules F E R) (xs : Pairs E R) (pair : E × R) → replies_text rules (xs ++ pair ∷ []) ≡ replies_text rules xs ++ rules.text_of pair.1
replies_text-push rules xs pair = replies_text-append rules xs (pair ∷ []) ∙ ap (λ ys. replies_text rules xs ++ ys) (append-nil (rules.text_of pair.1))

-- the pieces of one more pair
pub replies_pieces-push : {F E R : Type 0} (rules : Rules F E R) (xs : Pairs E R) (pair : E × R) → replies_pieces rules (xs ++ pair ∷ []) ≡ replies_pieces rules xs ++ pieces_of (rules.text_of pair.1)
replies_pieces-push {F} {E} {R} rules xs pair =
    flat_map-append (λ (p : E × R). pieces_of (rules.text_of p.1)) xs (pair ∷ []) ∙ ap (λ (ys : List (List ℕ)). replies_pieces rules xs ++ ys) (append-nil (pieces_of (rules.text_of pair.1)))
