-- Drafts that gain pieces, and are cut back.
use Rattle.std.proofs.Common.{◌≡◌, ℕ, ◌≤◌, Bool, true, false, List, [], ◌∷◌, ◌++◌, length, take, refl, sym, ap, ◌∙◌, subst, arith}
use Rattle.std.proofs.lemmas.List.{append-nil, append_assoc, length-append, take-append-le}
use Rattle.sqlx_traits.specs.Arguments.{AddsOne}
use Rattle.sqlx_query_drafts.specs.Builder.{Piece, Text, Bound, Draft, arguments_of, with_piece, with_pieces, AddsOneEach, Extends, Gains, cut_to, entry, opening, tuple, tuples_from, tuples_of}
use Rattle.sqlx_query_drafts.specs.Tuples.{WritesEach}

-- pieces behind pieces
pub with_pieces-append : {L : Type 0} (d : Draft L) (ps qs : List (Piece L)) → with_pieces d (ps ++ qs) ≡ with_pieces (with_pieces d ps) qs
with_pieces-append d [] qs = refl
with_pieces-append d (p ∷ ps) qs = with_pieces-append (with_piece d p) ps qs

-- the arguments of a draft with pieces
pub arguments-with_pieces : {L : Type 0} (d : Draft L) (ps : List (Piece L)) → (with_pieces d ps).arguments ≡ arguments_of ps d.arguments
arguments-with_pieces d [] = refl
arguments-with_pieces d (p ∷ ps) = arguments-with_pieces (with_piece d p) ps

take_whole : (t : List ℕ) → take (length t) t ≡ t
take_whole [] = refl
take_whole (b ∷ t) = ap (λ x. b ∷ x) (take_whole t)

abbrev draft : {L : Type 0} → List ℕ → List ℕ → L → Bool → Draft L
draft i t a b = record { initial = i; text = t; arguments = a; built = b }

-- drafts of the same parts
pub same_draft : {L : Type 0} {i i' t t' : List ℕ} {a a' : L} {b b' : Bool} → i ≡ i' → t ≡ t' → a ≡ a' → b ≡ b'
    → draft i t a b ≡ draft i' t' a' b'
same_draft p q r s = λ k. draft (p k) (q k) (r k) (s k)

module _ {L : Type 0} (count : L → ℕ) (first : ℕ → L → L) where
  adds_behind : (list : L) (ps qs : List (Piece L)) → AddsOneEach count first list ps → AddsOneEach count first (arguments_of ps list) qs → AddsOneEach count first list (ps ++ qs)
  adds_behind list [] qs a b = b
  adds_behind list (Text t ∷ ps) qs a b = adds_behind list ps qs a b
  adds_behind list (Bound placeholder adds ∷ ps) qs a b = (a.0, adds_behind (adds list) ps qs a.1 b)

  -- what is gained in two steps
  pub gains_then : (d e h : Draft L) (ps qs : List (Piece L)) → Gains count first d ps e → Gains count first e qs h → Gains count first d (ps ++ qs) h
  gains_then d e h ps qs a b =
      let args : e.arguments ≡ arguments_of ps d.arguments = ap (λ x. x.arguments) a.1 ∙ arguments-with_pieces d ps in
      let P : L → Type 0 = λ x. AddsOneEach count first x qs in
      (adds_behind d.arguments ps qs a.0 (subst P args b.0), b.1 ∙ ap (λ x. with_pieces x qs) a.1 ∙ sym (with_pieces-append d ps qs))

  -- nothing more
  pub extends_itself : (d : Draft L) → Extends count first d d
  extends_itself d = record { initial = refl; built = refl; more = []; text = sym (append-nil d.text); enough = omega arith; arguments = λ n below. refl }

  -- more, and more again
  pub extends_then : (d e h : Draft L) → Extends count first d e → Extends count first e h → Extends count first d h
  extends_then d e h a b = record {
    initial = b.initial ∙ a.initial;
    built = b.built ∙ a.built;
    more = a.more ++ b.more;
    text = b.text ∙ ap (λ t. t ++ b.more) a.text ∙ append_assoc d.text a.more b.more;
    enough = omega (arith, a.enough, b.enough);
    arguments = λ n below. b.arguments n (omega (arith, a.enough, below)) ∙ a.arguments n below;
  }

  -- a text is more
  pub extends_by_text : (d : Draft L) (t : List ℕ) → Extends count first d (with_piece d (Text t))
  extends_by_text d t = record { initial = refl; built = refl; more = t; text = refl; enough = omega arith; arguments = λ n below. refl }

  -- a bound value is more
  pub extends_by_bound : (d : Draft L) (placeholder : List ℕ) (adds : L → L) → AddsOne count first d.arguments (adds d.arguments) → Extends count first d (with_piece d (Bound placeholder adds))
  extends_by_bound d placeholder adds one = record { initial = refl; built = refl; more = placeholder; text = refl; enough = omega (arith, one.0); arguments = one.1 }

  -- pieces are more
  pub extends_by_pieces : (d : Draft L) (ps : List (Piece L)) → AddsOneEach count first d.arguments ps → Extends count first d (with_pieces d ps)
  extends_by_pieces d [] each = extends_itself d
  extends_by_pieces d (Text t ∷ ps) each = extends_then d (with_piece d (Text t)) (with_pieces (with_piece d (Text t)) ps) (extends_by_text d t) (extends_by_pieces (with_piece d (Text t)) ps each)
  extends_by_pieces d (Bound placeholder adds ∷ ps) each =
      let next : Draft L = with_piece d (Bound placeholder adds) in
      extends_then d next (with_pieces next ps) (extends_by_bound d placeholder adds each.0) (extends_by_pieces next ps each.1)

  -- what is gained is more
  pub gains_extend : (d e : Draft L) (ps : List (Piece L)) → Gains count first d ps e → Extends count first d e
  gains_extend d e ps a = let P : Draft L → Type 0 = λ x. Extends count first d x in subst P (sym a.1) (extends_by_pieces d ps a.0)

  -- the texts of an entry add no argument
  pub entry_adds_none : (list : L) (later : Bool) (separator t : List ℕ) → AddsOneEach count first list (entry later separator (Text t))
  entry_adds_none list true separator t = tt
  entry_adds_none list false separator t = tt

  -- the text of the first one, of the second's
  pub text_back : (d e : Draft L) → Extends count first d e → take (length d.text) e.text ≡ d.text
  text_back d e x = ap (take (length d.text)) x.text ∙ take-append-le (length d.text) d.text x.more (omega arith) ∙ take_whole d.text

  -- it is no longer than the second's
  pub text_longer : (d e : Draft L) → Extends count first d e → length d.text ≤ length e.text
  text_longer d e x = omega (arith, ap length x.text, length-append d.text x.more)

  -- a draft with more, cut back to where the first one ended, is the first one
  pub cut_back : ((n : ℕ) (list : L) → count list ≤ n → first n list ≡ list) → (d e : Draft L) → Extends count first d e → cut_to first e (length d.text) (count d.arguments) ≡ d
  cut_back first_of_all d e x =
      let arguments : first (count d.arguments) e.arguments ≡ d.arguments = x.arguments (count d.arguments) (omega arith) ∙ first_of_all (count d.arguments) d.arguments (omega arith) in
      same_draft x.initial (text_back d e x) arguments x.built

-- whether there is a list of tuples, or were some before it
abbrev pub or_any : {A : Type 0} → Bool → List A → Bool
or_any later [] = later
or_any later (x ∷ xs) = true

any_later : {A : Type 0} (xs : List A) → or_any true xs ≡ true
any_later [] = refl
any_later (x ∷ xs) = refl

any_push : {A : Type 0} (xs : List A) (x : A) → true ≡ or_any false (xs ++ x ∷ [])
any_push [] x = refl
any_push (y ∷ xs) x = refl

-- tuples, and one more
pub tuples_from-push : {L : Type 0} (later : Bool) (pss : List (List (Piece L))) (ps : List (Piece L))
    → tuples_from later (pss ++ ps ∷ []) ≡ tuples_from later pss ++ tuple (or_any later pss) ps
tuples_from-push later [] ps = append-nil (tuple later ps)
tuples_from-push later (qs ∷ pss) ps =
    ap (λ x. tuple later qs ++ x) (tuples_from-push true pss ps ∙ ap (λ b. tuples_from true pss ++ tuple b ps) (any_later pss))
    ∙ sym (append_assoc (tuple later qs) (tuples_from true pss) (tuple true ps))

-- one more call of the writer
pub writes_each-push : {W T L : Type 0} (writes : W → T → Draft L → List (Piece L) → W → Type 0) (later : Bool) (w mid last : W) (before : Draft L)
    (xs : List T) (pss : List (List (Piece L))) (x : T) (ps : List (Piece L))
    → WritesEach writes later w before xs pss mid → writes mid x (with_pieces (with_pieces before (tuples_from later pss)) (opening (or_any later pss))) ps last
    → WritesEach writes later w before (xs ++ x ∷ []) (pss ++ ps ∷ []) last
writes_each-push writes later w mid last before [] [] x ps a b = (last, subst (λ s. writes s x (with_pieces before (opening later)) ps last) (sym a) b, refl)
writes_each-push writes later w mid last before [] (qs ∷ pss) x ps a b = absurd a
writes_each-push writes later w mid last before (y ∷ xs) [] x ps a b = absurd a
writes_each-push {L = L} writes later w mid last before (y ∷ xs) (qs ∷ pss) x ps a b =
    let next : Draft L = with_pieces before (tuple later qs) in
    let At : Draft L → Type 0 = λ d. writes mid x (with_pieces d (opening true)) ps last in
    let Behind : Bool → Type 0 = λ c. writes mid x (with_pieces (with_pieces next (tuples_from true pss)) (opening c)) ps last in
    let wrote : At (with_pieces next (tuples_from true pss)) = subst At (with_pieces-append before (tuple later qs) (tuples_from true pss)) b in
    (a.0, a.1, writes_each-push writes true a.0 mid last next xs pss x ps a.2 (subst Behind (sym (any_later pss)) wrote))

-- the tuples of the items so far stand behind the draft, and whether there are any is known
abbrev pub SoFar : {L W T : Type 0} → (L → ℕ) → (ℕ → L → L) → (W → T → Draft L → List (Piece L) → W → Type 0) → W → Draft L → List T → Bool → W → Draft L → Type 0
SoFar {L} count first writes w before items later last now =
    (written : List (List (Piece L))) × (later ≡ or_any false written) × WritesEach writes false w before items written last × Gains count first before (tuples_of written) now

module _ {L W T : Type 0} (count : L → ℕ) (first : ℕ → L → L) (writes : W → T → Draft L → List (Piece L) → W → Type 0) (w : W) (before : Draft L) where
  -- no tuples
  pub so_far_none : SoFar count first writes w before [] false w before
  so_far_none = ([], refl, refl, (tt, refl))

  -- one tuple more
  pub so_far_more : (items : List T) (later : Bool) (mid last : W) (now next : Draft L) (x : T) (ps : List (Piece L))
      → SoFar count first writes w before items later mid now → writes mid x (with_pieces now (opening later)) ps last → Gains count first now (tuple later ps) next
      → SoFar count first writes w before (items ++ x ∷ []) true last next
  so_far_more items later mid last now next x ps so wrote gained =
      let written : List (List (Piece L)) = so.0 in
      let G : List (Piece L) → Type 0 = λ qs. Gains count first before qs next in
      let H : Bool → Type 0 = λ b. G (tuples_of written ++ tuple b ps) in
      let At : Draft L → Type 0 = λ d. writes mid x (with_pieces d (opening later)) ps last in
      let Behind : Bool → Type 0 = λ b. writes mid x (with_pieces (with_pieces before (tuples_of written)) (opening b)) ps last in
      let all : G (tuples_of written ++ tuple later ps) = gains_then count first before now next (tuples_of written) (tuple later ps) so.3 gained in
      let here : Behind (or_any false written) = subst Behind so.1 (subst At so.3.1 wrote) in (
        written ++ ps ∷ [],
        any_push written ps,
        writes_each-push writes false w mid last before items written x ps so.2 here,
        subst G (sym (tuples_from-push false written ps)) (subst H so.1 all),
      )

  -- what is so far there is more
  pub so_far_extends : (items : List T) (later : Bool) (mid : W) (now : Draft L) → SoFar count first writes w before items later mid now → Extends count first before now
  so_far_extends items later mid now so = gains_extend count first before now (tuples_of so.0) so.3
