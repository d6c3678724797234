-- Pieces that grow, write by write.
use Rattle.std.proofs.Common.{◌≡◌, ℕ, zero, suc, ◌-◌, ◌<◌, ◌≤◌, List, [], ◌∷◌, ◌++◌, length, drop, Option, Some, None, Result, Ok, Err, IfOk, is_ok, if◌then◌else◌, refl, sym, ap, subst, ◌∙◌, append_assoc, append-nil, inl, inr, ◌⊎◌, arith}
use Rattle.std.proofs.lemmas.List.{length-drop}
use Rattle.sqlx_player.specs.declared.failed.Failed.{Failed}
use Rattle.sqlx_player.specs.Pieces.{GrowsBy, TakesPiece, pieces_of}

pub GrowsBy-nil : (a : Option (List (List ℕ))) → GrowsBy a a []
GrowsBy-nil None = tt
GrowsBy-nil (Some ps) = sym (append-nil ps)

pub GrowsBy-trans : (a b c : Option (List (List ℕ))) (ps qs : List (List ℕ)) → GrowsBy a b ps → GrowsBy b c qs → GrowsBy a c (ps ++ qs)
GrowsBy-trans (Some a) (Some b) (Some c) ps qs p q = q ∙ ap (λ l. l ++ qs) p ∙ append_assoc a ps qs
GrowsBy-trans (Some a) (Some b) None ps qs p q = tt
GrowsBy-trans (Some a) None (Some c) ps qs p q = absurd q
GrowsBy-trans (Some a) None None ps qs p q = tt
GrowsBy-trans None (Some b) c ps qs p q = absurd p
GrowsBy-trans None None (Some c) ps qs p q = absurd q
GrowsBy-trans None None None ps qs p q = tt

-- pieces that aren't told any more
pub untold : (a b : Option (List (List ℕ))) (ps : List (List ℕ)) → b ≡ None → GrowsBy a b ps
untold (Some a) None ps e = tt
untold None None ps e = tt
untold (Some a) (Some b) ps e = cc
untold None (Some b) ps e = cc

-- what isn't told stays so
stays_untold : (a b : Option (List (List ℕ))) (ps : List (List ℕ)) → a ≡ None → GrowsBy a b ps → b ≡ None
stays_untold None None ps e g = refl
stays_untold None (Some b) ps e g = absurd g
stays_untold (Some a) b ps e g = cc

-- a write that takes its piece whole, or nothing
pub takes_whole : (r : Result ℕ Failed) (before now : List (List ℕ)) (piece : List ℕ) → IfOk r (λ n. n ≡ length piece) → now ≡ (if is_ok r then before ++ piece ∷ [] else before) → TakesPiece (Some before) (Some now) r piece
takes_whole (Ok n) before now piece all grew = (λ whole. grew, λ less. absurd (omega (arith, all, less)))
takes_whole (Err e) before now piece all grew = grew ∙ sym (append-nil before)

-- ---- writing a text

-- Of a text this rest is left: nothing was handed out yet, or the text was, and what is left of it will not be told.
abbrev pub HandedSoFar : Option (List (List ℕ)) → Option (List (List ℕ)) → List ℕ → List ℕ → Type 0
HandedSoFar before now text rest = ((rest ≡ text) × GrowsBy before now []) ⊎ ((length rest < length text) × GrowsBy before now (text ∷ []) × (0 < length rest → now ≡ None))

pub handed_begun : (now : Option (List (List ℕ))) (text : List ℕ) → HandedSoFar now now text text
handed_begun now text = inl (refl, GrowsBy-nil now)

by_less : (n m : ℕ) → (n ≡ m) ⊎ (n < m) → (suc n ≡ suc m) ⊎ (suc n < suc m)
by_less n m (inl same) = inl (ap suc same)
by_less n m (inr less) = inr (omega (arith, less))

le_cases : (n m : ℕ) → n ≤ m → (n ≡ m) ⊎ (n < m)
le_cases zero zero h = inl refl
le_cases zero (suc m) h = inr (omega arith)
le_cases (suc n) zero h = absurd (omega (arith, h))
le_cases (suc n) (suc m) h = by_less n m (le_cases n m (omega (arith, h)))

-- what one more write does, where the text was not handed out yet
first_write : (before now after : Option (List (List ℕ))) (text : List ℕ) (n : ℕ) → GrowsBy before now [] → TakesPiece now after (Ok n) text → 0 < n → (n ≡ length text) ⊎ (n < length text)
    → HandedSoFar before after text (drop n text)
first_write before now after text n g t some (inl all) =
    let gone : length (drop n text) ≡ 0 = length-drop n text ∙ omega (arith, all) in
    inr (omega (arith, gone, all, some), GrowsBy-trans before now after [] (text ∷ []) g (t.0 all), λ left. absurd (omega (arith, left, gone)))
first_write before now after text n g t some (inr part) =
    let left : length (drop n text) ≡ length text - n = length-drop n text in
    inr (omega (arith, left, part, some), untold before after (text ∷ []) (t.1 part), λ more. t.1 part)

-- and where it was
later_write : (now after : Option (List (List ℕ))) (rest : List ℕ) (n : ℕ) → now ≡ None → TakesPiece now after (Ok n) rest → (n ≡ length rest) ⊎ (n < length rest) → after ≡ None
later_write now after rest n none t (inl all) = stays_untold now after (rest ∷ []) none (t.0 all)
later_write now after rest n none t (inr part) = t.1 part

-- one more write
pub handed_more : (before now after : Option (List (List ℕ))) (text rest : List ℕ) (n : ℕ) → HandedSoFar before now text rest → TakesPiece now after (Ok n) rest → 0 < n → n ≤ length rest → HandedSoFar before after text (drop n rest)
handed_more before now after text rest n (inl h) t some within =
    subst (λ text. HandedSoFar before after text (drop n rest)) h.0 (first_write before now after rest n h.1 t some (le_cases n (length rest) within))
handed_more before now after text rest n (inr h) t some within =
    let none = later_write now after rest n (h.2 (omega (arith, some, within))) t (le_cases n (length rest) within) in
    let left : length (drop n rest) ≡ length rest - n = length-drop n rest in
    inr (omega (arith, left, h.0), untold before after (text ∷ []) none, λ more. none)

-- no rest is left
pub handed_all : (before now : Option (List (List ℕ))) (text rest : List ℕ) → HandedSoFar before now text rest → 0 ≡ length rest → GrowsBy before now (pieces_of text)
handed_all before now [] rest (inl h) e = h.1
handed_all before now (b ∷ text) rest (inl h) e = absurd (let same = ap length h.0 in omega (arith, e, same))
handed_all before now [] rest (inr h) e = absurd (omega (arith, h.0))
handed_all before now (b ∷ text) rest (inr h) e = h.1

-- the next write is refused
pub handed_none : (before now after : Option (List (List ℕ))) (text rest : List ℕ) → HandedSoFar before now text rest → GrowsBy now after [] → 0 < length rest → GrowsBy before after []
handed_none before now after text rest (inl h) g some = GrowsBy-trans before now after [] [] h.1 g
handed_none before now after text rest (inr h) g some = untold before after [] (stays_untold now after [] (h.2 some) g)

-- the next write takes nothing
pub handed_nothing : (before now after : Option (List (List ℕ))) (text rest : List ℕ) → TakesPiece now after (Ok 0) rest → 0 < length rest → GrowsBy before after []
handed_nothing before now after text rest t some = untold before after [] (t.1 some)
