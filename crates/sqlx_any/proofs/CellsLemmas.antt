-- What items give, each in turn.
use Rattle.std.proofs.Common.{◌≡◌, inl, inr, ℕ, ◌+◌, ◌<◌, List, [], ◌∷◌, ◌++◌, length, suc, get_or, take, drop, Result, Ok, Err, refl, sym, ap, subst, ◌∙◌}
use Rattle.std.proofs.lemmas.List.{take_more, drop_more, take-append-drop}
use Rattle.sqlx_text.specs.declared.error.Error.{Error}
use Rattle.sqlx_any.specs.Mapped.{AllGive, FirstRefuses}

module _ {C A B : Type 0} (Gives : C → Result (A × B) Error → Type 0) where
  pub all_give_push : (cs : List C) (c : C) (as' : List A) (a : A) (bs : List B) (b : B) → AllGive Gives cs as' bs → Gives c (Ok (a, b)) → AllGive Gives (cs ++ c ∷ []) (as' ++ a ∷ []) (bs ++ b ∷ [])
  all_give_push [] c [] a [] b all one = (one, tt)
  all_give_push [] c [] a (y ∷ ys) b all one = elim all [ ]
  all_give_push [] c (x ∷ xs) a [] b all one = elim all [ ]
  all_give_push [] c (x ∷ xs) a (y ∷ ys) b all one = elim all [ ]
  all_give_push (d ∷ ds) c [] a [] b all one = elim all [ ]
  all_give_push (d ∷ ds) c [] a (y ∷ ys) b all one = elim all [ ]
  all_give_push (d ∷ ds) c (x ∷ xs) a [] b all one = elim all [ ]
  all_give_push (d ∷ ds) c (x ∷ xs) a (y ∷ ys) b all one = (all.0, all_give_push ds c xs a ys b all.1 one)

  pub first_refuses_after : (cs rest : List C) (c : C) (as' : List A) (bs : List B) (e : Error) → AllGive Gives cs as' bs → Gives c (Err e) → FirstRefuses Gives (cs ++ c ∷ rest) e
  first_refuses_after [] rest c as' bs e all one = inl one
  first_refuses_after (d ∷ ds) rest c [] [] e all one = elim all [ ]
  first_refuses_after (d ∷ ds) rest c [] (y ∷ ys) e all one = elim all [ ]
  first_refuses_after (d ∷ ds) rest c (x ∷ xs) [] e all one = elim all [ ]
  first_refuses_after (d ∷ ds) rest c (x ∷ xs) (y ∷ ys) e all one = inr ((x, y), all.0, first_refuses_after ds rest c xs ys e all.1 one)

  pub as_many_first : (cs : List C) (as' : List A) (bs : List B) → AllGive Gives cs as' bs → length as' ≡ length cs
  as_many_first [] [] [] all = refl
  as_many_first [] [] (y ∷ ys) all = elim all [ ]
  as_many_first [] (x ∷ xs) [] all = elim all [ ]
  as_many_first [] (x ∷ xs) (y ∷ ys) all = elim all [ ]
  as_many_first (d ∷ ds) [] [] all = elim all [ ]
  as_many_first (d ∷ ds) [] (y ∷ ys) all = elim all [ ]
  as_many_first (d ∷ ds) (x ∷ xs) [] all = elim all [ ]
  as_many_first (d ∷ ds) (x ∷ xs) (y ∷ ys) all = ap suc (as_many_first ds xs ys all.1)

  module _ (cs : List C) (i : ℕ) (c : C) (within : i < length cs) (item : c ≡ get_or cs i c) (as' : List A) (bs : List B) (all : AllGive Gives (take i cs) as' bs) where
    pub all_give_more : (a : A) (b : B) → Gives c (Ok (a, b)) → AllGive Gives (take (i + 1) cs) (as' ++ a ∷ []) (bs ++ b ∷ [])
    all_give_more a b one =
        let step : take i cs ++ c ∷ [] ≡ take (i + 1) cs = ap (λ d. take i cs ++ d ∷ []) item ∙ sym (take_more cs i c within) in
        subst (λ l. AllGive Gives l (as' ++ a ∷ []) (bs ++ b ∷ [])) step (all_give_push (take i cs) c as' a bs b all one)

    pub first_refuses_at : (e : Error) → Gives c (Err e) → FirstRefuses Gives cs e
    first_refuses_at e one =
        let rest : c ∷ drop (i + 1) cs ≡ drop i cs = ap (λ d. d ∷ drop (i + 1) cs) item ∙ sym (drop_more cs i c within) in
        let whole : take i cs ++ c ∷ drop (i + 1) cs ≡ cs = ap (λ r. take i cs ++ r) rest ∙ take-append-drop i cs in
        subst (λ l. FirstRefuses Gives l e) whole (first_refuses_after (take i cs) (drop (i + 1) cs) c as' bs e all one)
