-- What a front shows behind a look at a value, or behind a step.
use Rattle.std.proofs.Common.{◌≡◌, List, [], ◌∷◌, ◌++◌, sym, ap, ◌∙◌, subst}
use Rattle.std.proofs.lemmas.List.{append-nil}
use mathlib.Core.List.{IsPrefix}
use Rattle.sqlx_pool_history.specs.Chains.{EndsWith}
use Rattle.sqlx_pool_history.specs.Shows.{Showed, Shows, Steps}
use Rattle.sqlx_pool_history.proofs.Prefixes.{prefix_trans}

module _ {S : Type 0} where
  -- what holds of the value holds of the state that the history ends with
  pub ends_value : (history : List S) (value : S) (holds : S → Type 0) → EndsWith history (λ state. state ≡ value) → holds value → EndsWith history holds
  ends_value history value holds ends is = (ends.0, ends.1, ends.2, subst holds (sym ends.3) is)

  -- a look at the value that the history ends with
  pub shows_value : (old new history : List S) (value : S) (holds : S → Type 0) → new ≡ history → IsPrefix old new → EndsWith history (λ state. state ≡ value) → holds value → Shows old new holds
  shows_value old new history value holds all later ends is = (later, (ends.0, ends.1, all ∙ ends.2, subst holds (sym ends.3) is))

  -- a step from the value that the history ended with
  pub steps_value : (old seen new history : List S) (before after : S) (goes : S → S → Type 0)
      → seen ≡ history → IsPrefix old seen → EndsWith history (λ state. state ≡ before) → new ≡ history ++ after ∷ [] → goes before after → Steps old new goes
  steps_value old seen new history before after goes all later ends grows is =
      let whole : seen ≡ ends.0 ++ ends.1 ∷ [] = all ∙ ends.2 in
      let step : goes ends.1 after = subst (λ b. goes b after) (sym ends.3) is in
      let last : new ≡ seen ++ after ∷ [] = subst (λ h. new ≡ h ++ after ∷ []) (sym all) grows in
      (seen, after, later, last, (ends.0, ends.1, whole, step))

  -- a look at the value that a step came to
  pub shows_step : (old seen new history : List S) (after : S) (holds : S → Type 0) → seen ≡ history → IsPrefix old seen → new ≡ history ++ after ∷ [] → holds after → Shows old new holds
  shows_step old seen new history after holds all later grows is =
      (prefix_trans old seen new later (after ∷ [], sym (grows ∙ ap (λ h. h ++ after ∷ []) (sym all))), (history, after, grows, is))

  -- what a step did, said by less
  pub steps_weaker : (old new : List S) (goes does : S → S → Type 0) → ((before after : S) → goes before after → does before after) → Steps old new goes → Steps old new does
  steps_weaker old new goes does less s = (s.0, s.1, s.2, s.3, (s.4.0, s.4.1, s.4.2, less s.4.1 s.1 s.4.3))

  -- a step makes the front longer
  pub steps_prefix : (old new : List S) (goes : S → S → Type 0) → Steps old new goes → IsPrefix old new
  steps_prefix old new goes s = prefix_trans old s.0 new s.2 (s.1 ∷ [], sym s.3)

  -- a front is a beginning of itself
  pub prefix_same : (xs : List S) → IsPrefix xs xs
  prefix_same xs = ([], append-nil xs)

  -- what a front ends with, it has seen
  pub showed_last : (old new : List S) (holds : S → Type 0) → Shows old new holds → Showed old new holds
  showed_last old new holds s = (new, s.0, s.1, prefix_same new)

  -- and what a step began with
  pub showed_before : (old new : List S) (goes : S → S → Type 0) (holds : S → Type 0) → ((before after : S) → goes before after → holds before) → Steps old new goes → Showed old new holds
  showed_before old new goes holds is s = (s.0, s.2, (s.4.0, s.4.1, s.4.2, is s.4.1 s.1 s.4.3), (s.1 ∷ [], sym s.3))

  -- it was seen by a front that is longer now
  pub showed_later : (old mid new : List S) (holds : S → Type 0) → Showed old mid holds → IsPrefix mid new → Showed old new holds
  showed_later old mid new holds s later = (s.0, s.1, s.2, prefix_trans s.0 mid new s.3 later)

  -- and by one that was shorter before
  pub showed_sooner : (old mid new : List S) (holds : S → Type 0) → IsPrefix old mid → Showed mid new holds → Showed old new holds
  showed_sooner old mid new holds sooner s = (s.0, prefix_trans old mid s.0 sooner s.1, s.2, s.3)

  -- what holds of the value that a step began with was seen
  pub showed_value : (old seen new history : List S) (before after : S) (holds : S → Type 0)
      → seen ≡ history → IsPrefix old seen → EndsWith history (λ state. state ≡ before) → new ≡ history ++ after ∷ [] → holds before → Showed old new holds
  showed_value old seen new history before after holds all later ends grows is =
      (seen, later, (ends.0, ends.1, all ∙ ends.2, subst holds (sym ends.3) is), (after ∷ [], sym (grows ∙ ap (λ h. h ++ after ∷ []) (sym all))))

  -- less was seen
  pub showed_weaker : (old new : List S) (holds does : S → Type 0) → ((state : S) → holds state → does state) → Showed old new holds → Showed old new does
  showed_weaker old new holds does less s = (s.0, s.1, (s.2.0, s.2.1, s.2.2, less s.2.1 s.2.3), s.3)
