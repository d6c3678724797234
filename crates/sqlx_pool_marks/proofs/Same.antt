-- What a mark leaves as it is.
use Rattle.std.proofs.Common.{◌≡◌, true, List, [], ◌++◌, map, filter, refl, sym, ◌∙◌, append-nil, map-id}
use Rattle.sqlx_pool_marks.proofs.ListFacts.{filter_all}

-- nothing is ended
pub kept : {X : Type 0} (xs : List X) → xs ≡ filter (λ x. true) xs
kept xs = sym (filter_all (λ x. true) xs (λ x. refl))

-- nothing is ended and nothing begun
pub same : {X : Type 0} (xs : List X) → xs ≡ filter (λ x. true) xs ++ []
same xs = kept xs ∙ sym (append-nil (filter (λ x. true) xs))

pub kept_tickets : {X : Type 0} (xs : List X) → xs ≡ map (λ x. x) (filter (λ x. true) xs)
kept_tickets xs = kept xs ∙ sym (map-id (filter (λ x. true) xs))

pub same_tickets : {X : Type 0} (xs : List X) → xs ≡ map (λ x. x) (filter (λ x. true) xs) ++ []
same_tickets xs = kept_tickets xs ∙ sym (append-nil (map (λ x. x) (filter (λ x. true) xs)))
