-- No tenant passes its budget, and all together keep the limit.
use Rattle.std.proofs.Common.{◌≡◌, ◌⊎◌, ℕ, ◌<◌, ◌≤◌, inl, inr, List, [], ◌∷◌, ◌++◌, length, length-append, take, get_or, sum_by, sym, ap, refl, subst, ◌∙◌, arith, suc, zero}
use Rattle.std.proofs.lemmas.List.{take_all, take-append-le}
use Rattle.std.proofs.lemmas.List.Elements.{All-get_or}
use Rattle.std.proofs.lemmas.List.Sums.{sum_by-cons}
use Rattle.sqlx_pool_lists.specs.declared.options.PoolOptions.{PoolOptions}
use Rattle.sqlx_pool_core.proofs.TurnAtMarks.{owned-stands, idle-stands}
use Rattle.sqlx_family.specs.NoPool.{no_pool}
use Rattle.sqlx_family.specs.Pools.{entry_of, pool_in}
use Rattle.sqlx_family.specs.IsFamily.{IsFamily, Joins, permits_of}
use Rattle.sqlx_player.specs.Language.{Pairs}
use Rattle.sqlx_tenants_rules.specs.declared.event.Opening.{Opening}
use Rattle.sqlx_tenants_rules.specs.declared.event.Event.{Event}
use Rattle.sqlx_tenants_rules.specs.declared.reply.Reply.{Reply}
use Rattle.sqlx_tenants_rules.specs.Book.{Book, nobody, account, live, open_in}
use Rattle.sqlx_tenants_rules.specs.Rules.{book_of, all_open}
use Rattle.sqlx_tenants.specs.Keeps.{Keeps}
use Rattle.sqlx_tenants.specs.Served.{IsWithin, StaysWithin}
use Rattle.sqlx_tenants.proofs.Alike.{Family}
use Rattle.sqlx_tenants.proofs.Reading.{stands}

sum-below : {A B : Type 0} (f : A → ℕ) (g : B → ℕ) (d : A) (e : B) (xs : List A) (ys : List B) → length xs ≡ length ys → ((i : ℕ) → i < length xs → f (get_or xs i d) ≤ g (get_or ys i e)) → sum_by f xs ≤ sum_by g ys
sum-below f g d e [] ys same each = omega arith
sum-below f g d e (x ∷ xs) [] same each = absurd (omega (arith, same))
sum-below f g d e (x ∷ xs) (y ∷ ys) same each =
    let a = sum_by-cons f x xs in
    let b = sum_by-cons g y ys in
    let h = each 0 (omega arith) in
    let rest = sum-below f g d e xs ys (omega (arith, same)) (λ j lt. each (suc j) (omega (arith, lt))) in
    omega (arith, a, b, h, rest)

pub is-within : (first : Opening) (f : Family) (book : Book) (m : ℕ) → Keeps first f book m → IsFamily f → IsWithin first.limit book
is-within first f book m k sums = record {
  budget = λ n one lt.
      let l = k.lives n lt in
      let e = covered n lt in
      let most = ap (λ (o : PoolOptions). o.max_connections) (k.alike.each n lt).options in
      let b = (All-get_or (Joins f.shared) f.pools n no_pool (let e = k.alike.names in omega (arith, e, lt)) sums.joins).fits in
      omega (arith, l, e, most, b);
  owned = λ n one lt. let l = k.lives n lt in let e = covered n lt in let o = (k.alike.each n lt).owned in omega (arith, l, e, o);
  all = let below = sum-below live open_in nobody nobody book book refl k.lives in let t = told in omega (arith, below, t);
  told = told;
}
  where
    covered : (n : ℕ) → n < length book → open_in (account n book) ≤ (entry_of n f).core.permits
    covered n lt =
        let below : n < length f.pools = (let e = k.alike.names in omega (arith, e, lt)) in
        let s = stands first f book m k n below in
        let idle = idle-stands (pool_in n f) (account n book).marks s in
        let held = owned-stands (pool_in n f) (account n book).marks s in
        let c = (k.alike.each n lt).rests.covered in
        omega (arith, idle, held, c)

    told : all_open book ≤ first.limit
    told =
        let below = sum-below open_in (permits_of {C = Unit {0}}) nobody no_pool book f.pools (sym k.alike.names) covered in
        let total = sums.permits in
        let most = ap (λ (o : PoolOptions). o.max_connections) (k.alike.each 0 (let s = k.some in omega (arith, s))).options ∙ k.limit in
        omega (arith, below, total, most)

at-most : (a b : ℕ) → (a ≤ b) ⊎ (b < a)
at-most zero b = inl (omega arith)
at-most (suc a) zero = inr (omega arith)
at-most (suc a) (suc b) = elim (at-most a b) [ inl h ↦ inl (omega (arith, h)) | inr h ↦ inr (omega (arith, h)) ]

pub within-first : (first : Opening) → IsWithin first.limit (book_of first []) → StaysWithin first []
within-first first w n le = subst (λ (l : Pairs Event Reply). IsWithin first.limit (book_of first l)) (sym (take_all n [] (omega arith))) w

pub within-behind : (first : Opening) (pairs : Pairs Event Reply) (pair : Event × Reply) → StaysWithin first pairs → IsWithin first.limit (book_of first (pairs ++ pair ∷ [])) → StaysWithin first (pairs ++ pair ∷ [])
within-behind first pairs pair stays w n le = by (at-most n (length pairs))
  where
    by : (n ≤ length pairs) ⊎ (length pairs < n) → IsWithin first.limit (book_of first (take n (pairs ++ pair ∷ [])))
    by (inl h) = subst (λ (l : Pairs Event Reply). IsWithin first.limit (book_of first l)) (sym (take-append-le n pairs (pair ∷ []) h)) (stays n h)
    by (inr h) = subst (λ (l : Pairs Event Reply). IsWithin first.limit (book_of first l)) (sym (take_all n (pairs ++ pair ∷ []) (let e = length-append pairs (pair ∷ []) in omega (arith, e, h)))) w
