-- Counting the root's line, child by child.
use Rattle.std.proofs.Common.{◌≡◌, ℕ, ◌+◌, ◌-◌, ◌<◌, ◌≤◌, true, false, length, drop, get_or, Option, sym, ap, ◌∙◌, arith, sum_by}
use Rattle.std.proofs.lemmas.Bool.{lt-ltb, le-ltb}
use Rattle.std.proofs.lemmas.List.{drop_all}
use Rattle.std.proofs.lemmas.List.Sums.{sum_by-drop_more}
use Rattle.sqlx_pool_lists.specs.Core.{free}
use Rattle.sqlx_family.specs.declared.family.FamilyPool.{FamilyPool}
use Rattle.sqlx_family.specs.Pools.{Pools, root_of}
use Rattle.sqlx_family.proofs.Entries.{entry-is}
use Rattle.sqlx_family.specs.RootLine.{ahead, lined_ahead, root_ahead, root_admits}

module _ {C : Type 0} (t : Option ℕ) (f : Pools C) where
  -- so many permits are left behind the children before this one
  pub record IsLeft (left i : ℕ) : Type 0 where
    pub count : left + root_ahead t f ≡ free (root_of f) + sum_by (lined_ahead t) (drop i f.pools)
    pub some : 0 < left

  more : (i : ℕ) (child : FamilyPool C) → i < length f.pools → child ≡ get_or f.pools i child → sum_by (lined_ahead t) (drop i f.pools) ≡ lined_ahead t child + sum_by (lined_ahead t) (drop (i + 1) f.pools)
  more i child lt is = sum_by-drop_more (lined_ahead t) f.pools i child lt ∙ ap (λ (c : FamilyPool C). lined_ahead t c + sum_by (lined_ahead t) (drop (i + 1) f.pools)) (sym is)

  pub left-first : (root : FamilyPool C) (permits before : ℕ) → 1 ≤ length f.pools → root ≡ get_or f.pools 0 root → permits ≡ free root.core → before ≡ ahead t root.core → before < permits → IsLeft (permits - before) 1
  left-first root permits before some is e n less =
      let place = entry-is (λ (p : FamilyPool C). p.retired) f.pools 0 root root (omega (arith, some)) is in
      let a = ap (λ (p : FamilyPool C). ahead t p.core) place in
      let b = ap (λ (p : FamilyPool C). free p.core) place in
      record { count = omega (arith, e, n, less, a, b); some = omega (arith, less) }

  pub left-none : (left n i : ℕ) (child : FamilyPool C) → IsLeft left i → i < length f.pools → child ≡ get_or f.pools i child → n ≡ lined_ahead t child → left ≤ n → {now : Pools C} → f ≡ now → false ≡ root_admits t now
  left-none left n i child inv lt is e le view =
      let step = more i child lt is in
      let now = inv.count in
      sym (le-ltb (root_ahead t f) (free (root_of f)) (omega (arith, step, now, e, le))) ∙ ap (root_admits t) view

  pub left-some : (left n i : ℕ) (child : FamilyPool C) → IsLeft left i → i < length f.pools → child ≡ get_or f.pools i child → n ≡ lined_ahead t child → n < left → IsLeft (left - n) (i + 1)
  left-some left n i child inv lt is e less =
      let step = more i child lt is in
      let now = inv.count in
      record { count = omega (arith, step, now, e, less); some = omega (arith, less) }

  pub left-end : (left i : ℕ) → IsLeft left i → length f.pools ≤ i → {now : Pools C} → f ≡ now → true ≡ root_admits t now
  left-end left i inv le view =
      let none = ap (sum_by (lined_ahead t)) (drop_all i f.pools le) in
      let now = inv.count in
      let some = inv.some in
      sym (lt-ltb (root_ahead t f) (free (root_of f)) (omega (arith, none, now, some))) ∙ ap (root_admits t) view
