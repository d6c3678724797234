-- Who is entitled by the family's lists is so by the book.
use Rattle.std.proofs.Common.{◌≡◌, ℕ, ◌<◌, ◌≤◌, ◌+◌, ◌||◌, ◌&&◌, ◌==◌, List, [], ◌∷◌, Bool, true, false, not, cond, length, get_or, count_by, sum_by, nat_lt, sym, ap, refl, ◌∙◌, arith, suc, Some}
use Rattle.std.proofs.lemmas.Bool.{ne_eqb}
use Rattle.std.proofs.lemmas.List.Sums.{sum_by-cons, sum_by-drop_more}
use Rattle.sqlx_pool_marks.specs.declared.mark.Mark.{Mark}
use Rattle.sqlx_pool_marks.specs.Marks.{tickets_of, idle_of}
use Rattle.sqlx_pool_marks.specs.Counts.{before_in}
use Rattle.sqlx_pool_marks.proofs.ListFacts.{count_by-map}
use Rattle.sqlx_pool_lists.specs.declared.options.PoolOptions.{PoolOptions}
use Rattle.sqlx_pool_lists.specs.Core.{asking, free}
use Rattle.sqlx_pool_lists.specs.CoreTurn.{is_first_in_line}
use Rattle.sqlx_pool_lists.specs.Shared.{waiting_before, wants_permits}
use Rattle.sqlx_pool_core.proofs.TurnAtMarks.{gone-stands, owned-stands, idle-stands, before-asking}
use Rattle.sqlx_family.specs.NoPool.{no_pool}
use Rattle.sqlx_family.specs.Pools.{entry_of, root_of, pool_in}
use Rattle.sqlx_family.specs.RootLine as line
use Rattle.sqlx_tenants_rules.specs.declared.event.Opening.{Opening}
use Rattle.sqlx_tenants_rules.specs.Book.{Account, Book, nobody, account, waits_below, lined_below, ahead, own_rule, root_rule}
use Rattle.sqlx_tenants_rules.specs.Book as book_of
use Rattle.sqlx_tenants.specs.Keeps.{Keeps}
use Rattle.sqlx_tenants.proofs.Alike.{Family}
use Rattle.sqlx_tenants.proofs.Reading.{is, stands}

-- two lists that are alike place by place have one sum
sum-alike : {A B : Type 0} (f : A → ℕ) (g : B → ℕ) (d : A) (e : B) (xs : List A) (ys : List B) → length xs ≡ length ys → ((i : ℕ) → i < length ys → f (get_or xs i d) ≡ g (get_or ys i e)) → sum_by f xs ≡ sum_by g ys
sum-alike f g d e [] [] same each = refl
sum-alike f g d e [] (y ∷ ys) same each = absurd (omega (arith, same))
sum-alike f g d e (x ∷ xs) [] same each = absurd (omega (arith, same))
sum-alike f g d e (x ∷ xs) (y ∷ ys) same each =
    sum_by-cons f x xs ∙ (λ i. (each 0 (omega arith)) i + (sum-alike f g d e xs ys (omega (arith, same)) (λ j lt. each (suc j) (omega (arith, lt)))) i) ∙ sym (sum_by-cons g y ys)

module _ (first : Opening) (f : Family) (book : Book) (m : ℕ) (k : Keeps first f book m) (r : ℕ) (lt : r < length f.pools) where
  pub free-is : free (entry_of r f).core ≡ book_of.free (account r book)
  free-is =
      let s = stands first f book m k r lt in
      let p = is first f book m k r lt in
      let loans = owned-stands (pool_in r f) (account r book).marks s in
      let left = gone-stands (pool_in r f) (account r book).marks s in
      let leaked = s.leaked in
      let places = p.rests.places in
      let owned = p.owned in
      omega (arith, loans, left, leaked, places, owned)

  pub own-is : (t : ℕ) → is_first_in_line t (entry_of r f).core ≡ own_rule r t book
  own-is t = λ i. nat_lt ((before-asking t (entry_of r f).core.tickets ∙ ap (before_in t) (stands first f book m k r lt).tickets) i) (free-is i)

  pub wants-is : wants_permits (entry_of r f).core ≡ nat_lt (account r book).owned (account r book).budget
  wants-is = let p = is first f book m k r lt in λ i. nat_lt (p.owned i) ((ap (λ (o : PoolOptions). o.max_connections) p.options) i)

  before-is : (t : ℕ) → waiting_before t (entry_of r f).core ≡ count_by (waits_below t) (tickets_of (account r book).marks)
  before-is t = sym (count_by-map asking (waits_below t) (entry_of r f).core.tickets) ∙ ap (count_by (waits_below t)) (stands first f book m k r lt).tickets

  pub lined-is : (t : ℕ) → line.lined_ahead (Some t) (entry_of r f) ≡ lined_below t (account r book)
  lined-is t = λ i. cond (wants-is i) (before-is t i) 0

module _ (first : Opening) (f : Family) (book : Book) (m : ℕ) (k : Keeps first f book m) (some : 0 < length f.pools) where
  root-waits : (t : ℕ) → waiting_before t (root_of f) ≡ 0
  root-waits t = before-is first f book m k 0 some t ∙ ap (λ (l : List Mark). count_by (waits_below t) (tickets_of l)) k.root

  root-lined : (t : ℕ) → line.lined_ahead (Some t) (entry_of 0 f) ≡ 0
  root-lined t = by (wants_permits (entry_of 0 f).core)
    where
      by : (b : Bool) → cond b (waiting_before t (root_of f)) 0 ≡ 0
      by true = root-waits t
      by false = refl

  all-lined : (t : ℕ) → line.root_ahead (Some t) f ≡ ahead t book
  all-lined t =
      let whole = sum_by-drop_more (line.lined_ahead {C = Unit {0}} (Some t)) f.pools 0 no_pool some in
      let none = root-lined t in
      let root = root-waits t in
      let same = sum-alike (line.lined_ahead {C = Unit {0}} (Some t)) (lined_below t) no_pool nobody f.pools book k.alike.names (λ i lt. lined-is first f book m k i (let e = k.alike.names in omega (arith, e, lt)) t) in
      omega (arith, whole, none, root, same)

  pub admits-is : (t : ℕ) → line.root_admits (Some t) f ≡ nat_lt (ahead t book) (book_of.free (account 0 book))
  admits-is t = λ i. nat_lt (all-lined t i) (free-is first f book m k 0 some i)

  -- nothing of the root is idle
  pub root-idle : length (entry_of 0 f).core.idle ≡ 0
  root-idle = idle-stands (pool_in 0 f) (account 0 book).marks (stands first f book m k 0 some) ∙ ap (λ (l : List Mark). length (idle_of l)) k.root

module _ (first : Opening) (f : Family) (book : Book) (m q t : ℕ) (k : Keeps first f book m) (child : 1 ≤ q) (lt : q < length f.pools) where
  child-is : (q == 0) ≡ false
  child-is = ne_eqb q 0 (omega (arith, child))

  pub alone-is : line.is_entitled_alone q t f ≡ own_rule q t book
  alone-is = ap (λ (b : Bool). cond b (line.root_admits (Some t) f) (is_first_in_line t (entry_of q f).core)) child-is ∙ own-is first f book m k q lt t

  pub by_root-is : line.is_entitled_by_root q t f ≡ root_rule q t book
  by_root-is =
      ap (λ (b : Bool). not b && wants_permits (entry_of q f).core && line.root_admits (Some t) f) child-is
      ∙ (λ i. (wants-is first f book m k q lt i) && (admits-is first f book m k (omega (arith, lt)) t i))

  pub entitled-is : line.is_entitled q t f ≡ (own_rule q t book || root_rule q t book)
  entitled-is = λ i. alone-is i || by_root-is i
