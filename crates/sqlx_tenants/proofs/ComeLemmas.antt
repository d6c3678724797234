-- A tenant comes, and the first book of a new family.
use Rattle.std.proofs.Common.{◌≡◌, ◌≢◌, ℕ, ◌<◌, ◌≤◌, ◌+◌, ◌||◌, inl, inr, List, [], ◌∷◌, ◌++◌, Bool, true, false, cond, length, get_or, max, sym, ap, refl, ◌∙◌, subst, arith, suc, zero, length-append}
use Rattle.std.proofs.lemmas.Bool.{ne_eqb, eq-eqb}
use Rattle.std.proofs.lemmas.Bool.Decides.{eqb_tells}
use Rattle.std.proofs.lemmas.List.{get_or_append_left}
use Rattle.std.proofs.lemmas.List.Elements.{All-nil}
use Rattle.sqlx_pool_lists.specs.declared.shared.Shared.{Shared}
use Rattle.sqlx_pool_lists.specs.declared.options.PoolOptions.{PoolOptions}
use Rattle.sqlx_pool_lists.specs.Core.{core_of}
use Rattle.sqlx_pool_lists.specs.Shared.{told}
use Rattle.sqlx_pool_lists.specs.StandsFor.{StandsIn}
use Rattle.sqlx_family.specs.NoPool.{no_pool}
use Rattle.sqlx_family.specs.Pools.{entry_of, root_of, pool_in, new_pool, new_family, with_child}
use Rattle.sqlx_lines.specs.Numbers.{nanos}
use Rattle.sqlx_tenants_rules.specs.declared.event.Opening.{Opening}
use Rattle.sqlx_tenants_rules.specs.declared.reply.Reply.{Reply}
use Rattle.sqlx_tenants_rules.specs.declared.reply.Reply.TheVariants as reply
use Rattle.sqlx_tenants_rules.specs.Book.{Account, Book, nobody, account, new_book, live, open_in, greatest, ticket_behind, conn_behind}
use Rattle.sqlx_tenants_rules.specs.Rules.{tenant_reply, after_tenant, most}
use Rattle.sqlx_tenants.specs.Keeps.{IsPool, Keeps, logs_of, options_for}
use Rattle.sqlx_tenants.proofs.Alike.{Family, Entry}
use Rattle.sqlx_tenants.proofs.Books.{greatest-some}
use Rattle.sqlx_tenants.proofs.AskLemmas.{moment-later}

-- the last of a list
last-of : {A : Type 0} (xs : List A) (y d : A) → get_or (xs ++ y ∷ []) (length xs) d ≡ y
last-of [] y d = refl
last-of (x ∷ xs) y d = last-of xs y d

greatest-new : (f : Account → ℕ) (book : Book) (a : Account) → f a ≡ 1 → greatest f (book ++ a ∷ []) ≡ greatest f book
unfolding greatest
greatest-new f [] a e = ap (λ n. max n 1) e
greatest-new f (b ∷ book) a e = ap (max (f b)) (greatest-new f book a e)

-- a pool that did nothing yet
fresh-stands : (options : PoolOptions) (n : ℕ) (closed : Bool) (h : Shared) → 1 ≤ h.next_ticket → 1 ≤ h.next_conn → StandsIn (told closed h (core_of {C = Unit {0}} options [] [] [] 0 false false 0 n 1 1 0)) []
fresh-stands options n closed h tickets conns = record {
  tickets = refl;
  loans = refl;
  idle = refl;
  leaked = refl;
  shut = refl;
  ticket_number = tickets;
  conn_number = conns;
  named = All-nil _;
  held_born = All-nil _;
  idle_born = All-nil _;
  tested_born = All-nil _;
}

fresh-pool : (timeout budget n : ℕ) → IsPool timeout (new_pool (options_for budget timeout) n) (record { budget = budget; owned = n; marks = [] })
fresh-pool timeout budget n = record {
  options = refl;
  owned = refl;
  retired = refl;
  rests = record { places = refl; leaked = refl; gone = refl; covered = omega arith };
  empty = λ e. absurd (let no : false ≡ true = e in cc);
}

module _ (first : Opening) (f : Family) (book : Book) (m now budget : ℕ) (k : Keeps first f book m) (le : m ≤ nanos now) where
  abbrev options : PoolOptions
  options = options_for budget (nanos first.timeout)

  abbrev g : Family
  g = with_child options f

  abbrev next : Account
  next = record { budget = budget; owned = 0; marks = [] }

  abbrev next_book : Book
  next_book = book ++ next ∷ []

  longer : length next_book ≡ length book + 1
  longer = length-append book (next ∷ [])

  longer-pools : length g.pools ≡ length f.pools + 1
  longer-pools = length-append f.pools (new_pool options 0 ∷ [])

  old-entry : (r : ℕ) → r < length book → entry_of r g ≡ entry_of r f
  old-entry r lt = get_or_append_left f.pools (new_pool options 0 ∷ []) no_pool r (let e = k.alike.names in omega (arith, e, lt))

  new-entry : entry_of (length book) g ≡ new_pool options 0
  new-entry = ap (λ n. get_or g.pools n no_pool) (sym k.alike.names) ∙ last-of f.pools (new_pool options 0) no_pool

  old-account : (r : ℕ) → r < length book → account r next_book ≡ account r book
  old-account r lt = get_or_append_left book (next ∷ []) nobody r lt

  new-account : account (length book) next_book ≡ next
  new-account = last-of book next nobody

  each : (r : ℕ) → r < length next_book → IsPool (nanos first.timeout) (entry_of r g) (account r next_book)
  each r below = elim (eqb_tells r (length book)) [
    | inl same ↦ subst (λ (n : ℕ). IsPool (nanos first.timeout) (entry_of n g) (account n next_book)) (sym same.1)
        (subst (λ (e : Entry). IsPool (nanos first.timeout) e (account (length book) next_book)) (sym new-entry)
        (subst (λ (a : Account). IsPool (nanos first.timeout) (new_pool options 0) a) (sym new-account) (fresh-pool (nanos first.timeout) budget 0)))
    | inr other ↦
        let lt : r < length book = (let n = other.1 in omega (arith, n, below, longer)) in
        subst (λ (e : Entry). IsPool (nanos first.timeout) e (account r next_book)) (sym (old-entry r lt))
        (subst (λ (a : Account). IsPool (nanos first.timeout) (entry_of r f) a) (sym (old-account r lt)) (k.alike.each r lt))
  ]

  root-same : entry_of 0 g ≡ entry_of 0 f
  root-same = old-entry 0 (let s = k.some in omega (arith, s))

  stand : (r : ℕ) → r < length g.pools → StandsIn (pool_in r g) (logs_of next_book r)
  stand r below = elim (eqb_tells r (length book)) [
    | inl same ↦ subst (λ (n : ℕ). StandsIn (pool_in n g) (logs_of next_book n)) (sym same.1)
        (subst (λ (a : Account). StandsIn (pool_in (length book) g) a.marks) (sym new-account)
        (subst (λ (e : Entry). StandsIn (told (e.core.shut || (root_of g).shut) f.shared e.core) []) (sym new-entry)
        (fresh-stands options 0 (false || (root_of g).shut) f.shared
        (let t = k.tickets in let n = greatest-some ticket_behind book in omega (arith, t, n)) (let t = k.conns in let n = greatest-some conn_behind book in omega (arith, t, n)))))
    | inr other ↦
        let lt : r < length book = (let n = other.1 in let e = k.alike.names in omega (arith, n, below, longer-pools, e)) in
        subst (λ (e : Entry). StandsIn (told (e.core.shut || (root_of g).shut) f.shared e.core) (logs_of next_book r)) (sym (old-entry r lt))
        (subst (λ (z : Entry). StandsIn (told ((entry_of r f).core.shut || z.core.shut) f.shared (entry_of r f).core) (logs_of next_book r)) (sym root-same)
        (subst (λ (a : Account). StandsIn (pool_in r f) a.marks) (sym (old-account r lt)) (k.logs r (let e = k.alike.names in omega (arith, e, lt)))))
  ]

  lives : (r : ℕ) → r < length next_book → live (account r next_book) ≤ open_in (account r next_book)
  lives r below = elim (eqb_tells r (length book)) [
    | inl same ↦ subst (λ (n : ℕ). live (account n next_book) ≤ open_in (account n next_book)) (sym same.1) (subst (λ (a : Account). live a ≤ open_in a) (sym new-account) (omega arith))
    | inr other ↦
        let lt : r < length book = (let n = other.1 in omega (arith, n, below, longer)) in
        subst (λ (a : Account). live a ≤ open_in a) (sym (old-account r lt)) (k.lives r lt)
  ]

  grown : length book ≤ most → Keeps first g next_book (nanos now)
  grown room = record {
    alike = record { names = longer-pools ∙ ap (λ n. n + 1) k.alike.names ∙ sym longer; each = each };
    some = omega (arith, longer);
    few = omega (arith, longer, room);
    logs = stand;
    root = ap (λ (a : Account). a.marks) (old-account 0 (let s = k.some in omega (arith, s))) ∙ k.root;
    limit = ap (λ (a : Account). a.budget) (old-account 0 (let s = k.some in omega (arith, s))) ∙ k.limit;
    tickets = k.tickets ∙ sym (greatest-new ticket_behind book next refl);
    conns = k.conns ∙ sym (greatest-new conn_behind book next refl);
    reached = let e = k.reached in omega (arith, e, le);
    lives = lives;
  }

  -- a tenant comes
  pub comes : (n : ℕ) (new : Family) → length f.pools ≢ most + 1 → n ≡ length f.pools → new ≡ with_child options f → (reply.Tenant n ≡ tenant_reply book) × Keeps first new (after_tenant budget (tenant_reply book) book) (nanos now)
  comes n new room named becomes =
      let answer : reply.Tenant n ≡ tenant_reply book =
      ap reply.Tenant (named ∙ k.alike.names) ∙ sym (ap (λ (b : Bool). cond b reply.Full (reply.Tenant (length book))) (ne_eqb (length book) (most + 1) (let e = k.alike.names in omega (arith, room, e)))) in
      (answer, subst (λ (r : Reply). Keeps first new (after_tenant budget r book) (nanos now)) answer (subst (λ (h : Family). Keeps first h next_book (nanos now)) (sym becomes) (grown (let few = k.few in let e = k.alike.names in omega (arith, few, room, e)))))

  -- as many came as may
  pub full : length f.pools ≡ most + 1 → (reply.Full ≡ tenant_reply book) × Keeps first f (after_tenant budget (tenant_reply book) book) (nanos now)
  full all =
      let answer : reply.Full ≡ tenant_reply book = sym (ap (λ (b : Bool). cond b reply.Full (reply.Tenant (length book))) (eq-eqb (length book) (most + 1) (let e = k.alike.names in omega (arith, all, e)))) in
      (answer, subst (λ (r : Reply). Keeps first f (after_tenant budget r book) (nanos now)) answer (moment-later first f book m (nanos now) k le))

-- ---- before any tenant came

pub opened : (first : Opening) (f : Family) → f ≡ new_family (options_for first.limit (nanos first.timeout)) → Keeps first f (new_book first.limit) 0
unfolding greatest
opened first f is = subst (λ (h : Family). Keeps first h (new_book first.limit) 0) (sym is) (record {
  alike = record { names = refl; each = each };
  some = omega arith;
  few = omega arith;
  logs = logs;
  root = refl;
  limit = refl;
  tickets = refl;
  conns = refl;
  reached = omega arith;
  lives = lives;
})
  where
    f0 : Family
    f0 = new_family (options_for first.limit (nanos first.timeout))

    each : (r : ℕ) → r < 1 → IsPool (nanos first.timeout) (entry_of r (new_family (options_for first.limit (nanos first.timeout)))) (account r (new_book first.limit))
    each zero lt = fresh-pool (nanos first.timeout) first.limit first.limit
    each (suc r) lt = absurd (omega (arith, lt))

    lives : (r : ℕ) → r < 1 → live (account r (new_book first.limit)) ≤ open_in (account r (new_book first.limit))
    lives zero lt = omega arith
    lives (suc r) lt = absurd (omega (arith, lt))

    logs : (r : ℕ) → r < 1 → StandsIn {C = Unit {0}} (pool_in r (new_family (options_for first.limit (nanos first.timeout)))) (logs_of (new_book first.limit) r)
    logs zero lt = fresh-stands (options_for first.limit (nanos first.timeout)) first.limit false _ (omega arith) (omega arith)
    logs (suc r) lt = absurd (omega (arith, lt))
