-- A family stays one after each step of a pool, and where permits move.
use Rattle.std.proofs.Common.{◌≡◌, ℕ, ◌+◌, ◌-◌, ◌<◌, ◌≤◌, ◌^◌, inl, inr, Result, Ok, Err, IfOk, OnErr, map, [], ◌∷◌, ◌++◌, Bool, true, false, List, length, get_or, All, refl, sym, ap, ◌∙◌, subst, arith, sum_by}
use Rattle.std.specs.Prelude.{slice_set}
use Rattle.std.proofs.lemmas.List.{length-set, length-map, length-append, get_or_append_left}
use Rattle.std.proofs.lemmas.List.Elements.{All-set, All-head, All-tail, All-weaker, All-get_or, All-append, All-cons, All-nil}
use Rattle.std.proofs.lemmas.List.Sums.{sum_by-set, sum_by-cons, sum_by_push}
use Rattle.sqlx_pool_marks.specs.declared.mark.Mark.{Mark}
use Rattle.sqlx_pool_lists.specs.declared.shared.Shared.{Shared}
use Rattle.sqlx_pool_lists.specs.declared.options.PoolOptions.{PoolOptions}
use Rattle.sqlx_pool_lists.specs.Core.{Core, core_of, free, taken, gone, asking, loan, resting}
use Rattle.sqlx_pool_lists.specs.StandsFor.{StandsIn}
use Rattle.sqlx_pool_core.specs.Numbers.{Draws, Stays, under_way}
use Rattle.sqlx_pool_lists.specs.Sound.{IsSound}
use Rattle.sqlx_pool_lists.specs.MaintenanceSteps.{closed_from}
use Rattle.sqlx_pool_lists.specs.Shared.{told, shared_of, with_permits}
use Rattle.sqlx_family.specs.declared.family.FamilyPool.{FamilyPool}
use Rattle.sqlx_family.specs.Pools.{Pools, pools_of, entry_of, new_pool, new_family}
use Rattle.sqlx_family.specs.NoPool.{no_pool}
use Rattle.sqlx_family.specs.Permits.{owned_by, with_less}
use Rattle.sqlx_family.specs.IsFamily.{permits_of, under_way_in, Joins, IsFamily}
use Rattle.sqlx_family.proofs.Entries.{entry-is, look-set}

abbrev max_of : {C : Type 0} → FamilyPool C → ℕ
max_of p = p.core.options.max_connections

sum-paid : {C : Type 0} (h : Shared) (ps : List (FamilyPool C)) → All (Joins h) ps → sum_by under_way_in ps ≤ sum_by permits_of ps
sum-paid h [] all = omega arith
sum-paid h (p ∷ ps) all =
    let head = (All-head (Joins h) p ps all).paid in
    let rest = sum-paid h ps (All-tail (Joins h) p ps all) in
    let a = sum_by-cons under_way_in p ps in
    let b = sum_by-cons permits_of p ps in
    omega (arith, head, rest, a, b)

joins-more : {C : Type 0} (h later : Shared) → h.next_ticket ≤ later.next_ticket → h.next_conn ≤ later.next_conn → (p : FamilyPool C) → Joins h p → Joins later p
joins-more h later tu cd p j = record { tickets = let e = j.tickets in omega (arith, e, tu); conns = let e = j.conns in omega (arith, e, cd); paid = j.paid; fits = j.fits }

module _ {C : Type 0} (xs : List (FamilyPool C)) (h : Shared) (i : ℕ) (old : FamilyPool C) (mid new : Core C) (f : IsFamily (pools_of xs h)) (lt : i < length xs) (is : old ≡ get_or xs i old) where
  abbrev next : FamilyPool C
  next = record { core = new; retired = old.retired }

  -- A pool's step by which no permit moves.
  pub family-kept : (closed : Bool) (made : List Mark) → mid ≡ told closed h old.core → new.options ≡ mid.options → new.permits ≡ mid.permits → Draws mid new made → IsSound new
      → IsFamily (pools_of (slice_set xs i (record { core = new; retired = old.retired })) (shared_of new))
  family-kept closed made heard opts perms draws sound = record {
    some = let e = length-set xs i next in let k = f.some in omega (arith, e, k);
    few = let e = length-set xs i next in let k = f.few in omega (arith, e, k);
    small = let k = f.small in omega (arith, k, most);
    permits = let k = f.permits in omega (arith, k, most, sums, permits);
    first_ticket = let k = f.first_ticket in omega (arith, k, mt);
    first_conn = let k = f.first_conn in omega (arith, k, mc);
    few_tickets = sound.few_tickets;
    few_conns = few;
    joins = joins_all;
  }
    where
      permits : new.permits ≡ old.core.permits
      permits = perms ∙ ap (λ (n : Core C). n.permits) heard

      most : max_of (get_or (slice_set xs i next) 0 no_pool) ≡ max_of (get_or xs 0 no_pool)
      most = look-set max_of xs i next old lt is 0 (ap (λ o. o.max_connections) opts ∙ ap (λ (n : Core C). n.options.max_connections) heard)

      sums : sum_by permits_of (slice_set xs i next) + old.core.permits ≡ sum_by permits_of xs + new.permits
      sums = ap (λ (o : FamilyPool C). sum_by permits_of (slice_set xs i next) + permits_of o) is ∙ sum_by-set permits_of xs i next old lt

      ways : sum_by under_way_in (slice_set xs i next) + under_way old.core ≡ sum_by under_way_in xs + under_way new
      ways = ap (λ (o : FamilyPool C). sum_by under_way_in (slice_set xs i next) + under_way_in o) is ∙ sum_by-set under_way_in xs i next old lt

      tickets : mid.next_ticket ≡ h.next_ticket
      tickets = ap (λ (n : Core C). n.next_ticket) heard

      conns : mid.next_conn ≡ h.next_conn
      conns = ap (λ (n : Core C). n.next_conn) heard

      mt : h.next_ticket ≤ new.next_ticket
      mt = let e = draws.more_tickets in omega (arith, e, tickets)

      mc : h.next_conn ≤ new.next_conn
      mc = let e = draws.more_conns in omega (arith, e, conns)

      room : new.permits ≤ new.options.max_connections
      room =
          let k = (subst (Joins h) (sym is) (All-get_or (Joins h) xs i old lt f.joins)).fits in
          let o = ap (λ o. o.max_connections) opts in
          let n = ap (λ (n : Core C). n.options.max_connections) heard in
          omega (arith, k, o, n, permits)

      joins_all : All (Joins (shared_of new)) (slice_set xs i next)
      joins_all = All-set (Joins (shared_of new)) xs i next
          (record { tickets = omega arith; conns = omega arith; paid = let p = sound.paid in omega (arith, p); fits = room })
          (All-weaker (Joins h) (Joins (shared_of new)) (joins-more h (shared_of new) mt mc) xs f.joins)

      few : new.next_conn + sum_by under_way_in (slice_set xs i next) ≤ 2 ^ 63 + 1 + max_of (get_or (slice_set xs i next) 0 no_pool)
      few = elim draws.few [
        | inl le ↦ let k = f.few_conns in let u = ap under_way heard in omega (arith, k, le, ways, u, most, conns)
        | inr two ↦
            let a = two.0 in
            let e = two.1 in
            let paid = sum-paid (shared_of new) (slice_set xs i next) joins_all in
            let k = f.permits in
            omega (arith, a, e, paid, k, sums, permits, most)
      ]

-- the same, where the family goes on from what the pool tells
pub family-steps : {C : Type 0} (xs : List (FamilyPool C)) (h : Shared) (i : ℕ) (old : FamilyPool C) (mid new : Core C) → IsFamily (pools_of xs h) → i < length xs → old ≡ get_or xs i old
    → (closed : Bool) (made : List Mark) → mid ≡ told closed h old.core → Stays mid new → Draws mid new made → IsSound new → {after : Shared} → after ≡ shared_of new
    → IsFamily (pools_of (slice_set xs i (record { core = new; retired = old.retired })) after)
family-steps xs h i old mid new f lt is closed made heard stays draws sound tells =
    subst (λ (a : Shared). IsFamily (pools_of (slice_set xs i (record { core = new; retired = old.retired })) a)) (sym tells)
    (family-kept xs h i old mid new f lt is closed made heard stays.options stays.permits draws sound)

-- an ask, which draws a number or changes nothing
pub family-asked : {C E : Type 0} (xs : List (FamilyPool C)) (h : Shared) (i : ℕ) (old : FamilyPool C) (mid new : Core C) → IsFamily (pools_of xs h) → i < length xs → old ≡ get_or xs i old
    → (closed : Bool) (r : Result ℕ E) (made : ℕ → List Mark) → mid ≡ told closed h old.core → Stays mid new → IfOk r (λ n. Draws mid new (made n)) → OnErr r (new ≡ mid) → IsSound new → {after : Shared} → after ≡ shared_of new
    → IsFamily (pools_of (slice_set xs i (record { core = new; retired = old.retired })) after)
family-asked xs h i old mid new f lt is closed (Ok n) made heard stays draws err sound tells = family-steps xs h i old mid new f lt is closed (made n) heard stays draws sound tells
family-asked {C} xs h i old mid new f lt is closed (Err e) made heard stays draws err sound tells =
    family-steps xs h i old mid new f lt is closed [] heard stays
    (subst (λ (n : Core C). Draws mid n []) (sym err) (record { tickets = refl; conns = refl; more_tickets = omega arith; more_conns = omega arith; few = inl (omega arith) })) sound tells

closed-options : {C : Type 0} (b : Bool) (core : Core C) → ((closed_from b core).options ≡ core.options) × ((closed_from b core).permits ≡ core.permits)
closed-options true core = (refl, refl)
closed-options false core = (refl, refl)

-- a close
pub family-closed : {C : Type 0} (xs : List (FamilyPool C)) (h : Shared) (i : ℕ) (old : FamilyPool C) (mid new : Core C) → IsFamily (pools_of xs h) → i < length xs → old ≡ get_or xs i old
    → (closed : Bool) (made : List Mark) → mid ≡ told closed h old.core → new ≡ closed_from mid.shut mid → Draws mid new made → IsSound new → {after : Shared} → after ≡ shared_of new
    → IsFamily (pools_of (slice_set xs i (record { core = new; retired = old.retired })) after)
family-closed {C} xs h i old mid new f lt is closed made heard e draws sound tells =
    subst (λ (a : Shared). IsFamily (pools_of (slice_set xs i (record { core = new; retired = old.retired })) a)) (sym tells)
    (family-kept xs h i old mid new f lt is closed made heard (ap (λ (n : Core C). n.options) e ∙ (closed-options mid.shut mid).0) (ap (λ (n : Core C). n.permits) e ∙ (closed-options mid.shut mid).1) draws sound)

-- ---- permits that move

module _ {C : Type 0} (xs : List (FamilyPool C)) (h : Shared) (from to n : ℕ) (lender taker : FamilyPool C) (f : IsFamily (pools_of xs h)) (lt : from < length xs) (is : lender ≡ get_or xs from lender) where
  abbrev low : FamilyPool C
  low = record { core = with_permits (lender.core.permits - n) lender.core; retired = lender.retired }

  abbrev high : FamilyPool C
  high = record { core = with_permits (taker.core.permits + n) taker.core; retired = taker.retired }

  abbrev lent : List (FamilyPool C)
  lent = slice_set xs from low

  most-lent : max_of (get_or lent 0 no_pool) ≡ max_of (get_or xs 0 no_pool)
  most-lent = look-set max_of xs from low lender lt is 0 refl

  sums-lent : sum_by permits_of lent + lender.core.permits ≡ sum_by permits_of xs + (lender.core.permits - n)
  sums-lent = ap (λ (o : FamilyPool C). sum_by permits_of lent + permits_of o) is ∙ sum_by-set permits_of xs from low lender lt

  pub family-moved : to < length xs → taker ≡ get_or (slice_set xs from (record { core = with_permits (lender.core.permits - n) lender.core; retired = lender.retired })) to taker
      → n ≤ free lender.core → taken lender.core ≤ lender.core.permits → taker.core.permits + n ≤ max_of taker
      → IsFamily (pools_of (slice_set (slice_set xs from (record { core = with_permits (lender.core.permits - n) lender.core; retired = lender.retired })) to (record { core = with_permits (taker.core.permits + n) taker.core; retired = taker.retired })) h)
  family-moved lt_to is_to few_free paid room = record {
    some = let a = length-set xs from low in let b = length-set lent to high in let k = f.some in omega (arith, a, b, k);
    few = let a = length-set xs from low in let b = length-set lent to high in let k = f.few in omega (arith, a, b, k);
    small = let k = f.small in omega (arith, k, most, most-lent);
    permits = let k = f.permits in let a = sums-lent in omega (arith, k, a, sums, most, most-lent, few_free, paid);
    first_ticket = f.first_ticket;
    first_conn = f.first_conn;
    few_tickets = f.few_tickets;
    few_conns = let k = f.few_conns in omega (arith, k, ways-lent, ways, most, most-lent);
    joins = All-set (Joins h) lent to high (record { tickets = known.tickets; conns = known.conns; paid = let p = known.paid in omega (arith, p); fits = room }) joins-lent;
  }
    where
      within : to < length lent
      within = let a = length-set xs from low in omega (arith, a, lt_to)

      most : max_of (get_or (slice_set lent to high) 0 no_pool) ≡ max_of (get_or lent 0 no_pool)
      most = look-set max_of lent to high taker within is_to 0 refl

      sums : sum_by permits_of (slice_set lent to high) + taker.core.permits ≡ sum_by permits_of lent + (taker.core.permits + n)
      sums = ap (λ (o : FamilyPool C). sum_by permits_of (slice_set lent to high) + permits_of o) is_to ∙ sum_by-set permits_of lent to high taker within

      ways-lent : sum_by under_way_in lent + under_way lender.core ≡ sum_by under_way_in xs + under_way lender.core
      ways-lent = ap (λ (o : FamilyPool C). sum_by under_way_in lent + under_way_in o) is ∙ sum_by-set under_way_in xs from low lender lt

      ways : sum_by under_way_in (slice_set lent to high) + under_way taker.core ≡ sum_by under_way_in lent + under_way taker.core
      ways = ap (λ (o : FamilyPool C). sum_by under_way_in (slice_set lent to high) + under_way_in o) is_to ∙ sum_by-set under_way_in lent to high taker within

      lends : Joins h lender
      lends = subst (Joins h) (sym is) (All-get_or (Joins h) xs from lender lt f.joins)

      joins-lent : All (Joins h) lent
      joins-lent = All-set (Joins h) xs from low (record { tickets = lends.tickets; conns = lends.conns; paid = omega (arith, few_free, paid); fits = let e = lends.fits in omega (arith, e) }) f.joins

      known : Joins h taker
      known = subst (Joins h) (sym is_to) (All-get_or (Joins h) lent to taker within joins-lent)

-- there is room for what moves
moves-room : {C : Type 0} (xs : List (FamilyPool C)) (h : Shared) (from to n : ℕ) (lender taker : FamilyPool C) → from < length xs → lender ≡ get_or xs from lender → to < length xs
    → taker ≡ get_or (slice_set xs from (record { core = with_permits (lender.core.permits - n) lender.core; retired = lender.retired })) to taker
    → owned_by to (with_less from n (pools_of xs h)) + n ≤ (entry_of to (pools_of xs h)).core.options.max_connections → taker.core.permits + n ≤ max_of taker
moves-room {C} xs h from to n lender taker lt is lt_to is_to room =
    let place = entry-is (λ (p : FamilyPool C). p.retired) xs from lender lender lt is in
    let taken_by = ap (λ (p : FamilyPool C). get_or (slice_set xs from (record p { core = with_permits (p.core.permits - n) p.core })) to no_pool) place
    ∙ entry-is (λ (p : FamilyPool C). p.retired) lent to taker taker (let e = length-set xs from low in omega (arith, e, lt_to)) is_to in
    let owned = ap permits_of taken_by in
    let most = ap max_of (sym (entry-is (λ (p : FamilyPool C). p.retired) lent to taker taker (let e = length-set xs from low in omega (arith, e, lt_to)) is_to)) ∙ look-set max_of xs from low lender lt is to refl in
    omega (arith, owned, most, room)
  where
    low : FamilyPool C
    low = record { core = with_permits (lender.core.permits - n) lender.core; retired = lender.retired }

    lent : List (FamilyPool C)
    lent = slice_set xs from low

-- the same, by what the family was
pub family-moves : {C : Type 0} (xs : List (FamilyPool C)) (h : Shared) (now : Pools C) (from to n : ℕ) (lender taker : FamilyPool C) → IsFamily (pools_of xs h) → pools_of xs h ≡ now
    → from < length now.pools → to < length now.pools → n ≤ free (entry_of from now).core → owned_by to (with_less from n now) + n ≤ (entry_of to now).core.options.max_connections → lender ≡ get_or xs from lender
    → taker ≡ get_or (slice_set xs from (record { core = with_permits (lender.core.permits - n) lender.core; retired = lender.retired })) to taker → taken lender.core ≤ lender.core.permits
    → IsFamily (pools_of (slice_set (slice_set xs from (record { core = with_permits (lender.core.permits - n) lender.core; retired = lender.retired })) to (record { core = with_permits (taker.core.permits + n) taker.core; retired = taker.retired })) h)
family-moves {C} xs h now from to n lender taker f view lt lt_to few room is is_to paid =
    subst (λ (w : Pools C). from < length w.pools → to < length w.pools → n ≤ free (entry_of from w).core → owned_by to (with_less from n w) + n ≤ (entry_of to w).core.options.max_connections
    → IsFamily (pools_of (slice_set (slice_set xs from (record { core = with_permits (lender.core.permits - n) lender.core; retired = lender.retired })) to (record { core = with_permits (taker.core.permits + n) taker.core; retired = taker.retired })) h)) view
    (λ a b e r.
    let place = entry-is (λ (p : FamilyPool C). p.retired) xs from lender lender a is in
    family-moved xs h from to n lender taker f a is b is_to (subst (λ (p : FamilyPool C). n ≤ free p.core) place e) paid (moves-room xs h from to n lender taker a is b is_to r)) lt lt_to few room

-- a pool that is retired from now on
pub family-retiring : {C : Type 0} (xs : List (FamilyPool C)) (h : Shared) (i : ℕ) (old : FamilyPool C) → IsFamily (pools_of xs h) → i < length xs → old ≡ get_or xs i old
    → IsFamily (pools_of (slice_set xs i (record { core = old.core; retired = true })) h)
family-retiring {C} xs h i old f lt is = record {
  some = let e = length-set xs i next_pool in let k = f.some in omega (arith, e, k);
  few = let e = length-set xs i next_pool in let k = f.few in omega (arith, e, k);
  small = let k = f.small in omega (arith, k, most);
  permits = let k = f.permits in omega (arith, k, most, sums);
  first_ticket = f.first_ticket;
  first_conn = f.first_conn;
  few_tickets = f.few_tickets;
  few_conns = let k = f.few_conns in omega (arith, k, ways, most);
  joins = All-set (Joins h) xs i next_pool (record { tickets = known.tickets; conns = known.conns; paid = known.paid; fits = known.fits }) f.joins;
}
  where
    next_pool : FamilyPool C
    next_pool = record { core = old.core; retired = true }

    known : Joins h old
    known = subst (Joins h) (sym is) (All-get_or (Joins h) xs i old lt f.joins)

    most : max_of (get_or (slice_set xs i next_pool) 0 no_pool) ≡ max_of (get_or xs 0 no_pool)
    most = look-set max_of xs i next_pool old lt is 0 refl

    sums : sum_by permits_of (slice_set xs i next_pool) + old.core.permits ≡ sum_by permits_of xs + old.core.permits
    sums = ap (λ (o : FamilyPool C). sum_by permits_of (slice_set xs i next_pool) + permits_of o) is ∙ sum_by-set permits_of xs i next_pool old lt

    ways : sum_by under_way_in (slice_set xs i next_pool) + under_way old.core ≡ sum_by under_way_in xs + under_way old.core
    ways = ap (λ (o : FamilyPool C). sum_by under_way_in (slice_set xs i next_pool) + under_way_in o) is ∙ sum_by-set under_way_in xs i next_pool old lt

-- ---- a new child

pub family-added : {C : Type 0} (xs : List (FamilyPool C)) (h : Shared) (p : FamilyPool C) → IsFamily (pools_of xs h) → length xs < 2 ^ 32 - 1 → p.core.permits ≡ 0 → taken p.core ≡ 0 → p.core.next_ticket ≡ 1 → p.core.next_conn ≡ 1
    → IsFamily (pools_of (xs ++ p ∷ []) h)
family-added {C} xs h p f room permits idle tickets conns = record {
  some = omega (arith, longer);
  few = omega (arith, longer, room);
  small = let k = f.small in omega (arith, k, most);
  permits = let k = f.permits in let e = sum_by_push permits_of xs p in omega (arith, k, e, most, permits);
  first_ticket = f.first_ticket;
  first_conn = f.first_conn;
  few_tickets = f.few_tickets;
  few_conns = let k = f.few_conns in let e = sum_by_push under_way_in xs p in omega (arith, k, e, most, idle);
  joins = All-append (Joins h) xs (p ∷ []) f.joins (All-cons (Joins h) p [] joins (All-nil (Joins h)));
}
  where
    longer : length (xs ++ p ∷ []) ≡ length xs + 1
    longer = length-append xs (p ∷ [])

    joins : Joins h p
    joins = let a = f.first_ticket in let b = f.first_conn in record { tickets = omega (arith, a, tickets); conns = omega (arith, b, conns); paid = omega (arith, idle); fits = omega (arith, permits) }

    most : max_of (get_or (xs ++ p ∷ []) 0 no_pool) ≡ max_of (get_or xs 0 no_pool)
    most = ap max_of (get_or_append_left xs (p ∷ []) no_pool 0 (let k = f.some in omega (arith, k)))

-- a new pool owes no permit
pub new-owes : {C : Type 0} (core : Core C) → StandsIn core [] → gone core.tickets ≡ 0 → core.places ≡ 0 → taken core ≡ 0
new-owes core stands a b = let held : length (map loan core.held) ≡ 0 = ap length stands.loans in let long = length-map core.held loan in let leaked : core.leaked ≡ 0 = stands.leaked in omega (arith, a, b, held, long, leaked)

none_mapped : {X Y : Type 0} (f : X → Y) (xs : List X) → map f xs ≡ [] → xs ≡ []
none_mapped f [] e = refl
none_mapped f (x ∷ xs) e = absurd cc

-- a new pool by its fields
pub new-value : {C : Type 0} (core : Core C) (options : PoolOptions) (n : ℕ) → StandsIn core [] → core.options ≡ options → core.permits ≡ n → core.closed ≡ core.shut → core.shut ≡ false → core.next_ticket ≡ 1 → core.next_conn ≡ 1 → core.places ≡ 0 → core.last ≡ 0
    → ◌≡◌ {A = FamilyPool C} (record { core = core; retired = false }) (new_pool options n)
new-value core options n s is permits closed shut ticket conn places last = λ i. record {
  core = core_of (is i) (none_mapped asking core.tickets s.tickets i) (none_mapped loan core.held s.loans i) (none_mapped resting core.idle s.idle i) (s.leaked i) (shut i) ((closed ∙ shut) i) (places i) (permits i) (ticket i) (conn i) (last i);
  retired = false;
}

-- a family of a root alone
pub family-new : {C : Type 0} (options : PoolOptions) → options.max_connections < 2 ^ 32 → IsFamily {C = C} (new_family options)
family-new {C} options small = record {
  some = omega arith;
  few = omega arith;
  small = small;
  permits = let e = sum_by-cons permits_of root [] in omega (arith, e);
  first_ticket = omega arith;
  first_conn = omega arith;
  few_tickets = omega arith;
  few_conns = let e = sum_by-cons under_way_in root [] in omega (arith, e);
  joins = All-cons (Joins shared) root [] joins (All-nil (Joins shared));
}
  where
    root : FamilyPool C
    root = new_pool options options.max_connections

    shared : Shared
    shared = record { next_ticket = 1; next_conn = 1; last = record { 0 = 0 } }

    joins : Joins shared root
    joins = record { tickets = omega arith; conns = omega arith; paid = omega arith; fits = omega arith }
