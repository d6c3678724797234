-- What the steps of a pool that one connection is enough for come to.
use Rattle.std.proofs.Common.{◌≡◌, ℕ, ◌-◌, ◌≤◌, ◌^◌, arith, max, min, Bool, true, false, not, ◌&&◌, cond, nat_lt, List, [], ◌∷◌, map, Option, Some, None, refl, sym, ap, subst, ◌∙◌, eq-eqb, ◌==◌}
use Rattle.std.proofs.lemmas.Bool.{lt-ltb, and_from}
use Rattle.sqlx_pool_marks.specs.Counts.{free_of}
use Rattle.sqlx_pool_marks.specs.EventTable.{is_beyond, may_pass, may_open}
use Rattle.sqlx_pool_lists.specs.declared.options.PoolOptions.{PoolOptions}
use Rattle.sqlx_pool_lists.specs.declared.steps.Lent.{Lent as LentValue}
use Rattle.sqlx_pool_lists.specs.declared.steps.Given.TheVariants as given
use Rattle.sqlx_pool_lists.specs.declared.ticket.OwnedConn.{OwnedConn}
use Rattle.sqlx_pool_lists.specs.Core.{Core, core_of, asking, loan, resting, loan_of}
use Rattle.sqlx_pool_lists.specs.MaintenanceSteps.{has_place, placed, done}
use Rattle.sqlx_pool_lists.specs.PollSteps.{try_lent, after_try}
use Rattle.sqlx_pool_lists.specs.StandsFor.{StandsFor}
use Rattle.sqlx_pool_lists.specs.Core as core
use Rattle.sqlx_pool_core.specs.ReturnSteps.{give_answer, core_after_give}
use Rattle.sqlx_single.specs.Single.{IsSingle, IsEmpty, Rests, Lends}

-- ---- a new pool

no_map : {X Y : Type 0} (f : X → Y) (xs : List X) → map f xs ≡ [] → xs ≡ []
no_map f [] e = refl
no_map f (x ∷ xs) e = cc

pub new_empty : {C : Type 0} (c : Core C) (options : PoolOptions) → StandsFor c [] → c.options ≡ options → c.places ≡ 0 → 1 ≤ options.max_connections → options.min_connections ≡ 1 → options.max_lifetime ≡ None → IsEmpty c
new_empty c options s same places some least lifetime =
    let tickets = no_map asking c.tickets s.tickets in
    let held = no_map loan c.held s.loans in
    let idle = no_map resting c.idle s.idle in
    record {
      some = subst (λ (o : PoolOptions). 1 ≤ o.max_connections) (sym same) some;
      least = ap (λ (o : PoolOptions). o.min_connections) same ∙ least;
      lifetime = ap (λ (o : PoolOptions). o.max_lifetime) same ∙ lifetime;
      shape = λ i. core_of c.options (tickets i) (held i) (idle i) (s.leaked i) (s.shut i) c.closed (places i) (s.permits i) c.next_ticket (s.conn_number i) c.last;
    }

-- ---- opening

-- a connection may pass where none is out
passes : (n : ℕ) → 1 ≤ n → may_pass false 0 (free_of n 0 0 0 0) ≡ true
passes n some = lt-ltb 0 (free_of n 0 0 0 0) (omega (arith, some))

pub has_room : {C : Type 0} (c : Core C) → IsEmpty c → has_place c.options.min_connections c ≡ true
has_room {C} c h =
    ap (λ (d : Core C). has_place c.options.min_connections d) h.shape
    ∙ ap (λ m. may_open false 0 (free_of c.options.max_connections 0 0 0 0) 0 m c.options.max_connections 1) h.least
    ∙ is_free c.options.max_connections h.some
  where
    is_free : (n : ℕ) → 1 ≤ n → may_open false 0 (free_of n 0 0 0 0) 0 1 n 1 ≡ true
    is_free n some = and_from _ _ (and_from _ _ (passes n some) (lt-ltb 0 (min 1 n) (omega (arith, some)))) refl

-- the pool with its place held
abbrev held_place : {C : Type 0} → Core C → Core C
held_place c = placed true c

abbrev opened_in : {C : Type 0} → C → Core C → Core C
opened_in raw c = done (held_place c).shut (max (held_place c).last 0) (Some raw) (held_place c)

pub opened_rests : {C : Type 0} (c c' : Core C) (raw : C) → IsEmpty c → c' ≡ opened_in raw c → Rests raw c'
opened_rests {C} c c' raw h e =
    let canon = core_of c.options [] [] [] 0 false c.closed 0 c.options.max_connections c.next_ticket 1 c.last in
    let is : c' ≡ opened_in raw canon = e ∙ ap (opened_in raw) h.shape in
    record {
      id = 1;
      created = max c.last 0;
      since = max c.last 0;
      single = subst (λ (d : Core C). IsSingle d ((record { lent = record { id = 1; created = record { 0 = max c.last 0 }; raw = raw }; since = record { 0 = max c.last 0 } }) ∷ []) [] 2) (sym is) (record { some = h.some; least = h.least; lifetime = h.lifetime; shape = refl });
    }

-- ---- lending

pub lends_first : {C : Type 0} (c : Core C) (raw : C) (r : Rests raw c)
    → try_lent (may_pass c.shut (core.waiting c.tickets) (core.free c)) c.idle ≡ Some (record { id = r.id; created = record { 0 = r.created }; raw = raw })
lends_first {C} c raw r = ap (λ (d : Core C). try_lent (may_pass d.shut (core.waiting d.tickets) (core.free d)) d.idle) r.single.shape
    ∙ ap (λ b. try_lent b ((record { lent = record { id = r.id; created = record { 0 = r.created }; raw = raw }; since = record { 0 = r.since } }) ∷ [])) (passes c.options.max_connections r.single.some)

pub lent_lends : {C : Type 0} (c c' : Core C) (raw : C) (r : Rests raw c) (m : ℕ) (lent : LentValue C) → lent ≡ record { id = r.id; created = record { 0 = r.created }; raw = raw } → c' ≡ after_try 0 m (Some lent) c → Lends lent.id c'
lent_lends {C} c c' raw r m lent same e =
    let one : LentValue C = record { id = r.id; created = record { 0 = r.created }; raw = raw } in
    let canon = core_of c.options [] [] ((record { lent = one; since = record { 0 = r.since } }) ∷ []) 0 false c.closed 0 c.options.max_connections c.next_ticket 2 c.last in
    let is : c' ≡ after_try 0 m (Some one) canon = e ∙ ap (λ (l : LentValue C). after_try 0 m (Some l) c) same ∙ ap (after_try 0 m (Some one)) r.single.shape in
    let lends : Lends r.id (after_try 0 m (Some one) canon) = record { created = r.created; single = record { some = r.single.some; least = r.single.least; lifetime = r.single.lifetime; shape = refl } } in
    subst (λ (d : Core C). Lends lent.id d) (sym is) (subst (λ k. Lends k (after_try 0 m (Some one) canon)) (sym (ap (λ (l : LentValue C). l.id) same)) lends)

-- ---- taking back

-- the loan of this number is found, and it is the only one
found_in : (id created : ℕ) → loan_of 0 id ((record { conn = id; client = 0; created = record { 0 = created } }) ∷ []) ≡ Some (record { conn = id; client = 0; created = record { 0 = created } })
found_in id created =
    let own : OwnedConn = record { conn = id; client = 0; created = record { 0 = created } } in
    let same : (id == id) ≡ true = eq-eqb id id refl in
    ap (λ b. cond (b && true) (Some own) None) same

pub is_kept : {C : Type 0} (c : Core C) (lent : LentValue C) (m : ℕ) → (h : Lends lent.id c) → give_answer c.options c.shut m true (loan_of 0 lent.id c.held) lent ≡ given.Kept
is_kept {C} c lent m h =
    let own : OwnedConn = record { conn = lent.id; client = 0; created = record { 0 = h.created } } in
    ap (λ (d : Core C). give_answer c.options d.shut m true (loan_of 0 lent.id d.held) lent) h.single.shape
    ∙ ap (λ (o : Option OwnedConn). give_answer c.options false m true o lent) (found_in lent.id h.created)
    ∙ ap (λ (limit : Option ℕ). cond (not (is_beyond limit (m - h.created))) given.Kept (given.Closed lent.raw)) h.single.lifetime

pub kept_rests : {C : Type 0} (c c' : Core C) (lent : LentValue C) (m : ℕ) → (h : Lends lent.id c) → c' ≡ core_after_give (loan_of 0 lent.id c.held) lent m given.Kept c → Rests lent.raw c'
kept_rests {C} c c' lent m h e =
    let own : OwnedConn = record { conn = lent.id; client = 0; created = record { 0 = h.created } } in
    let canon = core_of c.options [] (own ∷ []) [] 0 false c.closed 0 c.options.max_connections c.next_ticket 2 c.last in
    let same : (lent.id == lent.id) ≡ true = eq-eqb lent.id lent.id refl in
    let after : Bool → Core C = λ b. core_of c.options [] (cond (not b) (own ∷ []) []) ((record { lent = record lent { created = record { 0 = h.created } }; since = record { 0 = m } }) ∷ []) 0 false c.closed 0 c.options.max_connections c.next_ticket 2 m in
    let is : c' ≡ after true =
    e
    ∙ ap (λ (d : Core C). core_after_give (loan_of 0 lent.id d.held) lent m given.Kept d) h.single.shape
    ∙ ap (λ (o : Option OwnedConn). core_after_give o lent m given.Kept canon) (found_in lent.id h.created)
    ∙ ap after same in
    record {
      id = lent.id;
      created = h.created;
      since = m;
      single = subst (λ (d : Core C). IsSingle d ((record { lent = record { id = lent.id; created = record { 0 = h.created }; raw = lent.raw }; since = record { 0 = m } }) ∷ []) [] 2) (sym is) (record { some = h.single.some; least = h.single.least; lifetime = h.single.lifetime; shape = refl });
    }
