-- The pools of a family go on standing for their logs.
use Rattle.std.proofs.Common.{◌≡◌, ◌≢◌, ℕ, ◌+◌, ◌<◌, ◌≤◌, ◌-◌, ◌||◌, Option, inl, inr, Result, Ok, Err, IfOk, Bool, true, false, List, ◌++◌, cond, length, get_or, refl, sym, ap, ◌∙◌, subst, arith}
use Rattle.std.proofs.lemmas.Bool.{ne_eqb}
use Rattle.std.proofs.lemmas.Bool.Decides.{eqb_tells}
use Rattle.std.proofs.lemmas.List.{get_or-set_same, get_or-set_other, get_or_default, length-set}
use Rattle.std.specs.Prelude.{slice_set}
use Rattle.sqlx_pool_marks.specs.declared.mark.Mark.{Mark}
use Rattle.sqlx_pool_marks.specs.Standing.{next_number}
use Rattle.sqlx_pool_marks.specs.Marks.{asked_number, opened_number, next_ticket, next_conn}
use Rattle.sqlx_pool_marks.specs.FairLog.{IsSafe}
use Rattle.sqlx_pool_marks.proofs.CutLemmas.{none-or-last}
use Rattle.sqlx_pool_marks.proofs.ListFacts.{same_number}
use Rattle.sqlx_pool_lists.specs.declared.shared.Shared.{Shared}
use Rattle.sqlx_pool_lists.specs.Core.{Core}
use Rattle.sqlx_pool_lists.specs.StandsFor.{StandsIn}
use Rattle.sqlx_pool_lists.specs.Makes.{MakesWhere, MakesIn}
use Rattle.sqlx_pool_core.specs.Numbers.{Draws}
use Rattle.sqlx_pool_lists.specs.PollSteps.{asked_marks}
use Rattle.sqlx_pool_lists.specs.Shared.{told, shared_of, with_permits}
use Rattle.sqlx_pool_core.proofs.SharedLemmas.{stands-told, stands-permits}
use Rattle.sqlx_pool_core.proofs.Alone.{number-append}
use Rattle.sqlx_family.specs.declared.family.FamilyPool.{FamilyPool}
use Rattle.sqlx_family.specs.NoPool.{no_pool}
use Rattle.sqlx_family.specs.Pools.{Pools, pools_of, entry_of, counts_as_closed, pool_in, with_pool}
use Rattle.sqlx_family.specs.Permits.{owned_by, owning, with_less, moved, settled_if, settled, retiring}
use Rattle.sqlx_family.specs.FamilyLogs.{StandTogether, IsNext, Numbered, with_marks, FamilyLogs}
use Rattle.sqlx_family.proofs.Entries.{entry-is, look-set}

-- the log of another pool stays
pub other : (i p : ℕ) (made : List Mark) (logs : ℕ → List Mark) → p ≢ i → with_marks i made logs p ≡ logs p
other i p made logs ne = ap (λ (b : Bool). cond b (logs p ++ made) (logs p)) (ne_eqb p i ne)

-- the log of the pool grows
pub same : (i : ℕ) (made : List Mark) (logs : ℕ → List Mark) → with_marks i made logs i ≡ logs i ++ made
same i made logs = ap (λ (b : Bool). cond b (logs i ++ made) (logs i)) (same_number i)

-- ---- the numbers that come next

-- the same logs
is-next-same : (next : List Mark → ℕ) (logs now : ℕ → List Mark) (pools n : ℕ) → ((p : ℕ) → p < pools → now p ≡ logs p) → IsNext next logs pools n → IsNext next now pools n
is-next-same next logs now pools n alike s = record {
  most = λ p below. let e = ap next (alike p below) in let a = s.most p below in omega (arith, e, a);
  one = (s.one.0, (s.one.1.0, ap next (alike s.one.0 s.one.1.0) ∙ s.one.1.1));
}

-- what the numbers of a family are
pub numbered-of : {C : Type 0} (f : Pools C) (logs : ℕ → List Mark) → IsNext next_ticket logs (length f.pools) f.shared.next_ticket × IsNext next_conn logs (length f.pools) f.shared.next_conn → Numbered f logs
unfolding Numbered
numbered-of f logs known = known

pub numbered-by : {C : Type 0} (f : Pools C) (logs : ℕ → List Mark) → Numbered f logs → IsNext next_ticket logs (length f.pools) f.shared.next_ticket × IsNext next_conn logs (length f.pools) f.shared.next_conn
unfolding Numbered
numbered-by f logs known = known

pub numbered-same : {C : Type 0} (f : Pools C) (logs now : ℕ → List Mark) → ((p : ℕ) → p < length f.pools → now p ≡ logs p) → Numbered f logs → Numbered f now
numbered-same f logs now alike s =
    let known = numbered-by f logs s in
    numbered-of f now (is-next-same next_ticket logs now (length f.pools) f.shared.next_ticket alike known.0, is-next-same next_conn logs now (length f.pools) f.shared.next_conn alike known.1)

-- marks behind one log
module _ (draws : Mark → Option ℕ) (q pools n new : ℕ) (made : List Mark) (logs : ℕ → List Mark) (lt : q < pools) (drawn : new ≡ next_number draws n made) (more : n ≤ new) (s : IsNext (next_number draws 1) logs pools n) where
  abbrev next : List Mark → ℕ
  next = next_number draws 1

  grown : next (with_marks q made logs q) ≡ next_number draws (next (logs q)) made
  grown = ap next (same q made logs) ∙ number-append draws 1 (logs q) made

  own : next (with_marks q made logs q) ≤ new
  own = elim (none-or-last draws (next (logs q)) made) [
    | inl none ↦ let a = s.most q lt in let e = grown in omega (arith, a, e, none, more)
    | inr any ↦ let e = any n in let d = grown in omega (arith, e, d, drawn)
  ]

  is-next-behind : IsNext next (with_marks q made logs) pools new
  is-next-behind = record {
    most = λ p below. elim (eqb_tells p q) [
      | inl is ↦ subst (λ (r : ℕ). next (with_marks q made logs r) ≤ new) (sym is.1) own
      | inr is ↦ let e = ap next (other q p made logs is.1) in let a = s.most p below in omega (arith, e, a, more)
    ];
    one = elim (none-or-last draws n made) [
      | inl none ↦ (
        s.one.0,
        (
          s.one.1.0,
          elim (eqb_tells s.one.0 q) [
            | inl is ↦ subst (λ (r : ℕ). next (with_marks q made logs r) ≡ new) (sym is.1)
                (grown ∙ ap (λ (k : ℕ). next_number draws k made) (ap (λ (r : ℕ). next (logs r)) (sym is.1) ∙ s.one.1.1) ∙ sym drawn)
            | inr is ↦ ap next (other q s.one.0 made logs is.1) ∙ s.one.1.1 ∙ sym none ∙ sym drawn
          ],
        ),
      )
      | inr any ↦ (q, (lt, grown ∙ any (next (logs q)) ∙ sym drawn))
    ];
  }

-- the same numbers in as many logs
pub numbered-along : {C : Type 0} (f g : Pools C) (logs : ℕ → List Mark) → (length g.pools ≡ length f.pools) × (g.shared ≡ f.shared) → Numbered f logs → Numbered g logs
numbered-along f g logs e s =
    numbered-of g logs (subst (λ (n : ℕ). IsNext next_ticket logs n g.shared.next_ticket × IsNext next_conn logs n g.shared.next_conn) (sym e.0)
    (subst (λ (h : Shared). IsNext next_ticket logs (length f.pools) h.next_ticket × IsNext next_conn logs (length f.pools) h.next_conn) (sym e.1) (numbered-by f logs s)))

-- ---- a pool's step

module _ {C : Type 0} (f : Pools C) (i : ℕ) (new : Core C) (made : List Mark) (logs : ℕ → List Mark) (lt : i < length f.pools) (s : StandTogether f logs) (own : StandsIn new (logs i ++ made)) (tickets : f.shared.next_ticket ≤ new.next_ticket) (conns : f.shared.next_conn ≤ new.next_conn) where
  abbrev g : Pools C
  g = with_pool i new f

  abbrev p : FamilyPool C
  p = record { core = new; retired = (entry_of i f).retired }

  pub stand-stepped : StandTogether (with_pool i new f) (with_marks i made logs)
  stand-stepped q below = elim (eqb_tells q i) [
    | inl is ↦ subst (λ (n : ℕ). StandsIn (pool_in n g) (with_marks i made logs n)) (sym is.1)
        (subst (StandsIn (pool_in i g)) (sym (same i made logs))
        (subst (λ (c : FamilyPool C). StandsIn (told (counts_as_closed i g) (shared_of new) c.core) (logs i ++ made)) (sym (get_or-set_same f.pools i p no_pool lt))
        (stands-told (counts_as_closed i g) (shared_of new) new (logs i ++ made) (omega arith) (omega arith) own)))
    | inr is ↦ subst (StandsIn (pool_in q g)) (sym (other i q made logs is.1))
        (subst (λ (c : FamilyPool C). StandsIn (told (counts_as_closed q g) (shared_of new) c.core) (logs q)) (sym (get_or-set_other f.pools i q p no_pool is.1))
        (stands-told (counts_as_closed q g) (shared_of new) (pool_in q f) (logs q) tickets conns (s q (let e = length-set f.pools i p in omega (arith, e, below)))))
  ]

  pub numbered-stepped : new.next_ticket ≡ next_number asked_number f.shared.next_ticket made → new.next_conn ≡ next_number opened_number f.shared.next_conn made → Numbered f logs → Numbered (with_pool i new f) (with_marks i made logs)
  numbered-stepped t c s =
      let known = numbered-by f logs s in
      numbered-of g (with_marks i made logs) (subst (λ (n : ℕ). IsNext next_ticket (with_marks i made logs) n new.next_ticket × IsNext next_conn (with_marks i made logs) n new.next_conn) (sym (length-set f.pools i p))
      (is-next-behind asked_number i (length f.pools) f.shared.next_ticket new.next_ticket made logs lt t tickets known.0, is-next-behind opened_number i (length f.pools) f.shared.next_conn new.next_conn made logs lt c conns known.1))

-- ---- permits don't matter

abbrev paying : {C : Type 0} → ℕ → ℕ → Pools C → FamilyPool C
paying q n f = record { core = with_permits n (entry_of q f).core; retired = (entry_of q f).retired }

stand-owning : {C : Type 0} (q n : ℕ) (f : Pools C) (logs : ℕ → List Mark) → q < length f.pools → StandTogether f logs → StandTogether (owning q n f) logs
stand-owning {C} q n f logs lt s r below = elim (eqb_tells r q) [
  | inl is ↦ subst (λ (k : ℕ). StandsIn (pool_in k (owning q n f)) (logs k)) (sym is.1)
      (subst (λ (c : FamilyPool C). StandsIn (told (counts_as_closed q (owning q n f)) f.shared c.core) (logs q)) (sym (get_or-set_same f.pools q (paying q n f) no_pool lt))
      (stands-told (counts_as_closed q (owning q n f)) f.shared (with_permits n (pool_in q f)) (logs q) (omega arith) (omega arith) (stands-permits n (pool_in q f) (logs q) (s q lt))))
  | inr is ↦ subst (λ (c : FamilyPool C). StandsIn (told (counts_as_closed r (owning q n f)) f.shared c.core) (logs r)) (sym (get_or-set_other f.pools q r (paying q n f) no_pool is.1))
      (stands-told (counts_as_closed r (owning q n f)) f.shared (pool_in r f) (logs r) (omega arith) (omega arith) (s r (let e = length-set f.pools q (paying q n f) in omega (arith, e, below))))
]

pub stand-moved : {C : Type 0} (from to n : ℕ) (f : Pools C) (logs : ℕ → List Mark) → from < length f.pools → to < length f.pools → StandTogether f logs → StandTogether (moved from to n f) logs
stand-moved from to n f logs lt lt_to s =
    stand-owning to _ (with_less from n f) logs (let e = length-set f.pools from (record { core = with_permits (owned_by from f - n) (entry_of from f).core; retired = (entry_of from f).retired }) in omega (arith, e, lt_to))
    (stand-owning from _ f logs lt s)

stand-settled_if : {C : Type 0} (b : Bool) (q : ℕ) (f : Pools C) (logs : ℕ → List Mark) → q < length f.pools → StandTogether f logs → StandTogether (settled_if b q f) logs
stand-settled_if true q f logs lt s = stand-moved q 0 _ f logs lt (omega (arith, lt)) s
stand-settled_if false q f logs lt s = s

pub stand-settled : {C : Type 0} (q : ℕ) (f : Pools C) (logs : ℕ → List Mark) → q < length f.pools → StandTogether f logs → StandTogether (settled q f) logs
stand-settled q f logs lt s = stand-settled_if (entry_of q f).retired q f logs lt s

-- as many pools, and the same numbers
pub moved-alike : {C : Type 0} (from to n : ℕ) (f : Pools C) → (length (moved from to n f).pools ≡ length f.pools) × ((moved from to n f).shared ≡ f.shared)
moved-alike from to n f =
    let less = length-set f.pools from (paying from (owned_by from f - n) f) in
    let more = length-set (with_less from n f).pools to (paying to (owned_by to (with_less from n f) + n) (with_less from n f)) in
    (more ∙ less, refl)

settled_if-alike : {C : Type 0} (b : Bool) (q : ℕ) (f : Pools C) → (length (settled_if b q f).pools ≡ length f.pools) × ((settled_if b q f).shared ≡ f.shared)
settled_if-alike true q f = moved-alike q 0 _ f
settled_if-alike false q f = (refl, refl)

pub numbered-settled : {C : Type 0} (q : ℕ) (f : Pools C) (logs : ℕ → List Mark) → Numbered f logs → Numbered (settled q f) logs
numbered-settled q f logs s = numbered-along f (settled q f) logs (settled_if-alike (entry_of q f).retired q f) s

-- ---- a step of one pool

heard-so : {C : Type 0} (h : Shared) (old mid : Core C) (b closed : Bool) → b ≡ closed → mid ≡ told closed h old → told b h old ≡ mid
heard-so h old mid b closed e heard = ap (λ (c : Bool). told c h old) e ∙ sym heard

-- a pool as a family sees it is what it hears
pub pool-heard : {C : Type 0} (xs : List (FamilyPool C)) (h : Shared) (now : Pools C) (i : ℕ) (old : FamilyPool C) (mid : Core C) → pools_of xs h ≡ now → i < length xs → old ≡ get_or xs i old
    → (closed : Bool) → closed ≡ counts_as_closed i now → mid ≡ told closed h old.core → pool_in i now ≡ mid
pool-heard {C} xs h now i old mid view lt is closed counts heard =
    subst (λ (n : Pools C). closed ≡ counts_as_closed i n → pool_in i n ≡ mid) view (λ e.
    let place : get_or xs i no_pool ≡ old = entry-is (λ (p : FamilyPool C). p.retired) xs i old old lt is in
    ap (λ (o : FamilyPool C). told (counts_as_closed i (pools_of xs h)) h o.core) place ∙ heard-so h old.core mid (counts_as_closed i (pools_of xs h)) closed (sym e) heard) counts

module _ {C : Type 0} {W : List Mark → Type 0} (xs : List (FamilyPool C)) (h : Shared) (now : Pools C) (i : ℕ) (old : FamilyPool C) (mid new : Core C) (made : List Mark) where
  made-together : pools_of xs h ≡ now → i < length xs → old ≡ get_or xs i old → (closed : Bool) → closed ≡ counts_as_closed i now → mid ≡ told closed h old.core
      → ((marks : List Mark) → StandsIn mid marks → MakesWhere (W marks) mid.options.max_connections marks made new) → Draws mid new made
      → FamilyLogs now i made (pools_of (slice_set xs i (record { core = new; retired = old.retired })) (shared_of new))
  made-together view lt is closed counts heard makes draws =
      subst (λ (n : Pools C). closed ≡ counts_as_closed i n → FamilyLogs n i made (pools_of (slice_set xs i (record { core = new; retired = old.retired })) (shared_of new))) view (λ e logs s.
      let own = makes (logs i) (subst (λ (c : Core C). StandsIn c (logs i)) (at e) (s i lt)) in
      let t = ap (λ (c : Core C). c.next_ticket) heard in
      let n = ap (λ (c : Core C). c.next_conn) heard in
      let mt = draws.more_tickets in
      let mn = draws.more_conns in
      record {
        stand = subst (λ (o : FamilyPool C). StandTogether (pools_of (slice_set xs i (record { core = new; retired = o.retired })) (shared_of new)) (with_marks i made logs)) place
            (stand-stepped (pools_of xs h) i new made logs lt s own.stands (omega (arith, t, mt)) (omega (arith, n, mn)));
        numbered = λ known. subst (λ (o : FamilyPool C). Numbered (pools_of (slice_set xs i (record { core = new; retired = o.retired })) (shared_of new)) (with_marks i made logs)) place
            (numbered-stepped (pools_of xs h) i new made logs lt s own.stands (omega (arith, t, mt)) (omega (arith, n, mn)) (draws.tickets ∙ ap (λ (k : ℕ). next_number asked_number k made) t) (draws.conns ∙ ap (λ (k : ℕ). next_number opened_number k made) n) known);
        safe = subst (λ (c : Core C). IsSafe c.options.max_connections (logs i) made) (sym (at e)) own.safe;
      }) counts
    where
      place : get_or xs i no_pool ≡ old
      place = entry-is (λ (p : FamilyPool C). p.retired) xs i old old lt is

      at : closed ≡ counts_as_closed i (pools_of xs h) → pool_in i (pools_of xs h) ≡ mid
      at e = ap (λ (o : FamilyPool C). told (counts_as_closed i (pools_of xs h)) h o.core) place ∙ heard-so h old.core mid (counts_as_closed i (pools_of xs h)) closed (sym e) heard

  -- a step that frees no permit
  pub logs-kept : pools_of xs h ≡ now → i < length xs → old ≡ get_or xs i old → (closed : Bool) → closed ≡ counts_as_closed i now → mid ≡ told closed h old.core
      → ((marks : List Mark) → StandsIn mid marks → MakesWhere (W marks) mid.options.max_connections marks made new) → Draws mid new made
      → {after : Shared} → after ≡ shared_of new
      → FamilyLogs now i made (pools_of (slice_set xs i (record { core = new; retired = old.retired })) after)
  logs-kept view lt is closed counts heard makes draws tells =
      subst (λ (a : Shared). FamilyLogs now i made (pools_of (slice_set xs i (record { core = new; retired = old.retired })) a)) (sym tells)
      (made-together view lt is closed counts heard makes draws)

  -- a step that may free one
  pub logs-stepped : pools_of xs h ≡ now → i < length xs → old ≡ get_or xs i old → (closed : Bool) → closed ≡ counts_as_closed i now → mid ≡ told closed h old.core
      → ((marks : List Mark) → StandsIn mid marks → MakesWhere (W marks) mid.options.max_connections marks made new) → Draws mid new made
      → (after : Pools C) → after ≡ settled i (pools_of (slice_set xs i (record { core = new; retired = old.retired })) (shared_of new))
      → FamilyLogs now i made after
  logs-stepped view lt is closed counts heard makes draws after settles logs s =
      let now_made = made-together view lt is closed counts heard makes draws logs s in
      record {
        stand = subst (λ (a : Pools C). StandTogether a (with_marks i made logs)) (sym settles)
            (stand-settled i _ (with_marks i made logs) (let k = length-set xs i (record { core = new; retired = old.retired }) in omega (arith, k, lt)) now_made.stand);
        numbered = λ known. subst (λ (a : Pools C). Numbered a (with_marks i made logs)) (sym settles) (numbered-settled i _ (with_marks i made logs) (now_made.numbered known));
        safe = now_made.safe;
      }

-- an ask makes its mark where it is answered
pub logs-asked : {C E : Type 0} (xs : List (FamilyPool C)) (h : Shared) (now : Pools C) (i : ℕ) (old : FamilyPool C) (mid new : Core C) (k m : ℕ) (r : Result ℕ E) → pools_of xs h ≡ now → i < length xs → old ≡ get_or xs i old
    → (closed : Bool) → closed ≡ counts_as_closed i now → mid ≡ told closed h old.core
    → ((marks : List Mark) → StandsIn mid marks → IfOk r (λ t. MakesIn mid.options.max_connections marks (asked_marks mid k m t) new)) → IfOk r (λ t. Draws mid new (asked_marks mid k m t))
    → {after : Shared} → after ≡ shared_of new
    → IfOk r (λ t. FamilyLogs now i (asked_marks (pool_in i now) k m t) (pools_of (slice_set xs i (record { core = new; retired = old.retired })) after))
logs-asked {C} xs h now i old mid new k m (Err e) view lt is closed counts heard makes draws tells = tt
logs-asked {C} xs h now i old mid new k m (Ok t) view lt is closed counts heard makes draws {after} tells =
    subst (λ (c : Core C). FamilyLogs now i (asked_marks c k m t) (pools_of (slice_set xs i (record { core = new; retired = old.retired })) after)) (sym (pool-heard xs h now i old mid view lt is closed counts heard))
    (logs-kept xs h now i old mid new (asked_marks mid k m t) view lt is closed counts heard makes draws tells)

-- the same two, where the marks are told by the pool as its family sees it
module _ {C : Type 0} {W : List Mark → Type 0} (of : Core C → List Mark) (xs : List (FamilyPool C)) (h : Shared) (now : Pools C) (i : ℕ) (old : FamilyPool C) (mid new : Core C) (view : pools_of xs h ≡ now) (lt : i < length xs) (is : old ≡ get_or xs i old) (closed : Bool) (counts : closed ≡ counts_as_closed i now) (heard : mid ≡ told closed h old.core)
    (makes : (marks : List Mark) → StandsIn mid marks → MakesWhere (W marks) mid.options.max_connections marks (of mid) new) (draws : Draws mid new (of mid)) where
  pub logs-kept-of : {after : Shared} → after ≡ shared_of new → FamilyLogs now i (of (pool_in i now)) (pools_of (slice_set xs i (record { core = new; retired = old.retired })) after)
  logs-kept-of {after} tells =
      subst (λ (c : Core C). FamilyLogs now i (of c) (pools_of (slice_set xs i (record { core = new; retired = old.retired })) after)) (sym (pool-heard xs h now i old mid view lt is closed counts heard))
      (logs-kept xs h now i old mid new (of mid) view lt is closed counts heard makes draws tells)

  pub logs-stepped-of : (after : Pools C) → after ≡ settled i (pools_of (slice_set xs i (record { core = new; retired = old.retired })) (shared_of new)) → FamilyLogs now i (of (pool_in i now)) after
  logs-stepped-of after settles =
      subst (λ (c : Core C). FamilyLogs now i (of c) after) (sym (pool-heard xs h now i old mid view lt is closed counts heard))
      (logs-stepped xs h now i old mid new (of mid) view lt is closed counts heard makes draws after settles)

-- ---- a pool that is retired from now on

pub core-retiring : {C : Type 0} (r q : ℕ) (f : Pools C) → q < length f.pools → (entry_of r (retiring q f)).core ≡ (entry_of r f).core
core-retiring r q f lt = look-set (λ (p : FamilyPool _). p.core) f.pools q (record { core = (entry_of q f).core; retired = true }) (entry_of q f) lt (get_or_default f.pools q no_pool (entry_of q f) lt) r refl

pub pool-retiring : {C : Type 0} (r q : ℕ) (f : Pools C) → q < length f.pools → pool_in r (retiring q f) ≡ pool_in r f
pool-retiring {C} r q f lt =
    ap (λ (c : Core C). told (c.shut || (entry_of 0 (retiring q f)).core.shut) f.shared c) (core-retiring r q f lt)
    ∙ ap (λ (c : Core C). told ((entry_of r f).core.shut || c.shut) f.shared (entry_of r f).core) (core-retiring 0 q f lt)

pub logs-retired : {C : Type 0} (old : Pools C) (q : ℕ) (made : List Mark) (f after : Pools C) → q < length f.pools → FamilyLogs old q made f → after ≡ settled q (retiring q f) → FamilyLogs old q made after
logs-retired old q made f after lt makes settles logs s =
    let now_made = makes logs s in
    let same_length = length-set f.pools q (record { core = (entry_of q f).core; retired = true }) in
    record {
      stand = subst (λ (a : Pools _). StandTogether a (with_marks q made logs)) (sym settles)
          (stand-settled q (retiring q f) (with_marks q made logs) (omega (arith, lt, same_length))
          (λ r below. subst (λ (c : Core _). StandsIn c (with_marks q made logs r)) (sym (pool-retiring r q f lt)) (now_made.stand r (omega (arith, below, same_length)))));
      numbered = λ known. subst (λ (a : Pools _). Numbered a (with_marks q made logs)) (sym settles)
          (numbered-settled q (retiring q f) (with_marks q made logs) (numbered-along f (retiring q f) (with_marks q made logs) (same_length, refl) (now_made.numbered known)));
      safe = now_made.safe;
    }
