-- The openings of a keeping of the minimum, one behind the other.
use Rattle.std.proofs.Common.{◌≡◌, ℕ, ◌+◌, ◌<◌, ◌≤◌, max, nat_lt, Bool, true, false, zero, suc, List, [], ◌∷◌, ◌++◌, length-append, append-nil, append_assoc, Option, Some, None, refl, sym, ap, ◌∙◌, subst, arith}
use Rattle.std.proofs.lemmas.List.Elements.{All-nil, All-push}
use Rattle.sqlx_pool_marks.specs.declared.mark.Mark.{Mark}
use Rattle.sqlx_pool_marks.specs.declared.mark.Mark.TheVariants as mark
use Rattle.sqlx_pool_core.specs.declared.idle_check.Opening.{Opening}
use Rattle.sqlx_pool_core.specs.declared.idle_check.Opening.TheVariants.{Opened, Rejected, Transient, Failed}
use Rattle.sqlx_pool_lists.specs.declared.steps.Idle.{Idle}
use Rattle.sqlx_pool_lists.specs.declared.steps.Openings.{Openings}
use Rattle.sqlx_pool_core.specs.Calls.{Call, Facts}
use Rattle.sqlx_pool_core.specs.Chain.{Tries}
use Rattle.sqlx_pool_lists.specs.Core.{Core}
use Rattle.sqlx_pool_lists.specs.Edits.{at_moment, opened, kept}
use Rattle.sqlx_pool_lists.specs.MaintenanceSteps.{done, done_at, done_marks, placed, placed_back, has_place, lacks}
use Rattle.sqlx_pool_core.specs.Logs.{Logs}
use Rattle.sqlx_pool_core.specs.Minimum.{raw_of, filled, filled_marks, opened_of, openings_made, IsFresh, Opens, Keeps, KeepsMinimum}
use Rattle.sqlx_pool_core.proofs.Maintenance.{place-open}
use Rattle.sqlx_pool_core.proofs.Polling.{logs-then, logs-by}
use Rattle.sqlx_pool_core.proofs.CheckEnds.{tries-rest}
use Rattle.sqlx_pool_core.proofs.Lacking.{below-lack, place-left}
use Rattle.sqlx_pool_core.proofs.Fair.{makes-nothing}

-- ---- marks

openings-more : (k n m : ℕ) → openings_made (suc k) n m ≡ openings_made k n m ++ (mark.Opened (n + k) m ∷ mark.Kept (n + k) m ∷ [])
openings-more zero n m = let e : n ≡ n + zero = omega arith in ap (λ (x : ℕ). mark.Opened x m ∷ mark.Kept x m ∷ []) e
openings-more (suc k) n m =
    let e : n + 1 + k ≡ n + suc k = omega arith in
    ap (λ (l : List Mark). mark.Opened n m ∷ mark.Kept n m ∷ l) (openings-more k (n + 1) m ∙ ap (λ (x : ℕ). openings_made k (n + 1) m ++ (mark.Opened x m ∷ mark.Kept x m ∷ [])) e)

-- ---- the core

pub opens-none : {C X : Type 0} (depth : X → C → ℕ) (core : Core C) (now : ℕ) → Opens depth core core 0 now
opens-none depth core now = record {
  options = refl;
  tickets = refl;
  held = refl;
  leaked = refl;
  shut = refl;
  closed = refl;
  places = refl;
  permits = refl;
  next_ticket = refl;
  next_conn = omega arith;
  fresh = [];
  idle = sym (append-nil core.idle);
  count = refl;
  are_fresh = All-nil (IsFresh depth (max core.last now));
  moment = refl;
}

opened_core : {C : Type 0} (m : ℕ) (raw : C) (core : Core C) → core.shut ≡ false → done core.shut m (Some raw) (placed true core)
    ≡ at_moment m (placed_back (opened (kept (record { id = core.next_conn; created = record { 0 = m }; raw = raw }) m (placed true core))))
opened_core m raw core e = ap (λ (b : Bool). at_moment m (placed_back (done_at b m (Some raw) (placed true core)))) e

done_none : {C : Type 0} (m : ℕ) (core : Core C) (b : Bool) → done_at b m None core ≡ core
done_none m core true = refl
done_none m core false = refl

freed_core : {C : Type 0} (m : ℕ) (core : Core C) → done core.shut m None (placed true core) ≡ at_moment m (placed_back (placed true core))
freed_core {C} m core = ap (λ (c : Core C). at_moment m (placed_back c)) (done_none m (placed true core) core.shut)

module _ {C X : Type 0} (depth : X → C → ℕ) (core mid : Core C) (k now : ℕ) (so_far : Opens depth core mid k now) where
  opens_so : (raw : C) → ((out : X) × (depth out raw ≡ 0)) → (m : ℕ) → m ≡ max mid.last now
      → Opens depth core (at_moment m (placed_back (opened (kept (record { id = mid.next_conn; created = record { 0 = m }; raw = raw }) m (placed true mid))))) (k + 1) now
  opens_so raw none m e = let o = so_far in record {
    options = o.options;
    tickets = o.tickets;
    held = o.held;
    leaked = o.leaked;
    shut = o.shut;
    closed = o.closed;
    places = let p = o.places in omega (arith, p);
    permits = o.permits;
    next_ticket = o.next_ticket;
    next_conn = let p = o.next_conn in omega (arith, p);
    fresh = o.fresh ++ (record { lent = record { id = mid.next_conn; created = record { 0 = m }; raw = raw }; since = record { 0 = m } }) ∷ [];
    idle = ap (λ (l : List (Idle C)). l ++ (record { lent = record { id = mid.next_conn; created = record { 0 = m }; raw = raw }; since = record { 0 = m } }) ∷ []) o.idle ∙ append_assoc core.idle o.fresh _;
    count = simp length-append (let p = o.count in omega (arith, p));
    are_fresh = All-push (IsFresh depth (max core.last now)) o.fresh _ o.are_fresh (e ∙ o.moment, e ∙ o.moment, none);
    moment = let p = o.moment in omega (arith, e, p);
  }

  pub opens-more : (raw : C) → ((out : X) × (depth out raw ≡ 0)) → mid.shut ≡ false → Opens depth core (filled now (Opened raw) mid) (k + 1) now
  opens-more raw none open_is = subst (λ (n : Core C). Opens depth core n (k + 1) now) (sym (opened_core (max mid.last now) raw mid open_is)) (opens_so raw none (max mid.last now) refl)

  pub opens-freed : (new : Core C) → new ≡ done mid.shut (max mid.last now) None (placed true mid) → Opens depth core new k now
  opens-freed new left = let o = so_far in subst (λ (n : Core C). Opens depth core n k now) (sym (left ∙ freed_core (max mid.last now) mid)) (record {
    options = o.options;
    tickets = o.tickets;
    held = o.held;
    leaked = o.leaked;
    shut = o.shut;
    closed = o.closed;
    places = let p = o.places in omega (arith, p);
    permits = o.permits;
    next_ticket = o.next_ticket;
    next_conn = o.next_conn;
    fresh = o.fresh;
    idle = o.idle;
    count = o.count;
    are_fresh = o.are_fresh;
    moment = let p = o.moment in omega (arith, p);
  })

  pub opens-still : (new : Core C) → new ≡ mid → Opens depth core new k now
  opens-still new left = subst (λ (n : Core C). Opens depth core n k now) (sym left) so_far

module _ {C O X : Type 0} (does : Call C O → X → X → Type 0) (depth : X → C → ℕ) (faults refusals : X → ℕ) (IsShort : X → Type 0) (facts : (c : Call C O) (old new : X) → does c old new → Facts faults refusals depth IsShort c old new)
    (options : O) (now : ℕ) (core : Core C) where
  -- So far: so many are opened behind the first core, by these marks, and no more than lack.
  pub record SoFar (mid : Core C) (k : ℕ) : Type 0 where
    pub opens : Opens depth core mid k now
    pub makes : Logs core (openings_made k core.next_conn (max core.last now)) mid
    pub most : k ≤ lacks core

  pub so-none : SoFar core 0
  so-none = record { opens = opens-none depth core now; makes = λ marks s. makes-nothing core.options.max_connections marks core s; most = omega arith }

  -- a place was there
  pub so-place : (mid : Core C) (k : ℕ) → SoFar mid k → has_place mid.options.min_connections mid ≡ true → k < lacks core
  so-place mid k s place = below-lack depth core mid k now s.opens place

  so-more : (mid : Core C) (k : ℕ) (raw : C) (out : X) → SoFar mid k → depth out raw ≡ 0 → has_place mid.options.min_connections mid ≡ true
      → Logs mid (filled_marks now (Opened raw) mid) (filled now (Opened raw) mid) → SoFar (filled now (Opened raw) mid) (k + 1)
  so-more mid k raw out s rests place makes =
      let open_is = place-open mid place in
      let o = s.opens in
      let e : suc k ≡ k + 1 = omega arith in
      let made : filled_marks now (Opened raw) mid ≡ mark.Opened (core.next_conn + k) (max core.last now) ∷ mark.Kept (core.next_conn + k) (max core.last now) ∷ [] = λ i. done_marks (open_is i) (o.next_conn i) (o.moment i) (Some raw) in
      let below = so-place mid k s place in
      record {
        opens = opens-more depth core mid k now o raw (out, rests) open_is;
        makes = logs-by core (filled now (Opened raw) mid) _ _ (sym (ap (λ (x : ℕ). openings_made x core.next_conn (max core.last now)) e) ∙ openings-more k core.next_conn (max core.last now))
            (logs-then core mid (filled now (Opened raw) mid) _ _ o.options s.makes (logs-by mid (filled now (Opened raw) mid) _ _ (sym made) makes));
        most = omega (arith, below);
      }

  pub so-opened : (mid : Core C) (k : ℕ) (raw : C) (old out : X) → SoFar mid k → has_place mid.options.min_connections mid ≡ true → Tries does depth mid.options.after_connect options (Opened raw) old out
      → Logs mid (filled_marks now (Opened raw) mid) (filled now (Opened raw) mid) → SoFar (filled now (Opened raw) mid) (k + 1)
  so-opened mid k raw old out s place try makes = so-more mid k raw out s (tries-rest does depth (λ c a b d. (facts c a b d).levels) mid.options.after_connect options (Opened raw) old out try) place makes

  so-freed : (mid new : Core C) (k : ℕ) (o : Opening C) → SoFar mid k → raw_of o ≡ None → new ≡ filled now o mid → Logs mid [] new → SoFar new k
  so-freed mid new k o s none is makes = record {
    opens = opens-freed depth core mid k now s.opens new (is ∙ ap (λ (r : Option C). done mid.shut (max mid.last now) r (placed true mid)) none);
    makes = logs-by core new _ _ (sym (append-nil _)) (logs-then core mid new _ [] s.opens.options s.makes makes);
    most = s.most;
  }

  more-of : (k n : ℕ) → k + 1 + n ≡ k + (n + 1)
  more-of k n = omega arith

  none-of : (k : ℕ) → k ≡ k + 0
  none-of k = omega arith

  pub so-all : (tries : List (Opening C)) (mid new : Core C) (k : ℕ) (old out : X) → SoFar mid k → Keeps does depth options now tries mid new old out → SoFar new (k + opened_of tries)
  so-all [] mid new k old out s keeps = subst (SoFar new) (none-of k) (subst (λ (c : Core C). SoFar c k) (sym keeps.1) s)
  so-all (Opened raw ∷ tries) mid new k old out s keeps =
      subst (SoFar new) (more-of k (opened_of tries))
      (so-all tries (filled now (Opened raw) mid) new (k + 1) keeps.1.0 out
      (so-opened mid k raw old keeps.1.0 s keeps.0 keeps.1.1.0 keeps.1.1.1) keeps.1.1.2)
  so-all (Rejected ∷ []) mid new k old out s keeps = subst (SoFar new) (none-of k) (so-freed mid new k Rejected s refl keeps.2 keeps.3)
  so-all (Transient ∷ []) mid new k old out s keeps = subst (SoFar new) (none-of k) (so-freed mid new k Transient s refl keeps.2 keeps.3)
  so-all (Failed e ∷ []) mid new k old out s keeps = subst (SoFar new) (none-of k) (so-freed mid new k (Failed e) s refl keeps.2 keeps.3)
  so-all (Rejected ∷ o ∷ tries) mid new k old out s keeps = absurd keeps
  so-all (Transient ∷ o ∷ tries) mid new k old out s keeps = absurd keeps
  so-all (Failed e ∷ o ∷ tries) mid new k old out s keeps = absurd keeps

  pub kept-so : (new : Core C) (old out : X) (r : Openings) → KeepsMinimum does depth options now core new old out r → SoFar new r.opened
  kept-so new old out r k =
      let all : 0 + opened_of k.tries ≡ r.opened = let o = k.opened in omega (arith, o) in
      subst (SoFar new) all (so-all k.tries core new 0 old out so-none k.keeps)

  -- a place is left where fewer were opened than lack
  pub kept-place : (new : Core C) (k : ℕ) → SoFar new k → has_place core.options.min_connections new ≡ nat_lt k (lacks core)
  kept-place new k s = place-left depth core new k now s.opens
