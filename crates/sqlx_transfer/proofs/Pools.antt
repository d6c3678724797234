-- What the steps of a bank's pool come to.
use Rattle.std.proofs.Common.{◌≡◌, ℕ, suc, ◌+◌, ◌-◌, ◌<◌, ◌≤◌, ◌^◌, max, min, Bool, true, false, not, ◌&&◌, cond, nat_lt, List, [], ◌∷◌, ◌++◌, map, length, Option, Some, None, count_by, refl, sym, ap, subst, ◌∙◌, eq-eqb, ◌==◌, lt-ltb, arith, length-append}
use Rattle.std.proofs.lemmas.Bool.{le-ltb}
use Rattle.sqlx_pool_marks.specs.EventTable.{is_beyond, may_pass}
use Rattle.sqlx_pool_lists.specs.declared.options.PoolOptions.{PoolOptions}
use Rattle.sqlx_pool_lists.specs.declared.steps.Lent.{Lent}
use Rattle.sqlx_pool_lists.specs.declared.steps.Idle.{Idle}
use Rattle.sqlx_pool_lists.specs.declared.steps.Given.{Given}
use Rattle.sqlx_pool_lists.specs.declared.steps.Given.TheVariants as given
use Rattle.sqlx_pool_lists.specs.declared.ticket.OwnedConn.{OwnedConn}
use Rattle.sqlx_pool_lists.specs.Core.{Core, core_of, asking, loan, resting, loan_of, is_held_by}
use Rattle.sqlx_pool_lists.specs.Core as core
use Rattle.sqlx_pool_lists.specs.Edits.{without_loan}
use Rattle.sqlx_pool_lists.specs.MaintenanceSteps.{has_place, placed, done}
use Rattle.sqlx_pool_lists.specs.PollSteps.{try_lent, after_try}
use Rattle.sqlx_pool_lists.specs.Sound.{IsNumbered, holds}
use Rattle.sqlx_pool_lists.specs.StandsFor.{StandsFor}
use Rattle.sqlx_pool_core.specs.ReturnSteps.{give_answer, core_after_give}
use Rattle.sqlx_pool_marks.proofs.ListFacts.{count_by-cons}
use Rattle.sqlx_play.proofs.links.Middles.{count-mid}
use Rattle.sqlx_transfer.specs.Pool.{IsPool, Opens, Lends, TakesBack, loan_to}

-- ---- a new pool

no_map : {X Y : Type 0} (f : X → Y) (xs : List X) → map f xs ≡ [] → xs ≡ []
no_map f [] e = refl
no_map f (x ∷ xs) e = cc

pub new_empty : {C : Type 0} (c : Core C) (options : PoolOptions) (n : ℕ) → StandsFor c [] → c.options ≡ options → c.places ≡ 0 → options.max_connections ≡ n → options.min_connections ≡ n → options.max_lifetime ≡ None → IsPool n c [] []
new_empty c options n s same places most least lifetime =
    let tickets = no_map asking c.tickets s.tickets in
    let held = no_map loan c.held s.loans in
    let idle = no_map resting c.idle s.idle in
    let most' : c.options.max_connections ≡ n = ap (λ (o : PoolOptions). o.max_connections) same ∙ most in
    let permits : c.permits ≡ n = s.permits ∙ most' in
    record {
      most = most';
      least = ap (λ (o : PoolOptions). o.min_connections) same ∙ least;
      lifetime = ap (λ (o : PoolOptions). o.max_lifetime) same ∙ lifetime;
      within = omega arith;
      numbered = s.conn_number;
      shape = λ i. core_of c.options (tickets i) (held i) (idle i) (s.leaked i) (s.shut i) c.closed (places i) (permits i) c.next_ticket c.next_conn c.last;
    }

-- ---- opening

-- a pool of this shape
abbrev shaped : {C : Type 0} → ℕ → Core C → List OwnedConn → List (Idle C) → Core C
shaped n c held idle = core_of c.options [] held idle 0 false c.closed 0 n c.next_ticket c.next_conn c.last

true_and : (a b c : Bool) → a ≡ true → b ≡ true → c ≡ true → (a && b) && c ≡ true
true_and true true true is_a is_b is_c = refl
true_and true true false is_a is_b is_c = is_c
true_and true false c is_a is_b is_c = absurd (let bad : false ≡ true = is_b in cc)
true_and false b c is_a is_b is_c = absurd (let bad : false ≡ true = is_a in cc)

pub has_room : {C : Type 0} (n : ℕ) (c : Core C) (idle : List (Idle C)) → IsPool n c [] idle → length idle < n → n < 2 ^ 32 → has_place c.options.min_connections c ≡ true
has_room {C} n c idle h room few =
    ap (λ (d : Core C). has_place c.options.min_connections d) h.shape
    ∙ true_and (nat_lt 0 (n - 0)) (nat_lt (length idle + 0 + 0 + 0 + 0) (min c.options.min_connections c.options.max_connections)) (not (nat_lt (2 ^ 63) c.next_conn))
    (lt-ltb 0 (n - 0) (omega (arith, room)))
    (lt-ltb (length idle + 0 + 0 + 0 + 0) (min c.options.min_connections c.options.max_connections) (let m = h.most in let l = h.least in omega (arith, room, m, l)))
    (ap not (le-ltb (2 ^ 63) c.next_conn (let number = h.numbered in omega (arith, number, room, few))))

pub opens_one : {C : Type 0} (n : ℕ) (c c' : Core C) (idle : List (Idle C)) (raw : C) → IsPool n c [] idle → length idle < n → c' ≡ done (placed true c).shut (max (placed true c).last 0) (Some raw) (placed true c) → Opens n c' idle raw
opens_one {C} n c c' idle raw h room e =
    let lent : Lent C = record { id = c.next_conn; created = record { 0 = max c.last 0 }; raw = raw } in
    let entry : Idle C = record { lent = lent; since = record { 0 = max c.last 0 } } in
    let next : Core C = core_of c.options [] [] (idle ++ entry ∷ []) 0 false c.closed 0 n c.next_ticket (c.next_conn + 1) (max c.last 0) in
    let is : c' ≡ next = e ∙ ap (λ (d : Core C). done (placed true d).shut (max (placed true d).last 0) (Some raw) (placed true d)) h.shape in
    let long : length (idle ++ entry ∷ []) ≡ length idle + 1 = length-append idle (entry ∷ []) in
    let number = h.numbered in
    record {
      entry = entry;
      is = refl;
      pool = subst (λ (d : Core C). IsPool n d [] (idle ++ entry ∷ [])) (sym is) (record { most = h.most; least = h.least; lifetime = h.lifetime; within = omega (arith, long, room); numbered = omega (arith, long, number); shape = refl });
    }

-- ---- lending

pub lends : {C : Type 0} (n k m : ℕ) (c c' : Core C) (held : List OwnedConn) (idle : List (Idle C)) (r : Option (Lent C)) → IsPool n c held idle
    → r ≡ try_lent (may_pass c.shut (core.waiting c.tickets) (core.free c)) c.idle → c' ≡ after_try k m r c → Lends n k c' held idle r
lends {C} n k m c c' held [] r h told is =
    let shaped' : Core C = shaped n c held [] in
    let none : r ≡ None = told ∙ ap (λ (d : Core C). try_lent (may_pass d.shut (core.waiting d.tickets) (core.free d)) d.idle) h.shape ∙ no_idle (may_pass false 0 (core.free shaped')) in
    subst (λ (o : Option (Lent C)). Lends n k c' held [] o) (sym none) (refl, subst (λ (d : Core C). IsPool n d held []) (sym (is ∙ ap (λ (o : Option (Lent C)). after_try k m o c) none)) h)
  where
    no_idle : (b : Bool) → try_lent {C = C} b [] ≡ None
    no_idle true = refl
    no_idle false = refl
lends {C} n k m c c' held (entry ∷ rest) r h told is =
    let shaped' : Core C = shaped n c held (entry ∷ rest) in
    let within = h.within in
    let number = h.numbered in
    let room : may_pass false 0 (core.free shaped') ≡ true = lt-ltb 0 (n - (length held + 0 + 0 + 0)) (omega (arith, within)) in
    let some : r ≡ Some entry.lent = told ∙ ap (λ (d : Core C). try_lent (may_pass d.shut (core.waiting d.tickets) (core.free d)) d.idle) h.shape ∙ ap (λ b. try_lent b (entry ∷ rest)) room in
    let next : Core C = core_of c.options [] (held ++ loan_to k entry.lent ∷ []) rest 0 false c.closed 0 n c.next_ticket c.next_conn m in
    let now : c' ≡ next = is ∙ ap (λ (o : Option (Lent C)). after_try k m o c) some ∙ ap (after_try k m (Some entry.lent)) h.shape in
    let long : length (held ++ loan_to k entry.lent ∷ []) ≡ length held + 1 = length-append held (loan_to k entry.lent ∷ []) in
    let pool : IsPool n next (held ++ loan_to k entry.lent ∷ []) rest = record { most = h.most; least = h.least; lifetime = h.lifetime; within = omega (arith, long, within); numbered = omega (arith, long, number); shape = refl } in
    subst (λ (o : Option (Lent C)). Lends n k c' held (entry ∷ rest) o) (sym some)
    (record { entry = entry; rest = rest; first = refl; is = refl; pool = subst (λ (d : Core C). IsPool n d (held ++ loan_to k entry.lent ∷ []) rest) (sym now) pool })

-- ---- taking back

-- a loan in the middle of others is found
found_in : (k c : ℕ) (before : List OwnedConn) (own : OwnedConn) (after : List OwnedConn) → is_held_by k c own ≡ true → (h : OwnedConn) × (loan_of k c (before ++ own ∷ after) ≡ Some h)
found_in k c [] own after is = (own, ap (λ b. cond b (Some own) (loan_of k c after)) is)
found_in k c (x ∷ before) own after is = by (is_held_by k c x) refl (found_in k c before own after is)
  where
    by : (b : Bool) → is_held_by k c x ≡ b → (h : OwnedConn) × (loan_of k c (before ++ own ∷ after) ≡ Some h) → (h : OwnedConn) × (cond (is_held_by k c x) (Some x) (loan_of k c (before ++ own ∷ after)) ≡ Some h)
    by true e rest = (x, ap (λ b. cond b (Some x) (loan_of k c (before ++ own ∷ after))) e)
    by false e rest = (rest.0, ap (λ b. cond b (Some x) (loan_of k c (before ++ own ∷ after))) e ∙ rest.1)

-- what isn't there isn't taken out
kept_all : (c : ℕ) (xs : List OwnedConn) → count_by (holds c) xs ≡ 0 → without_loan c xs ≡ xs
kept_all c [] none = refl
kept_all c (x ∷ xs) none = by (c == x.conn) (sym (count_by-cons (holds c) x xs) ∙ none) (kept_all c xs)
  where
    by : (b : Bool) → cond b 1 0 + count_by (holds c) xs ≡ 0 → (count_by (holds c) xs ≡ 0 → without_loan c xs ≡ xs) → cond (not b) (x ∷ without_loan c xs) (without_loan c xs) ≡ x ∷ xs
    by true none rest = absurd (omega (arith, none))
    by false none rest = ap (λ (l : List OwnedConn). x ∷ l) (rest (omega (arith, none)))

-- the one that is there once is taken out from between the others
taken_out : (before : List OwnedConn) (own : OwnedConn) (after : List OwnedConn) → count_by (holds own.conn) (before ++ own ∷ after) ≤ 1 → without_loan own.conn (before ++ own ∷ after) ≡ before ++ after
taken_out [] own after once =
    let counted = count_by-cons (holds own.conn) own after in
    let same : (own.conn == own.conn) ≡ true = eq-eqb own.conn own.conn refl in
    let one : ◌≡◌ {A = ℕ} (cond (own.conn == own.conn) 1 0) 1 = ap (λ b. cond b 1 0) same in
    ap (λ b. cond (not b) (own ∷ without_loan own.conn after) (without_loan own.conn after)) same ∙ kept_all own.conn after (omega (arith, once, counted, one))
taken_out (x ∷ before) own after once = by (own.conn == x.conn) (count_by-cons (holds own.conn) x (before ++ own ∷ after)) (taken_out before own after)
  where
    there : count_by (holds own.conn) (before ++ own ∷ after) ≡ cond (own.conn == own.conn) 1 0 + count_by (holds own.conn) (before ++ after)
    there = count-mid (holds own.conn) before own after

    same : (own.conn == own.conn) ≡ true
    same = eq-eqb own.conn own.conn refl

    by : (b : Bool) → count_by (holds own.conn) (x ∷ before ++ own ∷ after) ≡ cond b 1 0 + count_by (holds own.conn) (before ++ own ∷ after) → (count_by (holds own.conn) (before ++ own ∷ after) ≤ 1 → without_loan own.conn (before ++ own ∷ after) ≡ before ++ after)
        → cond (not b) (x ∷ without_loan own.conn (before ++ own ∷ after)) (without_loan own.conn (before ++ own ∷ after)) ≡ x ∷ before ++ after
    by true counted rest = absurd (let one : ◌≡◌ {A = ℕ} (cond (own.conn == own.conn) 1 0) 1 = ap (λ b. cond b 1 0) same in let is = there in omega (arith, once, counted, one, is))
    by false counted rest = ap (λ (l : List OwnedConn). x ∷ l) (rest (omega (arith, once, counted)))

-- a loan that is found is kept, in a pool whose connections never grow too old
kept_told : {C : Type 0} (c : Core C) (m : ℕ) (h : OwnedConn) (lent : Lent C) → c.options.max_lifetime ≡ None → give_answer c.options false m true (Some h) lent ≡ given.Kept
kept_told {C} c m h lent lifetime = ap (λ (limit : Option ℕ). cond (not (is_beyond limit (m - h.created.0))) given.Kept (given.Closed lent.raw)) lifetime

pub takes_back : {C : Type 0} (n k m : ℕ) (c c' : Core C) (before after : List OwnedConn) (idle : List (Idle C)) (lent : Lent C) (r : Given C) → IsNumbered c → IsPool n c (before ++ loan_to k lent ∷ after) idle
    → r ≡ give_answer c.options c.shut m true (loan_of k lent.id c.held) lent → c' ≡ core_after_give (loan_of k lent.id c.held) lent m r c → TakesBack n c' (before ++ after) idle lent
takes_back {C} n k m c c' before after idle lent r sound h told is =
    let own : OwnedConn = loan_to k lent in
    let held : List OwnedConn = before ++ own ∷ after in
    let mine : is_held_by k lent.id own ≡ true = (λ i. eq-eqb lent.id lent.id refl i && (k == k)) ∙ eq-eqb k k refl in
    let found = found_in k lent.id before own after mine in
    let core' : Core C = shaped n c held idle in
    let kept : r ≡ given.Kept =
    told ∙ ap (λ (d : Core C). give_answer c.options d.shut m true (loan_of k lent.id d.held) lent) h.shape
    ∙ ap (λ (o : Option OwnedConn). give_answer c.options false m true o lent) found.1 ∙ kept_told c m found.0 lent h.lifetime in
    let entry : Idle C = record { lent = record lent { created = found.0.created }; since = record { 0 = m } } in
    let once' : count_by (holds lent.id) held ≤ 1 = (let o = sound.once lent.id in let same : count_by (holds lent.id) c.held ≡ count_by (holds lent.id) held = ap (λ (d : Core C). count_by (holds lent.id) d.held) h.shape in omega (arith, o, same)) in
    let rest : without_loan lent.id held ≡ before ++ after = taken_out before own after once' in
    let after_give : List OwnedConn → Core C = λ l. core_of c.options [] l (idle ++ entry ∷ []) 0 false c.closed 0 n c.next_ticket c.next_conn m in
    let now : c' ≡ after_give (before ++ after) =
    is ∙ ap (λ (g : Given C). core_after_give (loan_of k lent.id c.held) lent m g c) kept
    ∙ ap (λ (d : Core C). core_after_give (loan_of k lent.id d.held) lent m given.Kept d) h.shape
    ∙ ap (λ (o : Option OwnedConn). core_after_give o lent m given.Kept core') found.1
    ∙ ap after_give rest in
    let long : length (idle ++ entry ∷ []) ≡ length idle + 1 = length-append idle (entry ∷ []) in
    let all : length held ≡ length before + suc (length after) = length-append before (own ∷ after) in
    let fewer : length (before ++ after) ≡ length before + length after = length-append before after in
    let within = h.within in
    let number = h.numbered in
    record {
      entry = entry;
      is = refl;
      pool = subst (λ (d : Core C). IsPool n d (before ++ after) (idle ++ entry ∷ [])) (sym now)
          (record { most = h.most; least = h.least; lifetime = h.lifetime; within = omega (arith, long, all, fewer, within); numbered = omega (arith, long, all, fewer, number); shape = refl });
    }
