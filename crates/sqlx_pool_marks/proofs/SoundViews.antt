-- A fair log has each connection at one place at most and no number twice.
use Rattle.std.proofs.Common.{◌≡◌, ◌≢◌, ℕ, zero, suc, ◌+◌, ◌≤◌, ◌⊎◌, inl, inr, Bool, true, false, cond, not, ◌&&◌, ◌||◌, ◌==◌, IsTrue, List, [], ◌∷◌, ◌++◌, filter, count_by, length, Option, Some, None, refl, sym, ap, ◌∙◌, subst, append-nil, append_assoc, arith}
use Rattle.std.specs.List.{list_any}
use Rattle.std.proofs.lemmas.Bool.{eqb-true, and_parts}
use Rattle.std.proofs.lemmas.Bool.Decides.{eqb_tells}
use Rattle.sqlx_pool_marks.specs.declared.mark.Mark.{Mark}
use Rattle.sqlx_pool_marks.specs.declared.mark.Mark.TheVariants.{Asked, Left, Taken, Reaped, Opened, Lent, Kept, Closed, Detached, Leaked, Ended, Shut}
use Rattle.sqlx_pool_marks.specs.Standing.{last_mark}
use Rattle.sqlx_pool_marks.specs.Marks.{PendingTicket, Loan, IdleEntry, LiveConn, is_loan_of, is_live_conn}
use Rattle.sqlx_pool_marks.specs.View.{View, view_of, leaving}
use Rattle.sqlx_pool_marks.specs.FairLog.{is_owned, rests, is_idle, is_live, is_ticket, opens_it, FindsSafe}
use Rattle.sqlx_pool_marks.proofs.ListFacts.{count_by-cons, count_by-push, count_by-map, number_comm, none_any, length-filter_not}
use Rattle.sqlx_pool_marks.proofs.Counting.{count-filter}
use Rattle.sqlx_pool_marks.proofs.ViewSteps.{stepped, view_of-stepped, IsFairBehind}

-- ---- counts

count_of : {X : Type 0} (p : X → Bool) (b : Bool) (xs ys : List X) → count_by p (cond b xs ys) ≡ cond b (count_by p xs) (count_by p ys)
count_of p true xs ys = refl
count_of p false xs ys = refl

others_at : (k p b : Bool) (f n more_f more_n : ℕ) → (p ≡ true → k ≡ b) → f ≡ cond b 0 n → more_f ≡ cond p 1 0 + f → more_n ≡ cond p 1 0 + n → cond (not k) more_f f ≡ cond b 0 more_n
others_at true true true f n more_f more_n h e a z = e
others_at true true false f n more_f more_n h e a z = absurd (cc (h refl))
others_at true false true f n more_f more_n h e a z = e
others_at true false false f n more_f more_n h e a z = omega (arith, e, a, z)
others_at false true true f n more_f more_n h e a z = absurd (cc (h refl))
others_at false true false f n more_f more_n h e a z = omega (arith, e, a, z)
others_at false false true f n more_f more_n h e a z = omega (arith, e, a, z)
others_at false false false f n more_f more_n h e a z = omega (arith, e, a, z)

nothing_at : (b : Bool) → 0 ≡ cond {A = ℕ} b 0 0
nothing_at true = refl
nothing_at false = refl

-- where all of one number are left out
pub count-others : {X : Type 0} (key : X → ℕ) (c d : ℕ) (xs : List X) → count_by (λ x. c == key x) (filter (λ x. not (key x == d)) xs) ≡ cond (c == d) 0 (count_by (λ x. c == key x) xs)
count-others key c d [] = nothing_at (c == d)
count-others {X} key c d (x ∷ xs) =
    let rest = filter (λ (x : X). not (key x == d)) xs in
    let p = λ (x : X). c == key x in
    count_of p (not (key x == d)) (x ∷ rest) rest
    ∙ others_at (key x == d) (c == key x) (c == d) (count_by p rest) (count_by p xs) (count_by p (x ∷ rest)) (count_by p (x ∷ xs))
    (λ e. ap (λ n. n == d) (sym (eqb-true c (key x) e))) (count-others key c d xs) (count_by-cons p x rest) (count_by-cons p x xs)

pub length-others : {X : Type 0} (key : X → ℕ) (d : ℕ) (xs : List X) → length (filter (λ x. not (key x == d)) xs) + count_by (λ x. d == key x) xs ≡ length xs
length-others key d xs =
    let e = length-filter_not (λ x. key x == d) xs in
    let turned : count_by (λ x. key x == d) xs ≡ count_by (λ x. d == key x) xs = λ i. count_by (λ x. number_comm (key x) d i) xs in
    omega (arith, e, turned)

pub any-counts : {X : Type 0} (p : X → Bool) (xs : List X) → list_any p xs ≡ true → 1 ≤ count_by p xs
any-counts p xs e = by (count_by p xs) refl
  where
    by : (n : ℕ) → count_by p xs ≡ n → 1 ≤ count_by p xs
    by zero z = absurd (let f = none_any p xs z in cc)
    by (suc n) z = omega (arith, z)

pub none-counts : {X : Type 0} (p : X → Bool) (xs : List X) → list_any p xs ≡ false → count_by p xs ≡ 0
none-counts p [] e = refl
none-counts p (x ∷ xs) e = count_by-cons p x xs ∙ by (none-counts p xs) (p x) e
  where
    by : (list_any p xs ≡ false → count_by p xs ≡ 0) → (b : Bool) → (b || list_any p xs) ≡ false → cond b 1 0 + count_by p xs ≡ 0
    by rest true k = absurd (cc)
    by rest false k = let h = rest k in omega (arith, h)

pub counts-any : {X : Type 0} (p : X → Bool) (xs : List X) → 1 ≤ count_by p xs → list_any p xs ≡ true
counts-any p xs h = by (list_any p xs) refl
  where
    by : (b : Bool) → list_any p xs ≡ b → list_any p xs ≡ true
    by true e = e
    by false e = absurd (let z = none-counts p xs e in omega (arith, z, h))

-- what holds whether or not two numbers are one
pub by_number : (c d : ℕ) (P : Bool → Type 0) → (c ≡ d → P true) → (c ≢ d → P false) → P (c == d)
by_number c d P same other = elim (eqb_tells c d) [
  | inl is ↦ subst P (sym is.0) (same is.1)
  | inr is ↦ subst P (sym is.0) (other is.1)
]

-- ---- a view's counts

-- how often the connection is owned
abbrev pub owned : ℕ → View → ℕ
owned c v = count_by (is_loan_of c) v.loans

-- how often it rests
abbrev pub resting : ℕ → View → ℕ
resting c v = count_by (rests c) v.idle

-- how often it was opened and isn't gone
abbrev pub living : ℕ → View → ℕ
living c v = count_by (is_live_conn c) v.live

-- how often the ticket was asked and hasn't ended
abbrev pub asked : ℕ → View → ℕ
asked t v = count_by (is_ticket t) v.tickets

-- Each connection is opened once at most, and then idle or owned, once, or neither; a new number was not used; a connection that was opened last has no owner.
pub record IsSoundView (v : View) (last : Option Mark) : Type 0 where
  pub once : (c : ℕ) → resting c v + owned c v ≤ living c v
  pub lives : (c : ℕ) → living c v ≤ 1
  pub unborn : (c : ℕ) → v.next_conn ≤ c → living c v ≡ 0
  pub fresh : (c : ℕ) → opens_it c last ≡ true → (1 ≤ living c v) × (owned c v ≡ 0)
  pub tickets : (t : ℕ) → asked t v ≤ 1
  pub unasked : (t : ℕ) → v.next_ticket ≤ t → asked t v ≡ 0

-- ---- what a mark leaves of the counts

pub owned_but : (c d : ℕ) (v : View) → count_by (is_loan_of c) (filter (λ (l : Loan). not (l.conn == d)) v.loans) ≡ cond (c == d) 0 (owned c v)
owned_but c d v = count-others (λ (l : Loan). l.conn) c d v.loans

pub resting_but : (c d : ℕ) (v : View) → count_by (rests c) (filter (λ (r : IdleEntry). not (r.conn == d)) v.idle) ≡ cond (c == d) 0 (resting c v)
resting_but c d v = count-others (λ (r : IdleEntry). r.conn) c d v.idle

pub living_but : (c d : ℕ) (v : View) → count_by (is_live_conn c) (filter (λ (b : LiveConn). not (b.conn == d)) v.live) ≡ cond (c == d) 0 (living c v)
living_but c d v = count-others (λ (b : LiveConn). b.conn) c d v.live

module _ (v : View) (last : Option Mark) (s : IsSoundView v last) where
  lives_but : (d c : ℕ) → count_by (is_live_conn d) (filter (λ (b : LiveConn). not (b.conn == c)) v.live) ≤ 1
  lives_but d c = let fewer = count-filter (is_live_conn d) (λ (b : LiveConn). not (b.conn == c)) v.live in let one = s.lives d in omega (arith, fewer, one)

  unborn_but : (c d : ℕ) → v.next_conn ≤ d → count_by (is_live_conn d) (filter (λ (b : LiveConn). not (b.conn == c)) v.live) ≡ 0
  unborn_but c d h = let fewer = count-filter (is_live_conn d) (λ (b : LiveConn). not (b.conn == c)) v.live in let none = s.unborn d h in omega (arith, fewer, none)

  sound_asked : (t k d : ℕ) → v.next_ticket ≤ t → IsSoundView (stepped v (Asked t k d)) (Some (Asked t k d))
  sound_asked t k d h =
      let a : PendingTicket = record { ticket = t; client = k; deadline = d; left = false } in
      record {
        once = s.once;
        lives = s.lives;
        unborn = s.unborn;
        fresh = λ c e. absurd cc;
        tickets = λ u.
            let more = count_by-push (is_ticket u) v.tickets a in
            let one : asked u v + cond {A = ℕ} (u == t) 1 0 ≤ 1 = by_number u t (λ b. asked u v + cond {A = ℕ} b 1 0 ≤ 1) (λ e. let none = s.unasked u (omega (arith, e, h)) in omega (arith, none)) (λ n. let one = s.tickets u in omega (arith, one)) in
            omega (arith, more, one);
        unasked = λ u g.
            let more = count_by-push (is_ticket u) v.tickets a in
            let none : asked u v + cond {A = ℕ} (u == t) 1 0 ≡ 0 = by_number u t (λ b. asked u v + cond {A = ℕ} b 1 0 ≡ 0) (λ e. absurd (omega (arith, e, g))) (λ n. let none = s.unasked u (omega (arith, g, h)) in omega (arith, none)) in
            omega (arith, more, none);
      }

  sound_left : (t : ℕ) → IsSoundView (stepped v (Left t)) (Some (Left t))
  sound_left t = record {
    once = s.once;
    lives = s.lives;
    unborn = s.unborn;
    fresh = λ c e. absurd cc;
    tickets = λ u. subst (λ (n : ℕ). n ≤ 1) (sym (count_by-map (leaving (Left t)) (is_ticket u) v.tickets)) (s.tickets u);
    unasked = λ u h. count_by-map (leaving (Left t)) (is_ticket u) v.tickets ∙ s.unasked u h;
  }

  sound_taken : (c : ℕ) → IsSoundView (stepped v (Taken c)) (Some (Taken c))
  sound_taken c = record {
    once = λ d. let fewer = count-filter (rests d) (λ (r : IdleEntry). not (r.conn == c)) v.idle in let once = s.once d in omega (arith, fewer, once);
    lives = s.lives;
    unborn = s.unborn;
    fresh = λ c e. absurd cc;
    tickets = s.tickets;
    unasked = s.unasked;
  }

  sound_reaped : (c : ℕ) → 1 ≤ resting c v → IsSoundView (stepped v (Reaped c)) (Some (Reaped c))
  sound_reaped c some = record {
    once = λ d.
        let r = resting_but d c v in
        let l = living_but d c v in
        let once = s.once d in
        let one = s.lives d in
        let h : cond {A = ℕ} (d == c) 0 (resting d v) + owned d v ≤ cond {A = ℕ} (d == c) 0 (living d v)
        = by_number d c (λ b. cond {A = ℕ} b 0 (resting d v) + owned d v ≤ cond {A = ℕ} b 0 (living d v)) (λ e. let here : 1 ≤ resting d v = subst (λ (n : ℕ). 1 ≤ resting n v) (sym e) some in omega (arith, here, once, one)) (λ n. once) in
        omega (arith, r, l, h);
    lives = λ d. lives_but d c;
    unborn = unborn_but c;
    fresh = λ c e. absurd cc;
    tickets = s.tickets;
    unasked = s.unasked;
  }

  sound_opened : (c m : ℕ) → v.next_conn ≤ c → IsSoundView (stepped v (Opened c m)) (Some (Opened c m))
  sound_opened c m h =
      let b : LiveConn = record { conn = c; moment = m } in
      record {
        once = λ d. let more = count_by-push (is_live_conn d) v.live b in let once = s.once d in omega (arith, more, once);
        lives = λ d.
            let more = count_by-push (is_live_conn d) v.live b in
            let one : living d v + cond {A = ℕ} (d == c) 1 0 ≤ 1 = by_number d c (λ b. living d v + cond {A = ℕ} b 1 0 ≤ 1) (λ e. let none = s.unborn d (omega (arith, e, h)) in omega (arith, none)) (λ n. let one = s.lives d in omega (arith, one)) in
            omega (arith, more, one);
        unborn = λ d g.
            let more = count_by-push (is_live_conn d) v.live b in
            let none : living d v + cond {A = ℕ} (d == c) 1 0 ≡ 0 = by_number d c (λ b. living d v + cond {A = ℕ} b 1 0 ≡ 0) (λ e. absurd (omega (arith, e, g))) (λ n. let none = s.unborn d (omega (arith, g, h)) in omega (arith, none)) in
            omega (arith, more, none);
        fresh = λ d e.
            let more = count_by-push (is_live_conn d) v.live b in
            let one : cond {A = ℕ} (d == c) 1 0 ≡ 1 = ap (λ (b : Bool). cond {A = ℕ} b 1 0) e in
            let is = eqb-true d c e in
            let none = s.unborn d (omega (arith, is, h)) in
            let once = s.once d in
            (omega (arith, more, one), omega (arith, none, once));
        tickets = s.tickets;
        unasked = s.unasked;
      }

  sound_lent : (k c : ℕ) → 1 ≤ living c v → resting c v ≡ 0 → IsSoundView (stepped v (Lent k c)) (Some (Lent k c))
  sound_lent k c alive restless = record {
    once = λ d.
        let o = owned_but d c v in
        let more = count_by-push (is_loan_of d) (filter (λ (l : Loan). not (l.conn == c)) v.loans) (record { client = k; conn = c }) in
        let once = s.once d in
        let h : resting d v + (cond {A = ℕ} (d == c) 0 (owned d v) + cond {A = ℕ} (d == c) 1 0) ≤ living d v
        = by_number d c (λ b. resting d v + (cond {A = ℕ} b 0 (owned d v) + cond {A = ℕ} b 1 0) ≤ living d v)
        (λ e. let a : 1 ≤ living d v = subst (λ (n : ℕ). 1 ≤ living n v) (sym e) alive in let r : resting d v ≡ 0 = subst (λ (n : ℕ). resting n v ≡ 0) (sym e) restless in omega (arith, a, r)) (λ n. omega (arith, once)) in
        omega (arith, o, more, h);
    lives = s.lives;
    unborn = s.unborn;
    fresh = λ c e. absurd cc;
    tickets = s.tickets;
    unasked = s.unasked;
  }

  sound_kept : (c m : ℕ) → 1 ≤ living c v → IsSoundView (stepped v (Kept c m)) (Some (Kept c m))
  sound_kept c m alive = record {
    once = λ d.
        let o = owned_but d c v in
        let r = resting_but d c v in
        let more = count_by-push (rests d) (filter (λ (r : IdleEntry). not (r.conn == c)) v.idle) (record { conn = c; since = m }) in
        let once = s.once d in
        let h : (cond {A = ℕ} (d == c) 0 (resting d v) + cond {A = ℕ} (d == c) 1 0) + cond {A = ℕ} (d == c) 0 (owned d v) ≤ living d v
        = by_number d c (λ b. (cond {A = ℕ} b 0 (resting d v) + cond {A = ℕ} b 1 0) + cond {A = ℕ} b 0 (owned d v) ≤ living d v)
        (λ e. let a : 1 ≤ living d v = subst (λ (n : ℕ). 1 ≤ living n v) (sym e) alive in omega (arith, a)) (λ n. omega (arith, once)) in
        omega (arith, o, r, more, h);
    lives = s.lives;
    unborn = s.unborn;
    fresh = λ c e. absurd cc;
    tickets = s.tickets;
    unasked = s.unasked;
  }

  sound_closed : (c : ℕ) → IsSoundView (stepped v (Closed c)) (Some (Closed c))
  sound_closed c = record {
    once = λ d.
        let o = owned_but d c v in
        let r = resting_but d c v in
        let l = living_but d c v in
        let h : cond {A = ℕ} (d == c) 0 (resting d v) + cond {A = ℕ} (d == c) 0 (owned d v) ≤ cond {A = ℕ} (d == c) 0 (living d v)
        = by_number d c (λ b. cond {A = ℕ} b 0 (resting d v) + cond {A = ℕ} b 0 (owned d v) ≤ cond {A = ℕ} b 0 (living d v)) (λ e. omega arith) (λ n. s.once d) in
        omega (arith, o, r, l, h);
    lives = λ d. lives_but d c;
    unborn = unborn_but c;
    fresh = λ c e. absurd cc;
    tickets = s.tickets;
    unasked = s.unasked;
  }

  once_unlent : (c : ℕ) → 1 ≤ owned c v → (d : ℕ) → resting d v + count_by (is_loan_of d) (filter (λ (l : Loan). not (l.conn == c)) v.loans) ≤ count_by (is_live_conn d) (filter (λ (b : LiveConn). not (b.conn == c)) v.live)
  once_unlent c some d =
      let o = owned_but d c v in
      let l = living_but d c v in
      let once = s.once d in
      let one = s.lives d in
      let h : resting d v + cond {A = ℕ} (d == c) 0 (owned d v) ≤ cond {A = ℕ} (d == c) 0 (living d v)
      = by_number d c (λ b. resting d v + cond {A = ℕ} b 0 (owned d v) ≤ cond {A = ℕ} b 0 (living d v)) (λ e. let here : 1 ≤ owned d v = subst (λ (n : ℕ). 1 ≤ owned n v) (sym e) some in omega (arith, here, once, one)) (λ n. once) in
      omega (arith, o, l, h)

  sound_detached : (c : ℕ) → 1 ≤ owned c v → IsSoundView (stepped v (Detached c)) (Some (Detached c))
  sound_detached c some = record {
    once = once_unlent c some;
    lives = λ d. lives_but d c;
    unborn = unborn_but c;
    fresh = λ c e. absurd cc;
    tickets = s.tickets;
    unasked = s.unasked;
  }

  sound_leaked : (c : ℕ) → 1 ≤ owned c v → IsSoundView (stepped v (Leaked c)) (Some (Leaked c))
  sound_leaked c some = record {
    once = once_unlent c some;
    lives = λ d. lives_but d c;
    unborn = unborn_but c;
    fresh = λ c e. absurd cc;
    tickets = s.tickets;
    unasked = s.unasked;
  }

  sound_ended : (t : ℕ) → IsSoundView (stepped v (Ended t)) (Some (Ended t))
  sound_ended t = record {
    once = s.once;
    lives = s.lives;
    unborn = s.unborn;
    fresh = λ c e. absurd cc;
    tickets = λ u. let fewer = count-filter (is_ticket u) (λ (a : PendingTicket). not (a.ticket == t)) v.tickets in let one = s.tickets u in omega (arith, fewer, one);
    unasked = λ u h. let fewer = count-filter (is_ticket u) (λ (a : PendingTicket). not (a.ticket == t)) v.tickets in let none = s.unasked u h in omega (arith, fewer, none);
  }

  sound_shut : IsSoundView (stepped v Shut) (Some Shut)
  sound_shut = record { once = s.once; lives = s.lives; unborn = s.unborn; fresh = λ c e. absurd cc; tickets = s.tickets; unasked = s.unasked }

  pub kept_lives : (c : ℕ) → IsTrue (opens_it c last) ⊎ IsTrue (is_owned c v) → 1 ≤ living c v
  kept_lives c (inl e) = (s.fresh c e).0
  kept_lives c (inr e) = let some = any-counts (is_loan_of c) v.loans e in let once = s.once c in omega (arith, some, once)

  -- a mark that finds what is safe leaves what is sound
  pub sound-step : (m : Mark) → FindsSafe v last m → IsSoundView (stepped v m) (Some m)
  sound-step (Asked t k d) f = sound_asked t k d f.1
  sound-step (Left t) f = sound_left t
  sound-step (Taken c) f = sound_taken c
  sound-step (Reaped c) f = sound_reaped c (any-counts (rests c) v.idle f.1)
  sound-step (Opened c m) f = sound_opened c m f.1
  sound-step (Lent k c) f =
      let parts = and_parts (is_live c v && not (is_idle c v)) (not (is_owned c v)) f.1 in
      let alive = and_parts (is_live c v) (not (is_idle c v)) parts.0 in
      sound_lent k c (any-counts (is_live_conn c) v.live alive.0) (none-counts (rests c) v.idle (not_so (is_idle c v) alive.1))
    where
      not_so : (b : Bool) → not b ≡ true → b ≡ false
      not_so true e = cc
      not_so false e = refl
  sound-step (Kept c m) f = sound_kept c m (kept_lives c f.1)
  sound-step (Closed c) f = sound_closed c
  sound-step (Detached c) f = sound_detached c (any-counts (is_loan_of c) v.loans f)
  sound-step (Leaked c) f = sound_leaked c (any-counts (is_loan_of c) v.loans f)
  sound-step (Ended t) f = sound_ended t
  sound-step Shut f = sound_shut

-- ---- logs

pub sound-none : IsSoundView (view_of []) None
sound-none = record { once = λ c. omega arith; lives = λ c. omega arith; unborn = λ c h. refl; fresh = λ c e. absurd cc; tickets = λ t. omega arith; unasked = λ t h. refl }

-- the view behind more marks
abbrev pub stepped_all : View → List Mark → View
stepped_all v [] = v
stepped_all v (m ∷ later) = stepped_all (stepped v m) later

pub sound_behind : (max : ℕ) (v : View) (last : Option Mark) (marks : List Mark) → IsSoundView v last → IsFairBehind max v last marks → IsSoundView (stepped_all v marks) (last_mark last marks)
sound_behind max v last [] s f = s
sound_behind max v last (m ∷ later) s f = sound_behind max (stepped v m) (Some m) later (sound-step v last s m f.0.finds) f.1

pub view_of-stepped_all : (before later : List Mark) → view_of (before ++ later) ≡ stepped_all (view_of before) later
view_of-stepped_all before [] = ap view_of (append-nil before)
view_of-stepped_all before (m ∷ later) =
    ap view_of (sym (append_assoc before (m ∷ []) later)) ∙ view_of-stepped_all (before ++ m ∷ []) later ∙ ap (λ v. stepped_all v later) (view_of-stepped before m)
