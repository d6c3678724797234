-- What may follow in a pool, told by the view before alone.
use Rattle.std.proofs.Common.{◌≡◌, ℕ, ◌+◌, ◌≤◌, ◌<◌, inl, inr, Bool, true, false, cond, not, ◌&&◌, ◌||◌, ◌==◌, IsTrue, List, [], ◌∷◌, ◌++◌, map, filter, count_by, length, Option, Some, None, refl, sym, ap, ap₂, ◌∙◌, subst, arith}
use Rattle.std.specs.List.{list_any}
use Rattle.std.proofs.lemmas.Bool.{eqb-true, and_parts}
use Rattle.sqlx_pool_marks.specs.declared.mark.Mark.{Mark}
use Rattle.sqlx_pool_marks.specs.declared.mark.Mark.TheVariants.{Asked, Left, Taken, Reaped, Opened, Lent, Kept, Closed, Detached, Leaked, Ended, Shut}
use Rattle.sqlx_pool_marks.specs.Standing.{last_mark}
use Rattle.sqlx_pool_marks.specs.Marks.{PendingTicket, Loan, IdleEntry, is_loan_of, is_live_conn}
use Rattle.sqlx_pool_marks.specs.Counts.{has_left, left_in, is_asked_by, asked_in}
use Rattle.sqlx_pool_marks.specs.View.{View, view_of, leaving, waiting, before, free, size}
use Rattle.sqlx_pool_marks.specs.FairLog.{is_owned, rests, is_idle, is_live, is_ticket, is_unended, is_in_line, waits, is_left_ticket_of, is_first, Unless, GoesOn, first_of_marks, IsFair}
use Rattle.sqlx_pool_marks.proofs.ListFacts.{count_by-cons, count_by-push, count_by-map, number_comm, none_any, same_number, list_any-map, length-push, found_passes, found_any, count_by-filter_parts}
use Rattle.sqlx_pool_marks.proofs.Counting.{count-filter}
use Rattle.sqlx_pool_marks.proofs.FairLaws.{safe-followed, in_order}
use Rattle.sqlx_pool_marks.proofs.ViewSteps.{stepped, IsFairMark, IsFairBehind, behind_fair}
use Rattle.sqlx_pool_marks.proofs.SoundViews.{length-others, any-counts, counts-any, count-others, owned, resting, living, asked, IsSoundView, sound-step, sound-none, stepped_all, sound_behind, view_of-stepped_all}

-- ---- logs join

-- a mark that may be the last may have any behind it
pub followed : (max : ℕ) (v after : View) (last : Option Mark) (m : Mark) (next : Option Mark) → IsFairMark max v after last m None → IsFairMark max v after last m next
followed max v after last m next f =
    let safe = safe-followed max v after last m next (record { finds = f.finds; keeps = f.keeps }) in
    record { finds = safe.finds; keeps = safe.keeps; order = in_order max v m next f.order }

pub behind-append : (max : ℕ) (v : View) (last : Option Mark) (xs ys : List Mark) → IsFairBehind max v last xs → IsFairBehind max (stepped_all v xs) (last_mark last xs) ys → IsFairBehind max v last (xs ++ ys)
behind-append max v last [] ys f g = g
behind-append max v last (m ∷ []) ys f g = (followed max v (stepped v m) last m (first_of_marks ys) f.0, g)
behind-append max v last (m ∷ n ∷ xs) ys f g = (f.0, behind-append max (stepped v m) (Some m) (n ∷ xs) ys f.1 g)

-- ---- tests of a view

any-weaker : {X : Type 0} (p q : X → Bool) → ((x : X) → p x ≡ true → q x ≡ true) → (xs : List X) → list_any p xs ≡ true → list_any q xs ≡ true
any-weaker p q h [] e = e
any-weaker {X} p q h (x ∷ xs) e = by (any-weaker p q h xs) (p x) (q x) refl refl e
  where
    by : (list_any p xs ≡ true → list_any q xs ≡ true) → (a b : Bool) → p x ≡ a → q x ≡ b → (a || list_any p xs) ≡ true → (b || list_any q xs) ≡ true
    by rest a true is so k = refl
    by rest true false is so k = absurd (let f = h x is in cc)
    by rest false false is so k = rest k

count-or : {X : Type 0} (p q : X → Bool) (xs : List X) → count_by (λ x. p x || q x) xs ≤ count_by p xs + count_by q xs
count-or p q [] = omega arith
count-or {X} p q (x ∷ xs) =
    let e = count_by-cons p x xs in
    let f = count_by-cons q x xs in
    let g = count_by-cons (λ (x : X). p x || q x) x xs in
    let h = count-or p q xs in
    let k = by (p x) (q x) in
    omega (arith, e, f, g, h, k)
  where
    by : (a b : Bool) → cond {A = ℕ} (a || b) 1 0 ≤ cond {A = ℕ} a 1 0 + cond {A = ℕ} b 1 0
    by true b = omega arith
    by false b = omega arith

-- a left ticket is one that hasn't ended
left_unended : (k t : ℕ) (v : View) → list_any (is_left_ticket_of k t) v.tickets ≡ true → IsTrue (is_unended t v)
left_unended k t v e = any-weaker (is_left_ticket_of k t) (is_ticket t) (λ a h. (and_parts (t == a.ticket) (k == a.client) (and_parts ((t == a.ticket) && (k == a.client)) a.left h).0).0) v.tickets e

pub alive_apart : (c : ℕ) (v : View) → 1 ≤ living c v → resting c v ≡ 0 → owned c v ≡ 0 → IsTrue (is_live c v && not (is_idle c v) && not (is_owned c v))
alive_apart c v alive restless unowned =
    let a : is_live c v ≡ true = counts-any (is_live_conn c) v.live alive in
    let b : is_idle c v ≡ false = none_any (rests c) v.idle restless in
    let d : is_owned c v ≡ false = none_any (is_loan_of c) v.loans unowned in
    ap₂ ◌&&◌ (ap₂ ◌&&◌ a (ap not b)) (ap not d)

-- the first idle connection rests
first_rests : (v : View) (r : IdleEntry) (rest : List IdleEntry) → v.idle ≡ r ∷ rest → 1 ≤ resting r.conn v
first_rests v r rest e =
    let whole = ap (count_by (rests r.conn)) e ∙ count_by-cons (rests r.conn) r rest in
    let one : cond {A = ℕ} (r.conn == r.conn) 1 0 ≡ 1 = ap (λ (b : Bool). cond {A = ℕ} b 1 0) (same_number r.conn) in
    omega (arith, whole, one)

-- ---- sizes

fewer_loans : (c : ℕ) (v : View) → length (filter (λ (l : Loan). not (l.conn == c)) v.loans) + owned c v ≡ length v.loans
fewer_loans c v = length-others (λ (l : Loan). l.conn) c v.loans

fewer_idle : (c : ℕ) (v : View) → length (filter (λ (r : IdleEntry). not (r.conn == c)) v.idle) + resting c v ≡ length v.idle
fewer_idle c v = length-others (λ (r : IdleEntry). r.conn) c v.idle

left-after : (t : ℕ) (v : View) → asked t v ≤ 1 → left_in (map (leaving (Left t)) v.tickets) ≤ left_in v.tickets + 1
left-after t v one =
    let is = count_by-map (leaving (Left t)) has_left v.tickets in
    let h = count-or has_left (λ (a : PendingTicket). a.ticket == t) v.tickets in
    let turned : count_by (λ (a : PendingTicket). a.ticket == t) v.tickets ≡ asked t v = λ i. count_by (λ (a : PendingTicket). number_comm a.ticket t i) v.tickets in
    omega (arith, is, h, turned, one)

left-ended : (k t : ℕ) (v : View) → list_any (is_left_ticket_of k t) v.tickets ≡ true → left_in (filter (λ (a : PendingTicket). not (a.ticket == t)) v.tickets) + 1 ≤ left_in v.tickets
left-ended k t v e =
    let parts = count_by-filter_parts has_left (λ (a : PendingTicket). a.ticket == t) v.tickets in
    let some = any-counts (λ (a : PendingTicket). (a.ticket == t) && has_left a) v.tickets (any-weaker (is_left_ticket_of k t) (λ (a : PendingTicket). (a.ticket == t) && has_left a)
    (λ a h. let two = and_parts ((t == a.ticket) && (k == a.client)) a.left h in ap₂ ◌&&◌ (number_comm a.ticket t ∙ (and_parts (t == a.ticket) (k == a.client) two.0).0) two.1) v.tickets e) in
    omega (arith, parts, some)

left-fewer : (t : ℕ) (v : View) → left_in (filter (λ (a : PendingTicket). not (a.ticket == t)) v.tickets) ≤ left_in v.tickets
left-fewer t v = count-filter has_left (λ (a : PendingTicket). not (a.ticket == t)) v.tickets

-- ---- each mark

module _ (max : ℕ) (v : View) (last : Option Mark) (s : IsSoundView v last) (within : size v ≤ max) where
  pub fair-asked : (k d : ℕ) → v.shut ≡ false → IsFairBehind max v last (Asked v.next_ticket k d ∷ [])
  fair-asked k d opened =
      let more = count_by-push has_left v.tickets (record { ticket = v.next_ticket; client = k; deadline = d; left = false }) in
      (record { finds = (ap not opened, omega arith); keeps = omega (arith, more, within); order = tt }, tt)

  pub fair-ended : (t : ℕ) → IsTrue (is_unended t v) → IsFairBehind max v last (Ended t ∷ [])
  fair-ended t is = let fewer = left-fewer t v in (record { finds = is; keeps = omega (arith, fewer, within); order = tt }, tt)

  -- a connection that a client owns is kept, closed, detached or leaked
  pub fair-kept : (c m : ℕ) → v.shut ≡ false → 1 ≤ owned c v → IsFairBehind max v last (Kept c m ∷ [])
  fair-kept c m opened some =
      let loans = fewer_loans c v in
      let idle = fewer_idle c v in
      let more = length-push (filter (λ (r : IdleEntry). not (r.conn == c)) v.idle) (record { conn = c; since = m }) in
      (record { finds = (ap not opened, inr (counts-any (is_loan_of c) v.loans some)); keeps = omega (arith, loans, idle, more, some, within); order = tt }, tt)

  pub fair-closed : (c : ℕ) → 1 ≤ living c v → IsFairBehind max v last (Closed c ∷ [])
  fair-closed c alive =
      let loans = fewer_loans c v in
      let idle = fewer_idle c v in
      (record { finds = counts-any (is_live_conn c) v.live alive; keeps = omega (arith, loans, idle, within); order = tt }, tt)

  pub fair-detached : (c : ℕ) → 1 ≤ owned c v → IsFairBehind max v last (Detached c ∷ [])
  fair-detached c some = let loans = fewer_loans c v in (record { finds = counts-any (is_loan_of c) v.loans some; keeps = omega (arith, loans, within); order = tt }, tt)

  pub fair-leaked : (c : ℕ) → 1 ≤ owned c v → IsFairBehind max v last (Leaked c ∷ [])
  fair-leaked c some = let loans = fewer_loans c v in (record { finds = counts-any (is_loan_of c) v.loans some; keeps = omega (arith, loans, some, within); order = tt }, tt)

  pub fair-reaped : (c : ℕ) → v.shut ≡ false → 1 ≤ resting c v → IsFairBehind max v last (Reaped c ∷ [])
  fair-reaped c opened some = let idle = fewer_idle c v in (record { finds = (ap not opened, counts-any (rests c) v.idle some); keeps = omega (arith, idle, within); order = tt }, tt)

  pub fair-shut : v.shut ≡ false → IsFairBehind max v last (Shut ∷ [])
  fair-shut opened = (record { finds = ap not opened; keeps = within; order = tt }, tt)

  -- a connection is opened and kept at once
  pub fair-opened_kept : (c m : ℕ) → v.shut ≡ false → v.next_conn ≤ c → size v + 1 ≤ max → IsFairBehind max v last (Opened c m ∷ Kept c m ∷ [])
  fair-opened_kept c m opened new room =
      let loans = fewer_loans c v in
      let idle = fewer_idle c v in
      let more = length-push (filter (λ (r : IdleEntry). not (r.conn == c)) v.idle) (record { conn = c; since = m }) in
      (record { finds = (ap not opened, new); keeps = within; order = tt }, (record { finds = (ap not opened, inl (same_number c)); keeps = omega (arith, loans, idle, more, room); order = tt }, tt))

  pub size-opened_kept : (c m : ℕ) → size (stepped_all v (Opened c m ∷ Kept c m ∷ [])) ≤ size v + 1
  size-opened_kept c m =
      let loans = fewer_loans c v in
      let idle = fewer_idle c v in
      let more = length-push (filter (λ (r : IdleEntry). not (r.conn == c)) v.idle) (record { conn = c; since = m }) in
      omega (arith, loans, idle, more)

  -- the first idle connection is lent past the line
  pub fair-tried : (k : ℕ) (r : IdleEntry) (rest : List IdleEntry) → v.shut ≡ false → v.idle ≡ r ∷ rest → waiting v < free max v → IsFairBehind max v last (Taken r.conn ∷ Lent k r.conn ∷ [])
  fair-tried k r rest opened e past =
      let c = r.conn in
      let idle = fewer_idle c v in
      let loans = fewer_loans c v in
      let some = first_rests v r rest e in
      let more = length-push (filter (λ (l : Loan). not (l.conn == c)) v.loans) (record { client = k; conn = c }) in
      let once = s.once c in
      let one = s.lives c in
      let gone = count-others (λ (r : IdleEntry). r.conn) c c v.idle ∙ ap (λ (b : Bool). cond {A = ℕ} b 0 (resting c v)) (same_number c) in (
        record { finds = (ap not opened, ap (is_first c) e ∙ same_number c); keeps = omega (arith, idle, within); order = tt },
        (
          record {
            finds = (ap not opened, alive_apart c (stepped v (Taken c)) (omega (arith, once, some)) gone (omega (arith, once, one, some)));
            keeps = omega (arith, idle, loans, more, some, within);
            order = past;
          },
          tt,
        ),
      )

-- ---- a ticket that has left

-- A client's ticket has left the line of an open pool.
pub record HasLeft (max : ℕ) (v : View) (last : Option Mark) (k t : ℕ) : Type 0 where
  pub sound : IsSoundView v last
  pub opened : v.shut ≡ false
  pub within : size v ≤ max
  pub left : list_any (is_left_ticket_of k t) v.tickets ≡ true

module _ (max : ℕ) (v : View) (last : Option Mark) (k t : ℕ) (h : HasLeft max v last k t) where
  pub left-ends : IsFairBehind max v last (Ended t ∷ [])
  left-ends = fair-ended max v last h.sound h.within t (left_unended k t v h.left)

  -- a connection is lent to it
  pub left-lent : (c : ℕ) → 1 ≤ living c v → resting c v ≡ 0 → owned c v ≡ 0 → IsFairBehind max v last (Lent k c ∷ Ended t ∷ [])
  left-lent c alive restless unowned =
      let loans = fewer_loans c v in
      let more = length-push (filter (λ (l : Loan). not (l.conn == c)) v.loans) (record { client = k; conn = c }) in
      let fewer = left-ended k t v h.left in
      let within = h.within in (
        record {
          finds = (ap not h.opened, alive_apart c v alive restless unowned);
          keeps = tt;
          order = subst (λ (b : Bool). Unless b (waiting v < free max v)) (sym h.left) tt;
        },
        (record { finds = left_unended k t v h.left; keeps = omega (arith, loans, more, fewer, within); order = tt }, tt),
      )

-- one is opened for it
pub left-opened : (max : ℕ) (v : View) (last : Option Mark) (k t : ℕ) → HasLeft max v last k t → (c m : ℕ) → v.next_conn ≤ c → IsFairBehind max v last (Opened c m ∷ Lent k c ∷ Ended t ∷ [])
left-opened max v last k t h c m new =
    let found : IsFairMark max v (stepped v (Opened c m)) last (Opened c m) None = record { finds = (ap not h.opened, new); keeps = h.within; order = tt } in
    let sound = sound-step v last h.sound (Opened c m) found.finds in
    let fresh = sound.fresh c (same_number c) in
    let once = h.sound.once c in
    let none = h.sound.unborn c new in (
      followed max v (stepped v (Opened c m)) last (Opened c m) (Some (Lent k c)) found,
      left-lent max (stepped v (Opened c m)) (Some (Opened c m)) k t (record { sound = sound; opened = h.opened; within = h.within; left = h.left }) c fresh.0 (omega (arith, once, none)) fresh.1,
    )

-- ---- a ticket leaves the line

-- A client's waiting ticket may leave the line of an open pool.
pub record MayLeave (max : ℕ) (v : View) (last : Option Mark) (k t : ℕ) (a : PendingTicket) : Type 0 where
  pub sound : IsSoundView v last
  pub opened : v.shut ≡ false
  pub within : size v ≤ max
  pub asked : asked_in k t v.tickets ≡ Some a
  pub waits : a.left ≡ false
  pub turn : before a.ticket v < free max v

module _ (max : ℕ) (v : View) (last : Option Mark) (k t : ℕ) (a : PendingTicket) (h : MayLeave max v last k t a) where
  its : ((t == a.ticket) ≡ true) × ((k == a.client) ≡ true)
  its = and_parts (t == a.ticket) (k == a.client) (found_passes (is_asked_by k t) v.tickets a h.asked)

  in_line : IsTrue (waits t v)
  in_line = found_any (is_asked_by k t) (is_in_line t) v.tickets a h.asked (ap₂ ◌&&◌ its.0 (ap not h.waits))

  in_turn : before t v < free max v
  in_turn = subst (λ (n : ℕ). before n v < free max v) (sym (eqb-true t a.ticket its.0)) h.turn

  left_then : list_any (is_left_ticket_of k t) (map (leaving (Left t)) v.tickets) ≡ true
  left_then = list_any-map (leaving (Left t)) (is_left_ticket_of k t) v.tickets
      ∙ found_any (is_asked_by k t) (λ (x : PendingTicket). is_left_ticket_of k t (leaving (Left t) x)) v.tickets a h.asked
      (ap₂ ◌&&◌ (ap₂ ◌&&◌ its.0 its.1) (ap₂ ◌||◌ h.waits (number_comm a.ticket t ∙ its.0)))

  one_more : left_in (map (leaving (Left t)) v.tickets) ≤ left_in v.tickets + 1
  one_more = left-after t v (h.sound.tickets t)

  -- no connection rests
  pub leaves-alone : v.idle ≡ [] → IsFairBehind max v last (Left t ∷ [])
  leaves-alone none =
      let empty = ap (length {A = IdleEntry}) none in
      let turn = h.turn in
      (record { finds = ap not h.opened; keeps = let more = one_more in omega (arith, empty, turn, more); order = (in_line, in_turn, subst (λ (l : List IdleEntry). GoesOn v t l None) (sym none) tt) }, tt)

  pub left-alone : v.idle ≡ [] → HasLeft max (stepped v (Left t)) (Some (Left t)) k t
  left-alone none = record {
    sound = sound-step v last h.sound (Left t) (ap not h.opened);
    opened = h.opened;
    within = let empty = ap (length {A = IdleEntry}) none in let turn = h.turn in let more = one_more in omega (arith, empty, turn, more);
    left = left_then;
  }

  -- the first that rests is taken
  pub leaves-first : (r : IdleEntry) (rest : List IdleEntry) → v.idle ≡ r ∷ rest → IsFairBehind max v last (Left t ∷ Taken r.conn ∷ [])
  leaves-first r rest e =
      let more = one_more in
      let idle = fewer_idle r.conn v in
      let some = first_rests v r rest e in
      let within = h.within in (
        record { finds = ap not h.opened; keeps = tt; order = (in_line, in_turn, subst (λ (l : List IdleEntry). GoesOn v t l (Some (Taken r.conn))) (sym e) refl) },
        (record { finds = (ap not h.opened, ap (is_first r.conn) e ∙ same_number r.conn); keeps = omega (arith, more, idle, some, within); order = tt }, tt),
      )

  pub left-first : (r : IdleEntry) (rest : List IdleEntry) → v.idle ≡ r ∷ rest → HasLeft max (stepped_all v (Left t ∷ Taken r.conn ∷ [])) (Some (Taken r.conn)) k t
  left-first r rest e =
      let more = one_more in
      let idle = fewer_idle r.conn v in
      let some = first_rests v r rest e in
      let within = h.within in
      record {
        sound = sound-step (stepped v (Left t)) (Some (Left t)) (sound-step v last h.sound (Left t) (ap not h.opened)) (Taken r.conn) (ap not h.opened, ap (is_first r.conn) e ∙ same_number r.conn);
        opened = h.opened;
        within = omega (arith, more, idle, some, within);
        left = left_then;
      }

  -- the first that rests is there, and without an owner
  pub first-alive : (r : IdleEntry) (rest : List IdleEntry) → v.idle ≡ r ∷ rest → 1 ≤ living r.conn v
  first-alive r rest e = let some = first_rests v r rest e in let once = h.sound.once r.conn in omega (arith, some, once)

  pub first-unowned : (r : IdleEntry) (rest : List IdleEntry) → v.idle ≡ r ∷ rest → owned r.conn v ≡ 0
  first-unowned r rest e = let some = first_rests v r rest e in let once = h.sound.once r.conn in let one = h.sound.lives r.conn in omega (arith, some, once, one)

  pub first-taken : (c : ℕ) → resting c (stepped_all v (Left t ∷ Taken c ∷ [])) ≡ 0
  first-taken c = count-others (λ (r : IdleEntry). r.conn) c c v.idle ∙ ap (λ (b : Bool). cond {A = ℕ} b 0 (resting c v)) (same_number c)

  -- it is lent
  pub leaves-lent : (r : IdleEntry) (rest : List IdleEntry) → v.idle ≡ r ∷ rest → IsFairBehind max v last (Left t ∷ Taken r.conn ∷ Lent k r.conn ∷ Ended t ∷ [])
  leaves-lent r rest e =
      behind-append max v last (Left t ∷ Taken r.conn ∷ []) (Lent k r.conn ∷ Ended t ∷ []) (leaves-first r rest e)
      (left-lent max (stepped_all v (Left t ∷ Taken r.conn ∷ [])) (Some (Taken r.conn)) k t (left-first r rest e) r.conn (first-alive r rest e) (first-taken r.conn) (first-unowned r rest e))

  -- it fails its test, and is closed
  pub leaves-closed : (r : IdleEntry) (rest : List IdleEntry) → v.idle ≡ r ∷ rest → IsFairBehind max v last (Left t ∷ Taken r.conn ∷ Closed r.conn ∷ [])
  leaves-closed r rest e =
      let h' = left-first r rest e in
      behind-append max v last (Left t ∷ Taken r.conn ∷ []) (Closed r.conn ∷ []) (leaves-first r rest e)
      (fair-closed max (stepped_all v (Left t ∷ Taken r.conn ∷ [])) (Some (Taken r.conn)) h'.sound h'.within r.conn (first-alive r rest e))

  pub left-closed : (r : IdleEntry) (rest : List IdleEntry) → v.idle ≡ r ∷ rest → HasLeft max (stepped_all v (Left t ∷ Taken r.conn ∷ Closed r.conn ∷ [])) (Some (Closed r.conn)) k t
  left-closed r rest e =
      let h' = left-first r rest e in
      let v' = stepped_all v (Left t ∷ Taken r.conn ∷ []) in
      let loans = fewer_loans r.conn v' in
      let idle = fewer_idle r.conn v' in
      let within = h'.within in
      record {
        sound = sound-step v' (Some (Taken r.conn)) h'.sound (Closed r.conn) (counts-any (is_live_conn r.conn) v.live (first-alive r rest e));
        opened = h.opened;
        within = omega (arith, loans, idle, within);
        left = left_then;
      }

-- ---- a whole log

-- a fair log comes to a sound view
pub sound-log : (max : ℕ) (marks : List Mark) → IsFair max [] marks → IsSoundView (view_of marks) (last_mark None marks)
sound-log max marks f = subst (λ (v : View). IsSoundView v (last_mark None marks)) (sym (view_of-stepped_all [] marks)) (sound_behind max (view_of []) None marks sound-none (behind_fair max [] marks f))
