-- Idle connections that a poll tests: whatever the tests come to, their marks may follow.
use Rattle.std.proofs.Common.{◌≡◌, ℕ, zero, suc, ◌+◌, ◌≤◌, ◌==◌, ◌||◌, Bool, true, false, not, cond, List, [], ◌∷◌, ◌++◌, count_by, take, Option, Some, refl, sym, ap, subst, ◌∙◌, arith}
use Rattle.std.proofs.lemmas.Bool.{eqb-true}
use Rattle.sqlx_pool_marks.specs.declared.mark.Mark.{Mark}
use Rattle.sqlx_pool_marks.specs.declared.mark.Mark.TheVariants.{Left, Taken, Lent, Closed, Ended}
use Rattle.sqlx_pool_marks.specs.Standing.{last_mark}
use Rattle.sqlx_pool_marks.specs.Marks.{PendingTicket, IdleEntry, is_live_conn}
use Rattle.sqlx_pool_marks.specs.View.{View}
use Rattle.sqlx_pool_marks.specs.FairLog.{rests, is_first}
use Rattle.sqlx_pool_marks.proofs.ListFacts.{count_by-cons, filter_none, none_any, number_comm, or-true, same_number}
use Rattle.sqlx_pool_marks.proofs.ViewSteps.{stepped, other_idle, IsFairBehind}
use Rattle.sqlx_pool_marks.proofs.SoundViews.{counts-any, count-others, owned, resting, living, IsSoundView, sound-step, stepped_all}
use Rattle.sqlx_pool_marks.proofs.FairSteps.{behind-append, fair-closed, fair-reaped, HasLeft, left-lent, MayLeave, leaves-alone, left-alone, leaves-lent, leaves-closed, left-closed}
use Rattle.sqlx_script_rules.specs.ScriptMarks.{is_among, refusing, reaching}
use Rattle.sqlx_script_rules.specs.Answer.{conn_at}

-- ---- idle connections of a sound view

-- a connection whose number wasn't drawn is not idle
pub new-among : (v : View) (last : Option Mark) → IsSoundView v last → (c : ℕ) → v.next_conn ≤ c → is_among c v.idle ≡ false
new-among v last s c new =
    let none = s.unborn c new in
    let once = s.once c in
    none_any (rests c) v.idle (omega (arith, none, once))

module _ (v : View) (last : Option Mark) (s : IsSoundView v last) (r : IdleEntry) (rest : List IdleEntry) (e : v.idle ≡ r ∷ rest) where
  whole : resting r.conn v ≡ 1 + count_by (rests r.conn) rest
  whole =
      ap (count_by (rests r.conn)) e ∙ count_by-cons (rests r.conn) r rest
      ∙ ap (λ (b : Bool). cond {A = ℕ} b 1 0 + count_by (rests r.conn) rest) (same_number r.conn)

  no_other : count_by (λ (x : IdleEntry). x.conn == r.conn) rest ≡ 0
  no_other =
      let all = whole in
      let once = s.once r.conn in
      let one = s.lives r.conn in
      let none : count_by (rests r.conn) rest ≡ 0 = omega (arith, all, once, one) in
      (λ i. count_by (λ (x : IdleEntry). number_comm x.conn r.conn i) rest) ∙ none

  -- the first is taken, and then closed
  rest-taken : other_idle r.conn v.idle ≡ rest
  rest-taken =
      ap (other_idle r.conn) e
      ∙ ap (λ (b : Bool). cond (not b) (r ∷ other_idle r.conn rest) (other_idle r.conn rest)) (same_number r.conn)
      ∙ filter_none (λ (x : IdleEntry). x.conn == r.conn) rest no_other

  pub rest-closed : other_idle r.conn (other_idle r.conn v.idle) ≡ rest
  rest-closed = ap (other_idle r.conn) rest-taken ∙ filter_none (λ (x : IdleEntry). x.conn == r.conn) rest no_other

  some : 1 ≤ resting r.conn v
  some = let all = whole in omega (arith, all)

  alive : 1 ≤ living r.conn v
  alive = let all = some in let once = s.once r.conn in omega (arith, all, once)

  unowned : owned r.conn v ≡ 0
  unowned = let all = some in let once = s.once r.conn in let one = s.lives r.conn in omega (arith, all, once, one)

-- ---- the next test of a ticket that has left the line

module _ (max : ℕ) (v : View) (last : Option Mark) (k t : ℕ) (h : HasLeft max v last k t) (r : IdleEntry) (rest : List IdleEntry) (e : v.idle ≡ r ∷ rest) where
  abbrev after : View
  after = stepped v (Taken r.conn)

  taken-next : IsFairBehind max v last (Taken r.conn ∷ [])
  taken-next = (
    record {
      finds = (ap not h.opened, ap (is_first r.conn) e ∙ same_number r.conn);
      keeps = (fair-reaped max v last h.sound h.within r.conn h.opened (some v last h.sound r rest e)).0.keeps;
      order = tt;
    },
    tt,
  )

  left-next : HasLeft max after (Some (Taken r.conn)) k t
  left-next = record { sound = sound-step v last h.sound (Taken r.conn) taken-next.0.finds; opened = h.opened; within = taken-next.0.keeps; left = h.left }

  restless : resting r.conn after ≡ 0
  restless = count-others (λ (x : IdleEntry). x.conn) r.conn r.conn v.idle ∙ ap (λ (b : Bool). cond {A = ℕ} b 0 (resting r.conn v)) (same_number r.conn)

  lent-next : IsFairBehind max v last (Taken r.conn ∷ Lent k r.conn ∷ Ended t ∷ [])
  lent-next =
      behind-append max v last (Taken r.conn ∷ []) (Lent k r.conn ∷ Ended t ∷ []) taken-next
      (left-lent max after (Some (Taken r.conn)) k t left-next r.conn (alive v last h.sound r rest e) restless (unowned v last h.sound r rest e))

  closes : IsFairBehind max after (Some (Taken r.conn)) (Closed r.conn ∷ [])
  closes = fair-closed max after (Some (Taken r.conn)) left-next.sound left-next.within r.conn (alive v last h.sound r rest e)

  closed-next : IsFairBehind max v last (Taken r.conn ∷ Closed r.conn ∷ [])
  closed-next = behind-append max v last (Taken r.conn ∷ []) (Closed r.conn ∷ []) taken-next closes

  left-closed-next : HasLeft max (stepped_all v (Taken r.conn ∷ Closed r.conn ∷ [])) (Some (Closed r.conn)) k t
  left-closed-next = record {
    sound = sound-step after (Some (Taken r.conn)) left-next.sound (Closed r.conn) (counts-any (is_live_conn r.conn) v.live (alive v last h.sound r rest e));
    opened = h.opened;
    within = closes.0.keeps;
    left = h.left;
  }

-- Marks that may follow, behind which the ticket has left and no number was drawn.
pub record LeavesBehind (max : ℕ) (v : View) (last : Option Mark) (k t : ℕ) (marks : List Mark) : Type 0 where
  pub fair : IsFairBehind max v last marks
  pub left : HasLeft max (stepped_all v marks) (last_mark last marks) k t
  pub number : (stepped_all v marks).next_conn ≡ v.next_conn

-- so many are refused
refused-next : (max k t n : ℕ) (idle : List IdleEntry) (v : View) (last : Option Mark) → HasLeft max v last k t → v.idle ≡ idle → LeavesBehind max v last k t (refusing (take n idle))
refused-next max k t zero idle v last h e = record { fair = tt; left = h; number = refl }
refused-next max k t (suc n) [] v last h e = record { fair = tt; left = h; number = refl }
refused-next max k t (suc n) (r ∷ rest) v last h e =
    let two : List Mark = Taken r.conn ∷ Closed r.conn ∷ [] in
    let more = refused-next max k t n rest (stepped_all v two) (Some (Closed r.conn)) (left-closed-next max v last k t h r rest e) (rest-closed v last h.sound r rest e) in
    record { fair = behind-append max v last two (refusing (take n rest)) (closed-next max v last k t h r rest e) more.fair; left = more.left; number = more.number }

-- this one is lent
reached-next : (max k t c : ℕ) (idle : List IdleEntry) (v : View) (last : Option Mark) → HasLeft max v last k t → v.idle ≡ idle → is_among c idle ≡ true
    → IsFairBehind max v last (reaching c idle ++ (Lent k c ∷ Ended t ∷ []))
reached-next max k t c [] v last h e among = absurd cc
reached-next max k t c (r ∷ rest) v last h e among =
    by (reached-next max k t c rest (stepped_all v (Taken r.conn ∷ Closed r.conn ∷ [])) (Some (Closed r.conn)) (left-closed-next max v last k t h r rest e) (rest-closed v last h.sound r rest e))
    (c == r.conn) refl among
  where
    by : (is_among c rest ≡ true → IsFairBehind max (stepped_all v (Taken r.conn ∷ Closed r.conn ∷ [])) (Some (Closed r.conn)) (reaching c rest ++ (Lent k c ∷ Ended t ∷ [])))
        → (b : Bool) → (c == r.conn) ≡ b → (b || is_among c rest) ≡ true → IsFairBehind max v last (cond b (Taken r.conn ∷ []) (Taken r.conn ∷ Closed r.conn ∷ reaching c rest) ++ (Lent k c ∷ Ended t ∷ []))
    by more true same other = subst (λ (d : ℕ). IsFairBehind max v last (Taken r.conn ∷ Lent k d ∷ Ended t ∷ [])) (sym (eqb-true c r.conn same)) (lent-next max v last k t h r rest e)
    by more false same other =
        behind-append max v last (Taken r.conn ∷ Closed r.conn ∷ []) (reaching c rest ++ (Lent k c ∷ Ended t ∷ [])) (closed-next max v last k t h r rest e) (more other)

-- ---- the tests of a ticket that leaves the line

module _ (max : ℕ) (v : View) (last : Option Mark) (k t : ℕ) (a : PendingTicket) (h : MayLeave max v last k t a) where
  pub leaves-refused : (tries : ℕ) → 1 ≤ tries → (idle : List IdleEntry) → v.idle ≡ idle → LeavesBehind max v last k t (Left t ∷ refusing (take tries idle))
  leaves-refused zero many idle e = absurd (omega (arith, many))
  leaves-refused (suc n) many [] e = record { fair = leaves-alone max v last k t a h e; left = left-alone max v last k t a h e; number = refl }
  leaves-refused (suc n) many (r ∷ rest) e =
      let three : List Mark = Left t ∷ Taken r.conn ∷ Closed r.conn ∷ [] in
      let more = refused-next max k t n rest (stepped_all v three) (Some (Closed r.conn)) (left-closed max v last k t a h r rest e) (rest-closed v last h.sound r rest e) in
      record { fair = behind-append max v last three (refusing (take n rest)) (leaves-closed max v last k t a h r rest e) more.fair; left = more.left; number = more.number }

  pub leaves-reached : (c : ℕ) (idle : List IdleEntry) → v.idle ≡ idle → is_among c idle ≡ true → IsFairBehind max v last (Left t ∷ (reaching c idle ++ (Lent k c ∷ Ended t ∷ [])))
  leaves-reached c [] e among = absurd cc
  leaves-reached c (r ∷ rest) e among = by (c == r.conn) refl among
    where
      by : (b : Bool) → (c == r.conn) ≡ b → (b || is_among c rest) ≡ true
          → IsFairBehind max v last (Left t ∷ (cond b (Taken r.conn ∷ []) (Taken r.conn ∷ Closed r.conn ∷ reaching c rest) ++ (Lent k c ∷ Ended t ∷ [])))
      by true same other = subst (λ (d : ℕ). IsFairBehind max v last (Left t ∷ Taken r.conn ∷ Lent k d ∷ Ended t ∷ [])) (sym (eqb-true c r.conn same)) (leaves-lent max v last k t a h r rest e)
      by false same other =
          let three : List Mark = Left t ∷ Taken r.conn ∷ Closed r.conn ∷ [] in
          behind-append max v last three (reaching c rest ++ (Lent k c ∷ Ended t ∷ [])) (leaves-closed max v last k t a h r rest e)
          (reached-next max k t c rest (stepped_all v three) (Some (Closed r.conn)) (left-closed max v last k t a h r rest e) (rest-closed v last h.sound r rest e) other)

-- a connection at a place of those that may be tested is idle
pub at-among : (q n : ℕ) (idle : List IdleEntry) (c : ℕ) → conn_at q (take n idle) ≡ Some c → is_among c idle ≡ true
at-among q zero idle c e = absurd cc
at-among q (suc n) [] c e = absurd cc
at-among zero (suc n) (r ∷ rest) c e = let same : r.conn ≡ c = cc in subst (λ (d : ℕ). (c == d || is_among c rest) ≡ true) (sym same) (ap (λ (b : Bool). b || is_among c rest) (same_number c))
at-among (suc q) (suc n) (r ∷ rest) c e = ap (λ (b : Bool). (c == r.conn) || b) (at-among q n rest c e) ∙ or-true (c == r.conn)
