-- What a mark finds in the marks that a core stands for, and what it leaves.
use Rattle.std.proofs.Common.{◌≡◌, ℕ, ◌≤◌, ◌<◌, inl, inr, Bool, true, false, not, ◌&&◌, ◌==◌, IsTrue, List, [], ◌∷◌, ◌++◌, map, find, count_by, Option, Some, None, option_map, refl, sym, ap, ap₂, ◌∙◌, subst, append-nil, append_assoc, arith}
use Rattle.std.specs.List.{list_any}
use Rattle.std.proofs.lemmas.Bool.{and_parts}
use Rattle.sqlx_pool_marks.specs.declared.mark.Mark.{Mark}
use Rattle.sqlx_pool_marks.specs.declared.mark.Mark.TheVariants.{Asked, Taken, Reaped, Opened, Lent, Kept, Closed, Detached, Leaked, Ended, Shut}
use Rattle.sqlx_pool_lists.specs.declared.ticket.Ticket.{Ticket}
use Rattle.sqlx_pool_lists.specs.declared.ticket.OwnedConn.{OwnedConn}
use Rattle.sqlx_pool_lists.specs.declared.steps.Idle.{Idle}
use Rattle.sqlx_pool_marks.specs.Standing.{last_mark}
use Rattle.sqlx_pool_marks.specs.Marks.{PendingTicket, LiveConn, tickets_of, idle_of, live_of, is_live_conn, is_loan_of, is_shut}
use Rattle.sqlx_pool_marks.specs.View.{View, view_of, free as free_at, size as size_at, waiting as waiting_at}
use Rattle.sqlx_pool_lists.specs.Core.{Core, asking, loan, resting, is_out, is_of, ticket_of, is_held_by, loan_of, size}
use Rattle.sqlx_pool_lists.specs.Sound.{holds, rests}
use Rattle.sqlx_pool_lists.specs.Makes.{MakesWhere, Makes}
use Rattle.sqlx_pool_marks.specs.Born.{IsBorn}
use Rattle.sqlx_pool_lists.specs.StandsFor.{StandsIn, StandsFor}
use Rattle.sqlx_pool_marks.specs.FairLog.{is_owned, is_idle, is_live, is_ticket, is_left_ticket_of, is_first, opens_it, Unless, serves, FindsSafe, KeepsSize, IsInOrder, first_of_marks, rests as rests_at}
use Rattle.sqlx_pool_marks.proofs.FairLaws.{fair-append}
use Rattle.sqlx_pool_marks.proofs.ListFacts.{found_passes, found_any, list_any-map, none_any, same_number}
use Rattle.sqlx_pool_core.proofs.TurnAtMarks.{size-stands}

-- A mark that is safe, and in order where the condition holds.
pub record IsMark (W : Type 0) (max : ℕ) (v after : View) (last : Option Mark) (m : Mark) (next : Option Mark) : Type 0 where
  pub finds : FindsSafe v last m
  pub keeps : KeepsSize max after m next
  pub order : W → IsInOrder max v m next

-- a step that makes no mark
pub makes-none : {C W : Type 0} (max : ℕ) (marks : List Mark) (new : Core C) → StandsIn new marks → MakesWhere W max marks [] new
makes-none max marks new s = record { stands = subst (StandsIn new) (sym (append-nil marks)) s; safe = tt; order = λ w. tt }

-- a step that makes one mark
pub makes-one : {C W : Type 0} (max : ℕ) (marks : List Mark) (n : Mark) (new : Core C) → StandsIn new (marks ++ n ∷ [])
    → IsMark W max (view_of marks) (view_of (marks ++ n ∷ [])) (last_mark None marks) n None → MakesWhere W max marks (n ∷ []) new
makes-one max marks n new s f = record { stands = s; safe = (record { finds = f.finds; keeps = f.keeps }, tt); order = λ w. (f.order w, tt) }

-- a mark, and what is made behind it
pub makes-more : {C W : Type 0} (max : ℕ) (marks : List Mark) (n : Mark) (later : List Mark) (new : Core C)
    → IsMark W max (view_of marks) (view_of (marks ++ n ∷ [])) (last_mark None marks) n (first_of_marks later)
    → MakesWhere W max (marks ++ n ∷ []) later new → MakesWhere W max marks (n ∷ later) new
makes-more max marks n later new f rest = record {
  stands = subst (StandsIn new) (append_assoc marks (n ∷ []) later) rest.stands;
  safe = (record { finds = f.finds; keeps = f.keeps }, rest.safe);
  order = λ w. (f.order w, rest.order w);
}

-- a lone pool that makes nothing
pub makes-nothing : {C : Type 0} (max : ℕ) (marks : List Mark) (new : Core C) → StandsFor new marks → Makes max marks [] new
makes-nothing max marks new s = record { stands = subst (StandsFor new) (sym (append-nil marks)) s; fair = record { safe = tt; order = tt } }

-- a step of a lone pool, and another behind it
pub makes-then : {C : Type 0} (max : ℕ) (marks one two : List Mark) (mid new : Core C) → Makes max marks one mid → Makes max (marks ++ one) two new → Makes max marks (one ++ two) new
makes-then max marks one two mid new a b = record {
  stands = subst (StandsFor new) (append_assoc marks one two) b.stands;
  fair = fair-append max marks one two a.fair b.fair;
}

-- ---- what a core says of the view

module _ {C : Type 0} (core : Core C) (marks : List Mark) (s : StandsIn core marks) where
  pub open-stands : core.shut ≡ false → IsTrue (not (list_any is_shut marks))
  open-stands e = ap not (sym s.shut ∙ e)

  pub within-stands : (max : ℕ) → size core ≤ max → size_at (view_of marks) ≤ max
  within-stands max le = let e = size-stands core marks s in omega (arith, e)

  pub owned-is : (c : ℕ) → list_any (holds c) core.held ≡ is_owned c (view_of marks)
  owned-is c = sym (list_any-map loan (is_loan_of c) core.held) ∙ ap (list_any (is_loan_of c)) s.loans

  pub idle-is : (c : ℕ) → list_any (rests c) core.idle ≡ is_idle c (view_of marks)
  idle-is c = sym (list_any-map resting (rests_at c) core.idle) ∙ ap (list_any (rests_at c)) s.idle

  pub first-is : (i : Idle C) (rest : List (Idle C)) → core.idle ≡ i ∷ rest → IsTrue (is_first i.lent.id (idle_of marks))
  first-is i rest e = ap (is_first i.lent.id) (sym s.idle ∙ ap (map resting) e) ∙ same_number i.lent.id

  pub ticket-any : (q : PendingTicket → Bool) (k t : ℕ) (x : Ticket) → ticket_of k t core.tickets ≡ Some x → q (asking x) ≡ true → list_any q (tickets_of marks) ≡ true
  ticket-any q k t x e is =
      ap (list_any q) (sym s.tickets) ∙ list_any-map asking q core.tickets ∙ found_any (is_of k t) (λ (y : Ticket). q (asking y)) core.tickets x e is

-- a connection that was born and isn't gone
pub live-born : (marks : List Mark) (c m : ℕ) → IsBorn marks c m → IsTrue (is_live c (view_of marks))
live-born marks c m born = by (find (is_live_conn c) (live_of marks)) refl born
  where
    by : (o : Option LiveConn) → find (is_live_conn c) (live_of marks) ≡ o → option_map (λ (b : LiveConn). b.moment) o ≡ Some m → list_any (is_live_conn c) (live_of marks) ≡ true
    by None e k = absurd (cc)
    by (Some b) e k = found_any (is_live_conn c) (is_live_conn c) (live_of marks) b e (found_passes (is_live_conn c) (live_of marks) b e)

pub both-true : (a b : Bool) → a ≡ true → b ≡ true → (a && b) ≡ true
both-true a b p q = ap₂ ◌&&◌ p q

module _ {C : Type 0} (core : Core C) (marks : List Mark) (s : StandsIn core marks) where
  lent-finds : (c m : ℕ) → IsBorn marks c m → count_by (rests c) core.idle ≡ 0 → count_by (holds c) core.held ≡ 0
      → IsTrue (is_live c (view_of marks) && not (is_idle c (view_of marks)) && not (is_owned c (view_of marks)))
  lent-finds c m born restless unowned =
      let live = live-born marks c m born in
      let rest : is_idle c (view_of marks) ≡ false = sym (idle-is core marks s c) ∙ none_any (rests c) core.idle restless in
      let own : is_owned c (view_of marks) ≡ false = sym (owned-is core marks s c) ∙ none_any (holds c) core.held unowned in
      rw (live, rest, own) refl

  owned-finds : (k c : ℕ) (h : OwnedConn) → loan_of k c core.held ≡ Some h → IsTrue (is_owned c (view_of marks))
  owned-finds k c h e =
      sym (owned-is core marks s c) ∙ found_any (is_held_by k c) (holds c) core.held h e (and_parts (c == h.conn) (k == h.client) (found_passes (is_held_by k c) core.held h e)).0

-- ---- each mark

module _ {C W : Type 0} (max : ℕ) (core new : Core C) (marks : List Mark) (s : StandsIn core marks) where
  pub fair-asked : (k d : ℕ) (next : Option Mark) → core.shut ≡ false → StandsIn new (marks ++ Asked core.next_ticket k d ∷ []) → size new ≤ max
      → IsMark W max (view_of marks) (view_of (marks ++ Asked core.next_ticket k d ∷ [])) (last_mark None marks) (Asked core.next_ticket k d) next
  fair-asked k d next open_yet after le = record {
    finds = (open-stands core marks s open_yet, let e = s.ticket_number in omega (arith, e));
    keeps = within-stands new (marks ++ Asked core.next_ticket k d ∷ []) after max le;
    order = λ w. tt;
  }

  pub fair-ended : (k t : ℕ) (x : Ticket) (next : Option Mark) → ticket_of k t core.tickets ≡ Some x → StandsIn new (marks ++ Ended t ∷ []) → size new ≤ max
      → IsMark W max (view_of marks) (view_of (marks ++ Ended t ∷ [])) (last_mark None marks) (Ended t) next
  fair-ended k t x next e after le = record {
    finds = ticket-any core marks s (is_ticket t) k t x e (and_parts (t == x.number) (k == x.client) (found_passes (is_of k t) core.tickets x e)).0;
    keeps = within-stands new (marks ++ Ended t ∷ []) after max le;
    order = λ w. tt;
  }

  pub fair-taken : (i : Idle C) (rest : List (Idle C)) (next : Option Mark) → core.shut ≡ false → core.idle ≡ i ∷ rest → StandsIn new (marks ++ Taken i.lent.id ∷ []) → size new ≤ max
      → IsMark W max (view_of marks) (view_of (marks ++ Taken i.lent.id ∷ [])) (last_mark None marks) (Taken i.lent.id) next
  fair-taken i rest next open_yet e after le = record {
    finds = (open-stands core marks s open_yet, first-is core marks s i rest e);
    keeps = within-stands new (marks ++ Taken i.lent.id ∷ []) after max le;
    order = λ w. tt;
  }

  pub fair-opened : (m : ℕ) (next : Option Mark) → core.shut ≡ false → StandsIn new (marks ++ Opened core.next_conn m ∷ []) → size new ≤ max
      → IsMark W max (view_of marks) (view_of (marks ++ Opened core.next_conn m ∷ [])) (last_mark None marks) (Opened core.next_conn m) next
  fair-opened m next open_yet after le = record {
    finds = (open-stands core marks s open_yet, let e = s.conn_number in omega (arith, e));
    keeps = within-stands new (marks ++ Opened core.next_conn m ∷ []) after max le;
    order = λ w. tt;
  }

  -- lent to a ticket that has left, and ends behind
  pub fair-served : (k t c m : ℕ) (x : Ticket) → core.shut ≡ false → ticket_of k t core.tickets ≡ Some x → is_out x.phase ≡ true → IsBorn marks c m → count_by (rests c) core.idle ≡ 0 → count_by (holds c) core.held ≡ 0
      → IsMark W max (view_of marks) (view_of (marks ++ Lent k c ∷ [])) (last_mark None marks) (Lent k c) (Some (Ended t))
  fair-served k t c m x open_yet e out born restless unowned =
      let parts = and_parts (t == x.number) (k == x.client) (found_passes (is_of k t) core.tickets x e) in
      let served : serves (view_of marks) k (Some (Ended t)) ≡ true
      = ticket-any core marks s (is_left_ticket_of k t) k t x e (rw (parts.0, parts.1, out) refl) in
      record {
        finds = (open-stands core marks s open_yet, lent-finds core marks s c m born restless unowned);
        keeps = tt;
        order = λ w. subst (λ b. Unless b (waiting_at (view_of marks) < free_at max (view_of marks))) (sym served) tt;
      }

  -- lent past the line
  pub fair-lent : (k c m : ℕ) → core.shut ≡ false → IsBorn marks c m → count_by (rests c) core.idle ≡ 0 → count_by (holds c) core.held ≡ 0
      → (W → waiting_at (view_of marks) < free_at max (view_of marks)) → StandsIn new (marks ++ Lent k c ∷ []) → size new ≤ max
      → IsMark W max (view_of marks) (view_of (marks ++ Lent k c ∷ [])) (last_mark None marks) (Lent k c) None
  fair-lent k c m open_yet born restless unowned past after le = record {
    finds = (open-stands core marks s open_yet, lent-finds core marks s c m born restless unowned);
    keeps = within-stands new (marks ++ Lent k c ∷ []) after max le;
    order = past;
  }

  pub fair-kept : (k c m : ℕ) (h : OwnedConn) (next : Option Mark) → core.shut ≡ false → loan_of k c core.held ≡ Some h → StandsIn new (marks ++ Kept c m ∷ []) → size new ≤ max
      → IsMark W max (view_of marks) (view_of (marks ++ Kept c m ∷ [])) (last_mark None marks) (Kept c m) next
  fair-kept k c m h next open_yet e after le = record {
    finds = (open-stands core marks s open_yet, inr (owned-finds core marks s k c h e));
    keeps = within-stands new (marks ++ Kept c m ∷ []) after max le;
    order = λ w. tt;
  }

  pub fair-kept_new : (c m : ℕ) (next : Option Mark) → core.shut ≡ false → IsTrue (opens_it c (last_mark None marks)) → StandsIn new (marks ++ Kept c m ∷ []) → size new ≤ max
      → IsMark W max (view_of marks) (view_of (marks ++ Kept c m ∷ [])) (last_mark None marks) (Kept c m) next
  fair-kept_new c m next open_yet e after le = record {
    finds = (open-stands core marks s open_yet, inl e);
    keeps = within-stands new (marks ++ Kept c m ∷ []) after max le;
    order = λ w. tt;
  }

  pub fair-closed : (c m : ℕ) (next : Option Mark) → IsBorn marks c m → StandsIn new (marks ++ Closed c ∷ []) → size new ≤ max
      → IsMark W max (view_of marks) (view_of (marks ++ Closed c ∷ [])) (last_mark None marks) (Closed c) next
  fair-closed c m next born after le = record {
    finds = live-born marks c m born;
    keeps = within-stands new (marks ++ Closed c ∷ []) after max le;
    order = λ w. tt;
  }

  pub fair-detached : (k c : ℕ) (h : OwnedConn) (next : Option Mark) → loan_of k c core.held ≡ Some h → StandsIn new (marks ++ Detached c ∷ []) → size new ≤ max
      → IsMark W max (view_of marks) (view_of (marks ++ Detached c ∷ [])) (last_mark None marks) (Detached c) next
  fair-detached k c h next e after le = record { finds = owned-finds core marks s k c h e; keeps = within-stands new (marks ++ Detached c ∷ []) after max le; order = λ w. tt }

  pub fair-leaked : (k c : ℕ) (h : OwnedConn) (next : Option Mark) → loan_of k c core.held ≡ Some h → StandsIn new (marks ++ Leaked c ∷ []) → size new ≤ max
      → IsMark W max (view_of marks) (view_of (marks ++ Leaked c ∷ [])) (last_mark None marks) (Leaked c) next
  fair-leaked k c h next e after le = record { finds = owned-finds core marks s k c h e; keeps = within-stands new (marks ++ Leaked c ∷ []) after max le; order = λ w. tt }

  pub fair-reaped : (c : ℕ) (next : Option Mark) → core.shut ≡ false → list_any (rests c) core.idle ≡ true → StandsIn new (marks ++ Reaped c ∷ []) → size new ≤ max
      → IsMark W max (view_of marks) (view_of (marks ++ Reaped c ∷ [])) (last_mark None marks) (Reaped c) next
  fair-reaped c next open_yet e after le = record {
    finds = (open-stands core marks s open_yet, sym (idle-is core marks s c) ∙ e);
    keeps = within-stands new (marks ++ Reaped c ∷ []) after max le;
    order = λ w. tt;
  }

  pub fair-shut : (next : Option Mark) → core.shut ≡ false → StandsIn new (marks ++ Shut ∷ []) → size new ≤ max
      → IsMark W max (view_of marks) (view_of (marks ++ Shut ∷ [])) (last_mark None marks) Shut next
  fair-shut next open_yet after le = record { finds = open-stands core marks s open_yet; keeps = within-stands new (marks ++ Shut ∷ []) after max le; order = λ w. tt }
