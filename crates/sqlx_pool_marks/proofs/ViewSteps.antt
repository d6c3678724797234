-- The view behind one more mark, by what each mark changes of it.
use Rattle.std.proofs.Common.{◌≡◌, ℕ, ◌+◌, Bool, true, false, not, ◌==◌, List, [], ◌∷◌, ◌++◌, map, filter, Option, Some, None, refl, sym, ap, ◌∙◌, subst, append-nil, map-id, arith}
use Rattle.sqlx_pool_marks.specs.declared.mark.Mark.{Mark}
use Rattle.sqlx_pool_marks.specs.declared.mark.Mark.TheVariants.{Asked, Left, Taken, Reaped, Opened, Lent, Kept, Closed, Detached, Leaked, Ended, Shut}
use Rattle.sqlx_pool_marks.specs.Standing.{last_mark}
use Rattle.sqlx_pool_marks.specs.Marks.{PendingTicket, Loan, IdleEntry, LiveConn}
use Rattle.sqlx_pool_marks.specs.View.{View, view_of, leaving, view_after}
use Rattle.sqlx_pool_marks.specs.FairLog.{FindsSafe, KeepsSize, IsInOrder, IsSafeMark, first_of_marks, IsFair}
use Rattle.sqlx_pool_marks.proofs.ListFacts.{or-false, or-true}
use Rattle.sqlx_pool_marks.proofs.Same.{kept, same, kept_tickets, same_tickets}
use Rattle.sqlx_pool_marks.proofs.Pushed.{view_of-push, last_mark-push}

-- ---- what each mark changes

-- the loans of other connections
abbrev pub other_loans : ℕ → List Loan → List Loan
other_loans c loans = filter (λ (l : Loan). not (l.conn == c)) loans

-- the other idle connections
abbrev pub other_idle : ℕ → List IdleEntry → List IdleEntry
other_idle c idle = filter (λ (r : IdleEntry). not (r.conn == c)) idle

-- the other connections that aren't gone
abbrev pub other_live : ℕ → List LiveConn → List LiveConn
other_live c live = filter (λ (b : LiveConn). not (b.conn == c)) live

-- the other tickets
abbrev pub other_tickets : ℕ → List PendingTicket → List PendingTicket
other_tickets t tickets = filter (λ (a : PendingTicket). not (a.ticket == t)) tickets

-- the view behind one more mark, part by part
abbrev pub stepped : View → Mark → View
stepped v (Asked t k d) = record v { tickets = v.tickets ++ (record { ticket = t; client = k; deadline = d; left = false }) ∷ []; next_ticket = t + 1 }
stepped v (Left t) = record v { tickets = map (leaving (Left t)) v.tickets }
stepped v (Taken c) = record v { idle = other_idle c v.idle }
stepped v (Reaped c) = record v { idle = other_idle c v.idle; live = other_live c v.live }
stepped v (Opened c m) = record v { live = v.live ++ (record { conn = c; moment = m }) ∷ []; next_conn = c + 1 }
stepped v (Lent k c) = record v { loans = other_loans c v.loans ++ (record { client = k; conn = c }) ∷ [] }
stepped v (Kept c m) = record v { loans = other_loans c v.loans; idle = other_idle c v.idle ++ (record { conn = c; since = m }) ∷ [] }
stepped v (Closed c) = record v { loans = other_loans c v.loans; idle = other_idle c v.idle; live = other_live c v.live }
stepped v (Detached c) = record v { loans = other_loans c v.loans; live = other_live c v.live }
stepped v (Leaked c) = record v { loans = other_loans c v.loans; live = other_live c v.live; leaked = v.leaked + 1 }
stepped v (Ended t) = record v { tickets = other_tickets t v.tickets }
stepped v Shut = record v { shut = true }

-- ---- the same as the marks tell it

same_leak : (n : ℕ) → n + 0 ≡ n
same_leak n = omega arith

-- those that are left, of which nothing is begun
left_over : {X : Type 0} (p : X → Bool) (xs : List X) → filter p xs ++ [] ≡ filter p xs
left_over p xs = append-nil (filter p xs)

left_tickets : (p : PendingTicket → Bool) (xs : List PendingTicket) → map (λ (a : PendingTicket). a) (filter p xs) ++ [] ≡ filter p xs
left_tickets p xs = append-nil (map (λ (a : PendingTicket). a) (filter p xs)) ∙ map-id (filter p xs)

pub view_after-stepped : (v : View) (m : Mark) → view_after v m ≡ stepped v m
view_after-stepped v (Asked t k d) = λ i. record {
  tickets = sym (kept_tickets v.tickets) i ++ (record { ticket = t; client = k; deadline = d; left = false }) ∷ [];
  loans = sym (same v.loans) i;
  idle = sym (same v.idle) i;
  live = sym (same v.live) i;
  leaked = same_leak v.leaked i;
  shut = or-false v.shut i;
  next_ticket = t + 1;
  next_conn = v.next_conn;
}
view_after-stepped v (Left t) = λ i. record {
  tickets = (append-nil (map (leaving (Left t)) (filter (λ (a : PendingTicket). true) v.tickets)) ∙ ap (map (leaving (Left t))) (sym (kept v.tickets))) i;
  loans = sym (same v.loans) i;
  idle = sym (same v.idle) i;
  live = sym (same v.live) i;
  leaked = same_leak v.leaked i;
  shut = or-false v.shut i;
  next_ticket = v.next_ticket;
  next_conn = v.next_conn;
}
view_after-stepped v (Taken c) = λ i. record {
  tickets = sym (same_tickets v.tickets) i;
  loans = sym (same v.loans) i;
  idle = left_over (λ (r : IdleEntry). not (r.conn == c)) v.idle i;
  live = sym (same v.live) i;
  leaked = same_leak v.leaked i;
  shut = or-false v.shut i;
  next_ticket = v.next_ticket;
  next_conn = v.next_conn;
}
view_after-stepped v (Reaped c) = λ i. record {
  tickets = sym (same_tickets v.tickets) i;
  loans = sym (same v.loans) i;
  idle = left_over (λ (r : IdleEntry). not (r.conn == c)) v.idle i;
  live = left_over (λ (b : LiveConn). not (b.conn == c)) v.live i;
  leaked = same_leak v.leaked i;
  shut = or-false v.shut i;
  next_ticket = v.next_ticket;
  next_conn = v.next_conn;
}
view_after-stepped v (Opened c m) = λ i. record {
  tickets = sym (same_tickets v.tickets) i;
  loans = sym (same v.loans) i;
  idle = sym (same v.idle) i;
  live = sym (kept v.live) i ++ (record { conn = c; moment = m }) ∷ [];
  leaked = same_leak v.leaked i;
  shut = or-false v.shut i;
  next_ticket = v.next_ticket;
  next_conn = c + 1;
}
view_after-stepped v (Lent k c) = λ i. record {
  tickets = sym (same_tickets v.tickets) i;
  loans = other_loans c v.loans ++ (record { client = k; conn = c }) ∷ [];
  idle = sym (same v.idle) i;
  live = sym (same v.live) i;
  leaked = same_leak v.leaked i;
  shut = or-false v.shut i;
  next_ticket = v.next_ticket;
  next_conn = v.next_conn;
}
view_after-stepped v (Kept c m) = λ i. record {
  tickets = sym (same_tickets v.tickets) i;
  loans = left_over (λ (l : Loan). not (l.conn == c)) v.loans i;
  idle = other_idle c v.idle ++ (record { conn = c; since = m }) ∷ [];
  live = sym (same v.live) i;
  leaked = same_leak v.leaked i;
  shut = or-false v.shut i;
  next_ticket = v.next_ticket;
  next_conn = v.next_conn;
}
view_after-stepped v (Closed c) = λ i. record {
  tickets = sym (same_tickets v.tickets) i;
  loans = left_over (λ (l : Loan). not (l.conn == c)) v.loans i;
  idle = left_over (λ (r : IdleEntry). not (r.conn == c)) v.idle i;
  live = left_over (λ (b : LiveConn). not (b.conn == c)) v.live i;
  leaked = same_leak v.leaked i;
  shut = or-false v.shut i;
  next_ticket = v.next_ticket;
  next_conn = v.next_conn;
}
view_after-stepped v (Detached c) = λ i. record {
  tickets = sym (same_tickets v.tickets) i;
  loans = left_over (λ (l : Loan). not (l.conn == c)) v.loans i;
  idle = sym (same v.idle) i;
  live = left_over (λ (b : LiveConn). not (b.conn == c)) v.live i;
  leaked = same_leak v.leaked i;
  shut = or-false v.shut i;
  next_ticket = v.next_ticket;
  next_conn = v.next_conn;
}
view_after-stepped v (Leaked c) = λ i. record {
  tickets = sym (same_tickets v.tickets) i;
  loans = left_over (λ (l : Loan). not (l.conn == c)) v.loans i;
  idle = sym (same v.idle) i;
  live = left_over (λ (b : LiveConn). not (b.conn == c)) v.live i;
  leaked = v.leaked + 1;
  shut = or-false v.shut i;
  next_ticket = v.next_ticket;
  next_conn = v.next_conn;
}
view_after-stepped v (Ended t) = λ i. record {
  tickets = left_tickets (λ (a : PendingTicket). not (a.ticket == t)) v.tickets i;
  loans = sym (same v.loans) i;
  idle = sym (same v.idle) i;
  live = sym (same v.live) i;
  leaked = same_leak v.leaked i;
  shut = or-false v.shut i;
  next_ticket = v.next_ticket;
  next_conn = v.next_conn;
}
view_after-stepped v Shut = λ i. record {
  tickets = sym (same_tickets v.tickets) i;
  loans = sym (same v.loans) i;
  idle = sym (same v.idle) i;
  live = sym (same v.live) i;
  leaked = same_leak v.leaked i;
  shut = or-true v.shut i;
  next_ticket = v.next_ticket;
  next_conn = v.next_conn;
}

pub view_of-stepped : (marks : List Mark) (m : Mark) → view_of (marks ++ m ∷ []) ≡ stepped (view_of marks) m
view_of-stepped marks m = view_of-push marks m ∙ view_after-stepped (view_of marks) m

-- ---- fair logs, told by views alone

-- A mark that is safe and in order.
pub record IsFairMark (max : ℕ) (v after : View) (last : Option Mark) (m : Mark) (next : Option Mark) : Type 0 where
  pub finds : FindsSafe v last m
  pub keeps : KeepsSize max after m next
  pub order : IsInOrder max v m next

-- these marks may follow marks of this view and last mark
abbrev pub IsFairBehind : ℕ → View → Option Mark → List Mark → Type 0
IsFairBehind max v last [] = Unit {0}
IsFairBehind max v last (m ∷ later) = IsFairMark max v (stepped v m) last m (first_of_marks later) × IsFairBehind max (stepped v m) (Some m) later

pub fair_mark-behind : (max : ℕ) (v : View) (last : Option Mark) (marks : List Mark) (m : Mark) (later : List Mark) → v ≡ view_of marks → last ≡ last_mark None marks → IsFairBehind max v last (m ∷ later)
    → IsFairBehind max (view_of (marks ++ m ∷ [])) (last_mark None (marks ++ m ∷ [])) later
fair_mark-behind max v last marks m later e l f =
    subst (λ (o : Option Mark). IsFairBehind max (view_of (marks ++ m ∷ [])) o later) (sym (last_mark-push marks m))
    (subst (λ (w : View). IsFairBehind max w (Some m) later) (ap (λ (u : View). stepped u m) e ∙ sym (view_of-stepped marks m)) f.1)

pub fair_behind : (max : ℕ) (marks later : List Mark) → IsFairBehind max (view_of marks) (last_mark None marks) later → IsFair max marks later
fair_behind max marks [] f = record { safe = tt; order = tt }
fair_behind max marks (m ∷ later) f =
    let rest = fair_behind max (marks ++ m ∷ []) later (fair_mark-behind max (view_of marks) (last_mark None marks) marks m later refl refl f) in
    record {
      safe = (subst (λ (v : View). IsSafeMark max (view_of marks) v (last_mark None marks) m (first_of_marks later)) (sym (view_of-stepped marks m)) (record { finds = f.0.finds; keeps = f.0.keeps }), rest.safe);
      order = (f.0.order, rest.order);
    }

-- the other way round
pub behind_fair : (max : ℕ) (marks later : List Mark) → IsFair max marks later → IsFairBehind max (view_of marks) (last_mark None marks) later
behind_fair max marks [] f = tt
behind_fair max marks (m ∷ later) f = (
  record {
    finds = f.safe.0.finds;
    keeps = subst (λ (v : View). KeepsSize max v m (first_of_marks later)) (view_of-stepped marks m) f.safe.0.keeps;
    order = f.order.0;
  },
  subst (λ (l : Option Mark). IsFairBehind max (stepped (view_of marks) m) l later) (last_mark-push marks m)
      (subst (λ (v : View). IsFairBehind max v (last_mark None (marks ++ m ∷ [])) later) (view_of-stepped marks m)
      (behind_fair max (marks ++ m ∷ []) later (record { safe = f.safe.1; order = f.order.1 }))),
)
