-- What a step leaves of a lone pool's line, and how the edge follows.
use Rattle.std.proofs.Common.{◌≡◌, ℕ, ◌+◌, ◌-◌, ◌<◌, ◌≤◌, ◌⊎◌, inl, inr, ◌&&◌, Bool, true, false, cond, List, [], ◌∷◌, ◌++◌, length, Option, Some, None, refl, sym, ap, subst, ◌∙◌, arith}
use Rattle.std.specs.Prelude.{nat_lt, All}
use Rattle.std.proofs.lemmas.Bool.Decides.{nat_tests}
use Rattle.std.proofs.lemmas.List.Sums.{count_by-le-length}
use Rattle.std.proofs.lemmas.List.{length-append}
use Rattle.sqlx_pool_places.specs.Line.{TicketLine, ComesLast, is_waiting, is_below_edge, entitled, beyond, first_beyond, pushed, without, passed, advanced}
use Rattle.sqlx_pool_places.specs.Laws.{IsServed}
use Rattle.sqlx_pool_places.proofs.Edge.{left_out, below-joined, below-left_out, length-left_out, not-all-below, numbered_found}
use Rattle.sqlx_pool_lists.specs.Core.{Core, waiting, free}
use Rattle.sqlx_pool_lists.specs.Sound.{IsSound, IsRising}
use Rattle.sqlx_pool_core.specs.KeptLine.{waiting_numbers, IsLined, IsNearlyLined, let_in}
use Rattle.sqlx_pool_lists.proofs.Counting.{rising-filter}
use Rattle.sqlx_pool_lists.specs.Core.{waits}
use Rattle.sqlx_pool_core.proofs.WaitingNumbers.{length-numbers, numbers-below, numbers-sorted}

-- ---- the waiting tickets of a sound pool

pub waiting-rise : {C : Type 0} (core : Core C) → IsSound core → IsRising 1 (waiting_numbers core.tickets) core.next_ticket
waiting-rise core s = rising-filter 1 waits core.tickets core.next_ticket s.rising

-- ---- the edge moves

few-entitled : (line : TicketLine) → entitled line ≤ length line.waiting
few-entitled line = count_by-le-length (λ n. nat_lt n line.edge) line.waiting

advanced-waiting : (line : TicketLine) → (advanced line).waiting ≡ line.waiting
advanced-waiting line = by (first_beyond line)
  where
    by : (first : Option ℕ) → (passed first line).waiting ≡ line.waiting
    by None = refl
    by (Some n) = refl

advanced-moves : (line : TicketLine) → (advanced line).moves ≤ line.moves + 1
advanced-moves line = by (first_beyond line)
  where
    by : (first : Option ℕ) → (passed first line).moves ≤ line.moves + 1
    by None = omega arith
    by (Some n) = omega arith

advanced-edge : (line : TicketLine) (next : ℕ) → All (λ k. k < next) line.waiting → line.edge ≤ next → (advanced line).edge ≤ next
advanced-edge line next all le = by (first_beyond line) refl
  where
    by : (first : Option ℕ) → first_beyond line ≡ first → (passed first line).edge ≤ next
    by None is = le
    by (Some n) is = omega (arith, numbered_found line.edge n next line.waiting all is)

-- ---- a line that is nearly as it should be

pub nearly-moved : {C : Type 0} (core : Core C) (line new : TicketLine) → IsSound core → IsNearlyLined core line → new ≡ advanced line → entitled new ≡ entitled line + 1 → 0 < beyond line → entitled line < free core → IsLined core new
nearly-moved core line new sound near is one some less =
    let same : new.waiting ≡ line.waiting = ap (λ (l : TicketLine). l.waiting) is ∙ advanced-waiting line in
    let long : length new.waiting ≡ length line.waiting = ap length same in
    let moves : new.moves ≤ line.moves + 1 = subst (λ (l : TicketLine). l.moves ≤ line.moves + 1) (sym is) (advanced-moves line) in
    let all : All (λ k. k < core.next_ticket) line.waiting = subst (All (λ k. k < core.next_ticket)) (sym near.numbers) (numbers-below 1 (waiting_numbers core.tickets) core.next_ticket (waiting-rise core sound)) in
    record {
      numbers = same ∙ near.numbers;
      served = omega (arith, long, one, some, less, near.near);
      edge = subst (λ (l : TicketLine). l.edge ≤ core.next_ticket) (sym is) (advanced-edge line core.next_ticket all near.edge);
      few_moves = omega (arith, long, one, some, moves, near.few_moves);
    }

pub nearly-still : {C : Type 0} (core : Core C) (line : TicketLine) → IsNearlyLined core line → (beyond line ≡ 0) ⊎ (free core ≤ entitled line) → IsLined core line
nearly-still core line near still = record {
  numbers = near.numbers;
  served = by still;
  edge = near.edge;
  few_moves = near.few_moves;
}
  where
    by : (beyond line ≡ 0) ⊎ (free core ≤ entitled line) → IsServed (free core) line
    by (inl none) = omega (arith, none, few-entitled line, near.enough)
    by (inr full) = omega (arith, full, few-entitled line, near.enough)

pub nearly-lined : {C : Type 0} (core : Core C) (line : TicketLine) → IsLined core line → IsNearlyLined core line
nearly-lined core line l = record {
  numbers = l.numbers;
  enough = omega (arith, l.served);
  near = omega (arith, l.served);
  edge = l.edge;
  few_moves = l.few_moves;
}

-- ---- what steps leave

-- a step that leaves the waiting tickets, and frees one permit at most
pub nearly-beside : {C : Type 0} (old new : Core C) (line : TicketLine) → IsLined old line → waiting_numbers new.tickets ≡ waiting_numbers old.tickets → free old ≤ free new → free new ≤ free old + 1 → old.next_ticket ≤ new.next_ticket → IsNearlyLined new line
nearly-beside old new line l same more most next = record {
  numbers = l.numbers ∙ sym same;
  enough = omega (arith, l.served, more);
  near = omega (arith, l.served, most);
  edge = omega (arith, l.edge, next);
  few_moves = omega (arith, l.few_moves, next);
}

-- one for a ticket that waits in the line
abbrev pub one_if_waiting : ℕ → TicketLine → ℕ
one_if_waiting t line = cond (is_waiting t line) 1 0

-- What the line counts without a ticket: it was entitled, or others are left over too.
pub record Fewer (t : ℕ) (line : TicketLine) : Type 0 where
  pub left : ℕ
  pub one : ℕ
  pub is_one : one ≡ one_if_waiting t line
  pub small : one ≤ 1
  pub waiting : length (without t line).waiting + one ≡ length line.waiting
  pub entitled_too : entitled (without t line) + left ≡ entitled line
  pub either : (left ≡ one) ⊎ ((left ≡ 0) × (one ≡ 1) × (entitled line < length line.waiting))
  pub all : (is_waiting t line ≡ true → is_below_edge t line ≡ true) → left ≡ one

pub fewer : (t low high : ℕ) (line : TicketLine) → IsRising low line.waiting high → Fewer t line
fewer t low high line rising = record {
  left = cond (is_waiting t line && is_below_edge t line) 1 0;
  one = one_if_waiting t line;
  is_one = refl;
  small = small (is_waiting t line);
  waiting = length-left_out t line.waiting (numbers-sorted low line.waiting high rising);
  entitled_too = below-left_out t line.edge line.waiting (numbers-sorted low line.waiting high rising);
  either = either (is_waiting t line) refl (is_below_edge t line) refl;
  all = all (is_waiting t line) (is_below_edge t line);
}
  where
    small : (w : Bool) → cond {A = ℕ} w 1 0 ≤ 1
    small true = omega arith
    small false = omega arith

    either : (w : Bool) → is_waiting t line ≡ w → (b : Bool) → is_below_edge t line ≡ b → (cond {A = ℕ} (w && b) 1 0 ≡ cond w 1 0) ⊎ ((cond {A = ℕ} (w && b) 1 0 ≡ 0) × (cond {A = ℕ} w 1 0 ≡ 1) × (entitled line < length line.waiting))
    either true is true at = inl refl
    either true is false at = let e : line.edge ≤ t = grind (arith, nat_tests) in inr (refl, refl, not-all-below t line.edge line.waiting is e)
    either false is b at = inl refl

    all : (w b : Bool) → (w ≡ true → b ≡ true) → cond {A = ℕ} (w && b) 1 0 ≡ cond w 1 0
    all true true h = refl
    all true false h = let e : false ≡ true = h refl in cc
    all false b h = refl

pub line-rises : {C : Type 0} (core : Core C) (line : TicketLine) → IsSound core → IsLined core line → IsRising 1 line.waiting core.next_ticket
line-rises core line s l = subst (λ (ks : List ℕ). IsRising 1 ks core.next_ticket) (sym l.numbers) (waiting-rise core s)

-- a ticket ended, and with it a permit is free where it had left the line
pub nearly-ended : {C : Type 0} (old new : Core C) (t : ℕ) (line : TicketLine) → IsSound old → IsLined old line → waiting_numbers new.tickets ≡ left_out t (waiting_numbers old.tickets) → free new + one_if_waiting t line ≡ free old + 1 → old.next_ticket ≤ new.next_ticket
    → IsNearlyLined new (without t line)
nearly-ended old new t line s l same frees next = by f.either
  where
    f : Fewer t line
    f = fewer t 1 old.next_ticket line (line-rises old line s l)

    by : (f.left ≡ f.one) ⊎ ((f.left ≡ 0) × (f.one ≡ 1) × (entitled line < length line.waiting)) → IsNearlyLined new (without t line)
    by (inl too) = record {
      numbers = ap (left_out t) l.numbers ∙ sym same;
      enough = omega (arith, frees, f.is_one, f.small, f.entitled_too, l.served, too);
      near = omega (arith, frees, f.is_one, f.small, f.waiting, f.entitled_too, l.served, too);
      edge = omega (arith, l.edge, next);
      few_moves = omega (arith, l.few_moves, next, f.waiting, f.entitled_too, too);
    }
    by (inr other) = record {
      numbers = ap (left_out t) l.numbers ∙ sym same;
      enough = omega (arith, frees, f.is_one, f.entitled_too, l.served, other.0, other.1, other.2);
      near = omega (arith, frees, f.is_one, f.waiting, f.entitled_too, l.served, other.0, other.1, other.2);
      edge = omega (arith, l.edge, next);
      few_moves = omega (arith, l.few_moves, next, f.waiting, f.entitled_too, other.0, other.1);
    }

-- a ticket left the line with a permit, where it waited
pub lined-left : {C : Type 0} (old new : Core C) (t : ℕ) (line : TicketLine) → IsSound old → IsLined old line → waiting_numbers new.tickets ≡ left_out t (waiting_numbers old.tickets) → free new + one_if_waiting t line ≡ free old
    → (is_waiting t line ≡ true → is_below_edge t line ≡ true) → old.next_ticket ≤ new.next_ticket → IsLined new (without t line)
lined-left old new t line s l same takes entitled next =
    let f : Fewer t line = fewer t 1 old.next_ticket line (line-rises old line s l) in
    let too : f.left ≡ f.one = f.all entitled in
    record {
      numbers = ap (left_out t) l.numbers ∙ sym same;
      served = omega (arith, takes, f.is_one, f.waiting, f.entitled_too, l.served, too);
      edge = omega (arith, l.edge, next);
      few_moves = omega (arith, l.few_moves, next, f.waiting, f.entitled_too, too);
    }

-- a ticket was asked, and stands behind all others
pub nearly-asked : {C : Type 0} (old new : Core C) (line : TicketLine) → IsLined old line → waiting_numbers new.tickets ≡ waiting_numbers old.tickets ++ old.next_ticket ∷ [] → free new ≡ free old → new.next_ticket ≡ old.next_ticket + 1 → IsNearlyLined new (pushed old.next_ticket line)
nearly-asked old new line l more same next =
    let e : entitled (pushed old.next_ticket line) ≡ entitled line = below-joined old.next_ticket line.edge line.waiting l.edge in
    let n : length (pushed old.next_ticket line).waiting ≡ length line.waiting + 1 = length-append line.waiting (old.next_ticket ∷ []) in
    record {
      numbers = ap (λ ks. ks ++ old.next_ticket ∷ []) l.numbers ∙ sym more;
      enough = omega (arith, e, same, l.served);
      near = omega (arith, e, n, same, l.served);
      edge = omega (arith, l.edge, next);
      few_moves = omega (arith, e, n, l.few_moves, next);
    }

-- the next number stands behind all others
pub comes-last : {C : Type 0} (core : Core C) (line : TicketLine) → IsSound core → IsLined core line → ComesLast core.next_ticket line
comes-last core line s l = record { behind = numbers-below 1 line.waiting core.next_ticket (line-rises core line s l); beyond = l.edge }

-- ---- steps that leave the line

pub lined-beside : {C : Type 0} (old new : Core C) (line : TicketLine) → IsLined old line → waiting_numbers new.tickets ≡ waiting_numbers old.tickets → free new ≡ free old → old.next_ticket ≤ new.next_ticket → IsLined new line
lined-beside old new line l same frees next = record {
  numbers = l.numbers ∙ sym same;
  served = omega (arith, l.served, frees);
  edge = omega (arith, l.edge, next);
  few_moves = omega (arith, l.few_moves, next);
}

-- a permit was taken past the line, where fewer tickets wait than permits are free
pub lined-past : {C : Type 0} (old new : Core C) (line : TicketLine) → IsLined old line → waiting old.tickets < free old → waiting_numbers new.tickets ≡ waiting_numbers old.tickets → free new + 1 ≡ free old → old.next_ticket ≤ new.next_ticket → IsLined new line
lined-past old new line l few same takes next =
    let n : length line.waiting ≡ waiting old.tickets = ap length l.numbers ∙ length-numbers old.tickets in
    record {
      numbers = l.numbers ∙ sym same;
      served = omega (arith, l.served, takes, n, few);
      edge = omega (arith, l.edge, next);
      few_moves = omega (arith, l.few_moves, next);
    }

-- permits are freed, where as many are free as tickets wait
pub lined-all : {C : Type 0} (old new : Core C) (line : TicketLine) → IsLined old line → waiting old.tickets ≤ free old → waiting_numbers new.tickets ≡ waiting_numbers old.tickets → free old ≤ free new → old.next_ticket ≤ new.next_ticket → IsLined new line
lined-all old new line l all same more next =
    let n : length line.waiting ≡ waiting old.tickets = ap length l.numbers ∙ length-numbers old.tickets in
    record {
      numbers = l.numbers ∙ sym same;
      served = omega (arith, l.served, more, n, all);
      edge = omega (arith, l.edge, next);
      few_moves = omega (arith, l.few_moves, next);
    }

-- ---- how many are let in

pub beyond-counts : {C : Type 0} (core : Core C) (line : TicketLine) → IsLined core line → beyond line ≡ waiting core.tickets - free core
beyond-counts core line l = let n : length line.waiting ≡ waiting core.tickets = ap length l.numbers ∙ length-numbers core.tickets in omega (arith, l.served, n)

-- the edge moved at most once for each ticket that was let in
pub moves-few : {C : Type 0} (core now : Core C) (line : TicketLine) (moves : ℕ) → core ≡ now → IsLined core line → moves ≡ line.moves → moves < now.next_ticket
moves-few {C} core now line moves view l is = subst (λ (c : Core C). moves < c.next_ticket) view (omega (arith, is, l.few_moves))

pub moves-let_in : {C : Type 0} (core now : Core C) (line : TicketLine) (moves : ℕ) → core ≡ now → IsLined core line → moves ≡ line.moves → moves ≤ let_in now
moves-let_in {C} core now line moves view l is = subst (λ (c : Core C). moves ≤ let_in c) view (omega (arith, is, beyond-counts core line l, l.few_moves))
