-- How often a step looks at the line of a lone pool.
use Rattle.std.proofs.Common.{◌≡◌, ℕ, ◌+◌, ◌<◌, ◌≤◌, ◌==◌, ◌⊎◌, inl, inr, ◌&&◌, ◌||◌, Bool, true, false, not, cond, List, [], ◌∷◌, length, map, Option, Some, None, option_map, refl, sym, ap, subst, ◌∙◌, arith, length-append}
use Rattle.std.specs.Prelude.{nat_lt, filter, find}
use Rattle.std.proofs.lemmas.Bool.Decides.{nat_tests}
use Rattle.sqlx_pool_places.specs.Line.{TicketLine, is_below_edge, entitled, beyond, first_beyond, pushed, without, passed, advanced}
use Rattle.sqlx_pool_places.proofs.Edge.{has, below-joined, some_found, not_below}
use Rattle.sqlx_pool_lists.specs.declared.ticket.Ticket.{Ticket}
use Rattle.sqlx_pool_lists.specs.declared.ticket.Phase.{Phase}
use Rattle.sqlx_pool_lists.specs.declared.ticket.Phase.TheVariants as phase
use Rattle.sqlx_pool_lists.specs.Core.{Core, is_out, waits, ticket_of}
use Rattle.sqlx_pool_lists.specs.CoreTurn.{is_first_in_line}
use Rattle.sqlx_pool_lists.specs.Edits.{at_moment, asked}
use Rattle.sqlx_pool_lists.specs.PollSteps.{phase_for, is_in_line}
use Rattle.sqlx_pool_lists.specs.Sound.{IsSound, IsRising, number_of}
use Rattle.sqlx_pool_core.specs.KeptLine.{waiting_numbers, IsLined, Looks, Entitles, EntitlesBeyond, taken_out}
use Rattle.sqlx_pool_core.specs.LonePool.{LonePool, lone_of, is_entitled, MovesOnce}
use Rattle.sqlx_pool_core.proofs.KeptLine.{Fewer, fewer, line-rises, beyond-counts}
use Rattle.sqlx_pool_core.proofs.LineSteps.{edge-first}
use Rattle.sqlx_pool_core.proofs.LonePools.{keeps-entitled, keeps-same, view-tells}

-- ---- who is found beyond the edge

found_has : (e n : ℕ) (ks : List ℕ) → find (λ k. not (nat_lt k e)) ks ≡ Some n → has n ks ≡ true
found_has e n [] is = cc
found_has e n (k ∷ ks) is = by (found_has e n ks) (nat_lt k e) is (k == n) refl
  where
    by : (find (λ k. not (nat_lt k e)) ks ≡ Some n → has n ks ≡ true) → (b : Bool) → cond (not b) (Some k) (find (λ k. not (nat_lt k e)) ks) ≡ Some n → (same : Bool) → (k == n) ≡ same → (same || has n ks) ≡ true
    by rest b is true same = refl
    by rest true is false other = rest is
    by rest false is false other = let here : k ≡ n = cc in absurd (let no : (k == n) ≡ true = grind (arith, nat_tests, here) in let f : true ≡ false = sym no ∙ other in cc)

-- none of the tickets that rise from above a number has it
has_none : (n low : ℕ) (xs : List Ticket) (high : ℕ) → IsRising low (map number_of xs) high → n < low → has n (waiting_numbers xs) ≡ false
has_none n low [] high r l = refl
has_none n low (x ∷ xs) high r l = by (has_none n (x.number + 1) xs high r.1 (omega (arith, r.0, l))) (waits x)
  where
    by : has n (waiting_numbers xs) ≡ false → (w : Bool) → has n (map number_of (cond w (x ∷ filter waits xs) (filter waits xs))) ≡ false
    by rest true = let e : (x.number == n) ≡ false = grind (arith, nat_tests, r.0, l) in rw e rest
    by rest false = rest

-- A ticket of this number waits, and its client finds it.
record Waiter (n : ℕ) (tickets : List Ticket) : Type 0 where
  pub ticket : Ticket
  pub found : ticket_of ticket.client n tickets ≡ Some ticket
  pub waits_too : waits ticket ≡ true

waiter : (n low : ℕ) (xs : List Ticket) (high : ℕ) → IsRising low (map number_of xs) high → has n (waiting_numbers xs) ≡ true → Waiter n xs
waiter n low [] high r is = absurd cc
waiter n low (x ∷ xs) high r is = by (waiter n (x.number + 1) xs high r.1) (n == x.number) refl (waits x) refl is
  where
    behind : (n == x.number) ≡ false → Waiter n xs → Waiter n (x ∷ xs)
    behind other w = record { ticket = w.ticket; found = rw other w.found; waits_too = w.waits_too }

    by : (has n (waiting_numbers xs) ≡ true → Waiter n xs) → (b : Bool) → (n == x.number) ≡ b → (w : Bool) → waits x ≡ w → has n (map number_of (cond w (x ∷ filter waits xs) (filter waits xs))) ≡ true → Waiter n (x ∷ xs)
    by rest true same true w is = let k : (x.client == x.client) ≡ true = grind (arith, nat_tests) in record { ticket = x; found = rw (same, k) refl; waits_too = w }
    by rest true same false w is = let l : n < x.number + 1 = grind (arith, nat_tests) in absurd (let no : true ≡ false = sym is ∙ has_none n (x.number + 1) xs high r.1 l in cc)
    by rest false other true w is = let e : (x.number == n) ≡ false = grind (arith, nat_tests) in behind other (rest (rw e at is))
    by rest false other false w is = behind other (rest is)

in_line : (p : Phase) → not (is_out p) ≡ true → is_in_line (Some p) ≡ true
in_line phase.Waiting e = refl
in_line (phase.Backoff until) e = absurd cc
in_line (phase.Testing c created before) e = absurd cc
in_line phase.Connecting e = absurd cc

-- a waiting ticket below the edge is entitled
waiter_entitled : {C : Type 0} (core : Core C) (line : TicketLine) (n : ℕ) (w : Waiter n core.tickets) → IsSound core → IsLined core line → is_below_edge n line ≡ true → is_entitled w.ticket.client n core ≡ true
waiter_entitled core line n w s l at =
    let phase_is : phase_for w.ticket.client n core.tickets ≡ Some w.ticket.phase = ap (option_map (λ (x : Ticket). x.phase)) w.found in
    let stands : is_in_line (phase_for w.ticket.client n core.tickets) ≡ true = ap is_in_line phase_is ∙ in_line w.ticket.phase w.waits_too in
    let first : is_first_in_line n core ≡ true = sym (edge-first core line w.ticket.client n w.ticket s l w.found w.waits_too) ∙ at in
    rw (stands, first) refl

-- the ticket that the edge passes is entitled
pub entitles-passed : {C : Type 0} (core : Core C) (line new : TicketLine) → IsSound core → IsLined core new → new ≡ advanced line → 0 < beyond line → EntitlesBeyond core line
entitles-passed {C} core line new s l is some = by (first_beyond line) refl is
  where
    by : (first : Option ℕ) → first_beyond line ≡ first → new ≡ passed first line → EntitlesBeyond core line
    by None none is = absurd (some_found line.edge line.waiting (omega (arith, some)) none)
    by (Some n) found is =
        let same : new.waiting ≡ line.waiting = ap (λ (x : TicketLine). x.waiting) is in
        let edge : new.edge ≡ n + 1 = ap (λ (x : TicketLine). x.edge) is in
        let there : has n (waiting_numbers core.tickets) ≡ true = ap (has n) (sym l.numbers ∙ same) ∙ found_has line.edge n line.waiting found in
        let w : Waiter n core.tickets = waiter n 1 core.tickets core.next_ticket s.rising there in
        let up : line.edge ≤ n = not_below line.edge n line.waiting found in
        record {
          client = w.ticket.client;
          ticket = n;
          is = waiter_entitled core new n w s l (grind (arith, nat_tests, edge));
          beyond = grind (arith, nat_tests, up);
        }

-- who isn't below the edge isn't entitled
not_entitled : {C : Type 0} (core : Core C) (line : TicketLine) (k t : ℕ) → IsSound core → IsLined core line → is_below_edge t line ≡ false → is_entitled k t core ≡ false
not_entitled core line k t s l at = by (ticket_of k t core.tickets) refl
  where
    by_phase : (x : Ticket) → ticket_of k t core.tickets ≡ Some x → (p : Phase) → x.phase ≡ p → (is_in_line (Some p) && is_first_in_line t core) ≡ false
    by_phase x e phase.Waiting is = sym (edge-first core line k t x s l e (ap (λ (p : Phase). not (is_out p)) is)) ∙ at
    by_phase x e (phase.Backoff until) is = refl
    by_phase x e (phase.Testing c created before) is = refl
    by_phase x e phase.Connecting is = refl

    by : (o : Option Ticket) → ticket_of k t core.tickets ≡ o → (is_in_line (option_map (λ (x : Ticket). x.phase) o) && is_first_in_line t core) ≡ false
    by None e = refl
    by (Some x) e = by_phase x e x.phase refl

-- ---- how often a step looks

-- What a step did to the line, where it was left so that one ticket may be entitled that isn't yet, and how often it looked.
pub record Serving {C : Type 0} (core new : Core C) (line mid next : TicketLine) (first after : ℕ) : Type 0 where
  pub cost : after + beyond next ≡ first + beyond mid
  pub once : after ≤ first + 1
  pub turns : (after ≤ first) ⊎ EntitlesBeyond new mid
  pub moves : after + mid.moves ≡ first + next.moves
  pub edge : MovesOnce mid next
  pub lined : IsLined new next
  pub sound : IsSound new

same_once : (line mid next : TicketLine) → mid.edge ≡ line.edge → mid.moves ≡ line.moves → MovesOnce mid next → MovesOnce line next
same_once line mid next edge moves (inl still) = inl (still.0 ∙ edge, still.1 ∙ moves)
same_once line mid next edge moves (inr on) = inr (subst (λ (n : ℕ). n < next.edge) edge on.0, on.1 ∙ ap (λ (n : ℕ). n + 1) moves)

moves_more : (line next : TicketLine) → MovesOnce line next → line.moves ≤ next.moves
moves_more line next (inl still) = omega (arith, still.1)
moves_more line next (inr on) = omega (arith, on.1)

pub looks : {C : Type 0} (old new : Core C) (line mid next : TicketLine) (before first after : ℕ) → IsSound old → IsLined old line → first ≤ before + 1 → beyond mid + old.next_ticket ≤ beyond line + new.next_ticket
    → mid.edge ≡ line.edge → mid.moves ≡ line.moves → Serving old new line mid next first after → Looks (lone_of old line) (lone_of new next) before after
looks old new line mid next before first after s l once fewer edge same v =
    let on : MovesOnce line next = same_once line mid next edge same v.edge in
    let more : line.moves ≤ next.moves = moves_more line next on in
    record {
      moves = omega (arith, once, v.moves, same, more);
      few = omega (arith, once, v.once);
      let_in = omega (arith, beyond-counts old line l, beyond-counts new next v.lined, l.few_moves, v.lined.few_moves, once, fewer, v.cost);
      turns = by v.turns;
      keeps = keeps-entitled old new line next s l v.sound v.lined on;
    }
  where
    by : (after ≤ first) ⊎ EntitlesBeyond new mid → (after ≤ before + 1) ⊎ Entitles old new
    by (inl still) = inl (omega (arith, still, once))
    by (inr one) = inr (record {
      client = one.client;
      ticket = one.ticket;
      is = one.is;
      was = not_entitled old line one.client one.ticket s l (ap (nat_lt one.ticket) (sym edge) ∙ one.beyond);
    })

-- a step that looks only where the edge moves
pub looks-beside : {C : Type 0} (core : Core C) (now : LonePool C) (new : Core C) (line next : TicketLine) (before after : ℕ) → lone_of core line ≡ now → IsSound core → IsLined core line → core.next_ticket ≤ new.next_ticket
    → Serving core new line line next before after → Looks now (lone_of new next) before after
looks-beside {C} core now new line next before after view s l more v =
    subst (λ (c : LonePool C). Looks c (lone_of new next) before after) view (looks core new line line next before before after s l (omega arith) (omega (arith, more)) refl refl v)

fewer-beyond : {C : Type 0} (core : Core C) (line : TicketLine) (t : ℕ) (b : Bool) → IsSound core → IsLined core line → beyond (taken_out b t line) ≤ beyond line
fewer-beyond core line t false s l = omega arith
fewer-beyond core line t true s l = by f.either
  where
    f : Fewer t line
    f = fewer t 1 core.next_ticket line (line-rises core line s l)

    by : (f.left ≡ f.one) ⊎ ((f.left ≡ 0) × (f.one ≡ 1) × (entitled line < length line.waiting)) → beyond (without t line) ≤ beyond line
    by (inl too) = omega (arith, too, f.waiting, f.entitled_too)
    by (inr other) = omega (arith, other.0, other.1, f.waiting, f.entitled_too)

pub same-edge : (t : ℕ) (b : Bool) (line : TicketLine) → (taken_out b t line).edge ≡ line.edge
same-edge t true line = refl
same-edge t false line = refl

pub same-moves : (t : ℕ) (b : Bool) (line : TicketLine) → (taken_out b t line).moves ≡ line.moves
same-moves t true line = refl
same-moves t false line = refl

-- a step that takes a ticket out
pub looks-without : {C : Type 0} (core : Core C) (now : LonePool C) (new : Core C) (line mid next : TicketLine) (t : ℕ) (b : Bool) (before first after : ℕ) → lone_of core line ≡ now → IsSound core → IsLined core line → mid ≡ taken_out b t line
    → core.next_ticket ≤ new.next_ticket → first ≤ before + 1 → Serving core new line mid next first after → Looks now (lone_of new next) before after
looks-without {C} core now new line mid next t b before first after view s l is more once v =
    let less : beyond mid ≤ beyond line = subst (λ (x : TicketLine). beyond x ≤ beyond line) (sym is) (fewer-beyond core line t b s l) in
    subst (λ (c : LonePool C). Looks c (lone_of new next) before after) view
    (looks core new line mid next before first after s l once (omega (arith, more, less)) (ap (λ (x : TicketLine). x.edge) is ∙ same-edge t b line) (ap (λ (x : TicketLine). x.moves) is ∙ same-moves t b line) v)

-- an ask
pub looks-asked : {C : Type 0} (core : Core C) (now : LonePool C) (new : Core C) (line mid next : TicketLine) (k d m before first after : ℕ) → lone_of core line ≡ now → IsSound core → IsLined core line → new ≡ at_moment m (asked k d core)
    → mid ≡ pushed core.next_ticket line → first ≡ before + 1 → Serving core new line mid next first after → Looks now (lone_of new next) before after
looks-asked {C} core now new line mid next k d m before first after view s l is joins once v =
    let more : new.next_ticket ≡ core.next_ticket + 1 = ap (λ (c : Core C). c.next_ticket) is in
    let e : entitled (pushed core.next_ticket line) ≡ entitled line = below-joined core.next_ticket line.edge line.waiting l.edge in
    let long : length (pushed core.next_ticket line).waiting ≡ length line.waiting + 1 = length-append line.waiting (core.next_ticket ∷ []) in
    let beyond_more : beyond mid ≤ beyond line + 1 = subst (λ (x : TicketLine). beyond x ≤ beyond line + 1) (sym joins) (omega (arith, e, long)) in
    subst (λ (c : LonePool C). Looks c (lone_of new next) before after) view
    (looks core new line mid next before first after s l (omega (arith, once)) (omega (arith, more, beyond_more)) (ap (λ (x : TicketLine). x.edge) joins) (ap (λ (x : TicketLine). x.moves) joins) v)

-- a step that changes nothing, and looks once at most
pub looks-nothing : {C : Type 0} (core : Core C) (line : TicketLine) (now new : LonePool C) (before after : ℕ) → lone_of core line ≡ now → IsSound core → IsLined core line → new ≡ now → after ≤ before + 1 → Looks now new before after
looks-nothing {C} core line now new before after view s l is once =
    subst (λ (c : LonePool C). Looks now c before after) (sym is) (record { moves = omega (arith, once); few = omega (arith, once); let_in = omega (arith, once); turns = inl (omega (arith, once)); keeps = keeps-same now (view-tells core line now view s l) })
