-- A poll that lends at once makes what a start and an accepted test make, one behind the other.
use Rattle.std.proofs.Common.{◌≡◌, ℕ, suc, ◌+◌, ◌<◌, ◌≤◌, Bool, true, false, cond, not, ◌&&◌, ◌==◌, List, [], ◌∷◌, ◌++◌, drop, count_by, length, Some, None, inl, refl, sym, ap, ◌∙◌, subst, append_assoc, arith}
use Rattle.std.specs.Prelude.{nat_lt}
use Rattle.std.proofs.lemmas.Bool.Decides.{nat_tests}
use Rattle.sqlx_pool_marks.specs.declared.mark.Mark.{Mark}
use Rattle.sqlx_pool_marks.specs.declared.mark.Mark.TheVariants.{Left, Taken, Lent, Ended}
use Rattle.sqlx_pool_marks.specs.Born.{IsBorn}
use Rattle.sqlx_pool_marks.specs.FairLog.{IsFair}
use Rattle.sqlx_pool_marks.proofs.Counting.{one, count-filter}
use Rattle.sqlx_pool_marks.proofs.FairLaws.{fair-append}
use Rattle.sqlx_pool_marks.proofs.ListFacts.{found_All, count_by-cons, length-push, same_number}
use Rattle.sqlx_pool_places.specs.Line.{TicketLine, without, is_below_edge, is_waiting}
use Rattle.sqlx_pool_places.proofs.Edge.{left_out}
use Rattle.sqlx_pool_lists.specs.declared.ticket.Ticket.{Ticket}
use Rattle.sqlx_pool_lists.specs.declared.ticket.Phase.{Phase}
use Rattle.sqlx_pool_lists.specs.declared.ticket.Phase.TheVariants as phase
use Rattle.sqlx_pool_lists.specs.declared.steps.Idle.{Idle}
use Rattle.sqlx_pool_lists.specs.declared.steps.Lent.{Lent as LentValue}
use Rattle.sqlx_pool_lists.specs.Core.{Core, is_of, is_out, has_gone, waits, ticket_of, free, size, gone}
use Rattle.sqlx_pool_lists.specs.Sound.{IsSound, rests}
use Rattle.sqlx_pool_lists.specs.StandsFor.{StandsIn, StandsFor}
use Rattle.sqlx_pool_lists.specs.Makes.{MakesIn, MakesWhere}
use Rattle.sqlx_pool_lists.specs.Balance.{Balance, is_testing, left_to_test}
use Rattle.sqlx_pool_lists.specs.CoreTurn.{before, first_deadline, InOwnLine}
use Rattle.sqlx_pool_lists.specs.Place.{IsAmong}
use Rattle.sqlx_pool_lists.specs.Edits.{at_moment, with_ticket, without_ticket, to_test, core_without_ticket, core_without_first, lent_to, is_another_ticket}
use Rattle.sqlx_pool_lists.specs.PollSteps.{try_lent, first_marks, after_first}
use Rattle.sqlx_pool_lists.proofs.Counting.{count-ended, sum-ended}
use Rattle.sqlx_pool_core.specs.Alone.{IsAlone}
use Rattle.sqlx_pool_core.specs.Answers.{ServesFirst}
use Rattle.sqlx_pool_core.specs.Logs.{Logs}
use Rattle.sqlx_pool_core.specs.Numbers.{Draws, Stays}
use Rattle.sqlx_pool_core.specs.KeptLine.{IsLined, IsLone}
use Rattle.sqlx_pool_core.proofs.Stands.{stands-in, IsTicketBorn}
use Rattle.sqlx_pool_core.proofs.Known.{ticket-changed, ticket-number, ticket-below, gone-changed, gone-left_le, idle-first}
use Rattle.sqlx_pool_core.proofs.Found.{found-among}
use Rattle.sqlx_pool_core.proofs.BalanceLemmas.{length-ended}
use Rattle.sqlx_pool_core.proofs.StartMakes.{makes-test}
use Rattle.sqlx_pool_core.proofs.PollMakes.{makes-served}
use Rattle.sqlx_pool_core.proofs.Alone.{alone-step, alone-makes}
use Rattle.sqlx_pool_core.proofs.WaitingNumbers.{numbers-ended}
use Rattle.sqlx_pool_core.proofs.KeptLine.{Fewer, fewer, line-rises, one_if_waiting}
use Rattle.sqlx_pool_core.proofs.LineSteps.{edge-first, waits_there}

-- The client's ticket of this number is the first of all, and waits.
pub record IsFirst (k t : ℕ) (tickets : List Ticket) : Type 0 where
  pub ticket : Ticket
  pub found : ticket_of k t tickets ≡ Some ticket
  pub stands : ticket.phase ≡ phase.Waiting
  pub none_before : before t tickets ≡ 0

pub first-is : (k t d : ℕ) (tickets : List Ticket) → first_deadline k t tickets ≡ Some d → IsFirst k t tickets
first-is k t d [] e = absurd cc
first-is k t d (x ∷ rest) e = by (is_of k t x) refl (is_out x.phase) refl e
  where
    in_line : (p : Phase) → is_out p ≡ false → p ≡ phase.Waiting
    in_line phase.Waiting e = refl
    in_line phase.Connecting e = absurd cc
    in_line (phase.Testing c created before) e = absurd cc
    in_line (phase.Backoff until) e = absurd cc

    by : (b : Bool) → is_of k t x ≡ b → (o : Bool) → is_out x.phase ≡ o → cond (b && not o) (Some x.deadline) None ≡ Some d → IsFirst k t (x ∷ rest)
    by true mine false at e =
        let found : ticket_of k t (x ∷ rest) ≡ Some x = ap (λ (b : Bool). cond b (Some x) (ticket_of k t rest)) mine in
        let number = ticket-number k t (x ∷ rest) x found in
        let same : (t == x.number) ≡ true = ap (λ (n : ℕ). t == n) (sym number) ∙ same_number t in
        record { ticket = x; found = found; stands = in_line x.phase at; none_before = rw same refl }
    by true mine true at e = absurd cc
    by false mine false at e = absurd cc
    by false mine true at e = absurd cc

-- ---- what it makes

module _ {C : Type 0} (core : Core C) (marks : List Mark) (sound : IsSound core) (s : StandsFor core marks) (k t m : ℕ) (i : Idle C) (rest : List (Idle C)) (first : core.idle ≡ i ∷ rest)
    (open_yet : core.shut ≡ false) (at : IsFirst k t core.tickets) (permit : 0 < free core) (owns : core.permits ≡ core.options.max_connections) where
  abbrev c : ℕ
  c = i.lent.id

  abbrev x : Ticket
  x = at.ticket

  -- behind the start
  abbrev two : Core C
  two = at_moment m (core_without_first (record core { tickets = with_ticket t (to_test m i) core.tickets }))

  entitled : InOwnLine core marks t true
  entitled = record { all = owns; conns = s.conn_number; first = λ _. omega (arith, at.none_before, permit) }

  made_two : MakesWhere (InOwnLine core marks t true) core.options.max_connections marks (Left t ∷ Taken c ∷ []) two
  made_two = makes-test core marks sound (stands-in core marks s) true refl k t m x at.found open_yet at.stands permit i rest first

  -- what the test left: the connection is at no other place, and its ticket has it
  resting : count_by (rests c) rest ≡ 0
  resting =
      let here = idle-first core sound i rest first in
      let whole = ap (count_by (rests c)) first ∙ count_by-cons (rests c) i rest in
      let mine : cond {A = ℕ} (c == c) 1 0 ≡ 1 = ap (λ (b : Bool). cond {A = ℕ} b 1 0) (same_number c) in
      omega (arith, here.idle, whole, mine)

  untaken : count_by (rests c) two.idle ≡ 0
  untaken = ap (λ (l : List (Idle C)). count_by (rests c) (drop 1 l)) first ∙ resting

  there_too : ticket_of k t two.tickets ≡ Some (to_test m i x)
  there_too = ticket-changed k t (to_test m i) core.tickets x (λ y. (refl, refl)) at.found

  born : IsBorn (marks ++ Left t ∷ Taken c ∷ []) c i.lent.created.0
  born = found_All (is_of k t) (IsTicketBorn (marks ++ Left t ∷ Taken c ∷ [])) two.tickets (to_test m i x) there_too made_two.stands.tested_born

  within : size two ≤ core.options.max_connections
  within =
      let long : length core.idle ≡ suc (length rest) = ap length first in
      let short : length two.idle ≡ length rest = ap (λ (l : List (Idle C)). length (drop 1 l)) first in
      omega (arith, gone-left_le core sound t (to_test m i), long, short, sound.within)

  -- behind the test
  abbrev three : Core C
  three = record (core_without_ticket t (lent_to k c i.lent.created two)) { last = m }

  made_three : MakesIn core.options.max_connections (marks ++ Left t ∷ Taken c ∷ []) (Lent k c ∷ Ended t ∷ []) three
  made_three =
      let here = idle-first core sound i rest first in
      makes-served core.options.max_connections two (marks ++ Left t ∷ Taken c ∷ []) made_two.stands within k t c i.lent.created (to_test m i x) m open_yet there_too refl (ticket-below core sound k t x at.found) born here.below here.unowned untaken

  no_more : three.tickets ≡ without_ticket t core.tickets
  no_more = gone-changed t (to_test m i) core.tickets (λ y. refl)

  abbrev made : List Mark
  made = (Left t ∷ Taken c ∷ []) ++ (Lent k c ∷ Ended t ∷ [])

  joined : (marks ++ Left t ∷ Taken c ∷ []) ++ Lent k c ∷ Ended t ∷ [] ≡ marks ++ made
  joined = append_assoc marks (Left t ∷ Taken c ∷ []) (Lent k c ∷ Ended t ∷ [])

  fair : IsFair core.options.max_connections marks made
  fair =
      fair-append core.options.max_connections marks (Left t ∷ Taken c ∷ []) (Lent k c ∷ Ended t ∷ []) (record { safe = made_two.safe; order = made_two.order entitled })
      (record { safe = made_three.safe; order = made_three.order tt })

  -- the whole
  pub makes-first : MakesIn core.options.max_connections marks (first_marks k t (Some i.lent)) (after_first k t m (Some i.lent) core)
  makes-first = record {
    stands = subst (λ (l : List Ticket). StandsIn (record three { tickets = l }) (marks ++ made)) no_more (subst (StandsIn three) joined made_three.stands);
    safe = fair.safe;
    order = λ w. fair.order;
  }

-- ---- by the answer

module _ {C : Type 0} (core : Core C) (k t m : ℕ) (lent : LentValue C) (sound : IsSound core) (serves : ServesFirst k t m core) where
  at : IsFirst k t core.tickets
  at = first-is k t serves.deadline core.tickets serves.first

  among : IsAmong t at.ticket core.tickets
  among = found-among k t at.ticket 1 core.tickets core.next_ticket sound.rising at.found

  abbrev after : Core C
  after = after_first k t m (Some lent) core

  held_more : length after.held ≡ length core.held + 1
  held_more = length-push core.held (record { conn = lent.id; client = k; created = lent.created })

  gone_same : gone after.tickets ≡ gone core.tickets
  gone_same =
      let out : one has_gone at.ticket ≡ 0 = ap (λ (p : Phase). cond {A = ℕ} (is_out p) 1 0) at.stands in
      omega (arith, out, count-ended has_gone t at.ticket core.tickets among)

  -- a permit less is free
  frees : free after + 1 ≡ free core
  frees = omega (arith, held_more, gone_same, serves.permit)

  stays : Stays core after
  stays = record { options = refl; permits = refl; shut = refl; closed = refl }

  draws : Draws core after (first_marks k t (Some lent))
  draws = record { tickets = refl; conns = refl; more_tickets = omega arith; more_conns = omega arith; few = inl (omega (arith, gone_same)) }

  moves : (i : Idle C) (rest : List (Idle C)) → core.idle ≡ i ∷ rest → Balance core after (first_marks k t (Some lent)) 0 0
  moves i rest is =
      let long : length core.idle ≡ suc (length rest) = ap length is in
      let short : length (drop 1 core.idle) ≡ length rest = ap (λ (l : List (Idle C)). length (drop 1 l)) is in
      let fewer_tickets = length-ended t at.ticket core.tickets among in
      let waiting_less = count-filter waits (is_another_ticket t) core.tickets in
      let testing_less = count-filter is_testing (is_another_ticket t) core.tickets in
      let left_less = sum-ended (left_to_test core.options.idle_tries) t at.ticket core.tickets among in
      record {
        tickets = omega (arith, fewer_tickets);
        numbers = omega arith;
        held = omega (arith, held_more);
        paid = omega (arith, long, short, fewer_tickets, held_more, waiting_less, testing_less, left_less);
      }

  lined : (line : TicketLine) → IsLined core line → IsLined after (without t line)
  lined line l =
      let in_line : waits at.ticket ≡ true = ap (λ (p : Phase). not (is_out p)) at.stands in
      let there : is_waiting t line ≡ true = waits_there core line k t at.ticket sound l at.found in_line in
      let first : nat_lt (before t core.tickets) (free core) ≡ true = grind (arith, nat_tests, at.none_before, serves.permit) in
      let below : is_below_edge t line ≡ true = edge-first core line k t at.ticket sound l at.found in_line ∙ first in
      let f : Fewer t line = fewer t 1 core.next_ticket line (line-rises core line sound l) in
      let too : f.left ≡ f.one = f.all (λ w. below) in
      let one_is : one_if_waiting t line ≡ 1 = ap (λ (b : Bool). cond {A = ℕ} b 1 0) there in
      record {
        numbers = ap (left_out t) l.numbers ∙ sym (numbers-ended t core.tickets);
        served = omega (arith, frees, f.is_one, f.waiting, f.entitled_too, l.served, too, one_is);
        edge = omega (arith, l.edge);
        few_moves = omega (arith, l.few_moves, f.waiting, f.entitled_too, too);
      }

-- ---- of a lone pool

module _ {C : Type 0} (core now new : Core C) (view : core ≡ now) (k t m : ℕ) (lent : LentValue C) (sound : IsSound core) (sound_new : IsSound new) (a : IsAlone core) (serves : ServesFirst k t m core)
    (answer : Some lent ≡ try_lent true core.idle) (left : new ≡ after_first k t m (Some lent) core) where
  drawn : Draws core new (first_marks k t (Some lent))
  drawn = subst (λ (c : Core C). Draws core c (first_marks k t (Some lent))) (sym left) (draws core k t m lent sound serves)

  alone_new : IsAlone new
  alone_new = alone-step core new (first_marks k t (Some lent)) a (subst (Stays core) (sym left) (stays core k t m lent sound serves)) drawn sound_new

  whole : (marks : List Mark) → StandsFor core marks → (idle : List (Idle C)) → core.idle ≡ idle → Some lent ≡ try_lent true idle
      → MakesIn core.options.max_connections marks (first_marks k t (Some lent)) (after_first k t m (Some lent) core)
  whole marks s [] is answer = absurd cc
  whole marks s (i ∷ rest) is answer =
      let same : lent ≡ i.lent = cc in
      rw same (makes-first core marks sound s k t m i rest is (sym a.closed ∙ serves.open_yet) (first-is k t serves.deadline core.tickets serves.first) serves.permit a.all)

  pub first-makes : Logs now (first_marks k t (Some lent)) new
  first-makes = subst (λ (c : Core C). Logs c (first_marks k t (Some lent)) new) view
      (λ marks s. alone-makes core new core.options.max_connections marks (first_marks k t (Some lent)) s alone_new drawn tt
      (subst (λ (c : Core C). MakesIn core.options.max_connections marks (first_marks k t (Some lent)) c) (sym left) (whole marks s core.idle refl answer)))

  balanced : (idle : List (Idle C)) → core.idle ≡ idle → Some lent ≡ try_lent true idle → Balance core (after_first k t m (Some lent) core) (first_marks k t (Some lent)) 0 0
  balanced [] is answer = absurd cc
  balanced (i ∷ rest) is answer = moves core k t m lent sound serves i rest is

  pub first-balance : Balance now new (first_marks k t (Some lent)) 0 0
  first-balance = subst (λ (c : Core C). Balance c new (first_marks k t (Some lent)) 0 0) view
      (subst (λ (c : Core C). Balance core c (first_marks k t (Some lent)) 0 0) (sym left) (balanced core.idle refl answer))

  pub first-lone : (line next : TicketLine) → IsLined core line → next ≡ without t line → IsLone new next
  first-lone line next l is = record {
    alone = alone_new;
    lined = subst (λ (n : TicketLine). IsLined new n) (sym is) (subst (λ (c : Core C). IsLined c (without t line)) (sym left) (lined core k t m lent sound serves line l));
  }
