-- An ask that is served at once makes what an ask, a start and an accepted test make, one behind another.
use Rattle.std.proofs.Common.{◌≡◌, ℕ, suc, ◌+◌, ◌^◌, ◌<◌, ◌≤◌, Bool, true, false, cond, not, ◌&&◌, ◌==◌, List, [], ◌∷◌, ◌++◌, take, drop, count_by, length, Option, Some, None, is_some, max, inl, refl, sym, ap, ap₂, ◌∙◌, subst, append_assoc, arith}
use Rattle.std.specs.Prelude.{IfSome}
use Rattle.sqlx_pool_marks.specs.declared.mark.Mark.{Mark}
use Rattle.sqlx_pool_marks.specs.declared.mark.Mark.TheVariants.{Asked, Left, Taken, Lent, Ended}
use Rattle.sqlx_pool_marks.specs.Born.{IsBorn}
use Rattle.sqlx_pool_marks.specs.FairLog.{IsFair}
use Rattle.sqlx_pool_marks.specs.Marks.{opened_number}
use Rattle.sqlx_pool_marks.proofs.FairLaws.{fair-append}
use Rattle.sqlx_pool_marks.proofs.ListFacts.{found_All, count_by-cons, count_by-push, length-push, same_number}
use Rattle.sqlx_pool_lists.specs.declared.ticket.Ticket.{Ticket}
use Rattle.sqlx_pool_lists.specs.declared.ticket.Phase.TheVariants as phase
use Rattle.sqlx_pool_lists.specs.declared.steps.Idle.{Idle}
use Rattle.sqlx_pool_lists.specs.declared.steps.Lent.{Lent as LentValue}
use Rattle.sqlx_pool_lists.specs.Core.{Core, is_of, is_out, ticket_of, waiting, free, size, gone}
use Rattle.sqlx_pool_lists.specs.Sound.{IsSound, rests}
use Rattle.sqlx_pool_core.specs.Alone.{IsAlone}
use Rattle.sqlx_pool_lists.specs.StandsFor.{StandsIn, StandsFor}
use Rattle.sqlx_pool_lists.specs.Makes.{MakesIn, MakesWhere}
use Rattle.sqlx_pool_core.specs.Logs.{Logs}
use Rattle.sqlx_pool_core.specs.Numbers.{Draws, Stays}
use Rattle.sqlx_pool_lists.specs.Balance.{Balance, serve_room}
use Rattle.sqlx_pool_lists.specs.CoreTurn.{before, InOwnLine}
use Rattle.sqlx_pool_core.specs.KeptLine.{IsLined, IsLone}
use Rattle.sqlx_pool_lists.specs.Edits.{asked, at_moment, with_ticket, to_test, core_without_ticket, core_without_first, lent_to}
use Rattle.sqlx_pool_lists.specs.PollSteps.{try_lent, serve_marks, after_serve}
use Rattle.sqlx_pool_places.specs.Line.{TicketLine}
use Rattle.sqlx_pool_core.proofs.Stands.{stands-in, IsTicketBorn}
use Rattle.sqlx_pool_core.proofs.Known.{ticket-changed, gone-changed, gone-left_le, idle-first}
use Rattle.sqlx_pool_core.proofs.AskSoundness.{sound-asked}
use Rattle.sqlx_pool_core.proofs.StartMakes.{makes-test}
use Rattle.sqlx_pool_core.proofs.PollMakes.{makes-asked, makes-served}
use Rattle.sqlx_pool_core.proofs.Alone.{number-append, alone-step, alone-makes}
use Rattle.sqlx_pool_core.proofs.LineSteps.{without_last}
use Rattle.sqlx_pool_core.proofs.Fair.{makes-none}
use Rattle.sqlx_pool_core.proofs.KeptLine.{lined-past}

-- ---- what it makes

no-ticket : (tickets : List Ticket) → length tickets ≡ 0 → tickets ≡ []
no-ticket [] e = refl
no-ticket (x ∷ xs) e = absurd cc

module _ {C : Type 0} (core : Core C) (marks : List Mark) (sound : IsSound core) (s : StandsFor core marks) (k d m : ℕ) (i : Idle C) (rest : List (Idle C)) (first : core.idle ≡ i ∷ rest)
    (open_yet : core.shut ≡ false) (empty : core.tickets ≡ []) (permit : 0 < free core) (few : core.next_ticket ≤ 2 ^ 63) (owns : core.permits ≡ core.options.max_connections) where
  abbrev t : ℕ
  t = core.next_ticket

  abbrev c : ℕ
  c = i.lent.id

  abbrev x : Ticket
  x = record { number = core.next_ticket; client = k; deadline = d; phase = phase.Waiting; first_try = record { 0 = 0 }; last_wait = None }

  -- behind the ask
  abbrev one : Core C
  one = record (asked k d core) { last = m }

  -- behind the start
  abbrev two : Core C
  two = at_moment m (core_without_first (record one { tickets = with_ticket t (to_test m i) one.tickets }))

  sound_one : IsSound one
  sound_one = sound-asked core x m sound refl refl few

  is_mine : is_of k t x ≡ true
  is_mine = ap₂ ◌&&◌ (same_number t) (same_number k)

  there : ticket_of k t one.tickets ≡ Some x
  there = ap (λ (l : List Ticket). ticket_of k t (l ++ x ∷ [])) empty ∙ ap (λ (b : Bool). cond b (Some x) None) is_mine

  made_one : MakesIn core.options.max_connections marks (Asked t k d ∷ []) one
  made_one = makes-asked core marks sound (stands-in core marks s) k d m open_yet

  gone_one : gone one.tickets ≡ gone core.tickets + 0
  gone_one = count_by-push (λ (y : Ticket). is_out y.phase) core.tickets x

  none_before : before t one.tickets ≡ 0
  none_before = ap (λ (l : List Ticket). before t (l ++ x ∷ [])) empty ∙ ap (λ (b : Bool). waiting (take (cond (not b) 1 0) (x ∷ []))) (same_number t)

  entitled : InOwnLine one (marks ++ Asked t k d ∷ []) t true
  entitled = record { all = owns; conns = s.conn_number ∙ sym (number-append opened_number 1 marks (Asked t k d ∷ [])); first = λ _. omega (arith, none_before, gone_one, permit) }

  made_two : MakesWhere (InOwnLine one (marks ++ Asked t k d ∷ []) t true) core.options.max_connections (marks ++ Asked t k d ∷ []) (Left t ∷ Taken c ∷ []) two
  made_two = makes-test one (marks ++ Asked t k d ∷ []) sound_one made_one.stands true refl k t m x there open_yet refl (omega (arith, gone_one, permit)) i rest first

  -- what the test left: the connection is at no other place, and its ticket has it
  resting : count_by (rests c) rest ≡ 0
  resting =
      let here = idle-first core sound i rest first in
      let whole = ap (count_by (rests c)) first ∙ count_by-cons (rests c) i rest in
      let mine : cond {A = ℕ} (c == c) 1 0 ≡ 1 = ap (λ (b : Bool). cond {A = ℕ} b 1 0) (same_number c) in
      omega (arith, here.idle, whole, mine)

  untaken : count_by (rests c) two.idle ≡ 0
  untaken = ap (λ (l : List (Idle C)). count_by (rests c) (drop 1 l)) first ∙ resting

  there_too : ticket_of k t two.tickets ≡ Some (to_test m i x)
  there_too = ticket-changed k t (to_test m i) one.tickets x (λ y. (refl, refl)) there

  born : IsBorn ((marks ++ Asked t k d ∷ []) ++ Left t ∷ Taken c ∷ []) c i.lent.created.0
  born = found_All (is_of k t) (IsTicketBorn ((marks ++ Asked t k d ∷ []) ++ Left t ∷ Taken c ∷ [])) two.tickets (to_test m i x) there_too made_two.stands.tested_born

  within : size two ≤ core.options.max_connections
  within =
      let long : length core.idle ≡ suc (length rest) = ap length first in
      let short : length two.idle ≡ length rest = ap (λ (l : List (Idle C)). length (drop 1 l)) first in
      omega (arith, gone-left_le one sound_one t (to_test m i), gone_one, long, short, sound.within)

  -- behind the test
  abbrev three : Core C
  three = record (core_without_ticket t (lent_to k c i.lent.created two)) { last = m }

  made_three : MakesIn core.options.max_connections ((marks ++ Asked t k d ∷ []) ++ Left t ∷ Taken c ∷ []) (Lent k c ∷ Ended t ∷ []) three
  made_three =
      let here = idle-first core sound i rest first in
      makes-served core.options.max_connections two ((marks ++ Asked t k d ∷ []) ++ Left t ∷ Taken c ∷ []) made_two.stands within k t c i.lent.created (to_test m i x) m open_yet there_too refl (omega arith) born here.below here.unowned untaken

  no_more : three.tickets ≡ core.tickets
  no_more = gone-changed t (to_test m i) one.tickets (λ y. refl) ∙ without_last core.next_ticket 1 core.tickets x sound.rising refl

  abbrev made : List Mark
  made = (Asked t k d ∷ []) ++ (Left t ∷ Taken c ∷ []) ++ (Lent k c ∷ Ended t ∷ [])

  joined : ((marks ++ Asked t k d ∷ []) ++ Left t ∷ Taken c ∷ []) ++ Lent k c ∷ Ended t ∷ [] ≡ marks ++ made
  joined =
      append_assoc (marks ++ Asked t k d ∷ []) (Left t ∷ Taken c ∷ []) (Lent k c ∷ Ended t ∷ [])
      ∙ append_assoc marks (Asked t k d ∷ []) ((Left t ∷ Taken c ∷ []) ++ (Lent k c ∷ Ended t ∷ []))

  fair : IsFair core.options.max_connections marks made
  fair =
      fair-append core.options.max_connections marks (Asked t k d ∷ []) ((Left t ∷ Taken c ∷ []) ++ (Lent k c ∷ Ended t ∷ [])) (record { safe = made_one.safe; order = made_one.order tt })
      (fair-append core.options.max_connections (marks ++ Asked t k d ∷ []) (Left t ∷ Taken c ∷ []) (Lent k c ∷ Ended t ∷ []) (record { safe = made_two.safe; order = made_two.order entitled })
      (record { safe = made_three.safe; order = made_three.order tt }))

  -- the whole
  pub makes-whole : MakesIn core.options.max_connections marks (serve_marks k t d (Some i.lent)) (after_serve k m (Some i.lent) core)
  makes-whole = record {
    stands = subst (λ (l : List Ticket). StandsIn (record three { tickets = l }) (marks ++ made)) no_more (subst (StandsIn three) joined made_three.stands);
    safe = fair.safe;
    order = λ w. fair.order;
  }

-- ---- by the answer

module _ {C : Type 0} (core : Core C) (k m : ℕ) where
  pub serve-stays : (r : Option (LentValue C)) → Stays core (after_serve k m r core)
  serve-stays (Some lent) = record { options = refl; permits = refl; shut = refl; closed = refl }
  serve-stays None = record { options = refl; permits = refl; shut = refl; closed = refl }

  pub serve-draws : (d : ℕ) (r : Option (LentValue C)) → Draws core (after_serve k m r core) (serve_marks k core.next_ticket d r)
  serve-draws d (Some lent) = record { tickets = refl; conns = refl; more_tickets = omega arith; more_conns = omega arith; few = inl (omega arith) }
  serve-draws d None = record { tickets = refl; conns = refl; more_tickets = omega arith; more_conns = omega arith; few = inl (omega arith) }

  pub serve-moves : (serves : Bool) (d : ℕ) (idle : List (Idle C)) → core.idle ≡ idle
      → Balance core (after_serve k m (try_lent serves idle) core) (serve_marks k core.next_ticket d (try_lent serves idle)) 0 (serve_room (try_lent serves idle))
  serve-moves true d [] is = record { tickets = omega arith; numbers = omega arith; held = omega arith; paid = omega arith }
  serve-moves false d [] is = record { tickets = omega arith; numbers = omega arith; held = omega arith; paid = omega arith }
  serve-moves false d (i ∷ rest) is = record { tickets = omega arith; numbers = omega arith; held = omega arith; paid = omega arith }
  serve-moves true d (i ∷ rest) is =
      let more = length-push core.held (record { conn = i.lent.id; client = k; created = i.lent.created }) in
      let long : length core.idle ≡ suc (length rest) = ap length is in
      let short : length (drop 1 core.idle) ≡ length rest = ap (λ (l : List (Idle C)). length (drop 1 l)) is in
      record { tickets = omega arith; numbers = omega arith; held = omega (arith, more); paid = omega (arith, more, long, short) }

-- ---- of a lone pool, by the member inside

module _ {C : Type 0} (core now new : Core C) (view : core ≡ now) (k m n : ℕ) (at : m ≡ max core.last n) (serves : Bool) (r : Option (LentValue C))
    (answer : r ≡ try_lent serves core.idle) (left : new ≡ after_serve k m r core) where
  abbrev made-at : Core C → List Mark
  made-at c = serve_marks k c.next_ticket (max c.last n + c.options.acquire_timeout) r

  in-core : (d : ℕ) → d ≡ max core.last n + core.options.acquire_timeout → serve_marks k core.next_ticket d r ≡ made-at core
  in-core d e = ap (λ (q : ℕ). serve_marks k core.next_ticket q r) e

  pub serve-balance : Balance now new (made-at now) 0 (serve_room r)
  serve-balance = subst (λ (c : Core C). Balance c new (made-at c) 0 (serve_room r)) view
      (subst (λ (c : Core C). Balance core c (made-at core) 0 (serve_room r)) (sym left)
      (subst (λ (o : Option (LentValue C)). Balance core (after_serve k m o core) (serve_marks k core.next_ticket (max core.last n + core.options.acquire_timeout) o) 0 (serve_room o)) (sym answer)
      (serve-moves core k m serves (max core.last n + core.options.acquire_timeout) core.idle refl)))

  pub serve-drawn : Draws core new (made-at core)
  serve-drawn = subst (λ (c : Core C). Draws core c (made-at core)) (sym left) (serve-draws core k m (max core.last n + core.options.acquire_timeout) r)

  pub serve-stayed : Stays core new
  serve-stayed = subst (Stays core) (sym left) (serve-stays core k m r)

  module _ (sound : IsSound core) (sound_new : IsSound new) (a : IsAlone core) (open_yet : serves ≡ true → core.closed ≡ false) (empty : serves ≡ true → length core.tickets ≡ 0)
      (permit : serves ≡ true → 0 < free core) (few : serves ≡ true → core.next_ticket ≤ 2 ^ 63) where
    alone_new : IsAlone new
    alone_new = alone-step core new (made-at core) a serve-stayed serve-drawn sound_new

    whole : (marks : List Mark) → StandsFor core marks → (b : Bool) → serves ≡ b → (idle : List (Idle C)) → core.idle ≡ idle
        → MakesIn core.options.max_connections marks (serve_marks k core.next_ticket (max core.last n + core.options.acquire_timeout) (try_lent b idle)) (after_serve k m (try_lent b idle) core)
    whole marks s false e [] is = makes-none core.options.max_connections marks core (stands-in core marks s)
    whole marks s true e [] is = makes-none core.options.max_connections marks core (stands-in core marks s)
    whole marks s false e (i ∷ rest) is = makes-none core.options.max_connections marks core (stands-in core marks s)
    whole marks s true e (i ∷ rest) is =
        makes-whole core marks sound s k (max core.last n + core.options.acquire_timeout) m i rest is (sym a.closed ∙ open_yet e) (no-ticket core.tickets (empty e)) (permit e) (few e) a.all

    pub serve-alone : Logs now (made-at now) new
    serve-alone = subst (λ (c : Core C). Logs c (made-at c) new) view
        (λ marks s. alone-makes core new core.options.max_connections marks (made-at core) s alone_new serve-drawn tt
        (subst (λ (c : Core C). MakesIn core.options.max_connections marks (made-at core) c) (sym left)
        (subst (λ (o : Option (LentValue C)). MakesIn core.options.max_connections marks (serve_marks k core.next_ticket (max core.last n + core.options.acquire_timeout) o) (after_serve k m o core)) (sym answer)
        (whole marks s serves refl core.idle refl))))

    lined-at : (line : TicketLine) → IsLined core line → (b : Bool) → serves ≡ b → (idle : List (Idle C)) → core.idle ≡ idle → IsLined (after_serve k m (try_lent b idle) core) line
    lined-at line l false e [] is = l
    lined-at line l true e [] is = l
    lined-at line l false e (i ∷ rest) is = l
    lined-at line l true e (i ∷ rest) is =
        let none : waiting core.tickets ≡ 0 = ap waiting (no-ticket core.tickets (empty e)) in
        let more = length-push core.held (record { conn = i.lent.id; client = k; created = i.lent.created }) in
        let p = permit e in
        lined-past core (after_serve k m (Some i.lent) core) line l (omega (arith, none, p)) refl (omega (arith, more, p)) (omega arith)

    pub serve-lone : (line : TicketLine) → IsLined core line → IsLone new line
    serve-lone line l = record {
      alone = alone_new;
      lined = subst (λ (c : Core C). IsLined c line) (sym left)
          (subst (λ (o : Option (LentValue C)). IsLined (after_serve k m o core) line) (sym answer) (lined-at line l serves refl core.idle refl));
    }

-- a connection was lent only where a new ticket is served
pub serve-only : {C : Type 0} (serves : Bool) (idle : List (Idle C)) (r : Option (LentValue C)) → r ≡ try_lent serves idle → is_some r ≡ true → serves ≡ true
serve-only true idle r answer some = refl
serve-only false [] r answer some = let none : is_some r ≡ false = ap is_some answer in absurd (some-none (sym none ∙ some))
  where
    some-none : false ≡ true → ⊥
    some-none e = absurd cc
serve-only false (i ∷ rest) r answer some = let none : is_some r ≡ false = ap is_some answer in absurd (some-none (sym none ∙ some))
  where
    some-none : false ≡ true → ⊥
    some-none e = absurd cc

pub serve-first : {C : Type 0} (serves : Bool) (idle : List (Idle C)) (r : Option (LentValue C)) → r ≡ try_lent serves idle → IfSome r (λ lent. Some lent ≡ try_lent true idle)
serve-first true idle None answer = tt
serve-first false idle None answer = tt
serve-first true idle (Some lent) answer = answer
serve-first false [] (Some lent) answer = absurd cc
serve-first false (i ∷ rest) (Some lent) answer = absurd cc
