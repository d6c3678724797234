-- What asking, the later steps of a poll, a cancel and a try make of a core that stands for the marks.
use Rattle.std.proofs.Common.{◌≡◌, ℕ, suc, ◌+◌, ◌≤◌, ◌<◌, Bool, true, false, cond, ◌==◌, List, [], ◌∷◌, ◌++◌, map, drop, count_by, length, All, Option, Some, None, option_map, refl, sym, ap, ◌∙◌, subst, arith}
use Rattle.std.proofs.lemmas.Bool.{eqb-true, ne_eqb}
use Rattle.std.proofs.lemmas.List.Elements.{All-head}
use Rattle.sqlx_text.specs.declared.Moment.{Moment}
use Rattle.sqlx_pool_marks.specs.declared.mark.Mark.{Mark}
use Rattle.sqlx_pool_marks.specs.declared.mark.Mark.TheVariants.{Asked, Taken, Opened, Lent, Closed, Ended}
use Rattle.sqlx_pool_lists.specs.declared.ticket.Ticket.{Ticket}
use Rattle.sqlx_pool_lists.specs.declared.ticket.Phase.{Phase}
use Rattle.sqlx_pool_lists.specs.declared.ticket.Phase.TheVariants as phase
use Rattle.sqlx_pool_lists.specs.declared.steps.Idle.{Idle}
use Rattle.sqlx_pool_lists.specs.declared.steps.Verdict.{Verdict}
use Rattle.sqlx_pool_lists.specs.declared.steps.Verdict.TheVariants as verdict
use Rattle.sqlx_pool_lists.specs.declared.steps.Tried.{Tried}
use Rattle.sqlx_pool_lists.specs.declared.steps.Tried.TheVariants as tried
use Rattle.sqlx_pool_marks.specs.Counts.{left_in}
use Rattle.sqlx_pool_lists.specs.Core.{Core, asking, is_out, is_of, ticket_of, size, gone}
use Rattle.sqlx_pool_lists.specs.Sound.{IsSound, rests, holds, tests, is_tested}
use Rattle.sqlx_pool_marks.specs.Born.{IsBorn}
use Rattle.sqlx_pool_lists.specs.StandsFor.{StandsIn, IsTestedBorn}
use Rattle.sqlx_pool_lists.specs.Edits.{with_ticket, without_ticket, to_connect, to_next, to_back_off, core_without_ticket, lent_to, core_without_first, opened, asked, at_moment}
use Rattle.sqlx_pool_lists.specs.PollSteps.{phase_for, judged, tested_at, after_refusal, test_answer, test_marks, after_test, wait_of, try_answer_at, connect_answer, connect_marks, after_connect, may_cancel, cancel_marks, cancelled, try_lent, try_marks, after_try}
use Rattle.sqlx_pool_marks.proofs.ListFacts.{found_All, count_by-cons, count_by-push, length-push, same_number}
use Rattle.sqlx_pool_marks.proofs.Pushed.{IsBorn-push}
use Rattle.sqlx_pool_core.proofs.Stands.{stands-beside, stands-alike, IsIdleBorn, IsTicketBorn}
use Rattle.sqlx_pool_core.proofs.EachMark.{stands-asked, stands-ended, stands-taken, stands-opened, stands-lent, born-opened, changed_born}
use Rattle.sqlx_pool_core.proofs.Gone.{stands-closed_tested}
use Rattle.sqlx_pool_core.proofs.TurnAtMarks.{left-asking, waiting-stands, free-places}
use Rattle.sqlx_pool_core.proofs.Known.{ticket-below, ticket-is_only, ticket-changed, alike-changed, gone-changed, gone-ended, gone-ended_le, idle-first, test-found, tested-changed}
use Rattle.sqlx_pool_lists.specs.Makes.{MakesIn, MakesWhere}
use Rattle.sqlx_pool_lists.specs.CoreTurn.{PastOwnLine}
use Rattle.sqlx_pool_marks.specs.View.{view_of, free as free_in}
use Rattle.sqlx_pool_core.proofs.Fair.{makes-none, makes-one, makes-more, fair-asked, fair-ended, fair-taken, fair-opened, fair-served, fair-lent, fair-closed}
use Rattle.sqlx_pool_core.proofs.StartMakes.{alike-out, makes-ended}

-- ---- asked

pub makes-asked : {C : Type 0} (core : Core C) (marks : List Mark) → IsSound core → StandsIn core marks → (k deadline last : ℕ) → core.shut ≡ false
    → MakesIn core.options.max_connections marks (Asked core.next_ticket k deadline ∷ []) (record (asked k deadline core) { last = last })
makes-asked core marks sound s k deadline last open_yet =
    let n = Asked core.next_ticket k deadline in
    let new = record (asked k deadline core) { last = last } in
    let after : StandsIn new (marks ++ n ∷ []) = stands-beside (asked k deadline core) (marks ++ n ∷ []) core.options core.places last (stands-asked core marks k deadline s) in
    let x : Ticket = record { number = core.next_ticket; client = k; deadline = deadline; phase = phase.Waiting; first_try = record { 0 = 0 }; last_wait = None } in
    let same : gone (core.tickets ++ x ∷ []) ≡ gone core.tickets + 0 = count_by-push (λ (y : Ticket). is_out y.phase) core.tickets x in
    let all = sound.within in
    makes-one core.options.max_connections marks n new after (fair-asked core.options.max_connections core new marks s k deadline None open_yet after (omega (arith, same, all)))

-- ---- lent to a ticket

-- a ticket that has left gets the connection, and ends
pub makes-served : {C : Type 0} (max : ℕ) (core : Core C) (marks : List Mark) → StandsIn core marks → size core ≤ max → (k t c : ℕ) (created : Moment) (x : Ticket) (last : ℕ)
    → core.shut ≡ false → ticket_of k t core.tickets ≡ Some x → is_out x.phase ≡ true → t < core.next_ticket
    → IsBorn marks c created.0 → c < core.next_conn → count_by (holds c) core.held ≡ 0 → count_by (rests c) core.idle ≡ 0
    → MakesIn max marks (Lent k c ∷ Ended t ∷ []) (record (core_without_ticket t (lent_to k c created core)) { last = last })
makes-served max core marks s all k t c created x last open_yet e out t_below born below unowned restless =
    let mid = lent_to k c created core in
    let lent : StandsIn mid (marks ++ Lent k c ∷ []) = stands-lent core marks k c created unowned born below s in
    let new = record (core_without_ticket t mid) { last = last } in
    let made : StandsIn (core_without_ticket t mid) ((marks ++ Lent k c ∷ []) ++ Ended t ∷ []) = stands-ended mid (marks ++ Lent k c ∷ []) t t_below lent in
    let after : StandsIn new ((marks ++ Lent k c ∷ []) ++ Ended t ∷ []) = stands-beside (core_without_ticket t mid) ((marks ++ Lent k c ∷ []) ++ Ended t ∷ []) core.options core.places last made in
    let fewer = gone-ended k t core.tickets x e out in
    let one_more : length mid.held ≡ length core.held + 1 = length-push core.held _ in
    makes-more max marks (Lent k c) (Ended t ∷ []) new
    (fair-served max core new marks s k t c created.0 x open_yet e out born restless unowned)
    (makes-one max (marks ++ Lent k c ∷ []) (Ended t) new after (fair-ended max mid new (marks ++ Lent k c ∷ []) lent k t x None e after (omega (arith, fewer, one_more, all))))

-- ---- after a test

module _ {C : Type 0} (core : Core C) (marks : List Mark) (sound : IsSound core) (s : StandsIn core marks) (k t : ℕ) where
  nothing : MakesIn core.options.max_connections marks [] core
  nothing = makes-none core.options.max_connections marks core s

  module _ (x : Ticket) (e : ticket_of k t core.tickets ≡ Some x) where
    alike : (f : Ticket → Ticket) → ((y : Ticket) → asking (f y) ≡ record (asking y) { left = true }) → is_out x.phase ≡ true → map asking (with_ticket t f core.tickets) ≡ map asking core.tickets
    alike f leaves out = alike-changed t f x core.tickets (ticket-is_only core sound k t x e) (alike-out f x leaves out)

    as_many : (f : Ticket → Ticket) → map asking (with_ticket t f core.tickets) ≡ map asking core.tickets → gone (with_ticket t f core.tickets) ≡ gone core.tickets
    as_many f same = left-asking (with_ticket t f core.tickets) ∙ ap left_in same ∙ sym (left-asking core.tickets)

    module _ (c m : ℕ) (tested : tests c x ≡ true) (out : is_out x.phase ≡ true) (born : IsBorn marks c m) where
      -- the core behind the Closed of the connection under test
      stands-refused : StandsIn (record core { tickets = with_ticket t to_connect core.tickets }) (marks ++ Closed c ∷ [])
      stands-refused =
          let here = test-found core sound k t c x e tested in
          stands-closed_tested core marks c (with_ticket t to_connect core.tickets) (alike to_connect (λ y. refl) out)
          (changed_born marks t to_connect core.tickets (λ y. tt) s.tested_born)
          (tested-changed core sound k t c to_connect x e tested (λ y. refl)) here.unowned here.restless here.below s

      -- the connection under test is closed, and its ticket connects
      makes-refused : MakesIn core.options.max_connections marks (Closed c ∷ []) (record core { tickets = with_ticket t to_connect core.tickets })
      makes-refused =
          let new = record core { tickets = with_ticket t to_connect core.tickets } in
          let same = as_many to_connect (alike to_connect (λ y. refl) out) in
          let all = sound.within in
          makes-one core.options.max_connections marks (Closed c) new stands-refused
          (fair-closed core.options.max_connections core new marks s c m None born stands-refused (omega (arith, same, all)))

      -- the connection under test is closed, and the first idle one is taken
      makes-next : (i : Idle C) (rest : List (Idle C)) → core.idle ≡ i ∷ rest → core.shut ≡ false
          → MakesIn core.options.max_connections marks (Closed c ∷ Taken i.lent.id ∷ []) (core_without_first (record core { tickets = with_ticket t (to_next i) core.tickets }))
      makes-next i rest first open_yet =
          let here = test-found core sound k t c x e tested in
          let resting_one = idle-first core sound i rest first in
          let one = resting_one.idle in
          let apart : (c == i.lent.id) ≡ false = ne_eqb c i.lent.id (λ same. let r = here.restless in let o : count_by (rests c) core.idle ≡ 1 = ap (λ (n : ℕ). count_by (rests n) core.idle) same ∙ one in absurd (omega (arith, r, o))) in
          let mid = record core { tickets = with_ticket t (to_next i) core.tickets } in
          let its : IsBorn marks i.lent.id i.lent.created.0 = All-head (IsIdleBorn marks) i rest (subst (All (IsIdleBorn marks)) first s.idle_born) in
          let same = as_many (to_next i) (alike (to_next i) (λ y. refl) out) in
          let closed : StandsIn mid (marks ++ Closed c ∷ []) = stands-closed_tested core marks c (with_ticket t (to_next i) core.tickets) (alike (to_next i) (λ y. refl) out)
          (changed_born marks t (to_next i) core.tickets (λ y. its) s.tested_born)
          (tested-changed core sound k t c (to_next i) x e tested (λ y. apart)) here.unowned here.restless here.below s in
          let after : StandsIn (core_without_first mid) ((marks ++ Closed c ∷ []) ++ Taken i.lent.id ∷ []) = stands-taken mid (marks ++ Closed c ∷ []) i rest first (omega (arith, one)) resting_one.below closed in
          let long : length core.idle ≡ suc (length rest) = ap length first in
          let short : length (drop 1 core.idle) ≡ length rest = ap (λ l. length (drop 1 l)) first in
          let all = sound.within in
          makes-more core.options.max_connections marks (Closed c) (Taken i.lent.id ∷ []) (core_without_first mid)
          (fair-closed core.options.max_connections core mid marks s c m (Some (Taken i.lent.id)) born closed (omega (arith, same, all)))
          (makes-one core.options.max_connections (marks ++ Closed c ∷ []) (Taken i.lent.id) (core_without_first mid) after
          (fair-taken core.options.max_connections mid (core_without_first mid) (marks ++ Closed c ∷ []) closed i rest None open_yet first after (omega (arith, same, long, short, all))))

      -- the connection under test is closed, and its ticket ends
      makes-stopped : MakesIn core.options.max_connections marks (Closed c ∷ Ended t ∷ []) (core_without_ticket t core)
      makes-stopped =
          let mid = record core { tickets = with_ticket t to_connect core.tickets } in
          let new = core_without_ticket t core in
          let same = as_many to_connect (alike to_connect (λ y. refl) out) in
          let all = sound.within in
          let there : ticket_of k t mid.tickets ≡ Some (to_connect x) = ticket-changed k t to_connect core.tickets x (λ y. (refl, refl)) e in
          let gone_too : without_ticket t (with_ticket t to_connect core.tickets) ≡ without_ticket t core.tickets = gone-changed t to_connect core.tickets (λ y. refl) in
          let made : StandsIn (core_without_ticket t mid) ((marks ++ Closed c ∷ []) ++ Ended t ∷ []) = stands-ended mid (marks ++ Closed c ∷ []) t (ticket-below core sound k t x e) stands-refused in
          let after : StandsIn new ((marks ++ Closed c ∷ []) ++ Ended t ∷ []) = subst (λ l. StandsIn (record core { tickets = l }) ((marks ++ Closed c ∷ []) ++ Ended t ∷ [])) gone_too made in
          let le = gone-ended_le t core.tickets in
          makes-more core.options.max_connections marks (Closed c) (Ended t ∷ []) new
          (fair-closed core.options.max_connections core mid marks s c m (Some (Ended t)) born stands-refused (omega (arith, same, all)))
          (makes-one core.options.max_connections (marks ++ Closed c ∷ []) (Ended t) new after
          (fair-ended core.options.max_connections mid new (marks ++ Closed c ∷ []) stands-refused k t (to_connect x) None there after (omega (arith, le, all))))

      -- the connection under test is lent, and its ticket ends
      makes-ready : (created : Moment) → created.0 ≡ m → core.shut ≡ false → MakesIn core.options.max_connections marks (Lent k c ∷ Ended t ∷ []) (core_without_ticket t (lent_to k c created core))
      makes-ready created same open_yet =
          let here = test-found core sound k t c x e tested in
          makes-served core.options.max_connections core marks s sound.within k t c created x core.last open_yet e out (ticket-below core sound k t x e)
          (subst (IsBorn marks c) (sym same) born) here.below here.unowned here.restless

    -- what an answer makes of a ticket under test
    goes : (next : Bool) (idle : List (Idle C)) → core.idle ≡ idle → (c m : ℕ) → tests c x ≡ true → is_out x.phase ≡ true → IsBorn marks c m → core.shut ≡ false
        → MakesIn core.options.max_connections marks (test_marks k t c (after_refusal next idle)) (after_test k t (after_refusal next idle) core)
    goes true [] is c m tested out born open_yet = makes-refused c m tested out born
    goes false [] is c m tested out born open_yet = makes-refused c m tested out born
    goes false (i ∷ rest) is c m tested out born open_yet = makes-refused c m tested out born
    goes true (i ∷ rest) is c m tested out born open_yet = makes-next c m tested out born i rest is open_yet

    tested-answer : (next : Bool) (verdict : Verdict C) (created : Moment) → tests (judged verdict) x ≡ true → is_out x.phase ≡ true → IsBorn marks (judged verdict) created.0 → (shut : Bool) → core.closed ≡ shut
        → MakesIn core.options.max_connections marks (test_marks k t (judged verdict) (test_answer (Some created) shut next core.idle verdict)) (after_test k t (test_answer (Some created) shut next core.idle verdict) core)
    tested-answer next (verdict.Accepted lent) created tested out born true is = makes-stopped lent.id created.0 tested out born
    tested-answer next (verdict.Refused c) created tested out born true is = makes-stopped c created.0 tested out born
    tested-answer next (verdict.Accepted lent) created tested out born false is = makes-ready lent.id created.0 tested out born created refl (sound.own is)
    tested-answer next (verdict.Refused c) created tested out born false is = goes next core.idle refl c created.0 tested out born (sound.own is)

    tested-at : (next : Bool) (verdict : Verdict C) (d before : ℕ) (created : Moment) → x.phase ≡ phase.Testing d created before → (b : Bool) → (judged verdict == d) ≡ b
        → MakesIn core.options.max_connections marks (test_marks k t (judged verdict) (test_answer (cond b (Some created) None) core.closed next core.idle verdict)) (after_test k t (test_answer (cond b (Some created) None) core.closed next core.idle verdict) core)
    tested-at next v d before created is false other = nothing
    tested-at next v d before created is true same =
        let number : judged v ≡ d = eqb-true (judged v) d same in
        let own : IsTestedBorn marks x.phase = found_All (is_of k t) (IsTicketBorn marks) core.tickets x e s.tested_born in
        let there : IsBorn marks d created.0 = subst (IsTestedBorn marks) is own in
        tested-answer next v created (ap (is_tested (judged v)) is ∙ same) (ap is_out is) (subst (λ n. IsBorn marks n created.0) (sym number) there) core.closed refl

    tested-phase : (next : Bool) (verdict : Verdict C) (p : Phase) → x.phase ≡ p
        → MakesIn core.options.max_connections marks (test_marks k t (judged verdict) (test_answer (tested_at (judged verdict) (Some p)) core.closed next core.idle verdict)) (after_test k t (test_answer (tested_at (judged verdict) (Some p)) core.closed next core.idle verdict) core)
    tested-phase next v (phase.Testing d created before) is = tested-at next v d before created is (judged v == d) refl
    tested-phase next v phase.Waiting is = nothing
    tested-phase next v phase.Connecting is = nothing
    tested-phase next v (phase.Backoff until) is = nothing

    -- ---- after a connect

    -- the new connection is lent, and the ticket ends
    makes-connected : (m : ℕ) → core.shut ≡ false → is_out x.phase ≡ true
        → MakesIn core.options.max_connections marks (Opened core.next_conn m ∷ Lent k core.next_conn ∷ Ended t ∷ []) (at_moment m (core_without_ticket t (lent_to k core.next_conn (record { 0 = m }) (opened core))))
    makes-connected m open_yet out =
        let n = Opened core.next_conn m in
        let mid = opened core in
        let there : StandsIn mid (marks ++ n ∷ []) = stands-opened core marks m s in
        let nowhere = sound.opened core.next_conn (omega arith) in
        makes-more core.options.max_connections marks n (Lent k core.next_conn ∷ Ended t ∷ []) (at_moment m (core_without_ticket t (lent_to k core.next_conn (record { 0 = m }) (opened core))))
        (fair-opened core.options.max_connections core mid marks s m (Some (Lent k core.next_conn)) open_yet there sound.within)
        (makes-served core.options.max_connections mid (marks ++ n ∷ []) there sound.within k t core.next_conn (record { 0 = m }) x m open_yet e out (ticket-below core sound k t x e)
        (born-opened core marks m s) (omega arith) (omega (arith, nowhere)) (omega (arith, nowhere)))

    -- the try was refused, and the ticket waits for the next
    makes-waits : (m until : ℕ) → is_out x.phase ≡ true → MakesIn core.options.max_connections marks [] (at_moment m (record core { tickets = with_ticket t (λ x. to_back_off (wait_of x) until x) core.tickets }))
    makes-waits m until out =
        let f = λ (y : Ticket). to_back_off (wait_of y) until y in
        makes-none core.options.max_connections marks (at_moment m (record core { tickets = with_ticket t f core.tickets }))
        (stands-beside (record core { tickets = with_ticket t f core.tickets }) marks core.options core.places m
        (stands-alike core marks (with_ticket t f core.tickets) (alike f (λ y. refl) out) (changed_born marks t f core.tickets (λ y. tt) s.tested_born) s))

    connected-answer : (m : ℕ) (tried : Tried C) → is_out x.phase ≡ true → (shut : Bool) → core.closed ≡ shut
        → MakesIn core.options.max_connections marks (connect_marks k t m (try_answer_at phase.Connecting x shut core.next_conn m tried)) (after_connect k t m (try_answer_at phase.Connecting x shut core.next_conn m tried) core)
    connected-answer m tried out true is = makes-ended core marks sound s k t m x e m
    connected-answer m (tried.Opened raw) out false is = makes-connected m (sound.own is) out
    connected-answer m tried.Rejected out false is = makes-waits m (m + wait_of x) out
    connected-answer m tried.Transient out false is = makes-waits m (m + wait_of x) out
    connected-answer m tried.Fatal out false is = makes-ended core marks sound s k t m x e m

    connected-phase : (m : ℕ) (tried : Tried C) (p : Phase) → x.phase ≡ p
        → MakesIn core.options.max_connections marks (connect_marks k t m (try_answer_at p x core.closed core.next_conn m tried)) (after_connect k t m (try_answer_at p x core.closed core.next_conn m tried) core)
    connected-phase m tried phase.Connecting is = connected-answer m tried (ap is_out is) core.closed refl
    connected-phase m tried phase.Waiting is = nothing
    connected-phase m tried (phase.Testing c created before) is = nothing
    connected-phase m tried (phase.Backoff until) is = nothing

    -- ---- cancelled

    cancelled-phase : (p : Phase) → x.phase ≡ p → MakesIn core.options.max_connections marks (cancel_marks t (may_cancel (Some p))) (cancelled t (may_cancel (Some p)) core)
    cancelled-phase phase.Waiting is = makes-ended core marks sound s k t core.last x e core.last
    cancelled-phase (phase.Backoff until) is = makes-ended core marks sound s k t core.last x e core.last
    cancelled-phase phase.Connecting is = nothing
    cancelled-phase (phase.Testing c created before) is = nothing

  tested-ticket : (next : Bool) (verdict : Verdict C) (o : Option Ticket) → ticket_of k t core.tickets ≡ o
      → MakesIn core.options.max_connections marks (test_marks k t (judged verdict) (test_answer (tested_at (judged verdict) (option_map (λ (x : Ticket). x.phase) o)) core.closed next core.idle verdict))
      (after_test k t (test_answer (tested_at (judged verdict) (option_map (λ (x : Ticket). x.phase) o)) core.closed next core.idle verdict) core)
  tested-ticket next v None e = nothing
  tested-ticket next v (Some x) e = tested-phase x e next v x.phase refl

  connected-ticket : (m : ℕ) (tried : Tried C) (o : Option Ticket) → ticket_of k t core.tickets ≡ o
      → MakesIn core.options.max_connections marks (connect_marks k t m (connect_answer o core.closed core.next_conn m tried)) (after_connect k t m (connect_answer o core.closed core.next_conn m tried) core)
  connected-ticket m tried None e = nothing
  connected-ticket m tried (Some x) e = connected-phase x e m tried x.phase refl

  cancelled-ticket : (o : Option Ticket) → ticket_of k t core.tickets ≡ o
      → MakesIn core.options.max_connections marks (cancel_marks t (may_cancel (option_map (λ (x : Ticket). x.phase) o))) (cancelled t (may_cancel (option_map (λ (x : Ticket). x.phase) o)) core)
  cancelled-ticket None e = nothing
  cancelled-ticket (Some x) e = cancelled-phase x e x.phase refl

  -- What follows a test.
  pub makes-tested : (next : Bool) (verdict : Verdict C)
      → MakesIn core.options.max_connections marks (test_marks k t (judged verdict) (test_answer (tested_at (judged verdict) (phase_for k t core.tickets)) core.closed next core.idle verdict))
      (after_test k t (test_answer (tested_at (judged verdict) (phase_for k t core.tickets)) core.closed next core.idle verdict) core)
  makes-tested next v = tested-ticket next v (ticket_of k t core.tickets) refl

  -- What follows a try of a connect.
  pub makes-tried : (m : ℕ) (tried : Tried C)
      → MakesIn core.options.max_connections marks (connect_marks k t m (connect_answer (ticket_of k t core.tickets) core.closed core.next_conn m tried))
      (after_connect k t m (connect_answer (ticket_of k t core.tickets) core.closed core.next_conn m tried) core)
  makes-tried m tried = connected-ticket m tried (ticket_of k t core.tickets) refl

  -- What a cancel makes.
  pub makes-cancelled : MakesIn core.options.max_connections marks (cancel_marks t (may_cancel (phase_for k t core.tickets))) (cancelled t (may_cancel (phase_for k t core.tickets)) core)
  makes-cancelled = cancelled-ticket (ticket_of k t core.tickets) refl

-- ---- lent past the line

module _ {C : Type 0} (core : Core C) (marks : List Mark) (sound : IsSound core) (s : StandsIn core marks) (k m : ℕ) (passes : Bool) (open_yet : passes ≡ true → core.closed ≡ false) where
  lent-first : (i : Idle C) (rest : List (Idle C)) → core.idle ≡ i ∷ rest → passes ≡ true
      → MakesWhere (PastOwnLine core passes) core.options.max_connections marks (Taken i.lent.id ∷ Lent k i.lent.id ∷ []) (at_moment m (lent_to k i.lent.id i.lent.created (core_without_first core)))
  lent-first i rest first passed =
      let is_open : core.shut ≡ false = sound.own (open_yet passed) in
      let c = i.lent.id in
      let here = idle-first core sound i rest first in
      let once = here.idle in
      let mid = core_without_first core in
      let born : IsBorn marks c i.lent.created.0 = All-head (IsIdleBorn marks) i rest (subst (All (IsIdleBorn marks)) first s.idle_born) in
      let taken : StandsIn mid (marks ++ Taken c ∷ []) = stands-taken core marks i rest first (omega (arith, once)) here.below s in
      let born_still : IsBorn (marks ++ Taken c ∷ []) c i.lent.created.0 = IsBorn-push marks (Taken c) c i.lent.created.0 refl born in
      let one : cond {A = ℕ} (c == c) 1 0 ≡ 1 = ap (λ (b : Bool). cond {A = ℕ} b 1 0) (same_number c) in
      let whole : count_by (rests c) core.idle ≡ cond {A = ℕ} (c == c) 1 0 + count_by (rests c) rest = ap (count_by (rests c)) first ∙ count_by-cons (rests c) i rest in
      let left_over : count_by (rests c) (drop 1 core.idle) ≡ count_by (rests c) rest = ap (λ l. count_by (rests c) (drop 1 l)) first in
      let restless : count_by (rests c) (drop 1 core.idle) ≡ 0 = omega (arith, once, one, whole, left_over) in
      let lent : StandsIn (lent_to k c i.lent.created mid) ((marks ++ Taken c ∷ []) ++ Lent k c ∷ [])
      = stands-lent mid (marks ++ Taken c ∷ []) k c i.lent.created here.unowned born_still here.below taken in
      let new = at_moment m (lent_to k c i.lent.created mid) in
      let after : StandsIn new ((marks ++ Taken c ∷ []) ++ Lent k c ∷ []) = stands-beside (lent_to k c i.lent.created mid) ((marks ++ Taken c ∷ []) ++ Lent k c ∷ []) core.options core.places m lent in
      let long : length core.idle ≡ suc (length rest) = ap length first in
      let short : length (drop 1 core.idle) ≡ length rest = ap (λ l. length (drop 1 l)) first in
      let all = sound.within in
      let more : length new.held ≡ length core.held + 1 = length-push core.held _ in
      let line = waiting-stands mid (marks ++ Taken c ∷ []) taken in
      let permits = free-places mid (marks ++ Taken c ∷ []) taken in
      makes-more core.options.max_connections marks (Taken c) (Lent k c ∷ []) new
      (fair-taken core.options.max_connections core mid marks s i rest (Some (Lent k c)) is_open first taken (omega (arith, long, short, all)))
      (makes-one core.options.max_connections (marks ++ Taken c ∷ []) (Lent k c) new after
      (fair-lent core.options.max_connections mid new (marks ++ Taken c ∷ []) taken k c i.lent.created.0 is_open born_still restless here.unowned
      (λ own. let past = own.first passed in let all_owned = ap (λ (n : ℕ). free_in n (view_of (marks ++ Taken c ∷ []))) own.all in omega (arith, line, permits, past, all_owned)) after (omega (arith, long, short, more, all))))

  try-idle : (idle : List (Idle C)) → core.idle ≡ idle → (may : Bool) → passes ≡ may
      → MakesWhere (PastOwnLine core passes) core.options.max_connections marks (try_marks k (try_lent may idle)) (after_try k m (try_lent may idle) core)
  try-idle [] is true e = makes-none core.options.max_connections marks core s
  try-idle [] is false e = makes-none core.options.max_connections marks core s
  try-idle (i ∷ rest) is false e = makes-none core.options.max_connections marks core s
  try-idle (i ∷ rest) is true e = lent-first i rest is e

  -- What a try makes.
  pub makes-try : MakesWhere (PastOwnLine core passes) core.options.max_connections marks (try_marks k (try_lent passes core.idle)) (after_try k m (try_lent passes core.idle) core)
  makes-try = try-idle core.idle refl passes refl
