-- What the first step of a poll makes of a core that stands for the marks.
use Rattle.std.proofs.Common.{◌≡◌, ℕ, suc, ◌^◌, ◌<◌, Bool, true, false, cond, not, ◌&&◌, ◌==◌, nat_le, nat_lt, List, [], ◌∷◌, ◌++◌, map, drop, length, All, Option, Some, None, option_map, refl, sym, ap, ap₂, ◌∙◌, subst, arith}
use Rattle.std.proofs.lemmas.Bool.{ltb-true, and_parts}
use Rattle.std.proofs.lemmas.List.Elements.{All-head}
use Rattle.sqlx_pool_marks.specs.declared.mark.Mark.{Mark}
use Rattle.sqlx_pool_marks.specs.declared.mark.Mark.TheVariants.{Left, Taken, Ended}
use Rattle.sqlx_pool_lists.specs.declared.ticket.Ticket.{Ticket}
use Rattle.sqlx_pool_lists.specs.declared.ticket.Phase.{Phase}
use Rattle.sqlx_pool_lists.specs.declared.ticket.Phase.TheVariants as phase
use Rattle.sqlx_pool_marks.specs.declared.turn.Turn.{Turn}
use Rattle.sqlx_pool_marks.specs.declared.turn.Turn.TheVariants as turned
use Rattle.sqlx_pool_lists.specs.declared.steps.Idle.{Idle}
use Rattle.sqlx_pool_marks.specs.Standing.{last_mark}
use Rattle.sqlx_pool_marks.specs.Counts.{before_in}
use Rattle.sqlx_pool_marks.specs.View.{view_of, before, free as free_in}
use Rattle.sqlx_pool_lists.specs.Core.{Core, asking, resting, is_out, is_of, ticket_of, free}
use Rattle.sqlx_pool_marks.specs.PollTable.{in_time, first_idle, numbered}
use Rattle.sqlx_pool_lists.specs.PollTable.{is_at_rest, backs_off_until}
use Rattle.sqlx_pool_lists.specs.CoreTurn.{before as before_own, turn_of, InOwnLine}
use Rattle.sqlx_pool_lists.specs.Sound.{IsSound}
use Rattle.sqlx_pool_marks.specs.Born.{IsBorn}
use Rattle.sqlx_pool_lists.specs.StandsFor.{StandsIn}
use Rattle.sqlx_pool_lists.specs.Edits.{with_ticket, without_ticket, to_test, to_try, to_try_at, to_connect, core_without_ticket, core_without_first, at_moment}
use Rattle.sqlx_pool_lists.specs.PollSteps.{phase_for, start_answer, start_marks, started}
use Rattle.sqlx_pool_marks.specs.FairLog.{is_in_line, KeepsSize, GoesOn}
use Rattle.sqlx_pool_marks.proofs.ListFacts.{found_passes}
use Rattle.sqlx_pool_core.proofs.Stands.{stands-beside, stands-alike, IsIdleBorn, IsTicketBorn}
use Rattle.sqlx_pool_core.proofs.EachMark.{Leaves, stands-left, stands-ended, stands-taken, changed_born}
use Rattle.sqlx_pool_core.proofs.TurnAtMarks.{free-places, before-asking}
use Rattle.sqlx_pool_core.proofs.Known.{ticket-below, ticket-is_only, ticket-changed, alike-changed, gone-changed, gone-ended_le, gone-left_le, idle-first}
use Rattle.sqlx_pool_lists.specs.Makes.{MakesWhere}
use Rattle.sqlx_pool_core.proofs.Fair.{IsMark, makes-none, makes-one, makes-more, open-stands, within-stands, ticket-any, fair-ended, fair-taken}

-- ---- changes of a ticket that leaves

try_leaves : (m : ℕ) → Leaves (to_try m)
try_leaves m x = by x.phase
  where
    by : (p : Phase) → asking (to_try_at m p x) ≡ record (asking x) { left = true }
    by phase.Waiting = refl
    by (phase.Testing c created before) = refl
    by phase.Connecting = refl
    by (phase.Backoff until) = refl

try_born : (marks : List Mark) (m : ℕ) (x : Ticket) → IsTicketBorn marks (to_try m x)
try_born marks m x = by x.phase
  where
    by : (p : Phase) → IsTicketBorn marks (to_try_at m p x)
    by phase.Waiting = tt
    by (phase.Testing c created before) = tt
    by phase.Connecting = tt
    by (phase.Backoff until) = tt

-- a ticket that has left the line says the same after a change by which it would leave
pub alike-out : (f : Ticket → Ticket) (x : Ticket) → Leaves f → is_out x.phase ≡ true → asking (f x) ≡ asking x
alike-out f x leaves out = leaves x ∙ ap (λ (b : Bool). record (asking x) { left = b }) (sym out)

-- ---- the marks of a start

module _ {C : Type 0} (core : Core C) (marks : List Mark) (sound : IsSound core) (s : StandsIn core marks) (k t m : ℕ) (x : Ticket) (e : ticket_of k t core.tickets ≡ Some x) where
  -- the ticket ends where it stands
  pub makes-ended : {W : Type 0} (last : ℕ) → MakesWhere W core.options.max_connections marks (Ended t ∷ []) (record (core_without_ticket t core) { last = last })
  makes-ended last =
      let new = record (core_without_ticket t core) { last = last } in
      let after : StandsIn new (marks ++ Ended t ∷ []) = stands-beside (core_without_ticket t core) (marks ++ Ended t ∷ []) core.options core.places last (stands-ended core marks t (ticket-below core sound k t x e) s) in
      makes-one core.options.max_connections marks (Ended t) new after
      (fair-ended core.options.max_connections core new marks s k t x None e after (let le = gone-ended_le t core.tickets in let all = sound.within in omega (arith, le, all)))

  -- a ticket in backoff tries again
  makes-again : {W : Type 0} → is_out x.phase ≡ true → MakesWhere W core.options.max_connections marks [] (at_moment m (record core { tickets = with_ticket t (to_try m) core.tickets }))
  makes-again out =
      let mid = record core { tickets = with_ticket t (to_try m) core.tickets } in
      let alike = alike-changed t (to_try m) x core.tickets (ticket-is_only core sound k t x e) (alike-out (to_try m) x (try_leaves m) out) in
      makes-none core.options.max_connections marks (at_moment m mid)
      (stands-beside mid marks core.options core.places m
      (stands-alike core marks (with_ticket t (to_try m) core.tickets) alike (changed_born marks t (to_try m) core.tickets (try_born marks m) s.tested_born) s))

module _ {C : Type 0} (core : Core C) (marks : List Mark) (sound : IsSound core) (s : StandsIn core marks) (q : Bool) (turn : q ≡ true) (k t m : ℕ) (x : Ticket) (e : ticket_of k t core.tickets ≡ Some x) where
  -- a Left of a ticket that waits; it is in order where the ticket is in turn in the pool's own line
  fair-left : (next : Option Mark) → core.shut ≡ false → x.phase ≡ phase.Waiting
      → (InOwnLine core marks t q → GoesOn (view_of marks) t (map resting core.idle) next) → KeepsSize core.options.max_connections (view_of (marks ++ Left t ∷ [])) (Left t) next
      → IsMark (InOwnLine core marks t q) core.options.max_connections (view_of marks) (view_of (marks ++ Left t ∷ [])) (last_mark None marks) (Left t) next
  fair-left next open_yet waiting goes keeps =
      let mine : (t == x.number) ≡ true = (and_parts (t == x.number) (k == x.client) (found_passes (is_of k t) core.tickets x e)).0 in
      let in_line : is_in_line t (asking x) ≡ true = ap₂ ◌&&◌ mine (ap (λ p. not (is_out p)) waiting) in
      let less = free-places core marks s in
      let same : before t (view_of marks) ≡ before_own t core.tickets = ap (before_in t) (sym s.tickets) ∙ sym (before-asking t core.tickets) in
      record {
        finds = open-stands core marks s open_yet;
        keeps = keeps;
        order = λ w.
            let all = w.all in
            let lt = w.first turn in
            let free : before t (view_of marks) < free_in core.options.max_connections (view_of marks) = subst (λ (n : ℕ). before t (view_of marks) < free_in n (view_of marks)) all (omega (arith, less, same, lt)) in
            (ticket-any core marks s (is_in_line t) k t x e in_line, free, subst (λ l. GoesOn (view_of marks) t l next) s.idle (goes w));
      }

  module _ (open_yet : core.shut ≡ false) (waiting : x.phase ≡ phase.Waiting) (permit : 0 < free core) where
    -- the numbers of connections are used up
    makes-exhausted : 2 ^ 63 < core.next_conn → MakesWhere (InOwnLine core marks t q) core.options.max_connections marks (Left t ∷ Ended t ∷ []) (at_moment m (core_without_ticket t core))
    makes-exhausted used =
        let below = ticket-below core sound k t x e in
        let mid = record core { tickets = with_ticket t to_connect core.tickets } in
        let left : StandsIn mid (marks ++ Left t ∷ []) = stands-left core marks t to_connect (λ y. refl) (λ y. tt) below s in
        let there : ticket_of k t mid.tickets ≡ Some (to_connect x) = ticket-changed k t to_connect core.tickets x (λ y. (refl, refl)) e in
        let gone_too : without_ticket t (with_ticket t to_connect core.tickets) ≡ without_ticket t core.tickets = gone-changed t to_connect core.tickets (λ y. refl) in
        let new = at_moment m (core_without_ticket t core) in
        let made : StandsIn (core_without_ticket t mid) ((marks ++ Left t ∷ []) ++ Ended t ∷ []) = stands-ended mid (marks ++ Left t ∷ []) t below left in
        let after : StandsIn new ((marks ++ Left t ∷ []) ++ Ended t ∷ [])
        = stands-beside (core_without_ticket t core) ((marks ++ Left t ∷ []) ++ Ended t ∷ []) core.options core.places m (subst (λ l. StandsIn (record core { tickets = l }) ((marks ++ Left t ∷ []) ++ Ended t ∷ [])) gone_too made) in
        makes-more core.options.max_connections marks (Left t) (Ended t ∷ []) new
        (fair-left (Some (Ended t)) open_yet waiting (λ w. goes w core.idle) tt)
        (makes-one core.options.max_connections (marks ++ Left t ∷ []) (Ended t) new after
        (fair-ended core.options.max_connections mid new (marks ++ Left t ∷ []) left k t (to_connect x) None there after
        (let le = gone-ended_le t core.tickets in let all = sound.within in omega (arith, le, all))))
      where
        goes : InOwnLine core marks t q → (l : List (Idle C)) → GoesOn (view_of marks) t (map resting l) (Some (Ended t))
        goes w [] = tt
        goes w (i ∷ rest) = (refl, let number = w.conns in omega (arith, number, used))

    -- the first idle connection is tested
    pub makes-test : (i : Idle C) (rest : List (Idle C)) → core.idle ≡ i ∷ rest
        → MakesWhere (InOwnLine core marks t q) core.options.max_connections marks (Left t ∷ Taken i.lent.id ∷ []) (at_moment m (core_without_first (record core { tickets = with_ticket t (to_test m i) core.tickets })))
    makes-test i rest first =
        let below = ticket-below core sound k t x e in
        let mid = record core { tickets = with_ticket t (to_test m i) core.tickets } in
        let born : IsBorn marks i.lent.id i.lent.created.0 = All-head (IsIdleBorn marks) i rest (subst (All (IsIdleBorn marks)) first s.idle_born) in
        let left : StandsIn mid (marks ++ Left t ∷ []) = stands-left core marks t (to_test m i) (λ y. refl) (λ y. born) below s in
        let resting_one = idle-first core sound i rest first in
        let one = resting_one.idle in
        let new = at_moment m (core_without_first mid) in
        let made : StandsIn (core_without_first mid) ((marks ++ Left t ∷ []) ++ Taken i.lent.id ∷ []) = stands-taken mid (marks ++ Left t ∷ []) i rest first (omega (arith, one)) resting_one.below left in
        let after : StandsIn new ((marks ++ Left t ∷ []) ++ Taken i.lent.id ∷ []) = stands-beside (core_without_first mid) ((marks ++ Left t ∷ []) ++ Taken i.lent.id ∷ []) core.options core.places m made in
        let long : length core.idle ≡ suc (length rest) = ap length first in
        let short : length (drop 1 core.idle) ≡ length rest = ap (λ l. length (drop 1 l)) first in
        let more = gone-left_le core sound t (to_test m i) in
        let all = sound.within in
        makes-more core.options.max_connections marks (Left t) (Taken i.lent.id ∷ []) new
        (fair-left (Some (Taken i.lent.id)) open_yet waiting (λ w. subst (λ l. GoesOn (view_of marks) t (map resting l) (Some (Taken i.lent.id))) (sym first) refl) tt)
        (makes-one core.options.max_connections (marks ++ Left t ∷ []) (Taken i.lent.id) new after
        (fair-taken core.options.max_connections mid new (marks ++ Left t ∷ []) left i rest None open_yet first after (omega (arith, long, short, more, all))))

    -- none is idle, and one is connected
    makes-connect : core.idle ≡ [] → MakesWhere (InOwnLine core marks t q) core.options.max_connections marks (Left t ∷ []) (at_moment m (record core { tickets = with_ticket t (to_try m) core.tickets }))
    makes-connect none =
        let mid = record core { tickets = with_ticket t (to_try m) core.tickets } in
        let new = at_moment m mid in
        let left : StandsIn mid (marks ++ Left t ∷ []) = stands-left core marks t (to_try m) (try_leaves m) (try_born marks m) (ticket-below core sound k t x e) s in
        let after : StandsIn new (marks ++ Left t ∷ []) = stands-beside mid (marks ++ Left t ∷ []) core.options core.places m left in
        let long : length core.idle ≡ 0 = ap length none in
        let more = gone-left_le core sound t (to_try m) in
        makes-one core.options.max_connections marks (Left t) new after
        (fair-left None open_yet waiting (λ w. subst (λ l. GoesOn (view_of marks) t (map resting l) None) (sym none) tt)
        (within-stands new (marks ++ Left t ∷ []) after core.options.max_connections (let owns = sound.owns in omega (arith, long, more, permit, owns))))

-- ---- the start

-- what a turn makes
abbrev Starts : {C : Type 0} → Core C → List Mark → Bool → ℕ → ℕ → Option Phase → List (Idle C) → Turn → Type 0
Starts core marks q t m p idle turn = MakesWhere (InOwnLine core marks t q) core.options.max_connections marks (start_marks t p (start_answer turn idle)) (started t m (start_answer turn idle) core)

module _ {C : Type 0} (core : Core C) (marks : List Mark) (sound : IsSound core) (s : StandsIn core marks) (q : Bool) (permit : q ≡ true → 0 < free core) (k t m : ℕ) where
  nothing : MakesWhere (InOwnLine core marks t q) core.options.max_connections marks [] core
  nothing = makes-none core.options.max_connections marks core s

  module _ (x : Ticket) (e : ticket_of k t core.tickets ≡ Some x) where
    over : MakesWhere (InOwnLine core marks t q) core.options.max_connections marks (Ended t ∷ []) (at_moment m (core_without_ticket t core))
    over = makes-ended core marks sound s k t m x e m

    start-idle : q ≡ true → core.shut ≡ false → x.phase ≡ phase.Waiting → 0 < free core → (idle : List (Idle C)) → core.idle ≡ idle
        → Starts core marks q t m (Some phase.Waiting) idle (first_idle idle)
    start-idle turn open_yet waiting lt [] is = makes-connect core marks sound s q turn k t m x e open_yet waiting lt is
    start-idle turn open_yet waiting lt (i ∷ rest) is = makes-test core marks sound s q turn k t m x e open_yet waiting lt i rest is

    start-numbered : q ≡ true → core.shut ≡ false → x.phase ≡ phase.Waiting → 0 < free core → (b : Bool) → nat_lt (2 ^ 63) core.next_conn ≡ b
        → Starts core marks q t m (Some phase.Waiting) core.idle (cond b turned.Exhausted (first_idle core.idle))
    start-numbered turn open_yet waiting lt true is = makes-exhausted core marks sound s q turn k t m x e open_yet waiting lt (ltb-true (2 ^ 63) core.next_conn is)
    start-numbered turn open_yet waiting lt false is = start-idle turn open_yet waiting lt core.idle refl

    start-placed : core.shut ≡ false → x.phase ≡ phase.Waiting → (b : Bool) → q ≡ b
        → Starts core marks q t m (Some phase.Waiting) core.idle (cond b (numbered core.next_conn (first_idle core.idle)) turned.Waiting)
    start-placed open_yet waiting false is = nothing
    start-placed open_yet waiting true is = start-numbered is open_yet waiting (permit is) (nat_lt (2 ^ 63) core.next_conn) refl

    start-waiting : x.phase ≡ phase.Waiting → (shut late : Bool) → core.closed ≡ shut
        → Starts core marks q t m (Some phase.Waiting) core.idle
        (cond shut turned.Closed (cond late turned.TimedOut (cond q (numbered core.next_conn (first_idle core.idle)) turned.Waiting)))
    start-waiting waiting true late is = over
    start-waiting waiting false true is = over
    start-waiting waiting false false is = start-placed (sound.own is) waiting q refl

    start-backoff : (until : ℕ) → is_out x.phase ≡ true → (shut late early used : Bool)
        → Starts core marks q t m (Some (phase.Backoff until)) core.idle
        (cond shut turned.Closed (cond late turned.TimedOut (cond early (turned.Backoff until) (cond used turned.Exhausted turned.Connect))))
    start-backoff until out true late early used = over
    start-backoff until out false true early used = over
    start-backoff until out false false true used = nothing
    start-backoff until out false false false true = over
    start-backoff until out false false false false = makes-again core marks sound s k t m x e out

    start-phase : (p : Phase) → x.phase ≡ p → Starts core marks q t m (Some p) core.idle (cond (is_at_rest p) (cond core.closed turned.Closed (cond (nat_le x.deadline m) turned.TimedOut (in_time m q core.next_conn core.idle (is_out p) (backs_off_until p)))) turned.NotHeld)
    start-phase phase.Waiting is = start-waiting is core.closed (nat_le x.deadline m) refl
    start-phase (phase.Testing c created before) is = nothing
    start-phase phase.Connecting is = nothing
    start-phase (phase.Backoff until) is = start-backoff until (ap is_out is) core.closed (nat_le x.deadline m) (nat_lt m until) (nat_lt (2 ^ 63) core.next_conn)

  start-ticket : (o : Option Ticket) → ticket_of k t core.tickets ≡ o → Starts core marks q t m (option_map (λ (x : Ticket). x.phase) o) core.idle (turn_of q core.closed m core o)
  start-ticket None e = nothing
  start-ticket (Some x) e = start-phase x e x.phase refl

  -- A start makes the marks of its turn, and what stands for them.
  pub makes-start : MakesWhere (InOwnLine core marks t q) core.options.max_connections marks (start_marks t (phase_for k t core.tickets) (start_answer (turn_of q core.closed m core (ticket_of k t core.tickets)) core.idle))
      (started t m (start_answer (turn_of q core.closed m core (ticket_of k t core.tickets)) core.idle) core)
  makes-start = start-ticket (ticket_of k t core.tickets) refl
