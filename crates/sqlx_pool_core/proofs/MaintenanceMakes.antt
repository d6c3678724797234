-- What reaping, the minimum and closing make of a core that stands for the marks.
use Rattle.std.proofs.Common.{◌≡◌, ℕ, ◌+◌, ◌-◌, ◌≤◌, Bool, true, false, IsTrue, List, [], ◌∷◌, ◌++◌, map, find, length, Option, Some, None, refl, sym, subst, arith}
use Rattle.std.proofs.lemmas.List.Elements.{All-head}
use Rattle.sqlx_pool_marks.specs.declared.mark.Mark.{Mark}
use Rattle.sqlx_pool_marks.specs.declared.mark.Mark.TheVariants.{Reaped, Opened, Kept, Closed, Shut}
use Rattle.sqlx_pool_lists.specs.declared.steps.Idle.{Idle}
use Rattle.sqlx_pool_lists.specs.declared.steps.Lent.{Lent as LentValue}
use Rattle.sqlx_pool_marks.specs.Standing.{last_mark}
use Rattle.sqlx_pool_lists.specs.Core.{Core}
use Rattle.sqlx_pool_lists.specs.Sound.{IsSound, rests}
use Rattle.sqlx_pool_marks.specs.Born.{IsBorn}
use Rattle.sqlx_pool_lists.specs.StandsFor.{StandsIn}
use Rattle.sqlx_pool_marks.specs.FairLog.{opens_it, first_of_marks}
use Rattle.sqlx_pool_lists.specs.Edits.{without_idle, kept, opened, at_moment}
use Rattle.sqlx_pool_lists.specs.MaintenanceSteps.{is_reaped_at, reap_answer, reap_marks, reaped, placed, done_marks, placed_back, done_at, done, closed_idle, close_marks, closed, closed_from}
use Rattle.sqlx_pool_marks.proofs.ListFacts.{found_counts, found_any, length-filter_not, length-push, count_by-cons, same_number}
use Rattle.sqlx_pool_marks.proofs.Pushed.{last_mark-push}
use Rattle.sqlx_pool_core.proofs.Stands.{stands-beside, stands-counted, IsIdleBorn}
use Rattle.sqlx_pool_core.proofs.EachMark.{stands-opened, born-opened, stands-kept_new, stands-shut}
use Rattle.sqlx_pool_core.proofs.Gone.{stands-closed_first, stands-reaped}
use Rattle.sqlx_pool_core.proofs.Known.{idle-found, idle-first}
use Rattle.sqlx_pool_lists.specs.Makes.{MakesIn}
use Rattle.sqlx_pool_core.proofs.Fair.{makes-none, makes-one, makes-more, fair-reaped, fair-opened, fair-kept_new, fair-closed, fair-shut}

-- ---- reaped

module _ {C : Type 0} (core : Core C) (marks : List Mark) (sound : IsSound core) (s : StandsIn core marks) (m : ℕ) where
  reap-found : (i : Idle C) → find (is_reaped_at core.options m) core.idle ≡ Some i → core.shut ≡ false
      → MakesIn core.options.max_connections marks (Reaped i.lent.id ∷ []) (at_moment m (record core { idle = without_idle i.lent.id core.idle }))
  reap-found i e open_yet =
      let c = i.lent.id in
      let here = idle-found core sound c (found_counts (is_reaped_at core.options m) (rests c) core.idle i e (same_number c)) in
      let there = found_any (is_reaped_at core.options m) (rests c) core.idle i e (same_number c) in
      let mid = record core { idle = without_idle c core.idle } in
      let new = at_moment m mid in
      let after : StandsIn new (marks ++ Reaped c ∷ []) = stands-beside mid (marks ++ Reaped c ∷ []) core.options core.places m (stands-reaped core marks c here.untested here.unowned here.below s) in
      let parts = length-filter_not (rests c) core.idle in
      let all = sound.within in
      makes-one core.options.max_connections marks (Reaped c) new after
      (fair-reaped core.options.max_connections core new marks s c None open_yet there after (omega (arith, parts, all)))

  reap-at : (o : Option (Idle C)) → find (is_reaped_at core.options m) core.idle ≡ o → core.shut ≡ false → MakesIn core.options.max_connections marks (reap_marks o) (reaped m o core)
  reap-at None e open_yet = makes-none core.options.max_connections marks core s
  reap-at (Some i) e open_yet = reap-found i e open_yet

  reap-may : (may : Bool) → (may ≡ true → core.closed ≡ false)
      → MakesIn core.options.max_connections marks (reap_marks (reap_answer may core.options m core.idle)) (reaped m (reap_answer may core.options m core.idle) core)
  reap-may false e = makes-none core.options.max_connections marks core s
  reap-may true e = reap-at (find (is_reaped_at core.options m) core.idle) refl (sound.own (e refl))

  -- What a reap makes.
  pub makes-reap : (passes : Bool) → (passes ≡ true → core.closed ≡ false)
      → MakesIn core.options.max_connections marks (reap_marks (reap_answer passes core.options m core.idle)) (reaped m (reap_answer passes core.options m core.idle) core)
  makes-reap = reap-may

  -- ---- the minimum

  done-opened : (raw : C) → core.shut ≡ false → 1 ≤ core.places
      → MakesIn core.options.max_connections marks (Opened core.next_conn m ∷ Kept core.next_conn m ∷ []) (at_moment m (placed_back (done_at false m (Some raw) core)))
  done-opened raw open_yet placed =
      let n = core.next_conn in
      let lent : LentValue C = record { id = n; created = record { 0 = m }; raw = raw } in
      let mid = opened core in
      let nowhere = sound.opened n (omega arith) in
      let there : StandsIn mid (marks ++ Opened n m ∷ []) = stands-opened core marks m s in
      let made : StandsIn (kept lent m mid) ((marks ++ Opened n m ∷ []) ++ Kept n m ∷ [])
      = stands-kept_new mid (marks ++ Opened n m ∷ []) lent m (omega (arith, nowhere)) (omega (arith, nowhere)) (born-opened core marks m s) (omega arith) there in
      let new = at_moment m (placed_back (kept lent m mid)) in
      let after : StandsIn new ((marks ++ Opened n m ∷ []) ++ Kept n m ∷ []) = stands-beside (kept lent m mid) ((marks ++ Opened n m ∷ []) ++ Kept n m ∷ []) core.options (core.places - 1) m made in
      let before_it : IsTrue (opens_it n (Some (Opened n m))) = same_number n in
      let opens : IsTrue (opens_it n (last_mark None (marks ++ Opened n m ∷ []))) = subst (λ o. IsTrue (opens_it n o)) (sym (last_mark-push marks (Opened n m))) before_it in
      let more : length new.idle ≡ length core.idle + 1 = length-push core.idle _ in
      let all = sound.within in
      makes-more core.options.max_connections marks (Opened n m) (Kept n m ∷ []) new
      (fair-opened core.options.max_connections core mid marks s m (Some (Kept n m)) open_yet there all)
      (makes-one core.options.max_connections (marks ++ Opened n m ∷ []) (Kept n m) new after
      (fair-kept_new core.options.max_connections mid new (marks ++ Opened n m ∷ []) there n m None open_yet opens after (omega (arith, more, placed, all))))

  done-plain : MakesIn core.options.max_connections marks [] (at_moment m (placed_back core))
  done-plain = makes-none core.options.max_connections marks (at_moment m (placed_back core)) (stands-beside core marks core.options (core.places - 1) m s)

  done-with : (shut : Bool) (raw : Option C) → core.closed ≡ shut → 1 ≤ core.places
      → MakesIn core.options.max_connections marks (done_marks shut core.next_conn m raw) (at_moment m (placed_back (done_at shut m raw core)))
  done-with true None e placed = done-plain
  done-with true (Some raw) e placed = done-plain
  done-with false None e placed = done-plain
  done-with false (Some raw) e placed = done-opened raw (sound.own e) placed

  -- What the end of a connect for the minimum makes.
  pub makes-done : (raw : Option C) → 1 ≤ core.places → MakesIn core.options.max_connections marks (done_marks core.closed core.next_conn m raw) (done core.closed m raw core)
  makes-done raw placed = done-with core.closed raw refl placed

-- What holding a place makes, and what not holding one makes: no mark.
pub makes-placed : {C : Type 0} (core : Core C) (marks : List Mark) → IsSound core → StandsIn core marks → (held : Bool) → MakesIn core.options.max_connections marks [] (placed held core)
makes-placed core marks sound s true = makes-none core.options.max_connections marks (placed true core) (stands-beside core marks core.options (core.places + 1) core.last s)
makes-placed core marks sound s false = makes-none core.options.max_connections marks core s

-- ---- closed

-- a core with one idle connection fewer is sound
sound-rest : {C : Type 0} (core : Core C) (i : Idle C) (rest : List (Idle C)) → IsSound (record core { idle = i ∷ rest }) → IsSound (record core { idle = rest })
sound-rest core i rest a = record {
  some = a.some;
  few = a.few;
  tries = a.tries;
  few_tries = a.few_tries;
  rising = a.rising;
  within = let le = a.within in omega (arith, le);
  few_tickets = a.few_tickets;
  numbers = a.numbers;
  paid = a.paid;
  owns = a.owns;
  own = a.own;
  once = λ c. let le = a.once c in let parts = count_by-cons (rests c) i rest in omega (arith, le, parts);
  opened = λ c le. let none = a.opened c le in let parts = count_by-cons (rests c) i rest in omega (arith, none, parts);
}

closes-each : {C : Type 0} (core : Core C) (idle : List (Idle C)) (marks : List Mark) → IsSound (record core { idle = idle }) → StandsIn (record core { idle = idle }) marks
    → MakesIn core.options.max_connections marks (map closed_idle idle) (record core { idle = [] })
closes-each core [] marks sound s = makes-none core.options.max_connections marks (record core { idle = [] }) s
closes-each {C} core (i ∷ rest) marks sound s =
    let c = i.lent.id in
    let old = record core { idle = i ∷ rest } in
    let here = idle-first old sound i rest refl in
    let once = here.idle in
    let born : IsBorn marks c i.lent.created.0 = All-head (IsIdleBorn marks) i rest s.idle_born in
    let after : StandsIn (record core { idle = rest }) (marks ++ Closed c ∷ []) = stands-closed_first old marks i rest refl (omega (arith, once)) here.untested here.unowned here.below s in
    let fewer = sound-rest core i rest sound in
    makes-more core.options.max_connections marks (Closed c) (map closed_idle rest) (record core { idle = [] })
    (fair-closed core.options.max_connections old (record core { idle = rest }) marks s c i.lent.created.0 (first_of_marks (map closed_idle rest)) born after fewer.within)
    (closes-each core rest (marks ++ Closed c ∷ []) fewer after)

closes-all : {C : Type 0} (core : Core C) (marks : List Mark) → IsSound core → StandsIn core marks → (shut : Bool) → core.shut ≡ shut
    → MakesIn core.options.max_connections marks (close_marks shut core.idle) (closed_from shut core)
closes-all core marks sound s true e = makes-none core.options.max_connections marks core s
closes-all core marks sound s false e =
    let mid = record core { shut = true; closed = true } in
    let shut : StandsIn mid (marks ++ Shut ∷ []) = stands-counted (record core { shut = true }) (marks ++ Shut ∷ []) true (stands-shut core marks s) in
    let same : IsSound mid = record {
      some = sound.some;
      few = sound.few;
      tries = sound.tries;
      few_tries = sound.few_tries;
      rising = sound.rising;
      within = sound.within;
      few_tickets = sound.few_tickets;
      numbers = sound.numbers;
      paid = sound.paid;
      owns = sound.owns;
      own = λ (e : true ≡ false). absurd cc;
      once = sound.once;
      opened = sound.opened;
    } in
    makes-more core.options.max_connections marks Shut (map closed_idle core.idle) (closed core)
    (fair-shut core.options.max_connections core mid marks s (first_of_marks (map closed_idle core.idle)) e shut sound.within)
    (closes-each mid core.idle (marks ++ Shut ∷ []) same shut)

-- What a close makes: nothing where the pool was closed before.
pub makes-close : {C : Type 0} (core : Core C) (marks : List Mark) → IsSound core → StandsIn core marks
    → MakesIn core.options.max_connections marks (close_marks core.shut core.idle) (closed_from core.shut core)
makes-close core marks sound s = closes-all core marks sound s core.shut refl
