-- Idle connections that leave one by one, by the stage and by the marks.
use Rattle.std.proofs.Common.{◌≡◌, ℕ, ◌+◌, ◌-◌, ◌≤◌, ◌||◌, Bool, true, false, not, cond, List, [], ◌∷◌, ◌++◌, length, map, filter, find, count_by, Some, None, All, refl, sym, ap, subst, ◌∙◌, append-nil, append_assoc, arith}
use Rattle.std.proofs.lemmas.List.Elements.{All-head, All-tail}
use Rattle.sqlx_text.specs.declared.moment.Moment.{Moment}
use Rattle.sqlx_pool_marks.specs.declared.mark.Mark.{Mark}
use Rattle.sqlx_pool_marks.specs.declared.mark.Mark.TheVariants.{Reaped}
use Rattle.sqlx_pool_lists.specs.declared.options.PoolOptions.{PoolOptions}
use Rattle.sqlx_pool_lists.specs.declared.steps.Idle.{Idle}
use Rattle.sqlx_pool_lists.specs.Core.{Core, resting}
use Rattle.sqlx_pool_lists.specs.Edits.{at_moment, without_idle}
use Rattle.sqlx_pool_marks.specs.EventTable.{is_idle_too_long, is_old_since, is_beyond_at}
use Rattle.sqlx_pool_lists.specs.MaintenanceSteps.{is_reaped_at, reap_answer}
use Rattle.sqlx_pool_lists.specs.Makes.{Makes}
use Rattle.sqlx_pool_marks.specs.Marks.{idle_of, next_conn}
use Rattle.sqlx_pool_lists.specs.Sound.{IsNumbered, rests}
use Rattle.sqlx_pool_marks.specs.Born.{IsBorn}
use Rattle.sqlx_pool_lists.specs.StandsFor.{StandsFor}
use Rattle.sqlx_play.proofs.events.Numbers.{idle-found}
use Rattle.sqlx_pool_marks.proofs.ListFacts.{same_number, count_by-cons, filter_none, found_counts, length-filter_not, map-append, length_map}
use Rattle.mem_store.specs.Store.{Store, Link}
use Rattle.sqlx_savepoints.specs.Changes.{leaves, History}
use Rattle.sqlx_script.specs.declared.pool_line.PoolLine.{PoolLine}
use Rattle.sqlx_script.specs.declared.step.Event.{Event}
use Rattle.sqlx_script.specs.declared.step.Step.TheVariants.{Reap}
use Rattle.sqlx_script.specs.declared.reply.Reply.{Reply}
use Rattle.sqlx_script.specs.declared.reply.Reply.TheVariants as reply
use Rattle.sqlx_play.specs.declared.outside.ScriptOutside.{ScriptOutside}
use Rattle.sqlx_play.specs.stage.Scene.{Scene}
use Rattle.sqlx_script_rules.specs.ScriptMarks.{marks_of, openings, line_limits, reaped_of, reaping}
use Rattle.sqlx_script_rules.specs.ScriptLevels.{gone_by, history_of}
use Rattle.sqlx_play.specs.stage.LinksStand.{LinksStand}
use Rattle.sqlx_play.specs.stage.StageStands.{IsSetUp, StageStands}
use Rattle.sqlx_script_rules.specs.Answer.{opened_for_minimum}
use Rattle.sqlx_play.specs.stage.StageAdvance.{IsAt, StageAdvance}
use Rattle.sqlx_play.specs.events.KeepsMinimum.{core_passes, KeepsMinimum}
use Rattle.sqlx_play.specs.events.Reaps.{reapable, reap_mark, Reaps, ReapsOne, ReapsAll}
use Rattle.sqlx_play.proofs.events.SetUpLimits.{limits-set_up}
use Rattle.sqlx_play.proofs.events.StageAdvanceLemmas.{at-pairs, at-next, comes-then, comes-nowhere, comes-stands}
use Rattle.sqlx_play.proofs.upkeep.KeepsMinimumLemmas.{passes-stands}
use Rattle.sqlx_script_rules.proofs.Gone.{gone-openings}
use Rattle.sqlx_play.proofs.links.LinksGone.{closed_in, links-unrest}
use Rattle.sqlx_play.proofs.links.LinksSame.{links-same}
use Rattle.sqlx_play.proofs.links.OneOut.{found-by_number}
use Rattle.sqlx_script_rules.proofs.Pairs.{tries_of-push}
use Rattle.sqlx_script_rules.specs.Pairs.{Pairs}

-- ---- one out of a list

none_passes : {X : Type 0} (p : X → Bool) (xs : List X) → find p xs ≡ None → filter p xs ≡ []
none_passes p [] e = refl
none_passes {X} p (x ∷ xs) e = by (none_passes p xs) (p x) e
  where
    by : (find p xs ≡ None → filter p xs ≡ []) → (b : Bool) → cond b (Some x) (find p xs) ≡ None → cond b (x ∷ filter p xs) (filter p xs) ≡ []
    by rest true k = absurd cc
    by rest false k = rest k

-- the first that passes, and the others that do
passing-first : (p : Idle Link → Bool) (xs : List (Idle Link)) (i : Idle Link) → find p xs ≡ Some i → count_by (rests i.lent.id) xs ≤ 1 → filter p xs ≡ i ∷ filter p (without_idle i.lent.id xs)
passing-first p [] i e one = absurd cc
passing-first p (x ∷ xs) i e one = by (λ k h. passing-first p xs i k h) (p x) refl e (rests i.lent.id x) refl (let same = count_by-cons (rests i.lent.id) x xs in omega (arith, one, same))
  where
    by : (find p xs ≡ Some i → count_by (rests i.lent.id) xs ≤ 1 → filter p xs ≡ i ∷ filter p (without_idle i.lent.id xs))
        → (a : Bool) → p x ≡ a → cond a (Some x) (find p xs) ≡ Some i → (b : Bool) → rests i.lent.id x ≡ b → cond (rests i.lent.id x) 1 0 + count_by (rests i.lent.id) xs ≤ 1
        → cond a (x ∷ filter p xs) (filter p xs) ≡ i ∷ filter p (cond (not b) (x ∷ without_idle i.lent.id xs) (without_idle i.lent.id xs))
    by rest true is k true e' h =
        let same : x ≡ i = cc in
        let first : cond {A = ℕ} (rests i.lent.id x) 1 0 ≡ 1 = ap (λ (c : Bool). cond {A = ℕ} c 1 0) e' in
        let none : count_by (rests i.lent.id) xs ≡ 0 = omega (arith, first, h) in
        λ j. same j ∷ filter p (sym (filter_none (rests i.lent.id) xs none) j)
    by rest true is k false e' h =
        let same : x ≡ i = cc in
        let yes : rests i.lent.id x ≡ true = ap (rests i.lent.id) same ∙ same_number i.lent.id in
        let wrong : true ≡ false = sym yes ∙ e' in
        absurd cc
    by rest false is k true e' h =
        let some = found_counts p (rests i.lent.id) xs i k (same_number i.lent.id) in
        let first : cond {A = ℕ} (rests i.lent.id x) 1 0 ≡ 1 = ap (λ (c : Bool). cond {A = ℕ} c 1 0) e' in
        absurd (omega (arith, some, first, h))
    by rest false is k false e' h =
        let kept : filter p (x ∷ without_idle i.lent.id xs) ≡ filter p (without_idle i.lent.id xs) = ap (λ (c : Bool). cond c (x ∷ filter p (without_idle i.lent.id xs)) (filter p (without_idle i.lent.id xs))) is in
        rest k (omega (arith, h)) ∙ ap (λ (l : List (Idle Link)). i ∷ l) (sym kept)

-- ---- one step

-- the core after it
answered_none : (b : Bool) (options : PoolOptions) (m : ℕ) (idle : List (Idle Link)) → None ≡ reap_answer b options m idle → cond b (filter (is_reaped_at options m) idle) [] ≡ []
answered_none true options m idle e = none_passes (is_reaped_at options m) idle (sym e)
answered_none false options m idle e = refl

answered_some : (b : Bool) (options : PoolOptions) (m : ℕ) (idle : List (Idle Link)) (i : Idle Link) → Some i ≡ reap_answer b options m idle → (b ≡ true) × (find (is_reaped_at options m) idle ≡ Some i)
answered_some true options m idle i e = (refl, sym e)
answered_some false options m idle i e = absurd cc

pub reaps-none : (old : Scene) (core : Core Link) (m m' : ℕ) → m' ≡ m → None ≡ reap_answer (core_passes old.core) old.core.options m' old.core.idle → core ≡ old.core → ReapsOne old (record old { core = core }) m false
reaps-none old core m m' same answer becomes =
    let none : reapable m old.core ≡ [] = answered_none (core_passes old.core) old.core.options m old.core.idle (answer ∙ ap (λ (k : ℕ). reap_answer (core_passes old.core) old.core.options k old.core.idle) same) in
    subst (λ (c : Core Link). ReapsOne old (record old { core = c }) m false) (sym becomes)
    (record { beyond = refl; comes = λ marks past at. comes-nowhere old marks past at; next = refl; fewer = omega arith }, none)

pub reaps-one : (old : Scene) (core : Core Link) (out : ScriptOutside) (i : Idle Link) (m m' : ℕ) → m' ≡ m → IsNumbered old.core → Some i ≡ reap_answer (core_passes old.core) old.core.options m' old.core.idle
    → core ≡ at_moment m' (record old.core { idle = without_idle i.lent.id old.core.idle })
    → ((marks : List Mark) → StandsFor old.core marks → Makes old.core.options.max_connections marks (Reaped i.lent.id ∷ []) core)
    → out.store ≡ closed_in i.lent.raw.depth old.out.store
    → ReapsOne old (record old { core = core; out = out }) m true
reaps-one old core out i m m' same sound answer becomes makes closed =
    let told = answered_some (core_passes old.core) old.core.options m old.core.idle i (answer ∙ ap (λ (k : ℕ). reap_answer (core_passes old.core) old.core.options k old.core.idle) same) in
    let test = is_reaped_at old.core.options m in
    let here = idle-found old.core sound i.lent.id (found_counts test (rests i.lent.id) old.core.idle i told.1 (same_number i.lent.id)) in
    let idle = here.idle in
    let one : count_by (rests i.lent.id) old.core.idle ≤ 1 = omega (arith, idle) in
    let found : find (rests i.lent.id) old.core.idle ≡ Some i = found-by_number (λ (j : Idle Link). j.lent.id) test old.core.idle i told.1 one in
    let left : core.idle ≡ without_idle i.lent.id old.core.idle = ap (λ (c : Core Link). c.idle) becomes in
    let still : core_passes core ≡ core_passes old.core = ap core_passes becomes in
    let limits : core.options ≡ old.core.options = ap (λ (c : Core Link). c.options) becomes in
    let behind : reapable m core ≡ filter test (without_idle i.lent.id old.core.idle) = (λ j. cond (still j) (filter (is_reaped_at (limits j) m) (left j)) []) ∙ ap (λ (b : Bool). cond b (filter test (without_idle i.lent.id old.core.idle)) []) told.0 in (
      i,
      record {
        beyond = ap (λ (b : Bool). cond b (filter test old.core.idle) []) told.0 ∙ passing-first test old.core.idle i told.1 one ∙ ap (λ (l : List (Idle Link)). i ∷ l) (sym behind);
        comes = λ marks past at. record {
          pool = refl;
          makes = makes marks at.stands;
          options = limits;
          places = ap (λ (c : Core Link). c.places) becomes ∙ at.places;
          tickets = ap (λ (c : Core Link). c.tickets) becomes;
          next = ap (λ (c : Core Link). c.next_ticket) becomes;
          links = subst (λ (s : Store). LinksStand core s old.lent.items (leaves i.lent.id ∷ past)) (sym closed)
              (links-same (record old.core { idle = without_idle i.lent.id old.core.idle }) core (closed_in i.lent.raw.depth old.out.store) old.lent.items (leaves i.lent.id ∷ past)
              (links-unrest old.core old.out.store old.lent.items past i at.links found one here.unowned)
              (ap (λ (c : Core Link). c.held) becomes) left (ap (λ (c : Core Link). c.next_conn) becomes));
        };
        next = ap (λ (c : Core Link). c.next_conn) becomes;
        fewer =
            let all = length-filter_not (rests i.lent.id) old.core.idle in
            let size : length core.idle ≡ length (without_idle i.lent.id old.core.idle) = ap length left in
            omega (arith, all, idle, size);
      },
    )

-- ---- several steps

gone-more : (one two : List (Idle Link)) (past : History) → gone_by (map reap_mark two) (gone_by (map reap_mark one) past) ≡ gone_by (map reap_mark (one ++ two)) past
gone-more [] two past = refl
gone-more (i ∷ one) two past = gone-more one two (leaves i.lent.id ∷ past)

pub reaps-nothing : (old : Scene) (m : ℕ) → Reaps old old m []
reaps-nothing old m = record { beyond = refl; comes = λ marks past at. comes-nowhere old marks past at; next = refl; fewer = omega arith }

pub reaps-then : (old mid new : Scene) (m : ℕ) (one two : List (Idle Link)) → Reaps old mid m one → Reaps mid new m two → Reaps old new m (one ++ two)
reaps-then old mid new m one two a b = record {
  beyond = a.beyond ∙ ap (λ (l : List (Idle Link)). one ++ l) b.beyond ∙ sym (append_assoc one two (reapable m new.core));
  comes = λ marks past at.
      let first = a.comes marks past at in
      let past' = gone_by (map reap_mark one) past in
      let second = b.comes (marks ++ map reap_mark one) past' (at-next old mid marks (map reap_mark one) past past' at first) in
      subst (λ (l : List Mark). StageAdvance old new marks l (gone_by (map reap_mark (one ++ two)) past)) (sym (map-append reap_mark one two))
      (subst (λ (h : History). StageAdvance old new marks (map reap_mark one ++ map reap_mark two) h) (gone-more one two past)
      (comes-then old mid new marks (map reap_mark one) (map reap_mark two) past' (gone_by (map reap_mark two) past') first second));
  next = b.next ∙ a.next;
  fewer = let x = a.fewer in let y = b.fewer in let both = length_append one two in omega (arith, x, y, both);
}
  where
    length_append : (xs ys : List (Idle Link)) → length (xs ++ ys) ≡ length xs + length ys
    length_append [] ys = omega arith
    length_append (x ∷ xs) ys = let rest = length_append xs ys in omega (arith, rest)

-- none is left
pub reaps-whole : (old mid new : Scene) (m before after : ℕ) → ((taken : List (Idle Link)) × Reaps old mid m taken) → ReapsOne mid new m false → before ≡ length old.core.idle → after ≡ length new.core.idle → ReapsAll old new m (before - after)
reaps-whole old mid new m before after (taken, reaps) (last, none) first second =
    let whole : Reaps old new m taken = subst (Reaps old new m) (append-nil taken) (reaps-then old mid new m taken [] reaps last) in
    let fewer = whole.fewer in
    (taken, whole, none, omega (arith, fewer, first, second))

-- ---- by the marks

beyond_alike : (pool : PoolLine) (options : PoolOptions) (marks : List Mark) (m : ℕ) (i : Idle Link) → IsSetUp pool options → IsBorn marks i.lent.id i.lent.created.0 → is_beyond_at (line_limits pool) m marks (resting i) ≡ is_reaped_at options m i
beyond_alike pool options marks m i s born = λ j. is_idle_too_long (limits-set_up pool options s j) i.since.0 m || is_old_since (limits-set_up pool options s j) (born j) m

beyond_filter : (pool : PoolLine) (options : PoolOptions) (marks : List Mark) (m : ℕ) (idle : List (Idle Link)) → IsSetUp pool options → All (λ (i : Idle Link). IsBorn marks i.lent.id i.lent.created.0) idle
    → map resting (filter (is_reaped_at options m) idle) ≡ filter (is_beyond_at (line_limits pool) m marks) (map resting idle)
beyond_filter pool options marks m [] s born = refl
beyond_filter pool options marks m (i ∷ idle) s born =
    let rest = beyond_filter pool options marks m idle s (All-tail (λ (i : Idle Link). IsBorn marks i.lent.id i.lent.created.0) i idle born) in
    by (is_reaped_at options m i)
    ∙ (λ j. cond (sym (beyond_alike pool options marks m i s (All-head (λ (i : Idle Link). IsBorn marks i.lent.id i.lent.created.0) i idle born)) j) (resting i ∷ rest j) (rest j))
  where
    by : (b : Bool) → map resting (cond b (i ∷ filter (is_reaped_at options m) idle) (filter (is_reaped_at options m) idle)) ≡ cond b (resting i ∷ map resting (filter (is_reaped_at options m) idle)) (map resting (filter (is_reaped_at options m) idle))
    by true = refl
    by false = refl

reapable-stands : (stage : Scene) (marks : List Mark) (past : History) (m : ℕ) → IsAt stage marks past → map resting (reapable m stage.core) ≡ reaped_of stage.pool marks m
reapable-stands stage marks past m at =
    by (core_passes stage.core) ∙ (λ j. cond (passes-stands stage.pool stage.core marks at.set_up at.places at.stands j) (all j) [])
  where
    all : map resting (filter (is_reaped_at stage.core.options m) stage.core.idle) ≡ filter (is_beyond_at (line_limits stage.pool) m marks) (idle_of marks)
    all = beyond_filter stage.pool stage.core.options marks m stage.core.idle at.set_up at.stands.idle_born ∙ ap (filter (is_beyond_at (line_limits stage.pool) m marks)) at.stands.idle

    by : (b : Bool) → map resting (cond b (filter (is_reaped_at stage.core.options m) stage.core.idle) []) ≡ cond b (map resting (filter (is_reaped_at stage.core.options m) stage.core.idle)) []
    by true = refl
    by false = refl

marks_alike : (taken : List (Idle Link)) → map reap_mark taken ≡ map reaping (map resting taken)
marks_alike [] = refl
marks_alike (i ∷ taken) = ap (λ (l : List Mark). Reaped i.lent.id ∷ l) (marks_alike taken)

gone-behind : (taken : List (Idle Link)) (more : List Mark) (past : History) → gone_by (map reap_mark taken ++ more) past ≡ gone_by more (gone_by (map reap_mark taken) past)
gone-behind [] more past = refl
gone-behind (i ∷ taken) more past = gone-behind taken more (leaves i.lent.id ∷ past)

pub plays-reap : (old mid new : Scene) (pairs : Pairs) (moment : Moment) (opens count n : ℕ) → StageStands old pairs → mid.pool ≡ old.pool → ReapsAll old mid moment.0 count → KeepsMinimum mid new moment.0 opens n
    → (let beyond = reaped_of old.pool (marks_of old.pool pairs) moment.0 in reply.Reaped count n ≡ reply.Reaped (length beyond) (opened_for_minimum old.pool (marks_of old.pool pairs ++ map reaping beyond) opens))
    × StageStands new (pairs ++ (record { moment = moment; step = Reap opens }, reply.Reaped count n) ∷ [])
plays-reap old mid new pairs moment opens count n s pool (taken, reaps, none, counted) fills =
    let pair : Event × Reply = (record { moment = moment; step = Reap opens }, reply.Reaped count n) in
    let marks = marks_of old.pool pairs in
    let past = history_of old.pool pairs in
    let at = at-pairs old pairs s in
    let beyond = reaped_of old.pool marks moment.0 in
    let whole : taken ≡ reapable moment.0 old.core = sym (append-nil taken) ∙ ap (λ (l : List (Idle Link)). taken ++ l) (sym none) ∙ sym reaps.beyond in
    let those : map resting taken ≡ beyond = ap (map resting) whole ∙ reapable-stands old marks past moment.0 at in
    let so_many : count ≡ length beyond = counted ∙ sym (length_map resting taken) ∙ ap length those in
    let made : map reap_mark taken ≡ map reaping beyond = marks_alike taken ∙ ap (map reaping) those in
    let first = reaps.comes marks past at in
    let past' = gone_by (map reap_mark taken) past in
    let filled = fills (marks ++ map reap_mark taken) past' (at-next old mid marks (map reap_mark taken) past past' at first) in
    let next : next_conn (marks ++ map reap_mark taken) ≡ next_conn marks = sym first.makes.stands.conn_number ∙ reaps.next ∙ s.stands.conn_number in
    let both = comes-then old mid new marks (map reap_mark taken) (openings n (next_conn (marks ++ map reap_mark taken)) moment.0) past' past' first filled.1 in
    let all : map reap_mark taken ++ openings n (next_conn (marks ++ map reap_mark taken)) moment.0 ≡ map reaping beyond ++ openings n (next_conn marks) moment.0 = λ j. made j ++ openings n (next j) moment.0 in
    let over : past' ≡ gone_by (map reaping beyond ++ openings n (next_conn marks) moment.0) past =
    sym (gone-openings n (next_conn marks) moment.0 past') ∙ sym (gone-behind taken (openings n (next_conn marks) moment.0) past) ∙ ap (λ (l : List Mark). gone_by (l ++ openings n (next_conn marks) moment.0) past) made in (
      (λ j. reply.Reaped (so_many j) ((filled.0 ∙ (λ k. opened_for_minimum (pool k) (marks ++ made k) opens)) j)),
      comes-stands old new pairs pair s (λ t. tries_of-push t pairs pair) (subst (StageAdvance old new marks (map reaping beyond ++ openings n (next_conn marks) moment.0)) over (subst (λ (l : List Mark). StageAdvance old new marks l past') all both)),
    )
