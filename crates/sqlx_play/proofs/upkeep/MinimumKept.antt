-- What keeping the pool's minimum comes to over the outside of a script.
use Rattle.std.proofs.Common.{◌≡◌, ℕ, zero, suc, ◌+◌, ◌-◌, ◌^◌, ◌≤◌, ◌<◌, Bool, true, false, not, ◌||◌, cond, nat_lt, max, ◌⊎◌, inl, inr, List, [], ◌∷◌, Some, None, Result, Ok, Err, refl, sym, ap, subst, ◌∙◌, append-nil, arith}
use Rattle.std.proofs.lemmas.Bool.{lt-ltb}
use Rattle.sqlx_text.specs.declared.error.Error.{Error}
use Rattle.sqlx_pool_marks.specs.declared.mark.Mark.{Mark}
use Rattle.sqlx_pool_lists.specs.Core.{Core, size}
use Rattle.sqlx_pool_lists.specs.Makes.{Makes}
use Rattle.sqlx_pool_lists.specs.StandsFor.{StandsFor}
use Rattle.sqlx_pool_lists.specs.Edits.{at_moment}
use Rattle.sqlx_pool_lists.specs.MaintenanceSteps.{has_place, placed, placed_back, done_at}
use Rattle.sqlx_pool_core.specs.Outside.{is_transient}
use Rattle.sqlx_pool_core.specs.declared.idle_check.Opening.{Opening}
use Rattle.sqlx_pool_core.specs.declared.idle_check.Opening.TheVariants as opening
use Rattle.sqlx_pool_core.specs.Chain.{KeepsIf, Follows, Tries}
use Rattle.sqlx_pool_core.specs.Minimum.{filled, filled_marks, opened_of, is_short, Keeps}
use Rattle.sqlx_pool_core.specs.Outside.{is_want}
use Rattle.sqlx_script.specs.declared.answers.ConnectAnswer.{ConnectAnswer}
use Rattle.sqlx_script.specs.declared.answers.ConnectAnswer.TheVariants as letter
use Rattle.sqlx_script.specs.Built.{sets_up}
use Rattle.mem_store.specs.Store.{Link, Store, connected, new_link}
use Rattle.sqlx_play.specs.declared.outside.ScriptOutside.{ScriptOutside}
use Rattle.sqlx_play.specs.stage.Scene.{Scene}
use Rattle.sqlx_play.specs.stage.StageAdvance.{StageAdvance}
use Rattle.sqlx_play.specs.events.KeepsMinimum.{core_passes, KeepsMinimum}
use Rattle.sqlx_play.specs.outside.ScriptCalls.{Does, Connects, is_passing}
use Rattle.sqlx_play.specs.outside.ScriptOutside.{depth_of, next_connect, poll_letters}
use Rattle.sqlx_script_rules.specs.ScriptMarks.{openings}
use Rattle.sqlx_pool_marks.specs.Marks.{next_conn}
use Rattle.sqlx_pool_core.proofs.Maintenance.{place-open}
use Rattle.sqlx_play.proofs.events.StageAdvanceLemmas.{comes-then, at-next}
use Rattle.sqlx_play.proofs.upkeep.KeepsMinimumLemmas.{HasOpened, opened-more, filled-whole, filled-part}
use Rattle.sqlx_play.proofs.links.LinksSame.{links-same, links-as}
use Rattle.sqlx_play.proofs.upkeep.OpensOneLemmas.{opens-none, opens-one}
use Rattle.sqlx_play.proofs.polls.ScriptChain.{set-up, good-set-up}

-- what a try for the minimum comes to, where so many connects are accepted and their hook says sure, and the next connect is refused for good
data Tried (old new : ScriptOutside) : Opening Link → Type 0 where
  opened : 0 < old.opens → new.store ≡ connected (old.store.given + 1) old.store → poll_letters new ≡ poll_letters old → new.opens ≡ old.opens - 1 → Tried old new (opening.Opened (new_link (old.store.given + 1)))
  failed : (e : Error) → (is_want e ≡ true) ⊎ (old.opens ≡ 0) → new.store ≡ old.store → Tried old new (opening.Failed e)

accepted : (n : ℕ) (l : ConnectAnswer) → l ≡ letter.ConnectIo → cond (nat_lt 0 n) letter.Connected l ≡ letter.Connected → 0 < n
accepted zero l is e = absurd (let no : letter.ConnectIo ≡ letter.Connected = sym is ∙ e in cc)
accepted (suc n) l is e = omega arith

by_opens : (n : ℕ) (l : ConnectAnswer) → l ≡ letter.ConnectIo → (cond (nat_lt 0 n) letter.Connected l ≡ letter.Connected) ⊎ ((n ≡ 0) × (cond (nat_lt 0 n) letter.Connected l ≡ letter.ConnectIo))
by_opens zero l is = inr (refl, is)
by_opens (suc n) l is = inl (ap (λ (b : Bool). cond b letter.Connected l) (lt-ltb 0 (suc n) (omega arith)))

not-passing : (l : ConnectAnswer) → (l ≡ letter.Connected) ⊎ (l ≡ letter.ConnectIo) → is_passing l ≡ false
not-passing l (inl e) = ap is_passing e
not-passing l (inr e) = ap is_passing e

failed-so : (old new : ScriptOutside) (e : Error) (b : Bool) → b ≡ false → (is_want e ≡ true) ⊎ (old.opens ≡ 0) → new.store ≡ old.store → Tried old new (cond b opening.Transient (opening.Failed e))
failed-so old new e false is why store = failed e why store
failed-so old new e true is why store = absurd cc

tried : (hook : Bool) (o : Opening Link) (old new : ScriptOutside) → old.connect ≡ letter.ConnectIo → sets_up old.after_connect ≡ true → Tries {O = Unit {0}} Does depth_of hook tt o old new → Tried old new o
tried hook o old new io sure t = by t.answer t.connects.0 t.follows
  where
    kept : (good : Bool) (raw now : Link) (between : ScriptOutside) → raw ≡ new_link (old.store.given + 1) → now ≡ raw → 0 < old.opens → between.store ≡ connected (old.store.given + 1) old.store → poll_letters between ≡ poll_letters old → between.opens ≡ old.opens - 1
        → good ≡ true → KeepsIf {O = Unit {0}} Does depth_of good now o between new → Tried old new o
    kept true raw now between link same some store letters opens good k =
        subst (λ (p : Opening Link). Tried old new p) (sym (k.0 ∙ ap opening.Opened (same ∙ link)))
        (opened some (ap (λ (x : ScriptOutside). x.store) k.1 ∙ store) (ap poll_letters k.1 ∙ letters) (ap (λ (x : ScriptOutside). x.opens) k.1 ∙ opens))
    kept false raw now between link same some store letters opens good k = absurd cc

    always : (b c : Bool) → c ≡ true → (not b || c) ≡ true
    always true c e = e
    always false c e = refl

    by : (r : Result Link Error) → Connects r old t.between → Follows {O = Unit {0}} Does depth_of hook r o t.between new → Tried old new o
    by (Ok raw) c f =
        let s = set-up _ _ _ _ _ _ f.sets_up in
        kept f.good raw f.now f.between c.opened.1 s.link (accepted old.opens old.connect io c.opened.0) (s.store ∙ c.store) (s.letters ∙ c.letters) (s.opens ∙ c.opens)
        (good-set-up _ _ _ _ _ _ c.rests f.sets_up ∙ always hook _ (ap (λ a. sets_up a.after_connect) c.letters ∙ sure)) f.keeps
    by (Err e) c f =
        let either = by_opens old.opens old.connect io in
        let why : (is_want e ≡ true) ⊎ (old.opens ≡ 0) = elim either [ inl is ↦ inl (ap is_want (c.want is)) | inr is ↦ inr is.0 ] in
        let sort : (next_connect old ≡ letter.Connected) ⊎ (next_connect old ≡ letter.ConnectIo) = elim either [ inl is ↦ inl is | inr is ↦ inr is.1 ] in
        subst (λ (p : Opening Link). Tried old new p) (sym f.0)
        (failed-so old new e (is_transient e) (c.passing ∙ not-passing (next_connect old) sort) why (ap (λ (x : ScriptOutside). x.store) f.1 ∙ c.unopened))

-- ---- the openings

freed : (m : ℕ) (e : Error) (core : Core Link) → filled m (opening.Failed e) core ≡ at_moment (max core.last m) (placed_back (placed true core))
freed m e core = by core.shut refl
  where
    by : (b : Bool) → core.shut ≡ b → filled m (opening.Failed e) core ≡ at_moment (max core.last m) (placed_back (placed true core))
    by true is = ap (λ (b : Bool). at_moment (max core.last m) (placed_back (done_at b (max core.last m) None (placed true core)))) is
    by false is = ap (λ (b : Bool). at_moment (max core.last m) (placed_back (done_at b (max core.last m) None (placed true core)))) is

-- a place that was freed again
still : (old mid now : Scene) (m k : ℕ) → HasOpened old mid m k → now.pool ≡ mid.pool → ((marks : List Mark) → StandsFor mid.core marks → Makes mid.core.options.max_connections marks [] now.core)
    → now.core ≡ at_moment (max mid.core.last m) (placed_back (placed true mid.core)) → now.out.store ≡ mid.out.store → now.lent.items ≡ mid.lent.items → HasOpened old now m k
still old mid now m k h pool makes becomes store items =
    let place : mid.core.places + 1 - 1 ≡ mid.core.places = omega arith in
    let whole : now.core ≡ at_moment (max mid.core.last m) mid.core = becomes ∙ ap (λ (n : ℕ). at_moment (max mid.core.last m) (record mid.core { places = n })) place in
    record {
      comes = λ marks past at.
          let first = h.comes marks past at in
          let here = at-next old mid marks (openings k (next_conn marks) m) past past at first in
          subst (λ (l : List Mark). StageAdvance old now marks l past) (append-nil (openings k (next_conn marks) m))
          (comes-then old mid now marks (openings k (next_conn marks) m) [] past past first (record {
            pool = pool;
            makes = makes _ here.stands;
            options = ap (λ (c : Core Link). c.options) whole;
            places = ap (λ (c : Core Link). c.places) whole ∙ here.places;
            tickets = ap (λ (c : Core Link). c.tickets) whole;
            next = ap (λ (c : Core Link). c.next_ticket) whole;
            links = links-as (at_moment (max mid.core.last m) mid.core) now.core mid.out.store now.out.store mid.lent.items now.lent.items past whole store items (links-same mid.core (at_moment (max mid.core.last m) mid.core) mid.out.store mid.lent.items past here.links refl refl refl);
          }));
      passes = ap core_passes whole ∙ h.passes;
      sized = ap size whole ∙ h.sized;
      numbered = ap (λ (c : Core Link). c.next_conn) whole ∙ h.numbered;
      options = ap (λ (c : Core Link). c.options) whole ∙ h.options;
      few = h.few;
    }

late : (a m : ℕ) → a ≤ m → max a m ≤ m
late a m h = omega arith

ended : (n k opens : ℕ) → n ≡ 0 → n + k ≡ opens → k ≡ opens
ended n k opens none all = omega arith

none-left : (n k opens next first : ℕ) → next ≡ first + k → n + k ≡ opens → first + opens ≤ 2 ^ 63 → next ≤ 2 ^ 63
none-left n k opens next first a b c = omega arith

module _ (old : Scene) (m opens : ℕ) (few : old.core.next_conn + opens ≤ 2 ^ 63) where
  abbrev pub Filled : Core Link → ScriptOutside → ℕ → Type 0
  Filled new now n = KeepsMinimum old (record old { core = new; out = now }) m opens n

  by_failed : (e : Error) (core new : Core Link) (out now : ScriptOutside) (k : ℕ) → (is_want e ≡ true) ⊎ (out.opens ≡ 0) → now.store ≡ out.store → is_want e ≡ false
      → HasOpened old (record old { core = core; out = out }) m k → out.opens + k ≡ opens → new ≡ filled m (opening.Failed e) core → ((marks : List Mark) → StandsFor core marks → Makes core.options.max_connections marks [] new) → Filled new now (k + 0)
  by_failed e core new out now k (inl want) store short h all becomes makes = absurd (let no : true ≡ false = sym want ∙ short in cc)
  by_failed e core new out now k (inr none) store short h all becomes makes =
      let is : k ≡ opens = ended out.opens k opens none all in
      let plus : k ≡ k + 0 = omega arith in
      let after = still old (record old { core = core; out = out }) (record old { core = new; out = now }) m k h refl makes (becomes ∙ freed m e core) store refl in
      subst (Filled new now) plus (subst (λ (n : ℕ). KeepsMinimum old (record old { core = new; out = now }) m opens n) (sym is) (filled-whole old (record old { core = new; out = now }) m opens (subst (HasOpened old (record old { core = new; out = now }) m) is after)))

  other_failed : (core new : Core Link) (out now : ScriptOutside) (k : ℕ) (o : Opening Link) → Tried out now o → is_short (o ∷ []) ≡ false
      → HasOpened old (record old { core = core; out = out }) m k → out.opens + k ≡ opens → new ≡ filled m o core → ((marks : List Mark) → StandsFor core marks → Makes core.options.max_connections marks [] new) → opened_of (o ∷ []) ≡ 0 → Filled new now (k + 0)
  other_failed core new out now k o (opened some store letters fewer) short h all becomes makes none = absurd cc
  other_failed core new out now k o (failed e why store) short h all becomes makes none = by_failed e core new out now k why store short h all becomes makes

  -- one more
  one_more : (core : Core Link) (out between : ScriptOutside) (k : ℕ) (raw : Link) (o : Opening Link) → o ≡ opening.Opened raw → Tried out between o → has_place core.options.min_connections core ≡ true
      → ((marks : List Mark) → StandsFor core marks → Makes core.options.max_connections marks (filled_marks m (opening.Opened raw) core) (filled m (opening.Opened raw) core))
      → HasOpened old (record old { core = core; out = out }) m k → out.opens + k ≡ opens → core.last ≤ m
      → HasOpened old (record old { core = filled m (opening.Opened raw) core; out = between }) m (k + 1) × (between.opens + (k + 1) ≡ opens) × (poll_letters between ≡ poll_letters out)
  one_more core out between k raw o is (failed e why store) place marks h all h_late = absurd cc
  one_more core out between k raw o is (opened some store letters fewer) place marks h all h_late =
      let link : raw ≡ new_link (out.store.given + 1) = cc in (
        opened-more old (record old { core = core; out = out }) (record old { core = filled m (opening.Opened raw) core; out = between }) m k h
            (opens-one (record old { core = core; out = out }) (filled m (opening.Opened raw) core) between raw m (sym place) (none-left out.opens k opens core.next_conn old.core.next_conn h.numbered all few) h_late link store refl marks),
        omega (arith, some, fewer, all),
        letters,
      )

  pub fills : (tries : List (Opening Link)) (core new : Core Link) (out now : ScriptOutside) (k : ℕ) → Keeps {O = Unit {0}} Does depth_of tt m tries core new out now → is_short tries ≡ false
      → HasOpened old (record old { core = core; out = out }) m k → out.opens + k ≡ opens → out.connect ≡ letter.ConnectIo → sets_up out.after_connect ≡ true → core.last ≤ m → Filled new now (k + opened_of tries)
  fills [] core new out now k keeps short h all io sure h_late =
      let plus : k ≡ k + 0 = omega arith in
      let within : k ≤ opens = omega (arith, all) in
      let o = opens-none (record old { core = core; out = out }) new m (none-left out.opens k opens core.next_conn old.core.next_conn h.numbered all few) (sym keeps.0) keeps.1 in
      subst (Filled new now) plus (subst (λ (x : ScriptOutside). KeepsMinimum old (record old { core = new; out = x }) m opens k) (sym keeps.2)
      (filled-part old (record old { core = core; out = out }) (record old { core = new; out = out }) m opens k within h o))
  fills (opening.Opened raw ∷ tries) core new out now k keeps short h all io sure h_late =
      let between = keeps.1.0 in
      let rest = keeps.1.1 in
      let next = one_more core out between k raw (opening.Opened raw) refl (tried _ _ _ _ io sure rest.0) keeps.0 rest.1 h all h_late in
      let more : k + 1 + opened_of tries ≡ k + (opened_of tries + 1) = omega arith in
      subst (Filled new now) more (fills tries (filled m (opening.Opened raw) core) new between now (k + 1) rest.2 short next.0 next.1 (ap (λ a. a.connect) next.2 ∙ io) (ap (λ a. sets_up a.after_connect) next.2 ∙ sure) (late core.last m h_late))
  fills (opening.Rejected ∷ []) core new out now k keeps short h all io sure h_late = other_failed core new out now k opening.Rejected (tried _ _ _ _ io sure keeps.1) short h all keeps.2 keeps.3 refl
  fills (opening.Transient ∷ []) core new out now k keeps short h all io sure h_late = other_failed core new out now k opening.Transient (tried _ _ _ _ io sure keeps.1) short h all keeps.2 keeps.3 refl
  fills (opening.Failed e ∷ []) core new out now k keeps short h all io sure h_late = other_failed core new out now k (opening.Failed e) (tried _ _ _ _ io sure keeps.1) short h all keeps.2 keeps.3 refl
  fills (opening.Rejected ∷ o ∷ tries) core new out now k keeps short h all io sure h_late = absurd keeps
  fills (opening.Transient ∷ o ∷ tries) core new out now k keeps short h all io sure h_late = absurd keeps
  fills (opening.Failed e ∷ o ∷ tries) core new out now k keeps short h all io sure h_late = absurd keeps

-- ---- what it leaves

pub record Moved (m : ℕ) (core new : Core Link) (old now : ScriptOutside) : Type 0 where
  pub runs : now.store.runs ≡ old.store.runs
  pub last : core.last ≤ m → new.last ≤ m
  pub ticket : new.next_ticket ≡ core.next_ticket
  pub conn : new.next_conn ≤ core.next_conn + old.opens

pub moved : (m : ℕ) (core new : Core Link) (old now : ScriptOutside) → now.store.runs ≡ old.store.runs → new.last ≡ max core.last m → new.next_ticket ≡ core.next_ticket → new.next_conn ≤ core.next_conn + old.opens → Moved m core new old now
moved m core new old now runs at ticket conn = record { runs = runs; last = λ h. by (late core.last m h); ticket = ticket; conn = conn }
  where
    by : max core.last m ≤ m → new.last ≤ m
    by h = omega (arith, at, h)

abbrev IfOpened : Opening Link → Type 0 → Type 0
IfOpened (opening.Opened raw) P = P
IfOpened other P = Unit {0}

freed-moved : (m : ℕ) (core new : Core Link) (out now : ScriptOutside) (o : Opening Link) → Tried out now o → opened_of (o ∷ []) ≡ 0 → new ≡ filled m o core → Moved m core new out now
freed-moved m core new out now o (opened some store letters fewer) none becomes = absurd (let one : ◌≡◌ {A = ℕ} 1 0 = none in omega (arith, one))
freed-moved m core new out now o (failed e why store) none becomes =
    let is = becomes ∙ freed m e core in
    let n = ap (λ (c : Core Link). c.next_conn) is in
    moved m core new out now (ap (λ (s : Store). s.runs) store) (ap (λ (c : Core Link). c.last) is) (ap (λ (c : Core Link). c.next_ticket) is) (omega (arith, n))

born : (m : ℕ) (raw : Link) (core : Core Link) → has_place core.options.min_connections core ≡ true → ((filled m (opening.Opened raw) core).next_conn ≡ core.next_conn + 1) × ((filled m (opening.Opened raw) core).next_ticket ≡ core.next_ticket)
born m raw core place =
    let is = ap (λ (b : Bool). at_moment (max core.last m) (placed_back (done_at b (max core.last m) (Some raw) (placed true core)))) (place-open core place) in
    (ap (λ (c : Core Link). c.next_conn) is, ap (λ (c : Core Link). c.next_ticket) is)

opened-moved : (m : ℕ) (core new : Core Link) (out between now : ScriptOutside) (raw : Link) (o : Opening Link) → o ≡ opening.Opened raw → Tried out between o → has_place core.options.min_connections core ≡ true → Moved m (filled m (opening.Opened raw) core) new between now → Moved m core new out now
opened-moved m core new out between now raw o is (failed e why store) place rest = absurd cc
opened-moved m core new out between now raw o is (opened some store letters fewer) place rest =
    let b = born m raw core place in
    let n = rest.conn in
    let grown = b.0 in
    record {
      runs = rest.runs ∙ ap (λ (s : Store). s.runs) store;
      last = λ h. rest.last (late core.last m h);
      ticket = rest.ticket ∙ b.1;
      conn = omega (arith, n, grown, fewer, some);
    }

pub keeps-moved : (m : ℕ) (tries : List (Opening Link)) (core new : Core Link) (out now : ScriptOutside) → Keeps {O = Unit {0}} Does depth_of tt m tries core new out now → out.connect ≡ letter.ConnectIo → sets_up out.after_connect ≡ true → Moved m core new out now
keeps-moved m [] core new out now keeps io sure =
    let n = ap (λ (c : Core Link). c.next_conn) keeps.1 in
    record { runs = ap (λ (o : ScriptOutside). o.store.runs) keeps.2; last = λ h. subst (λ (c : Core Link). c.last ≤ m) (sym keeps.1) h; ticket = ap (λ (c : Core Link). c.next_ticket) keeps.1; conn = omega (arith, n) }
keeps-moved m (opening.Opened raw ∷ tries) core new out now keeps io sure =
    let rest = keeps.1.1 in
    let t = tried _ _ _ _ io sure rest.0 in
    let same = letters_of out keeps.1.0 (opening.Opened raw) t in
    opened-moved m core new out keeps.1.0 now raw (opening.Opened raw) refl t keeps.0
    (keeps-moved m tries (filled m (opening.Opened raw) core) new keeps.1.0 now rest.2 (ap (λ a. a.connect) same ∙ io) (ap (λ a. sets_up a.after_connect) same ∙ sure))
  where
    letters_of : (out between : ScriptOutside) (o : Opening Link) → Tried out between o → IfOpened o (poll_letters between ≡ poll_letters out)
    letters_of out between o (opened some store letters fewer) = letters
    letters_of out between o (failed e why store) = tt
keeps-moved m (opening.Rejected ∷ []) core new out now keeps io sure = freed-moved m core new out now opening.Rejected (tried _ _ _ _ io sure keeps.1) refl keeps.2
keeps-moved m (opening.Transient ∷ []) core new out now keeps io sure = freed-moved m core new out now opening.Transient (tried _ _ _ _ io sure keeps.1) refl keeps.2
keeps-moved m (opening.Failed e ∷ []) core new out now keeps io sure = freed-moved m core new out now (opening.Failed e) (tried _ _ _ _ io sure keeps.1) refl keeps.2
keeps-moved m (opening.Rejected ∷ o ∷ tries) core new out now keeps io sure = absurd keeps
keeps-moved m (opening.Transient ∷ o ∷ tries) core new out now keeps io sure = absurd keeps
keeps-moved m (opening.Failed e ∷ o ∷ tries) core new out now keeps io sure = absurd keeps
