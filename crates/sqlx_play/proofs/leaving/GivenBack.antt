-- What a giving back comes to over the outside of a script.
use Rattle.std.proofs.Common.{◌≡◌, ℕ, ◌≤◌, ◌==◌, max, Bool, true, false, not, ◌&&◌, ◌||◌, cond, Option, Some, None, Result, Ok, Err, is_ok, if◌then◌else◌, refl, sym, ap, subst, ◌∙◌, arith}
use Rattle.std.proofs.lemmas.Bool.{eqb-true, eqb-false, ne_eqb}
use Rattle.sqlx_text.specs.declared.error.Error.{Error}
use Rattle.sqlx_pool_core.specs.declared.outside.PoolConnectionMetadata.{PoolConnectionMetadata}
use Rattle.sqlx_pool_core.specs.declared.idle_check.Check.{Check}
use Rattle.sqlx_pool_core.specs.declared.idle_check.Check.TheVariants as check
use Rattle.sqlx_pool_lists.specs.declared.steps.Given.{Given}
use Rattle.sqlx_pool_lists.specs.declared.steps.Given.TheVariants as given
use Rattle.sqlx_pool_lists.specs.declared.steps.Lent.{Lent}
use Rattle.sqlx_pool_lists.specs.declared.steps.Returned.{Returned}
use Rattle.sqlx_pool_lists.specs.declared.steps.Returned.TheVariants as word
use Rattle.sqlx_pool_lists.specs.declared.ticket.OwnedConn.{OwnedConn}
use Rattle.sqlx_pool_core.specs.Chain.{check_by}
use Rattle.sqlx_pool_lists.specs.Core.{Core, loan_of}
use Rattle.sqlx_pool_core.specs.Giving.{is_pass, returned_by, back_meta, Releases, PingsIf, Returns, Ends, TestsIf, Gives, GivesBack}
use Rattle.sqlx_pool_lists.specs.Limits.{limits_of}
use Rattle.sqlx_pool_core.specs.Logs.{Logs}
use Rattle.sqlx_pool_core.specs.Outside.{says_yes}
use Rattle.sqlx_pool_lists.specs.StandsFor.{StandsFor}
use Rattle.sqlx_pool_core.specs.ReturnSteps.{give_answer, give_marks, core_after_give}
use Rattle.sqlx_pool_core.proofs.Fair.{makes-nothing}
use Rattle.sqlx_pool_marks.specs.EventTable.{closes}
use Rattle.sqlx_script.specs.declared.answers.GiveAnswers.{GiveAnswers}
use Rattle.sqlx_script.specs.Built.{accepts}
use Rattle.mem_store.specs.Store.{Link, Store}
use Rattle.sqlx_play.specs.declared.outside.ScriptOutside.{ScriptOutside}
use Rattle.sqlx_play.specs.outside.ScriptCalls.{Does}
use Rattle.sqlx_play.specs.outside.ScriptOutside.{answers_ping, depth_of, give_letters, is_left_open}
use Rattle.sqlx_play.proofs.links.LinksGone.{closed_in}

-- ---- the tests

pass-yes : (answer : Result Bool Error) (depth : ℕ) → is_pass (check_by answer depth) ≡ says_yes answer depth
pass-yes (Ok true) depth = by (depth == 0)
  where
    by : (b : Bool) → is_pass (if b then check.Pass else check.CloseHard) ≡ b
    by true = refl
    by false = refl
pass-yes (Ok false) depth = refl
pass-yes (Err e) depth = refl

pass-if : (b : Bool) → is_pass (if b then check.Pass else check.CloseHard) ≡ b
pass-if true = refl
pass-if false = refl

-- a hook that says yes leaves no level open
yes-none : (answer : Result Bool Error) (depth : ℕ) → (depth == 0) ≡ false → says_yes answer depth ≡ false
yes-none (Ok true) depth e = e
yes-none (Ok false) depth e = refl
yes-none (Err x) depth e = refl

-- levels that are open aren't fewer behind a hook
still-open : (before after : ℕ) → before ≤ after → (before == 0) ≡ false → (after == 0) ≡ false
still-open before after h e = let n = eqb-false before 0 e in ne_eqb after 0 (λ z. n (omega (arith, h, z)))

said : (answer : Result Bool Error) (accepted : Bool) (before after : ℕ) → (before ≡ 0 → says_yes answer after ≡ accepted) → before ≤ after → says_yes answer after ≡ (accepted && (before == 0))
said answer accepted before after told more = by (before == 0) refl
  where
    both : (b : Bool) → (b && true) ≡ b
    both true = refl
    both false = refl

    none : (b : Bool) → (b && false) ≡ false
    none true = refl
    none false = refl

    by : (b : Bool) → (before == 0) ≡ b → says_yes answer after ≡ (accepted && (before == 0))
    by true e = told (eqb-true before 0 e) ∙ sym (ap (λ (c : Bool). accepted && c) e ∙ both accepted)
    by false e = yes-none answer after (still-open before after more e) ∙ sym (ap (λ (c : Bool). accepted && c) e ∙ none accepted)

-- What the tests leave as it was.
record Left (raw now : Link) (old new : ScriptOutside) : Type 0 where
  pub link : now ≡ raw
  pub store : new.store ≡ old.store

-- the hook and the levels
released-so : (hook : Bool) (meta : PoolConnectionMetadata) (raw now : Link) (c : Check) (old new : ScriptOutside) → Releases {O = Unit {0}} Does depth_of hook meta raw now c old new
    → Left raw now old new × (give_letters new ≡ give_letters old) × (is_pass c ≡ ((not hook || accepts old.after_release) && (depth_of old raw == 0)))
released-so true meta raw now c old new r =
    let d = r.1 in (
      record { link = d.2; store = d.3 },
      d.4,
      ap is_pass r.2 ∙ pass-yes r.0 (depth_of new now) ∙ said r.0 (accepts old.after_release) (depth_of old raw) (depth_of new now) d.0 d.1,
    )
released-so false meta raw now c old new r = (
  record { link = r.0; store = ap (λ (o : ScriptOutside). o.store) r.2 },
  ap give_letters r.2,
  ap is_pass r.1 ∙ pass-if (depth_of old raw == 0),
)

-- the ping
pinged-so : (so_far : Check) (raw now : Link) (c : Check) (old new : ScriptOutside) → PingsIf {O = Unit {0}} Does depth_of so_far raw now c old new → Left raw now old new × (is_pass c ≡ (is_pass so_far && answers_ping old))
pinged-so check.Pass raw now c old new p = (record { link = p.1.2.link; store = p.1.2.store }, ap is_pass p.2 ∙ pass-if (is_ok p.0) ∙ p.1.0)
pinged-so check.Close raw now c old new p = (record { link = p.0; store = ap (λ (o : ScriptOutside). o.store) p.2 }, ap is_pass p.1)
pinged-so check.CloseHard raw now c old new p = (record { link = p.0; store = ap (λ (o : ScriptOutside). o.store) p.2 }, ap is_pass p.1)

together : (a b c : Bool) → ((a && b) && c) ≡ (a && (b && c))
together true b c = refl
together false b c = refl

-- all tests
returned-so : (hook : Bool) (meta : PoolConnectionMetadata) (answers : GiveAnswers) (raw now : Link) (c : Check) (old new : ScriptOutside) → give_letters old ≡ answers → old.left_open ≡ None
    → Returns {O = Unit {0}} Does depth_of hook meta raw now c old new → Left raw now old new × (is_pass c ≡ ((not hook || accepts answers.after_release) && ((raw.depth == 0) && answers.ping)))
returned-so hook meta answers raw now c old new letters left r =
    let a = released-so hook meta raw r.released r.so_far old r.between r.releases in
    let b = pinged-so r.so_far r.released now c r.between new r.pings in (
      record { link = b.0.link ∙ a.0.link; store = b.0.store ∙ a.0.store },
      b.1
          ∙ (λ i. a.2 i && ((a.1 ∙ letters) i).ping)
          ∙ (λ i. ((not hook || accepts (letters i).after_release) && (own i == 0)) && answers.ping)
          ∙ together (not hook || accepts answers.after_release) (raw.depth == 0) answers.ping,
    )
  where
    own : depth_of old raw ≡ raw.depth
    own = ap (λ (o : Option ℕ). cond (is_left_open o raw.number) (max 1 raw.depth) raw.depth) left

-- ---- the giving back

-- what the store is, by what the pool answered
abbrev pub given_store : Given Link → Store → Store
given_store (given.Closed raw) store = closed_in raw.depth store
given_store other store = store

-- whether the hook, the levels and the ping let it rest
abbrev pub may_rest : Bool → GiveAnswers → ℕ → Bool
may_rest hook answers depth = (not hook || accepts answers.after_release) && ((depth == 0) && answers.ping)

-- What a client's giving back came to.
pub record Came (k m : ℕ) (answers : GiveAnswers) (l : Lent Link) (core new : Core Link) (old out : ScriptOutside) (result : Returned Link) : Type 0 where
  pub made : Given Link
  pub answer : made ≡ give_answer core.options core.shut m (may_rest core.options.after_release answers l.raw.depth) (loan_of k l.id core.held) l
  pub word : result ≡ returned_by made
  pub becomes : new ≡ core_after_give (loan_of k l.id core.held) l m made core
  pub makes : Logs core (give_marks l.id m made) new
  pub store : out.store ≡ given_store made old.store

ends-so : (c : Check) (made : Given Link) (old new : ScriptOutside) → Ends {O = Unit {0}} Does depth_of c made old new → new.store ≡ given_store made old.store
ends-so check.CloseHard (given.Closed raw) old new e = e.0.store
ends-so check.Pass (given.Closed raw) old new e = e.0.store
ends-so check.Close (given.Closed raw) old new e = e.0.store
ends-so check.Pass given.Kept old new e = ap (λ (o : ScriptOutside). o.store) e
ends-so check.Close given.Kept old new e = ap (λ (o : ScriptOutside). o.store) e
ends-so check.CloseHard given.Kept old new e = ap (λ (o : ScriptOutside). o.store) e
ends-so check.Pass (given.NotHeld raw) old new e = ap (λ (o : ScriptOutside). o.store) e
ends-so check.Close (given.NotHeld raw) old new e = ap (λ (o : ScriptOutside). o.store) e
ends-so check.CloseHard (given.NotHeld raw) old new e = ap (λ (o : ScriptOutside). o.store) e

module _ (k m : ℕ) (answers : GiveAnswers) (l : Lent Link) (core new : Core Link) (old out : ScriptOutside) (result : Returned Link) (letters : give_letters old ≡ answers) (left : old.left_open ≡ None) where
  -- the tests, where they were made, and what they come to where the connection is closed in any case
  tested-so : (b hook : Bool) (meta : PoolConnectionMetadata) (now : Link) (c : Check) (between : ScriptOutside) → TestsIf {O = Unit {0}} Does depth_of b hook meta l.raw now c old between
      → Left l.raw now old between × ((is_pass c && not b) ≡ (may_rest hook answers l.raw.depth && not b))
  tested-so true hook meta now c between t = (
    record { link = t.0; store = ap (λ (o : ScriptOutside). o.store) t.2 },
    none (is_pass c) ∙ sym (none (may_rest hook answers l.raw.depth)),
  )
    where
      none : (b : Bool) → (b && false) ≡ false
      none true = refl
      none false = refl
  tested-so false hook meta now c between t =
      let r = returned-so hook meta answers l.raw now c old between letters left t in
      (r.0, ap (λ (b : Bool). b && true) r.1)

  owned : (h : OwnedConn) → loan_of k l.id core.held ≡ Some h → Gives {O = Unit {0}} Does depth_of h m l core new old out result → Came k m answers l core new old out result
  owned h is g =
      let t = tested-so (closes (limits_of core.options) core.shut h.created.0 m) core.options.after_release (back_meta m h.created.0) g.now g.check g.between g.tests in
      let same : record l { raw = g.now } ≡ l = ap (λ (raw : Link). record l { raw = raw }) t.0.link in
      record {
        made = g.after;
        answer = g.step
            ∙ ap (give_answer core.options core.shut m (is_pass g.check) (Some h)) same
            ∙ ap (λ (b : Bool). if b then given.Kept else given.Closed l.raw) t.1
            ∙ ap (λ (o : Option OwnedConn). give_answer core.options core.shut m (may_rest core.options.after_release answers l.raw.depth) o l) (sym is);
        word = g.answer;
        becomes = g.becomes ∙ (λ i. core_after_give (sym is i) (same i) m g.after core);
        makes = g.makes;
        store = ends-so g.check g.after g.between out g.ends ∙ ap (given_store g.after) t.0.store;
      }

  pub came : (o : Option OwnedConn) → loan_of k l.id core.held ≡ o → GivesBack {O = Unit {0}} Does depth_of o m l core new old out result → Came k m answers l core new old out result
  came (Some h) is g = owned h is g
  came None is g = record {
    made = given.NotHeld l.raw;
    answer = ap (λ (o : Option OwnedConn). give_answer core.options core.shut m (may_rest core.options.after_release answers l.raw.depth) o l) (sym is);
    word = g.0;
    becomes = g.1 ∙ ap (λ (o : Option OwnedConn). core_after_give o l m (given.NotHeld l.raw) core) (sym is);
    makes = λ marks s. makes-nothing core.options.max_connections marks new (subst (λ (c : Core Link). StandsFor c marks) (sym g.1) s);
    store = ap (λ (o : ScriptOutside). o.store) g.2;
  }

-- ---- by the answer

pub was-kept : (made : Given Link) → word.Kept ≡ returned_by made → made ≡ given.Kept
was-kept given.Kept e = refl
was-kept (given.Closed raw) e = absurd cc
was-kept (given.NotHeld raw) e = absurd cc

pub was-closed : (made : Given Link) → word.Closed ≡ returned_by made → (raw : Link) × (made ≡ given.Closed raw)
was-closed given.Kept e = absurd cc
was-closed (given.Closed raw) e = (raw, refl)
was-closed (given.NotHeld raw) e = absurd cc

pub was-not_held : (raw : Link) (made : Given Link) → word.NotHeld raw ≡ returned_by made → made ≡ given.NotHeld raw
was-not_held raw given.Kept e = absurd cc
was-not_held raw (given.Closed other) e = absurd cc
was-not_held raw (given.NotHeld other) e = cc
