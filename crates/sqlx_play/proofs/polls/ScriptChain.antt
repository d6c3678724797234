-- What the chains of calls of a test and of a try say over the outside of a script.
use Rattle.std.proofs.Common.{◌≡◌, ℕ, ◌+◌, ◌-◌, ◌==◌, Bool, true, false, not, cond, ◌&&◌, ◌||◌, Option, None, Result, Ok, Err, if◌then◌else◌, refl, sym, ap, subst, ◌∙◌}
use Rattle.sqlx_text.specs.declared.error.Error.{Error}
use Rattle.sqlx_pool_core.specs.declared.outside.PoolConnectionMetadata.{PoolConnectionMetadata}
use Rattle.sqlx_pool_lists.specs.declared.options.PoolOptions.{PoolOptions}
use Rattle.sqlx_pool_lists.specs.declared.steps.Lent.{Lent}
use Rattle.sqlx_pool_lists.specs.declared.steps.Idle.{Idle}
use Rattle.sqlx_pool_lists.specs.declared.steps.Verdict.{Verdict}
use Rattle.sqlx_pool_lists.specs.declared.steps.Verdict.TheVariants as verdict
use Rattle.sqlx_pool_core.specs.Outside.{is_transient, says_yes}
use Rattle.sqlx_pool_core.specs.declared.idle_check.Check.{Check}
use Rattle.sqlx_pool_core.specs.declared.idle_check.Check.TheVariants as check
use Rattle.sqlx_pool_core.specs.declared.idle_check.Opening.{Opening}
use Rattle.sqlx_pool_core.specs.declared.idle_check.Opening.TheVariants as opening
use Rattle.sqlx_pool_core.specs.Chain.{check_by, Pings, LooksIf, Sorts, Tests, SetsUp, KeepsIf, Follows, Tries}
use Rattle.sqlx_script.specs.declared.answers.ConnectAnswer.{ConnectAnswer}
use Rattle.sqlx_script.specs.declared.answers.ConnectAnswer.TheVariants as letter
use Rattle.sqlx_script.specs.declared.answers.PollAnswers.{PollAnswers}
use Rattle.sqlx_script.specs.declared.pool_line.PoolLine.{PoolLine}
use Rattle.sqlx_script.specs.Letters.{answering}
use Rattle.sqlx_script.specs.Built.{accepts, sets_up}
use Rattle.mem_store.specs.Store.{Link, Store, connected, new_link, closed_at}
use Rattle.sqlx_play.specs.declared.outside.ScriptOutside.{ScriptOutside}
use Rattle.sqlx_script_rules.specs.Answer.{passes_test, refused_tests}
use Rattle.sqlx_play.specs.events.ConnectByReply.{rejected}
use Rattle.sqlx_play.specs.outside.ScriptOutside.{answers_ping, accepts_acquire, beside, depth_of, next_connect, poll_letters, refused_by, refusal_of}
use Rattle.sqlx_play.specs.outside.ScriptCalls.{Does, Connects, Stays, Closes, is_passing}
use Rattle.sqlx_play.specs.stage.StageStands.{IsSetUp}
use Rattle.sqlx_play.proofs.asks.Asked.{connect-letter, depth-rests}

abbrev pub is_pass : Check → Bool
is_pass check.Pass = true
is_pass check.Close = false
is_pass check.CloseHard = false

pass-yes : (answer : Result Bool Error) (depth : ℕ) → is_pass (check_by answer depth) ≡ says_yes answer depth
pass-yes (Ok true) depth = by (depth == 0)
  where
    by : (b : Bool) → is_pass (if b then check.Pass else check.CloseHard) ≡ b
    by true = refl
    by false = refl
pass-yes (Ok false) depth = refl
pass-yes (Err e) depth = refl

-- ---- a test

-- What a ping leaves.
record Pinged (raw now : Link) (old new : ScriptOutside) : Type 0 where
  pub stays : Stays raw now old new
  pub left : new.left_open ≡ old.left_open

stays-same : (raw now : Link) (old new : ScriptOutside) → now ≡ raw → new ≡ old → Stays raw now old new
stays-same raw now old new link same = record { link = link; store = ap (λ (o : ScriptOutside). o.store) same; letters = ap poll_letters same; opens = ap (λ (o : ScriptOutside). o.opens) same; left = ap (λ (o : ScriptOutside). beside raw.number o.left_open) same }

pinged : (asked : Bool) (raw now : Link) (good : Bool) (old new : ScriptOutside) → Pings {O = Unit {0}} Does depth_of asked raw now good old new → Pinged raw now old new
pinged true raw now good old new p = record { stays = p.1.2; left = p.1.1 }
pinged false raw now good old new p = record { stays = stays-same raw now old new p.0 p.2; left = ap (λ (o : ScriptOutside). o.left_open) p.2 }

good-ping : (asked : Bool) (raw now : Link) (good : Bool) (old new : ScriptOutside) → Pings {O = Unit {0}} Does depth_of asked raw now good old new → good ≡ (not asked || answers_ping old)
good-ping true raw now good old new p = p.2 ∙ p.1.0
good-ping false raw now good old new p = p.1

looked : (good hook : Bool) (meta : PoolConnectionMetadata) (raw now : Link) (c : Check) (old new : ScriptOutside) → LooksIf {O = Unit {0}} Does depth_of good hook meta raw now c old new → Stays raw now old new
looked true true meta raw now c old new p = p.1.1
looked true false meta raw now c old new p = stays-same raw now old new p.0 p.2
looked false hook meta raw now c old new p = stays-same raw now old new p.0 p.2

good-look : (good hook : Bool) (meta : PoolConnectionMetadata) (raw now : Link) (c : Check) (old new : ScriptOutside) → depth_of old raw ≡ 0 → LooksIf {O = Unit {0}} Does depth_of good hook meta raw now c old new
    → is_pass c ≡ (good && (not hook || accepts_acquire old))
good-look true true meta raw now c old new rests p = ap is_pass p.2 ∙ pass-yes p.0 (depth_of new now) ∙ p.1.0 rests
good-look true false meta raw now c old new rests p = ap is_pass p.1
good-look false hook meta raw now c old new rests p = ap is_pass p.1

-- what the store is after a test
abbrev pub tested_store : Verdict Link → Link → Store → Store
tested_store (verdict.Accepted lent) raw store = store
tested_store (verdict.Refused c) raw store = closed_at raw.depth store

abbrev pub is_accepted : Verdict Link → Bool
is_accepted (verdict.Accepted lent) = true
is_accepted (verdict.Refused c) = false

abbrev pub IfAccepted : Verdict Link → (Lent Link → Type 0) → Type 0
IfAccepted (verdict.Accepted lent) P = P lent
IfAccepted (verdict.Refused c) P = Unit {0}

-- the letters behind a test: a refused one is over, and they answer one less
abbrev pub letters_after : Verdict Link → PollAnswers → PollAnswers
letters_after (verdict.Accepted lent) answers = answers
letters_after (verdict.Refused c) answers = answering answers (answers.tests - 1)

-- What a test of an idle connection comes to over the outside of a script.
pub record Tested (options : PoolOptions) (answers : PollAnswers) (i : Idle Link) (v : Verdict Link) (old new : ScriptOutside) : Type 0 where
  pub passes : old.left_open ≡ None → (pool : PoolLine) → IsSetUp pool options → i.lent.raw.depth ≡ 0 → is_accepted v ≡ (refused_tests pool answers == 0)
  pub lent : IfAccepted v (λ lent. lent ≡ i.lent)
  pub store : new.store ≡ tested_store v i.lent.raw old.store
  pub letters : poll_letters new ≡ letters_after v answers
  pub opens : new.opens ≡ old.opens
  pub left : is_accepted v ≡ false → old.left_open ≡ None → new.left_open ≡ None

-- What is left of a test by what was made of the connection.
record Sorted (c : Check) (lent : Lent Link) (v : Verdict Link) (old new : ScriptOutside) : Type 0 where
  pub passes : is_accepted v ≡ is_pass c
  pub given : IfAccepted v (λ l. l ≡ lent)
  pub store : new.store ≡ tested_store v lent.raw old.store
  pub letters : poll_letters new ≡ letters_after v (poll_letters old)
  pub opens : new.opens ≡ old.opens
  pub left : is_accepted v ≡ false → new.left_open ≡ beside lent.raw.number old.left_open

closed-so : (c : Check) (lent : Lent Link) (v : Verdict Link) (old new : ScriptOutside) → is_pass c ≡ false → v ≡ verdict.Refused lent.id → Closes lent.raw old new → Sorted c lent v old new
closed-so c lent v old new fails is closes = subst (λ (w : Verdict Link). Sorted c lent w old new) (sym is) (record { passes = sym fails; given = tt; store = closes.store; letters = closes.letters; opens = closes.opens; left = λ _. closes.left })

sorted : (c : Check) (lent : Lent Link) (v : Verdict Link) (old new : ScriptOutside) → Sorts {O = Unit {0}} Does depth_of c lent v old new → Sorted c lent v old new
sorted check.Pass lent v old new s = subst (λ (w : Verdict Link). Sorted check.Pass lent w old new) (sym s.0)
    (record { passes = refl; given = refl; store = ap (λ (o : ScriptOutside). o.store) s.1; letters = ap poll_letters s.1; opens = ap (λ (o : ScriptOutside). o.opens) s.1; left = λ e. absurd cc })
sorted check.Close lent v old new s = closed-so check.Close lent v old new refl s.0 s.1.0
sorted check.CloseHard lent v old new s = closed-so check.CloseHard lent v old new refl s.0 s.1.0

lent-same : (v : Verdict Link) (lent now : Lent Link) → now ≡ lent → IfAccepted v (λ l. l ≡ now) → IfAccepted v (λ l. l ≡ lent)
lent-same (verdict.Accepted l) lent now e is = is ∙ e
lent-same (verdict.Refused c) lent now e is = tt

store-same : (v : Verdict Link) (one two : Link) (old now : Store) → one ≡ two → old ≡ now → tested_store v one old ≡ tested_store v two now
store-same v one two old now e f = λ j. tested_store v (e j) (f j)

-- the checks by the letters, where they answer this test yet; else it passes
checks-so : (ping hook past answered accepted : Bool) → ((not ping || (past || answered)) && (not hook || (past || accepted))) ≡ (past || ((not ping || answered) && (not hook || accepted)))
checks-so true true true answered accepted = refl
checks-so true false true answered accepted = refl
checks-so false true true answered accepted = refl
checks-so false false true answered accepted = refl
checks-so ping hook false answered accepted = refl

-- a test passes where none is refused any more
none-refused : (n : ℕ) (past passes : Bool) → (n == 0) ≡ past → (past || passes) ≡ (cond {A = ℕ} passes 0 n == 0)
none-refused n true true e = refl
none-refused n false true e = refl
none-refused n true false e = sym e
none-refused n false false e = sym e

-- what was left open on no other link, and then closed
beside-none : (number : ℕ) (old mid now : Option ℕ) → now ≡ beside number mid → beside number mid ≡ beside number old → old ≡ None → now ≡ None
beside-none number old mid now closed same none = closed ∙ same ∙ ap (beside number) none

-- what a test says
pub tested-told : (answers : PollAnswers) (options : PoolOptions) (m : ℕ) (i : Idle Link) (v : Verdict Link) (old new : ScriptOutside)
    → poll_letters old ≡ answers → Tests {O = Unit {0}} Does depth_of options m i v old new → Tested options answers i v old new
tested-told answers options m i v old new letters t =
    let k = t.checks in
    let p = pinged _ _ _ _ _ _ k.pings in
    let l = looked _ _ _ _ _ _ _ _ k.looks in
    let s = sorted t.check (record i.lent { raw = t.raw }) v t.between new t.sorts in
    let link : t.raw ≡ i.lent.raw = l.link ∙ p.stays.link in
    let asked : poll_letters k.between ≡ answers = p.stays.letters ∙ letters in
    record {
      passes = λ left pool set rests.
          let resting : depth_of k.between k.pinged ≡ 0 = depth-rests k.between k.pinged (p.left ∙ left) (ap (λ (x : Link). x.depth) p.stays.link ∙ rests) in
          s.passes ∙ good-look _ _ _ _ _ _ _ _ resting k.looks
          ∙ (λ j. good-ping _ _ _ _ _ _ k.pings j && (not (set.before_acquire j) || (((asked j).tests == 0) || accepts (asked j).before_acquire)))
          ∙ (λ j. (not (set.test_before_acquire j) || (((letters j).tests == 0) || (letters j).ping)) && (not pool.before_acquire || ((answers.tests == 0) || accepts answers.before_acquire)))
          ∙ checks-so pool.test_before_acquire pool.before_acquire (answers.tests == 0) answers.ping (accepts answers.before_acquire)
          ∙ none-refused answers.tests (answers.tests == 0) (passes_test pool answers) refl;
      lent = lent-same v i.lent (record i.lent { raw = t.raw }) (λ j. record i.lent { raw = link j }) s.given;
      store = s.store ∙ store-same v t.raw i.lent.raw t.between.store old.store link (l.store ∙ p.stays.store);
      letters = s.letters ∙ ap (letters_after v) (l.letters ∙ asked);
      opens = s.opens ∙ l.opens ∙ p.stays.opens;
      left = λ refused none.
          beside-none t.raw.number k.between.left_open t.between.left_open new.left_open (s.left refused)
          (subst (λ (x : Link). beside x.number t.between.left_open ≡ beside x.number k.between.left_open) (sym l.link) l.left) (p.left ∙ none);
    }

-- ---- a try

-- the new connection is set up, where the hook runs or not
abbrev pub is_ready : Bool → PollAnswers → Bool
is_ready hook answers = not hook || sets_up answers.after_connect

-- what a try comes to over the outside of a script, by what the pool is told of it
pub data Tried (hook : Bool) (answers : PollAnswers) (old new : ScriptOutside) : Opening Link → Type 0 where
  opened : answers.connect ≡ letter.Connected → is_ready hook answers ≡ true → new.store ≡ connected (old.store.given + 1) old.store → Tried hook answers old new (opening.Opened (new_link (old.store.given + 1)))
  refused_hook : answers.connect ≡ letter.Connected → is_ready hook answers ≡ false → new.store ≡ rejected (old.store.given + 1) old.store → Tried hook answers old new opening.Rejected
  passing : answers.connect ≡ letter.Transient → new.store ≡ old.store → Tried hook answers old new opening.Transient
  failed : (e : Error) → refused_by e ≡ refusal_of answers.connect → is_passing answers.connect ≡ false → new.store ≡ old.store → Tried hook answers old new (opening.Failed e)

pub set-up : (hook : Bool) (raw now : Link) (good : Bool) (old new : ScriptOutside) → SetsUp {O = Unit {0}} Does depth_of hook raw now good old new → Stays raw now old new
set-up true raw now good old new p = p.1.1
set-up false raw now good old new p = stays-same raw now old new p.0 p.2

pub good-set-up : (hook : Bool) (raw now : Link) (good : Bool) (old new : ScriptOutside) → depth_of old raw ≡ 0 → SetsUp {O = Unit {0}} Does depth_of hook raw now good old new → good ≡ (not hook || sets_up old.after_connect)
good-set-up true raw now good old new rests p = p.2 ∙ p.1.0 rests
good-set-up false raw now good old new rests p = p.1

module _ (hook : Bool) (answers : PollAnswers) (old new : ScriptOutside) (first : answers.connect ≡ letter.Connected) where
  kept : (good : Bool) (raw now : Link) (o : Opening Link) (mid between : ScriptOutside) → raw ≡ new_link (old.store.given + 1) → now ≡ raw → mid.store ≡ connected (old.store.given + 1) old.store → between.store ≡ mid.store
      → good ≡ is_ready hook answers → KeepsIf {O = Unit {0}} Does depth_of good now o between new → Tried hook answers old new o
  kept true raw now o mid between link same store stays good k =
      subst (λ (p : Opening Link). Tried hook answers old new p) (sym (k.0 ∙ ap opening.Opened (same ∙ link)))
      (opened first (sym good) (ap (λ (x : ScriptOutside). x.store) k.1 ∙ stays ∙ store))
  kept false raw now o mid between link same store stays good k =
      subst (λ (p : Opening Link). Tried hook answers old new p) (sym k.0)
      (refused_hook first (sym good) (k.1.0.store ∙ (λ j. closed_at ((same ∙ link) j).depth ((stays ∙ store) j))))

failed-so : (hook : Bool) (answers : PollAnswers) (old new : ScriptOutside) (e : Error) (l : ConnectAnswer) (b : Bool) → answers.connect ≡ l → is_transient e ≡ b → b ≡ is_passing l → refused_by e ≡ refusal_of l → new.store ≡ old.store
    → Tried hook answers old new (if b then opening.Transient else opening.Failed e)
failed-so hook answers old new e letter.Transient true is t p by store = passing is store
failed-so hook answers old new e letter.Transient false is t p by store = absurd cc
failed-so hook answers old new e letter.Connected true is t p by store = absurd cc
failed-so hook answers old new e letter.ConnectIo true is t p by store = absurd cc
failed-so hook answers old new e letter.ConnectDatabase true is t p by store = absurd cc
failed-so hook answers old new e letter.Connected false is t p by store = failed e (by ∙ ap refusal_of (sym is)) (ap is_passing is) store
failed-so hook answers old new e letter.ConnectIo false is t p by store = failed e (by ∙ ap refusal_of (sym is)) (ap is_passing is) store
failed-so hook answers old new e letter.ConnectDatabase false is t p by store = failed e (by ∙ ap refusal_of (sym is)) (ap is_passing is) store

-- what a try says
pub tried-told : (answers : PollAnswers) (hook : Bool) (o : Opening Link) (old new : ScriptOutside)
    → poll_letters old ≡ answers → old.opens ≡ 0 → Tries {O = Unit {0}} Does depth_of hook tt o old new → Tried hook answers old new o
tried-told answers hook o old new letters none t = by t.answer t.connects.0 t.follows
  where
    letter_is : next_connect old ≡ answers.connect
    letter_is = connect-letter old none ∙ ap (λ (a : PollAnswers). a.connect) letters

    by : (r : Result Link Error) → Connects r old t.between → Follows {O = Unit {0}} Does depth_of hook r o t.between new → Tried hook answers old new o
    by (Ok raw) c f =
        let s = set-up _ _ _ _ _ _ f.sets_up in
        kept hook answers old new (sym letter_is ∙ c.opened.0) f.good raw f.now o t.between f.between c.opened.1 s.link c.store s.store
        (good-set-up _ _ _ _ _ _ c.rests f.sets_up ∙ (λ j. not hook || sets_up ((c.letters ∙ letters) j).after_connect)) f.keeps
    by (Err e) c f =
        subst (λ (p : Opening Link). Tried hook answers old new p) (sym f.0)
        (failed-so hook answers old new e answers.connect (is_transient e) refl refl (c.passing ∙ ap is_passing letter_is) (c.opened ∙ ap refusal_of letter_is) (ap (λ (x : ScriptOutside). x.store) f.1 ∙ c.unopened))

-- how many tests the letters answer is no part of a try
pub tried-answering : (hook : Bool) (answers : PollAnswers) (n : ℕ) (old new : ScriptOutside) (o : Opening Link) → Tried hook (answering answers n) old new o → Tried hook answers old new o
tried-answering hook answers n old new _ (opened connects good store) = opened connects good store
tried-answering hook answers n old new _ (refused_hook connects bad store) = refused_hook connects bad store
tried-answering hook answers n old new _ (passing connects store) = passing connects store
tried-answering hook answers n old new _ (failed e by never store) = failed e by never store
