-- What each statement of a client does, by what happened on all connections.
use Rattle.std.proofs.Common.{◌≡◌, ℕ, zero, suc, pred, ◌+◌, ◌<◌, ◌≤◌, ◌^◌, ◌==◌, nat_lt, ℤ, Bool, true, false, not, cond, ◌&&◌, ◌⊎◌, inl, inr, Option, Some, None, ◌∷◌, refl, sym, ap, subst, ◌∙◌, arith, lt-ltb}
use Rattle.std.proofs.lemmas.Bool.{le-ltb}
use Rattle.std.proofs.lemmas.Bool.{cases_Bool}
use Rattle.sqlx_savepoints.specs.Texts.{begin_at, commit_at, rollback_at}
use Rattle.sqlx_savepoints.specs.Changes.{Change, opens, commits, rolls_back, connection_of, History}
use Rattle.sqlx_savepoints.specs.Brackets.{depth, value}
use Rattle.sqlx_savepoints.specs.Standing.{is_zero}
use Rattle.sqlx_savepoints.specs.Links.{linked_after, Link as BracketLink}
use Rattle.sqlx_savepoints.specs.Events.{others_open, reply_of, change_by, level, ok, found, deep, busy, io, read_reply, accepted, broken}
use Rattle.sqlx_savepoints.specs.Events as bracket
use Rattle.sqlx_savepoints.proofs.Linking.{savepoints_read_alike}
use Rattle.sqlx_savepoints.proofs.Answering.{no_other, asked_fine}
use Rattle.mem_store.specs.declared.answer.Answer.{Answer}
use Rattle.mem_store.specs.declared.answer.Answer.TheVariants as answer
use Rattle.mem_store.specs.declared.refusal.Refusal.{Refusal}
use Rattle.mem_store.specs.declared.refusal.Refusal.TheVariants as refusal
use Rattle.mem_store.specs.declared.runs.Runs.{Runs as Counts}
use Rattle.mem_store.specs.Store.{Store, Link, Session, at_work, level_mark, others_in_level, remarked}
use Rattle.mem_store.specs.Acts.{refusal_of, counted, level_counted}
use Rattle.sqlx_script.specs.declared.answers.StatementAnswer.{StatementAnswer}
use Rattle.sqlx_script.specs.declared.answers.StatementAnswer.TheVariants.{Runs, StatementIo}
use Rattle.sqlx_script.specs.declared.reply.Reply.{Reply}
use Rattle.sqlx_script.specs.declared.reply.Reply.TheVariants as reply
use Rattle.sqlx_script_rules.specs.ScriptLevels.{met_of, written_reply}
use Rattle.sqlx_play_acts.specs.declared.act.Act.{Act}
use Rattle.sqlx_play_acts.specs.declared.act.Act.TheVariants as act
use Rattle.sqlx_play_acts.specs.ClientActs.{statement_at, reply_met, left_met, left_within, reply_on, left_by}
use Rattle.sqlx_play.specs.events.StatementRuns.{answer_for, act_on, IsMet}
use Rattle.sqlx_play.proofs.statements.Leaves.{Leaves, session_at}
use Rattle.sqlx_play.proofs.statements.ActsAlike.{AlikeAt, acts-alike}
use Rattle.sqlx_play.proofs.links.Middles.{any-found}
use Rattle.sqlx_transfer.specs.At.{At, Puts, told_of}

-- ---- how many levels were begun

-- an act begins no level, or one
abbrev Begins : ℕ → ℕ → Type 0
Begins before now = (now ≡ before) ⊎ (now ≡ counted before)

begun-by : (d : ℕ) (runs : Counts) → (level_counted (begin_at d) runs).begun ≡ counted runs.begun
begun-by zero runs = refl
begun-by (suc d) runs = refl

begun-committed : (d : ℕ) (runs : Counts) → (level_counted (commit_at d) runs).begun ≡ runs.begun
begun-committed zero runs = refl
begun-committed (suc zero) runs = refl
begun-committed (suc (suc d)) runs = refl

begun-rolled : (d : ℕ) (runs : Counts) → (level_counted (rollback_at d) runs).begun ≡ runs.begun
begun-rolled zero runs = refl
begun-rolled (suc zero) runs = refl
begun-rolled (suc (suc d)) runs = refl

begins-met : (a : Act) (s : Session) (r : Option Refusal) → Begins s.store.runs.begun (left_met a s r).store.runs.begun
begins-met act.Begin s None = inr (begun-by s.link.depth s.store.runs)
begins-met (act.Custom true) s None = inr refl
begins-met (act.Custom false) s None = inl refl
begins-met (act.Put key value) s None = inl refl
begins-met (act.Delete key) s None = inl refl
begins-met (act.Get key) s None = inl refl
begins-met act.Commit s None = inl (begun-committed s.link.depth s.store.runs)
begins-met act.Rollback s None = inl (begun-rolled s.link.depth s.store.runs)
begins-met act.GiveUp s None = inl (begun-rolled s.link.depth s.store.runs)
begins-met act.Begin s (Some reason) = inl refl
begins-met (act.Custom starts) s (Some reason) = inl refl
begins-met (act.Put key value) s (Some reason) = inl refl
begins-met (act.Delete key) s (Some reason) = inl refl
begins-met (act.Get key) s (Some reason) = inl refl
begins-met act.Commit s (Some reason) = inl refl
begins-met act.Rollback s (Some reason) = inl refl
begins-met act.GiveUp s (Some reason) = inl refl

-- the refusal that the act's statement meets
abbrev met_by : Act → Session → Option Refusal
met_by a s = refusal_of (Some (statement_at a s.link.depth)) s

begins-either : (b : Bool) (s left : Session) → Begins s.store.runs.begun left.store.runs.begun → Begins s.store.runs.begun (cond b s left).store.runs.begun
begins-either true s left h = inl refl
begins-either false s left h = h

begins-or : (b : Bool) (s left : Session) → Begins s.store.runs.begun left.store.runs.begun → Begins s.store.runs.begun (cond b left s).store.runs.begun
begins-or true s left h = h
begins-or false s left h = inl refl

begins : (a : Act) (s : Session) → Begins s.store.runs.begun (left_by a s).store.runs.begun
begins act.Begin s = begins-met act.Begin s (met_by act.Begin s)
begins (act.Custom starts) s = begins-or (s.link.depth == 0) s (left_met (act.Custom starts) s (met_by (act.Custom starts) s)) (begins-met (act.Custom starts) s (met_by (act.Custom starts) s))
begins (act.Put key value) s = begins-met (act.Put key value) s (met_by (act.Put key value) s)
begins (act.Delete key) s = begins-met (act.Delete key) s (met_by (act.Delete key) s)
begins (act.Get key) s = begins-met (act.Get key) s (met_by (act.Get key) s)
begins act.Commit s = begins-either (s.link.depth == 0) s (left_within act.Commit s) (begins-met act.Commit s (met_by act.Commit s))
begins act.Rollback s = begins-either (s.link.depth == 0) s (left_within act.Rollback s) (begins-met act.Rollback s (met_by act.Rollback s))
begins act.GiveUp s = begins-either (s.link.depth == 0) s (left_within act.GiveUp s) (inl refl)

-- a level that was told of was begun
begun-told : (s : Session) (r : Option Refusal) (d : ℕ) (text : _) → reply_met act.Begin s r ≡ reply.Level d text → (left_met act.Begin s r).store.runs.begun ≡ counted s.store.runs.begun
begun-told s None d text told = begun-by s.link.depth s.store.runs
begun-told s (Some refusal.Fault) d text told = absurd cc
begun-told s (Some refusal.Refused) d text told = absurd cc
begun-told s (Some refusal.Unread) d text told = absurd cc
begun-told s (Some refusal.Deep) d text told = absurd cc
begun-told s (Some refusal.Busy) d text told = absurd cc

still : (b before now : ℕ) → b < 2 ^ 32 → b ≤ before → Begins before now → b ≤ now
still b before now few le (inl is) = omega (arith, le, is)
still b before now few le (inr is) = omega (arith, few, le, is)

-- ---- whether another connection has an open level

above : (n : ℕ) → is_zero n ≡ false → 1 ≤ n
above zero e = absurd (cc)
above (suc n) e = omega arith

not_true : (b : Bool) → not b ≡ true → b ≡ false
not_true true e = absurd (cc)
not_true false e = refl

both : (a b : Bool) → (a && b) ≡ true → (a ≡ true) × (b ≡ true)
both true b e = (refl, e)
both false b e = absurd (cc)

none-open : (past : History) (o : ℕ → BracketLink) (k n b : ℕ) (store : Store) (link : Link) → At past o k n b store link → n ≡ 0 → others_open k past ≡ false
none-open past o k n b store link at none = by (cases_Bool (others_open k past))
  where
    by : (others_open k past ≡ true) ⊎ (others_open k past ≡ false) → others_open k past ≡ false
    by (inr none') = none'
    by (inl some) = absurd (
        let one = any-found (λ (change : Change). not (connection_of change == k) && not (is_zero (depth (connection_of change) past))) (λ (change : Change). change ≡ change) past some (λ i d lt. refl) in
        let parts = both (not (connection_of one.0 == k)) (not (is_zero (depth (connection_of one.0) past))) one.1 in
        let deep' = above (depth (connection_of one.0) past) (not_true (is_zero (depth (connection_of one.0) past)) parts.1) in
        let apart = not_true (connection_of one.0 == k) parts.0 in
        let flat = ap (λ l. l.depth) (at.beside (connection_of one.0) apart) ∙ at.quiet none (connection_of one.0) apart in
        let same = (savepoints_read_alike past at.accepted).depths (connection_of one.0) in
        omega (arith, deep', flat, same))

some-open : (past : History) (o : ℕ → BracketLink) (k n b : ℕ) (store : Store) (link : Link) → At past o k n b store link → 1 ≤ n → others_open k past ≡ true
some-open past o k n b store link at one = by (cases_Bool (others_open k past))
  where
    by : (others_open k past ≡ true) ⊎ (others_open k past ≡ false) → others_open k past ≡ true
    by (inl yes') = yes'
    by (inr none) = absurd (
        let open' = at.loud one in
        let flat = no_other k past none open'.other open'.apart in
        let same = (savepoints_read_alike past at.accepted).depths open'.other in
        let deep' = open'.deep in
        let beside = ap (λ l. l.depth) (at.beside open'.other open'.apart) in
        omega (arith, deep', flat, same, beside))

busy-is : (past : History) (o : ℕ → BracketLink) (k n b : ℕ) (store : Store) (link : Link) → At past o k n b store link → others_in_level ((linked_after past).link k).depth store.open_links ≡ others_open k past
busy-is past o k n b store link at =
    let same : link.depth ≡ ((linked_after past).link k).depth = ap (λ l. l.depth) at.side in
    (λ i. nat_lt (level_mark (sym same i)) (at.open_links i)) ∙ by n refl
  where
    beyond : (a c : ℕ) → 1 ≤ c → nat_lt a (a + c) ≡ true
    beyond a c one = lt-ltb a (a + c) (omega (arith, one))

    not_beyond : (a c : ℕ) → c ≡ 0 → nat_lt a (a + c) ≡ false
    not_beyond a c none = le-ltb a (a + c) (omega (arith, none))

    by : (m : ℕ) → m ≡ n → nat_lt (level_mark link.depth) (level_mark link.depth + n) ≡ others_open k past
    by zero is = not_beyond (level_mark link.depth) n (sym is) ∙ sym (none-open past o k n b store link at (sym is))
    by (suc m) is = beyond (level_mark link.depth) n (omega (arith, is)) ∙ sym (some-open past o k n b store link at (omega (arith, is)))

-- ---- every act

session-is : (past : History) (o : ℕ → BracketLink) (k n b : ℕ) (store : Store) (link : Link) (met : Answer) → At past o k n b store link → at_work store link met ≡ session_at past k link store.open_links store.given store.runs met
session-is past o k n b store link met at = λ i. record {
  store = record { rows = at.rows i; open_links = store.open_links; given = store.given; runs = store.runs };
  link = record link { depth = (at.side i).depth; own = (at.side i).own; entries = (at.side i).entries };
  answer = met;
}

-- an act's reply is that of brackets, and what it leaves is what happened then
pub acted : (past : History) (o : ℕ → BracketLink) (k n b : ℕ) (store : Store) (link : Link) (a : Act) (met : StatementAnswer) → IsMet a met → At past o k n b store link
    → (reply_on a (at_work store link (answer_for met)) ≡ written_reply (act_on k a) (depth k past) (reply_of (act_on k a) true (met_of met) past))
    × At (change_by (act_on k a) (reply_of (act_on k a) true (met_of met) past) past) o k n b (left_by a (at_work store link (answer_for met))).store (left_by a (at_work store link (answer_for met))).link
acted past o k n b store link a met is_met at =
    let s : Session = at_work store link (answer_for met) in
    let t : Session = left_by a s in
    let said : bracket.Reply = reply_of (act_on k a) true (met_of met) past in
    let new : History = change_by (act_on k a) said past in
    let alike : AlikeAt (act_on k a) past k s said (reply_on a s) t =
    subst (λ (x : Session). AlikeAt (act_on k a) past k x said (reply_on a x) (left_by a x)) (sym (session-is past o k n b store link (answer_for met) at))
    (acts-alike past at.accepted k link store.open_links store.given store.runs a met is_met (busy-is past o k n b store link at)) in
    let left : Leaves past new k s t = alike.1 in (
      alike.0,
      record {
        accepted = asked_fine (act_on k a) true (met_of met) past at.accepted;
        rows = left.rows;
        side = left.side;
        open_links = counted-open left.open_links at.open_links;
        beside = λ other apart. left.others other apart ∙ at.beside other apart;
        quiet = at.quiet;
        loud = at.loud;
        few = at.few;
        begun = still b store.runs.begun t.store.runs.begun at.few at.begun (begins a s);
      },
    )
  where
    counted-open : {before now d e : ℕ} → ((now ≡ before) × (e ≡ d)) ⊎ (now ≡ remarked d e before) → before ≡ level_mark d + n → now ≡ level_mark e + n
    counted-open {before} {now} {d} {e} (inl h) is = let same = h.0 in let flat = ap level_mark h.1 in omega (arith, same, flat, is)
    counted-open {before} {now} {d} {e} (inr h) is = omega (arith, h, is)

-- what a call that ran an act answered and left
abbrev pub Did : Act → Session → Reply → Store → Link → Type 0
Did a before r s l = (r ≡ reply_on a before) × (s ≡ (left_by a before).store) × (l ≡ (left_by a before).link)

-- the same of such a call
pub done : (past : History) (o : ℕ → BracketLink) (k n b : ℕ) (store : Store) (link : Link) (a : Act) (met : StatementAnswer) (r : Reply) (s : Store) (l : Link) → IsMet a met → At past o k n b store link → Did a (at_work store link (answer_for met)) r s l
    → (r ≡ written_reply (act_on k a) (depth k past) (reply_of (act_on k a) true (met_of met) past)) × At (change_by (act_on k a) (reply_of (act_on k a) true (met_of met) past) past) o k n b s l
done past o k n b store link a met r s l is_met at did =
    let acts = acted past o k n b store link a met is_met at in
    let new : History = change_by (act_on k a) (reply_of (act_on k a) true (met_of met) past) past in
    (did.0 ∙ acts.0, subst (λ (x : Store). At new o k n b x l) (sym did.1) (subst (λ (x : Link). At new o k n b (left_by a (at_work store link (answer_for met))).store x) (sym did.2) acts.1))

-- ---- each statement

pub begins_level : (past : History) (o : ℕ → BracketLink) (k n b : ℕ) (store : Store) (link : Link) (r : Reply) (s : Store) (l : Link) → At past o k n b store link → depth k past < 100 → b + 1 < 2 ^ 32
    → r ≡ reply_on act.Begin (at_work store link answer.Accept) → s ≡ (left_by act.Begin (at_work store link answer.Accept)).store → l ≡ (left_by act.Begin (at_work store link answer.Accept)).link → At (opens k ∷ past) o k n (b + 1) s l
begins_level past o k n b store link r s l at low few told is_store is_link =
    let did = done past o k n b store link act.Begin Runs r s l tt at (told, is_store, is_link) in
    let is : reply_of (bracket.begin k) true accepted past ≡ level (suc (depth k past)) = ap (λ c. cond c (level (suc (depth k past))) deep) (lt-ltb (depth k past) 100 low) in
    let now : At (opens k ∷ past) o k n b s l = subst (λ (x : bracket.Reply). At (change_by (bracket.begin k) x past) o k n b s l) is did.1 in
    let level' : reply_met act.Begin (at_work store link answer.Accept) (met_by act.Begin (at_work store link answer.Accept)) ≡ reply.Level (suc (depth k past)) (begin_at (depth k past)) =
    sym told ∙ did.0 ∙ ap (written_reply (bracket.begin k) (depth k past)) is in
    let more = begun-told (at_work store link answer.Accept) (met_by act.Begin (at_work store link answer.Accept)) (suc (depth k past)) (begin_at (depth k past)) level' in
    let same = ap (λ (x : Store). x.runs.begun) is_store in
    let le = at.begun in
    record { accepted = now.accepted; rows = now.rows; side = now.side; beside = now.beside; open_links = now.open_links; quiet = now.quiet; loud = now.loud; few = few; begun = omega (arith, more, same, le, few) }

pub reads : (past : History) (o : ℕ → BracketLink) (k n b : ℕ) (store : Store) (link : Link) (key v : ℤ) (r : Reply) (s : Store) (l : Link) → At past o k n b store link → value k key past ≡ Some v
    → r ≡ reply_on (act.Get key) (at_work store link answer.Accept) → s ≡ (left_by (act.Get key) (at_work store link answer.Accept)).store → l ≡ (left_by (act.Get key) (at_work store link answer.Accept)).link
    → (r ≡ reply.Value v) × At past o k n b s l
reads past o k n b store link key v r s l at sees told is_store is_link =
    let did = done past o k n b store link (act.Get key) Runs r s l tt at (told, is_store, is_link) in
    let is : reply_of (bracket.get k key) true accepted past ≡ found v = ap read_reply sees in
    (did.0 ∙ ap (written_reply (bracket.get k key) (depth k past)) is, subst (λ (x : bracket.Reply). At (change_by (bracket.get k key) x past) o k n b s l) is did.1)

pub puts : (refused : Bool) (past : History) (o : ℕ → BracketLink) (k n b : ℕ) (store : Store) (link : Link) (key v : ℤ) (r : Reply) (s : Store) (l : Link) (met : Answer) → met ≡ cond refused answer.Io answer.Accept → At past o k n b store link
    → r ≡ reply_on (act.Put key v) (at_work store link met) → s ≡ (left_by (act.Put key v) (at_work store link met)).store → l ≡ (left_by (act.Put key v) (at_work store link met)).link
    → Puts refused key v past o k n b (told_of r) s l
puts true past o k n b store link key v r s l met is at told is_store is_link =
    let did = done past o k n b store link (act.Put key v) StatementIo r s l tt at (subst (λ (m : Answer). Did (act.Put key v) (at_work store link m) r s l) is (told, is_store, is_link)) in
    (ap told_of did.0, did.1)
puts false past o k zero b store link key v r s l met is at told is_store is_link =
    let did = done past o k zero b store link (act.Put key v) Runs r s l tt at (subst (λ (m : Answer). Did (act.Put key v) (at_work store link m) r s l) is (told, is_store, is_link)) in
    let free : reply_of (bracket.put k key v) true accepted past ≡ ok 1 = ap (λ c. cond c busy (ok 1)) (none-open past o k zero b store link at refl) in
    (ap told_of did.0 ∙ ap (λ x. told_of (written_reply (bracket.put k key v) (depth k past) x)) free, subst (λ (x : bracket.Reply). At (change_by (bracket.put k key v) x past) o k zero b s l) free did.1)
puts false past o k (suc n) b store link key v r s l met is at told is_store is_link =
    let did = done past o k (suc n) b store link (act.Put key v) Runs r s l tt at (subst (λ (m : Answer). Did (act.Put key v) (at_work store link m) r s l) is (told, is_store, is_link)) in
    let free : reply_of (bracket.put k key v) true accepted past ≡ busy = ap (λ c. cond c busy (ok 1)) (some-open past o k (suc n) b store link at (omega arith)) in
    (ap told_of did.0 ∙ ap (λ x. told_of (written_reply (bracket.put k key v) (depth k past) x)) free, subst (λ (x : bracket.Reply). At (change_by (bracket.put k key v) x past) o k (suc n) b s l) free did.1)

some_zero : (n : ℕ) → 1 ≤ n → is_zero n ≡ false
some_zero zero one = absurd (omega arith)
some_zero (suc n) one = refl

pub commits_level : (past : History) (o : ℕ → BracketLink) (k n b : ℕ) (store : Store) (link : Link) (r : Reply) (s : Store) (l : Link) → At past o k n b store link → 1 ≤ depth k past
    → r ≡ reply_on act.Commit (at_work store link answer.Accept) → s ≡ (left_by act.Commit (at_work store link answer.Accept)).store → l ≡ (left_by act.Commit (at_work store link answer.Accept)).link → At (commits k ∷ past) o k n b s l
commits_level past o k n b store link r s l at one told is_store is_link =
    let did = done past o k n b store link act.Commit Runs r s l tt at (told, is_store, is_link) in
    let is : reply_of (bracket.commit k) true accepted past ≡ level (pred (depth k past)) = ap (λ c. cond c bracket.not_held (level (pred (depth k past)))) (some_zero (depth k past) one) in
    subst (λ (x : bracket.Reply). At (change_by (bracket.commit k) x past) o k n b s l) is did.1

pub rolls_level_back : (past : History) (o : ℕ → BracketLink) (k n b : ℕ) (store : Store) (link : Link) (r : Reply) (s : Store) (l : Link) → At past o k n b store link → 1 ≤ depth k past
    → r ≡ reply_on act.Rollback (at_work store link answer.Accept) → s ≡ (left_by act.Rollback (at_work store link answer.Accept)).store → l ≡ (left_by act.Rollback (at_work store link answer.Accept)).link → At (rolls_back k ∷ past) o k n b s l
rolls_level_back past o k n b store link r s l at one told is_store is_link =
    let did = done past o k n b store link act.Rollback Runs r s l tt at (told, is_store, is_link) in
    let is : reply_of (bracket.roll_back k) true accepted past ≡ level (pred (depth k past)) = ap (λ c. cond c bracket.not_held (level (pred (depth k past)))) (some_zero (depth k past) one) in
    subst (λ (x : bracket.Reply). At (change_by (bracket.roll_back k) x past) o k n b s l) is did.1

pub gives_level_up : (past : History) (o : ℕ → BracketLink) (k n b : ℕ) (store : Store) (link : Link) (r : Reply) (s : Store) (l : Link) → At past o k n b store link → 1 ≤ depth k past
    → r ≡ reply_on act.GiveUp (at_work store link answer.Accept) → s ≡ (left_by act.GiveUp (at_work store link answer.Accept)).store → l ≡ (left_by act.GiveUp (at_work store link answer.Accept)).link → At (rolls_back k ∷ past) o k n b s l
gives_level_up past o k n b store link r s l at one told is_store is_link =
    let did = done past o k n b store link act.GiveUp Runs r s l refl at (told, is_store, is_link) in
    let is : reply_of (bracket.give_up k) true accepted past ≡ level (pred (depth k past)) = ap (λ c. cond c bracket.not_held (level (pred (depth k past)))) (some_zero (depth k past) one) in
    subst (λ (x : bracket.Reply). At (change_by (bracket.give_up k) x past) o k n b s l) is did.1

-- a reply that is no value
pub value_said : (r : Reply) (v w : ℤ) → r ≡ reply.Value v → r ≡ reply.Value w → w ≡ v
value_said r v w is was = let same : reply.Value w ≡ reply.Value v = sym was ∙ is in cc
