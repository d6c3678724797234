-- What each statement of a level does to the connection and the store.
use Rattle.std.proofs.Common.{◌≡◌, ℕ, ◌+◌, ◌-◌, ◌<◌, ◌≤◌, ◌^◌, min, [], Bool, true, false, not, cond, Option, Some, None, refl, sym, ap, subst, ◌∙◌, arith}
use Rattle.sqlx_savepoints.specs.Rows.{Rows, written, laid}
use Rattle.sqlx_savepoints.proofs.Laid.{laid-empty, laid-insert}
use Rattle.sqlx_script.specs.declared.reply.Reply.{Reply as Said}
use Rattle.mem_store.specs.declared.answer.Answer.{Answer}
use Rattle.mem_store.specs.declared.answer.Answer.TheVariants.{Accept, Io as Refused}
use Rattle.mem_store.specs.Store.{Store, Link, Session, at_work, new_link}
use Rattle.sqlx_play_acts.specs.ClientActs.{left_by, reply_on}
use Rattle.sqlx_play_acts.specs.declared.act.Act.{Act}
use Rattle.sqlx_play_acts.specs.declared.act.Act.TheVariants as act
use Rattle.sqlx_jobs_rules.specs.declared.event.Met.{Met}
use Rattle.sqlx_jobs_rules.specs.declared.event.Met.TheVariants.{Accepted, WriteRefused, CommitRefused}
use Rattle.sqlx_jobs_rules.specs.declared.reply.Reply.{Reply}
use Rattle.sqlx_jobs_rules.specs.declared.reply.Reply.TheVariants.{Fault}
use Rattle.sqlx_jobs.specs.declared.change.Put.{Put}
use Rattle.sqlx_jobs.specs.declared.change.Change.{Change}
use Rattle.sqlx_jobs.specs.Level.{IsAtRest, IsWithin, is_io, put_in, put_too, changed, refuses_write, refuses_commit, Puts, Commits, Makes, Ends}

-- a store of these rows, of which so many links have an open level
abbrev store_of : Store → Rows → ℕ → Store
store_of store rows levels = record { rows = rows; open_links = levels; given = store.given; runs = store.runs }

-- a link in a level
abbrev link_of : Link → ℕ → Link
link_of link n = record { number = n; depth = 1; own = link.own; entries = []; undo = link.undo }

rest_is : (store : Store) (link : Link) (n : ℕ) (rows : Rows) (b w : ℕ) → IsAtRest store link n rows b w → store ≡ store_of store rows 0
rest_is store link n rows b w h = λ i. record { rows = h.sees i; open_links = h.alone i; given = store.given; runs = store.runs }

within_is : (store : Store) (link : Link) (n : ℕ) (before rows : Rows) (b w : ℕ) → IsWithin store link n before rows b w → store ≡ store_of store before 1
within_is store link n before rows b w h = λ i. record { rows = h.below i; open_links = h.alone i; given = store.given; runs = store.runs }

link_is : (store : Store) (link : Link) (n : ℕ) (before rows : Rows) (b w : ℕ) → IsWithin store link n before rows b w → link ≡ link_of link n
link_is store link n before rows b w h = λ i. record { number = h.number i; depth = h.depth i; own = link.own; entries = h.entries i; undo = link.undo }

-- what a call that ran an act answered and left
abbrev pub Did : Act → Session → Said → Store → Link → Type 0
Did a before r s l = (r ≡ reply_on a before) × (s ≡ (left_by a before).store) × (l ≡ (left_by a before).link)

did_at_rest : (store : Store) (link : Link) (n : ℕ) (rows : Rows) (b w : ℕ) (a : Act) (met : Answer) (r : Said) (s : Store) (l : Link) → IsAtRest store link n rows b w
    → Did a (at_work store link met) r s l → Did a (at_work (store_of store rows 0) (new_link n) met) r s l
did_at_rest store link n rows b w a met r s l h did =
    subst (λ (k : Link). Did a (at_work (store_of store rows 0) k met) r s l) h.rests
    (subst (λ (t : Store). Did a (at_work t link met) r s l) (rest_is store link n rows b w h) did)

did_within : (store : Store) (link : Link) (n : ℕ) (before rows : Rows) (b w : ℕ) (a : Act) (met : Answer) (r : Said) (s : Store) (l : Link) → IsWithin store link n before rows b w
    → Did a (at_work store link met) r s l → Did a (at_work (store_of store before 1) (link_of link n) met) r s l
did_within store link n before rows b w a met r s l h did =
    subst (λ (k : Link). Did a (at_work (store_of store before 1) k met) r s l) (link_is store link n before rows b w h)
    (subst (λ (t : Store). Did a (at_work t link met) r s l) (within_is store link n before rows b w h) did)

-- one more where so few are counted
one_more : (low count after : ℕ) → low ≤ count → low < 2 ^ 32 → after ≡ min (count + 1) (2 ^ 64 - 1) → low + 1 ≤ after
one_more low count after le few is = omega (arith, le, few, is)

as_many : (low count after : ℕ) → low ≤ count → after ≡ count → low ≤ after
as_many low count after le is = omega (arith, le, is)

-- ---- begin

pub begins : (store : Store) (link : Link) (n : ℕ) (rows : Rows) (b w : ℕ) (r : Said) (s : Store) (l : Link) → IsAtRest store link n rows b w → b < 2 ^ 32
    → r ≡ reply_on act.Begin (at_work store link Accept) → s ≡ (left_by act.Begin (at_work store link Accept)).store → l ≡ (left_by act.Begin (at_work store link Accept)).link → IsWithin s l n rows rows (b + 1) w
begins store link n rows b w r s l h few reply is_store is_link =
    let did = did_at_rest store link n rows b w act.Begin Accept r s l h (reply, is_store, is_link) in
    record {
      below = ap (λ (x : Store). x.rows) did.1;
      alone = ap (λ (x : Store). x.open_links) did.1;
      number = ap (λ (x : Link). x.number) did.2;
      depth = ap (λ (x : Link). x.depth) did.2;
      entries = ap (λ (x : Link). x.entries) did.2;
      sees = ap (λ (x : Link). laid x.own rows) did.2 ∙ laid-empty rows;
      levels = one_more b store.runs.begun s.runs.begun h.levels few (ap (λ (x : Store). x.runs.begun) did.1);
      puts = as_many w store.runs.writes s.runs.writes h.puts (ap (λ (x : Store). x.runs.writes) did.1);
    }

-- ---- a row

put_accepted : (store : Store) (link : Link) (n : ℕ) (before rows : Rows) (b w : ℕ) (put : Put) (r : Said) (s : Store) (l : Link) → IsWithin store link n before rows b w → w < 2 ^ 32
    → Did (act.Put put.key put.value) (at_work (store_of store before 1) (link_of link n) Accept) r s l → (not (is_io r) ≡ true) × IsWithin s l n before (put_in put rows) b (w + 1)
put_accepted store link n before rows b w put r s l h few did = (
  ap (λ x. not (is_io x)) did.0,
  record {
    below = ap (λ (x : Store). x.rows) did.1;
    alone = ap (λ (x : Store). x.open_links) did.1;
    number = ap (λ (x : Link). x.number) did.2;
    depth = ap (λ (x : Link). x.depth) did.2;
    entries = ap (λ (x : Link). x.entries) did.2;
    sees = ap (λ (x : Link). laid x.own before) did.2 ∙ laid-insert link.own put.key (Some put.value) before ∙ ap (written put.key (Some put.value)) h.sees;
    levels = as_many b store.runs.begun s.runs.begun h.levels (ap (λ (x : Store). x.runs.begun) did.1);
    puts = one_more w store.runs.writes s.runs.writes h.puts few (ap (λ (x : Store). x.runs.writes) did.1);
  },
)

put_refused : (store : Store) (link : Link) (n : ℕ) (before rows : Rows) (b w : ℕ) (put : Put) (r : Said) (s : Store) (l : Link) → IsWithin store link n before rows b w
    → Did (act.Put put.key put.value) (at_work (store_of store before 1) (link_of link n) Refused) r s l → (not (is_io r) ≡ false) × IsWithin s l n before rows b w
put_refused store link n before rows b w put r s l h did = (
  ap (λ x. not (is_io x)) did.0,
  record {
    below = ap (λ (x : Store). x.rows) did.1;
    alone = ap (λ (x : Store). x.open_links) did.1;
    number = ap (λ (x : Link). x.number) did.2;
    depth = ap (λ (x : Link). x.depth) did.2;
    entries = ap (λ (x : Link). x.entries) did.2;
    sees = ap (λ (x : Link). laid x.own before) did.2 ∙ h.sees;
    levels = as_many b store.runs.begun s.runs.begun h.levels (ap (λ (x : Store). x.runs.begun) did.1);
    puts = as_many w store.runs.writes s.runs.writes h.puts (ap (λ (x : Store). x.runs.writes) did.1);
  },
)

-- a row that was to be put
pub puts : (refused : Bool) (store : Store) (link : Link) (n : ℕ) (before rows : Rows) (b w : ℕ) (put : Put) (r : Said) (s : Store) (l : Link) (met : Answer) → met ≡ cond refused Refused Accept
    → r ≡ reply_on (act.Put put.key put.value) (at_work store link met) → s ≡ (left_by (act.Put put.key put.value) (at_work store link met)).store → l ≡ (left_by (act.Put put.key put.value) (at_work store link met)).link
    → IsWithin store link n before rows b w → w < 2 ^ 32 → Puts refused put n before rows b w (not (is_io r)) s l
puts true store link n before rows b w put r s l met is reply is_store is_link h few =
    put_refused store link n before rows b w put r s l h
    (did_within store link n before rows b w (act.Put put.key put.value) Refused r s l h (subst (λ (m : Answer). Did (act.Put put.key put.value) (at_work store link m) r s l) is (reply, is_store, is_link)))
puts false store link n before rows b w put r s l met is reply is_store is_link h few =
    put_accepted store link n before rows b w put r s l h few
    (did_within store link n before rows b w (act.Put put.key put.value) Accept r s l h (subst (λ (m : Answer). Did (act.Put put.key put.value) (at_work store link m) r s l) is (reply, is_store, is_link)))

-- ---- the end

commit_accepted : (store : Store) (link : Link) (n : ℕ) (before rows : Rows) (b w : ℕ) (r : Said) (s : Store) (l : Link) → IsWithin store link n before rows b w
    → Did act.Commit (at_work (store_of store before 1) (link_of link n) Accept) r s l → (not (is_io r) ≡ true) × IsAtRest s l n rows b w
commit_accepted store link n before rows b w r s l h did = (
  ap (λ x. not (is_io x)) did.0,
  record {
    sees = ap (λ (x : Store). x.rows) did.1 ∙ h.sees;
    alone = ap (λ (x : Store). x.open_links) did.1;
    rests = did.2;
    levels = as_many b store.runs.begun s.runs.begun h.levels (ap (λ (x : Store). x.runs.begun) did.1);
    puts = as_many w store.runs.writes s.runs.writes h.puts (ap (λ (x : Store). x.runs.writes) did.1);
  },
)

commit_refused : (store : Store) (link : Link) (n : ℕ) (before rows : Rows) (b w : ℕ) (r : Said) (s : Store) (l : Link) → IsWithin store link n before rows b w
    → Did act.Commit (at_work (store_of store before 1) (link_of link n) Refused) r s l → (not (is_io r) ≡ false) × IsAtRest s l n before b w
commit_refused store link n before rows b w r s l h did = (
  ap (λ x. not (is_io x)) did.0,
  record {
    sees = ap (λ (x : Store). x.rows) did.1;
    alone = ap (λ (x : Store). x.open_links) did.1;
    rests = did.2;
    levels = as_many b store.runs.begun s.runs.begun h.levels (ap (λ (x : Store). x.runs.begun) did.1);
    puts = as_many w store.runs.writes s.runs.writes h.puts (ap (λ (x : Store). x.runs.writes) did.1);
  },
)

pub commits : (refused : Bool) (store : Store) (link : Link) (n : ℕ) (before rows : Rows) (b w : ℕ) (r : Said) (s : Store) (l : Link) (met : Answer) → met ≡ cond refused Refused Accept
    → r ≡ reply_on act.Commit (at_work store link met) → s ≡ (left_by act.Commit (at_work store link met)).store → l ≡ (left_by act.Commit (at_work store link met)).link
    → IsWithin store link n before rows b w → Commits refused n before rows b w (not (is_io r)) s l
commits true store link n before rows b w r s l met is reply is_store is_link h =
    commit_refused store link n before rows b w r s l h
    (did_within store link n before rows b w act.Commit Refused r s l h (subst (λ (m : Answer). Did act.Commit (at_work store link m) r s l) is (reply, is_store, is_link)))
commits false store link n before rows b w r s l met is reply is_store is_link h =
    commit_accepted store link n before rows b w r s l h
    (did_within store link n before rows b w act.Commit Accept r s l h (subst (λ (m : Answer). Did act.Commit (at_work store link m) r s l) is (reply, is_store, is_link)))

pub rolls_back : (store : Store) (link : Link) (n : ℕ) (before rows : Rows) (b w : ℕ) (r : Said) (s : Store) (l : Link)
    → r ≡ reply_on act.Rollback (at_work store link Accept) → s ≡ (left_by act.Rollback (at_work store link Accept)).store → l ≡ (left_by act.Rollback (at_work store link Accept)).link
    → IsWithin store link n before rows b w → IsAtRest s l n before b w
rolls_back store link n before rows b w r s l reply is_store is_link h =
    let did = did_within store link n before rows b w act.Rollback Accept r s l h (reply, is_store, is_link) in
    record {
      sees = ap (λ (x : Store). x.rows) did.1;
      alone = ap (λ (x : Store). x.open_links) did.1;
      rests = did.2;
      levels = as_many b store.runs.begun s.runs.begun h.levels (ap (λ (x : Store). x.runs.begun) did.1);
      puts = as_many w store.runs.writes s.runs.writes h.puts (ap (λ (x : Store). x.runs.writes) did.1);
    }

-- ---- a change

fewer : (store : Store) (link : Link) (n : ℕ) (rows : Rows) (b w : ℕ) → IsAtRest store link n rows b (w + 1) → IsAtRest store link n rows b w
fewer store link n rows b w h = record { sees = h.sees; alone = h.alone; rests = h.rests; levels = h.levels; puts = omega (arith, h.puts) }

fewer_within : (store : Store) (link : Link) (n : ℕ) (before rows : Rows) (b w : ℕ) → IsWithin store link n before rows b (w + 1) → IsWithin store link n before rows b w
fewer_within store link n before rows b w h = record { below = h.below; alone = h.alone; number = h.number; depth = h.depth; entries = h.entries; sees = h.sees; levels = h.levels; puts = omega (arith, h.puts) }

true_false : true ≡ false → ⊥
true_false e = cc

-- a second row
pub puts_second : (second : Option Put) (row : Put) (n : ℕ) (before rows : Rows) (b w : ℕ) (accepted : Bool) (s : Store) (l : Link) → second ≡ Some row → Puts false row n before rows b w accepted s l
    → IsWithin s l n before (put_too second rows) b w
puts_second second row n before rows b w accepted s l is h =
    subst (λ (o : Option Put). IsWithin s l n before (put_too o rows) b w) (sym is) (fewer_within s l n before (put_in row rows) b w h.1)

pub puts_none : (second : Option Put) (n : ℕ) (before rows : Rows) (b w : ℕ) (s : Store) (l : Link) → second ≡ None → IsWithin s l n before rows b w → IsWithin s l n before (put_too second rows) b w
puts_none second n before rows b w s l is h = subst (λ (o : Option Put). IsWithin s l n before (put_too o rows) b w) (sym is) h

-- the first row was accepted
pub makes : (met : Met) (change : Change) (n : ℕ) (rows : Rows) (b w : ℕ) (first second : Bool) (s1 s2 s3 : Store) (l1 l2 l3 : Link) → first ≡ true
    → Puts (refuses_write met) change.first n rows rows b w first s1 l1
    → (IsWithin s1 l1 n rows (put_in change.first rows) b (w + 1) → IsWithin s2 l2 n rows (changed change rows) b (w + 1))
    → (IsWithin s2 l2 n rows (changed change rows) b (w + 1) → Commits (refuses_commit met) n rows (changed change rows) b (w + 1) second s3 l3)
    → Makes met change n rows b w second s3 l3
makes Accepted change n rows b w first second s1 s2 s3 l1 l2 l3 is put next commit = commit (next put.1)
makes WriteRefused change n rows b w first second s1 s2 s3 l1 l2 l3 is put next commit = absurd (true_false (sym is ∙ put.0))
makes CommitRefused change n rows b w first second s1 s2 s3 l1 l2 l3 is put next commit = let ended = commit (next put.1) in (ended.0, fewer s3 l3 n rows b w ended.1)

-- it wasn't
pub makes_none : (met : Met) (change : Change) (n : ℕ) (rows : Rows) (b w : ℕ) (first : Bool) (s1 s2 : Store) (l1 l2 : Link) → first ≡ false
    → Puts (refuses_write met) change.first n rows rows b w first s1 l1 → (IsWithin s1 l1 n rows rows b w → IsAtRest s2 l2 n rows b w)
    → Makes met change n rows b w false s2 l2
makes_none Accepted change n rows b w first s1 s2 l1 l2 is put back = absurd (true_false (sym put.0 ∙ is))
makes_none WriteRefused change n rows b w first s1 s2 l1 l2 is put back = (refl, back put.1)
makes_none CommitRefused change n rows b w first s1 s2 l1 l2 is put back = absurd (true_false (sym put.0 ∙ is))

-- ---- the end of an event

ends_made : (change : Change) (due : Reply) (met : Met) (n : ℕ) (rows : Rows) (b w : ℕ) (accepted : Bool) (s : Store) (l : Link) → accepted ≡ true → Makes met change n rows b w accepted s l → Ends (Some change) due met n rows b w due s l
ends_made change due Accepted n rows b w accepted s l is h = (refl, h.1)
ends_made change due WriteRefused n rows b w accepted s l is h = absurd (true_false (sym is ∙ h.0))
ends_made change due CommitRefused n rows b w accepted s l is h = absurd (true_false (sym is ∙ h.0))

ends_not : (change : Change) (due : Reply) (met : Met) (n : ℕ) (rows : Rows) (b w : ℕ) (accepted : Bool) (s : Store) (l : Link) → accepted ≡ false → Makes met change n rows b w accepted s l → Ends (Some change) due met n rows b w Fault s l
ends_not change due Accepted n rows b w accepted s l is h = absurd (true_false (sym h.0 ∙ is))
ends_not change due WriteRefused n rows b w accepted s l is h = (refl, h.1)
ends_not change due CommitRefused n rows b w accepted s l is h = (refl, h.1)

pub made : (o : Option Change) (change : Change) (due : Reply) (met : Met) (n : ℕ) (rows : Rows) (b w : ℕ) (accepted : Bool) (s : Store) (l : Link) → o ≡ Some change → accepted ≡ true → Makes met change n rows b w accepted s l → Ends o due met n rows b w due s l
made o change due met n rows b w accepted s l some is h = subst (λ (x : Option Change). Ends x due met n rows b w due s l) (sym some) (ends_made change due met n rows b w accepted s l is h)

pub not_made : (o : Option Change) (change : Change) (due : Reply) (met : Met) (n : ℕ) (rows : Rows) (b w : ℕ) (accepted : Bool) (s : Store) (l : Link) → o ≡ Some change → accepted ≡ false → Makes met change n rows b w accepted s l → Ends o due met n rows b w Fault s l
not_made o change due met n rows b w accepted s l some is h = subst (λ (x : Option Change). Ends x due met n rows b w Fault s l) (sym some) (ends_not change due met n rows b w accepted s l is h)

pub nothing : (o : Option Change) (due : Reply) (met : Met) (n : ℕ) (rows : Rows) (b w : ℕ) (s : Store) (l : Link) → o ≡ None → IsAtRest s l n rows b w → Ends o due met n rows b w due s l
nothing o due met n rows b w s l none h = subst (λ (x : Option Change). Ends x due met n rows b w due s l) (sym none) (refl, h)
