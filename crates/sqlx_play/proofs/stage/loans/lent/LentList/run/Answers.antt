use Rattle.std.proofs.Common.{◌≡◌, ◌∷◌, ◌++◌, List, Result, Ok, Err, IfOk, OnOk, find, refl, sym, ap, ◌∙◌, Some, slice_set, arith, is_some, true, false, nat_eq}
use Rattle.std.specs.HashMap.{get}
use Rattle.sqlx_pool_places.specs.Numbered.{items_at}
use Rattle.sqlx_pool_places.proofs.Places.{find-none, noted-changed, got-within, Sides, sides}
use Rattle.sqlx_pool_lists.specs.declared.steps.Lent.{Lent}
use Rattle.mem_store.specs.Store.{Link, Store}
use Rattle.sqlx_script.specs.declared.reply.Reply.{Reply}
use Rattle.sqlx_play.specs.declared.stage.loans.statements.Statement.{Statement}
use Rattle.sqlx_play_acts.specs.ClientActs.{reply_on}
use Rattle.sqlx_play.specs.events.StatementRuns.{RunsThere, at_work, left_at}
use Rattle.sqlx_play.specs.stage.LentLinks.{is_lent, number_of}
use Rattle.sqlx_play.proofs.links.LentPlaces.{standing}
use Rattle.sqlx_play.proofs.stage.loans.lent.LentList.run.Goals as goal

pub returns-in_err-place-clause-none : goal.returns-in_err-place-clause-none
returns-in_err-place-clause-none g c =
    let none = rw c.deref.ensures.value at (rw c.in_err-place.was at c.find.ensures.none) in
    rw (← c.self.view_is, c.from_residual.ensures) (record {
      none = ap (λ n. find (is_lent n) (items_at c.self.inside.places.items)) (sym c.from-conn.ensures) ∙ find-none number_of c.from-conn.result c.self.inside.places.items none;
      store = refl;
      links = refl;
    })

pub index_mut-requires : goal.index_mut-requires
index_mut-requires g c =
    let there = c.in_ok-place.ensures.some in
    let within = got-within c.deref.result.now c.in_ok-place.place there.thing there.stands in
    let len = c.deref.ensures.len in
    omega (arith, within, len)

-- the link changed where it lies, by the act
runs : {E : Type 0} (s : Statement) (places : List _) (place : _) (own : Lent Link) (link : Link) (old new : Store) (o : Result Reply E) → Sides places place own → own.id ≡ s.connection
    → IfOk o (λ r. r ≡ reply_on s.act (at_work old own.raw s)) → OnOk o (link ≡ (left_at old own.raw s).link) → OnOk o (new ≡ (left_at old own.raw s).store)
    → IfOk o (RunsThere s (items_at places) (items_at (slice_set places place (Some (record own { raw = link })))) old new)
runs s places place own link old new (Ok r) split is told left store = record {
  before = split.before;
  own = own;
  after = split.after;
  lent = split.whole;
  is = is;
  told = told;
  store = store;
  links = split.changed (record own { raw = link }) ∙ ap (λ (k : Link). split.before ++ record own { raw = k } ∷ split.after) left;
}
runs s places place own link old new (Err e) split is told left store = tt

pub returns-in_err-lent-clause-none : goal.returns-in_err-lent-clause-none
returns-in_err-lent-clause-none g c =
    let there = rw c.deref.ensures.value at c.in_ok-place.ensures.some in
    let stands = standing c.self.inside.places.items c.in_ok-place.place (Some there.thing) c.index_mut.result.now there.stands c.index_mut.ensures.value in
    absurd (let both : false ≡ true = c.in_err-lent.ensures.variant ∙ ap is_some stands in cc)

pub invariant_of-self-2 : goal.invariant_of-self-2
invariant_of-self-2 g c = λ t.
    let there = rw c.deref.ensures.value at c.in_ok-place.ensures.some in
    let stands = standing c.self.inside.places.items c.in_ok-place.place (Some there.thing) c.index_mut.result.now there.stands c.index_mut.ensures.value in
    let e : Some c.in_ok-lent.lent.now ≡ Some there.thing = c.in_ok-lent.ensures.value ∙ stands in
    let own : c.in_ok-lent.lent.now ≡ there.thing = cc in
    noted-changed number_of c.self.inside.places.items (get nat_eq c.self.inside.notes.noted) c.in_ok-place.place there.thing _ there.stands (ap number_of own) (c.self.invariant t)

pub returns-clause-ran : goal.returns-clause-ran
returns-clause-ran g c =
    let there = rw c.deref.ensures.value at c.in_ok-place.ensures.some in
    let stands = standing c.self.inside.places.items c.in_ok-place.place (Some there.thing) c.index_mut.result.now there.stands c.index_mut.ensures.value in
    let e : Some c.in_ok-lent.lent.now ≡ Some there.thing = c.in_ok-lent.ensures.value ∙ stands in
    let own : c.in_ok-lent.lent.now ≡ there.thing = cc in
    rw (← c.self.view_is)
    (runs c.args.statement c.self.inside.places.items c.in_ok-place.place c.in_ok-lent.lent.now c.run_on.new.link c.args.store.now c.run_on.new.store c.run_on.result
    (sides c.self.inside.places.items c.in_ok-place.place c.in_ok-lent.lent.now (there.stands ∙ ap (λ l. Some (Some l)) (sym own)))
    (ap number_of own ∙ there.is ∙ c.from-conn.ensures) c.run_on.ensures.reply c.run_on.ensures.link c.run_on.ensures.store)
