-- An act of a connection that is put to work for it and taken apart again.
use Rattle.std.proofs.Common.{◌≡◌, ℕ, ◌<◌, Result, sym, ap, subst, ◌∙◌, ◌==◌, arith}
use Rattle.std.proofs.lemmas.Bool.{ne_eqb, cond-false}
use Rattle.sqlx_savepoints.specs.Rows.{Rows}
use Rattle.sqlx_script.specs.declared.reply.Reply.{Reply}
use Rattle.mem_store.specs.declared.answer.Answer.{Answer}
use Rattle.mem_store.specs.Store.{Store, Link, Session, at_work}
use Rattle.mem_store.specs.Acts.{after_start_rollback}
use Rattle.sqlx_play_acts.specs.ClientActs.{Gives, left_by}
use Rattle.sqlx_play_acts.specs.declared.act.Act.{Act}
use Rattle.sqlx_play_acts.specs.declared.act.Act.TheVariants.{GiveUp}
use Rattle.sqlx_steps.specs.AtWork.{IsAtRest, IsWithin}
use Rattle.sqlx_steps.proofs.TextLemmas.{given_up}

-- a session by the parts that it is taken into
pub by_parts : (after : Session) (store : Store) (link : Link) → store ≡ after.store → link ≡ after.link → at_work store link after.answer ≡ after
by_parts after store link s l = λ i. record { store = s i; link = l i; answer = after.answer }

pub gives_between : {E : Type 0} (act : Act) (given before after : Session) (result : Result Reply E) (store : Store) (link : Link) → before ≡ given → Gives act before result after
    → store ≡ after.store → link ≡ after.link → (met : Answer) × Gives act given result (at_work store link met)
gives_between act given before after result store link is gives s l = (
  after.answer,
  subst (λ (x : Session). Gives act x result (at_work store link after.answer)) is (subst (λ (x : Session). Gives act before result x) (sym (by_parts after store link s l)) gives),
)

-- a level that is open is given up
leaves : (session : Session) → 0 < session.link.depth → left_by GiveUp session ≡ after_start_rollback session
leaves session some = cond-false (session.link.depth == 0) session (after_start_rollback session) (ne_eqb session.link.depth 0 (λ e. omega (arith, e, some)))

pub left_between : (given before after : Session) (store : Store) (link : Link) → before ≡ given → (0 < before.link.depth → after ≡ left_by GiveUp before) → store ≡ after.store → link ≡ after.link
    → 0 < given.link.depth → at_work store link after.answer ≡ after_start_rollback given
left_between given before after store link is left s l some =
    by_parts after store link s l ∙ left (subst (λ (x : Session). 0 < x.link.depth) (sym is) some) ∙ ap (left_by GiveUp) is ∙ leaves given some

-- ---- the same of a store and a link that were taken out and put back

module _ (store given s s' : Store) (link given_link l l' : Link) (is : store ≡ given) (is_link : link ≡ given_link) (back : s' ≡ s) (back_link : l' ≡ l) where
  begins : (answer : Answer) → at_work store link answer ≡ at_work given given_link answer
  begins answer = λ i. at_work (is i) (is_link i) answer

  ends : (met : Answer) → at_work s' l' met ≡ at_work s l met
  ends met = λ i. at_work (back i) (back_link i) met

  pub moved_gives : {E : Type 0} (act : Act) (answer : Answer) (result : Result Reply E) → (met : Answer) × Gives act (at_work store link answer) result (at_work s l met)
      → (met : Answer) × Gives act (at_work given given_link answer) result (at_work s' l' met)
  moved_gives act answer result h = (
    h.0,
    subst (λ (x : Session). Gives act x result (at_work s' l' h.0)) (begins answer) (subst (λ (x : Session). Gives act (at_work store link answer) result x) (sym (ends h.0)) h.1),
  )

  pub moved_left : (answer : Answer) (n : ℕ) (before rows : Rows) → (met : Answer) × (0 < link.depth → at_work s l met ≡ after_start_rollback (at_work store link answer))
      → IsWithin given given_link n before rows → IsAtRest s' l' n before
  moved_left answer n before rows h within =
      let some : 0 < link.depth = omega (arith, ap (λ (k : Link). k.depth) is_link, within.depth) in
      given_up given given_link n before rows s' l' h.0 answer within (ends h.0 ∙ h.1 some ∙ ap after_start_rollback (begins answer))
