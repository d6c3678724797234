-- What a connection that is given back comes to.
use Rattle.std.proofs.Common.{◌≡◌, ℕ, ◌==◌, ◌&&◌, ◌||◌, Bool, true, false, cond, not, List, find, is_some, Option, Some, None, refl, sym, ap, ◌∙◌}
use Rattle.std.proofs.lemmas.Bool.{eqb-true, and_parts}
use Rattle.sqlx_pool_marks.specs.declared.mark.Mark.{Mark}
use Rattle.sqlx_pool_lists.specs.declared.options.PoolOptions.{PoolOptions}
use Rattle.sqlx_pool_lists.specs.declared.ticket.OwnedConn.{OwnedConn}
use Rattle.sqlx_pool_lists.specs.declared.steps.Lent.{Lent}
use Rattle.sqlx_pool_lists.specs.declared.steps.Given.{Given}
use Rattle.sqlx_pool_lists.specs.declared.steps.Given.TheVariants as given
use Rattle.sqlx_pool_lists.specs.Core.{Core, loan_of, is_held_by}
use Rattle.sqlx_pool_lists.specs.Sound.{IsNumbered, rests}
use Rattle.sqlx_pool_marks.specs.Marks.{owner_of, opened_at}
use Rattle.sqlx_pool_marks.specs.EventTable.{is_old_since, closes}
use Rattle.sqlx_pool_lists.specs.Limits.{limits_of}
use Rattle.sqlx_pool_core.specs.ReturnSteps.{give_answer}
use Rattle.sqlx_pool_marks.specs.Born.{IsBorn}
use Rattle.sqlx_pool_lists.specs.StandsFor.{StandsFor}
use Rattle.sqlx_pool_marks.proofs.ListFacts.{found_passes, found_All}
use Rattle.mem_store.specs.Store.{Store, Link}
use Rattle.sqlx_script.specs.declared.answers.GiveAnswers.{GiveAnswers}
use Rattle.sqlx_script.specs.declared.pool_line.PoolLine.{PoolLine}
use Rattle.sqlx_script.specs.Built.{accepts}
use Rattle.sqlx_savepoints.specs.Changes.{History}
use Rattle.sqlx_savepoints.specs.Brackets.{depth}
use Rattle.sqlx_savepoints.specs.Links.{linked_after}
use Rattle.sqlx_savepoints.specs.Links as bracket
use Rattle.sqlx_savepoints.proofs.Linking.{savepoints_read_alike}
use Rattle.sqlx_play.specs.declared.stage.loans.give.Returned.TheVariants as word
use Rattle.sqlx_script_rules.specs.ScriptLevels.{owns}
use Rattle.sqlx_script_rules.specs.Answer.{is_kept}
use Rattle.sqlx_play.specs.stage.StageStands.{IsSetUp}
use Rattle.sqlx_play.specs.stage.LinksStand.{LinksStand, IsLinkOf}
use Rattle.sqlx_play.specs.stage.LentLinks.{is_lent}
use Rattle.sqlx_play.specs.events.GivesBack.{lets_rest, returned}
use Rattle.sqlx_play.proofs.events.SetUpLimits.{limits-set_up}
use Rattle.sqlx_play.proofs.links.LinksGone.{lent-counted}
use Rattle.sqlx_play.proofs.links.LentTaken.{none-counted}
use Rattle.sqlx_play.proofs.links.Owners.{owner-stands, none_held}

-- ---- what the core's word says

-- the loan of a connection that came back, and whether it may rest
pub record Loaned (o : Option OwnedConn) (options : PoolOptions) (shut : Bool) (m : ℕ) (accepted rests : Bool) : Type 0 where
  pub loan : OwnedConn
  pub is : o ≡ Some loan
  pub told : (accepted && not (closes (limits_of options) shut loan.created.0 m)) ≡ rests

module _ (options : PoolOptions) (shut : Bool) (m : ℕ) (accepted : Bool) (lent : Lent Link) where
  answer_by : Bool → Given Link
  answer_by b = cond b given.Kept (given.Closed lent.raw)

  pub told-kept : (o : Option OwnedConn) → given.Kept ≡ give_answer options shut m accepted o lent → Loaned o options shut m accepted true
  told-kept None e = absurd (cc)
  told-kept (Some h) e = record { loan = h; is = refl; told = by (accepted && not (closes (limits_of options) shut h.created.0 m)) e }
    where
      by : (b : Bool) → given.Kept ≡ cond b given.Kept (given.Closed lent.raw) → b ≡ true
      by true k = refl
      by false k = absurd (cc)

  pub told-closed : (raw : Link) (o : Option OwnedConn) → given.Closed raw ≡ give_answer options shut m accepted o lent → Loaned o options shut m accepted false × (raw ≡ lent.raw)
  told-closed raw None e = absurd (cc)
  told-closed raw (Some h) e = let parts = by (accepted && not (closes (limits_of options) shut h.created.0 m)) e in (record { loan = h; is = refl; told = parts.0 }, parts.1)
    where
      by : (b : Bool) → given.Closed raw ≡ cond b given.Kept (given.Closed lent.raw) → (b ≡ false) × (raw ≡ lent.raw)
      by true k = absurd (cc)
      by false k = (refl, cc)

  pub told-not_held : (raw : Link) (o : Option OwnedConn) → given.NotHeld raw ≡ give_answer options shut m accepted o lent → (o ≡ None) × (raw ≡ lent.raw)
  told-not_held raw None e = (refl, cc)
  told-not_held raw (Some h) e = absurd (by (accepted && not (closes (limits_of options) shut h.created.0 m)) e)
    where
      by : (b : Bool) → given.NotHeld raw ≡ cond b given.Kept (given.Closed lent.raw) → ⊥
      by true k = cc
      by false k = cc

-- ---- what the marks and the history say

and_f : (b : Bool) → (b && false) ≡ false
and_f true = refl
and_f false = refl

and_t : (b : Bool) → (b && true) ≡ b
and_t true = refl
and_t false = refl

turned : (x r d p : Bool) → (not x && r && d && p) ≡ ((r && (d && p)) && not x)
turned true r d p = sym (and_f (r && (d && p)))
turned false true d p = sym (and_t (d && p))
turned false false d p = refl

module _ (pool : PoolLine) (core : Core Link) (marks : List Mark) (past : History) (lents : List (Lent Link)) (store : Store) (c : ℕ) where
  -- the depth of a lent link is that of the brackets
  pub depth-told : (l : Lent Link) → find (is_lent c) lents ≡ Some l → LinksStand core store lents past → l.raw.depth ≡ depth c past
  depth-told l found s =
      let same : c ≡ l.id = eqb-true c l.id (found_passes (is_lent c) lents l found) in
      let linked : IsLinkOf (linked_after past) l.id l.raw = found_All (is_lent c) (λ (x : Lent Link). IsLinkOf (linked_after past) x.id x.raw) lents l found s.lent_links in
      ap (λ (k : bracket.Link). k.depth) linked ∙ (savepoints_read_alike past s.accepted).depths l.id ∙ ap (λ (n : ℕ). depth n past) (sym same)

  -- it is kept where the core keeps it
  pub kept-told : (k m : ℕ) (answers : GiveAnswers) (h : OwnedConn) (l : Lent Link) → IsSetUp pool core.options → StandsFor core marks → loan_of k c core.held ≡ Some h
      → find (is_lent c) lents ≡ Some l → LinksStand core store lents past
      → is_kept pool answers marks past m c ≡ (lets_rest pool answers l.raw.depth && not (closes (limits_of core.options) core.shut h.created.0 m))
  kept-told k m answers h l set_up s loaned found links =
      let both = and_parts (c == h.conn) (k == h.client) (found_passes (is_held_by k c) core.held h loaned) in
      let mine : c ≡ h.conn = eqb-true c h.conn both.0 in
      let born : opened_at c marks ≡ Some h.created.0 = ap (λ (n : ℕ). opened_at n marks) mine ∙ found_All (is_held_by k c) (λ (x : OwnedConn). IsBorn marks x.conn x.created.0) core.held h loaned s.held_born in
      let limits = limits-set_up pool core.options set_up in
      (λ i. not (sym s.shut i || is_old_since (limits i) (born i) m) && (not pool.after_release || accepts answers.after_release) && (sym (depth-told l found links) i == 0) && answers.ping)
      ∙ turned (closes (limits_of core.options) core.shut h.created.0 m) (not pool.after_release || accepts answers.after_release) (l.raw.depth == 0) answers.ping

  pub word-told : (sound : IsNumbered core) (k m : ℕ) (answers : GiveAnswers) (h : OwnedConn) (l : Lent Link) (rests : Bool) → IsSetUp pool core.options → StandsFor core marks → loan_of k c core.held ≡ Some h
      → find (is_lent c) lents ≡ Some l → LinksStand core store lents past → (lets_rest pool answers l.raw.depth && not (closes (limits_of core.options) core.shut h.created.0 m)) ≡ rests
      → cond rests word.Kept word.Closed ≡ returned pool answers m k c marks past
  word-told sound k m answers h l rests set_up s loaned found links told =
      let mine : owns k (owner_of c marks) ≡ true = owner-stands core sound marks k c s ∙ ap is_some loaned in
      let keeps : is_kept pool answers marks past m c ≡ rests = kept-told k m answers h l set_up s loaned found links ∙ told in
      sym ((λ i. cond (mine i) (cond (keeps i) word.Kept word.Closed) word.NotHeld))

  pub stranger-told : (sound : IsNumbered core) (k m : ℕ) (answers : GiveAnswers) → StandsFor core marks → loan_of k c core.held ≡ None → word.NotHeld ≡ returned pool answers m k c marks past
  stranger-told sound k m answers s none =
      let mine : owns k (owner_of c marks) ≡ false = owner-stands core sound marks k c s ∙ ap is_some none in
      sym (ap (λ (b : Bool). cond b (cond (is_kept pool answers marks past m c) word.Kept word.Closed) word.NotHeld) mine)

  -- nobody owns a connection that has no lent link
  pub unlent-loan : (k : ℕ) → find (is_lent c) lents ≡ None → LinksStand core store lents past → loan_of k c core.held ≡ None
  unlent-loan k none links = none_held k c core.held (sym (lent-counted core lents c links.owned) ∙ none-counted (is_lent c) lents none)
