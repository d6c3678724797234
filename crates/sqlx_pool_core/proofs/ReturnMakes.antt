-- What the steps that end a loan make of a core that stands for the marks.
use Rattle.std.proofs.Common.{◌≡◌, ℕ, ◌+◌, Bool, true, false, cond, not, ◌&&◌, List, [], ◌∷◌, ◌++◌, length, Option, Some, None, is_some, refl, sym, subst, arith}
use Rattle.std.proofs.lemmas.Bool.{and_parts, not-true, or_parts}
use Rattle.sqlx_pool_lists.specs.Limits.{limits_of}
use Rattle.sqlx_pool_marks.specs.declared.mark.Mark.{Mark}
use Rattle.sqlx_pool_marks.specs.declared.mark.Mark.TheVariants.{Kept, Closed, Detached, Leaked}
use Rattle.sqlx_pool_lists.specs.declared.ticket.OwnedConn.{OwnedConn}
use Rattle.sqlx_pool_lists.specs.declared.steps.Lent.{Lent as LentValue}
use Rattle.sqlx_pool_lists.specs.declared.steps.Given.TheVariants as given
use Rattle.sqlx_pool_lists.specs.Core.{Core, is_held_by, loan_of}
use Rattle.sqlx_pool_lists.specs.Sound.{IsSound, holds}
use Rattle.sqlx_pool_marks.specs.Born.{IsBorn}
use Rattle.sqlx_pool_lists.specs.StandsFor.{StandsIn}
use Rattle.sqlx_pool_marks.specs.EventTable.{is_too_old}
use Rattle.sqlx_pool_lists.specs.Edits.{without_loan, core_without_loan, kept, at_moment}
use Rattle.sqlx_pool_lists.specs.PollSteps.{lent_since}
use Rattle.sqlx_pool_marks.specs.EventTable.{closes}
use Rattle.sqlx_pool_core.specs.ReturnSteps.{give_answer, give_marks, core_after_give, end_marks, detach_marks, leak_marks, released, leaked}
use Rattle.sqlx_pool_marks.proofs.ListFacts.{found_All, length-filter_not, length-push}
use Rattle.sqlx_pool_core.proofs.Stands.{stands-beside, IsHeldBorn}
use Rattle.sqlx_pool_core.proofs.EachMark.{stands-kept}
use Rattle.sqlx_pool_core.proofs.Gone.{stands-closed_owned, stands-detached, stands-leaked}
use Rattle.sqlx_pool_core.proofs.Known.{loan-found}
use Rattle.sqlx_pool_lists.specs.Makes.{MakesIn}
use Rattle.sqlx_pool_core.proofs.Fair.{makes-none, makes-one, fair-kept, fair-closed, fair-detached, fair-leaked}

module _ {C : Type 0} (core : Core C) (marks : List Mark) (sound : IsSound core) (s : StandsIn core marks) (k c : ℕ) where
  nothing : MakesIn core.options.max_connections marks [] core
  nothing = makes-none core.options.max_connections marks core s

  module _ (h : OwnedConn) (e : loan_of k c core.held ≡ Some h) where
    -- one loan fewer
    fewer : length (without_loan c core.held) + 1 ≡ length core.held
    fewer =
        let here = loan-found core sound k c h e in
        let one = here.owned in
        let parts = length-filter_not (holds c) core.held in
        omega (arith, one, parts)

    born : IsBorn marks c h.created.0
    born =
        let here = loan-found core sound k c h e in
        subst (λ n. IsBorn marks n h.created.0) (sym here.conn) (found_All (is_held_by k c) (IsHeldBorn marks) core.held h e s.held_born)

    makes-closed : (last : ℕ) → MakesIn core.options.max_connections marks (Closed c ∷ []) (record (core_without_loan c core) { last = last })
    makes-closed last =
        let here = loan-found core sound k c h e in
        let new = record (core_without_loan c core) { last = last } in
        let after : StandsIn new (marks ++ Closed c ∷ []) = stands-beside (core_without_loan c core) (marks ++ Closed c ∷ []) core.options core.places last (stands-closed_owned core marks c here.untested here.restless here.below s) in
        let less = fewer in
        let all = sound.within in
        makes-one core.options.max_connections marks (Closed c) new after
        (fair-closed core.options.max_connections core new marks s c h.created.0 None born after (omega (arith, less, all)))

    makes-detached : MakesIn core.options.max_connections marks (Detached c ∷ []) (core_without_loan c core)
    makes-detached =
        let here = loan-found core sound k c h e in
        let after : StandsIn (core_without_loan c core) (marks ++ Detached c ∷ []) = stands-detached core marks c here.untested here.restless here.below s in
        let less = fewer in
        let all = sound.within in
        makes-one core.options.max_connections marks (Detached c) (core_without_loan c core) after
        (fair-detached core.options.max_connections core (core_without_loan c core) marks s k c h None e after (omega (arith, less, all)))

    makes-leaked : MakesIn core.options.max_connections marks (Leaked c ∷ []) (leaked c true core)
    makes-leaked =
        let here = loan-found core sound k c h e in
        let after : StandsIn (leaked c true core) (marks ++ Leaked c ∷ []) = stands-leaked core marks c here.untested here.restless here.below s in
        let less = fewer in
        let all = sound.within in
        makes-one core.options.max_connections marks (Leaked c) (leaked c true core) after
        (fair-leaked core.options.max_connections core (leaked c true core) marks s k c h None e after (omega (arith, less, all)))

  end-loan : (o : Option OwnedConn) → loan_of k c core.held ≡ o → MakesIn core.options.max_connections marks (end_marks c (is_some o)) (released c (is_some o) core)
  end-loan None e = nothing
  end-loan (Some h) e = makes-closed h e core.last

  detach-loan : (o : Option OwnedConn) → loan_of k c core.held ≡ o → MakesIn core.options.max_connections marks (detach_marks c (is_some o)) (released c (is_some o) core)
  detach-loan None e = nothing
  detach-loan (Some h) e = makes-detached h e

  leak-loan : (o : Option OwnedConn) → loan_of k c core.held ≡ o → MakesIn core.options.max_connections marks (leak_marks c (is_some o)) (leaked c (is_some o) core)
  leak-loan None e = nothing
  leak-loan (Some h) e = makes-leaked h e

  -- What an end makes: the connection is closed.
  pub makes-end : MakesIn core.options.max_connections marks (end_marks c (is_some (loan_of k c core.held))) (released c (is_some (loan_of k c core.held)) core)
  makes-end = end-loan (loan_of k c core.held) refl

  -- What a detach makes.
  pub makes-detach : MakesIn core.options.max_connections marks (detach_marks c (is_some (loan_of k c core.held))) (released c (is_some (loan_of k c core.held)) core)
  makes-detach = detach-loan (loan_of k c core.held) refl

  -- What a leak makes.
  pub makes-leak : MakesIn core.options.max_connections marks (leak_marks c (is_some (loan_of k c core.held))) (leaked c (is_some (loan_of k c core.held)) core)
  makes-leak = leak-loan (loan_of k c core.held) refl

-- ---- given back

module _ {C : Type 0} (core : Core C) (marks : List Mark) (sound : IsSound core) (s : StandsIn core marks) (k : ℕ) (lent : LentValue C) (m : ℕ) (accepted : Bool) where
  makes-rested : (h : OwnedConn) → loan_of k lent.id core.held ≡ Some h → core.shut ≡ false
      → MakesIn core.options.max_connections marks (Kept lent.id m ∷ []) (at_moment m (kept (lent_since h.created lent) m (core_without_loan lent.id core)))
  makes-rested h e open_yet =
      let here = loan-found core sound k lent.id h e in
      let n = Kept lent.id m in
      let own = lent_since h.created lent in
      let mid = kept own m (core_without_loan lent.id core) in
      let new = at_moment m mid in
      let after : StandsIn new (marks ++ n ∷ []) = stands-beside mid (marks ++ n ∷ []) core.options core.places m (stands-kept core marks own m here.restless (born core marks sound s k lent.id h e) here.below s) in
      let less = fewer core marks sound s k lent.id h e in
      let more : length mid.idle ≡ length core.idle + 1 = length-push core.idle _ in
      let all = sound.within in
      makes-one core.options.max_connections marks n new after
      (fair-kept core.options.max_connections core new marks s k lent.id m h None open_yet e after (omega (arith, less, more, all)))

  give-loan : (h : OwnedConn) → loan_of k lent.id core.held ≡ Some h → (b : Bool) → (accepted && not (closes (limits_of core.options) core.closed h.created.0 m)) ≡ b
      → MakesIn core.options.max_connections marks (give_marks lent.id m (cond b given.Kept (given.Closed lent.raw))) (core_after_give (Some h) lent m (cond b given.Kept (given.Closed lent.raw)) core)
  give-loan h e true is =
      let parts = and_parts accepted (not (closes (limits_of core.options) core.closed h.created.0 m)) is in
      let keeps : closes (limits_of core.options) core.closed h.created.0 m ≡ false = not-true (closes (limits_of core.options) core.closed h.created.0 m) parts.1 in
      makes-rested h e (sound.own (or_parts core.closed (is_too_old (limits_of core.options) h.created.0 m) keeps).0)
  give-loan h e false is = makes-closed core marks sound s k lent.id h e m

  give-at : (o : Option OwnedConn) → loan_of k lent.id core.held ≡ o
      → MakesIn core.options.max_connections marks (give_marks lent.id m (give_answer core.options core.closed m accepted o lent)) (core_after_give o lent m (give_answer core.options core.closed m accepted o lent) core)
  give-at None e = makes-none core.options.max_connections marks core s
  give-at (Some h) e = give-loan h e (accepted && not (closes (limits_of core.options) core.closed h.created.0 m)) refl

  -- What giving a connection back makes.
  pub makes-give : MakesIn core.options.max_connections marks (give_marks lent.id m (give_answer core.options core.closed m accepted (loan_of k lent.id core.held) lent))
      (core_after_give (loan_of k lent.id core.held) lent m (give_answer core.options core.closed m accepted (loan_of k lent.id core.held) lent) core)
  makes-give = give-at (loan_of k lent.id core.held) refl
