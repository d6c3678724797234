-- What a close makes of a stage.
use Rattle.std.proofs.Common.{◌≡◌, ℕ, ◌+◌, ◌≤◌, ◌==◌, Bool, true, false, not, cond, List, [], ◌∷◌, ◌++◌, length, map, find, count_by, Some, All, refl, sym, ap, subst, ◌∙◌, arith}
use Rattle.sqlx_text.specs.declared.moment.Moment.{Moment}
use Rattle.sqlx_pool_marks.specs.declared.mark.Mark.{Mark}
use Rattle.sqlx_pool_marks.specs.declared.mark.Mark.TheVariants as mark
use Rattle.sqlx_pool_lists.specs.declared.ticket.OwnedConn.{OwnedConn}
use Rattle.sqlx_pool_lists.specs.declared.steps.Idle.{Idle}
use Rattle.sqlx_pool_lists.specs.declared.steps.Lent.{Lent}
use Rattle.sqlx_pool_lists.specs.Core.{Core, resting}
use Rattle.sqlx_pool_lists.specs.Edits.{without_idle}
use Rattle.sqlx_pool_lists.specs.MaintenanceSteps.{close_marks, close_answer, closed_from, closed_idle}
use Rattle.sqlx_pool_lists.specs.Makes.{Makes}
use Rattle.sqlx_pool_marks.specs.Marks.{idle_of, is_open}
use Rattle.sqlx_pool_lists.specs.Sound.{IsNumbered, rests, holds}
use Rattle.sqlx_pool_marks.proofs.ListFacts.{same_number, count_by-cons, filter_none, length_map}
use Rattle.mem_store.specs.Store.{Store, Link}
use Rattle.sqlx_savepoints.specs.Changes.{leaves, History}
use Rattle.sqlx_script.specs.declared.step.Event.{Event}
use Rattle.sqlx_script.specs.declared.step.Step.TheVariants.{Close}
use Rattle.sqlx_script.specs.declared.reply.Reply.{Reply}
use Rattle.sqlx_script.specs.declared.reply.Reply.TheVariants as reply
use Rattle.sqlx_play.specs.stage.Scene.{Scene}
use Rattle.sqlx_play.specs.events.Closes.{closed_all}
use Rattle.sqlx_script_rules.specs.ScriptMarks.{marks_of, closing, shut}
use Rattle.sqlx_script_rules.specs.ScriptLevels.{gone_by, history_of}
use Rattle.sqlx_play.specs.stage.LinksStand.{LinksStand}
use Rattle.sqlx_play.specs.stage.StageStands.{StageStands, IsTried}
use Rattle.sqlx_play.proofs.links.LinksGone.{closed_in, links-unrest}
use Rattle.sqlx_play.proofs.links.LinksSame.{links-same}
use Rattle.sqlx_script_rules.proofs.Pairs.{tries_of-push}
use Rattle.sqlx_play.proofs.events.TriesSame.{tried-same}
use Rattle.sqlx_play.proofs.events.StageAfter.{stage-after}
use Rattle.sqlx_script_rules.specs.Pairs.{Pairs}

-- ---- the links

-- each connection is owned or rests, and that once
abbrev IsApart : List OwnedConn → List (Idle Link) → Type 0
IsApart held idle = (c : ℕ) → count_by (holds c) held + count_by (rests c) idle ≤ 1

links-all_unrest : (core : Core Link) (store : Store) (lent : List (Lent Link)) (past : History) (idle : List (Idle Link)) → LinksStand core store lent past → core.idle ≡ idle → IsApart core.held idle
    → LinksStand (record core { idle = [] }) (closed_all idle store) lent (gone_by (map closed_idle idle) past)
links-all_unrest core store lent past [] s is apart = links-same core (record core { idle = [] }) store lent past s refl (sym is) refl
links-all_unrest core store lent past (i ∷ idle) s is apart =
    let c = i.lent.id in
    let first : cond {A = ℕ} (c == c) 1 0 ≡ 1 = ap (λ (b : Bool). cond {A = ℕ} b 1 0) (same_number c) in
    let whole : count_by (rests c) (i ∷ idle) ≡ cond {A = ℕ} (c == c) 1 0 + count_by (rests c) idle = count_by-cons (rests c) i idle in
    let once = apart c in
    let none : count_by (rests c) idle ≡ 0 = omega (arith, first, whole, once) in
    let unowned : count_by (holds c) core.held ≡ 0 = omega (arith, first, whole, once) in
    let all : count_by (rests c) core.idle ≡ count_by (rests c) (i ∷ idle) = ap (count_by (rests c)) is in
    let one : count_by (rests c) core.idle ≤ 1 = omega (arith, all, once) in
    let found : find (rests c) core.idle ≡ Some i = ap (find (rests c)) is ∙ ap (λ (b : Bool). cond b (Some i) (find (rests c) idle)) (same_number c) in
    let left : without_idle c core.idle ≡ idle = ap (without_idle c) is ∙ ap (λ (b : Bool). cond (not b) (i ∷ without_idle c idle) (without_idle c idle)) (same_number c) ∙ filter_none (rests c) idle none in
    links-all_unrest (record core { idle = without_idle c core.idle }) (closed_in i.lent.raw.depth store) lent (leaves c ∷ past) idle
    (links-unrest core store lent past i s found one unowned) left
    (λ d. let more : count_by (rests d) (i ∷ idle) ≡ cond {A = ℕ} (rests d i) 1 0 + count_by (rests d) idle = count_by-cons (rests d) i idle in let apart_d = apart d in omega (arith, more, apart_d))

-- ---- the marks

closing_marks : (idle : List (Idle Link)) → map closed_idle idle ≡ map closing (map resting idle)
closing_marks [] = refl
closing_marks (i ∷ idle) = ap (λ (l : List Mark). mark.Closed i.lent.id ∷ l) (closing_marks idle)

made_by : (b : Bool) (idle : List (Idle Link)) → close_marks b (close_answer b idle) ≡ cond (not b) (mark.Shut ∷ map closing (map resting idle)) []
made_by true idle = refl
made_by false idle = ap (λ (l : List Mark). mark.Shut ∷ l) (closing_marks idle)

counted_by : (b : Bool) (idle : List (Idle Link)) → length (close_answer b idle) ≡ cond (not b) (length (map resting idle)) 0
counted_by true idle = refl
counted_by false idle = sym (length_map resting idle)

-- ---- the stage

module _ (old new : Scene) (items : List (Idle Link)) (pairs : Pairs) (moment : Moment) (count : ℕ) (s : StageStands old pairs) (sound : IsNumbered old.core)
    (answer : items ≡ close_answer old.core.shut old.core.idle) (becomes : new.core ≡ closed_from old.core.shut old.core)
    (makes : Makes old.core.options.max_connections (marks_of old.pool pairs) (close_marks old.core.shut items) new.core)
    (store : new.out.store ≡ closed_all items old.out.store) (lent : new.lent ≡ old.lent) (pool : new.pool ≡ old.pool) (counted : count ≡ length items) where
  abbrev marks : List Mark
  marks = marks_of old.pool pairs

  abbrev pair : Event × Reply
  pair = (record { moment = moment; step = Close }, reply.Closing count)

  is_made : close_marks old.core.shut items ≡ shut marks
  is_made = ap (close_marks old.core.shut) answer ∙ made_by old.core.shut old.core.idle ∙ (λ i. cond (not (s.stands.shut i)) (mark.Shut ∷ map closing (s.stands.idle i)) [])

  pub close-told : reply.Closing count ≡ reply.Closing (cond (is_open marks) (length (idle_of marks)) 0)
  close-told = ap reply.Closing (counted ∙ ap length answer ∙ counted_by old.core.shut old.core.idle ∙ (λ i. cond (not (s.stands.shut i)) (length (s.stands.idle i)) 0))

  apart : IsApart old.core.held old.core.idle
  apart c = let once = sound.once c in omega (arith, once)

  links_by : (b : Bool) → LinksStand (closed_from b old.core) (closed_all (close_answer b old.core.idle) old.out.store) old.lent.items (gone_by (close_marks b (close_answer b old.core.idle)) (history_of old.pool pairs))
  links_by true = s.links
  links_by false = links-same (record old.core { idle = [] }) (closed_from false old.core) (closed_all old.core.idle old.out.store) old.lent.items _
      (links-all_unrest old.core old.out.store old.lent.items (history_of old.pool pairs) old.core.idle s.links refl apart) refl refl refl

  links : LinksStand new.core new.out.store new.lent.items (gone_by (shut marks) (history_of old.pool pairs))
  links = subst (λ (l : List Mark). LinksStand new.core new.out.store new.lent.items (gone_by l (history_of old.pool pairs))) (sym (ap (close_marks old.core.shut) answer) ∙ is_made)
      (subst (λ (k : Core Link). LinksStand k new.out.store new.lent.items (gone_by (close_marks old.core.shut (close_answer old.core.shut old.core.idle)) (history_of old.pool pairs))) (sym becomes)
      (subst (λ (k : Store). LinksStand (closed_from old.core.shut old.core) k new.lent.items (gone_by (close_marks old.core.shut (close_answer old.core.shut old.core.idle)) (history_of old.pool pairs))) (sym (store ∙ ap (λ (l : List (Idle Link)). closed_all l old.out.store) answer))
      (subst (λ (l : _). LinksStand (closed_from old.core.shut old.core) (closed_all (close_answer old.core.shut old.core.idle) old.out.store) l.items (gone_by (close_marks old.core.shut (close_answer old.core.shut old.core.idle)) (history_of old.pool pairs))) (sym lent) (links_by old.core.shut))))

  same_tickets : (b : Bool) → (closed_from b old.core).tickets ≡ old.core.tickets
  same_tickets true = refl
  same_tickets false = refl

  same_next : (b : Bool) → (closed_from b old.core).next_ticket ≡ old.core.next_ticket
  same_next true = refl
  same_next false = refl

  same_options : (b : Bool) → (closed_from b old.core).options ≡ old.core.options
  same_options true = refl
  same_options false = refl

  same_places : (b : Bool) → (closed_from b old.core).places ≡ old.core.places
  same_places true = refl
  same_places false = refl

  pub close-stands : StageStands new (pairs ++ pair ∷ [])
  close-stands = stage-after old new pairs pair s (record {
    pool = pool;
    makes = subst (λ (l : List Mark). Makes old.core.options.max_connections marks l new.core) is_made makes;
    options = ap (λ (k : Core Link). k.options) becomes ∙ same_options old.core.shut;
    places = ap (λ (k : Core Link). k.places) becomes ∙ same_places old.core.shut ∙ s.places;
    tried = subst (All (IsTried (pairs ++ pair ∷ []))) (sym (ap (λ (k : Core Link). k.tickets) becomes ∙ same_tickets old.core.shut)) (tried-same pairs pair old.core.tickets (λ t. tries_of-push t pairs pair) s.tried);
    untried = λ t h. tries_of-push t pairs pair ∙ s.untried t (subst (λ (n : ℕ). n ≤ t) (ap (λ (k : Core Link). k.next_ticket) becomes ∙ same_next old.core.shut) h);
    links = links;
  })
