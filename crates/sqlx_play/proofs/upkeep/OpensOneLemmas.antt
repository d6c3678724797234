-- One connection that is opened for the minimum, or none.
use Rattle.std.proofs.Common.{◌≡◌, ℕ, ◌+◌, ◌-◌, ◌^◌, ◌≤◌, ◌&&◌, Bool, true, false, not, nat_lt, max, List, [], ◌∷◌, length, Some, refl, sym, ap, subst, ◌∙◌, arith}
use Rattle.std.proofs.Math.Nat.{max-eq_right}
use Rattle.std.proofs.lemmas.Bool.{and_parts}
use Rattle.sqlx_pool_marks.specs.declared.mark.Mark.{Mark}
use Rattle.sqlx_pool_marks.specs.declared.mark.Mark.TheVariants.{Opened, Kept}
use Rattle.sqlx_pool_lists.specs.declared.steps.Idle.{Idle}
use Rattle.sqlx_pool_lists.specs.Core.{Core, waiting, free, gone, size}
use Rattle.sqlx_pool_marks.specs.Counts.{free_of}
use Rattle.sqlx_pool_marks.specs.Marks.{next_conn}
use Rattle.sqlx_pool_lists.specs.Edits.{at_moment, opened, kept}
use Rattle.sqlx_pool_marks.specs.EventTable.{may_pass}
use Rattle.sqlx_pool_lists.specs.MaintenanceSteps.{has_place, placed, placed_back, done_at, done, done_marks}
use Rattle.sqlx_pool_lists.specs.Makes.{Makes}
use Rattle.sqlx_pool_lists.specs.StandsFor.{StandsFor}
use Rattle.sqlx_pool_marks.proofs.ListFacts.{length-push}
use Rattle.mem_store.specs.Store.{Store, Link, new_link, connected}
use Rattle.sqlx_play.specs.declared.outside.ScriptOutside.{ScriptOutside}
use Rattle.sqlx_play.specs.stage.Scene.{Scene}
use Rattle.sqlx_play.specs.stage.LinksStand.{LinksStand}
use Rattle.sqlx_play.specs.events.KeepsMinimum.{core_passes, least, OpensOne}
use Rattle.sqlx_play.proofs.links.LinksSame.{links-same}
use Rattle.sqlx_play.proofs.links.LinksKept.{links-born}
use Rattle.sqlx_play.proofs.events.StageAdvanceLemmas.{comes-nowhere}

drop_true : (a b c : Bool) → c ≡ true → (a && b && c) ≡ (a && b)
drop_true true true c e = e
drop_true true false c e = refl
drop_true false b c e = refl

below : (n : ℕ) → n ≤ 2 ^ 63 → not (nat_lt (2 ^ 63) n) ≡ true
below n h = grind (arith, h)

-- where numbers aren't used up, a place is given by the permits and by the size
place-told : (core : Core Link) → core.next_conn ≤ 2 ^ 63 → has_place core.options.min_connections core ≡ (core_passes core && nat_lt (size core) (least core.options))
place-told core h = drop_true (core_passes core) (nat_lt (size core) (least core.options)) (not (nat_lt (2 ^ 63) core.next_conn)) (below core.next_conn h)

shut_of : (shut : Bool) (w f : ℕ) → may_pass shut w f ≡ true → shut ≡ false
shut_of true w f e = sym e
shut_of false w f e = refl

-- ---- none

pub opens-none : (old : Scene) (core : Core Link) (m : ℕ) → old.core.next_conn ≤ 2 ^ 63 → false ≡ has_place old.core.options.min_connections old.core → core ≡ old.core → OpensOne old (record old { core = core }) m false
opens-none old core m few unplaceable same = subst (λ (c : Core Link). OpensOne old (record old { core = c }) m false) (sym same) (record {
  answer = unplaceable ∙ place-told old.core few;
  comes = λ marks past at. comes-nowhere old marks past at;
  passes = refl;
  sized = omega arith;
  numbered = omega arith;
  options = refl;
})

-- ---- one

module _ (old : Scene) (core : Core Link) (out : ScriptOutside) (link : Link) (m : ℕ) where
  -- the core with the new connection
  abbrev born : Core Link
  born = at_moment m (placed_back (opened (kept (record { id = old.core.next_conn; created = record { 0 = m }; raw = new_link (old.out.store.given + 1) }) m (placed true old.core))))

  is_open : true ≡ has_place old.core.options.min_connections old.core → old.core.next_conn ≤ 2 ^ 63 → old.core.shut ≡ false
  is_open placeable few = shut_of old.core.shut (waiting old.core.tickets) (free old.core) (and_parts (core_passes old.core) (nat_lt (size old.core) (least old.core.options)) (sym (place-told old.core few) ∙ sym placeable)).0

  is_born : old.core.shut ≡ false → old.core.last ≤ m → link ≡ new_link (old.out.store.given + 1) → core ≡ done old.core.shut (max old.core.last m) (Some link) (placed true old.core) → core ≡ born
  is_born shut late new two =
      two
      ∙ (λ i. done old.core.shut (max old.core.last m) (Some (new i)) (placed true old.core))
      ∙ ap (λ (k : ℕ). done old.core.shut k (Some (new_link (old.out.store.given + 1))) (placed true old.core)) (max-eq_right late)
      ∙ ap (λ (b : Bool). at_moment m (placed_back (done_at b m (Some (new_link (old.out.store.given + 1))) (placed true old.core)))) shut

  born_makes : (marks : List Mark) → StandsFor old.core marks → old.core.shut ≡ false → old.core.last ≤ m
      → ((marks : List Mark) → StandsFor old.core marks → Makes old.core.options.max_connections marks (done_marks old.core.shut old.core.next_conn (max old.core.last m) (Some link)) core)
      → Makes old.core.options.max_connections marks (Opened (next_conn marks) m ∷ Kept (next_conn marks) m ∷ []) core
  born_makes marks s shut late step =
      let made : done_marks old.core.shut old.core.next_conn (max old.core.last m) (Some link) ≡ Opened (next_conn marks) m ∷ Kept (next_conn marks) m ∷ [] = λ i. done_marks (shut i) (s.conn_number i) (max-eq_right late i) (Some link) in
      subst (λ (l : List Mark). Makes old.core.options.max_connections marks l core) made (step marks s)

  pub opens-one : true ≡ has_place old.core.options.min_connections old.core → old.core.next_conn ≤ 2 ^ 63 → old.core.last ≤ m
      → link ≡ new_link (old.out.store.given + 1) → out.store ≡ connected (old.out.store.given + 1) old.out.store
      → core ≡ done old.core.shut (max old.core.last m) (Some link) (placed true old.core)
      → ((marks : List Mark) → StandsFor old.core marks → Makes old.core.options.max_connections marks (done_marks old.core.shut old.core.next_conn (max old.core.last m) (Some link)) core)
      → OpensOne old (record old { core = core; out = out }) m true
  opens-one placeable few late new more two step =
      let shut = is_open placeable few in
      let is : core ≡ born = is_born shut late new two in
      let freed : old.core.places + 1 - 1 ≡ old.core.places = omega arith in
      let i : Idle Link = record { lent = record { id = old.core.next_conn; created = record { 0 = m }; raw = new_link (old.out.store.given + 1) }; since = record { 0 = m } } in
      record {
        answer = placeable ∙ place-told old.core few;
        comes = λ marks past at. record {
          pool = refl;
          makes = born_makes marks at.stands shut late step;
          options = ap (λ (c : Core Link). c.options) is;
          places = ap (λ (c : Core Link). c.places) is ∙ freed ∙ at.places;
          tickets = ap (λ (c : Core Link). c.tickets) is;
          next = ap (λ (c : Core Link). c.next_ticket) is;
          links = subst (λ (s : Store). LinksStand core s old.lent.items past) (sym more)
              (links-same (opened (kept (record { id = old.core.next_conn; created = record { 0 = m }; raw = new_link (old.out.store.given + 1) }) m old.core)) core (connected (old.out.store.given + 1) old.out.store) old.lent.items past
              (links-born old.core old.out.store old.lent.items past at.links m) (ap (λ (c : Core Link). c.held) is) (ap (λ (c : Core Link). c.idle) is) (ap (λ (c : Core Link). c.next_conn) is));
        };
        passes = ap core_passes is ∙ ap (λ (k : ℕ). may_pass old.core.shut (waiting old.core.tickets) (free_of old.core.permits (length old.core.held) old.core.leaked (gone old.core.tickets) k)) freed;
        sized = ap size is ∙ (let push = length-push old.core.idle i in omega (arith, push));
        numbered = ap (λ (c : Core Link). c.next_conn) is;
        options = ap (λ (c : Core Link). c.options) is;
      }
