-- The links where a connection is given back and rests, and where one is opened for the minimum.
use Rattle.std.proofs.Common.{◌≡◌, ℕ, ◌+◌, ◌≤◌, ◌==◌, ◌||◌, Bool, true, false, not, List, find, count_by, Some, refl, sym, ap, ◌∙◌, arith}
use Rattle.std.specs.List.{list_any}
use Rattle.std.proofs.lemmas.Bool.{eqb-true}
use Rattle.std.proofs.lemmas.List.Elements.{All-push, All-filter}
use Rattle.sqlx_text.specs.declared.moment.Moment.{Moment}
use Rattle.sqlx_pool_lists.specs.declared.steps.Lent.{Lent}
use Rattle.sqlx_pool_lists.specs.declared.steps.Idle.{Idle}
use Rattle.sqlx_pool_lists.specs.Core.{Core}
use Rattle.sqlx_pool_lists.specs.Sound.{holds}
use Rattle.sqlx_pool_lists.specs.Edits.{core_without_loan, kept, opened}
use Rattle.sqlx_pool_marks.proofs.ListFacts.{found_All}
use Rattle.mem_store.specs.Store.{Store, Link, new_link, connected}
use Rattle.sqlx_savepoints.specs.Changes.{History}
use Rattle.sqlx_savepoints.specs.Links.{Linked, linked_after}
use Rattle.sqlx_savepoints.specs.Links as bracket
use Rattle.sqlx_play.specs.stage.LinksStand.{LinksStand, IsLinkOf, IsRestingLink, is_lent_in_level}
use Rattle.sqlx_play.specs.stage.LentLinks.{is_lent, without_lent}
use Rattle.sqlx_play.proofs.links.OneOut.{count-out, any-out}
use Rattle.sqlx_play.proofs.links.LinksGone.{lent-counted, owned-without, level_counts}

-- ---- given back

module _ (core : Core Link) (store : Store) (lent : List (Lent Link)) (past : History) (l : Lent Link) (s : LinksStand core store lent past) where
  is_linked : find (is_lent l.id) lent ≡ Some l → IsLinkOf (linked_after past) l.id l.raw
  is_linked found = found_All (is_lent l.id) (λ (x : Lent Link). IsLinkOf (linked_after past) x.id x.raw) lent l found s.lent_links

  kept_unlent : (d : ℕ) → find (is_lent l.id) lent ≡ Some l → count_by (is_lent l.id) lent ≤ 1 → l.raw.depth ≡ 0 → (b : Bool) → (d == l.id) ≡ b → list_any (is_lent d) (without_lent l.id lent) ≡ false
      → ((linked_after past).link d).depth ≡ 0
  kept_unlent d found one flat true e none =
      let same : d ≡ l.id = eqb-true d l.id e in
      ap (λ (n : ℕ). ((linked_after past).link n).depth) same ∙ sym (ap (λ (k : bracket.Link). k.depth) (is_linked found)) ∙ flat
  kept_unlent d found one flat false e none = s.unlent d (any-out (is_lent l.id) (is_lent d) lent l found one ∙ (λ i. none i || e i))

  pub links-kept : (created : Moment) (m : ℕ) → find (is_lent l.id) lent ≡ Some l → count_by (holds l.id) core.held ≤ 1 → l.raw.depth ≡ 0
      → LinksStand (kept (record l { created = created }) m (core_without_loan l.id core)) store (without_lent l.id lent) past
  links-kept created m found held_once flat =
      let one : count_by (is_lent l.id) lent ≤ 1 = let same = lent-counted core lent l.id s.owned in omega (arith, same, held_once) in
      let i : Idle Link = record { lent = record l { created = created }; since = record { 0 = m } } in
      record {
        accepted = s.accepted;
        rows = s.rows;
        owned = owned-without core lent l.id s.owned;
        lent_links = All-filter (λ (x : Lent Link). not (is_lent l.id x)) (λ (x : Lent Link). IsLinkOf (linked_after past) x.id x.raw) lent s.lent_links;
        idle_links = All-push (λ (j : Idle Link). IsRestingLink (linked_after past) j.lent.id j.lent.raw) core.idle i s.idle_links (record { is = is_linked found; rests = flat });
        unopened = s.unopened;
        unlent = λ d none. kept_unlent d found one flat (d == l.id) refl none;
        open_links = let out = count-out (is_lent l.id) is_lent_in_level lent l found one in let all = s.open_links in let mark = level_counts l in omega (arith, all, out, mark, flat);
      }

-- ---- opened

module _ (core : Core Link) (store : Store) (lent : List (Lent Link)) (past : History) (s : LinksStand core store lent past) where
  pub links-born : (m : ℕ) → LinksStand (opened (kept (record { id = core.next_conn; created = record { 0 = m }; raw = new_link (store.given + 1) }) m core)) (connected (store.given + 1) store) lent past
  links-born m =
      let i : Idle Link = record { lent = record { id = core.next_conn; created = record { 0 = m }; raw = new_link (store.given + 1) }; since = record { 0 = m } } in
      record {
        accepted = s.accepted;
        rows = s.rows;
        owned = s.owned;
        lent_links = s.lent_links;
        idle_links = All-push (λ (j : Idle Link). IsRestingLink (linked_after past) j.lent.id j.lent.raw) core.idle i s.idle_links (record { is = sym (s.unopened core.next_conn (omega arith)); rests = refl });
        unopened = λ d h. s.unopened d (omega (arith, h));
        unlent = s.unlent;
        open_links = s.open_links;
      }
