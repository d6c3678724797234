-- Links and store behind an act on one connection's link.
use Rattle.std.proofs.Common.{◌≡◌, ℕ, ◌+◌, ◌==◌, Bool, false, cond, ◌⊎◌, inl, inr, List, ◌∷◌, ◌++◌, count_by, refl, sym, ap, ◌∙◌, arith}
use Rattle.std.specs.List.{list_any}
use Rattle.std.proofs.lemmas.Bool.{ne_eqb, or_parts, or_from}
use Rattle.std.proofs.lemmas.List.Elements.{All-weaker}
use Rattle.sqlx_pool_lists.specs.declared.steps.Lent.{Lent}
use Rattle.sqlx_pool_lists.specs.declared.steps.Idle.{Idle}
use Rattle.sqlx_pool_lists.specs.Core.{Core}
use Rattle.sqlx_pool_lists.specs.Sound.{IsNumbered}
use Rattle.sqlx_pool_marks.proofs.ListFacts.{number_comm}
use Rattle.mem_store.specs.declared.answer.Answer.{Answer}
use Rattle.mem_store.specs.Store.{Store, Link, Session, remarked, level_mark}
use Rattle.sqlx_savepoints.specs.Changes.{History}
use Rattle.sqlx_savepoints.specs.Stores.{AreAccepted}
use Rattle.sqlx_savepoints.specs.Links.{linked_after}
use Rattle.sqlx_play.specs.stage.LinksStand.{LinksStand, IsLinkOf, IsRestingLink, is_lent_in_level}
use Rattle.sqlx_play.proofs.links.LinksGone.{level_counts}
use Rattle.sqlx_play.proofs.links.Middles.{any-mid, count-mid, map-mid, All-sides, All-join, All-both}
use Rattle.sqlx_play.proofs.links.OwnLink.{ids_apart, idle_apart, id_below}
use Rattle.sqlx_play.proofs.statements.Leaves.{Leaves}

abbrev one_if : Bool → ℕ
one_if b = cond b 1 0

-- ---- the links

module _ (core : Core Link) (sound : IsNumbered core) (store : Store) (ys : List (Lent Link)) (l : Lent Link) (zs : List (Lent Link)) (past new : History) (s : LinksStand core store (ys ++ l ∷ zs) past)
    (answer : Answer) (t : Session) (accepted : AreAccepted new) (left : Leaves past new l.id (record { store = store; link = l.raw; answer = answer }) t) where
  abbrev own : Lent Link
  own = record l { raw = t.link }

  -- the link of another connection is as it was
  side_kept : (d : ℕ) → (l.id == d) ≡ false → (linked_after past).link d ≡ (linked_after new).link d
  side_kept d apart = sym (left.others d (number_comm d l.id ∙ apart))

  abbrev OpenLeft : Type 0
  OpenLeft = ((t.store.open_links ≡ store.open_links) × (t.link.depth ≡ l.raw.depth)) ⊎ (t.store.open_links ≡ remarked l.raw.depth t.link.depth store.open_links)

  open_left : OpenLeft → t.store.open_links ≡ count_by is_lent_in_level (ys ++ own ∷ zs)
  open_left left =
      let whole = count-mid is_lent_in_level ys l zs in
      let new' = count-mid is_lent_in_level ys own zs in
      let mark = level_counts l in
      let mark' = level_counts own in
      let all = s.open_links in
      by left whole new' mark mark' all
    where
      by : OpenLeft → count_by is_lent_in_level (ys ++ l ∷ zs) ≡ one_if (is_lent_in_level l) + count_by is_lent_in_level (ys ++ zs) → count_by is_lent_in_level (ys ++ own ∷ zs) ≡ one_if (is_lent_in_level own) + count_by is_lent_in_level (ys ++ zs)
          → one_if (is_lent_in_level l) ≡ level_mark l.raw.depth → one_if (is_lent_in_level own) ≡ level_mark t.link.depth → store.open_links ≡ count_by is_lent_in_level (ys ++ l ∷ zs) → t.store.open_links ≡ count_by is_lent_in_level (ys ++ own ∷ zs)
      by (inl h) whole new' mark mark' all = let same = h.0 in let flat = ap level_mark h.1 in omega (arith, whole, new', mark, mark', all, same, flat)
      by (inr h) whole new' mark mark' all = omega (arith, whole, new', mark, mark', all, h)

  pub links-left : LinksStand core t.store (ys ++ own ∷ zs) new
  links-left = record {
    accepted = accepted;
    rows = left.rows;
    owned = map-mid (λ (x : Lent Link). x.id) ys own l zs refl ∙ s.owned;
    lent_links = All-join (λ (x : Lent Link). IsLinkOf (linked_after new) x.id x.raw) ys own zs left.side
        (All-weaker (λ (x : Lent Link). ((l.id == x.id) ≡ false) × IsLinkOf (linked_after past) x.id x.raw) (λ (x : Lent Link). IsLinkOf (linked_after new) x.id x.raw) (λ x h. h.1 ∙ side_kept x.id h.0) (ys ++ zs)
        (All-both (λ (x : Lent Link). (l.id == x.id) ≡ false) (λ (x : Lent Link). IsLinkOf (linked_after past) x.id x.raw) (ys ++ zs) (ids_apart core sound store ys l zs past s) (All-sides (λ (x : Lent Link). IsLinkOf (linked_after past) x.id x.raw) ys l zs s.lent_links)));
    idle_links =
        All-weaker (λ (i : Idle Link). ((l.id == i.lent.id) ≡ false) × IsRestingLink (linked_after past) i.lent.id i.lent.raw) (λ (i : Idle Link). IsRestingLink (linked_after new) i.lent.id i.lent.raw)
        (λ i h. record { is = h.1.is ∙ side_kept i.lent.id h.0; rests = h.1.rests }) core.idle
        (All-both (λ (i : Idle Link). (l.id == i.lent.id) ≡ false) (λ (i : Idle Link). IsRestingLink (linked_after past) i.lent.id i.lent.raw) core.idle (idle_apart core sound store ys l zs past s) s.idle_links);
    unopened = λ d h. sym (side_kept d (ne_eqb l.id d (λ e. let below = id_below core sound store ys l zs past s in omega (arith, below, h, e)))) ∙ s.unopened d h;
    unlent = λ d none.
        let sides = or_parts (d == l.id) (list_any (λ (x : Lent Link). d == x.id) (ys ++ zs)) (sym (any-mid (λ (x : Lent Link). d == x.id) ys own zs) ∙ none) in
        ap (λ k. k.depth) (left.others d sides.0) ∙ s.unlent d (any-mid (λ (x : Lent Link). d == x.id) ys l zs ∙ or_from (d == l.id) (list_any (λ (x : Lent Link). d == x.id) (ys ++ zs)) sides.0 sides.1);
    open_links = open_left left.open_links;
  }
