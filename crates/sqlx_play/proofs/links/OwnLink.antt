-- The link of one connection that a client owns, among the links of a stage.
use Rattle.std.proofs.Common.{◌≡◌, ℕ, zero, suc, ◌+◌, ◌<◌, ◌≤◌, ◌==◌, ◌&&◌, ◌||◌, not, nat_lt, Bool, true, false, cond, ◌⊎◌, inl, inr, List, ◌∷◌, ◌++◌, count_by, All, refl, sym, ap, ◌∙◌, arith, eq-eqb, ltb-true, ltb-false, lt-ltb}
use Rattle.std.specs.List.{list_any}
use Rattle.std.proofs.lemmas.Bool.{eqb-true, and_parts, cases_Bool}
use Rattle.sqlx_pool_lists.specs.declared.steps.Lent.{Lent}
use Rattle.sqlx_pool_lists.specs.declared.steps.Idle.{Idle}
use Rattle.sqlx_pool_lists.specs.declared.ticket.OwnedConn.{OwnedConn}
use Rattle.sqlx_pool_lists.specs.Core.{Core}
use Rattle.sqlx_pool_lists.specs.Sound.{IsNumbered, holds, rests}
use Rattle.sqlx_pool_marks.proofs.ListFacts.{count_by-map, number_comm}
use Rattle.mem_store.specs.Store.{Store, Link, others_in_level, level_mark}
use Rattle.sqlx_savepoints.specs.Changes.{Change, History, connection_of}
use Rattle.sqlx_savepoints.specs.Brackets.{depth}
use Rattle.sqlx_savepoints.specs.Standing.{is_zero}
use Rattle.sqlx_savepoints.specs.Links.{linked_after}
use Rattle.sqlx_savepoints.specs.Events.{others_open}
use Rattle.sqlx_savepoints.proofs.Linking.{savepoints_read_alike}
use Rattle.sqlx_savepoints.proofs.Answering.{no_other}
use Rattle.sqlx_play.specs.stage.LinksStand.{LinksStand, IsLinkOf, is_lent_in_level}
use Rattle.sqlx_play.proofs.links.Middles.{any-mid, count-mid, All-sides, All-both, none_counted, any-found, any_counted, counted_any, IsMember, members, bools_same}
use Rattle.sqlx_play.proofs.links.LinksGone.{level_counts}

above_zero : (n : ℕ) → is_zero n ≡ false → 1 ≤ n
above_zero zero e = absurd (cc)
above_zero (suc n) e = omega arith

module _ (core : Core Link) (sound : IsNumbered core) (store : Store) (ys : List (Lent Link)) (l : Lent Link) (zs : List (Lent Link)) (past : History) (s : LinksStand core store (ys ++ l ∷ zs) past) where
  -- ---- the other links are of other connections and have other numbers

  ids_counted : count_by (λ (x : Lent Link). l.id == x.id) (ys ++ l ∷ zs) ≡ count_by (holds l.id) core.held
  ids_counted = sym (count_by-map (λ (x : Lent Link). x.id) (λ n. l.id == n) (ys ++ l ∷ zs)) ∙ ap (count_by (λ n. l.id == n)) s.owned ∙ count_by-map (λ (h : OwnedConn). h.conn) (λ n. l.id == n) core.held

  here_counted : count_by (holds l.id) core.held ≡ 1 + count_by (λ (x : Lent Link). l.id == x.id) (ys ++ zs)
  here_counted = sym ids_counted ∙ count-mid (λ (x : Lent Link). l.id == x.id) ys l zs ∙ ap (λ b. cond b 1 0 + count_by (λ (x : Lent Link). l.id == x.id) (ys ++ zs)) (eq-eqb l.id l.id refl)

  pub ids_apart : All (λ (x : Lent Link). (l.id == x.id) ≡ false) (ys ++ zs)
  ids_apart = none_counted (λ (x : Lent Link). l.id == x.id) (ys ++ zs) (let h = here_counted in let o = sound.once l.id in omega (arith, h, o))

  pub idle_apart : All (λ (i : Idle Link). (l.id == i.lent.id) ≡ false) core.idle
  idle_apart = none_counted (rests l.id) core.idle (let h = here_counted in let o = sound.once l.id in omega (arith, h, o))

  pub id_below : l.id < core.next_conn
  id_below = by (cases_Bool (nat_lt l.id core.next_conn))
    where
      by : (nat_lt l.id core.next_conn ≡ true) ⊎ (nat_lt l.id core.next_conn ≡ false) → l.id < core.next_conn
      by (inl yes') = ltb-true l.id core.next_conn yes'
      by (inr no') = let h = here_counted in let o = sound.opened l.id (ltb-false l.id core.next_conn no') in absurd (omega (arith, h, o))

  -- ---- other connections have an open bracket where other links have an open level

  depth_is : (x : Lent Link) → IsLinkOf (linked_after past) x.id x.raw → x.raw.depth ≡ depth x.id past
  depth_is x h = ap (λ k. k.depth) h ∙ (savepoints_read_alike past s.accepted).depths x.id

  abbrev is_open_elsewhere : Change → Bool
  is_open_elsewhere change = not (connection_of change == l.id) && not (is_zero (depth (connection_of change) past))

  opened_by : (n : ℕ) → 1 ≤ depth n past → (n == l.id) ≡ false → others_open l.id past ≡ true
  opened_by n one apart = by (cases_Bool (others_open l.id past))
    where
      by : (others_open l.id past ≡ true) ⊎ (others_open l.id past ≡ false) → others_open l.id past ≡ true
      by (inl yes') = yes'
      by (inr none) = let z = no_other l.id past none n apart in absurd (omega (arith, z))

  -- the count tells whether another lent link has an open level
  others_counted : others_in_level l.raw.depth store.open_links ≡ nat_lt 0 (count_by is_lent_in_level (ys ++ zs))
  others_counted =
      let whole = count-mid is_lent_in_level ys l zs in
      let mark = level_counts l in
      let all = s.open_links in
      let same : store.open_links ≡ level_mark l.raw.depth + count_by is_lent_in_level (ys ++ zs) = omega (arith, all, whole, mark) in
      ap (λ n. nat_lt (level_mark l.raw.depth) n) same ∙ beyond (level_mark l.raw.depth) (count_by is_lent_in_level (ys ++ zs))
    where
      beyond : (a b : ℕ) → nat_lt a (a + b) ≡ nat_lt 0 b
      beyond a b = bools_same (nat_lt a (a + b)) (nat_lt 0 b) (λ e. let less = ltb-true a (a + b) e in lt-ltb 0 b (omega (arith, less))) (λ e. let less = ltb-true 0 b e in lt-ltb a (a + b) (omega (arith, less)))

  to_brackets : nat_lt 0 (count_by is_lent_in_level (ys ++ zs)) ≡ true → others_open l.id past ≡ true
  to_brackets h =
      let some = ltb-true 0 (count_by is_lent_in_level (ys ++ zs)) h in
      let lent : list_any is_lent_in_level (ys ++ zs) ≡ true = counted_any is_lent_in_level (ys ++ zs) (omega (arith, some)) in
      let other = any-found is_lent_in_level (λ (x : Lent Link). ((l.id == x.id) ≡ false) × IsLinkOf (linked_after past) x.id x.raw) (ys ++ zs) lent
      (All-both (λ (x : Lent Link). (l.id == x.id) ≡ false) (λ (x : Lent Link). IsLinkOf (linked_after past) x.id x.raw) (ys ++ zs) ids_apart (All-sides (λ (x : Lent Link). IsLinkOf (linked_after past) x.id x.raw) ys l zs s.lent_links)) in
      let x : Lent Link = other.0 in
      let open' : 0 < x.raw.depth = ltb-true 0 x.raw.depth other.1 in
      let same = depth_is x other.2.1 in
      opened_by x.id (omega (arith, open', same)) (number_comm x.id l.id ∙ other.2.0)

  from_brackets : others_open l.id past ≡ true → nat_lt 0 (count_by is_lent_in_level (ys ++ zs)) ≡ true
  from_brackets h =
      let found = any-found is_open_elsewhere (λ (change : Change). change ≡ change) past h (λ k d lt. refl) in
      let n : ℕ = connection_of found.0 in
      let parts = and_parts (not (n == l.id)) (not (is_zero (depth n past))) found.1 in
      let apart : (n == l.id) ≡ false = not_true (n == l.id) parts.0 in
      let one : 1 ≤ depth n past = above_zero (depth n past) (not_true (is_zero (depth n past)) parts.1) in
      let owned : list_any (λ (x : Lent Link). n == x.id) (ys ++ l ∷ zs) ≡ true = is_owned n one (cases_Bool (list_any (λ (x : Lent Link). n == x.id) (ys ++ l ∷ zs))) in
      let beside : list_any (λ (x : Lent Link). n == x.id) (ys ++ zs) ≡ true = sym (ap (λ b. b || list_any (λ (x : Lent Link). n == x.id) (ys ++ zs)) apart) ∙ sym (any-mid (λ (x : Lent Link). n == x.id) ys l zs) ∙ owned in
      let other = any-found (λ (x : Lent Link). n == x.id) (λ (x : Lent Link). IsMember (ys ++ zs) x × IsLinkOf (linked_after past) x.id x.raw) (ys ++ zs) beside
      (All-both (IsMember (ys ++ zs)) (λ (x : Lent Link). IsLinkOf (linked_after past) x.id x.raw) (ys ++ zs) (members (ys ++ zs)) (All-sides (λ (x : Lent Link). IsLinkOf (linked_after past) x.id x.raw) ys l zs s.lent_links)) in
      let x : Lent Link = other.0 in
      let same : x.raw.depth ≡ depth n past = depth_is x other.2.1 ∙ ap (λ m. depth m past) (sym (eqb-true n x.id other.1)) in
      let lent : list_any is_lent_in_level (ys ++ zs) ≡ true = other.2.0 is_lent_in_level (lt-ltb 0 x.raw.depth (omega (arith, one, same))) in
      let some = any_counted is_lent_in_level (ys ++ zs) lent in
      lt-ltb 0 (count_by is_lent_in_level (ys ++ zs)) (omega (arith, some))
    where
      not_true : (b : Bool) → not b ≡ true → b ≡ false
      not_true true e = absurd (cc)
      not_true false e = refl

      is_owned : (n : ℕ) → 1 ≤ depth n past → (list_any (λ (x : Lent Link). n == x.id) (ys ++ l ∷ zs) ≡ true) ⊎ (list_any (λ (x : Lent Link). n == x.id) (ys ++ l ∷ zs) ≡ false) → list_any (λ (x : Lent Link). n == x.id) (ys ++ l ∷ zs) ≡ true
      is_owned n one (inl yes') = yes'
      is_owned n one (inr none) = let z = s.unlent n none in let a = (savepoints_read_alike past s.accepted).depths n in absurd (omega (arith, z, a, one))

  -- busy by the store and busy by the brackets
  pub busy-alike : others_in_level l.raw.depth store.open_links ≡ others_open l.id past
  busy-alike = others_counted ∙ bools_same (nat_lt 0 (count_by is_lent_in_level (ys ++ zs))) (others_open l.id past) to_brackets from_brackets
