-- The links of clients, as one of them changes, comes or goes.
use Rattle.std.proofs.Common.{◌≡◌, ℕ, suc, ◌+◌, ◌<◌, ◌≤◌, ◌^◌, ◌==◌, Bool, true, false, cond, ◌||◌, ◌⊎◌, inl, inr, List, [], ◌∷◌, ◌++◌, map, length, count_by, All, refl, sym, ap, subst, ◌∙◌, eq-eqb, append-nil, arith, length-append}
use Rattle.std.specs.List.{list_any}
use Rattle.std.proofs.lemmas.Bool.{or_parts, or_from, cases_Bool, eqb-true}
use Rattle.std.proofs.lemmas.List.Elements.{All-head, All-weaker}
use Rattle.sqlx_pool_marks.proofs.ListFacts.{number_comm}
use Rattle.sqlx_savepoints.specs.Changes.{History}
use Rattle.sqlx_savepoints.specs.Links.{linked_after, new_link}
use Rattle.sqlx_savepoints.specs.Links.{Link as BracketLink}
use Rattle.mem_store.specs.Store.{Store, Link, level_mark}
use Rattle.sqlx_play.specs.stage.LinksStand.{side_of}
use Rattle.sqlx_play.proofs.links.Middles.{any-mid, count-mid, map-mid, All-mid, All-sides, All-join, All-both, none_counted, uncounted}
use Rattle.sqlx_transfer_rules.specs.Transfers.{is_among}
use Rattle.sqlx_transfer.specs.declared.holder.Holder.{Holder}
use Rattle.sqlx_transfer.specs.At.{At, OtherOpen}
use Rattle.sqlx_transfer.specs.Stands.{client_of, IsInLevel, IsClient, LinksStand}

-- whether a connection is the client's
abbrev pub is_of : ℕ → Holder → Bool
is_of k h = h.client == k

-- the links of all connections behind what happened
abbrev pub links_of : History → ℕ → BracketLink
links_of past = (linked_after past).link

pub among_is : (k : ℕ) (hs : List Holder) → is_among k (map client_of hs) ≡ list_any (is_of k) hs
among_is k [] = refl
among_is k (h ∷ hs) = ap (λ b. (h.client == k) || b) (among_is k hs)

no_length : (hs : List Holder) → length hs ≡ 0 → hs ≡ []
no_length [] none = refl
no_length (h ∷ hs) none = absurd (omega (arith, none))

marked : (d : ℕ) → 1 ≤ d → level_mark d ≡ 1
marked d one = omega (arith, one)

-- one of several others has a level open
other_open : (past : History) (k : ℕ) (hs : List Holder) → 1 ≤ length hs → All (λ h. (h.client == k) ≡ false) hs → All (λ h. side_of h.lent.raw ≡ (linked_after past).link h.client) hs → All IsInLevel hs → OtherOpen (links_of past) k
other_open past k [] one apart links levels = absurd (omega arith)
other_open past k (h ∷ hs) one apart links levels = record {
  other = h.client;
  apart = All-head (λ (h : Holder). (h.client == k) ≡ false) h hs apart;
  deep = subst (λ (l : BracketLink). 1 ≤ l.depth) (All-head (λ (h : Holder). side_of h.lent.raw ≡ (linked_after past).link h.client) h hs links) (All-head IsInLevel h hs levels).0;
}

abbrev Linked' : History → Holder → Type 0
Linked' past h = side_of h.lent.raw ≡ (linked_after past).link h.client

-- ---- a client that has a connection

module _ (past : History) (store : Store) (ys : List Holder) (h : Holder) (zs : List Holder) (s : LinksStand past store (ys ++ h ∷ zs)) where
  pub apart_from : All (λ x. (x.client == h.client) ≡ false) (ys ++ zs)
  apart_from =
      let once' = s.once h.client in
      let counted = count-mid (is_of h.client) ys h zs in
      let mine : ◌≡◌ {A = ℕ} (cond (h.client == h.client) 1 0) 1 = ap (λ b. cond b 1 0) (eq-eqb h.client h.client refl) in
      none_counted (is_of h.client) (ys ++ zs) (omega (arith, once', counted, mine))

  pub mine_is : Linked' past h
  mine_is = All-mid (Linked' past) ys h zs s.links

  pub deep_is : IsInLevel h
  deep_is = All-mid IsInLevel ys h zs s.levels

  pub length-is : length (ys ++ h ∷ zs) ≡ suc (length (ys ++ zs))
  length-is = (let a = length-append ys (h ∷ zs) in let b = length-append ys zs in omega (arith, a, b))

  others-flat : length (ys ++ zs) ≡ 0 → (other : ℕ) → (other == h.client) ≡ false → (links_of past other).depth ≡ 0
  others-flat none other apart =
      let empty' : ys ++ zs ≡ [] = no_length (ys ++ zs) none in
      let not_there : is_among other (map client_of (ys ++ h ∷ zs)) ≡ false =
      among_is other (ys ++ h ∷ zs) ∙ any-mid (is_of other) ys h zs ∙ (λ i. number_comm h.client other i || list_any (is_of other) (empty' i)) ∙ (λ i. apart i || false) in
      ap (λ (l : BracketLink). l.depth) (s.away other not_there)

  pub at_of : (b : ℕ) → b < 2 ^ 32 → b ≤ store.runs.begun → At past (links_of past) h.client (length (ys ++ zs)) b store h.lent.raw
  at_of b few begun = record {
    accepted = s.accepted;
    rows = s.rows;
    side = mine_is;
    beside = λ other apart. refl;
    open_links = (let all = s.open_links in let long = length-is in let mark = marked h.lent.raw.depth deep_is.0 in omega (arith, all, long, mark));
    quiet = others-flat;
    loud = λ one. other_open past h.client (ys ++ zs) one apart_from (All-sides (Linked' past) ys h zs s.links) (All-sides IsInLevel ys h zs s.levels);
    few = few;
    begun = begun;
  }

  -- the others' links, behind what happened on this one
  others-kept : (new : History) (n b : ℕ) (store' : Store) (link' : Link) → At new (links_of past) h.client n b store' link' → All (Linked' new) (ys ++ zs)
  others-kept new n b store' link' at =
      All-weaker (λ (x : Holder). ((x.client == h.client) ≡ false) × Linked' past x) (Linked' new) (λ x both. both.1 ∙ sym (at.beside x.client both.0)) (ys ++ zs)
      (All-both (λ (x : Holder). (x.client == h.client) ≡ false) (Linked' past) (ys ++ zs) apart_from (All-sides (Linked' past) ys h zs s.links))

  -- its link changed
  pub links_changed : (new : History) (b : ℕ) (store' : Store) (h' : Holder) → h'.client ≡ h.client → At new (links_of past) h.client (length (ys ++ zs)) b store' h'.lent.raw → IsInLevel h' → LinksStand new store' (ys ++ h' ∷ zs)
  links_changed new b store' h' same at one = record {
    accepted = at.accepted;
    rows = at.rows;
    links = All-join (Linked' new) ys h' zs (at.side ∙ ap (linked_after new).link (sym same)) (others-kept new (length (ys ++ zs)) b store' h'.lent.raw at);
    levels = All-join IsInLevel ys h' zs one (All-sides IsInLevel ys h zs s.levels);
    numbers = All-join IsClient ys h' zs (subst (λ c. c < 2 ^ 32) (sym same) (All-mid IsClient ys h zs s.numbers)) (All-sides IsClient ys h zs s.numbers);
    away = λ k none.
        let none' : is_among k (map client_of (ys ++ h ∷ zs)) ≡ false = ap (is_among k) (map-mid client_of ys h h' zs (sym same)) ∙ none in
        let parts = or_parts (h.client == k) (list_any (is_of k) (ys ++ zs)) (sym (any-mid (is_of k) ys h zs) ∙ sym (among_is k (ys ++ h ∷ zs)) ∙ none') in
        at.beside k (number_comm k h.client ∙ parts.0) ∙ s.away k none';
    once = λ k. subst (λ n. n ≤ 1) (count-mid (is_of k) ys h zs ∙ ap (λ c. cond (c == k) 1 0 + count_by (is_of k) (ys ++ zs)) (sym same) ∙ sym (count-mid (is_of k) ys h' zs)) (s.once k);
    open_links = (let all = at.open_links in let a = length-append ys (h' ∷ zs) in let b' = length-append ys zs in let mark = marked h'.lent.raw.depth one.0 in omega (arith, all, a, b', mark));
  }

  -- its last level ended, and it is gone
  pub links_given : (new : History) (b : ℕ) (store' : Store) (link' : Link) → At new (links_of past) h.client (length (ys ++ zs)) b store' link' → (linked_after new).link h.client ≡ new_link → LinksStand new store' (ys ++ zs)
  links_given new b store' link' at ended = record {
    accepted = at.accepted;
    rows = at.rows;
    links = others-kept new (length (ys ++ zs)) b store' link' at;
    levels = All-sides IsInLevel ys h zs s.levels;
    numbers = All-sides IsClient ys h zs s.numbers;
    away = λ k none. by k none (cases_Bool (h.client == k));
    once = λ k. (let all = s.once k in let counted = count-mid (is_of k) ys h zs in omega (arith, all, counted));
    open_links = (let all = at.open_links in let flat : link'.depth ≡ 0 = ap (λ (l : BracketLink). l.depth) (at.side ∙ ended) in omega (arith, all, flat));
  }
    where
      by : (k : ℕ) → is_among k (map client_of (ys ++ zs)) ≡ false → ((h.client == k) ≡ true) ⊎ ((h.client == k) ≡ false) → (linked_after new).link k ≡ new_link
      by k none (inl is) = ap (linked_after new).link (sym (eqb-true h.client k is)) ∙ ended
      by k none (inr is) = at.beside k (number_comm k h.client ∙ is) ∙ s.away k (among_is k (ys ++ h ∷ zs) ∙ any-mid (is_of k) ys h zs ∙ or_from (h.client == k) (list_any (is_of k) (ys ++ zs)) is (sym (among_is k (ys ++ zs)) ∙ none))

-- ---- a client that has none yet

module _ (past : History) (store : Store) (hs : List Holder) (k : ℕ) (s : LinksStand past store hs) (none : is_among k (map client_of hs) ≡ false) where
  none_of : All (λ x. (x.client == k) ≡ false) hs
  none_of = none_counted (is_of k) hs (uncounted (is_of k) hs (sym (among_is k hs) ∙ none))

  pub at_new : (b : ℕ) (link : Link) → side_of link ≡ new_link → b < 2 ^ 32 → b ≤ store.runs.begun → At past (links_of past) k (length hs) b store link
  at_new b link rests few begun = record {
    accepted = s.accepted;
    rows = s.rows;
    side = rests ∙ sym (s.away k none);
    beside = λ other apart. refl;
    open_links = (let all = s.open_links in let flat : link.depth ≡ 0 = ap (λ (l : BracketLink). l.depth) rests in omega (arith, all, flat));
    quiet = λ empty' other apart. ap (λ (l : BracketLink). l.depth) (s.away other (ap (λ (l : List Holder). is_among other (map client_of l)) (no_length hs empty')));
    loud = λ one. other_open past k hs one none_of s.links s.levels;
    few = few;
    begun = begun;
  }

  -- it has a connection now
  pub links_taken : (new : History) (b : ℕ) (store' : Store) (h' : Holder) → h'.client ≡ k → k < 2 ^ 32 → At new (links_of past) k (length hs) b store' h'.lent.raw → IsInLevel h' → LinksStand new store' (hs ++ h' ∷ [])
  links_taken new b store' h' same small at one = record {
    accepted = at.accepted;
    rows = at.rows;
    links = All-join (Linked' new) hs h' [] (at.side ∙ ap (linked_after new).link (sym same)) (subst (All (Linked' new)) (sym (append-nil hs)) kept);
    levels = All-join IsInLevel hs h' [] one (subst (All IsInLevel) (sym (append-nil hs)) s.levels);
    numbers = All-join IsClient hs h' [] (subst (λ c. c < 2 ^ 32) (sym same) small) (subst (All IsClient) (sym (append-nil hs)) s.numbers);
    away = λ other gone.
        let parts = or_parts (h'.client == other) (list_any (is_of other) (hs ++ [])) (sym (any-mid (is_of other) hs h' []) ∙ sym (among_is other (hs ++ h' ∷ [])) ∙ gone) in
        at.beside other (number_comm other k ∙ ap (λ c. c == other) (sym same) ∙ parts.0) ∙ s.away other (among_is other hs ∙ ap (list_any (is_of other)) (sym (append-nil hs)) ∙ parts.1);
    once = λ other. once_more other (cases_Bool (h'.client == other));
    open_links = (let all = at.open_links in let a = length-append hs (h' ∷ []) in let mark = marked h'.lent.raw.depth one.0 in omega (arith, all, a, mark));
  }
    where
      kept : All (Linked' new) hs
      kept = All-weaker (λ (x : Holder). ((x.client == k) ≡ false) × Linked' past x) (Linked' new) (λ x both. both.1 ∙ sym (at.beside x.client both.0)) hs (All-both (λ (x : Holder). (x.client == k) ≡ false) (Linked' past) hs none_of s.links)

      counted : (other : ℕ) → count_by (is_of other) (hs ++ h' ∷ []) ≡ cond (h'.client == other) 1 0 + count_by (is_of other) hs
      counted other = count-mid (is_of other) hs h' [] ∙ ap (λ (l : List Holder). cond (h'.client == other) 1 0 + count_by (is_of other) l) (append-nil hs)

      once_more : (other : ℕ) → ((h'.client == other) ≡ true) ⊎ ((h'.client == other) ≡ false) → count_by (is_of other) (hs ++ h' ∷ []) ≤ 1
      once_more other (inl is) =
          let mine : other ≡ k = sym (eqb-true h'.client other is) ∙ same in
          let zero' : count_by (is_of other) hs ≡ 0 = ap (λ c. count_by (is_of c) hs) mine ∙ uncounted (is_of k) hs (sym (among_is k hs) ∙ none) in
          let all = counted other in
          let bit : ◌≡◌ {A = ℕ} (cond (h'.client == other) 1 0) 1 = ap (λ b. cond b 1 0) is in
          omega (arith, all, zero', bit)
      once_more other (inr is) = let all = counted other in let old = s.once other in let bit : ◌≡◌ {A = ℕ} (cond (h'.client == other) 1 0) 0 = ap (λ b. cond b 1 0) is in omega (arith, all, old, bit)
