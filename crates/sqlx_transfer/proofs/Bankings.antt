-- What a bank stands for behind one more event.
use Rattle.std.proofs.Common.{◌≡◌, ℕ, zero, suc, ◌+◌, ◌-◌, ◌<◌, ◌≤◌, ◌^◌, ◌==◌, ℤ, pos, ◌+ℤ◌, ◌-ℤ◌, neg_ℤ, int_eq, int_lt, nat_le, Bool, true, false, not, cond, ◌&&◌, ◌||◌, inl, inr, Some, List, [], ◌∷◌, ◌++◌, map, length, count_by, All, refl, sym, ap, subst, ◌∙◌, eq-eqb, lt-ltb, arith, length-append}
use Rattle.std.specs.List.{list_any, sum_by}
use Rattle.std.proofs.lemmas.Bool.Decides.{eqb_tells}
use Rattle.std.proofs.lemmas.Int.{ints}
use Rattle.std.proofs.lemmas.Bool.{and_parts, le-leb, lt-leb}
use Rattle.sqlx_savepoints.proofs.Linking.{savepoints_read_alike}
use Rattle.std.proofs.lemmas.List.Sums.{sum_by-append}
use Rattle.std.proofs.lemmas.List.Elements.{All-head, All-tail}
use Rattle.std.proofs.lemmas.List.{map-append}
use Rattle.sqlx_savepoints.specs.Changes.{Change, History, opens, writes, commits, rolls_back}
use Rattle.sqlx_savepoints.specs.Brackets.{depth}
use Rattle.sqlx_savepoints.specs.Standing.{Standing, standing, value_of, cleared}
use Rattle.sqlx_savepoints.specs.Standing as stands
use Rattle.sqlx_savepoints.specs.Stores.{AreAccepted}
use Rattle.sqlx_savepoints.specs.Links.{linked_after, new_link}
use Rattle.sqlx_savepoints.specs.Links.{Link as BracketLink}
use Rattle.sqlx_savepoints.proofs.StoreOf.{IsQuiet}
use Rattle.sqlx_savepoints.proofs.Readers.{standing_quiet}
use Rattle.sqlx_savepoints.proofs.Tells.{tells}
use Rattle.sqlx_pool_lists.specs.Core.{Core}
use Rattle.sqlx_pool_lists.specs.declared.ticket.OwnedConn.{OwnedConn}
use Rattle.mem_store.specs.Store.{Store, Link}
use Rattle.sqlx_pool_marks.proofs.ListFacts.{count_by-cons, count_by-map}
use Rattle.sqlx_play.specs.stage.LinksStand.{side_of}
use Rattle.sqlx_play.proofs.links.Middles.{any-mid, count-mid, map-mid, none_counted, uncounted}
use Rattle.sqlx_player.specs.Language.{Pairs}
use Rattle.sqlx_transfer_rules.specs.declared.bank_line.BankLine.{BankLine}
use Rattle.sqlx_transfer_rules.specs.declared.event.Event.{Event}
use Rattle.sqlx_transfer_rules.specs.declared.event.Event.TheVariants.{Start, Move, Commit, Undo, Drop}
use Rattle.sqlx_transfer_rules.specs.declared.event.Met.{Met}
use Rattle.sqlx_transfer_rules.specs.declared.event.Met.TheVariants.{Accepted, FirstRefused, SecondRefused}
use Rattle.sqlx_transfer_rules.specs.declared.reply.Reply.{Reply}
use Rattle.sqlx_transfer_rules.specs.declared.reply.Reply.TheVariants.{Full, Deep, Level, NoConnection, Insufficient, Overflow, Fault, Busy, Moved, Dropped}
use Rattle.sqlx_transfer_rules.specs.Transfers.{brought_about, history_of, depth_of, seen, is_among, without_client, connected_by, connected, has_connection, others_connected}
use Rattle.sqlx_transfer_rules.specs.Grammar.{is_account}
use Rattle.sqlx_transfer_rules.specs.Rules.{answer, greatest, move_met}
use Rattle.sqlx_transfer_rules.specs.Laws.{IsOfBank}
use Rattle.sqlx_transfer_rules.proofs.Totals.{same_account}
use Rattle.sqlx_transfer_rules.proofs.Amounts.{sums_stand}
use Rattle.sqlx_transfer_rules.specs.Values.{valued, all_in}
use Rattle.sqlx_transfer_rules.proofs.ValueLemmas.{all_seen, depth-valued, value-valued, struck-valued, rolled-valued}
use Rattle.sqlx_transfer.specs.declared.holder.Holder.{Holder}
use Rattle.sqlx_transfer.specs.At.{At}
use Rattle.sqlx_transfer.specs.Pool.{IsPool}
use Rattle.sqlx_transfer.specs.Stands.{begins, levels_begun, client_of, held_of, IsInLevel, PoolStands, Stands}
use Rattle.sqlx_transfer.specs.BankSteps.{Starts, MovesIf, DropsAll, ended, ending}
use Rattle.sqlx_transfer.specs.declared.moving.Transfer.{Transfer}
use Rattle.sqlx_transfer.specs.Moving.{moved_reply, moved_things}
use Rattle.sqlx_transfer.proofs.Depths.{history_of-push, connected-push, depth-struck, depth-rolled, last_commit, last_rollback}
use Rattle.sqlx_transfer.proofs.Clients.{is_of, links_of, among_is, apart_from, deep_is, mine_is, at_of, links_changed, links_given, links_taken}
use Rattle.sqlx_transfer.proofs.EventSteps.{depth_at}

-- ---- how many levels were begun

levels-push : (pairs : Pairs Event Reply) (pair : Event × Reply) → levels_begun (pairs ++ pair ∷ []) ≡ levels_begun pairs + begins pair.0 pair.1
levels-push pairs pair =
    let one = λ (p : Event × Reply). begins p.0 p.1 in
    let last : sum_by one pairs + sum_by one (pair ∷ []) ≡ sum_by one pairs + begins pair.0 pair.1 = omega arith in
    sum_by-append one pairs (pair ∷ []) ∙ last

begins-few : (event : Event) (reply : Reply) → begins event reply ≤ 1
begins-few (Start k) (Level d) = omega arith
begins-few (Move k x y n met) Moved = omega arith
begins-few event reply = omega arith

pub levels-few : (pairs : Pairs Event Reply) → levels_begun pairs ≤ length pairs
levels-few [] = omega arith
levels-few (pair ∷ pairs) = let rest = levels-few pairs in let one = begins-few pair.0 pair.1 in let step : levels_begun (pair ∷ pairs) ≡ begins pair.0 pair.1 + levels_begun pairs = sum_cons pair pairs in omega (arith, rest, one, step)
  where
    sum_cons : (p : Event × Reply) (ps : Pairs Event Reply) → levels_begun (p ∷ ps) ≡ begins p.0 p.1 + levels_begun ps
    sum_cons p ps = sum_by-append (λ (q : Event × Reply). begins q.0 q.1) (p ∷ []) ps ∙ (let one : sum_by (λ (q : Event × Reply). begins q.0 q.1) (p ∷ []) ≡ begins p.0 p.1 = omega arith in ap (λ n. n + levels_begun ps) one)

-- ---- the others

pub all-counted : (k : ℕ) (hs : List Holder) → All (λ x. (x.client == k) ≡ false) hs → count_by (λ x. not (x.client == k)) hs ≡ length hs
all-counted k [] apart = refl
all-counted k (h ∷ hs) apart =
    count_by-cons (λ x. not (x.client == k)) h hs
    ∙ (λ i. cond (not (All-head (λ (x : Holder). (x.client == k) ≡ false) h hs apart i)) 1 0 + all-counted k hs (All-tail (λ (x : Holder). (x.client == k) ≡ false) h hs apart) i)
    ∙ (let more : 1 + length hs ≡ suc (length hs) = omega arith in more)

-- as many others as stand beside the client
others-of : (ys : List Holder) (h : Holder) (zs : List Holder) → All (λ x. (x.client == h.client) ≡ false) (ys ++ zs) → count_by (λ other. not (other == h.client)) (map client_of (ys ++ h ∷ zs)) ≡ length (ys ++ zs)
others-of ys h zs apart =
    count_by-map client_of (λ other. not (other == h.client)) (ys ++ h ∷ zs)
    ∙ count-mid (λ x. not (x.client == h.client)) ys h zs
    ∙ ap (λ b. cond (not b) 1 0 + count_by (λ x. not (x.client == h.client)) (ys ++ zs)) (eq-eqb h.client h.client refl)
    ∙ (let none : 0 + count_by (λ x. not (x.client == h.client)) (ys ++ zs) ≡ count_by (λ x. not (x.client == h.client)) (ys ++ zs) = omega arith in none)
    ∙ all-counted h.client (ys ++ zs) apart

-- the clients without this one
without-none : (k : ℕ) (hs : List Holder) → All (λ x. (x.client == k) ≡ false) hs → without_client k (map client_of hs) ≡ map client_of hs
without-none k [] apart = refl
without-none k (h ∷ hs) apart = λ i. cond (not (All-head (λ (x : Holder). (x.client == k) ≡ false) h hs apart i)) (h.client ∷ without-none k hs (All-tail (λ (x : Holder). (x.client == k) ≡ false) h hs apart) i) (without_client k (map client_of hs))

pub without-mid : (ys : List Holder) (h : Holder) (zs : List Holder) → All (λ x. (x.client == h.client) ≡ false) (ys ++ zs) → without_client h.client (map client_of (ys ++ h ∷ zs)) ≡ map client_of (ys ++ zs)
without-mid [] h zs apart = ap (λ b. cond (not b) (h.client ∷ without_client h.client (map client_of zs)) (without_client h.client (map client_of zs))) (eq-eqb h.client h.client refl) ∙ without-none h.client zs apart
without-mid (y ∷ ys) h zs apart = λ i. cond (not (All-head (λ (x : Holder). (x.client == h.client) ≡ false) y (ys ++ zs) apart i)) (y.client ∷ without-mid ys h zs (All-tail (λ (x : Holder). (x.client == h.client) ≡ false) y (ys ++ zs) apart) i) (without_client h.client (map client_of (ys ++ h ∷ zs)))

-- ---- numbers

accounts-apart : (x y : ℕ) → (y == x) ≡ false → int_eq (pos x) (pos y) ≡ false
accounts-apart x y apart = elim (same_account x y) [
  | inl is ↦ absurd (let bad : true ≡ false = sym (eq-eqb y x (sym is.1)) ∙ apart in cc)
  | inr is ↦ is.0
]

less : (seen' opening all : ℤ) (a : ℕ) → seen' ≡ opening +ℤ all → seen' -ℤ pos a ≡ opening +ℤ (neg_ℤ (pos a) +ℤ all)
less seen' opening all a is = omega (arith, ints, is)

gained : (seen' opening all : ℤ) (a : ℕ) → seen' ≡ opening +ℤ all → seen' +ℤ pos a ≡ opening +ℤ (pos a +ℤ (pos 0 +ℤ all))
gained seen' opening all a is = omega (arith, ints, is)

not_true : (b : Bool) → not b ≡ true → b ≡ false
not_true true e = absurd (cc)
not_true false e = refl

-- ---- one more event

module _ (core : Core Link) (store : Store) (line first : BankLine) (pairs : Pairs Event Reply) where
  abbrev more : Event → Reply → Pairs Event Reply
  more event reply = pairs ++ (event, reply) ∷ []

  -- nothing changed
  pub kept : (hs : List Holder) → Stands core store hs line first pairs → (event : Event) (reply : Reply) → brought_about event reply ≡ [] → connected_by event reply (connected pairs) ≡ connected pairs → begins event reply ≡ 0
      → Stands core store hs line first (more event reply)
  kept hs s event reply nothing same none =
      let history : history_of (more event reply) ≡ history_of pairs = history_of-push pairs (event, reply) ∙ ap (λ (cs : List Change). cs ++ history_of pairs) nothing in
      record {
        set_up = s.set_up;
        past = s.past;
        links = s.links;
        pool = s.pool;
        accepted = subst AreAccepted (sym history) s.accepted;
        stands = s.stands ∙ ap (λ (h : History). valued first (standing h)) (sym history);
        clients = s.clients ∙ sym (connected-push pairs (event, reply) ∙ same);
        begun = (let b = s.begun in let push = levels-push pairs (event, reply) in omega (arith, b, push, none));
      }

  module _ (ys : List Holder) (h : Holder) (zs : List Holder) (s : Stands core store (ys ++ h ∷ zs) line first pairs) where
    abbrev k : ℕ
    k = h.client

    abbrev n : ℕ
    n = length (ys ++ zs)

    abbrev things : List Standing
    things = standing (history_of pairs)

    pub quiet : IsQuiet things
    quiet = standing_quiet (history_of pairs) s.accepted

    -- the client has a connection
    pub has : has_connection k pairs ≡ true
    has = ap (is_among k) (sym s.clients) ∙ among_is k (ys ++ h ∷ zs) ∙ any-mid (is_of k) ys h zs ∙ ap (λ b. b || list_any (is_of k) (ys ++ zs)) (eq-eqb k k refl)

    -- the others have one each
    pub others : others_connected k pairs ≡ n
    others = ap (count_by (λ other. not (other == k))) (sym s.clients) ∙ counted
      where
        counted : count_by (λ other. not (other == k)) (map client_of (ys ++ h ∷ zs)) ≡ n
        counted = others-of ys h zs (apart_from s.past store ys h zs s.links)

    -- the depth of the client's link is the client's
    pub depth-same : depth k s.past ≡ depth_of k pairs
    depth-same = (tells s.past).0 k ∙ ap (stands.depth_of k) s.stands ∙ depth-valued first k things ∙ sym ((tells (history_of pairs)).0 k)

    pub link-depth : h.lent.raw.depth ≡ depth_of k pairs
    link-depth = depth_at s.past (links_of s.past) k n 0 store h.lent.raw (at_of s.past store ys h zs s.links 0 (omega arith) (omega arith)) ∙ depth-same

    -- the client sees what is due
    pub sees : (x : ℕ) → 1 ≤ x → x ≤ first.accounts → value_of k (pos x) (standing s.past) ≡ Some (seen first k pairs x)
    sees x some few = ap (value_of k (pos x)) s.stands ∙ value-valued first k x things quiet some few ∙ ap (λ v. Some (pos first.opening +ℤ v)) (sym (sums_stand k x (history_of pairs)))

    -- its link changed
    pub stepped : (event : Event) (reply : Reply) (new : History) (b : ℕ) (store' : Store) (h' : Holder) → h'.client ≡ h.client → held_of h' ≡ held_of h → At new (links_of s.past) k n b store' h'.lent.raw → IsInLevel h'
        → connected_by event reply (connected pairs) ≡ connected pairs → AreAccepted (brought_about event reply ++ history_of pairs) → standing new ≡ valued first (standing (brought_about event reply ++ history_of pairs)) → levels_begun pairs + begins event reply ≤ b
        → Stands core store' (ys ++ h' ∷ zs) line first (more event reply)
    stepped event reply new b store' h' same held at one same_clients accepted stands' begun = record {
      set_up = s.set_up;
      past = new;
      links = links_changed s.past store ys h zs s.links new b store' h' same at one;
      pool = record {
        idle = s.pool.idle;
        pool = subst (λ (l : List OwnedConn). IsPool first.max core l s.pool.idle) (map-mid held_of ys h h' zs (sym held)) s.pool.pool;
        all = (let all = s.pool.all in let a = length-append ys (h' ∷ zs) in let a' = length-append ys (h ∷ zs) in omega (arith, all, a, a'));
        rests = s.pool.rests;
      };
      accepted = subst AreAccepted (sym (history_of-push pairs (event, reply))) accepted;
      stands = stands' ∙ ap (λ (x : History). valued first (standing x)) (sym (history_of-push pairs (event, reply)));
      clients = map-mid client_of ys h' h zs same ∙ s.clients ∙ sym (connected-push pairs (event, reply) ∙ same_clients);
      begun = (let low = at.begun in let push = levels-push pairs (event, reply) in omega (arith, low, push, begun));
    }

    -- ---- a further level

    in_level : (new : History) (b : ℕ) (store' : Store) (h' : Holder) → At new (links_of s.past) k n b store' h'.lent.raw → 1 ≤ depth k new → depth k new ≤ 100 → IsInLevel h'
    in_level new b store' h' at low high = let same = depth_at new (links_of s.past) k n b store' h'.lent.raw at in (omega (arith, same, low), omega (arith, same, high))

    pub depth-low : 1 ≤ depth k s.past
    depth-low = let is = link-depth in let same = depth-same in let deep = (deep_is s.past store ys h zs s.links).0 in omega (arith, is, same, deep)

    pub depth-high : depth k s.past ≤ 100
    depth-high = let is = link-depth in let same = depth-same in let deep = (deep_is s.past store ys h zs s.links).1 in omega (arith, is, same, deep)

    depth-opened : depth k (opens k ∷ s.past) ≡ suc (depth k s.past)
    depth-opened = (tells (opens k ∷ s.past)).0 k ∙ ap (λ b. cond b (suc (stands.depth_of k (standing s.past))) (stands.depth_of k (standing s.past))) (eq-eqb k k refl) ∙ ap suc (sym ((tells s.past).0 k))

    not_full : (depth k s.past == 100) ≡ false → depth k s.past < 100
    not_full is = elim (eqb_tells (depth k s.past) 100) [
      | inl yes' ↦ absurd (let bad : true ≡ false = sym yes'.0 ∙ is in cc)
      | inr no' ↦ let high = depth-high in let apart = no'.1 in omega (arith, high, apart)
    ]

    start-due : (c : Bool) → (depth k s.past == 100) ≡ c → answer first pairs (Start k) ≡ cond c Deep (Level (depth_of k pairs + 1))
    start-due c is =
        (λ i. cond (not (has i) && nat_le first.max (others_connected k pairs)) Full (cond (depth_of k pairs == 100) Deep (Level (depth_of k pairs + 1))))
        ∙ ap (λ b. cond b Deep (Level (depth_of k pairs + 1))) (ap (λ d. d == 100) (sym depth-same) ∙ is)

    pub starts : (reply : Reply) (store' : Store) (h' : Holder) → h'.client ≡ h.client → held_of h' ≡ held_of h → Starts (depth k s.past == 100) s.past (links_of s.past) k n (levels_begun pairs) reply store' h'.lent.raw
        → (reply ≡ answer first pairs (Start k)) × Stands core store' (ys ++ h' ∷ zs) line first (more (Start k) reply)
    starts reply store' h' same held started = by (depth k s.past == 100) refl started
      where
        by : (c : Bool) → (depth k s.past == 100) ≡ c → Starts c s.past (links_of s.past) k n (levels_begun pairs) reply store' h'.lent.raw → (reply ≡ answer first pairs (Start k)) × Stands core store' (ys ++ h' ∷ zs) line first (more (Start k) reply)
        by true is st = (
          st.0 ∙ sym (start-due true is),
          subst (λ (r : Reply). Stands core store' (ys ++ h' ∷ zs) line first (more (Start k) r)) (sym st.0)
              (stepped (Start k) Deep s.past (levels_begun pairs) store' h' same held st.1 (in_level s.past (levels_begun pairs) store' h' st.1 depth-low depth-high) refl s.accepted s.stands (omega arith)),
        )
        by false is st = (
          st.0 ∙ ap (λ d. Level (d + 1)) depth-same ∙ sym (start-due false is),
          subst (λ (r : Reply). Stands core store' (ys ++ h' ∷ zs) line first (more (Start k) r)) (sym st.0)
              (stepped (Start k) (Level (depth k s.past + 1)) (opens k ∷ s.past) (levels_begun pairs + 1) store' h' same held st.1
              (in_level (opens k ∷ s.past) (levels_begun pairs + 1) store' h' st.1 (let d = depth-opened in omega (arith, d)) (let d = depth-opened in let r = not_full is in omega (arith, d, r)))
              (ap (λ b. cond b (connected pairs) (connected pairs ++ k ∷ [])) has)
              ((let r = not_full is in let d = depth-same in omega (arith, r, d)), s.accepted)
              (ap (λ (l : List Standing). stands.opened k ∷ l) s.stands)
              (omega arith)),
        )

    -- ---- the client's last level ended

    pub left : (event : Event) (reply : Reply) (new : History) (b : ℕ) (core' : Core Link) (store' : Store) (link' : Link) → At new (links_of s.past) k n b store' link' → (linked_after new).link k ≡ new_link → PoolStands first.max core' (ys ++ zs)
        → connected_by event reply (connected pairs) ≡ without_client k (connected pairs) → AreAccepted (brought_about event reply ++ history_of pairs) → standing new ≡ valued first (standing (brought_about event reply ++ history_of pairs)) → levels_begun pairs + begins event reply ≤ b
        → Stands core' store' (ys ++ zs) line first (more event reply)
    left event reply new b core' store' link' at ended' pool gone accepted stands' begun = record {
      set_up = s.set_up;
      past = new;
      links = links_given s.past store ys h zs s.links new b store' link' at ended';
      pool = pool;
      accepted = subst AreAccepted (sym (history_of-push pairs (event, reply))) accepted;
      stands = stands' ∙ ap (λ (x : History). valued first (standing x)) (sym (history_of-push pairs (event, reply)));
      clients = sym (without-mid ys h zs (apart_from s.past store ys h zs s.links)) ∙ ap (without_client k) s.clients ∙ sym (connected-push pairs (event, reply) ∙ gone);
      begun = (let low = at.begun in let push = levels-push pairs (event, reply) in omega (arith, low, push, begun));
    }

    -- ---- the end of a level

    abbrev pub ended_event : Bool → Event
    ended_event c = ending k c

    ended-due : (c : Bool) → answer first pairs (ended_event c) ≡ Level (depth_of k pairs - 1)
    ended-due true = ap (λ b. cond b (Level (depth_of k pairs - 1)) NoConnection) has
    ended-due false = ap (λ b. cond b (Level (depth_of k pairs - 1)) NoConnection) has

    things-deep : 1 ≤ stands.depth_of k things
    things-deep = let low = depth-low in let same = depth-same in let is = (tells (history_of pairs)).0 k in omega (arith, low, same, is)

    ended-stands : (c : Bool) → standing (ended c k ∷ s.past) ≡ valued first (standing (ended c k ∷ history_of pairs))
    ended-stands true = ap (stands.struck k) s.stands ∙ struck-valued first k things
    ended-stands false = ap (λ (l : List Standing). stands.after l (rolls_back k)) s.stands ∙ rolled-valued first k things quiet things-deep

    ended-depth : (c : Bool) → depth k (ended c k ∷ s.past) ≡ depth k s.past - 1
    ended-depth true = (tells (commits k ∷ s.past)).0 k ∙ depth-struck k (standing s.past) ∙ ap (λ d. d - 1) (sym ((tells s.past).0 k))
    ended-depth false = (tells (rolls_back k ∷ s.past)).0 k ∙ depth-rolled k (standing s.past) ∙ ap (λ d. d - 1) (sym ((tells s.past).0 k))

    ended-accepted : (c : Bool) → AreAccepted (ended c k ∷ history_of pairs)
    ended-accepted true = ((let low = depth-low in let same = depth-same in omega (arith, low, same)), s.accepted)
    ended-accepted false = ((let low = depth-low in let same = depth-same in omega (arith, low, same)), s.accepted)

    ended-brought : (c : Bool) (d : ℕ) → brought_about (ended_event c) (Level d) ≡ ended c k ∷ []
    ended-brought true d = refl
    ended-brought false d = refl

    ended-begins : (c : Bool) (d : ℕ) → begins (ended_event c) (Level d) ≡ 0
    ended-begins true d = refl
    ended-begins false d = refl

    ended-stays : (c : Bool) (d : ℕ) → 1 ≤ d → connected_by (ended_event c) (Level d) (connected pairs) ≡ connected pairs
    ended-stays c zero one = absurd (omega arith)
    ended-stays true (suc d) one = refl
    ended-stays false (suc d) one = refl

    ended-goes : (c : Bool) → connected_by (ended_event c) (Level 0) (connected pairs) ≡ without_client k (connected pairs)
    ended-goes true = refl
    ended-goes false = refl

    level-left : (c : Bool) (b : ℕ) (store' : Store) (link' : Link) → At (ended c k ∷ s.past) (links_of s.past) k n b store' link' → link'.depth ≡ depth_of k pairs - 1
    level-left c b store' link' at = depth_at (ended c k ∷ s.past) (links_of s.past) k n b store' link' at ∙ ended-depth c ∙ ap (λ d. d - 1) depth-same

    pub ends-stay : (c : Bool) (store' : Store) (h' : Holder) → h'.client ≡ h.client → held_of h' ≡ held_of h → At (ended c k ∷ s.past) (links_of s.past) k n (levels_begun pairs) store' h'.lent.raw → (d : ℕ) → d ≡ h'.lent.raw.depth → 1 ≤ d
        → (Level d ≡ answer first pairs (ended_event c)) × Stands core store' (ys ++ h' ∷ zs) line first (more (ended_event c) (Level d))
    ends-stay c store' h' same held at d is some =
        let deep = level-left c (levels_begun pairs) store' h'.lent.raw at in
        let high = depth-high in
        let fewer = ended-depth c in
        let now = depth_at (ended c k ∷ s.past) (links_of s.past) k n (levels_begun pairs) store' h'.lent.raw at in (
          ap (λ m. Level m) (is ∙ deep) ∙ sym (ended-due c),
          stepped (ended_event c) (Level d) (ended c k ∷ s.past) (levels_begun pairs) store' h' same held at
              (in_level (ended c k ∷ s.past) (levels_begun pairs) store' h' at (omega (arith, now, is, some)) (omega (arith, fewer, high)))
              (ended-stays c d some)
              (subst (λ (cs : List Change). AreAccepted (cs ++ history_of pairs)) (sym (ended-brought c d)) (ended-accepted c))
              (ended-stands c ∙ ap (λ (cs : List Change). valued first (standing (cs ++ history_of pairs))) (sym (ended-brought c d)))
              (let none = ended-begins c d in omega (arith, none)),
        )

    last-end : (c : Bool) → ((linked_after s.past).link k).depth ≡ 1 → (linked_after (ended c k ∷ s.past)).link k ≡ new_link
    last-end true one = last_commit s.past k one
    last-end false one = last_rollback s.past k one

    linked-depth : ((linked_after s.past).link k).depth ≡ depth_of k pairs
    linked-depth = sym (ap (λ (l : BracketLink). l.depth) (mine_is s.past store ys h zs s.links)) ∙ link-depth

    -- the link behind its client's last level rests
    pub ended-rests : (c : Bool) (b : ℕ) (store' : Store) (link' : Link) → At (ended c k ∷ s.past) (links_of s.past) k n b store' link' → link'.depth ≡ 0 → side_of link' ≡ new_link
    ended-rests c b store' link' at none =
        let deep = level-left c b store' link' at in
        let low = depth-low in
        let same = depth-same in
        at.side ∙ last-end c (let is = linked-depth in omega (arith, deep, none, low, same, is))

    -- the pool keeps the loan of a client whose link changed
    pub pool-same : (h' : Holder) → held_of h' ≡ held_of h → PoolStands first.max core (ys ++ h' ∷ zs)
    pool-same h' held = record {
      idle = s.pool.idle;
      pool = subst (λ (l : List OwnedConn). IsPool first.max core l s.pool.idle) (map-mid held_of ys h h' zs (sym held)) s.pool.pool;
      all = (let all = s.pool.all in let a = length-append ys (h' ∷ zs) in let a' = length-append ys (h ∷ zs) in omega (arith, all, a, a'));
      rests = s.pool.rests;
    }

    pub ends-leave : (c : Bool) (core' : Core Link) (store' : Store) (link' : Link) → At (ended c k ∷ s.past) (links_of s.past) k n (levels_begun pairs) store' link' → link'.depth ≡ 0 → PoolStands first.max core' (ys ++ zs)
        → (Level 0 ≡ answer first pairs (ended_event c)) × Stands core' store' (ys ++ zs) line first (more (ended_event c) (Level 0))
    ends-leave c core' store' link' at none pool =
        let deep = level-left c (levels_begun pairs) store' link' at in
        let low = depth-low in
        let same = depth-same in (
          ap (λ m. Level m) (sym none ∙ deep) ∙ sym (ended-due c),
          left (ended_event c) (Level 0) (ended c k ∷ s.past) (levels_begun pairs) core' store' link' at (last-end c (let is = linked-depth in omega (arith, deep, none, low, same, is))) pool
              (ended-goes c)
              (subst (λ (cs : List Change). AreAccepted (cs ++ history_of pairs)) (sym (ended-brought c 0)) (ended-accepted c))
              (ended-stands c ∙ ap (λ (cs : List Change). valued first (standing (cs ++ history_of pairs))) (sym (ended-brought c 0)))
              (let none' = ended-begins c 0 in omega (arith, none')),
        )

    -- ---- every level given up

    pub drops : (core' : Core Link) (store' : Store) (link' : Link) → (d : DropsAll (links_of s.past) k n (levels_begun pairs) first things store' link') → PoolStands first.max core' (ys ++ zs)
        → (Dropped ≡ answer first pairs (Drop k)) × Stands core' store' (ys ++ zs) line first (more (Drop k) Dropped)
    drops core' store' link' d pool = (
      ap (λ b. cond b Dropped NoConnection) (sym has),
      left (Drop k) Dropped d.after (levels_begun pairs) core' store' link' d.at d.rests pool refl (tt, s.accepted) d.stands (omega arith),
    )

    -- ---- a move

    abbrev pub move_of : Transfer → Event
    move_of t = Move k t.from t.to t.amount t.met

    -- where nobody else has a connection, the client's brackets are the only ones
    alone : n ≡ 0 → (other : ℕ) → (other == k) ≡ false → stands.depth_of other things ≡ 0
    alone none other apart =
        let flat = (at_of s.past store ys h zs s.links 0 (omega arith) (omega arith)).quiet none other apart in
        sym (depth-valued first other things) ∙ ap (stands.depth_of other) (sym s.stands) ∙ sym ((tells s.past).0 other) ∙ sym ((savepoints_read_alike s.past s.links.accepted).depths other) ∙ flat

    move-due : (t : Transfer) (c : Bool) → (depth k s.past == 100) ≡ c → answer first pairs (move_of t) ≡ cond c Deep (moved_reply t n (seen first k pairs t.from) (seen first k pairs t.to))
    move-due t c is =
        (λ i. cond (not (has i)) NoConnection (cond (depth_of k pairs == 100) Deep (cond (int_lt (seen first k pairs t.from) (pos t.amount)) Insufficient (cond (int_lt (pos greatest) (seen first k pairs t.to +ℤ pos t.amount)) Overflow (move_met t.met (others i))))))
        ∙ ap (λ b. cond b Deep (moved_reply t n (seen first k pairs t.from) (seen first k pairs t.to))) (ap (λ d. d == 100) (sym depth-same) ∙ is)

    -- a move that isn't made leaves all as it was
    unmoved : (t : Transfer) (reply : Reply) (new : History) (b : ℕ) (store' : Store) (h' : Holder) → h'.client ≡ h.client → held_of h' ≡ held_of h → At new (links_of s.past) k n b store' h'.lent.raw → levels_begun pairs ≤ b
        → standing new ≡ standing s.past → brought_about (move_of t) reply ≡ [] → connected_by (move_of t) reply (connected pairs) ≡ connected pairs → begins (move_of t) reply ≡ 0
        → Stands core store' (ys ++ h' ∷ zs) line first (more (move_of t) reply)
    unmoved t reply new b store' h' same held at low stands' none same_clients no_level =
        let deep : depth k new ≡ depth k s.past = (tells new).0 k ∙ ap (stands.depth_of k) stands' ∙ sym ((tells s.past).0 k) in
        let lo = depth-low in
        let hi = depth-high in
        stepped (move_of t) reply new b store' h' same held at (in_level new b store' h' at (omega (arith, deep, lo)) (omega (arith, deep, hi))) same_clients
        (subst (λ (cs : List Change). AreAccepted (cs ++ history_of pairs)) (sym none) s.accepted)
        (stands' ∙ s.stands ∙ ap (λ (cs : List Change). valued first (standing (cs ++ history_of pairs))) (sym none))
        (omega (arith, low, no_level))

    -- the values that were written are those that the amounts come to
    moved-stands : (t : Transfer) → n ≡ 0 → (t.from == t.to) ≡ false
        → moved_things Moved t (seen first k pairs t.from) (seen first k pairs t.to) k (standing s.past) ≡ valued first (standing (brought_about (move_of t) Moved ++ history_of pairs))
    moved-stands t none apart =
        let from_all : seen first k pairs t.from ≡ pos first.opening +ℤ all_in (pos t.from) things = ap (λ z. pos first.opening +ℤ z) (sums_stand k t.from (history_of pairs) ∙ all_seen k t.from things (alone none)) in
        let to_all : seen first k pairs t.to ≡ pos first.opening +ℤ all_in (pos t.to) things = ap (λ z. pos first.opening +ℤ z) (sums_stand k t.to (history_of pairs) ∙ all_seen k t.to things (alone none)) in
        let other : int_eq (pos t.to) (pos t.from) ≡ false = accounts-apart t.to t.from apart in
        let loss : seen first k pairs t.from -ℤ pos t.amount ≡ pos first.opening +ℤ (neg_ℤ (pos t.amount) +ℤ all_in (pos t.from) things) = less (seen first k pairs t.from) (pos first.opening) (all_in (pos t.from) things) t.amount from_all in
        let gain : seen first k pairs t.to +ℤ pos t.amount ≡ pos first.opening +ℤ (pos t.amount +ℤ (cond (int_eq (pos t.to) (pos t.from)) (neg_ℤ (pos t.amount)) (pos 0) +ℤ all_in (pos t.to) things)) =
        gained (seen first k pairs t.to) (pos first.opening) (all_in (pos t.to) things) t.amount to_all ∙ ap (λ c. pos first.opening +ℤ (pos t.amount +ℤ (cond c (neg_ℤ (pos t.amount)) (pos 0) +ℤ all_in (pos t.to) things))) (sym other) in
        λ i. stands.wrote k (pos t.to) (Some (gain i)) ∷ stands.wrote k (pos t.from) (Some (loss i)) ∷ s.stands i

    moved-accepted : (t : Transfer) → n ≡ 0 → AreAccepted (brought_about (move_of t) Moved ++ history_of pairs)
    moved-accepted t none =
        let one : History = writes k (pos t.from) (Some (neg_ℤ (pos t.amount))) ∷ history_of pairs in
        (λ other apart. (tells one).0 other ∙ alone none other apart, (λ other apart. (tells (history_of pairs)).0 other ∙ alone none other apart, s.accepted))

    moved : (t : Transfer) (new : History) (b : ℕ) (store' : Store) (h' : Holder) → h'.client ≡ h.client → held_of h' ≡ held_of h → At new (links_of s.past) k n b store' h'.lent.raw → levels_begun pairs + 1 ≤ b → n ≡ 0 → (t.from == t.to) ≡ false
        → standing new ≡ moved_things Moved t (seen first k pairs t.from) (seen first k pairs t.to) k (standing s.past) → Stands core store' (ys ++ h' ∷ zs) line first (more (move_of t) Moved)
    moved t new b store' h' same held at low none apart stands' =
        let deep : depth k new ≡ depth k s.past = (tells new).0 k ∙ ap (stands.depth_of k) stands' ∙ sym ((tells s.past).0 k) in
        let lo = depth-low in
        let hi = depth-high in
        stepped (move_of t) Moved new b store' h' same held at (in_level new b store' h' at (omega (arith, deep, lo)) (omega (arith, deep, hi))) refl (moved-accepted t none) (stands' ∙ moved-stands t none apart) low

    -- what the writes come to
    abbrev MetStands : Transfer → Reply → History → Store → Holder → Type 0
    MetStands t reply new store' h' = standing new ≡ moved_things reply t (seen first k pairs t.from) (seen first k pairs t.to) k (standing s.past) → Stands core store' (ys ++ h' ∷ zs) line first (more (move_of t) reply)

    met-stands : (t : Transfer) (new : History) (b : ℕ) (store' : Store) (h' : Holder) → h'.client ≡ h.client → held_of h' ≡ held_of h → At new (links_of s.past) k n b store' h'.lent.raw → levels_begun pairs + 1 ≤ b → (t.from == t.to) ≡ false
        → (met : Met) (m : ℕ) → m ≡ n → MetStands t (move_met met m) new store' h'
    met-stands t new b store' h' same held at low apart FirstRefused m is = λ e. unmoved t Fault new b store' h' same held at (omega (arith, low)) e refl refl refl
    met-stands t new b store' h' same held at low apart SecondRefused zero is = λ e. unmoved t Fault new b store' h' same held at (omega (arith, low)) e refl refl refl
    met-stands t new b store' h' same held at low apart Accepted zero is = λ e. moved t new b store' h' same held at low (sym is) apart e
    met-stands t new b store' h' same held at low apart SecondRefused (suc m) is =
        subst (λ c. MetStands t (cond c Busy Fault) new store' h') (sym (lt-ltb 0 (suc m) (omega arith))) (λ e. unmoved t Busy new b store' h' same held at (omega (arith, low)) e refl refl refl)
    met-stands t new b store' h' same held at low apart Accepted (suc m) is =
        subst (λ c. MetStands t (cond c Busy Moved) new store' h') (sym (lt-ltb 0 (suc m) (omega arith))) (λ e. unmoved t Busy new b store' h' same held at (omega (arith, low)) e refl refl refl)

    moved-or-not : (t : Transfer) (new : History) (b : ℕ) (store' : Store) (h' : Holder) → h'.client ≡ h.client → held_of h' ≡ held_of h → At new (links_of s.past) k n b store' h'.lent.raw → levels_begun pairs + 1 ≤ b → (t.from == t.to) ≡ false
        → (a c : Bool) → MetStands t (cond a Insufficient (cond c Overflow (move_met t.met n))) new store' h'
    moved-or-not t new b store' h' same held at low apart true c = λ e. unmoved t Insufficient new b store' h' same held at (omega (arith, low)) e refl refl refl
    moved-or-not t new b store' h' same held at low apart false true = λ e. unmoved t Overflow new b store' h' same held at (omega (arith, low)) e refl refl refl
    moved-or-not t new b store' h' same held at low apart false false = met-stands t new b store' h' same held at low apart t.met n refl

    pub moves : (t : Transfer) → IsOfBank first (move_of t) → (reply : Reply) (store' : Store) (h' : Holder) → h'.client ≡ h.client → held_of h' ≡ held_of h
        → MovesIf (depth k s.past == 100) s.past (links_of s.past) k n (levels_begun pairs) t (seen first k pairs t.from) (seen first k pairs t.to) reply store' h'.lent.raw
        → (reply ≡ answer first pairs (move_of t)) × Stands core store' (ys ++ h' ∷ zs) line first (more (move_of t) reply)
    moves t inside reply store' h' same held came = by (depth k s.past == 100) refl came
      where
        apart : (t.from == t.to) ≡ false
        apart = not_true (t.from == t.to) (and_parts (is_account first.accounts t.to) (not (t.from == t.to)) (and_parts (is_account first.accounts t.from) (is_account first.accounts t.to && not (t.from == t.to)) inside).1).1

        by : (c : Bool) → (depth k s.past == 100) ≡ c → MovesIf c s.past (links_of s.past) k n (levels_begun pairs) t (seen first k pairs t.from) (seen first k pairs t.to) reply store' h'.lent.raw
            → (reply ≡ answer first pairs (move_of t)) × Stands core store' (ys ++ h' ∷ zs) line first (more (move_of t) reply)
        by true is m = (
          m.0 ∙ sym (move-due t true is),
          subst (λ (r : Reply). Stands core store' (ys ++ h' ∷ zs) line first (more (move_of t) r)) (sym m.0) (unmoved t Deep s.past (levels_begun pairs) store' h' same held m.1 (omega arith) refl refl refl refl),
        )
        by false is m = (
          m.told ∙ sym (move-due t false is),
          subst (λ (r : Reply). Stands core store' (ys ++ h' ∷ zs) line first (more (move_of t) r)) (sym m.told)
              (moved-or-not t m.after (levels_begun pairs + 1) store' h' same held m.at (omega arith) apart (int_lt (seen first k pairs t.from) (pos t.amount)) (int_lt (pos greatest) (seen first k pairs t.to +ℤ pos t.amount))
              (subst (λ (r : Reply). standing m.after ≡ moved_things r t (seen first k pairs t.from) (seen first k pairs t.to) k (standing s.past)) m.told m.stands)),
        )

  -- ---- a client without a connection

  module _ (hs : List Holder) (k : ℕ) (s : Stands core store hs line first pairs) (none : is_among k (map client_of hs) ≡ false) where
    pub hasn't : has_connection k pairs ≡ false
    hasn't = ap (is_among k) (sym s.clients) ∙ none

    pub nothing-else : (event : Event) → brought_about event NoConnection ≡ [] → connected_by event NoConnection (connected pairs) ≡ connected pairs → begins event NoConnection ≡ 0 → answer first pairs event ≡ NoConnection
        → (NoConnection ≡ answer first pairs event) × Stands core store hs line first (more event NoConnection)
    nothing-else event quiet same no_level due = (sym due, kept hs s event NoConnection quiet same no_level)

    pub move-none : (x y a : ℕ) (met : Met) → (NoConnection ≡ answer first pairs (Move k x y a met)) × Stands core store hs line first (more (Move k x y a met) NoConnection)
    move-none x y a met = nothing-else (Move k x y a met) refl refl refl (ap (λ b. cond (not b) NoConnection (cond (depth_of k pairs == 100) Deep (cond (int_lt (seen first k pairs x) (pos a)) Insufficient (cond (int_lt (pos greatest) (seen first k pairs y +ℤ pos a)) Overflow (move_met met (others_connected k pairs)))))) hasn't)

    pub end-none : (c : Bool) → (NoConnection ≡ answer first pairs (ending k c)) × Stands core store hs line first (more (ending k c) NoConnection)
    end-none true = nothing-else (Commit k) refl refl refl (ap (λ b. cond b (Level (depth_of k pairs - 1)) NoConnection) hasn't)
    end-none false = nothing-else (Undo k) refl refl refl (ap (λ b. cond b (Level (depth_of k pairs - 1)) NoConnection) hasn't)

    pub drop-none : (NoConnection ≡ answer first pairs (Drop k)) × Stands core store hs line first (more (Drop k) NoConnection)
    drop-none = nothing-else (Drop k) refl refl refl (ap (λ b. cond b Dropped NoConnection) hasn't)

    all-others : others_connected k pairs ≡ length hs
    all-others = ap (count_by (λ other. not (other == k))) (sym s.clients) ∙ count_by-map client_of (λ other. not (other == k)) hs ∙ all-counted k hs (none_counted (is_of k) hs (uncounted (is_of k) hs (sym (among_is k hs) ∙ none)))

    new-depth : depth_of k pairs ≡ 0
    new-depth =
        let flat : ((linked_after s.past).link k).depth ≡ 0 = ap (λ (l : BracketLink). l.depth) (s.links.away k none) in
        (tells (history_of pairs)).0 k ∙ sym (depth-valued first k (standing (history_of pairs))) ∙ ap (stands.depth_of k) (sym s.stands) ∙ sym ((tells s.past).0 k) ∙ sym ((savepoints_read_alike s.past s.links.accepted).depths k) ∙ flat

    -- all connections are lent
    pub full : s.pool.idle ≡ [] → (core' : Core Link) → IsPool first.max core' (map held_of hs) s.pool.idle → (Full ≡ answer first pairs (Start k)) × Stands core' store hs line first (more (Start k) Full)
    full empty' core' pool' =
        let after' = kept hs s (Start k) Full refl refl refl in
        let all = s.pool.all in
        let zero' : length s.pool.idle ≡ 0 = ap (λ l. length l) empty' in (
          sym (ap (λ b. cond (not b && nat_le first.max (others_connected k pairs)) Full (cond (depth_of k pairs == 100) Deep (Level (depth_of k pairs + 1)))) hasn't
              ∙ ap (λ m. cond (nat_le first.max m) Full (cond (depth_of k pairs == 100) Deep (Level (depth_of k pairs + 1)))) all-others
              ∙ ap (λ b. cond b Full (cond (depth_of k pairs == 100) Deep (Level (depth_of k pairs + 1)))) (le-leb first.max (length hs) (omega (arith, all, zero')))),
          record {
            set_up = after'.set_up;
            past = after'.past;
            links = after'.links;
            pool = record { idle = s.pool.idle; pool = pool'; all = s.pool.all; rests = s.pool.rests };
            accepted = after'.accepted;
            stands = after'.stands;
            clients = after'.clients;
            begun = after'.begun;
          },
        )

    -- one is lent, and a level begun
    pub taken : (core' : Core Link) (store' : Store) (h' : Holder) → h'.client ≡ k → k < 2 ^ 32 → 1 ≤ length s.pool.idle → PoolStands first.max core' (hs ++ h' ∷ []) → At (opens k ∷ s.past) (links_of s.past) k (length hs) (levels_begun pairs + 1) store' h'.lent.raw
        → (Level 1 ≡ answer first pairs (Start k)) × Stands core' store' (hs ++ h' ∷ []) line first (more (Start k) (Level 1))
    taken core' store' h' same small room pool at =
        let all = s.pool.all in
        let few : nat_le first.max (length hs) ≡ false = lt-leb first.max (length hs) (omega (arith, all, room)) in
        let due : answer first pairs (Start k) ≡ Level 1 =
        ap (λ b. cond (not b && nat_le first.max (others_connected k pairs)) Full (cond (depth_of k pairs == 100) Deep (Level (depth_of k pairs + 1)))) hasn't
        ∙ ap (λ m. cond (nat_le first.max m) Full (cond (depth_of k pairs == 100) Deep (Level (depth_of k pairs + 1)))) all-others
        ∙ ap (λ b. cond b Full (cond (depth_of k pairs == 100) Deep (Level (depth_of k pairs + 1)))) few
        ∙ ap (λ d. cond (d == 100) Deep (Level (d + 1))) new-depth in
        let opened' : depth k (opens k ∷ s.past) ≡ suc (depth k s.past) = (tells (opens k ∷ s.past)).0 k ∙ ap (λ b. cond b (suc (stands.depth_of k (standing s.past))) (stands.depth_of k (standing s.past))) (eq-eqb k k refl) ∙ ap suc (sym ((tells s.past).0 k)) in
        let flat : depth k s.past ≡ 0 = sym ((savepoints_read_alike s.past s.links.accepted).depths k) ∙ ap (λ (l : BracketLink). l.depth) (s.links.away k none) in
        let now = depth_at (opens k ∷ s.past) (links_of s.past) k (length hs) (levels_begun pairs + 1) store' h'.lent.raw at in
        let none' = new-depth in (
          sym due,
          record {
            set_up = s.set_up;
            past = opens k ∷ s.past;
            links = links_taken s.past store hs k s.links none (opens k ∷ s.past) (levels_begun pairs + 1) store' h' same small at (omega (arith, now, opened', flat), omega (arith, now, opened', flat));
            pool = pool;
            accepted = subst AreAccepted (sym (history_of-push pairs (Start k, Level 1))) (omega (arith, none'), s.accepted);
            stands = ap (λ (l : List Standing). stands.opened k ∷ l) s.stands ∙ ap (λ (x : History). valued first (standing x)) (sym (history_of-push pairs (Start k, Level 1)));
            clients = map-append client_of hs (h' ∷ []) ∙ (λ i. s.clients i ++ same i ∷ []) ∙ sym (connected-push pairs (Start k, Level 1) ∙ ap (λ b. cond b (connected pairs) (connected pairs ++ k ∷ [])) hasn't);
            begun = (let low = at.begun in let push = levels-push pairs (Start k, Level 1) in omega (arith, low, push));
          },
        )
