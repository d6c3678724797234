-- The pool's connections, as one is lent and one comes back; and the holders of connections by their places.
use Rattle.std.proofs.Common.{◌≡◌, ℕ, zero, suc, ◌<◌, ◌≤◌, ◌==◌, false, List, [], ◌∷◌, ◌++◌, map, length, take, drop, get_or, slice_set, All, refl, sym, ap, subst, ◌∙◌, arith, length-append}
use Rattle.std.proofs.lemmas.List.{map-append}
use Rattle.std.proofs.lemmas.List.Elements.{All-head, All-tail, All-push}
use Rattle.sqlx_savepoints.specs.Links.{new_link}
use Rattle.sqlx_pool_lists.specs.Core.{Core}
use Rattle.sqlx_pool_lists.specs.declared.steps.Idle.{Idle}
use Rattle.sqlx_pool_lists.specs.declared.steps.Lent.{Lent}
use Rattle.sqlx_pool_lists.specs.declared.ticket.OwnedConn.{OwnedConn}
use Rattle.mem_store.specs.Store.{Link}
use Rattle.sqlx_play.specs.stage.LinksStand.{side_of}
use Rattle.sqlx_transfer.specs.declared.holder.Holder.{Holder}
use Rattle.sqlx_transfer.specs.Pool.{IsPool, LendsFirst, TakesBack, loan_to}
use Rattle.sqlx_transfer.specs.Stands.{held_of, client_of, PoolStands, HasPlace}
use Rattle.sqlx_transfer_rules.specs.Transfers.{is_among}
use Rattle.std.proofs.lemmas.List.{length-take-le}
use Rattle.std.specs.List.{remove}
use Rattle.std.specs.Prelude.{slice_index_or, ◌||◌}

-- an idle connection has no level
abbrev Resting : Idle Link → Type 0
Resting i = side_of i.lent.raw ≡ new_link

-- the pool by the loan in the middle
pub pool_held : (max : ℕ) (core : Core Link) (ys : List Holder) (h : Holder) (zs : List Holder) → (p : PoolStands max core (ys ++ h ∷ zs)) → IsPool max core (map held_of ys ++ held_of h ∷ map held_of zs) p.idle
pool_held max core ys h zs p = subst (λ (l : List OwnedConn). IsPool max core l p.idle) (map-append held_of ys (h ∷ zs)) p.pool

-- a connection came back
pub pool_given : (max : ℕ) (core core' : Core Link) (ys : List Holder) (h : Holder) (zs : List Holder) (lent : Lent Link) → (p : PoolStands max core (ys ++ h ∷ zs)) → TakesBack max core' (map held_of ys ++ map held_of zs) p.idle lent → side_of lent.raw ≡ new_link → PoolStands max core' (ys ++ zs)
pool_given max core core' ys h zs lent p t rests = record {
  idle = p.idle ++ t.entry ∷ [];
  pool = subst (λ (l : List OwnedConn). IsPool max core' l (p.idle ++ t.entry ∷ [])) (sym (map-append held_of ys zs)) t.pool;
  all = (let all = p.all in let a = length-append ys (h ∷ zs) in let b = length-append ys zs in let c = length-append p.idle (t.entry ∷ []) in omega (arith, all, a, b, c));
  rests = All-push Resting p.idle t.entry p.rests (ap side_of t.is ∙ rests);
}

-- the connection that was lent has no level
pub lent_rests : (max k : ℕ) (core core' : Core Link) (hs : List Holder) (lent : Lent Link) → (p : PoolStands max core hs) → LendsFirst max k core' (map held_of hs) p.idle lent → side_of lent.raw ≡ new_link
lent_rests max k core core' hs lent p l = ap (λ (x : Lent Link). side_of x.raw) l.is ∙ All-head Resting l.entry l.rest (subst (All Resting) l.first p.rests)

pub some_idle : (max k : ℕ) (core core' : Core Link) (hs : List Holder) (lent : Lent Link) → (p : PoolStands max core hs) → LendsFirst max k core' (map held_of hs) p.idle lent → 1 ≤ length p.idle
some_idle max k core core' hs lent p l = let is : length p.idle ≡ suc (length l.rest) = ap (λ x. length x) l.first in omega (arith, is)

-- a connection was lent
pub pool_lent : (max k : ℕ) (core core' : Core Link) (hs : List Holder) (lent : Lent Link) (h : Holder) → (p : PoolStands max core hs) → LendsFirst max k core' (map held_of hs) p.idle lent → held_of h ≡ loan_to k lent → PoolStands max core' (hs ++ h ∷ [])
pool_lent max k core core' hs lent h p l is = record {
  idle = l.rest;
  pool = subst (λ (x : List OwnedConn). IsPool max core' x l.rest) (ap (λ (o : OwnedConn). map held_of hs ++ o ∷ []) (sym is) ∙ sym (map-append held_of hs (h ∷ []))) l.pool;
  all = (let all = p.all in let a = length-append hs (h ∷ []) in let b : length p.idle ≡ suc (length l.rest) = ap (λ x. length x) l.first in omega (arith, all, a, b));
  rests = All-tail Resting l.entry l.rest (subst (All Resting) l.first p.rests);
}

-- ---- places

-- a list by one of its elements
split_at : (hs : List Holder) (i : ℕ) (d : Holder) → i < length hs → hs ≡ take i hs ++ get_or hs i d ∷ drop (suc i) hs
split_at [] i d few = absurd (omega arith)
split_at (h ∷ hs) zero d few = refl
split_at (h ∷ hs) (suc i) d few = ap (λ (l : List Holder). h ∷ l) (split_at hs i d (omega arith))

pub set_mid : (ys : List Holder) (h h' : Holder) (zs : List Holder) → slice_set (ys ++ h ∷ zs) (length ys) h' ≡ ys ++ h' ∷ zs
set_mid [] h h' zs = refl
set_mid (y ∷ ys) h h' zs = ap (λ (l : List Holder). y ∷ l) (set_mid ys h h' zs)

pub index_mid : (ys : List Holder) (h : Holder) (zs : List Holder) (d : Holder) → slice_index_or (ys ++ h ∷ zs) (length ys) d ≡ h
index_mid [] h zs d = refl
index_mid (y ∷ ys) h zs d = index_mid ys h zs d

pub remove_mid : (ys : List Holder) (h : Holder) (zs : List Holder) → remove (ys ++ h ∷ zs) (length ys) ≡ ys ++ zs
remove_mid [] h zs = refl
remove_mid (y ∷ ys) h zs = ap (λ (l : List Holder). y ∷ l) (remove_mid ys h zs)

-- the client's place, by what stands there
pub has_place : (hs : List Holder) (k i : ℕ) (d : Holder) → i < length hs → (get_or hs i d).client ≡ k → HasPlace hs k i
has_place hs k i d few is = record {
  before = take i hs;
  own = get_or hs i d;
  after = drop (suc i) hs;
  whole = split_at hs i d few;
  place' = length-take-le i hs (omega (arith, few));
  is = is;
}

-- no client is there
pub not_among : (k : ℕ) (hs : List Holder) → All (λ h. (h.client == k) ≡ false) hs → is_among k (map client_of hs) ≡ false
not_among k [] none = refl
not_among k (h ∷ hs) none = (λ i. All-head (λ (x : Holder). (x.client == k) ≡ false) h hs none i || is_among k (map client_of hs)) ∙ not_among k hs (All-tail (λ (x : Holder). (x.client == k) ≡ false) h hs none)
