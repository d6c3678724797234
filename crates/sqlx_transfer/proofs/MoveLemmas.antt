-- The writes of a move, and what stands behind its level.
use Rattle.std.proofs.Common.{◌≡◌, ℕ, zero, suc, ◌≤◌, ◌==◌, ℤ, pos, ◌+ℤ◌, ◌-ℤ◌, int_lt, Bool, true, false, cond, Option, Some, List, ◌∷◌, refl, sym, ap, subst, ◌∙◌, eq-eqb, lt-ltb, nat_lt, arith}
use Rattle.sqlx_savepoints.specs.Changes.{History, opens, writes, rolls_back}
use Rattle.sqlx_savepoints.specs.Brackets.{depth, value}
use Rattle.sqlx_savepoints.specs.Standing.{Standing, opened, wrote, is_zero, depth_of, value_of, struck, cut, after, standing}
use Rattle.sqlx_savepoints.specs.Links.{Link as BracketLink}
use Rattle.sqlx_savepoints.proofs.Tells.{tells}
use Rattle.mem_store.specs.Store.{Store, Link}
use Rattle.sqlx_transfer_rules.specs.declared.event.Met.{Met}
use Rattle.sqlx_transfer_rules.specs.declared.event.Met.TheVariants.{Accepted, FirstRefused, SecondRefused}
use Rattle.sqlx_transfer_rules.specs.declared.reply.Reply.{Reply}
use Rattle.sqlx_transfer_rules.specs.declared.reply.Reply.TheVariants.{Insufficient, Overflow, Moved, Fault, Busy as BusyReply}
use Rattle.sqlx_transfer_rules.specs.Rules.{greatest, move_met}
use Rattle.sqlx_transfer.specs.declared.level.Written.{Written}
use Rattle.sqlx_transfer.specs.declared.level.Written.TheVariants.{Done, Refused, Busy}
use Rattle.sqlx_transfer.specs.declared.moving.Transfer.{Transfer}
use Rattle.sqlx_transfer.specs.At.{At, Puts}
use Rattle.sqlx_transfer.specs.Moving.{refuses_first, refuses_second, both_past, moved_reply, choice_past, end_of, moved_things}

-- ---- the two writes

abbrev Both : Met → ℕ → ℕ → ℤ → ℤ → ℤ → ℤ → History → (ℕ → BracketLink) → ℕ → Reply → Store → Link → Type 0
Both met n k x less y more past o b reply store link = (reply ≡ move_met met n) × At (both_past met n k x less y more past) o k n b store link

-- where another link has a level open
busy_said : (n : ℕ) (other : Reply) → 1 ≤ n → BusyReply ≡ cond (nat_lt 0 n) BusyReply other
busy_said n other one = ap (λ c. cond c BusyReply other) (sym (lt-ltb 0 n one))

pub first_refused : (met : Met) (n k : ℕ) (x less y more : ℤ) (past : History) (o : ℕ → BracketLink) (b : ℕ) (told : Written) (store : Store) (link : Link) → told ≡ Refused → Puts (refuses_first met) x less past o k n b told store link → Both met n k x less y more past o b Fault store link
first_refused FirstRefused n k x less y more past o b told store link is put = (refl, put.1)
first_refused SecondRefused zero k x less y more past o b told store link is put = absurd (let bad : Refused ≡ Done = sym is ∙ put.0 in cc)
first_refused SecondRefused (suc n) k x less y more past o b told store link is put = absurd (let bad : Refused ≡ Busy = sym is ∙ put.0 in cc)
first_refused Accepted zero k x less y more past o b told store link is put = absurd (let bad : Refused ≡ Done = sym is ∙ put.0 in cc)
first_refused Accepted (suc n) k x less y more past o b told store link is put = absurd (let bad : Refused ≡ Busy = sym is ∙ put.0 in cc)

pub first_busy : (met : Met) (n k : ℕ) (x less y more : ℤ) (past : History) (o : ℕ → BracketLink) (b : ℕ) (told : Written) (store : Store) (link : Link) → told ≡ Busy → Puts (refuses_first met) x less past o k n b told store link → Both met n k x less y more past o b BusyReply store link
first_busy FirstRefused n k x less y more past o b told store link is put = absurd (let bad : Busy ≡ Refused = sym is ∙ put.0 in cc)
first_busy SecondRefused zero k x less y more past o b told store link is put = absurd (let bad : Busy ≡ Done = sym is ∙ put.0 in cc)
first_busy SecondRefused (suc n) k x less y more past o b told store link is put = (busy_said (suc n) Fault (omega arith), put.1)
first_busy Accepted zero k x less y more past o b told store link is put = absurd (let bad : Busy ≡ Done = sym is ∙ put.0 in cc)
first_busy Accepted (suc n) k x less y more past o b told store link is put = (busy_said (suc n) Moved (omega arith), put.1)

-- the reply by what came of the second write
abbrev pub said_of : Written → Reply
said_of Refused = Fault
said_of Busy = BusyReply
said_of Done = Moved

pub second : (met : Met) (n k : ℕ) (x less y more : ℤ) (past : History) (o : ℕ → BracketLink) (b : ℕ) (told then : Written) (store : Store) (link : Link) (store' : Store) (link' : Link) → told ≡ Done → Puts (refuses_first met) x less past o k n b told store link
    → ((now : History) → At now o k n b store link → Puts (refuses_second met) y more now o k n b then store' link') → Both met n k x less y more past o b (said_of then) store' link'
second FirstRefused n k x less y more past o b told then store link store' link' is put next = absurd (let bad : Done ≡ Refused = sym is ∙ put.0 in cc)
second SecondRefused zero k x less y more past o b told then store link store' link' is put next = let done = next (writes k x (Some less) ∷ past) put.1 in (ap said_of done.0, done.1)
second SecondRefused (suc n) k x less y more past o b told then store link store' link' is put next = absurd (let bad : Done ≡ Busy = sym is ∙ put.0 in cc)
second Accepted zero k x less y more past o b told then store link store' link' is put next = let done = next (writes k x (Some less) ∷ past) put.1 in (ap said_of done.0, done.1)
second Accepted (suc n) k x less y more past o b told then store link store' link' is put next = absurd (let bad : Done ≡ Busy = sym is ∙ put.0 in cc)

-- ---- the choice

abbrev Chosen : Transfer → ℕ → ℤ → ℤ → ℕ → History → (ℕ → BracketLink) → ℕ → Reply → Store → Link → Type 0
Chosen t n from to k past o b reply store link = (reply ≡ moved_reply t n from to) × At (choice_past t n from to k past) o k n b store link

pub too_little : (t : Transfer) (n : ℕ) (from to : ℤ) (k : ℕ) (past : History) (o : ℕ → BracketLink) (b : ℕ) (store : Store) (link : Link) → int_lt from (pos t.amount) ≡ true → At past o k n b store link → Chosen t n from to k past o b Insufficient store link
too_little t n from to k past o b store link is at =
    subst (λ c. (Insufficient ≡ cond c Insufficient (cond (int_lt (pos greatest) (to +ℤ pos t.amount)) Overflow (move_met t.met n)))
    × At (cond c past (cond (int_lt (pos greatest) (to +ℤ pos t.amount)) past (both_past t.met n k (pos t.from) (from -ℤ pos t.amount) (pos t.to) (to +ℤ pos t.amount) past))) o k n b store link) (sym is) (refl, at)

pub too_much : (t : Transfer) (n : ℕ) (from to : ℤ) (k : ℕ) (past : History) (o : ℕ → BracketLink) (b : ℕ) (store : Store) (link : Link) → int_lt from (pos t.amount) ≡ false → int_lt (pos greatest) (to +ℤ pos t.amount) ≡ true → At past o k n b store link → Chosen t n from to k past o b Overflow store link
too_much t n from to k past o b store link enough is at =
    subst (λ c. (Overflow ≡ cond c Insufficient (cond (int_lt (pos greatest) (to +ℤ pos t.amount)) Overflow (move_met t.met n)))
    × At (cond c past (cond (int_lt (pos greatest) (to +ℤ pos t.amount)) past (both_past t.met n k (pos t.from) (from -ℤ pos t.amount) (pos t.to) (to +ℤ pos t.amount) past))) o k n b store link) (sym enough)
    (subst (λ c. (Overflow ≡ cond c Overflow (move_met t.met n)) × At (cond c past (both_past t.met n k (pos t.from) (from -ℤ pos t.amount) (pos t.to) (to +ℤ pos t.amount) past)) o k n b store link) (sym is) (refl, at))

pub fits : (t : Transfer) (n : ℕ) (from to : ℤ) (k : ℕ) (past : History) (o : ℕ → BracketLink) (b : ℕ) (reply : Reply) (store : Store) (link : Link) → int_lt from (pos t.amount) ≡ false → int_lt (pos greatest) (to +ℤ pos t.amount) ≡ false
    → Both t.met n k (pos t.from) (from -ℤ pos t.amount) (pos t.to) (to +ℤ pos t.amount) past o b reply store link → Chosen t n from to k past o b reply store link
fits t n from to k past o b reply store link enough room both =
    subst (λ c. (reply ≡ cond c Insufficient (cond (int_lt (pos greatest) (to +ℤ pos t.amount)) Overflow (move_met t.met n)))
    × At (cond c past (cond (int_lt (pos greatest) (to +ℤ pos t.amount)) past (both_past t.met n k (pos t.from) (from -ℤ pos t.amount) (pos t.to) (to +ℤ pos t.amount) past))) o k n b store link) (sym enough)
    (subst (λ c. (reply ≡ cond c Overflow (move_met t.met n)) × At (cond c past (both_past t.met n k (pos t.from) (from -ℤ pos t.amount) (pos t.to) (to +ℤ pos t.amount) past)) o k n b store link) (sym room) both)

-- ---- what stands in the level, and behind it

pub value_within : (past : History) (k : ℕ) (key v : ℤ) → value_of k key (standing past) ≡ Some v → value k key (opens k ∷ past) ≡ Some v
value_within past k key v is = (tells (opens k ∷ past)).1 k key ∙ is

own : (k : ℕ) → (k == k) ≡ true
own k = eq-eqb k k refl

-- what stands in the level: nothing more, one value or two
abbrev InLevel : History → ℕ → List Standing → Type 0
InLevel now k things = (1 ≤ depth k now) × (after (standing now) (rolls_back k) ≡ things)

opened_once : (past : History) (k : ℕ) → InLevel (opens k ∷ past) k (standing past)
opened_once past k =
    let things : List Standing = standing past in
    let deep : depth k (opens k ∷ past) ≡ suc (depth_of k things) = (tells (opens k ∷ past)).0 k ∙ ap (λ b. cond b (suc (depth_of k things)) (depth_of k things)) (own k) in (
      omega (arith, deep),
      λ i. cond (is_zero (cond (own k i) (suc (depth_of k things)) (depth_of k things))) (opened k ∷ things) (cond (own k i) things (cond (k == k) (cut k things) (opened k ∷ cut k things))),
    )

written_once : (past : History) (k : ℕ) (x : ℤ) (v : Option ℤ) → InLevel (writes k x v ∷ opens k ∷ past) k (standing past)
written_once past k x v =
    let things : List Standing = standing past in
    let deep : depth k (writes k x v ∷ opens k ∷ past) ≡ suc (depth_of k things) = (tells (writes k x v ∷ opens k ∷ past)).0 k ∙ ap (λ b. cond b (suc (depth_of k things)) (depth_of k things)) (own k) in (
      omega (arith, deep),
      λ i. cond (is_zero (cond (own k i) (suc (depth_of k things)) (depth_of k things))) (wrote k x v ∷ opened k ∷ things)
          (cond (own k i) (cond (own k i) things (cond (k == k) (cut k things) (opened k ∷ cut k things))) (wrote k x v ∷ cond (k == k) things (cond (k == k) (cut k things) (opened k ∷ cut k things)))),
    )

-- what stands behind the level
abbrev Ends : Reply → Transfer → ℤ → ℤ → ℕ → History → History → Type 0
Ends reply t from to k past now = (1 ≤ depth k now) × (standing (end_of reply k ∷ now) ≡ moved_things reply t from to k (standing past))

ends_both : (t : Transfer) (n : ℕ) (from to : ℤ) (k : ℕ) (past : History) (met : Met) → Ends (move_met met n) t from to k past (both_past met n k (pos t.from) (from -ℤ pos t.amount) (pos t.to) (to +ℤ pos t.amount) (opens k ∷ past))
ends_both t n from to k past FirstRefused = opened_once past k
ends_both t zero from to k past SecondRefused = written_once past k (pos t.from) (Some (from -ℤ pos t.amount))
ends_both t (suc n) from to k past SecondRefused = subst (λ (r : Reply). Ends r t from to k past (opens k ∷ past)) (busy_said (suc n) Fault (omega arith)) (opened_once past k)
ends_both t (suc n) from to k past Accepted = subst (λ (r : Reply). Ends r t from to k past (opens k ∷ past)) (busy_said (suc n) Moved (omega arith)) (opened_once past k)
ends_both t zero from to k past Accepted =
    let things : List Standing = standing past in
    let first : Standing = wrote k (pos t.from) (Some (from -ℤ pos t.amount)) in
    let second' : Standing = wrote k (pos t.to) (Some (to +ℤ pos t.amount)) in
    let now : History = writes k (pos t.to) (Some (to +ℤ pos t.amount)) ∷ writes k (pos t.from) (Some (from -ℤ pos t.amount)) ∷ opens k ∷ past in
    let deep : depth k now ≡ suc (depth_of k things) = (tells now).0 k ∙ ap (λ b. cond b (suc (depth_of k things)) (depth_of k things)) (own k) in
    (omega (arith, deep), λ i. second' ∷ first ∷ cond (own k i) things (opened k ∷ struck k things))

pub ends : (t : Transfer) (n : ℕ) (from to : ℤ) (k : ℕ) (past : History) → Ends (moved_reply t n from to) t from to k past (choice_past t n from to k (opens k ∷ past))
ends t n from to k past = by (int_lt from (pos t.amount)) (int_lt (pos greatest) (to +ℤ pos t.amount))
  where
    by : (a c : Bool) → Ends (cond a Insufficient (cond c Overflow (move_met t.met n))) t from to k past (cond a (opens k ∷ past) (cond c (opens k ∷ past) (both_past t.met n k (pos t.from) (from -ℤ pos t.amount) (pos t.to) (to +ℤ pos t.amount) (opens k ∷ past))))
    by true c = opened_once past k
    by false true = opened_once past k
    by false false = ends_both t n from to k past t.met
