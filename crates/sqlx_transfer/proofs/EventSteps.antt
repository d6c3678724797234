-- The steps of an event on a client's connection.
use Rattle.std.proofs.Common.{◌≡◌, ℤ, ℕ, ◌+◌, ◌-◌, ◌≤◌, ◌==◌, List, ◌∷◌, refl, sym, ap, subst, ◌∙◌, eq-eqb, ne_eqb, arith}
use Rattle.std.specs.Prelude.{◌≢◌}
use Rattle.sqlx_savepoints.specs.Changes.{History, opens, rolls_back}
use Rattle.sqlx_savepoints.specs.Brackets.{depth}
use Rattle.sqlx_savepoints.specs.Standing.{Standing, depth_of, cleared, after, standing}
use Rattle.sqlx_savepoints.specs.Links.{linked_after, new_link}
use Rattle.sqlx_savepoints.specs.Links.{Link as BracketLink}
use Rattle.sqlx_savepoints.proofs.StoreOf.{IsQuiet, after_quiet}
use Rattle.sqlx_savepoints.proofs.Tells.{tells}
use Rattle.sqlx_savepoints.proofs.Linking.{savepoints_read_alike}
use Rattle.mem_store.specs.Store.{Store, Link}
use Rattle.sqlx_transfer_rules.specs.declared.bank_line.BankLine.{BankLine}
use Rattle.sqlx_transfer_rules.specs.declared.reply.Reply.{Reply}
use Rattle.sqlx_transfer_rules.specs.declared.reply.Reply.TheVariants.{Deep, Level}
use Rattle.sqlx_transfer_rules.specs.Values.{valued}
use Rattle.sqlx_transfer_rules.proofs.ValueLemmas.{depth-valued, rolled-valued, cleared-none, cleared-rolled}
use Rattle.sqlx_transfer.specs.declared.moving.Transfer.{Transfer}
use Rattle.sqlx_transfer.specs.At.{At}
use Rattle.sqlx_transfer.specs.Moving.{Moves}
use Rattle.sqlx_transfer.specs.BankSteps.{Starts, MovesIf, DropsAll}
use Rattle.sqlx_transfer.proofs.Depths.{depth-rolled, last_rollback}

-- the link's depth is that of brackets
pub depth_at : (past : History) (o : ℕ → BracketLink) (k n b : ℕ) (store : Store) (link : Link) → At past o k n b store link → link.depth ≡ depth k past
depth_at past o k n b store link at = ap (λ l. l.depth) at.side ∙ (savepoints_read_alike past at.accepted).depths k

pub starts_deep : (past : History) (o : ℕ → BracketLink) (k n b : ℕ) (store : Store) (link : Link) → At past o k n b store link → link.depth ≡ 100 → Starts (depth k past == 100) past o k n b Deep store link
starts_deep past o k n b store link at full = subst (λ c. Starts c past o k n b Deep store link) (sym (eq-eqb (depth k past) 100 (sym (depth_at past o k n b store link at) ∙ full))) (refl, at)

pub starts_level : (past : History) (o : ℕ → BracketLink) (k n b d : ℕ) (store store' : Store) (link link' : Link) → At past o k n b store link → d ≡ link.depth → d ≢ 100 → At (opens k ∷ past) o k n (b + 1) store' link' → Starts (depth k past == 100) past o k n b (Level (d + 1)) store' link'
starts_level past o k n b d store store' link link' at is room now =
    let same = depth_at past o k n b store link at in
    subst (λ c. Starts c past o k n b (Level (d + 1)) store' link') (sym (ne_eqb (depth k past) 100 (λ e. room (is ∙ same ∙ e)))) (ap (λ m. Level (m + 1)) (is ∙ same), now)

pub moves_deep : (past : History) (o : ℕ → BracketLink) (k n b : ℕ) (t : Transfer) (from to : ℤ) (store : Store) (link : Link) → At past o k n b store link → link.depth ≡ 100 → MovesIf (depth k past == 100) past o k n b t from to Deep store link
moves_deep past o k n b t from to store link at full = subst (λ c. MovesIf c past o k n b t from to Deep store link) (sym (eq-eqb (depth k past) 100 (sym (depth_at past o k n b store link at) ∙ full))) (refl, at)

pub moves_shallow : (past : History) (o : ℕ → BracketLink) (k n b : ℕ) (t : Transfer) (from to : ℤ) (reply : Reply) (store store' : Store) (link link' : Link) → At past o k n b store link → link.depth ≢ 100 → Moves past o k n b t from to reply store' link' → MovesIf (depth k past == 100) past o k n b t from to reply store' link'
moves_shallow past o k n b t from to reply store store' link link' at room moved =
    subst (λ c. MovesIf c past o k n b t from to reply store' link') (sym (ne_eqb (depth k past) 100 (λ e. room (depth_at past o k n b store link at ∙ e)))) moved

-- ---- levels given up, one by one

-- So far some levels were given up, and to clear what is left comes to the same.
pub record Dropping (o : ℕ → BracketLink) (k n b : ℕ) (line : BankLine) (things : List Standing) (store : Store) (link : Link) : Type 0 where
  pub past : History
  pub left : List Standing
  pub at : At past o k n b store link
  pub stands : standing past ≡ valued line left
  pub quiet : IsQuiet left
  pub clears : cleared k left ≡ cleared k things
  pub rests : link.depth ≡ 0 → (linked_after past).link k ≡ new_link

-- the depth of what is left
depth_left : (line : BankLine) (past : History) (left : List Standing) (o : ℕ → BracketLink) (k n b : ℕ) (store : Store) (link : Link) → At past o k n b store link → standing past ≡ valued line left → depth_of k left ≡ link.depth
depth_left line past left o k n b store link at stands = sym (depth-valued line k left) ∙ ap (depth_of k) (sym stands) ∙ sym ((tells past).0 k) ∙ sym (depth_at past o k n b store link at)

pub dropping : (past : History) (o : ℕ → BracketLink) (k n b : ℕ) (line : BankLine) (things : List Standing) (store : Store) (link : Link) → At past o k n b store link → 1 ≤ depth k past → standing past ≡ valued line things → IsQuiet things → Dropping o k n b line things store link
dropping past o k n b line things store link at one stands quiet = record {
  past = past;
  left = things;
  at = at;
  stands = stands;
  quiet = quiet;
  clears = refl;
  rests = λ none. absurd (let same = depth_at past o k n b store link at in omega (arith, same, one, none));
}

pub drops_one : (o : ℕ → BracketLink) (k n b : ℕ) (line : BankLine) (things : List Standing) (store store' : Store) (link link' : Link) → (d : Dropping o k n b line things store link) → 1 ≤ link.depth → At (rolls_back k ∷ d.past) o k n b store' link' → Dropping o k n b line things store' link'
drops_one o k n b line things store store' link link' d one at =
    let deep = depth_left line d.past d.left o k n b store link d.at d.stands in
    let stands : standing (rolls_back k ∷ d.past) ≡ valued line (after d.left (rolls_back k)) = ap (λ (l : List Standing). after l (rolls_back k)) d.stands ∙ rolled-valued line k d.left d.quiet (omega (arith, deep, one)) in
    let before : link.depth ≡ ((linked_after d.past).link k).depth = ap (λ l. l.depth) d.at.side in
    let now = depth_left line (rolls_back k ∷ d.past) (after d.left (rolls_back k)) o k n b store' link' at stands in
    let fewer = depth-rolled k d.left in
    record {
      past = rolls_back k ∷ d.past;
      left = after d.left (rolls_back k);
      at = at;
      stands = stands;
      quiet = after_quiet d.left (rolls_back k) d.quiet (λ c key value e. absurd cc);
      clears = cleared-rolled k d.left (omega (arith, deep, one)) ∙ d.clears;
      rests = λ none. last_rollback d.past k (omega (arith, before, deep, now, fewer, none, one));
    }

pub dropped : (o : ℕ → BracketLink) (k n b : ℕ) (line : BankLine) (things : List Standing) (store : Store) (link : Link) → Dropping o k n b line things store link → link.depth ≡ 0 → DropsAll o k n b line things store link
dropped o k n b line things store link d none = record {
  after = d.past;
  at = d.at;
  stands = d.stands ∙ ap (valued line) (sym (cleared-none k d.left (depth_left line d.past d.left o k n b store link d.at d.stands ∙ none)) ∙ d.clears);
  rests = d.rests none;
}

-- one level fewer is open
pub drop_depth : (o : ℕ → BracketLink) (k n b : ℕ) (line : BankLine) (things : List Standing) (store store' : Store) (link link' : Link) → (d : Dropping o k n b line things store link) → 1 ≤ link.depth → At (rolls_back k ∷ d.past) o k n b store' link' → link'.depth ≡ link.depth - 1
drop_depth o k n b line things store store' link link' d one at =
    let deep = depth_left line d.past d.left o k n b store link d.at d.stands in
    let stands : standing (rolls_back k ∷ d.past) ≡ valued line (after d.left (rolls_back k)) = ap (λ (l : List Standing). after l (rolls_back k)) d.stands ∙ rolled-valued line k d.left d.quiet (omega (arith, deep, one)) in
    let now = depth_left line (rolls_back k ∷ d.past) (after d.left (rolls_back k)) o k n b store' link' at stands in
    let fewer = depth-rolled k d.left in
    omega (arith, deep, now, fewer)

-- Of the levels so many are left.
pub record DropsTo (left : ℕ) (o : ℕ → BracketLink) (k n b : ℕ) (line : BankLine) (things : List Standing) (store : Store) (link : Link) : Type 0 where
  pub drops : Dropping o k n b line things store link
  pub count : link.depth ≡ left

pub drops_next : (left left' : ℕ) (o : ℕ → BracketLink) (k n b : ℕ) (line : BankLine) (things : List Standing) (store store' : Store) (link link' : Link) → (d : DropsTo left o k n b line things store link) → 1 ≤ left → left' ≡ left - 1
    → ((past : History) → At past o k n b store link → 1 ≤ depth k past → At (rolls_back k ∷ past) o k n b store' link') → DropsTo left' o k n b line things store' link'
drops_next left left' o k n b line things store store' link link' d one fewer give =
    let same = depth_at d.drops.past o k n b store link d.drops.at in
    let count = d.count in
    let at = give d.drops.past d.drops.at (omega (arith, same, count, one)) in
    let some : 1 ≤ link.depth = omega (arith, count, one) in
    record {
      drops = drops_one o k n b line things store store' link link' d.drops some at;
      count = (let now = drop_depth o k n b line things store store' link link' d.drops some at in omega (arith, now, count, fewer));
    }
