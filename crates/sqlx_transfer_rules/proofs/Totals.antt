-- The committed balances add up to what they were at first: the two amounts of a move survive alike, and cancel out.
use Rattle.std.proofs.Common.{◌≡◌, ◌≢◌, ◌⊎◌, nat_abs, ℕ, zero, suc, ◌*◌, ◌<◌, ◌≤◌, ◌==◌, ◌&&◌, ℤ, pos, neg_ℤ, ◌+ℤ◌, int_eq, Bool, true, false, not, cond, nat_le, Option, Some, List, [], ◌∷◌, ◌++◌, All, refl, sym, ap, ◌∙◌, subst, inl, inr, arith}
use Rattle.std.proofs.lemmas.Int.{ints}
use Rattle.std.proofs.lemmas.Bool.{and_parts, leb-true}
use Rattle.std.proofs.lemmas.Bool.Decides.{Decides-int_eq}
use Rattle.std.proofs.lemmas.List.Elements.{All-head, All-tail}
use Rattle.std.specs.List.{list_all}
use Rattle.sqlx_savepoints.specs.Changes.{Change, opens, writes, commits, rolls_back, leaves, History}
use Rattle.sqlx_savepoints.specs.Brackets.{Ending, ending, is_open, is_opening, endings_around, sees_through, survives}
use Rattle.sqlx_savepoints.proofs.Kept.{tested-snoc}
use Rattle.sqlx_savepoints.proofs.Struck.{writes_quiet}
use Rattle.sqlx_player.specs.Language.{Pairs, events_of}
use Rattle.sqlx_player.specs.Output.{pairs_after}
use Rattle.sqlx_player.proofs.scripts.Pairs.{events_after}
use Rattle.sqlx_transfer_rules.specs.declared.bank_line.BankLine.{BankLine}
use Rattle.sqlx_transfer_rules.specs.declared.event.Event.{Event}
use Rattle.sqlx_transfer_rules.specs.declared.event.Event.TheVariants.{Start, Move, Commit, Undo, Drop}
use Rattle.sqlx_transfer_rules.specs.declared.reply.Reply.{Reply}
use Rattle.sqlx_transfer_rules.specs.declared.reply.Reply.TheVariants.{Level, Moved, Dropped}
use Rattle.sqlx_transfer_rules.specs.Grammar.{is_account, is_in_range}
use Rattle.sqlx_transfer_rules.specs.Transfers.{brought_about, history_after, history_of, sum_before, sum_of, nobody, total_of}
use Rattle.sqlx_transfer_rules.specs.Rules.{transfer_rules}
use Rattle.sqlx_transfer_rules.specs.Laws.{IsOfBank, TotalStays}

-- ---- sums over accounts 1 to n

abbrev pub added : (ℕ → ℤ) → ℕ → ℤ
added f zero = pos 0
added f (suc n) = added f n +ℤ f (suc n)

added-same : (f g : ℕ → ℤ) (n : ℕ) → ((x : ℕ) → f x ≡ g x) → added f n ≡ added g n
added-same f g zero same = refl
added-same f g (suc n) same = λ i. added-same f g n same i +ℤ same (suc n) i

four : (a b c d : ℤ) → (a +ℤ b) +ℤ (c +ℤ d) ≡ (a +ℤ c) +ℤ (b +ℤ d)
four a b c d = omega (arith, ints)

added-plus : (f g : ℕ → ℤ) (n : ℕ) → added (λ x. f x +ℤ g x) n ≡ added f n +ℤ added g n
added-plus f g zero = refl
added-plus f g (suc n) = ap (λ s. s +ℤ (f (suc n) +ℤ g (suc n))) (added-plus f g n) ∙ four (added f n) (added g n) (f (suc n)) (g (suc n))

added-const : (c n : ℕ) → added (λ x. pos c) n ≡ pos (n * c)
added-const c zero = ap pos (omega arith)
added-const c (suc n) = ap (λ s. s +ℤ pos c) (added-const c n) ∙ one_more
  where
    one_more : pos (n * c) +ℤ pos c ≡ pos (suc n * c)
    one_more = ap pos (omega arith)

-- what one account has, and the others haven't
abbrev only : ℕ → ℤ → ℕ → ℤ
only y v x = cond (int_eq (pos x) (pos y)) v (pos 0)

pub same_account : (x y : ℕ) → ((int_eq (pos x) (pos y) ≡ true) × (x ≡ y)) ⊎ ((int_eq (pos x) (pos y) ≡ false) × (x ≢ y))
same_account x y = by (int_eq (pos x) (pos y)) refl
  where
    by : (b : Bool) → int_eq (pos x) (pos y) ≡ b → ((int_eq (pos x) (pos y) ≡ true) × (x ≡ y)) ⊎ ((int_eq (pos x) (pos y) ≡ false) × (x ≢ y))
    by true is = inl (is, ap nat_abs ((Decides-int_eq (pos x) (pos y)).0 is))
    by false is = inr (is, λ e. let bad : true ≡ false = sym ((Decides-int_eq (pos x) (pos y)).1 (ap pos e)) ∙ is in cc)

only_beyond : (y : ℕ) (v : ℤ) (n : ℕ) → n < y → added (only y v) n ≡ pos 0
only_beyond y v zero below = refl
only_beyond y v (suc n) below = elim (same_account (suc n) y) [
  | inl is ↦ absurd (let same = is.1 in omega (arith, same))
  | inr is ↦ ap (λ b. added (only y v) n +ℤ cond b v (pos 0)) is.0 ∙ ap (λ s. s +ℤ pos 0) (only_beyond y v n (omega arith))
]

pub plus_none : (v : ℤ) → v +ℤ pos 0 ≡ v
plus_none v = omega (arith, ints)

none_plus : (v : ℤ) → pos 0 +ℤ v ≡ v
none_plus v = omega (arith, ints)

added-only : (y : ℕ) (v : ℤ) (n : ℕ) → 1 ≤ y → y ≤ n → added (only y v) n ≡ v
added-only y v zero some few = absurd (omega arith)
added-only y v (suc n) some few = elim (same_account (suc n) y) [
  | inl is ↦ ap (λ b. added (only y v) n +ℤ cond b v (pos 0)) is.0 ∙ (let same = is.1 in ap (λ s. s +ℤ v) (only_beyond y v n (omega (arith, same)))) ∙ none_plus v
  | inr is ↦ ap (λ b. added (only y v) n +ℤ cond b v (pos 0)) is.0 ∙ (let apart = is.1 in ap (λ s. s +ℤ pos 0) (added-only y v n some (omega (arith, apart)))) ∙ plus_none v
]

-- ---- the two amounts of a move survive alike

abbrev between_added : Bool → Ending → List Ending → List Ending
between_added b e more = cond b (e ∷ more) more

-- a write between the opening and another write ends no bracket
endings_around-write : (c d : ℕ) (key : ℤ) (v : Option ℤ) (between since : List Change) (past : History) → endings_around c (between ++ writes d key v ∷ []) since past ≡ endings_around c between since past
endings_around-write c d key v between since [] = refl
endings_around-write c d key v between since (change ∷ past) =
    let open' : is_open (ending c (between ++ writes d key v ∷ [])) ≡ is_open (ending c between) = tested-snoc is_open (writes d key v) c (λ e. (writes_quiet d key v c e).0) between in
    let rest : endings_around c (change ∷ (between ++ writes d key v ∷ [])) (change ∷ since) past ≡ endings_around c (change ∷ between) (change ∷ since) past = endings_around-write c d key v (change ∷ between) (change ∷ since) past in
    λ i. between_added (is_opening c change && open' i) (ending c since) (rest i)

survive-alike : (reader c d : ℕ) (key : ℤ) (v : Option ℤ) (since : List Change) (past : History) → survives reader c since (writes d key v ∷ past) ≡ survives reader c (writes d key v ∷ since) past
survive-alike reader c d key v since past = ap (list_all (sees_through reader c)) (endings_around-write c d key v [] (writes d key v ∷ since) past)

-- ---- histories of moves

-- the sums of all accounts that survive for a reader cancel out, whatever comes later
abbrev IsBalanced : ℕ → History → Type 0
IsBalanced accounts past = (reader : ℕ) (later : List Change) → added (λ x. sum_before reader x later past) accounts ≡ pos 0

balanced-none : (accounts : ℕ) → IsBalanced accounts []
balanced-none zero reader later = refl
balanced-none (suc n) reader later = ap (λ s. s +ℤ pos 0) (balanced-none n reader later)

-- a change that puts no amount down
balanced-quiet : (accounts : ℕ) (change : Change) (past : History) → ((reader x : ℕ) (later : List Change) → sum_before reader x later (change ∷ past) ≡ pos 0 +ℤ sum_before reader x (change ∷ later) past) → IsBalanced accounts past → IsBalanced accounts (change ∷ past)
balanced-quiet accounts change past quiet balanced reader later =
    added-same (λ x. sum_before reader x later (change ∷ past)) (λ x. sum_before reader x (change ∷ later) past) accounts (λ x. quiet reader x later ∙ none_plus (sum_before reader x (change ∷ later) past))
    ∙ balanced reader (change ∷ later)

-- the amounts of a move
abbrev pair_of : ℕ → ℕ → ℕ → ℕ → History → History
pair_of k x y n past = writes k (pos y) (Some (pos n)) ∷ writes k (pos x) (Some (neg_ℤ (pos n))) ∷ past

cancels : (n : ℕ) → pos n +ℤ neg_ℤ (pos n) ≡ pos 0
cancels n = omega (arith, ints)

added-zero : (n : ℕ) → added (λ x. pos 0) n ≡ pos 0
added-zero zero = refl
added-zero (suc n) = ap (λ s. s +ℤ pos 0) (added-zero n)

balanced-move : (accounts k x y n : ℕ) (past : History) → is_account accounts x ≡ true → is_account accounts y ≡ true → IsBalanced accounts past → IsBalanced accounts (pair_of k x y n past)
balanced-move accounts k x y n past inside_x inside_y balanced reader later =
    let gain : Change = writes k (pos y) (Some (pos n)) in
    let loss : Change = writes k (pos x) (Some (neg_ℤ (pos n))) in
    let s : Bool = survives reader k (loss ∷ gain ∷ later) past in
    let same : survives reader k (gain ∷ later) (loss ∷ past) ≡ s = survive-alike reader k k (pos x) (Some (neg_ℤ (pos n))) (gain ∷ later) past in
    let rest : ℕ → ℤ = λ a. sum_before reader a (loss ∷ gain ∷ later) past in
    let low_x = leb-true 1 x (and_parts (nat_le 1 x) (nat_le x accounts) inside_x).0 in
    let high_x = leb-true x accounts (and_parts (nat_le 1 x) (nat_le x accounts) inside_x).1 in
    let low_y = leb-true 1 y (and_parts (nat_le 1 y) (nat_le y accounts) inside_y).0 in
    let high_y = leb-true y accounts (and_parts (nat_le 1 y) (nat_le y accounts) inside_y).1 in
    (λ i. added (λ a. cond (same i && int_eq (pos a) (pos y)) (pos n) (pos 0) +ℤ (cond (s && int_eq (pos a) (pos x)) (neg_ℤ (pos n)) (pos 0) +ℤ rest a)) accounts)
    ∙ by_survival s rest low_x high_x low_y high_y (balanced reader (loss ∷ gain ∷ later))
  where
    by_survival : (s : Bool) (rest : ℕ → ℤ) → 1 ≤ x → x ≤ accounts → 1 ≤ y → y ≤ accounts → added rest accounts ≡ pos 0
        → added (λ a. cond (s && int_eq (pos a) (pos y)) (pos n) (pos 0) +ℤ (cond (s && int_eq (pos a) (pos x)) (neg_ℤ (pos n)) (pos 0) +ℤ rest a)) accounts ≡ pos 0
    by_survival true rest low_x high_x low_y high_y none =
        added-plus (only y (pos n)) (λ a. only x (neg_ℤ (pos n)) a +ℤ rest a) accounts
        ∙ ap (λ t. added (only y (pos n)) accounts +ℤ t) (added-plus (only x (neg_ℤ (pos n))) rest accounts)
        ∙ (λ i. added-only y (pos n) accounts low_y high_y i +ℤ (added-only x (neg_ℤ (pos n)) accounts low_x high_x i +ℤ none i))
        ∙ ap (λ t. pos n +ℤ t) (plus_none (neg_ℤ (pos n)))
        ∙ cancels n
    by_survival false rest low_x high_x low_y high_y none =
        added-same (λ a. pos 0 +ℤ (pos 0 +ℤ rest a)) rest accounts (λ a. none_plus (pos 0 +ℤ rest a) ∙ none_plus (rest a)) ∙ none

-- what an event and its reply bring about
balanced-by : (accounts : ℕ) (event : Event) (reply : Reply) (past : History) → is_in_range accounts event ≡ true → IsBalanced accounts past → IsBalanced accounts (brought_about event reply ++ past)
balanced-by accounts (Start k) (Level d) past inside balanced = balanced-quiet accounts (opens k) past (λ reader x later. refl) balanced
balanced-by accounts (Move k x y n met) Moved past inside balanced =
    let parts = and_parts (is_account accounts x) (is_account accounts y && not (x == y)) inside in
    balanced-move accounts k x y n past parts.0 (and_parts (is_account accounts y) (not (x == y)) parts.1).0 balanced
balanced-by accounts (Commit k) (Level d) past inside balanced = balanced-quiet accounts (commits k) past (λ reader x later. refl) balanced
balanced-by accounts (Undo k) (Level d) past inside balanced = balanced-quiet accounts (rolls_back k) past (λ reader x later. refl) balanced
balanced-by accounts (Drop k) Dropped past inside balanced = balanced-quiet accounts (leaves k) past (λ reader x later. refl) balanced
balanced-by accounts event reply past inside balanced = balanced

balanced_after : (accounts : ℕ) (past : History) (pairs : Pairs Event Reply) → All (λ event. is_in_range accounts event ≡ true) (events_of pairs) → IsBalanced accounts past → IsBalanced accounts (history_after past pairs)
unfolding history_after
balanced_after accounts past [] inside balanced = balanced
balanced_after accounts past (pair ∷ pairs) inside balanced =
    balanced_after accounts (brought_about pair.0 pair.1 ++ past) pairs (All-tail (λ event. is_in_range accounts event ≡ true) pair.0 (events_of pairs) inside)
    (balanced-by accounts pair.0 pair.1 past (All-head (λ event. is_in_range accounts event ≡ true) pair.0 (events_of pairs) inside) balanced)

-- ---- the total

total-added : (bank : BankLine) (pairs : Pairs Event Reply) (n : ℕ) → total_of bank pairs n ≡ added (λ x. pos bank.opening +ℤ sum_of nobody x (history_of pairs)) n
unfolding total_of
total-added bank pairs zero = refl
total-added bank pairs (suc n) = ap (λ s. s +ℤ (pos bank.opening +ℤ sum_of nobody (suc n) (history_of pairs))) (total-added bank pairs n)

-- whatever the replies
pub total_kept : (bank : BankLine) (pairs : Pairs Event Reply) → All (IsOfBank bank) (events_of pairs) → total_of bank pairs bank.accounts ≡ pos (bank.accounts * bank.opening)
total_kept bank pairs inside =
    total-added bank pairs bank.accounts
    ∙ added-plus (λ x. pos bank.opening) (λ x. sum_of nobody x (history_of pairs)) bank.accounts
    ∙ (λ i. added-const bank.opening bank.accounts i +ℤ balanced_after bank.accounts [] pairs inside (balanced-none bank.accounts) nobody [] i)
    ∙ plus_none (pos (bank.accounts * bank.opening))

pub total_stays : TotalStays
total_stays bank events inside = total_kept bank (pairs_after transfer_rules bank [] events) (subst (All (IsOfBank bank)) (sym (events_after transfer_rules bank [] events)) inside)
