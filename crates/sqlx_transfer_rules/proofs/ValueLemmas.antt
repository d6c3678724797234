-- What stands where values are written in place of amounts: its depths, what a commit and a rollback leave of it, and what readers see.
use Rattle.std.proofs.Common.{◌≡◌, ℕ, zero, suc, ◌==◌, ◌≤◌, ℤ, pos, ◌+ℤ◌, int_eq, Bool, true, false, not, cond, ◌&&◌, ◌||◌, Some, List, [], ◌∷◌, refl, sym, ap, ◌∙◌, inl, inr, ne_eqb, arith}
use Rattle.std.proofs.lemmas.Int.{ints}
use Rattle.std.proofs.lemmas.Bool.Decides.{eqb_tells, Decides-int_eq}
use Rattle.sqlx_savepoints.specs.Changes.{rolls_back}
use Rattle.sqlx_savepoints.specs.Standing.{Standing, opened, wrote, is_zero, depth_of, seen_by, value_of, struck, cut, cleared, after}
use Rattle.sqlx_savepoints.proofs.StoreOf.{IsQuiet}
use Rattle.sqlx_transfer_rules.specs.declared.bank_line.BankLine.{BankLine}
use Rattle.sqlx_transfer_rules.specs.Transfers.{amount_of, nobody}
use Rattle.sqlx_transfer_rules.specs.Values.{all_in, opening_rows, valued}
use Rattle.sqlx_transfer_rules.proofs.Totals.{same_account, plus_none}
use Rattle.sqlx_transfer_rules.proofs.Amounts.{sum_in}

-- ---- depths

depth-opening : (c opening n : ℕ) → depth_of c (opening_rows opening n) ≡ 0
depth-opening c opening zero = refl
depth-opening c opening (suc n) = depth-opening c opening n

pub depth-valued : (bank : BankLine) (c : ℕ) (things : List Standing) → depth_of c (valued bank things) ≡ depth_of c things
depth-valued bank c [] = depth-opening c bank.opening bank.accounts
depth-valued bank c (opened d ∷ before) = ap (λ n. cond (d == c) (suc n) n) (depth-valued bank c before)
depth-valued bank c (wrote d key v ∷ before) = depth-valued bank c before

-- ---- a commit

all_in-struck : (key : ℤ) (c : ℕ) (things : List Standing) → all_in key (struck c things) ≡ all_in key things
all_in-struck key c [] = refl
all_in-struck key c (opened d ∷ before) = elim (d == c) as (λ b. all_in key (cond b before (opened d ∷ struck c before)) ≡ all_in key before) [ true ↦ refl | false ↦ all_in-struck key c before ]
all_in-struck key c (wrote d k v ∷ before) = ap (λ s. cond (int_eq key k) (amount_of v) (pos 0) +ℤ s) (all_in-struck key c before)

struck-opening : (c opening n : ℕ) → struck c (opening_rows opening n) ≡ opening_rows opening n
struck-opening c opening zero = refl
struck-opening c opening (suc n) = ap (λ (things : List Standing). wrote nobody (pos (suc n)) (Some (pos opening)) ∷ things) (struck-opening c opening n)

pub struck-valued : (bank : BankLine) (c : ℕ) (things : List Standing) → struck c (valued bank things) ≡ valued bank (struck c things)
struck-valued bank c [] = struck-opening c bank.opening bank.accounts
struck-valued bank c (opened d ∷ before) =
    elim (d == c) as (λ b. cond b (valued bank before) (opened d ∷ struck c (valued bank before)) ≡ valued bank (cond b before (opened d ∷ struck c before))) [
      | true ↦ refl
      | false ↦ ap (λ (things : List Standing). opened d ∷ things) (struck-valued bank c before)
    ]
struck-valued bank c (wrote d key v ∷ before) =
    let same : all_in key before ≡ all_in key (struck c before) = sym (all_in-struck key c before) in
    let rest : struck c (valued bank before) ≡ valued bank (struck c before) = struck-valued bank c before in
    λ i. wrote d key (Some (pos bank.opening +ℤ (amount_of v +ℤ same i))) ∷ rest i

-- ---- a rollback

turned_round : (a b : ℕ) → (a == b) ≡ false → (b == a) ≡ false
turned_round a b apart = elim (eqb_tells a b) [
  | inl is ↦ absurd (let bad : true ≡ false = sym is.0 ∙ apart in cc)
  | inr is ↦ ne_eqb b a (λ e. is.1 (sym e))
]

some_zero : (n : ℕ) → 1 ≤ n → is_zero n ≡ false
some_zero zero one = absurd (omega arith)
some_zero (suc n) one = refl

pub cut-valued : (bank : BankLine) (c : ℕ) (things : List Standing) → IsQuiet things → 1 ≤ depth_of c things → cut c (valued bank things) ≡ valued bank (cut c things)
cut-valued bank c [] quiet one = absurd (omega arith)
cut-valued bank c (opened d ∷ before) quiet one = by (cut-valued bank c before quiet) (d == c) one
  where
    by : (1 ≤ depth_of c before → cut c (valued bank before) ≡ valued bank (cut c before)) → (b : Bool) → 1 ≤ cond b (suc (depth_of c before)) (depth_of c before)
        → cond b (valued bank before) (cond b (cut c (valued bank before)) (opened d ∷ cut c (valued bank before))) ≡ valued bank (cond b before (cond b (cut c before) (opened d ∷ cut c before)))
    by again true one = refl
    by again false one = ap (λ (rest : List Standing). opened d ∷ rest) (again one)
cut-valued bank c (wrote d key v ∷ before) quiet one = by (cut-valued bank c before quiet.1 one) (d == c) refl
  where
    by : cut c (valued bank before) ≡ valued bank (cut c before) → (b : Bool) → (d == c) ≡ b → cond b (cut c (valued bank before)) (wrote d key (Some (pos bank.opening +ℤ (amount_of v +ℤ all_in key before))) ∷ cut c (valued bank before)) ≡ valued bank (cond b (cut c before) (wrote d key v ∷ cut c before))
    by again true is = again
    by again false is = absurd (let none = quiet.0 c (turned_round d c is) in omega (arith, none, one))

pub rolled-valued : (bank : BankLine) (c : ℕ) (things : List Standing) → IsQuiet things → 1 ≤ depth_of c things → after (valued bank things) (rolls_back c) ≡ valued bank (after things (rolls_back c))
rolled-valued bank c things quiet one =
    let some : is_zero (depth_of c things) ≡ false = some_zero (depth_of c things) one in
    (λ i. cond (is_zero (depth-valued bank c things i)) (valued bank things) (cut c (valued bank things)))
    ∙ (λ i. cond (some i) (valued bank things) (cut c (valued bank things)))
    ∙ cut-valued bank c things quiet one
    ∙ (let none : false ≡ is_zero (depth_of c things) = sym some in λ i. valued bank (cond (none i) things (cut c things)))

-- ---- all levels rolled back

pub cleared-none : (c : ℕ) (things : List Standing) → depth_of c things ≡ 0 → cleared c things ≡ things
cleared-none c [] none = refl
cleared-none c (opened d ∷ before) none = by (cleared-none c before) (d == c) none
  where
    by : (depth_of c before ≡ 0 → cleared c before ≡ before) → (b : Bool) → cond b (suc (depth_of c before)) (depth_of c before) ≡ 0 → cond (b || (b && not (is_zero (depth_of c before)))) (cleared c before) (opened d ∷ cleared c before) ≡ opened d ∷ before
    by again true none = absurd (omega (arith, none))
    by again false none = ap (λ (rest : List Standing). opened d ∷ rest) (again none)
cleared-none c (wrote d key v ∷ before) none =
    (λ i. cond ((d == c) && not (is_zero (none i))) (cleared c before) (wrote d key v ∷ cleared c before))
    ∙ (elim (d == c) as (λ b. cond (b && false) (cleared c before) (wrote d key v ∷ cleared c before) ≡ wrote d key v ∷ cleared c before) [ true ↦ refl | false ↦ refl ])
    ∙ ap (λ (rest : List Standing). wrote d key v ∷ rest) (cleared-none c before none)

pub cleared-cut : (c : ℕ) (things : List Standing) → 1 ≤ depth_of c things → cleared c (cut c things) ≡ cleared c things
cleared-cut c [] one = refl
cleared-cut c (opened d ∷ before) one = by (cleared-cut c before) (d == c) refl one
  where
    by : (1 ≤ depth_of c before → cleared c (cut c before) ≡ cleared c before) → (b : Bool) → (d == c) ≡ b → 1 ≤ cond b (suc (depth_of c before)) (depth_of c before)
        → cleared c (cond b before (cond b (cut c before) (opened d ∷ cut c before))) ≡ cond (b || (b && not (is_zero (depth_of c before)))) (cleared c before) (opened d ∷ cleared c before)
    by again true is one = refl
    by again false is one =
        (λ i. cond (is i || (is i && not (is_zero (depth_of c (cut c before))))) (cleared c (cut c before)) (opened d ∷ cleared c (cut c before)))
        ∙ ap (λ (rest : List Standing). opened d ∷ rest) (again one)
cleared-cut c (wrote d key v ∷ before) one = by (cleared-cut c before one) (d == c) refl
  where
    some : is_zero (depth_of c before) ≡ false
    some = some_zero (depth_of c before) one

    by : cleared c (cut c before) ≡ cleared c before → (b : Bool) → (d == c) ≡ b → cleared c (cond b (cut c before) (wrote d key v ∷ cut c before)) ≡ cond (b && not (is_zero (depth_of c before))) (cleared c before) (wrote d key v ∷ cleared c before)
    by again true is = again ∙ (let none : false ≡ is_zero (depth_of c before) = sym some in λ i. cond (not (none i)) (cleared c before) (wrote d key v ∷ cleared c before))
    by again false is =
        (λ i. cond (is i && not (is_zero (depth_of c (cut c before)))) (cleared c (cut c before)) (wrote d key v ∷ cleared c (cut c before)))
        ∙ ap (λ (rest : List Standing). wrote d key v ∷ rest) again

pub cleared-rolled : (c : ℕ) (things : List Standing) → 1 ≤ depth_of c things → cleared c (after things (rolls_back c)) ≡ cleared c things
cleared-rolled c things one =
    (λ i. cleared c (cond (some_zero (depth_of c things) one i) things (cut c things))) ∙ cleared-cut c things one

-- ---- what readers see

or-true : (a : Bool) → a || true ≡ true
or-true true = refl
or-true false = refl

value-opening : (r x opening n : ℕ) → 1 ≤ x → x ≤ n → value_of r (pos x) (opening_rows opening n) ≡ Some (pos opening)
value-opening r x opening zero some few = absurd (omega arith)
value-opening r x opening (suc n) some few =
    (λ i. cond (((r == nobody) || is_zero (depth-opening nobody opening n i)) && int_eq (pos x) (pos (suc n))) (Some (pos opening)) (value_of r (pos x) (opening_rows opening n)))
    ∙ (λ i. cond (or-true (r == nobody) i && int_eq (pos x) (pos (suc n))) (Some (pos opening)) (value_of r (pos x) (opening_rows opening n)))
    ∙ (elim (same_account x (suc n)) [
      | inl is ↦ ap (λ b. cond b (Some (pos opening)) (value_of r (pos x) (opening_rows opening n))) is.0
      | inr is ↦ ap (λ b. cond b (Some (pos opening)) (value_of r (pos x) (opening_rows opening n))) is.0 ∙ (let apart = is.1 in value-opening r x opening n some (omega (arith, apart)))
    ])

-- where no other connection has an open bracket, a reader sees everything
pub all_seen : (r x : ℕ) (things : List Standing) → ((d : ℕ) → (d == r) ≡ false → depth_of d things ≡ 0) → sum_in r x things ≡ all_in (pos x) things
all_seen r x [] alone = refl
all_seen r x (opened c ∷ before) alone = all_seen r x before (λ d apart. less (c == d) (depth_of d before) (alone d apart))
  where
    less : (b : Bool) (n : ℕ) → cond b (suc n) n ≡ 0 → n ≡ 0
    less true n none = absurd (omega (arith, none))
    less false n none = none
all_seen r x (wrote c k v ∷ before) alone = λ i. cond (seen i && int_eq (pos x) k) (amount_of v) (pos 0) +ℤ all_seen r x before alone i
  where
    seen : seen_by r c before ≡ true
    seen = elim (eqb_tells r c) [
      | inl is ↦ ap (λ b. b || is_zero (depth_of c before)) is.0
      | inr is ↦ ap (λ n. (r == c) || is_zero n) (alone c (turned_round r c is.0)) ∙ or-true (r == c)
    ]

is_none : (n : ℕ) → is_zero n ≡ true → n ≡ 0
is_none zero e = refl
is_none (suc n) e = absurd (cc)

-- a reader sees the value that the amounts come to
pub value-valued : (bank : BankLine) (r x : ℕ) (things : List Standing) → IsQuiet things → 1 ≤ x → x ≤ bank.accounts → value_of r (pos x) (valued bank things) ≡ Some (pos bank.opening +ℤ sum_in r x things)
value-valued bank r x [] quiet some few = value-opening r x bank.opening bank.accounts some few ∙ ap (λ z. Some z) (sym (plus_none (pos bank.opening)))
value-valued bank r x (opened c ∷ before) quiet some few = value-valued bank r x before quiet some few
value-valued bank r x (wrote c k v ∷ before) quiet some few =
    (λ i. cond (((r == c) || is_zero (depth-valued bank c before i)) && int_eq (pos x) k) (Some (pos bank.opening +ℤ (amount_of v +ℤ all_in k before))) (value_of r (pos x) (valued bank before)))
    ∙ by_key (value-valued bank r x before quiet.1 some few) (seen_by r c before) refl (int_eq (pos x) k) refl
  where
    none_more : Some (pos bank.opening +ℤ sum_in r x before) ≡ Some (pos bank.opening +ℤ (pos 0 +ℤ sum_in r x before))
    none_more = ap (λ z. Some z) (omega (arith, ints))

    alone : seen_by r c before ≡ true → (d : ℕ) → (d == r) ≡ false → depth_of d before ≡ 0
    alone seen d apart = elim (eqb_tells d c) [
      | inl is ↦ elim (eqb_tells r c) [
        | inl own ↦ absurd (let bad : true ≡ false = sym (eq_is d r (is.1 ∙ sym own.1)) ∙ apart in cc)
        | inr other ↦ ap (λ e. depth_of e before) is.1 ∙ is_none (depth_of c before) (sym (ap (λ b. b || is_zero (depth_of c before)) other.0) ∙ seen)
      ]
      | inr is ↦ quiet.0 d is.0
    ]
      where
        eq_is : (a b : ℕ) → a ≡ b → (a == b) ≡ true
        eq_is a b e = elim (eqb_tells a b) [ inl is ↦ is.0 | inr is ↦ absurd (is.1 e) ]

    by_key : value_of r (pos x) (valued bank before) ≡ Some (pos bank.opening +ℤ sum_in r x before) → (s : Bool) → seen_by r c before ≡ s → (b : Bool) → int_eq (pos x) k ≡ b
        → cond (s && b) (Some (pos bank.opening +ℤ (amount_of v +ℤ all_in k before))) (value_of r (pos x) (valued bank before)) ≡ Some (pos bank.opening +ℤ (cond (s && b) (amount_of v) (pos 0) +ℤ sum_in r x before))
    by_key rest true seen true is = ap (λ s. Some (pos bank.opening +ℤ (amount_of v +ℤ s))) (ap (λ key. all_in key before) (sym (same_key is)) ∙ sym (all_seen r x before (alone seen)))
      where
        same_key : int_eq (pos x) k ≡ true → pos x ≡ k
        same_key e = (Decides-int_eq (pos x) k).0 e
    by_key rest true seen false is = rest ∙ none_more
    by_key rest false seen b is = rest ∙ none_more
