-- What is kept of a past when later changes are known: its open brackets, and its writes around which no bracket was rolled back. One more change at the end strikes out what the standing list strikes out.
use Rattle.std.proofs.Common.{◌≡◌, ℕ, zero, suc, ◌==◌, Bool, true, false, cond, ◌&&◌, List, [], ◌∷◌, ◌++◌, refl, ap, ◌∙◌, eq-eqb}
use Rattle.std.specs.List.{list_any}
use Rattle.sqlx_savepoints.specs.Changes.{Change, opens, writes, commits, rolls_back, leaves, connection_of, History}
use Rattle.sqlx_savepoints.specs.Brackets.{Ending, open_around, committed, rolled_back, turned, ended_by, ending_after, ending, is_open, is_rolled_back, is_opening, endings_around}
use Rattle.sqlx_savepoints.specs.Standing.{Standing, opened, wrote}

-- whether a bracket around the write was rolled back
abbrev pub is_undone : ℕ → List Change → List Change → History → Bool
is_undone c between since past = list_any is_rolled_back (endings_around c between since past)

-- what is kept of a past when these changes came later
abbrev pub kept : List Change → History → List Standing
kept later [] = []
kept later (opens c ∷ past) = cond (is_open (ending c later)) (opened c ∷ kept (opens c ∷ later) past) (kept (opens c ∷ later) past)
kept later (writes c key value ∷ past) = cond (is_undone c [] (writes c key value ∷ later) past) (kept (writes c key value ∷ later) past) (wrote c key value ∷ kept (writes c key value ∷ later) past)
kept later (commits c ∷ past) = kept (commits c ∷ later) past
kept later (rolls_back c ∷ past) = kept (rolls_back c ∷ later) past
kept later (leaves c ∷ past) = kept (leaves c ∷ later) past

-- ---- the number of brackets that later changes leave open
abbrev pub stepped : ℕ → Change → ℕ
stepped n (opens c) = suc n
stepped zero (commits c) = 0
stepped (suc n) (commits c) = n
stepped zero (rolls_back c) = 0
stepped (suc n) (rolls_back c) = n
stepped n (leaves c) = 0
stepped n (writes c key value) = n

abbrev pub counted_after : ℕ → ℕ → List Change → ℕ
counted_after c n [] = n
counted_after c n (change ∷ later) = counted_after c (cond (connection_of change == c) (stepped n change) n) later

abbrev pub opened_in : ℕ → List Change → ℕ
opened_in c later = counted_after c 0 later

-- with a bracket that is still open one more is open than without it; with one that has ended as many
abbrev pub Ties : Ending → ℕ → ℕ → Type 0
Ties (open_around inner) with_it without = (with_it ≡ suc inner) × (without ≡ inner)
Ties committed with_it without = with_it ≡ without
Ties rolled_back with_it without = with_it ≡ without

pub done_stays : (c : ℕ) (e : Ending) → is_open e ≡ false → (later : List Change) → ending_after c e later ≡ e
done_stays c e done [] = refl
done_stays c (open_around n) done (change ∷ later) = absurd cc
done_stays c committed done (change ∷ later) = elim (connection_of change == c) as (λ b. ending_after c (cond b committed committed) later ≡ committed) [ true ↦ done_stays c committed done later | false ↦ done_stays c committed done later ]
done_stays c rolled_back done (change ∷ later) = elim (connection_of change == c) as (λ b. ending_after c (cond b rolled_back rolled_back) later ≡ rolled_back) [ true ↦ done_stays c rolled_back done later | false ↦ done_stays c rolled_back done later ]

ties_done : (c : ℕ) (e : Ending) → is_open e ≡ false → (n : ℕ) (later : List Change) → Ties (ending_after c e later) (counted_after c n later) (counted_after c n later)
ties_done c (open_around inner) done n later = absurd cc
ties_done c committed done n later = rw (done_stays c committed refl later) refl
ties_done c rolled_back done n later = rw (done_stays c rolled_back refl later) refl

pub ties : (c n : ℕ) (later : List Change) → Ties (ending_after c (open_around n) later) (counted_after c (suc n) later) (counted_after c n later)
ties c n [] = (refl, refl)
ties c n (opens d ∷ later) = elim (d == c) as (λ b. Ties (ending_after c (cond b (open_around (suc n)) (open_around n)) later) (counted_after c (cond b (suc (suc n)) (suc n)) later) (counted_after c (cond b (suc n) n) later)) [ true ↦ ties c (suc n) later | false ↦ ties c n later ]
ties c n (writes d key value ∷ later) = elim (d == c) as (λ b. Ties (ending_after c (cond b (open_around n) (open_around n)) later) (counted_after c (cond b (suc n) (suc n)) later) (counted_after c (cond b n n) later)) [ true ↦ ties c n later | false ↦ ties c n later ]
ties c zero (commits d ∷ later) = elim (d == c) as (λ b. Ties (ending_after c (cond b committed (open_around 0)) later) (counted_after c (cond b 0 1) later) (counted_after c (cond b 0 0) later)) [ true ↦ ties_done c committed refl 0 later | false ↦ ties c 0 later ]
ties c (suc n) (commits d ∷ later) = elim (d == c) as (λ b. Ties (ending_after c (cond b (open_around n) (open_around (suc n))) later) (counted_after c (cond b (suc n) (suc (suc n))) later) (counted_after c (cond b n (suc n)) later)) [ true ↦ ties c n later | false ↦ ties c (suc n) later ]
ties c zero (rolls_back d ∷ later) = elim (d == c) as (λ b. Ties (ending_after c (cond b rolled_back (open_around 0)) later) (counted_after c (cond b 0 1) later) (counted_after c (cond b 0 0) later)) [ true ↦ ties_done c rolled_back refl 0 later | false ↦ ties c 0 later ]
ties c (suc n) (rolls_back d ∷ later) = elim (d == c) as (λ b. Ties (ending_after c (cond b (open_around n) (open_around (suc n))) later) (counted_after c (cond b (suc n) (suc (suc n))) later) (counted_after c (cond b n (suc n)) later)) [ true ↦ ties c n later | false ↦ ties c (suc n) later ]
ties c n (leaves d ∷ later) = elim (d == c) as (λ b. Ties (ending_after c (cond b rolled_back (open_around n)) later) (counted_after c (cond b 0 (suc n)) later) (counted_after c (cond b 0 n) later)) [ true ↦ ties_done c rolled_back refl 0 later | false ↦ ties c n later ]

-- a bracket that was opened just before these changes
pub ties_own : (c : ℕ) (later : List Change) → Ties (ending c later) (opened_in c (opens c ∷ later)) (opened_in c later)
ties_own c later = rw (eq-eqb c c refl) (ties c 0 later)

-- a change of another connection, or one that opens nothing, leaves the number
pub opened_in-other : (c d : ℕ) (later : List Change) → (d == c) ≡ false → opened_in c (opens d ∷ later) ≡ opened_in c later
opened_in-other c d later other = ap (λ b. counted_after c (cond b 1 0) later) other

pub opened_in-none : (c d : ℕ) (later : List Change) → counted_after c (cond (d == c) 0 0) later ≡ opened_in c later
opened_in-none c d later = elim (d == c) as (λ b. counted_after c (cond b 0 0) later ≡ opened_in c later) [ true ↦ refl | false ↦ refl ]

-- ---- one more change at the end
pub ending-snoc : (c : ℕ) (e : Ending) (later : List Change) (change : Change) → ending_after c e (later ++ change ∷ []) ≡ ended_by c (ending_after c e later) change
ending-snoc c e [] change = refl
ending-snoc c e (one ∷ later) change = ending-snoc c (ended_by c e one) later change

-- on another connection it leaves an ending
pub ended_by-other : (c : ℕ) (e : Ending) (change : Change) → (connection_of change == c) ≡ false → ended_by c e change ≡ e
ended_by-other c e change other = ap (λ b. cond b (turned e change) e) other

pub ended_by-own : (c : ℕ) (e : Ending) (change : Change) → (connection_of change == c) ≡ true → ended_by c e change ≡ turned e change
ended_by-own c e change own = ap (λ b. cond b (turned e change) e) own

-- an ending read after one more change, by a test that this change doesn't alter
pub tested-snoc : (test : Ending → Bool) (change : Change) (c : ℕ) → ((e : Ending) → test (ended_by c e change) ≡ test e) → (later : List Change) → test (ending c (later ++ change ∷ [])) ≡ test (ending c later)
tested-snoc test change c same later = ap test (ending-snoc c (open_around 0) later change) ∙ same (ending c later)

-- a change that rolls no bracket of this connection back undoes no write
pub undone_kept : (change : Change) (c : ℕ) → ((e : Ending) → is_rolled_back (ended_by c e change) ≡ is_rolled_back e) → (between since : List Change) (past : History) → is_undone c between (since ++ change ∷ []) past ≡ is_undone c between since past
undone_kept change c same between since [] = refl
undone_kept change c same between since (one ∷ past) =
    let rest = undone_kept change c same (one ∷ between) (one ∷ since) past in
    elim (is_opening c one && is_open (ending c between)) as (λ b. list_any is_rolled_back (cond b (ending c (since ++ change ∷ []) ∷ endings_around c (one ∷ between) ((one ∷ since) ++ change ∷ []) past) (endings_around c (one ∷ between) ((one ∷ since) ++ change ∷ []) past)) ≡ list_any is_rolled_back (cond b (ending c since ∷ endings_around c (one ∷ between) (one ∷ since) past) (endings_around c (one ∷ between) (one ∷ since) past))) [
      | true ↦ rw (tested-snoc is_rolled_back change c same since, rest) refl
      | false ↦ rest
    ]
