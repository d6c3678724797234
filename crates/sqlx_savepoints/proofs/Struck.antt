-- One more change at the end strikes out of what is kept just what it strikes out of what stands.
use Rattle.std.proofs.Common.{◌≡◌, ℕ, zero, suc, ◌==◌, ℤ, Bool, true, false, cond, Option, List, [], ◌∷◌, ◌++◌, refl, sym, ap, subst, inl, inr, eq-eqb, ne_eqb}
use Rattle.std.proofs.lemmas.Bool.Decides.{eqb_tells}
use Rattle.sqlx_savepoints.specs.Changes.{Change, opens, writes, commits, rolls_back, leaves, History}
use Rattle.sqlx_savepoints.specs.Brackets.{Ending, open_around, committed, rolled_back, turned, ended_by, ending, is_open, is_rolled_back}
use Rattle.sqlx_savepoints.specs.Standing.{Standing, opened, wrote, struck}
use Rattle.sqlx_savepoints.proofs.Kept.{kept, is_undone, opened_in, Ties, ties_own, opened_in-other, opened_in-none, ending-snoc, ended_by-other, ended_by-own, tested-snoc, undone_kept}

same_both : (b : Bool) (x : Ending) → cond b x x ≡ x
same_both true x = refl
same_both false x = refl

-- ---- a change that ends nothing
-- it leaves what is kept, where it leaves open what is open and rolls nothing back
pub kept-quiet : (change : Change) → ((c : ℕ) (e : Ending) → (is_open (ended_by c e change) ≡ is_open e) × (is_rolled_back (ended_by c e change) ≡ is_rolled_back e)) → (later : List Change) (past : History) → kept (later ++ change ∷ []) past ≡ kept later past
kept-quiet change quiet later [] = refl
kept-quiet change quiet later (opens d ∷ past) =
    let rest = kept-quiet change quiet (opens d ∷ later) past in
    let opened_still = tested-snoc is_open change d (λ e. (quiet d e).0) later in
    rw (opened_still, rest) refl
kept-quiet change quiet later (writes d key value ∷ past) =
    let rest = kept-quiet change quiet (writes d key value ∷ later) past in
    let undone_still = undone_kept change d (λ e. (quiet d e).1) [] (writes d key value ∷ later) past in
    rw (undone_still, rest) refl
kept-quiet change quiet later (commits d ∷ past) = kept-quiet change quiet (commits d ∷ later) past
kept-quiet change quiet later (rolls_back d ∷ past) = kept-quiet change quiet (rolls_back d ∷ later) past
kept-quiet change quiet later (leaves d ∷ past) = kept-quiet change quiet (leaves d ∷ later) past

pub opens_quiet : (d c : ℕ) (e : Ending) → (is_open (ended_by c e (opens d)) ≡ is_open e) × (is_rolled_back (ended_by c e (opens d)) ≡ is_rolled_back e)
opens_quiet d c (open_around n) = elim (d == c) as (λ b. (is_open (cond b (open_around (suc n)) (open_around n)) ≡ true) × (is_rolled_back (cond b (open_around (suc n)) (open_around n)) ≡ false)) [ true ↦ (refl, refl) | false ↦ (refl, refl) ]
opens_quiet d c committed = elim (d == c) as (λ b. (is_open (cond b committed committed) ≡ false) × (is_rolled_back (cond b committed committed) ≡ false)) [ true ↦ (refl, refl) | false ↦ (refl, refl) ]
opens_quiet d c rolled_back = elim (d == c) as (λ b. (is_open (cond b rolled_back rolled_back) ≡ false) × (is_rolled_back (cond b rolled_back rolled_back) ≡ true)) [ true ↦ (refl, refl) | false ↦ (refl, refl) ]

pub writes_quiet : (d : ℕ) (key : ℤ) (value : Option ℤ) (c : ℕ) (e : Ending) → (is_open (ended_by c e (writes d key value)) ≡ is_open e) × (is_rolled_back (ended_by c e (writes d key value)) ≡ is_rolled_back e)
writes_quiet d key value c (open_around n) = elim (d == c) as (λ b. (is_open (cond b (open_around n) (open_around n)) ≡ true) × (is_rolled_back (cond b (open_around n) (open_around n)) ≡ false)) [ true ↦ (refl, refl) | false ↦ (refl, refl) ]
writes_quiet d key value c committed = elim (d == c) as (λ b. (is_open (cond b committed committed) ≡ false) × (is_rolled_back (cond b committed committed) ≡ false)) [ true ↦ (refl, refl) | false ↦ (refl, refl) ]
writes_quiet d key value c rolled_back = elim (d == c) as (λ b. (is_open (cond b rolled_back rolled_back) ≡ false) × (is_rolled_back (cond b rolled_back rolled_back) ≡ true)) [ true ↦ (refl, refl) | false ↦ (refl, refl) ]

pub kept-opens : (d : ℕ) (past : History) → kept (opens d ∷ []) past ≡ kept [] past
kept-opens d past = kept-quiet (opens d) (opens_quiet d) [] past

pub kept-writes : (d : ℕ) (key : ℤ) (value : Option ℤ) (past : History) → kept (writes d key value ∷ []) past ≡ kept [] past
kept-writes d key value past = kept-quiet (writes d key value) (writes_quiet d key value) [] past

-- ---- a commit
-- it strikes out the newest open bracket of the past, where none is open in what came later
abbrev pub struck_at : ℕ → ℕ → List Standing → List Standing
struck_at zero c things = struck c things
struck_at (suc n) c things = things

commits_undoes_none : (c d : ℕ) (e : Ending) → is_rolled_back (ended_by d e (commits c)) ≡ is_rolled_back e
commits_undoes_none c d (open_around zero) = elim (c == d) as (λ b. is_rolled_back (cond b committed (open_around zero)) ≡ false) [ true ↦ refl | false ↦ refl ]
commits_undoes_none c d (open_around (suc n)) = elim (c == d) as (λ b. is_rolled_back (cond b (open_around n) (open_around (suc n))) ≡ false) [ true ↦ refl | false ↦ refl ]
commits_undoes_none c d committed = elim (c == d) as (λ b. is_rolled_back (cond b committed committed) ≡ false) [ true ↦ refl | false ↦ refl ]
commits_undoes_none c d rolled_back = elim (c == d) as (λ b. is_rolled_back (cond b rolled_back rolled_back) ≡ true) [ true ↦ refl | false ↦ refl ]

-- past the opening of a bracket of another connection
struck_past : (b : Bool) (n c d : ℕ) (things : List Standing) → (d == c) ≡ false → cond b (opened d ∷ struck_at n c things) (struck_at n c things) ≡ struck_at n c (cond b (opened d ∷ things) things)
struck_past true zero c d things other = ap (λ t. cond t things (opened d ∷ struck c things)) (sym other)
struck_past true (suc n) c d things other = refl
struck_past false n c d things other = refl

-- at the opening of one of its own
struck_own : (e : Ending) (n with_it c : ℕ) (things : List Standing) → Ties e with_it n → cond (is_open (turned e (commits c))) (opened c ∷ struck_at with_it c things) (struck_at with_it c things) ≡ struck_at n c (cond (is_open e) (opened c ∷ things) things)
struck_own (open_around zero) n with_it c things t = rw (t.0, t.1) (ap (λ b. cond b things (opened c ∷ struck c things)) (sym (eq-eqb c c refl)))
struck_own (open_around (suc m)) n with_it c things t = rw (t.0, t.1) refl
struck_own committed n with_it c things t = rw t refl
struck_own rolled_back n with_it c things t = rw t refl

struck_write : (b : Bool) (n c d : ℕ) (key : ℤ) (value : Option ℤ) (things : List Standing) → cond b (struck_at n c things) (wrote d key value ∷ struck_at n c things) ≡ struck_at n c (cond b things (wrote d key value ∷ things))
struck_write true n c d key value things = refl
struck_write false zero c d key value things = refl
struck_write false (suc n) c d key value things = refl

-- the connection's own openings, and those of others
abbrev KeptStruck : ℕ → List Change → History → Type 0
KeptStruck c later past = kept (later ++ commits c ∷ []) past ≡ struck_at (opened_in c later) c (kept later past)

pub kept-commits : (c : ℕ) (later : List Change) (past : History) → KeptStruck c later past
kept-commits c later [] = elim (opened_in c later) as (λ n. ◌≡◌ {A = List Standing} [] (struck_at n c [])) [ zero ↦ refl | suc n ↦ refl ]
kept-commits c later (opens d ∷ past) =
    let rest = kept-commits c (opens d ∷ later) past in
    elim (eqb_tells d c) [
      | inl same ↦ subst (λ x. KeptStruck c (opens x ∷ later) past → KeptStruck c later (opens x ∷ past)) (sym same.1)
          (λ rest. rw (ending-snoc c (open_around 0) later (commits c), ended_by-own c (ending c later) (commits c) (eq-eqb c c refl), rest)
          (struck_own (ending c later) (opened_in c later) (opened_in c (opens c ∷ later)) c (kept (opens c ∷ later) past) (ties_own c later))) rest
      | inr other ↦
          let apart : (c == d) ≡ false = ne_eqb c d (λ e. other.1 (sym e)) in
          rw (ending-snoc d (open_around 0) later (commits c), ended_by-other d (ending d later) (commits c) apart, rest, opened_in-other c d later other.0)
          (struck_past (is_open (ending d later)) (opened_in c later) c d (kept (opens d ∷ later) past) other.0)
    ]
kept-commits c later (writes d key value ∷ past) =
    let rest = kept-commits c (writes d key value ∷ later) past in
    let undone = undone_kept (commits c) d (commits_undoes_none c d) [] (writes d key value ∷ later) past in
    rw (undone, rest, opened_in-none c d later) (struck_write (is_undone d [] (writes d key value ∷ later) past) (opened_in c later) c d key value (kept (writes d key value ∷ later) past))
kept-commits c later (commits d ∷ past) = rw (kept-commits c (commits d ∷ later) past) (ap (λ n. struck_at n c (kept (commits d ∷ later) past)) (opened_in-none c d later))
kept-commits c later (rolls_back d ∷ past) = rw (kept-commits c (rolls_back d ∷ later) past) (ap (λ n. struck_at n c (kept (rolls_back d ∷ later) past)) (opened_in-none c d later))
kept-commits c later (leaves d ∷ past) = rw (kept-commits c (leaves d ∷ later) past) (ap (λ n. struck_at n c (kept (leaves d ∷ later) past)) (opened_in-none c d later))
