-- What a rollback and the end of a connection strike out of what is kept.
use Rattle.std.proofs.Common.{◌≡◌, ℕ, zero, suc, ◌==◌, ℤ, Bool, true, false, not, cond, ◌&&◌, ◌||◌, Option, List, [], ◌∷◌, ◌++◌, refl, sym, ap, subst, inl, inr, eq-eqb, ne_eqb}
use Rattle.std.proofs.lemmas.Bool.Decides.{eqb_tells}
use Rattle.sqlx_savepoints.specs.Changes.{Change, opens, writes, commits, rolls_back, leaves, connection_of, History}
use Rattle.sqlx_savepoints.specs.Brackets.{Ending, open_around, committed, rolled_back, turned, ending, is_open, is_rolled_back}
use Rattle.sqlx_savepoints.specs.Standing.{Standing, opened, wrote, is_zero, depth_of, cut, cut_if_open, cleared}
use Rattle.sqlx_savepoints.proofs.Kept.{kept, is_undone, opened_in, Ties, ties_own, opened_in-other, opened_in-none, ending-snoc, ended_by-other, ended_by-own, undone_kept}
use Rattle.sqlx_savepoints.proofs.Undone.{RollsBack, undone_by, has_open}

-- a change of another connection undoes no write of this one
undone_other : (change : Change) (d : ℕ) → (connection_of change == d) ≡ false → (since : List Change) (past : History) → is_undone d [] (since ++ change ∷ []) past ≡ is_undone d [] since past
undone_other change d apart since past = undone_kept change d (λ e. ap is_rolled_back (ended_by-other d e change apart)) [] since past

-- ---- a rollback
abbrev pub cut_at : ℕ → ℕ → List Standing → List Standing
cut_at zero c things = cut_if_open c things
cut_at (suc n) c things = things

rolls : (c : ℕ) → RollsBack (rolls_back c) c is_zero
rolls c = record { own = eq-eqb c c refl; rolls = λ n. elim n as (λ n. is_rolled_back (turned (open_around n) (rolls_back c)) ≡ is_zero n) [ zero ↦ refl | suc n ↦ refl ]; fewer = λ n e. refl }

cut_past : (b : Bool) (n c d : ℕ) (things : List Standing) → (d == c) ≡ false → cond b (opened d ∷ cut_at n c things) (cut_at n c things) ≡ cut_at n c (cond b (opened d ∷ things) things)
cut_past true zero c d things other = rw other (elim (is_zero (depth_of c things)) as (λ z. opened d ∷ cond z things (cut c things) ≡ cond z (opened d ∷ things) (opened d ∷ cut c things)) [ true ↦ refl | false ↦ refl ])
cut_past true (suc n) c d things other = refl
cut_past false n c d things other = refl

cut_own : (e : Ending) (n with_it c : ℕ) (things : List Standing) → Ties e with_it n → cond (is_open (turned e (rolls_back c))) (opened c ∷ cut_at with_it c things) (cut_at with_it c things) ≡ cut_at n c (cond (is_open e) (opened c ∷ things) things)
cut_own (open_around zero) n with_it c things t = rw (t.0, t.1, eq-eqb c c refl) refl
cut_own (open_around (suc m)) n with_it c things t = rw (t.0, t.1) refl
cut_own committed n with_it c things t = rw t refl
cut_own rolled_back n with_it c things t = rw t refl

cut_write : (r : Bool) (n c d : ℕ) (key : ℤ) (value : Option ℤ) (things : List Standing) → (d == c) ≡ false → cond r (cut_at n c things) (wrote d key value ∷ cut_at n c things) ≡ cut_at n c (cond r things (wrote d key value ∷ things))
cut_write true n c d key value things other = refl
cut_write false zero c d key value things other = rw other (elim (is_zero (depth_of c things)) as (λ z. wrote d key value ∷ cond z things (cut c things) ≡ cond z (wrote d key value ∷ things) (wrote d key value ∷ cut c things)) [ true ↦ refl | false ↦ refl ])
cut_write false (suc n) c d key value things other = refl

cut_own_write : (r : Bool) (n c : ℕ) (key : ℤ) (value : Option ℤ) (things : List Standing) → cond (r || (is_zero n && has_open c things)) (cut_at n c things) (wrote c key value ∷ cut_at n c things) ≡ cut_at n c (cond r things (wrote c key value ∷ things))
cut_own_write true n c key value things = refl
cut_own_write false zero c key value things = rw (eq-eqb c c refl) (elim (is_zero (depth_of c things)) as (λ z. cond (not z) (cond z things (cut c things)) (wrote c key value ∷ cond z things (cut c things)) ≡ cond z (wrote c key value ∷ things) (cut c things)) [ true ↦ refl | false ↦ refl ])
cut_own_write false (suc n) c key value things = refl

abbrev KeptCut : ℕ → List Change → History → Type 0
KeptCut c later past = kept (later ++ rolls_back c ∷ []) past ≡ cut_at (opened_in c later) c (kept later past)

pub kept-rolls_back : (c : ℕ) (later : List Change) (past : History) → KeptCut c later past
kept-rolls_back c later [] = elim (opened_in c later) as (λ n. ◌≡◌ {A = List Standing} [] (cut_at n c [])) [ zero ↦ refl | suc n ↦ refl ]
kept-rolls_back c later (opens d ∷ past) =
    let rest = kept-rolls_back c (opens d ∷ later) past in
    elim (eqb_tells d c) [
      | inl same ↦ subst (λ x. KeptCut c (opens x ∷ later) past → KeptCut c later (opens x ∷ past)) (sym same.1)
          (λ rest. rw (ending-snoc c (open_around 0) later (rolls_back c), ended_by-own c (ending c later) (rolls_back c) (eq-eqb c c refl), rest)
          (cut_own (ending c later) (opened_in c later) (opened_in c (opens c ∷ later)) c (kept (opens c ∷ later) past) (ties_own c later))) rest
      | inr other ↦
          let apart : (c == d) ≡ false = ne_eqb c d (λ e. other.1 (sym e)) in
          rw (ending-snoc d (open_around 0) later (rolls_back c), ended_by-other d (ending d later) (rolls_back c) apart, rest, opened_in-other c d later other.0)
          (cut_past (is_open (ending d later)) (opened_in c later) c d (kept (opens d ∷ later) past) other.0)
    ]
kept-rolls_back c later (writes d key value ∷ past) =
    let rest = kept-rolls_back c (writes d key value ∷ later) past in
    elim (eqb_tells d c) [
      | inl same ↦ subst (λ x. KeptCut c (writes x key value ∷ later) past → KeptCut c later (writes x key value ∷ past)) (sym same.1)
          (λ rest. rw (undone_by (rolls_back c) c is_zero (rolls c) [] (writes c key value ∷ later) past, rest, opened_in-none c c later)
          (cut_own_write (is_undone c [] (writes c key value ∷ later) past) (opened_in c later) c key value (kept (writes c key value ∷ later) past))) rest
      | inr other ↦
          let apart : (c == d) ≡ false = ne_eqb c d (λ e. other.1 (sym e)) in
          rw (undone_other (rolls_back c) d apart (writes d key value ∷ later) past, rest, opened_in-none c d later)
          (cut_write (is_undone d [] (writes d key value ∷ later) past) (opened_in c later) c d key value (kept (writes d key value ∷ later) past) other.0)
    ]
kept-rolls_back c later (commits d ∷ past) = rw (kept-rolls_back c (commits d ∷ later) past) (ap (λ n. cut_at n c (kept (commits d ∷ later) past)) (opened_in-none c d later))
kept-rolls_back c later (rolls_back d ∷ past) = rw (kept-rolls_back c (rolls_back d ∷ later) past) (ap (λ n. cut_at n c (kept (rolls_back d ∷ later) past)) (opened_in-none c d later))
kept-rolls_back c later (leaves d ∷ past) = rw (kept-rolls_back c (leaves d ∷ later) past) (ap (λ n. cut_at n c (kept (leaves d ∷ later) past)) (opened_in-none c d later))

-- ---- the end of a connection
ends : (c : ℕ) → RollsBack (leaves c) c (λ _. true)
ends c = record { own = eq-eqb c c refl; rolls = λ n. elim n as (λ n. is_rolled_back (turned (open_around n) (leaves c)) ≡ true) [ zero ↦ refl | suc n ↦ refl ]; fewer = λ n e. e }

cleared_past : (b : Bool) (c d : ℕ) (things : List Standing) → (d == c) ≡ false → cond b (opened d ∷ cleared c things) (cleared c things) ≡ cleared c (cond b (opened d ∷ things) things)
cleared_past true c d things other = rw other refl
cleared_past false c d things other = refl

cleared_own : (e : Ending) (c : ℕ) (things : List Standing) → cond (is_open (turned e (leaves c))) (opened c ∷ cleared c things) (cleared c things) ≡ cleared c (cond (is_open e) (opened c ∷ things) things)
cleared_own (open_around zero) c things = rw (eq-eqb c c refl) refl
cleared_own (open_around (suc n)) c things = rw (eq-eqb c c refl) refl
cleared_own committed c things = refl
cleared_own rolled_back c things = refl

cleared_write : (r : Bool) (c d : ℕ) (key : ℤ) (value : Option ℤ) (things : List Standing) → (d == c) ≡ false → cond r (cleared c things) (wrote d key value ∷ cleared c things) ≡ cleared c (cond r things (wrote d key value ∷ things))
cleared_write true c d key value things other = refl
cleared_write false c d key value things other = rw other refl

cleared_own_write : (r : Bool) (c : ℕ) (key : ℤ) (value : Option ℤ) (things : List Standing) → cond (r || (true && has_open c things)) (cleared c things) (wrote c key value ∷ cleared c things) ≡ cleared c (cond r things (wrote c key value ∷ things))
cleared_own_write true c key value things = refl
cleared_own_write false c key value things = rw (eq-eqb c c refl) refl

abbrev KeptCleared : ℕ → List Change → History → Type 0
KeptCleared c later past = kept (later ++ leaves c ∷ []) past ≡ cleared c (kept later past)

pub kept-leaves : (c : ℕ) (later : List Change) (past : History) → KeptCleared c later past
kept-leaves c later [] = refl
kept-leaves c later (opens d ∷ past) =
    let rest = kept-leaves c (opens d ∷ later) past in
    elim (eqb_tells d c) [
      | inl same ↦ subst (λ x. KeptCleared c (opens x ∷ later) past → KeptCleared c later (opens x ∷ past)) (sym same.1)
          (λ rest. rw (ending-snoc c (open_around 0) later (leaves c), ended_by-own c (ending c later) (leaves c) (eq-eqb c c refl), rest) (cleared_own (ending c later) c (kept (opens c ∷ later) past))) rest
      | inr other ↦
          let apart : (c == d) ≡ false = ne_eqb c d (λ e. other.1 (sym e)) in
          rw (ending-snoc d (open_around 0) later (leaves c), ended_by-other d (ending d later) (leaves c) apart, rest) (cleared_past (is_open (ending d later)) c d (kept (opens d ∷ later) past) other.0)
    ]
kept-leaves c later (writes d key value ∷ past) =
    let rest = kept-leaves c (writes d key value ∷ later) past in
    elim (eqb_tells d c) [
      | inl same ↦ subst (λ x. KeptCleared c (writes x key value ∷ later) past → KeptCleared c later (writes x key value ∷ past)) (sym same.1)
          (λ rest. rw (undone_by (leaves c) c (λ _. true) (ends c) [] (writes c key value ∷ later) past, rest) (cleared_own_write (is_undone c [] (writes c key value ∷ later) past) c key value (kept (writes c key value ∷ later) past))) rest
      | inr other ↦
          let apart : (c == d) ≡ false = ne_eqb c d (λ e. other.1 (sym e)) in
          rw (undone_other (leaves c) d apart (writes d key value ∷ later) past, rest) (cleared_write (is_undone d [] (writes d key value ∷ later) past) c d key value (kept (writes d key value ∷ later) past) other.0)
    ]
kept-leaves c later (commits d ∷ past) = kept-leaves c (commits d ∷ later) past
kept-leaves c later (rolls_back d ∷ past) = kept-leaves c (rolls_back d ∷ later) past
kept-leaves c later (leaves d ∷ past) = kept-leaves c (leaves d ∷ later) past
