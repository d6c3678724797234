-- Who owns a connection, by a core's loans and by the marks that it stands for.
use Rattle.std.proofs.Common.{◌≡◌, ℕ, zero, suc, ◌+◌, ◌≤◌, ◌==◌, ◌&&◌, Bool, true, false, cond, List, [], ◌∷◌, map, find, count_by, is_some, option_map, Some, None, refl, sym, ap, ◌∙◌, arith}
use Rattle.sqlx_pool_marks.specs.declared.mark.Mark.{Mark}
use Rattle.sqlx_pool_lists.specs.declared.ticket.OwnedConn.{OwnedConn}
use Rattle.sqlx_pool_marks.specs.Marks.{Loan, is_loan_of, owner_of}
use Rattle.sqlx_pool_lists.specs.Core.{Core, loan, loan_of}
use Rattle.sqlx_pool_lists.specs.Sound.{IsNumbered, holds}
use Rattle.sqlx_pool_lists.specs.StandsFor.{StandsFor}
use Rattle.sqlx_pool_marks.proofs.ListFacts.{count_by-cons}
use Rattle.sqlx_script_rules.specs.ScriptLevels.{owns}

-- the client's loan, where there is one
pub none_held : (k c : ℕ) (held : List OwnedConn) → count_by (holds c) held ≡ 0 → loan_of k c held ≡ None
none_held k c [] e = refl
none_held k c (h ∷ held) e = by (λ z. none_held k c held z) (c == h.conn) (k == h.client) (sym (count_by-cons (holds c) h held) ∙ e)
  where
    by : (count_by (holds c) held ≡ 0 → loan_of k c held ≡ None) → (a b : Bool) → cond a 1 0 + count_by (holds c) held ≡ 0 → cond (a && b) (Some h) (loan_of k c held) ≡ None
    by rest true b z = absurd (omega (arith, z))
    by rest false b z = rest (omega (arith, z))

-- an owner of a connection that is owned once
owner_is : (k c : ℕ) (held : List OwnedConn) → count_by (holds c) held ≤ 1 → owns k (option_map (λ (l : Loan). l.client) (find (is_loan_of c) (map loan held))) ≡ is_some (loan_of k c held)
owner_is k c [] one = refl
owner_is k c (h ∷ held) one = by (λ z. owner_is k c held z) (c == h.conn) (k == h.client) refl (let same = count_by-cons (holds c) h held in omega (arith, one, same))
  where
    by : (count_by (holds c) held ≤ 1 → owns k (option_map (λ (l : Loan). l.client) (find (is_loan_of c) (map loan held))) ≡ is_some (loan_of k c held))
        → (a b : Bool) → (k == h.client) ≡ b → cond a 1 0 + count_by (holds c) held ≤ 1
        → owns k (option_map (λ (l : Loan). l.client) (cond a (Some (loan h)) (find (is_loan_of c) (map loan held)))) ≡ is_some (cond (a && b) (Some h) (loan_of k c held))
    by rest true true e z = e
    by rest true false e z = e ∙ sym (ap is_some (none_held k c held (omega (arith, z))))
    by rest false b e z = rest (omega (arith, z))

module _ {C : Type 0} (core : Core C) (sound : IsNumbered core) where
  pub held-once : (c : ℕ) → count_by (holds c) core.held ≤ 1
  held-once c = let once = sound.once c in omega (arith, once)

  pub owner-stands : (marks : List Mark) (k c : ℕ) → StandsFor core marks → owns k (owner_of c marks) ≡ is_some (loan_of k c core.held)
  owner-stands marks k c s = sym (ap (λ (l : List Loan). owns k (option_map (λ (l : Loan). l.client) (find (is_loan_of c) l))) s.loans) ∙ owner_is k c core.held (held-once c)

  -- the same the other way round
  pub owner-alike : (marks : List Mark) (k c : ℕ) → StandsFor core marks → is_some (loan_of k c core.held) ≡ owns k (owner_of c marks)
  owner-alike marks k c s = sym (owner-stands marks k c s)

-- a connection with a loan is counted
pub held-counted : (k c : ℕ) (held : List OwnedConn) → is_some (loan_of k c held) ≡ true → 1 ≤ count_by (holds c) held
held-counted k c held some = by (count_by (holds c) held) refl
  where
    by : (n : ℕ) → count_by (holds c) held ≡ n → 1 ≤ count_by (holds c) held
    by zero e = absurd (let none = ap is_some (none_held k c held e) in cc)
    by (suc n) e = omega (arith, e)
