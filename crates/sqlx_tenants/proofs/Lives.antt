-- How many connections are open behind more marks, and how many loans one ended.
use Rattle.std.proofs.Common.{◌≡◌, ℕ, ◌≤◌, ◌+◌, ◌||◌, ◌==◌, List, [], ◌∷◌, ◌++◌, Bool, true, false, cond, not, length, map, filter, count_by, Option, Some, None, option_to_list, sym, ap, refl, ◌∙◌, arith, append-nil, append_assoc, length-append, IsTrue}
use Rattle.std.specs.List.{list_any}
use Rattle.std.proofs.lemmas.Bool.{eqb-true}
use Rattle.sqlx_pool_marks.specs.declared.mark.Mark.{Mark}
use Rattle.sqlx_pool_marks.specs.declared.mark.Mark.TheVariants.{Asked, Left, Taken, Reaped, Opened, Lent, Kept, Closed, Detached, Leaked, Ended, Shut}
use Rattle.sqlx_pool_marks.specs.Standing.{still}
use Rattle.sqlx_pool_marks.specs.Marks.{Loan, IdleEntry, LiveConn, lends, ends_loan, loans_of, is_loan_of, opens, ends_life, live_of, is_live_conn}
use Rattle.sqlx_pool_marks.specs.View.{view_of}
use Rattle.sqlx_pool_marks.specs.FairLog.{IsSafe, is_live}
use Rattle.sqlx_pool_marks.proofs.ListFacts.{length-filter_not, count_by-map}
use Rattle.sqlx_pool_marks.proofs.Counting.{count-append, count-cons}
use Rattle.sqlx_pool_marks.proofs.Pushed.{live_of-push}
use Rattle.sqlx_pool_marks.proofs.SoundViews.{length-others, any-counts}
use Rattle.sqlx_pool_lists.specs.declared.ticket.OwnedConn.{OwnedConn}
use Rattle.sqlx_pool_lists.specs.Core.{Core, loan}
use Rattle.sqlx_pool_lists.specs.Edits.{without_loan}
use Rattle.sqlx_pool_lists.specs.StandsFor.{StandsIn}
use Rattle.sqlx_tenants_rules.specs.Rules.{closed_rest}

neither : (a b : Bool) → (a || b) ≡ false → (a ≡ false) × (b ≡ false)
neither true b e = absurd cc
neither false b e = (refl, e)

-- ---- open connections

-- how many connections the marks open
abbrev pub births : List Mark → ℕ
births [] = 0
births (m ∷ later) = length (option_to_list (opens m)) + births later

pub live-one : (marks : List Mark) (m : Mark) → length (live_of (marks ++ m ∷ [])) ≤ length (live_of marks) + length (option_to_list (opens m))
live-one marks m =
    let e = ap length (live_of-push marks m) in
    let a = length-append (filter (λ x. not (ends_life x m)) (live_of marks)) (option_to_list (opens m)) in
    let f = length-filter_not (λ x. ends_life x m) (live_of marks) in
    omega (arith, e, a, f)

-- at most as many are open as before, and those that the marks open
pub live-behind : (marks made : List Mark) → length (live_of (marks ++ made)) ≤ length (live_of marks) + births made
live-behind marks [] = let e = ap (λ l. length (live_of l)) (append-nil marks) in omega (arith, e)
live-behind marks (m ∷ made) =
    let e = ap (λ l. length (live_of l)) (sym (append_assoc marks (m ∷ []) made)) in
    let one = live-one marks m in
    let rest = live-behind (marks ++ m ∷ []) made in
    omega (arith, e, one, rest)

-- one that is closed was open
pub live-closed : (marks : List Mark) (c : ℕ) → IsTrue (is_live c (view_of marks)) → length (live_of (marks ++ Closed c ∷ [])) + 1 ≤ length (live_of marks)
live-closed marks c was =
    let e = ap length (live_of-push marks (Closed c)) in
    let a = length-append (filter (λ (b : LiveConn). not (b.conn == c)) (live_of marks)) [] in
    let f = length-others (λ (b : LiveConn). b.conn) c (live_of marks) in
    let some = any-counts (is_live_conn c) (live_of marks) was in
    omega (arith, e, a, f, some)

-- of idle connections that are closed each was open
pub live-all_closed : (max : ℕ) (marks : List Mark) (rs : List IdleEntry) → IsSafe max marks (map closed_rest rs) → length (live_of (marks ++ map closed_rest rs)) + length rs ≤ length (live_of marks)
live-all_closed max marks [] safe = let e = ap (λ l. length (live_of l)) (append-nil marks) in omega (arith, e)
live-all_closed max marks (r ∷ rs) safe =
    let e = ap (λ l. length (live_of l)) (sym (append_assoc marks (Closed r.conn ∷ []) (map closed_rest rs))) in
    let one = live-closed marks r.conn safe.0.finds in
    let rest = live-all_closed max (marks ++ Closed r.conn ∷ []) rs safe.1 in
    omega (arith, e, one, rest)

-- of a pool that is shut and closes its idle connections
pub live-shut : (max : ℕ) (marks : List Mark) (rs : List IdleEntry) → IsSafe max marks (Shut ∷ map closed_rest rs) → length (live_of (marks ++ Shut ∷ map closed_rest rs)) + length rs ≤ length (live_of marks)
live-shut max marks rs safe =
    let e = ap (λ l. length (live_of l)) (sym (append_assoc marks (Shut ∷ []) (map closed_rest rs))) in
    let one = live-one marks Shut in
    let rest = live-all_closed max (marks ++ Shut ∷ []) rs safe.1 in
    omega (arith, e, one, rest)

-- ---- loans

-- a loan that a mark doesn't end is of no connection that the mark lends
none-begun : (l : Loan) (m : Mark) (later : List Mark) → ends_loan l m ≡ false → count_by (is_loan_of l.conn) (still ends_loan (lends m) later) ≡ 0
none-begun l (Lent k c) later other = by (list_any (ends_loan (record { client = k; conn = c })) later)
  where
    by : (b : Bool) → count_by (is_loan_of l.conn) (cond b [] ((record { client = k; conn = c }) ∷ [])) ≡ 0
    by true = refl
    by false = count-cons (is_loan_of l.conn) (record { client = k; conn = c }) [] ∙ ap (λ (b : Bool). cond {A = ℕ} b 1 0 + 0) other
none-begun l (Asked t k d) later other = refl
none-begun l (Left t) later other = refl
none-begun l (Taken c) later other = refl
none-begun l (Reaped c) later other = refl
none-begun l (Opened c n) later other = refl
none-begun l (Kept c n) later other = refl
none-begun l (Closed c) later other = refl
none-begun l (Detached c) later other = refl
none-begun l (Leaked c) later other = refl
none-begun l (Ended t) later other = refl
none-begun l Shut later other = refl

-- a loan that later marks don't end is of no connection that they lend
none-later : (l : Loan) (later : List Mark) → list_any (ends_loan l) later ≡ false → count_by (is_loan_of l.conn) (loans_of later) ≡ 0
none-later l [] e = refl
none-later l (m ∷ later) e = count-append (is_loan_of l.conn) (still ends_loan (lends m) later) (loans_of later) ∙ both (none-later l later parts.1)
  where
    parts : (ends_loan l m ≡ false) × (list_any (ends_loan l) later ≡ false)
    parts = neither (ends_loan l m) (list_any (ends_loan l) later) e

    both : count_by (is_loan_of l.conn) (loans_of later) ≡ 0 → count_by (is_loan_of l.conn) (still ends_loan (lends m) later) + count_by (is_loan_of l.conn) (loans_of later) ≡ 0
    both rest = let a = none-begun l m later parts.0 in omega (arith, a, rest)

-- at most one loan of a connection goes on
one-begun : (c : ℕ) (o : Option Loan) (later : List Mark) → count_by (is_loan_of c) (loans_of later) ≤ 1 → count_by (is_loan_of c) (still ends_loan o later) + count_by (is_loan_of c) (loans_of later) ≤ 1
one-begun c None later rest = omega (arith, rest)
one-begun c (Some l) later rest = by (list_any (ends_loan l) later) refl
  where
    his : (b : Bool) → (c == l.conn) ≡ b → list_any (ends_loan l) later ≡ false → cond {A = ℕ} b 1 0 + count_by (is_loan_of c) (loans_of later) ≤ 1
    his true e none =
        let z = none-later l later none in
        let same = ap (λ n. count_by (is_loan_of n) (loans_of later)) (eqb-true c l.conn e) in
        omega (arith, z, same)
    his false e none = omega (arith, rest)

    by : (b : Bool) → list_any (ends_loan l) later ≡ b → count_by (is_loan_of c) (cond b [] (l ∷ [])) + count_by (is_loan_of c) (loans_of later) ≤ 1
    by true none = omega (arith, rest)
    by false none = let e = count-cons (is_loan_of c) l [] in let h = his (c == l.conn) refl none in omega (arith, e, h)

-- nobody shares a connection
loans-once : (c : ℕ) (marks : List Mark) → count_by (is_loan_of c) (loans_of marks) ≤ 1
loans-once c [] = omega arith
loans-once c (m ∷ later) =
    let e = count-append (is_loan_of c) (still ends_loan (lends m) later) (loans_of later) in
    let h = one-begun c (lends m) later (loans-once c later) in
    omega (arith, e, h)

-- no more than one loan ends with the connection that is given back
pub at-most-one-less : {C : Type 0} (core : Core C) (marks : List Mark) → StandsIn core marks → (c : ℕ) → length core.held ≤ length (without_loan c core.held) + 1
at-most-one-less core marks s c =
    let all = length-filter_not (λ (x : OwnedConn). c == x.conn) core.held in
    let counted = sym (count_by-map loan (is_loan_of c) core.held) ∙ ap (count_by (is_loan_of c)) s.loans in
    let once = loans-once c marks in
    omega (arith, all, counted, once)
