-- A ticket that left the line is served: the second call of a poll.
use Rattle.std.proofs.Common.{◌≡◌, ℕ, ◌<◌, ◌≤◌, ◌+◌, ◌==◌, List, ◌++◌, Bool, true, false, cond, length, sym, refl, ◌∙◌, subst, arith, append_assoc}
use Rattle.sqlx_pool_marks.specs.declared.mark.Mark.{Mark}
use Rattle.sqlx_pool_marks.specs.Marks.{idle_of, loans_of, live_of, next_ticket, next_conn}
use Rattle.sqlx_family.specs.FamilyLogs.{FamilyLogs, StandTogether, with_marks}
use Rattle.sqlx_family.specs.Pools.{entry_of, pool_in}
use Rattle.sqlx_family.specs.Permits as permits
use Rattle.sqlx_pool_lists.specs.Core.{free}
use Rattle.sqlx_pool_lists.specs.StandsFor.{StandsIn}
use Rattle.sqlx_family.proofs.LogLemmas.{stand-moved}
use Rattle.sqlx_tenants_rules.specs.declared.event.Opening.{Opening}
use Rattle.sqlx_tenants_rules.specs.Book.{Book, moved}
use Rattle.sqlx_lines.specs.Numbers.{nanos}
use Rattle.sqlx_tenants.specs.Keeps.{Keeps, logs_of}
use Rattle.sqlx_tenants.proofs.Alike.{Family, alike-moved}
use Rattle.sqlx_tenants.proofs.Books.{same-moved}
use Rattle.sqlx_tenants.proofs.Reading.{is, named}
use Rattle.sqlx_tenants.proofs.Entitled.{root-idle}

-- two lots of marks behind one log
pub marks-joined : (q : ℕ) (one two : List Mark) (logs : ℕ → List Mark) (p : ℕ) → with_marks q two (with_marks q one logs) p ≡ with_marks q (one ++ two) logs p
marks-joined q one two logs p = by (p == q)
  where
    by : (b : Bool) → cond b (cond b (logs p ++ one) (logs p) ++ two) (cond b (logs p ++ one) (logs p)) ≡ cond b (logs p ++ (one ++ two)) (logs p)
    by true = append_assoc (logs p) one two
    by false = refl

-- the family stands for its logs with both lots
pub stand-joined : (f mid new : Family) (q : ℕ) (one two : List Mark) (logs : ℕ → List Mark) → StandTogether mid (with_marks q one logs) → FamilyLogs mid q two new → StandTogether new (with_marks q (one ++ two) logs)
stand-joined f mid new q one two logs stand makes r below = subst (StandsIn (pool_in r new)) (marks-joined q one two logs r) ((makes (with_marks q one logs) stand).stand r below)

-- a permit that a ticket takes from the root moves in the book too
module _ (first : Opening) (f : Family) (book : Book) (m q : ℕ) (k : Keeps first f book m) (lt : q < length f.pools) where
  here : q < length book
  here = named first f book m k q lt

  pub moved-keeps : 0 < free (entry_of 0 f).core → Keeps first (permits.moved 0 q 1 f) (moved 0 q 1 book) m
  moved-keeps some =
      let same = same-moved 0 q 1 book (omega (arith, here)) here in
      record {
        alike = alike-moved (nanos first.timeout) 0 q 1 1 f book (omega (arith, here)) here k.alike refl
            (let e = root-idle first f book m k (omega (arith, lt)) in let c = (is first f book m k 0 (omega (arith, lt))).rests in let a = c.covered in omega (arith, e, a, some));
        some = let e = same.names in let n = k.some in omega (arith, e, n);
        few = let e = same.names in let n = k.few in omega (arith, e, n);
        logs = λ r below. subst (StandsIn (pool_in r (permits.moved 0 q 1 f))) (sym (same.marks r)) (stand-moved 0 q 1 f (logs_of book) (omega (arith, lt)) lt k.logs r below);
        root = same.marks 0 ∙ k.root;
        limit = same.budgets 0 ∙ k.limit;
        tickets = k.tickets ∙ sym (same.greatest next_ticket);
        conns = k.conns ∙ sym (same.greatest next_conn);
        reached = k.reached;
        lives = λ r below. subst (λ (l : List Mark). length (live_of l) ≤ length (idle_of l) + length (loans_of l)) (sym (same.marks r)) (k.lives r (let n = same.names in omega (arith, below, n)));
      }
