-- What a cut leaves as it was: tickets, loans, idle and opened connections, leaks, the close, and the numbers that come next.
use Rattle.std.proofs.Common.{◌≡◌, ℕ, ◌+◌, Bool, true, false, cond, not, ◌||◌, ◌==◌, List, [], ◌∷◌, ◌++◌, Option, Some, None, ◌⊎◌, count_by, refl, sym, ap, ◌∙◌, subst, inl, inr, arith, All, length, ◌≤◌}
use Rattle.std.specs.List.{list_any}
use Rattle.std.proofs.lemmas.List.Elements.{All-cons, All-head, All-tail}
use Rattle.std.proofs.lemmas.Bool.{cases_eq, ne_eqb, eq-eqb, eqb-true}
use Rattle.sqlx_pool_marks.specs.declared.mark.Mark.{Mark}
use Rattle.sqlx_pool_marks.specs.declared.mark.Mark.TheVariants.{Asked, Left, Taken, Reaped, Opened, Lent, Kept, Closed, Detached, Leaked, Ended, Shut}
use Rattle.sqlx_pool_marks.specs.Standing.{still, standing, next_after, next_number}
use Rattle.sqlx_pool_marks.specs.Marks.{PendingTicket, Loan, IdleEntry, LiveConn, tickets_of, loans_of, idle_of, live_of, leaked_of, is_shut, is_leak, is_ended, is_left, unended, asks, lends, ends_loan, keeps, ends_rest, opens, ends_conn, ends_life, asked_number, opened_number, next_ticket, next_conn}
use Rattle.sqlx_pool_marks.specs.View.{View, view_of}
use Rattle.sqlx_pool_marks.specs.Cut.{is_last, is_needed, needed_of, cut_of}
use Rattle.sqlx_pool_marks.proofs.ListFacts.{count_by-cons, or-true}

same-number : (a b : ℕ) → (a == b) ≡ true → a ≡ b
same-number a b is = eqb-true a b is

-- P of what is there
abbrev holds_for : {X : Type 0} → (X → Bool) → Option X → Bool
holds_for P None = false
holds_for P (Some x) = P x

-- the number that is there, or n
abbrev number_or : ℕ → Option ℕ → ℕ
number_or n None = n
number_or n (Some m) = m

-- numbers drawn behind n: none, or the last of them, whatever n is
pub none-or-last : (draws : Mark → Option ℕ) (n : ℕ) (marks : List Mark) → (next_number draws n marks ≡ n) ⊎ ((b : ℕ) → next_number draws b marks ≡ next_number draws n marks)
none-or-last draws n [] = inl refl
none-or-last draws n (m ∷ later) = by (none-or-last draws n later) (draws m)
  where
    by : (next_number draws n later ≡ n) ⊎ ((b : ℕ) → next_number draws b later ≡ next_number draws n later) → (o : Option ℕ) → (next_number draws (next_after o n) later ≡ n) ⊎ ((b : ℕ) → next_number draws (next_after o b) later ≡ next_number draws (next_after o n) later)
    by rest None = rest
    by rest (Some t) = inr (λ b. refl)

module _ (ticket conn : ℕ) where
  abbrev needed : List Mark → List Mark
  needed = needed_of ticket conn

  -- what no mark does, no needed one does
  none-needed : (q : Mark → Bool) (marks : List Mark) → list_any q marks ≡ false → list_any q (needed marks) ≡ false
  none-needed q [] e = refl
  none-needed q (m ∷ later) e = by (none-needed q later) (q m) refl e (is_needed ticket conn m later)
    where
      by : (list_any q later ≡ false → list_any q (needed later) ≡ false) → (b : Bool) → q m ≡ b → (b || list_any q later) ≡ false → (n : Bool) → list_any q (cond n (m ∷ needed later) (needed later)) ≡ false
      by rest true is none n = absurd cc
      by rest false is none true = ap (λ b. b || list_any q (needed later)) is ∙ rest none
      by rest false is none false = rest none

  -- what only needed marks do
  any-needed : (q : Mark → Bool) → ((m : Mark) (later : List Mark) → q m ≡ true → is_needed ticket conn m later ≡ true) → (marks : List Mark) → list_any q (needed marks) ≡ list_any q marks
  any-needed q all [] = refl
  any-needed q all (m ∷ later) = by (any-needed q all later) (q m) refl (is_needed ticket conn m later) refl
    where
      by : list_any q (needed later) ≡ list_any q later → (b : Bool) → q m ≡ b → (n : Bool) → is_needed ticket conn m later ≡ n → list_any q (cond n (m ∷ needed later) (needed later)) ≡ (q m || list_any q later)
      by rest b is true needs = ap (λ r. q m || r) rest
      by rest true is false needs = absurd (let f = all m later is in cc)
      by rest false is false needs = rest ∙ ap (λ b. b || list_any q later) (sym is)

  -- ---- tickets

  ended-needed : (t : ℕ) → is_last ticket t ≡ true → (m : Mark) (later : List Mark) → is_ended t m ≡ true → is_needed ticket conn m later ≡ true
  ended-needed t last (Ended u) later is = ap (is_last ticket) (sym (same-number t u is)) ∙ last
  ended-needed t last m later is = absurd cc

  -- a ticket that doesn't end leaves the line in the cut, too
  left-needed : (t : ℕ) (marks : List Mark) → list_any (is_ended t) marks ≡ false → list_any (is_left t) (needed marks) ≡ list_any (is_left t) marks
  left-needed t [] e = refl
  left-needed t (m ∷ later) e = by (left-needed t later) (is_ended t m) e (is_left t m) refl (is_needed ticket conn m later) refl
    where
      goes : (m : Mark) → is_left t m ≡ true → list_any (is_ended t) later ≡ false → is_needed ticket conn m later ≡ true
      goes (Left u) is e = ap (λ (n : ℕ). not (list_any (is_ended n) later)) (sym (same-number t u is)) ∙ ap not e
      goes m is e = absurd cc

      by : (list_any (is_ended t) later ≡ false → list_any (is_left t) (needed later) ≡ list_any (is_left t) later) → (a : Bool) → (a || list_any (is_ended t) later) ≡ false → (b : Bool) → is_left t m ≡ b → (n : Bool) → is_needed ticket conn m later ≡ n
          → list_any (is_left t) (cond n (m ∷ needed later) (needed later)) ≡ (is_left t m || list_any (is_left t) later)
      by rest true e b is n needs = absurd cc
      by rest false e b is true needs = ap (λ r. is_left t m || r) (rest e)
      by rest false e true is false needs = absurd (let f = goes m is e in cc)
      by rest false e false is false needs = rest e ∙ ap (λ b. b || list_any (is_left t) later) (sym is)

  tickets-needed : (marks : List Mark) → tickets_of (needed marks) ≡ tickets_of marks
  tickets-needed [] = refl
  tickets-needed (m ∷ later) = by m (tickets-needed later)
    where
      none : (m : Mark) → asks m ≡ None → (n : Bool) → tickets_of (needed later) ≡ tickets_of later → tickets_of (cond n (m ∷ needed later) (needed later)) ≡ unended (asks m) later ++ tickets_of later
      none m is true same = ap (λ o. unended o (needed later) ++ tickets_of (needed later)) is ∙ same ∙ sym (ap (λ o. unended o later ++ tickets_of later) is)
      none m is false same = same ∙ sym (ap (λ o. unended o later ++ tickets_of later) is)

      one : (a : PendingTicket) (e f g h : Bool) → e ≡ f → (f ≡ false → g ≡ h) → cond e [] ((record a { left = g }) ∷ []) ≡ cond f [] ((record a { left = h }) ∷ [])
      one a true true g h same flag = refl
      one a false false g h same flag = ap (λ (b : Bool). (record a { left = b }) ∷ []) (flag refl)
      one a true false g h same flag = absurd cc
      one a false true g h same flag = absurd cc

      asked : (t k d : ℕ) → tickets_of (needed later) ≡ tickets_of later → (last e : Bool) → is_last ticket t ≡ last → list_any (is_ended t) later ≡ e
          → tickets_of (cond (last || not e) (Asked t k d ∷ needed later) (needed later)) ≡ unended (asks (Asked t k d)) later ++ tickets_of later
      asked t k d same true e last is =
          ap (λ (l : List PendingTicket). unended (asks (Asked t k d)) (needed later) ++ l) same
          ∙ ap (λ (l : List PendingTicket). l ++ tickets_of later) (one (record { ticket = t; client = k; deadline = d; left = false }) _ _ _ _ (any-needed (is_ended t) (ended-needed t last) later) (left-needed t later))
      asked t k d same false false last is =
          ap (λ (l : List PendingTicket). unended (asks (Asked t k d)) (needed later) ++ l) same
          ∙ ap (λ (l : List PendingTicket). l ++ tickets_of later) (one (record { ticket = t; client = k; deadline = d; left = false }) _ _ _ _ (none-needed (is_ended t) later is ∙ sym is) (left-needed t later))
      asked t k d same false true last is = same ∙ ap (λ (e : Bool). cond e [] ((record { ticket = t; client = k; deadline = d; left = list_any (is_left t) later }) ∷ []) ++ tickets_of later) (sym is)

      by : (m : Mark) → tickets_of (needed later) ≡ tickets_of later → tickets_of (cond (is_needed ticket conn m later) (m ∷ needed later) (needed later)) ≡ unended (asks m) later ++ tickets_of later
      by (Asked t k d) same = asked t k d same (is_last ticket t) (list_any (is_ended t) later) refl refl
      by m same = none m refl (is_needed ticket conn m later) same

  -- ---- what stands

  -- x stands in a cut as it stands in the whole
  module _ {X : Type 0} (begins : Mark → Option X) (ends : X → Mark → Bool)
      (begun : (m : Mark) (later : List Mark) (x : X) → begins m ≡ Some x → list_any (ends x) later ≡ false → is_needed ticket conn m later ≡ true)
      (over : (m : Mark) (later : List Mark) (x : X) → begins m ≡ Some x → list_any (ends x) later ≡ true → is_needed ticket conn m later ≡ true → list_any (ends x) (needed later) ≡ true) where
    standing-needed : (marks : List Mark) → standing begins ends (needed marks) ≡ standing begins ends marks
    standing-needed [] = refl
    standing-needed (m ∷ later) = by (begins m) refl (is_needed ticket conn m later) refl (standing-needed later)
      where
        some : (x : X) → begins m ≡ Some x → (e n : Bool) → list_any (ends x) later ≡ e → is_needed ticket conn m later ≡ n → standing begins ends (needed later) ≡ standing begins ends later
            → standing begins ends (cond n (m ∷ needed later) (needed later)) ≡ still ends (Some x) later ++ standing begins ends later
        some x is true true e needs same =
            ap (λ o. still ends o (needed later) ++ standing begins ends (needed later)) is
            ∙ ap (λ (b : Bool). cond b [] (x ∷ []) ++ standing begins ends (needed later)) (over m later x is e needs)
            ∙ same ∙ ap (λ (b : Bool). cond b [] (x ∷ []) ++ standing begins ends later) (sym e)
        some x is true false e needs same = same ∙ ap (λ (b : Bool). cond b [] (x ∷ []) ++ standing begins ends later) (sym e)
        some x is false true e needs same =
            ap (λ o. still ends o (needed later) ++ standing begins ends (needed later)) is
            ∙ ap (λ (b : Bool). cond b [] (x ∷ []) ++ standing begins ends (needed later)) (none-needed (ends x) later e)
            ∙ ap (λ (l : List X). x ∷ l) same ∙ ap (λ (b : Bool). cond b [] (x ∷ []) ++ standing begins ends later) (sym e)
        some x is false false e needs same = absurd (let f = begun m later x is e in cc)

        by : (o : Option X) → begins m ≡ o → (n : Bool) → is_needed ticket conn m later ≡ n → standing begins ends (needed later) ≡ standing begins ends later
            → standing begins ends (cond n (m ∷ needed later) (needed later)) ≡ still ends (begins m) later ++ standing begins ends later
        by None is true needs same = ap (λ o. still ends o (needed later) ++ standing begins ends (needed later)) is ∙ same ∙ ap (λ o. still ends o later ++ standing begins ends later) (sym is)
        by None is false needs same = same ∙ ap (λ o. still ends o later ++ standing begins ends later) (sym is)
        by (Some x) is n needs same = some x is (list_any (ends x) later) n refl needs same ∙ ap (λ o. still ends o later ++ standing begins ends later) (sym is)

  not-false : (b : Bool) → not b ≡ true → b ≡ false
  not-false false e = refl
  not-false true e = absurd cc

  loans-needed : (marks : List Mark) → loans_of (needed marks) ≡ loans_of marks
  loans-needed = standing-needed lends ends_loan begun over
    where
      same : (k c : ℕ) (later : List Mark) (x : Loan) → lends (Lent k c) ≡ Some x → list_any (ends_loan (record { client = k; conn = c })) later ≡ list_any (ends_loan x) later
      same k c later x is = ap (holds_for (λ (l : Loan). list_any (ends_loan l) later)) is

      begun : (m : Mark) (later : List Mark) (x : Loan) → lends m ≡ Some x → list_any (ends_loan x) later ≡ false → is_needed ticket conn m later ≡ true
      begun (Lent k c) later x is e = ap not (same k c later x is ∙ e)
      begun m later x is e = absurd cc

      over : (m : Mark) (later : List Mark) (x : Loan) → lends m ≡ Some x → list_any (ends_loan x) later ≡ true → is_needed ticket conn m later ≡ true → list_any (ends_loan x) (needed later) ≡ true
      over (Lent k c) later x is e needs = absurd (let f = not-false _ needs in let g = same k c later x is in cc)
      over m later x is e needs = absurd cc

  idle-needed : (marks : List Mark) → idle_of (needed marks) ≡ idle_of marks
  idle-needed = standing-needed keeps ends_rest begun over
    where
      same : (c t : ℕ) (later : List Mark) (x : IdleEntry) → keeps (Kept c t) ≡ Some x → list_any (ends_rest (record { conn = c; since = t })) later ≡ list_any (ends_rest x) later
      same c t later x is = ap (holds_for (λ (r : IdleEntry). list_any (ends_rest r) later)) is

      begun : (m : Mark) (later : List Mark) (x : IdleEntry) → keeps m ≡ Some x → list_any (ends_rest x) later ≡ false → is_needed ticket conn m later ≡ true
      begun (Kept c t) later x is e = ap not (same c t later x is ∙ e)
      begun m later x is e = absurd cc

      over : (m : Mark) (later : List Mark) (x : IdleEntry) → keeps m ≡ Some x → list_any (ends_rest x) later ≡ true → is_needed ticket conn m later ≡ true → list_any (ends_rest x) (needed later) ≡ true
      over (Kept c t) later x is e needs = absurd (let f = not-false _ needs in let g = same c t later x is in cc)
      over m later x is e needs = absurd cc

  gone-needed : (c : ℕ) → is_last conn c ≡ true → (m : Mark) (later : List Mark) → ends_conn c m ≡ true → is_needed ticket conn m later ≡ true
  gone-needed c last (Reaped d) later is = ap (is_last conn) (sym (same-number c d is)) ∙ last
  gone-needed c last (Closed d) later is = ap (is_last conn) (sym (same-number c d is)) ∙ last
  gone-needed c last (Detached d) later is = ap (is_last conn) (sym (same-number c d is)) ∙ last
  gone-needed c last (Leaked d) later is = refl
  gone-needed c last m later is = absurd cc

  live-needed : (marks : List Mark) → live_of (needed marks) ≡ live_of marks
  live-needed = standing-needed opens ends_life begun over
    where
      same : (c t : ℕ) (later : List Mark) (x : LiveConn) → opens (Opened c t) ≡ Some x → list_any (ends_conn c) later ≡ list_any (ends_life x) later
      same c t later x is = ap (holds_for (λ (b : LiveConn). list_any (ends_life b) later)) is

      number : (c t : ℕ) (x : LiveConn) → opens (Opened c t) ≡ Some x → (later : List Mark) → list_any (ends_conn c) (needed later) ≡ list_any (ends_life x) (needed later)
      number c t x is later = ap (holds_for (λ (b : LiveConn). list_any (ends_life b) (needed later))) is

      begun : (m : Mark) (later : List Mark) (x : LiveConn) → opens m ≡ Some x → list_any (ends_life x) later ≡ false → is_needed ticket conn m later ≡ true
      begun (Opened c t) later x is e = ap (λ (b : Bool). is_last conn c || not b) (same c t later x is ∙ e) ∙ or-true (is_last conn c)
      begun m later x is e = absurd cc

      over : (m : Mark) (later : List Mark) (x : LiveConn) → opens m ≡ Some x → list_any (ends_life x) later ≡ true → is_needed ticket conn m later ≡ true → list_any (ends_life x) (needed later) ≡ true
      over (Opened c t) later x is e needs = by (is_last conn c) refl needs
        where
          by : (last : Bool) → is_last conn c ≡ last → (last || not (list_any (ends_conn c) later)) ≡ true → list_any (ends_life x) (needed later) ≡ true
          by true last needs = sym (number c t x is later) ∙ any-needed (ends_conn c) (gone-needed c last) later ∙ same c t later x is ∙ e
          by false last needs = absurd (let f = not-false _ needs in let g = same c t later x is in cc)
      over m later x is e needs = absurd cc

  -- ---- the rest

  shut-needed : (marks : List Mark) → list_any is_shut (needed marks) ≡ list_any is_shut marks
  shut-needed = any-needed is_shut all
    where
      all : (m : Mark) (later : List Mark) → is_shut m ≡ true → is_needed ticket conn m later ≡ true
      all Shut later is = refl
      all m later is = absurd cc

  leaked-needed : (marks : List Mark) → leaked_of (needed marks) ≡ leaked_of marks
  leaked-needed [] = refl
  leaked-needed (m ∷ later) = by (leaked-needed later) (is_leak m) refl (is_needed ticket conn m later) refl ∙ sym (count_by-cons is_leak m later)
    where
      all : (m : Mark) → is_leak m ≡ true → is_needed ticket conn m later ≡ true
      all (Leaked c) is = refl
      all m is = absurd cc

      by : leaked_of (needed later) ≡ leaked_of later → (b : Bool) → is_leak m ≡ b → (n : Bool) → is_needed ticket conn m later ≡ n → count_by is_leak (cond n (m ∷ needed later) (needed later)) ≡ cond (is_leak m) 1 0 + count_by is_leak later
      by rest b is true needs = count_by-cons is_leak m (needed later) ∙ ap (λ (n : ℕ). cond (is_leak m) 1 0 + n) rest
      by rest true is false needs = absurd (let f = all m is in cc)
      by rest false is false needs = omega (arith, rest) ∙ ap (λ (b : Bool). cond b 1 0 + count_by is_leak later) (sym is)

  -- the number that comes next is told by a needed mark
  module _ (draws : Mark → Option ℕ) (next : ℕ)
      (last : (m : Mark) (later : List Mark) (t : ℕ) → draws m ≡ Some t → is_needed ticket conn m later ≡ false → t + 1 ≡ next → ⊥) where
    number-needed : (n : ℕ) (marks : List Mark) → next_number draws n marks ≡ next → next_number draws n (needed marks) ≡ next
    number-needed n [] e = e
    number-needed n (m ∷ later) e = by (λ k. number-needed k later) (draws m) refl e (is_needed ticket conn m later) refl
      where
        left_out : (t : ℕ) → draws m ≡ Some t → is_needed ticket conn m later ≡ false → next_number draws (t + 1) (needed later) ≡ next
            → (next_number draws (t + 1) (needed later) ≡ t + 1) ⊎ ((b : ℕ) → next_number draws b (needed later) ≡ next_number draws (t + 1) (needed later)) → next_number draws n (needed later) ≡ next
        left_out t is needs e (inl none) = absurd (last m later t is needs (sym none ∙ e))
        left_out t is needs e (inr any) = any n ∙ e

        by : ((k : ℕ) → next_number draws k later ≡ next → next_number draws k (needed later) ≡ next) → (o : Option ℕ) → draws m ≡ o → next_number draws (next_after o n) later ≡ next → (b : Bool) → is_needed ticket conn m later ≡ b → next_number draws n (cond b (m ∷ needed later) (needed later)) ≡ next
        by rest o is e true needs = ap (λ o. next_number draws (next_after o n) (needed later)) is ∙ rest (next_after o n) e
        by rest None is e false needs = rest n e
        by rest (Some t) is e false needs = left_out t is needs (rest (t + 1) e) (none-or-last draws (t + 1) (needed later))

  last-asked : (m : Mark) (later : List Mark) (t : ℕ) → asked_number m ≡ Some t → is_needed ticket conn m later ≡ false → t + 1 ≡ ticket → ⊥
  last-asked (Asked u k d) later t is needs e = let same = ap (number_or 0) is in let last = eq-eqb (u + 1) ticket (ap (λ (n : ℕ). n + 1) same ∙ e) in
      let all = ap (λ (b : Bool). b || not (list_any (is_ended u) later)) last in absurd (let f = sym all ∙ needs in cc)
  last-asked m later t is needs e = absurd cc

  last-opened : (m : Mark) (later : List Mark) (t : ℕ) → opened_number m ≡ Some t → is_needed ticket conn m later ≡ false → t + 1 ≡ conn → ⊥
  last-opened (Opened u d) later t is needs e = let same = ap (number_or 0) is in let last = eq-eqb (u + 1) conn (ap (λ (n : ℕ). n + 1) same ∙ e) in
      let all = ap (λ (b : Bool). b || not (list_any (ends_conn u) later)) last in absurd (let f = sym all ∙ needs in cc)
  last-opened m later t is needs e = absurd cc

pub view-cut : (marks : List Mark) → view_of (cut_of marks) ≡ view_of marks
view-cut marks = λ i. record {
  tickets = tickets-needed ticket conn marks i;
  loans = loans-needed ticket conn marks i;
  idle = idle-needed ticket conn marks i;
  live = live-needed ticket conn marks i;
  leaked = leaked-needed ticket conn marks i;
  shut = shut-needed ticket conn marks i;
  next_ticket = number-needed ticket conn asked_number ticket (last-asked ticket conn) 1 marks refl i;
  next_conn = number-needed ticket conn opened_number conn (last-opened ticket conn) 1 marks refl i;
}
  where
    ticket : ℕ
    ticket = next_ticket marks

    conn : ℕ
    conn = next_conn marks

-- ---- a cut is a part of its log

module _ (ticket conn : ℕ) where
  -- P of all marks is P of the needed ones
  pub all-needed : (P : Mark → Type 0) (marks : List Mark) → All P marks → All P (needed_of ticket conn marks)
  all-needed P [] all = all
  all-needed P (m ∷ later) all = by (All-head P m later all) (all-needed P later (All-tail P m later all)) (is_needed ticket conn m later)
    where
      by : P m → All P (needed_of ticket conn later) → (n : Bool) → All P (cond n (m ∷ needed_of ticket conn later) (needed_of ticket conn later))
      by one rest true = All-cons P _ _ one rest
      by one rest false = rest

  -- no more marks of a kind are needed than there are
  pub fewer-needed : (q : Mark → Bool) (marks : List Mark) → count_by q (needed_of ticket conn marks) ≤ count_by q marks
  fewer-needed q [] = omega arith
  fewer-needed q (m ∷ later) = by (fewer-needed q later) (is_needed ticket conn m later)
    where
      by : count_by q (needed_of ticket conn later) ≤ count_by q later → (n : Bool) → count_by q (cond n (m ∷ needed_of ticket conn later) (needed_of ticket conn later)) ≤ count_by q (m ∷ later)
      by rest true = let a = count_by-cons q m (needed_of ticket conn later) in let b = count_by-cons q m later in omega (arith, a, b, rest)
      by rest false = let b = count_by-cons q m later in omega (arith, b, rest)

  pub shorter-needed : (marks : List Mark) → length (needed_of ticket conn marks) ≤ length marks
  shorter-needed [] = omega arith
  shorter-needed (m ∷ later) = by (shorter-needed later) (is_needed ticket conn m later)
    where
      by : length (needed_of ticket conn later) ≤ length later → (n : Bool) → length (cond n (m ∷ needed_of ticket conn later) (needed_of ticket conn later)) ≤ length (m ∷ later)
      by rest true = omega (arith, rest)
      by rest false = omega (arith, rest)
