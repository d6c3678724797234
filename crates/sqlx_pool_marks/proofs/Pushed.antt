-- What a list of marks says, behind one more mark.
use Rattle.std.proofs.Common.{◌≡◌, ℕ, ◌≤◌, All, arith, Bool, true, false, cond, not, ◌||◌, List, [], ◌∷◌, ◌++◌, map, filter, find, Option, Some, None, option_map, option_to_list, refl, sym, ap, ap₂, ◌∙◌, append_assoc}
use Rattle.std.specs.List.{list_any}
use Rattle.std.proofs.lemmas.Bool.{eqb-true, ne_eqb}
use Rattle.std.proofs.lemmas.List.Elements.{filter-append, All-head, All-tail}
use Rattle.std.proofs.lemmas.List.Folds.{list_any-append}
use Rattle.sqlx_pool_marks.specs.declared.mark.Mark.{Mark}
use Rattle.sqlx_pool_marks.specs.declared.mark.Mark.TheVariants.{Asked, Left, Taken, Reaped, Opened, Lent, Kept, Closed, Detached, Leaked, Ended, Shut}
use Rattle.sqlx_pool_marks.specs.Standing.{still, standing, next_after, next_number, last_mark}
use Rattle.sqlx_pool_marks.specs.Marks.{PendingTicket, LiveConn, lends, ends_loan, loans_of, asks, is_ended, is_left, unended, tickets_of, keeps, ends_rest, idle_of, opens, ends_conn, ends_life, live_of, is_live_conn, is_leak, leaked_of, is_shut, asked_number, opened_number, next_ticket, next_conn}
use Rattle.sqlx_pool_marks.specs.View.{view_of, stands_after, leaving, tickets_after, leaked_after, view_after}
use Rattle.sqlx_pool_marks.specs.Born.{IsBorn, IsNamedBelow}
use Rattle.sqlx_pool_marks.proofs.ListFacts.{list_any-push, count_by-push, map-append, find-filter, find-append_left, find-push_none, list_any-filter, same_number}

-- ---- what stands

still-push : {X : Type 0} (ends : X → Mark → Bool) (o : Option X) (later : List Mark) (n : Mark)
    → still ends o (later ++ n ∷ []) ≡ filter (λ x. not (ends x n)) (still ends o later)
still-push ends None later n = refl
still-push ends (Some x) later n = ap (λ b. cond b [] (x ∷ [])) (list_any-push (ends x) later n) ∙ by (list_any (ends x) later) (ends x n) refl
  where
    by : (a b : Bool) → ends x n ≡ b → cond (a || b) [] (x ∷ []) ≡ filter (λ y. not (ends y n)) (cond a [] (x ∷ []))
    by true b e = refl
    by false true e = rw e refl
    by false false e = rw e refl

begun : {X : Type 0} (ends : X → Mark → Bool) (o : Option X) → still ends o [] ++ [] ≡ option_to_list o
begun ends None = refl
begun ends (Some x) = refl

pub standing-push : {X : Type 0} (begins : Mark → Option X) (ends : X → Mark → Bool) (marks : List Mark) (n : Mark)
    → standing begins ends (marks ++ n ∷ []) ≡ stands_after begins ends (standing begins ends marks) n
standing-push begins ends [] n = begun ends (begins n)
standing-push begins ends (m ∷ later) n =
    ap₂ ◌++◌ (still-push ends (begins m) later n) (standing-push begins ends later n)
    ∙ sym (append_assoc (filter (λ x. not (ends x n)) (still ends (begins m) later)) (filter (λ x. not (ends x n)) (standing begins ends later)) (option_to_list (begins n)))
    ∙ ap (λ l. l ++ option_to_list (begins n)) (sym (filter-append (λ x. not (ends x n)) (still ends (begins m) later) (standing begins ends later)))

pub loans_of-push : (marks : List Mark) (n : Mark) → loans_of (marks ++ n ∷ []) ≡ stands_after lends ends_loan (loans_of marks) n
loans_of-push marks n = standing-push lends ends_loan marks n

pub idle_of-push : (marks : List Mark) (n : Mark) → idle_of (marks ++ n ∷ []) ≡ stands_after keeps ends_rest (idle_of marks) n
idle_of-push marks n = standing-push keeps ends_rest marks n

pub live_of-push : (marks : List Mark) (n : Mark) → live_of (marks ++ n ∷ []) ≡ stands_after opens ends_life (live_of marks) n
live_of-push marks n = standing-push opens ends_life marks n

-- ---- tickets

left_is : (n : Mark) (a : PendingTicket) (before : Bool) → leaving n (record a { left = before }) ≡ record a { left = before || is_left a.ticket n }
left_is (Left t) a before = refl
left_is (Asked t k d) a true = refl
left_is (Asked t k d) a false = refl
left_is (Taken c) a true = refl
left_is (Taken c) a false = refl
left_is (Reaped c) a true = refl
left_is (Reaped c) a false = refl
left_is (Opened c m) a true = refl
left_is (Opened c m) a false = refl
left_is (Lent k c) a true = refl
left_is (Lent k c) a false = refl
left_is (Kept c m) a true = refl
left_is (Kept c m) a false = refl
left_is (Closed c) a true = refl
left_is (Closed c) a false = refl
left_is (Detached c) a true = refl
left_is (Detached c) a false = refl
left_is (Leaked c) a true = refl
left_is (Leaked c) a false = refl
left_is (Ended t) a true = refl
left_is (Ended t) a false = refl
left_is Shut a true = refl
left_is Shut a false = refl

unended-push : (o : Option PendingTicket) (later : List Mark) (n : Mark)
    → unended o (later ++ n ∷ []) ≡ map (leaving n) (filter (λ a. not (is_ended a.ticket n)) (unended o later))
unended-push None later n = refl
unended-push (Some a) later n =
    ap (λ b. cond b [] ((record a { left = list_any (is_left a.ticket) (later ++ n ∷ []) }) ∷ [])) (list_any-push (is_ended a.ticket) later n)
    ∙ by (list_any (is_ended a.ticket) later) (is_ended a.ticket n) refl
  where
    moved : (record a { left = list_any (is_left a.ticket) (later ++ n ∷ []) }) ≡ leaving n (record a { left = list_any (is_left a.ticket) later })
    moved = ap (λ (b : Bool). record a { left = b }) (list_any-push (is_left a.ticket) later n) ∙ sym (left_is n a (list_any (is_left a.ticket) later))

    by : (x y : Bool) → is_ended a.ticket n ≡ y → cond (x || y) [] ((record a { left = list_any (is_left a.ticket) (later ++ n ∷ []) }) ∷ [])
        ≡ map (leaving n) (filter (λ b. not (is_ended b.ticket n)) (cond x [] ((record a { left = list_any (is_left a.ticket) later }) ∷ [])))
    by true y e = refl
    by false true e = rw e refl
    by false false e = rw e (ap (λ b. b ∷ []) moved)

asked_last : (o : Option PendingTicket) → ((a : PendingTicket) → o ≡ Some a → a.left ≡ false) → unended o [] ++ [] ≡ option_to_list o
asked_last None h = refl
asked_last (Some a) h = ap (λ (b : Bool). (record a { left = b }) ∷ []) (sym (h a refl))

asked_waiting : (n : Mark) (a : PendingTicket) → asks n ≡ Some a → a.left ≡ false
asked_waiting (Asked t k d) a e = cc
asked_waiting (Left t) a e = absurd (cc)
asked_waiting (Taken c) a e = absurd (cc)
asked_waiting (Reaped c) a e = absurd (cc)
asked_waiting (Opened c m) a e = absurd (cc)
asked_waiting (Lent k c) a e = absurd (cc)
asked_waiting (Kept c m) a e = absurd (cc)
asked_waiting (Closed c) a e = absurd (cc)
asked_waiting (Detached c) a e = absurd (cc)
asked_waiting (Leaked c) a e = absurd (cc)
asked_waiting (Ended t) a e = absurd (cc)
asked_waiting Shut a e = absurd (cc)

pub tickets_of-push : (marks : List Mark) (n : Mark) → tickets_of (marks ++ n ∷ []) ≡ tickets_after (tickets_of marks) n
tickets_of-push [] n = asked_last (asks n) (asked_waiting n)
tickets_of-push (m ∷ later) n =
    let kept = λ (l : List PendingTicket). filter (λ a. not (is_ended a.ticket n)) l in
    ap₂ ◌++◌ (unended-push (asks m) later n) (tickets_of-push later n)
    ∙ sym (append_assoc (map (leaving n) (kept (unended (asks m) later))) (map (leaving n) (kept (tickets_of later))) (option_to_list (asks n)))
    ∙ ap (λ l. l ++ option_to_list (asks n)) (sym (map-append (leaving n) (kept (unended (asks m) later)) (kept (tickets_of later))))
    ∙ ap (λ l. map (leaving n) l ++ option_to_list (asks n)) (sym (filter-append (λ a. not (is_ended a.ticket n)) (unended (asks m) later) (tickets_of later)))

-- ---- counts and numbers

pub leaked_of-push : (marks : List Mark) (n : Mark) → leaked_of (marks ++ n ∷ []) ≡ leaked_after (leaked_of marks) n
leaked_of-push marks n = count_by-push is_leak marks n

pub shut-push : (marks : List Mark) (n : Mark) → list_any is_shut (marks ++ n ∷ []) ≡ (list_any is_shut marks || is_shut n)
shut-push marks n = list_any-push is_shut marks n

next_number-push : (draws : Mark → Option ℕ) (k : ℕ) (marks : List Mark) (n : Mark) → next_number draws k (marks ++ n ∷ []) ≡ next_after (draws n) (next_number draws k marks)
next_number-push draws k [] n = refl
next_number-push draws k (m ∷ later) n = next_number-push draws (next_after (draws m) k) later n

pub next_ticket-push : (marks : List Mark) (n : Mark) → next_ticket (marks ++ n ∷ []) ≡ next_after (asked_number n) (next_ticket marks)
next_ticket-push marks n = next_number-push asked_number 1 marks n

pub next_conn-push : (marks : List Mark) (n : Mark) → next_conn (marks ++ n ∷ []) ≡ next_after (opened_number n) (next_conn marks)
next_conn-push marks n = next_number-push opened_number 1 marks n

last_mark-from : (before : Option Mark) (marks : List Mark) (n : Mark) → last_mark before (marks ++ n ∷ []) ≡ Some n
last_mark-from before [] n = refl
last_mark-from before (m ∷ later) n = last_mark-from (Some m) later n

pub last_mark-push : (marks : List Mark) (n : Mark) → last_mark None (marks ++ n ∷ []) ≡ Some n
last_mark-push marks n = last_mark-from None marks n

-- ---- the view

pub view_of-push : (marks : List Mark) (n : Mark) → view_of (marks ++ n ∷ []) ≡ view_after (view_of marks) n
view_of-push marks n = λ i. record {
  tickets = tickets_of-push marks n i;
  loans = loans_of-push marks n i;
  idle = idle_of-push marks n i;
  live = live_of-push marks n i;
  leaked = leaked_of-push marks n i;
  shut = shut-push marks n i;
  next_ticket = next_ticket-push marks n i;
  next_conn = next_conn-push marks n i;
}

-- ---- births

kept_birth : (n : Mark) (c : ℕ) → ends_conn c n ≡ false → (b : LiveConn) → is_live_conn c b ≡ true → not (ends_life b n) ≡ true
kept_birth n c safe b e = rw (← eqb-true c b.conn e, safe) refl

pub IsBorn-push : (marks : List Mark) (n : Mark) (c m : ℕ) → ends_conn c n ≡ false → IsBorn marks c m → IsBorn (marks ++ n ∷ []) c m
IsBorn-push marks n c m safe born = by (find (is_live_conn c) (live_of marks)) refl born
  where
    by : (o : Option LiveConn) → find (is_live_conn c) (live_of marks) ≡ o → option_map (λ (b : LiveConn). b.moment) o ≡ Some m → IsBorn (marks ++ n ∷ []) c m
    by None e k = absurd (cc)
    by (Some b) e k =
        let still_there : find (is_live_conn c) (filter (λ x. not (ends_life x n)) (live_of marks)) ≡ Some b
        = find-filter (is_live_conn c) (λ x. not (ends_life x n)) (live_of marks) (kept_birth n c safe) ∙ e in
        ap (λ (l : List LiveConn). option_map (λ (x : LiveConn). x.moment) (find (is_live_conn c) l)) (live_of-push marks n)
        ∙ ap (λ (o : Option LiveConn). option_map (λ (x : LiveConn). x.moment) o) (find-append_left (is_live_conn c) (filter (λ x. not (ends_life x n)) (live_of marks)) (option_to_list (opens n)) b still_there)
        ∙ k

none_still : {X : Type 0} (ends : X → Mark → Bool) (p : X → Bool) (o : Option X) (later : List Mark) → ((x : X) → o ≡ Some x → p x ≡ false) → list_any p (still ends o later) ≡ false
none_still ends p None later h = refl
none_still ends p (Some x) later h = by (list_any (ends x) later)
  where
    by : (b : Bool) → list_any p (cond b [] (x ∷ [])) ≡ false
    by true = refl
    by false = rw (h x refl) refl

none_standing : {X : Type 0} (begins : Mark → Option X) (ends : X → Mark → Bool) (p : X → Bool) (marks : List Mark)
    → All (λ m. (x : X) → begins m ≡ Some x → p x ≡ false) marks → list_any p (standing begins ends marks) ≡ false
none_standing begins ends p [] h = refl
none_standing {X} begins ends p (m ∷ later) h =
    let head = All-head (λ m. (x : X) → begins m ≡ Some x → p x ≡ false) m later h in
    let tail = All-tail (λ m. (x : X) → begins m ≡ Some x → p x ≡ false) m later h in
    list_any-append p (still ends (begins m) later) (standing begins ends later)
    ∙ ap₂ ◌||◌ (none_still ends p (begins m) later head) (none_standing begins ends p later tail)

not_born_at : (t n c : ℕ) → n ≤ c → (m : Mark) → IsNamedBelow t n m → (b : LiveConn) → opens m ≡ Some b → is_live_conn c b ≡ false
not_born_at t n c le (Opened d m) h b e = ne_eqb c b.conn (λ same. let was : d ≡ b.conn = cc in absurd (omega arith))
not_born_at t n c le (Asked u k d) h b e = absurd (cc)
not_born_at t n c le (Left u) h b e = absurd (cc)
not_born_at t n c le (Taken d) h b e = absurd (cc)
not_born_at t n c le (Reaped d) h b e = absurd (cc)
not_born_at t n c le (Lent k d) h b e = absurd (cc)
not_born_at t n c le (Kept d m) h b e = absurd (cc)
not_born_at t n c le (Closed d) h b e = absurd (cc)
not_born_at t n c le (Detached d) h b e = absurd (cc)
not_born_at t n c le (Leaked d) h b e = absurd (cc)
not_born_at t n c le (Ended u) h b e = absurd (cc)
not_born_at t n c le Shut h b e = absurd (cc)

-- a number that no mark names was not opened
pub not_born : (t n c : ℕ) (marks : List Mark) → n ≤ c → All (IsNamedBelow t n) marks → list_any (is_live_conn c) (live_of marks) ≡ false
not_born t n c marks le h = none_standing opens ends_life (is_live_conn c) marks (λ k d lt. not_born_at t n c le _ (h k d lt))

-- a connection is born by its Opened
pub IsBorn-opened : (t n : ℕ) (marks : List Mark) (m : ℕ) → All (IsNamedBelow t n) marks → IsBorn (marks ++ Opened n m ∷ []) n m
IsBorn-opened t n marks m h =
    let none : list_any (is_live_conn n) (filter (λ x. not (ends_life x (Opened n m))) (live_of marks)) ≡ false
    = list_any-filter (is_live_conn n) (λ x. not (ends_life x (Opened n m))) (live_of marks) (not_born t n n marks (omega arith) h) in
    let born : LiveConn = record { conn = n; moment = m } in
    ap (λ (l : List LiveConn). option_map (λ (x : LiveConn). x.moment) (find (is_live_conn n) l)) (live_of-push marks (Opened n m))
    ∙ ap (λ (o : Option LiveConn). option_map (λ (x : LiveConn). x.moment) o) (find-push_none (is_live_conn n) (filter (λ x. not (ends_life x (Opened n m))) (live_of marks)) born none)
    ∙ ap (λ (b : Bool). option_map (λ (x : LiveConn). x.moment) (cond b (Some born) None)) (same_number n)
