-- The open levels of a connection behind one more change.
use Rattle.std.proofs.Common.{◌≡◌, ℕ, suc, ◌==◌, ◌&&◌, Bool, true, false, cond, List, [], ◌∷◌, ◌++◌, refl, sym, ap, ◌∙◌, subst, inl, inr}
use Rattle.std.proofs.lemmas.Bool.Decides.{eqb_tells}
use Rattle.sqlx_pool_marks.proofs.ListFacts.{same_number}
use Rattle.sqlx_savepoints.specs.Changes.{Change, opens, writes, commits, rolls_back, leaves, connection_of, History}
use Rattle.sqlx_savepoints.specs.Brackets.{Ending, open_around, committed, rolled_back, turned, ended_by, ending_after, ending, is_open, is_opening, depth_before, depth}
use Rattle.sqlx_savepoints.specs.Events.{Act, begin, custom, put, del, get, commit, roll_back, give_up, connection_asked, change_by}
use Rattle.sqlx_savepoints.specs.Events as bracket

-- ---- another connection's change

ending_after-push : (c : ℕ) (e : Ending) (later : List Change) (change : Change) → ending_after c e (later ++ change ∷ []) ≡ ended_by c (ending_after c e later) change
ending_after-push c e [] change = refl
ending_after-push c e (x ∷ later) change = ending_after-push c (ended_by c e x) later change

ended_by-other : (c : ℕ) (e : Ending) (change : Change) → (connection_of change == c) ≡ false → ended_by c e change ≡ e
ended_by-other c e change other = ap (λ (b : Bool). cond b (turned e change) e) other

depth_before-other : (c : ℕ) (change : Change) → (connection_of change == c) ≡ false → (later : List Change) (past : History) → depth_before c (later ++ change ∷ []) past ≡ depth_before c later past
depth_before-other c change other later [] = refl
depth_before-other c change other later (x ∷ past) =
    let ends : ending c (later ++ change ∷ []) ≡ ending c later = ending_after-push c (open_around 0) later change ∙ ended_by-other c (ending c later) change other in
    let rest = depth_before-other c change other (x ∷ later) past in
    λ i. cond (is_opening c x && is_open (ends i)) (suc (rest i)) (rest i)

no_opening : (c : ℕ) (change : Change) → (connection_of change == c) ≡ false → is_opening c change ≡ false
no_opening c (opens d) other = other
no_opening c (writes d key value) other = refl
no_opening c (commits d) other = refl
no_opening c (rolls_back d) other = refl
no_opening c (leaves d) other = refl

pub depth-other : (c : ℕ) (change : Change) (past : History) → (connection_of change == c) ≡ false → depth c (change ∷ past) ≡ depth c past
depth-other c change past other =
    ap (λ (b : Bool). cond (b && true) (suc (depth_before c (change ∷ []) past)) (depth_before c (change ∷ []) past)) (no_opening c change other) ∙ depth_before-other c change other [] past

-- ---- a connection that is gone

shut_by_leaving : (c : ℕ) (e : Ending) → is_open (turned e (leaves c)) ≡ false
shut_by_leaving c (open_around inner) = refl
shut_by_leaving c committed = refl
shut_by_leaving c rolled_back = refl

left_shut : (c : ℕ) (later : List Change) → is_open (ending c (later ++ leaves c ∷ [])) ≡ false
left_shut c later =
    ap is_open (ending_after-push c (open_around 0) later (leaves c))
    ∙ ap (λ (b : Bool). is_open (cond b (turned (ending c later) (leaves c)) (ending c later))) (same_number c)
    ∙ shut_by_leaving c (ending c later)

depth_before-left : (c : ℕ) (later : List Change) (past : History) → depth_before c (later ++ leaves c ∷ []) past ≡ 0
depth_before-left c later [] = refl
depth_before-left c later (x ∷ past) =
    ap (λ (b : Bool). cond (is_opening c x && b) (suc (depth_before c (x ∷ (later ++ leaves c ∷ [])) past)) (depth_before c (x ∷ (later ++ leaves c ∷ [])) past)) (left_shut c later)
    ∙ by (is_opening c x) (depth_before-left c (x ∷ later) past)
  where
    by : (b : Bool) → depth_before c (x ∷ (later ++ leaves c ∷ [])) past ≡ 0 → cond (b && false) (suc (depth_before c (x ∷ (later ++ leaves c ∷ [])) past)) (depth_before c (x ∷ (later ++ leaves c ∷ [])) past) ≡ 0
    by true h = h
    by false h = h

pub depth-left : (c : ℕ) (past : History) → depth c (leaves c ∷ past) ≡ 0
depth-left c past = depth_before-left c [] past

-- where a connection has no level it has none after another left, or it
pub rests-left : (c d : ℕ) (past : History) → depth c past ≡ 0 → depth c (leaves d ∷ past) ≡ 0
rests-left c d past none = elim (eqb_tells d c) [
  | inl is ↦ subst (λ (n : ℕ). depth c (leaves n ∷ past) ≡ 0) (sym is.1) (depth-left c past)
  | inr is ↦ depth-other c (leaves d) past is.0 ∙ none
]

-- ---- a statement on another connection

pub rests-beside : (act : Act) (r : bracket.Reply) (past : History) (c : ℕ) → (connection_asked act == c) ≡ false → depth c past ≡ 0 → depth c (change_by act r past) ≡ 0
rests-beside (begin d) (bracket.level n) past c other none = depth-other c (opens d) past other ∙ none
rests-beside (custom d starts) (bracket.level n) past c other none = depth-other c (opens d) past other ∙ none
rests-beside (put d key value) (bracket.ok n) past c other none = depth-other c (writes d key _) past other ∙ none
rests-beside (del d key) (bracket.ok n) past c other none = depth-other c (writes d key _) past other ∙ none
rests-beside (commit d) (bracket.level n) past c other none = depth-other c (commits d) past other ∙ none
rests-beside (commit d) bracket.not_held past c other none = none
rests-beside (commit d) r past c other none = depth-other c (rolls_back d) past other ∙ none
rests-beside (roll_back d) bracket.not_held past c other none = none
rests-beside (roll_back d) r past c other none = depth-other c (rolls_back d) past other ∙ none
rests-beside (give_up d) (bracket.level n) past c other none = depth-other c (rolls_back d) past other ∙ none
rests-beside act r past c other none = none

-- a statement that isn't its client's to make changes nothing
pub change_by-not_held : (act : Act) (past : History) → change_by act bracket.not_held past ≡ past
change_by-not_held (begin d) past = refl
change_by-not_held (custom d starts) past = refl
change_by-not_held (put d key value) past = refl
change_by-not_held (del d key) past = refl
change_by-not_held (get d key) past = refl
change_by-not_held (commit d) past = refl
change_by-not_held (roll_back d) past = refl
change_by-not_held (give_up d) past = refl
