-- Every answered event changes what may be changed.
use Rattle.std.proofs.Common.{◌≡◌, ℕ, zero, suc, ◌==◌, ◌<◌, ◌≤◌, nat_lt, ℤ, Bool, true, false, not, cond, ◌&&◌, ◌||◌, is_some, List, [], ◌∷◌, refl, sym, ap, ◌∙◌, inl, inr, arith, ltb-true}
use Rattle.std.proofs.lemmas.Bool.Decides.{eqb_tells}
use Rattle.std.specs.List.{list_any}
use Rattle.sqlx_savepoints.specs.Changes.{Change, opens, writes, commits, rolls_back, leaves, connection_of, History}
use Rattle.sqlx_savepoints.specs.Brackets.{depth, depth_before, value}
use Rattle.sqlx_savepoints.specs.Standing.{is_zero}
use Rattle.sqlx_savepoints.specs.Stores.{AreAccepted}
use Rattle.sqlx_savepoints.specs.Events.{Act, begin, custom, put, del, get, commit, roll_back, give_up, Met, accepted, broken, refusing, Reply, level, ok, not_held, invalid_save_point, begin_failed, deep, busy, Event, asked, gone, others_open, reply_met, reply_of, change_by, answered}
use Rattle.sqlx_savepoints.specs.Laws.{AnswersAgree}
use Rattle.sqlx_savepoints.proofs.StoreOf.{nothing}
use Rattle.sqlx_savepoints.proofs.Readers.{levels_read_alike}
use Rattle.sqlx_savepoints.proofs.Linking.{savepoints_read_alike}

-- ---- where no other connection has an open bracket
left_false : (a b : Bool) → (a || b) ≡ false → a ≡ false
left_false true b e = e
left_false false b e = refl

right_false : (a b : Bool) → (a || b) ≡ false → b ≡ false
right_false true b e = absurd cc
right_false false b e = e

-- a connection that passes the test opened nothing where no connection of the past passes it
nothing_opened : (test : ℕ → Bool) (o : ℕ) → test o ≡ true → (later : List Change) (past : History) → list_any (λ change. test (connection_of change)) past ≡ false → depth_before o later past ≡ 0
nothing_opened test o passes later [] none = refl
nothing_opened test o passes later (opens d ∷ past) none = elim (eqb_tells d o) [
  | inl is ↦ absurd (let bad : true ≡ false = sym passes ∙ ap test (sym is.1) ∙ left_false (test d) (list_any (λ change. test (connection_of change)) past) none in cc)
  | inr is ↦ rw is.0 (nothing_opened test o passes (opens d ∷ later) past (right_false (test d) (list_any (λ change. test (connection_of change)) past) none))
]
nothing_opened test o passes later (writes d key value ∷ past) none = nothing_opened test o passes (writes d key value ∷ later) past (right_false (test d) (list_any (λ change. test (connection_of change)) past) none)
nothing_opened test o passes later (commits d ∷ past) none = nothing_opened test o passes (commits d ∷ later) past (right_false (test d) (list_any (λ change. test (connection_of change)) past) none)
nothing_opened test o passes later (rolls_back d ∷ past) none = nothing_opened test o passes (rolls_back d ∷ later) past (right_false (test d) (list_any (λ change. test (connection_of change)) past) none)
nothing_opened test o passes later (leaves d ∷ past) none = nothing_opened test o passes (leaves d ∷ later) past (right_false (test d) (list_any (λ change. test (connection_of change)) past) none)

pub no_other : (c : ℕ) (past : History) → others_open c past ≡ false → (other : ℕ) → (other == c) ≡ false → depth other past ≡ 0
no_other c past none other apart =
    elim (is_zero (depth other past)) as (λ z. is_zero (depth other past) ≡ z → depth other past ≡ 0) [
      | true ↦ λ z. nothing (depth other past) z
      | false ↦ λ z. nothing_opened (λ o. not (o == c) && not (is_zero (depth o past))) other (rw (apart, z) refl) [] past none
    ] refl

-- ---- act by act
abbrev pub Fine : Act → Bool → Met → History → Type 0
Fine act held met past = AreAccepted (change_by act (reply_of act held met past) past)

begin_fine : (c : ℕ) (held : Bool) (met : Met) (past : History) → AreAccepted past → Fine (begin c) held met past
begin_fine c false met past all = all
begin_fine c true broken past all = all
begin_fine c true refusing past all = all
begin_fine c true accepted past all =
    elim (nat_lt (depth c past) 100) as (λ b. nat_lt (depth c past) 100 ≡ b → AreAccepted (change_by (begin c) (cond b (level (suc (depth c past))) deep) past)) [
      | true ↦ λ low. (ltb-true (depth c past) 100 low, all)
      | false ↦ λ low. all
    ] refl

custom_fine : (c : ℕ) (starts held : Bool) (met : Met) (past : History) → AreAccepted past → Fine (custom c starts) held met past
custom_fine c starts false met past all = all
custom_fine c starts true met past all =
    elim (is_zero (depth c past)) as (λ z. is_zero (depth c past) ≡ z → AreAccepted (change_by (custom c starts) (cond (not z) invalid_save_point (reply_met met (custom c starts) past)) past)) [
      | false ↦ λ z. all
      | true ↦ λ z. let low : depth c past < 100 = (let none = nothing (depth c past) z in omega arith) in
          elim met as (λ m. AreAccepted (change_by (custom c starts) (reply_met m (custom c starts) past) past)) [
            | accepted ↦ elim starts as (λ b. AreAccepted (change_by (custom c starts) (cond b (level 1) begin_failed) past)) [ true ↦ (low, all) | false ↦ all ]
            | broken ↦ all
            | refusing ↦ all
          ]
    ] refl

-- an act that is refused where no bracket is open
at_depth : (n : ℕ) (after : Reply → History) (reply : Reply) → AreAccepted (after not_held) → (1 ≤ n → AreAccepted (after reply)) → AreAccepted (after (cond (is_zero n) not_held reply))
at_depth zero after reply none some = none
at_depth (suc n) after reply none some = some (omega arith)

commit_fine : (c : ℕ) (held : Bool) (met : Met) (past : History) → AreAccepted past → Fine (commit c) held met past
commit_fine c false met past all = all
commit_fine c true met past all =
    at_depth (depth c past) (λ reply. change_by (commit c) reply past) (reply_met met (commit c) past) all
    (λ one. elim met as (λ m. AreAccepted (change_by (commit c) (reply_met m (commit c) past) past)) [ accepted ↦ (one, all) | broken ↦ (one, all) | refusing ↦ (one, all) ])

roll_back_fine : (c : ℕ) (held : Bool) (met : Met) (past : History) → AreAccepted past → Fine (roll_back c) held met past
roll_back_fine c false met past all = all
roll_back_fine c true met past all =
    at_depth (depth c past) (λ reply. change_by (roll_back c) reply past) (reply_met met (roll_back c) past) all
    (λ one. elim met as (λ m. AreAccepted (change_by (roll_back c) (reply_met m (roll_back c) past) past)) [ accepted ↦ (one, all) | broken ↦ (one, all) | refusing ↦ (one, all) ])

give_up_fine : (c : ℕ) (held : Bool) (met : Met) (past : History) → AreAccepted past → Fine (give_up c) held met past
give_up_fine c false met past all = all
give_up_fine c true met past all =
    at_depth (depth c past) (λ reply. change_by (give_up c) reply past) (reply_met met (give_up c) past) all
    (λ one. elim met as (λ m. AreAccepted (change_by (give_up c) (reply_met m (give_up c) past) past)) [ accepted ↦ (one, all) | broken ↦ all | refusing ↦ all ])

put_fine : (c : ℕ) (key value : ℤ) (held : Bool) (met : Met) (past : History) → AreAccepted past → Fine (put c key value) held met past
put_fine c key value false met past all = all
put_fine c key value true broken past all = all
put_fine c key value true refusing past all = all
put_fine c key value true accepted past all =
    elim (others_open c past) as (λ b. others_open c past ≡ b → AreAccepted (change_by (put c key value) (cond b busy (ok 1)) past)) [
      | true ↦ λ b. all
      | false ↦ λ b. (no_other c past b, all)
    ] refl

del_fine : (c : ℕ) (key : ℤ) (held : Bool) (met : Met) (past : History) → AreAccepted past → Fine (del c key) held met past
del_fine c key false met past all = all
del_fine c key true broken past all = all
del_fine c key true refusing past all = all
del_fine c key true accepted past all =
    elim (others_open c past) as (λ b. others_open c past ≡ b → AreAccepted (change_by (del c key) (cond b busy (ok (cond (is_some (value c key past)) 1 0))) past)) [
      | true ↦ λ b. all
      | false ↦ λ b. (no_other c past b, all)
    ] refl

-- an act that is answered by its reply changes what may be changed
pub asked_fine : (act : Act) (held : Bool) (met : Met) (past : History) → AreAccepted past → Fine act held met past
asked_fine (begin c) held met past all = begin_fine c held met past all
asked_fine (custom c starts) held met past all = custom_fine c starts held met past all
asked_fine (put c key value) held met past all = put_fine c key value held met past all
asked_fine (del c key) held met past all = del_fine c key held met past all
asked_fine (get c key) held met past all = all
asked_fine (commit c) held met past all = commit_fine c held met past all
asked_fine (roll_back c) held met past all = roll_back_fine c held met past all
asked_fine (give_up c) held met past all = give_up_fine c held met past all

pub answered_accepted : (events : List Event) → AreAccepted (answered events)
answered_accepted [] = tt
answered_accepted (asked act held met ∷ earlier) = asked_fine act held met (answered earlier) (answered_accepted earlier)
answered_accepted (gone c ∷ earlier) = (tt, answered_accepted earlier)

pub answers_read_alike : AnswersAgree
answers_read_alike events =
    let all = answered_accepted events in
    (all, levels_read_alike (answered events) all, savepoints_read_alike (answered events) all)
