-- How many connections a pool lacks of its minimum, while they are opened one behind the other.
use Rattle.std.proofs.Common.{◌≡◌, ℕ, ◌+◌, ◌-◌, ◌^◌, ◌<◌, ◌≤◌, min, nat_lt, Bool, true, false, not, ◌&&◌, length, length-append, refl, sym, ap, ◌∙◌, arith, if◌then◌else◌}
use Rattle.std.proofs.lemmas.Bool.{ltb-true, ltb-false, lt-ltb, le-ltb}
use Rattle.sqlx_pool_marks.specs.Counts.{free_of}
use Rattle.sqlx_pool_lists.specs.Core.{Core, waiting, gone, free, size}
use Rattle.sqlx_pool_marks.specs.EventTable.{may_pass, may_open, lacking}
use Rattle.sqlx_pool_lists.specs.MaintenanceSteps.{has_place, lacks}
use Rattle.sqlx_pool_core.specs.Minimum.{Opens}

counted : (size least next k : ℕ) (b c : Bool) → nat_lt (size + k) least ≡ b → nat_lt (2 ^ 63) (next + k) ≡ c → (b && not c) ≡ nat_lt k (min (least - size) (2 ^ 63 + 1 - next))
counted size least next k false c small few = let all = ltb-false (size + k) least small in sym (le-ltb k (min (least - size) (2 ^ 63 + 1 - next)) (omega (arith, all)))
counted size least next k true true small few = let all = ltb-true (2 ^ 63) (next + k) few in sym (le-ltb k (min (least - size) (2 ^ 63 + 1 - next)) (omega (arith, all)))
counted size least next k true false small few =
    let one = ltb-true (size + k) least small in
    let two = ltb-false (2 ^ 63) (next + k) few in
    sym (lt-ltb k (min (least - size) (2 ^ 63 + 1 - next)) (omega (arith, one, two)))

-- behind so many openings one more may be opened where more lack
opens-left : (passes : Bool) (size least next k : ℕ) → (passes && nat_lt (size + k) least && not (nat_lt (2 ^ 63) (next + k))) ≡ nat_lt k (if passes then min (least - size) (2 ^ 63 + 1 - next) else 0)
opens-left true size least next k = counted size least next k (nat_lt (size + k) least) (nat_lt (2 ^ 63) (next + k)) refl refl
opens-left false size least next k = sym (le-ltb k 0 (omega arith))

module _ {C X : Type 0} (depth : X → C → ℕ) (core mid : Core C) (k now : ℕ) (so_far : Opens depth core mid k now) where
  size-left : size mid ≡ size core + k
  size-left =
      let o = so_far in
      let rests : length mid.idle ≡ length core.idle + k = ap length o.idle ∙ length-append core.idle o.fresh ∙ ap (λ (n : ℕ). length core.idle + n) o.count in
      (λ i. rests i + length (o.held i) + o.leaked i + gone (o.tickets i) + o.places i) ∙ omega arith

  -- A place is there exactly where more connections lack than were opened.
  pub place-left : has_place core.options.min_connections mid ≡ nat_lt k (lacks core)
  place-left =
      let o = so_far in
      (λ i. may_open (o.shut i) (waiting (o.tickets i)) (free_of (o.permits i) (length (o.held i)) (o.leaked i) (gone (o.tickets i)) (o.places i)) (size-left i) core.options.min_connections (o.options i).max_connections (o.next_conn i))
      ∙ opens-left (may_pass core.shut (waiting core.tickets) (free core)) (size core) (min core.options.min_connections core.options.max_connections) core.next_conn k

  same-minimum : has_place mid.options.min_connections mid ≡ nat_lt k (lacks core)
  same-minimum = ap (λ o. has_place o.min_connections mid) so_far.options ∙ place-left

  -- a place was found
  pub below-lack : has_place mid.options.min_connections mid ≡ true → k < lacks core
  below-lack found = ltb-true k (lacks core) (sym same-minimum ∙ found)

-- where so many connections are still to be numbered, the numbers don't matter
pub openings-numbered : (shut : Bool) (waiting free size minimum maximum next_conn k : ℕ) → next_conn + k ≤ 2 ^ 63 + 1
    → min k (lacking shut waiting free size minimum maximum next_conn) ≡ (if may_pass shut waiting free then min k (min minimum maximum - size) else 0)
openings-numbered shut waiting free size minimum maximum next_conn k few = by (may_pass shut waiting free)
  where
    by : (passes : Bool) → min k (if passes then min (min minimum maximum - size) (2 ^ 63 + 1 - next_conn) else 0) ≡ (if passes then min k (min minimum maximum - size) else 0)
    by true = omega (arith, few)
    by false = omega arith
