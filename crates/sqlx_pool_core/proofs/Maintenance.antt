-- What a keeping of the minimum came to so far.
use Rattle.std.proofs.Common.{◌≡◌, ℕ, ◌+◌, ◌<◌, min, Bool, true, false, not, ◌&&◌, max, Option, Some, None, List, [], ◌∷◌, length-append, refl, sym, ap, ◌∙◌, subst, arith}
use Rattle.sqlx_pool_lists.specs.declared.steps.Openings.{Openings}
use Rattle.sqlx_pool_lists.specs.Edits.{at_moment}
use Rattle.std.proofs.lemmas.Bool.{ltb-true}
use Rattle.sqlx_pool_lists.specs.Core.{Core, free, size, waiting}
use Rattle.sqlx_pool_lists.specs.MaintenanceSteps.{has_place, placed, placed_back, done_at, done_marks}
use Rattle.sqlx_pool_core.specs.declared.idle_check.Opening.{Opening}
use Rattle.sqlx_pool_core.specs.declared.idle_check.Opening.TheVariants.{Opened}
use Rattle.sqlx_pool_core.specs.Logs.{Logs}
use Rattle.sqlx_pool_core.proofs.Polling.{logs-then, logs-by}
use Rattle.sqlx_pool_core.specs.Calls.{Call}
use Rattle.sqlx_pool_core.specs.Chain.{Tries}
use Rattle.sqlx_pool_core.specs.Minimum.{raw_of, filled, filled_marks, opened_of, is_short, Keeps, KeepsMinimum}

-- The tries of all, where these are still to come.
pub record Whole {C O X : Type 0} (does : Call C O → X → X → Type 0) (depth : X → C → ℕ) (options : O) (now : ℕ) (core new : Core C) (old out : X) (opened : ℕ) (short : Bool) : Type 0 where
  pub tries : List (Opening C)
  pub keeps : Keeps does depth options now tries core new old out
  pub count : opened_of tries ≡ opened
  pub ends : is_short tries ≡ short

-- so many were opened on the way from the first core to this one; whatever tries follow, there are the tries of all
abbrev pub Before : {C O X : Type 0} → (Call C O → X → X → Type 0) → (X → C → ℕ) → O → ℕ → Core C → Core C → X → X → ℕ → Type 0
Before {C} {O} {X} does depth options now first core old mid opened = (more : List (Opening C)) (new : Core C) (out : X) → Keeps does depth options now more core new mid out
    → Whole does depth options now first new old out (opened + opened_of more) (is_short more)

module _ {C O X : Type 0} (does : Call C O → X → X → Type 0) (depth : X → C → ℕ) (options : O) (now : ℕ) (first core : Core C) (old mid : X) (opened : ℕ) (so_far : Before does depth options now first core old mid opened) where
  -- one more was opened
  pub before-more : (raw : C) (between : X) (next : Core C) → has_place core.options.min_connections core ≡ true → Tries does depth core.options.after_connect options (Opened raw) mid between → next ≡ filled now (Opened raw) core
      → Logs core (filled_marks now (Opened raw) core) next → Before does depth options now first next old between (opened + 1)
  before-more raw between next place tries is step = λ more new out keeps.
      let w = so_far (Opened raw ∷ more) new out
      (place, (between, (tries, subst (λ (c : Core C). Logs core (filled_marks now (Opened raw) core) c) is step, subst (λ (c : Core C). Keeps does depth options now more c new between out) is keeps))) in
      let n = w.count in
      record { tries = w.tries; keeps = w.keeps; count = omega (arith, n); ends = w.ends }

  -- the tries of all, where these end it
  pub keeps-ended : (list : List (Opening C)) (new : Core C) (out : X) (result : Openings) → Keeps does depth options now list core new mid out → result.opened ≡ opened + opened_of list → result.short ≡ is_short list
      → KeepsMinimum does depth options now first new old out result
  keeps-ended list new out result keeps count short =
      let w = so_far list new out keeps in
      record { tries = w.tries; keeps = w.keeps; opened = count ∙ sym w.count; short = short ∙ sym w.ends }

-- a place that was held, and then what came of it
pub step-marked : {C : Type 0} (now : ℕ) (o : Opening C) (core mid next : Core C) → mid ≡ placed true core → Logs core [] mid
    → Logs mid (done_marks mid.shut mid.next_conn (max mid.last now) (raw_of o)) next → Logs core (filled_marks now o core) next
step-marked {C} now o core mid next held first second =
    logs-then core mid next [] _ (ap (λ (c : Core C). c.options) held) first
    (logs-by mid next _ _ (ap (λ (c : Core C). done_marks c.shut c.next_conn (max c.last now) (raw_of o)) (sym held)) second)

no_marks : {C : Type 0} (shut : Bool) (n m : ℕ) (raw : Option C) → raw ≡ None → done_marks shut n m raw ≡ []
no_marks true n m raw e = refl
no_marks false n m raw e = ap (λ r. done_marks false n m r) e

-- nothing was opened
pub step-unmarked : {C : Type 0} (now : ℕ) (o : Opening C) (core next : Core C) → raw_of o ≡ None → Logs core (filled_marks now o core) next → Logs core [] next
step-unmarked now o core next e makes = logs-by core next _ [] (sym (no_marks core.shut core.next_conn (max core.last now) (raw_of o) e)) makes

open_of : (s a b c : Bool) → (not s && a && b && c) ≡ true → s ≡ false
open_of true a b c e = absurd cc
open_of false a b c e = refl

-- a place is held in an open pool alone
pub place-open : {C : Type 0} (core : Core C) → has_place core.options.min_connections core ≡ true → core.shut ≡ false
place-open core e = open_of core.shut _ _ _ e

first_of : (s a b c : Bool) → (not s && a && b && c) ≡ true → a ≡ true
first_of false true b c e = refl
first_of false false b c e = absurd cc
first_of true a b c e = absurd cc

-- a place is held where fewer tickets wait than permits are free
pub place-passes : {C : Type 0} (core : Core C) → has_place core.options.min_connections core ≡ true → waiting core.tickets < free core
place-passes core e = ltb-true _ _ (first_of core.shut _ _ _ e)

pub filled-size : {C : Type 0} (now : ℕ) (raw : C) (core next : Core C) → next ≡ filled now (Opened raw) core → core.shut ≡ false → size next ≡ size core + 1
filled-size {C} now raw core next is open_is =
    ap (λ (c : Core C). size c) (is ∙ ap (λ (b : Bool). at_moment (max core.last now) (placed_back (done_at b (max core.last now) (Some raw) (placed true core)))) open_is)
    ∙ simp length-append (omega arith)

pub filled-options : {C : Type 0} (now : ℕ) (raw : C) (core next : Core C) → next ≡ filled now (Opened raw) core → core.shut ≡ false → next.options ≡ core.options
filled-options now raw core next is open_is =
    ap (λ (c : Core _). c.options) (is ∙ ap (λ (b : Bool). at_moment (max core.last now) (placed_back (done_at b (max core.last now) (Some raw) (placed true core)))) open_is)

second_of : (s a b c : Bool) → (not s && a && b && c) ≡ true → b ≡ true
second_of false true true c e = refl
second_of false true false c e = absurd cc
second_of false false b c e = absurd cc
second_of true a b c e = absurd cc

below-max : (n a b : ℕ) → n < min a b → n < b
below-max n a b h = omega arith

-- where a place is held there is room for one more
pub place-room : {C : Type 0} (core : Core C) → has_place core.options.min_connections core ≡ true → size core < core.options.max_connections
place-room core e = below-max (size core) core.options.min_connections core.options.max_connections (ltb-true _ _ (second_of core.shut _ _ _ e))
