-- What a step leaves of a stage.
use Rattle.std.proofs.Common.{◌≡◌, suc, List, [], ◌∷◌, length, map, refl, sym, ap, ◌∙◌}
use Rattle.sqlx_pool_marks.specs.declared.mark.Mark.{Mark}
use Rattle.sqlx_pool_lists.specs.Core.{Core, asking, loan, resting}
use Rattle.sqlx_pool_lists.specs.StandsFor.{StandsFor}
use Rattle.sqlx_script_rules.specs.Answer.{report_at}

length-map : {X Y : Type 0} (f : X → Y) (xs : List X) → length (map f xs) ≡ length xs
length-map f [] = refl
length-map f (x ∷ xs) = ap (λ n. suc n) (length-map f xs)

-- the counts of a core are those of its marks
pub report-stands : {C : Type 0} (core : Core C) (marks : List Mark) → StandsFor core marks
    → record { held = length core.held; idle = length core.idle; leaked = core.leaked; waiting = length core.tickets } ≡ report_at marks
report-stands core marks s = λ i. record {
  held = (sym (length-map loan core.held) ∙ ap length s.loans) i;
  idle = (sym (length-map resting core.idle) ∙ ap length s.idle) i;
  leaked = s.leaked i;
  waiting = (sym (length-map asking core.tickets) ∙ ap length s.tickets) i;
}

-- a list of which nothing is made is empty
nil_of-map : {X Y : Type 0} (f : X → Y) (xs : List X) → map f xs ≡ [] → xs ≡ []
nil_of-map f [] h = refl
nil_of-map f (x ∷ xs) h = cc

-- a core without a mark has no ticket, no owned connection and no idle one
pub tickets-nil : {C : Type 0} (core : Core C) → StandsFor core [] → core.tickets ≡ []
tickets-nil core s = nil_of-map asking core.tickets s.tickets

pub held-nil : {C : Type 0} (core : Core C) → StandsFor core [] → core.held ≡ []
held-nil core s = nil_of-map loan core.held s.loans

pub idle-nil : {C : Type 0} (core : Core C) → StandsFor core [] → core.idle ≡ []
idle-nil core s = nil_of-map resting core.idle s.idle
