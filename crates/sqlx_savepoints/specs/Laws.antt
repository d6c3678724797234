-- The laws of brackets.
use Rattle.std.specs.Prelude.{◌≡◌, ℕ, ℤ, List}
use Rattle.sqlx_savepoints.specs.Changes.{History}
use Rattle.sqlx_savepoints.specs.Brackets.{value, depth}
use Rattle.sqlx_savepoints.specs.Standing.{standing, value_of, depth_of}
use Rattle.sqlx_savepoints.specs.Stores.{AreAccepted, ReadsAlike, store_after}
use Rattle.sqlx_savepoints.specs.Links.{SavepointsAlike, linked_after}
use Rattle.sqlx_savepoints.specs.Events.{Event, answered}

-- what stands tells the depths and the values of brackets, whatever happened
abbrev pub StandingTells : Type 0
StandingTells = (history : History) → ((c : ℕ) → depth c history ≡ depth_of c (standing history)) × ((reader : ℕ) (key : ℤ) → value reader key history ≡ value_of reader key (standing history))

-- nested levels, changed alike, come to the depths and the values of brackets
abbrev pub BracketsAreLevels : Type 0
BracketsAreLevels = (history : History) → AreAccepted history → ReadsAlike history (store_after history)

-- named savepoints, changed alike by the ANSI texts at the present depths, come to the same too
abbrev pub BracketsAreSavepoints : Type 0
BracketsAreSavepoints = (history : History) → AreAccepted history → SavepointsAlike history (linked_after history)

-- whatever events come, each answered by the one reply, their changes come where they may, and so both come to the same
abbrev pub AnswersAgree : Type 0
AnswersAgree = (events : List Event) → AreAccepted (answered events) × ReadsAlike (answered events) (store_after (answered events)) × SavepointsAlike (answered events) (linked_after (answered events))
