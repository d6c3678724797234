-- What a step is told, and which step a code stands for.
use Rattle.std.specs.Prelude.{ℕ, ◌==◌, if◌then◌else◌, Bool, true, false}
use Rattle.sqlx_text.specs.declared.Moment.{Moment}
use Rattle.sqlx_pool_lists.specs.declared.steps.Lent.{Lent}
use Rattle.sqlx_pool_lists.specs.declared.steps.Verdict.{Verdict}
use Rattle.sqlx_pool_lists.specs.declared.steps.Verdict.TheVariants as verdict
use Rattle.zangipuk_c.specs.declared.told.Told.{Told}
use Rattle.zangipuk_c.specs.declared.told.Step.{Step}
use Rattle.zangipuk_c.specs.declared.told.Step.TheVariants as step

-- the step of a code
abbrev pub step_by : ℕ → Step
step_by code =
    if code == 1 then step.Ask else (if code == 2 then step.Start else (
    if code == 3 then step.TestAccepted else (if code == 4 then step.TestRefused else (
    if code == 5 then step.Opened else (if code == 6 then step.Rejected else (if code == 7 then step.Transient else (if code == 8 then step.Fatal else (
    if code == 9 then step.Cancel else (if code == 10 then step.Give else (if code == 11 then step.GiveRefused else (
    if code == 12 then step.End else (if code == 13 then step.Detach else (if code == 14 then step.Leak else (
    if code == 15 then step.ServeNew else (if code == 16 then step.TryAcquire else (if code == 17 then step.Reap else (
    if code == 18 then step.MinimumPlace else (if code == 19 then step.MinimumOpened else (if code == 20 then step.MinimumFailed else (
    if code == 21 then step.Close else (if code == 22 then step.NextLeft else (if code == 23 then step.Closing else (
    if code == 24 then step.Size else (if code == 25 then step.NumIdle else (if code == 26 then step.NumHeld else (
    if code == 27 then step.NumLeaked else (if code == 28 then step.NumTickets else (
    if code == 29 then step.LogLength else (if code == 30 then step.MarkAt else step.Unknown)))))))))))))))))))))))))))))

-- the moment of the step
abbrev pub now_of : Told → Moment
now_of told = record { 0 = told.now }

-- the connection that comes back; the pool keeps when it was opened
abbrev pub told_lent : Told → Lent ℕ
told_lent told = record { id = told.conn; created = record { 0 = 0 }; raw = told.raw }

-- the connection of this token was accepted, or the one of this number refused
abbrev pub told_verdict : Told → Bool → Verdict ℕ
told_verdict told true = verdict.Accepted (told_lent told)
told_verdict told false = verdict.Refused told.conn
