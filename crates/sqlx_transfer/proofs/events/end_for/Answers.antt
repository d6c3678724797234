use Rattle.std.proofs.Common.{◌∷◌, Bool, subst, sym}
use Rattle.sqlx_transfer.specs.At.{At}
use Rattle.sqlx_transfer.specs.BankSteps.{ended}
use Rattle.sqlx_transfer.proofs.events.end_for.Goals as goal

pub returns-in_ok-commit : goal.returns-in_ok-commit
returns-in_ok-commit g c = λ past o k n b at one.
    subst (λ (e : Bool). At (ended e k ∷ past) o k n b c.commit.new.store c.commit.new.link) (sym c.if-commits.true) (c.in_ok-commit.ensures past o k n b at one)

pub returns-in_ok-roll_back : goal.returns-in_ok-roll_back
returns-in_ok-roll_back g c = λ past o k n b at one.
    subst (λ (e : Bool). At (ended e k ∷ past) o k n b c.roll_back.new.store c.roll_back.new.link) (sym c.if-commits.false) (c.in_ok-roll_back.ensures past o k n b at one)
