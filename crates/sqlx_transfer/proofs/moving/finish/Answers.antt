use Rattle.std.proofs.Common.{◌∷◌, Bool, cond, subst}
use Rattle.sqlx_savepoints.specs.Changes.{commits, rolls_back}
use Rattle.sqlx_transfer.specs.At.{At}
use Rattle.sqlx_transfer.proofs.moving.finish.Goals as goal

pub returns-in_ok-commit : goal.returns-in_ok-commit
returns-in_ok-commit g c = λ past o k n b at one.
    subst (λ (m : Bool). At (cond m (commits k) (rolls_back k) ∷ past) o k n b c.commit.new.store c.commit.new.link) (c.if-is_moved.ensures) (c.in_ok-commit.ensures past o k n b at one)

pub returns-in_ok-roll_back : goal.returns-in_ok-roll_back
returns-in_ok-roll_back g c = λ past o k n b at one.
    subst (λ (m : Bool). At (cond m (commits k) (rolls_back k) ∷ past) o k n b c.roll_back.new.store c.roll_back.new.link) (c.if-is_moved.ensures) (c.in_ok-roll_back.ensures past o k n b at one)
