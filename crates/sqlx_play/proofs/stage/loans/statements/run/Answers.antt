use Rattle.std.proofs.Common.{◌≡◌, Result, Ok, Err, IfOk, is_some, true, inl}
use Rattle.sqlx_pool_lists.specs.Core.{loan_of}
use Rattle.sqlx_script.specs.declared.reply.Reply.{Reply}
use Rattle.sqlx_play.specs.stage.Scene.{Scene}
use Rattle.sqlx_play.specs.declared.stage.loans.statements.Statement.{Statement}
use Rattle.sqlx_play.specs.events.StatementRuns.{Runs, RunsThere}

runs : {E : Type 0} (old new : Scene) (s : Statement) (o : Result Reply E) → is_some (loan_of s.client s.connection old.core.held) ≡ true → IfOk o (RunsThere s old.lent.items new.lent.items old.out.store new.out.store)
    → IfOk o (Runs old new s)
runs old new s (Ok r) owned ran = inl (record { owned = owned; ran = ran })
runs old new s (Err e) owned ran = tt
