use Rattle.sqlx_pool.proofs.acquiring.AcquiringOf.poll_seen.Goals as goal

pub returns-clause-polls : goal.returns-clause-polls
returns-clause-polls g c =
    let b = c.begin-begun.ensures.begins in
    record { moment = b.0; begun = b.1; seen_then = c.begin-begun.new.me; begins = b.3; goes = c.go_on.ensures.goes b.0 b.1 b.2 }
