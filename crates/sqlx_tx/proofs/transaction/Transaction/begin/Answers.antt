use Rattle.std.proofs.Common.{◌≡◌, refl}
use Rattle.sqlx_text.specs.declared.error.Error.TheVariants.{InvalidSavePointStatement}
use Rattle.sqlx_tx.proofs.transaction.Transaction.begin.Goals as goal

pub returns-in-Ok-clause-held : goal.returns-in-Ok-clause-held
returns-in-Ok-clause-held g c = rw (c.adopt.ensures, g.met.H.Hold.puts c.args.holder c.begin.new.conn) refl

pub returns-in-Ok-clause-levels : goal.returns-in-Ok-clause-levels
returns-in-Ok-clause-levels g c = rw (c.adopt.ensures, g.met.H.Hold.puts c.args.holder c.begin.new.conn, ← c.conn_mut.ensures.value) c.in-Ok.ensures.ok

pub returns-in-Ok-clause-does : goal.returns-in-Ok-clause-does
returns-in-Ok-clause-does g c = rw (c.adopt.ensures, g.met.H.Hold.puts c.args.holder c.begin.new.conn, ← c.conn_mut.ensures.value) c.in-Ok.ensures.does

pub returns-in-Ok-clause-custom_inside : goal.returns-in-Ok-clause-custom_inside
returns-in-Ok-clause-custom_inside g c = λ custom inside. absurd (cc ((c.in-Ok.ensures.custom_inside custom (rw c.conn_mut.ensures.value inside)).0))

pub returns-in-Ok-clause-rises : goal.returns-in-Ok-clause-rises
returns-in-Ok-clause-rises g c = rw (c.adopt.ensures, g.met.H.Hold.puts c.args.holder c.begin.new.conn, ← c.conn_mut.ensures.value) c.in-Ok.ensures.rises

pub returns-in-Err-clause-held : goal.returns-in-Err-clause-held
returns-in-Err-clause-held g c = rw (g.met.H.Hold.puts c.args.holder c.begin.new.conn) refl

pub returns-in-Err-clause-levels : goal.returns-in-Err-clause-levels
returns-in-Err-clause-levels g c = rw (g.met.H.Hold.puts c.args.holder c.begin.new.conn, ← c.conn_mut.ensures.value) c.in-Err.ensures.err

pub returns-in-Err-clause-does : goal.returns-in-Err-clause-does
returns-in-Err-clause-does g c = rw (g.met.H.Hold.puts c.args.holder c.begin.new.conn, ← c.conn_mut.ensures.value) c.in-Err.ensures.does

pub returns-in-Err-clause-custom_inside : goal.returns-in-Err-clause-custom_inside
returns-in-Err-clause-custom_inside g c = λ custom inside.
    let known = c.in-Err.ensures.custom_inside custom (rw c.conn_mut.ensures.value inside) in
    let error : c.in-Err.error ≡ InvalidSavePointStatement = cc known.0 in
    rw (error, known.1, c.conn_mut.ensures.value, g.met.H.Hold.keeps c.args.holder) refl

pub returns-in-Err-clause-rises : goal.returns-in-Err-clause-rises
returns-in-Err-clause-rises g c = rw (g.met.H.Hold.puts c.args.holder c.begin.new.conn, ← c.conn_mut.ensures.value) c.in-Err.ensures.rises

pub returns-in-Err-clause-cause : goal.returns-in-Err-clause-cause
returns-in-Err-clause-cause g c = rw (g.met.H.Hold.puts c.args.holder c.begin.new.conn, ← c.conn_mut.ensures.value) c.in-Err.ensures.cause
