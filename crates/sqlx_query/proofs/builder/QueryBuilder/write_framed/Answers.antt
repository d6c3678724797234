use Rattle.std.proofs.Common.{◌∷◌, [], ◌++◌, sym}
use Rattle.sqlx_query_drafts.specs.Builder.{Extends, Gains, Text, tuples_of}
use Rattle.sqlx_query.proofs.DraftLemmas.{gains_then, extends_itself, extends_then, extends_by_text}
use Rattle.sqlx_query.proofs.builder.QueryBuilder.write_framed.Goals as goal

pub returns-in_err-append-clause-appends : goal.returns-in_err-append-clause-appends
returns-in_err-append-clause-appends g c = rw c.in_err-append.ensures.err (extends_itself _ _ _)

pub returns-in_err-write_tuples-clause-appends : goal.returns-in_err-write_tuples-clause-appends
returns-in_err-write_tuples-clause-appends g c =
    let count = g.DB.ArgumentBuffer.ArgumentList.count in
    let first = g.DB.ArgumentBuffer.ArgumentList.first in
    let opened : Extends count first c.args.self.now c.append.new.self = rw c.in_ok-append.ensures.ok (extends_by_text count first c.args.self.now c.args.head.now) in
    extends_then count first c.args.self.now c.append.new.self c.write_tuples.new.self opened c.write_tuples.ensures.appends

pub returns-in_err-append-2-clause-appends : goal.returns-in_err-append-2-clause-appends
returns-in_err-append-2-clause-appends g c =
    let count = g.DB.ArgumentBuffer.ArgumentList.count in
    let first = g.DB.ArgumentBuffer.ArgumentList.first in
    let opened : Extends count first c.args.self.now c.append.new.self = rw c.in_ok-append.ensures.ok (extends_by_text count first c.args.self.now c.args.head.now) in
    rw c.in_err-append-2.ensures.err (extends_then count first c.args.self.now c.append.new.self c.write_tuples.new.self opened c.write_tuples.ensures.appends)

pub returns-clause-appends : goal.returns-clause-appends
returns-clause-appends g c =
    let count = g.DB.ArgumentBuffer.ArgumentList.count in
    let first = g.DB.ArgumentBuffer.ArgumentList.first in
    let opened : Extends count first c.args.self.now c.append.new.self = rw c.in_ok-append.ensures.ok (extends_by_text count first c.args.self.now c.args.head.now) in
    let filled = extends_then count first c.args.self.now c.append.new.self c.write_tuples.new.self opened c.write_tuples.ensures.appends in
    rw c.in_ok-append-2.ensures.ok (extends_then count first c.args.self.now c.write_tuples.new.self _ filled (extends_by_text count first c.write_tuples.new.self c.args.tail.now))

pub returns-clause-ok : goal.returns-clause-ok
returns-clause-ok g c =
    let count = g.DB.ArgumentBuffer.ArgumentList.count in
    let first = g.DB.ArgumentBuffer.ArgumentList.first in
    let wrote = c.in_ok-write_tuples.ensures.ok in
    let opened : Gains count first c.args.self.now (Text c.args.head.now ∷ []) c.append.new.self = (tt, c.in_ok-append.ensures.ok) in
    let closed : Gains count first c.write_tuples.new.self (Text c.args.tail.now ∷ []) c.append-2.new.self = (tt, c.in_ok-append-2.ensures.ok) in
    let rest = gains_then count first c.append.new.self c.write_tuples.new.self c.append-2.new.self (tuples_of wrote.1) (Text c.args.tail.now ∷ []) wrote.5 closed in
    (wrote.0, wrote.1, wrote.2, wrote.3, rw (sym c.in_ok-append.ensures.ok) wrote.4, gains_then count first c.args.self.now c.append.new.self c.append-2.new.self (Text c.args.head.now ∷ []) (tuples_of wrote.1 ++ Text c.args.tail.now ∷ []) opened rest)
