use Rattle.std.proofs.Common.{◌∷◌, [], ◌++◌, codes, sym}
use Rattle.sqlx_query_drafts.specs.Builder.{Extends, Gains, Text, opening}
use Rattle.sqlx_query.proofs.DraftLemmas.{gains_then, extends_itself, extends_then, extends_by_text, extends_by_pieces, entry_adds_none, gains_extend}
use Rattle.sqlx_query.proofs.builder.QueryBuilder.write_tuple.Goals as goal

pub returns-in_err-open_tuple-clause-appends : goal.returns-in_err-open_tuple-clause-appends
returns-in_err-open_tuple-clause-appends g c = rw c.in_err-open_tuple.ensures.err (extends_itself _ _ _)

pub returns-in_err-fill_tuple-clause-appends : goal.returns-in_err-fill_tuple-clause-appends
returns-in_err-fill_tuple-clause-appends g c =
    let count = g.DB.ArgumentBuffer.ArgumentList.count in
    let first = g.DB.ArgumentBuffer.ArgumentList.first in
    let opened : Extends count first c.args.self.now c.open_tuple.new.self = rw c.in_ok-open_tuple.ensures.ok (extends_by_pieces count first c.args.self.now (opening c.args.later) (entry_adds_none count first _ c.args.later _ _)) in
    extends_then count first c.args.self.now c.open_tuple.new.self c.fill_tuple.new.self opened (gains_extend count first c.open_tuple.new.self c.fill_tuple.new.self c.fill_tuple.ensures.appends.pieces c.fill_tuple.ensures.appends.gains)

pub returns-in_err-append-clause-appends : goal.returns-in_err-append-clause-appends
returns-in_err-append-clause-appends g c =
    let count = g.DB.ArgumentBuffer.ArgumentList.count in
    let first = g.DB.ArgumentBuffer.ArgumentList.first in
    let opened : Extends count first c.args.self.now c.open_tuple.new.self = rw c.in_ok-open_tuple.ensures.ok (extends_by_pieces count first c.args.self.now (opening c.args.later) (entry_adds_none count first _ c.args.later _ _)) in
    rw c.in_err-append.ensures.err (extends_then count first c.args.self.now c.open_tuple.new.self c.fill_tuple.new.self opened (gains_extend count first c.open_tuple.new.self c.fill_tuple.new.self c.fill_tuple.ensures.appends.pieces c.fill_tuple.ensures.appends.gains))

pub returns-clause-appends : goal.returns-clause-appends
returns-clause-appends g c =
    let count = g.DB.ArgumentBuffer.ArgumentList.count in
    let first = g.DB.ArgumentBuffer.ArgumentList.first in
    let opened : Extends count first c.args.self.now c.open_tuple.new.self = rw c.in_ok-open_tuple.ensures.ok (extends_by_pieces count first c.args.self.now (opening c.args.later) (entry_adds_none count first _ c.args.later _ _)) in
    let filled = extends_then count first c.args.self.now c.open_tuple.new.self c.fill_tuple.new.self opened (gains_extend count first c.open_tuple.new.self c.fill_tuple.new.self c.fill_tuple.ensures.appends.pieces c.fill_tuple.ensures.appends.gains) in
    rw c.in_ok-append.ensures.ok (extends_then count first c.args.self.now c.fill_tuple.new.self _ filled (extends_by_text count first c.fill_tuple.new.self (codes ")")))

pub returns-clause-ok : goal.returns-clause-ok
returns-clause-ok g c =
    let count = g.DB.ArgumentBuffer.ArgumentList.count in
    let first = g.DB.ArgumentBuffer.ArgumentList.first in
    let head = opening c.args.later in
    let ps = c.in_ok-fill_tuple.ensures.ok.0 in
    let opened : Gains count first c.args.self.now head c.open_tuple.new.self = (entry_adds_none count first _ c.args.later _ _, c.in_ok-open_tuple.ensures.ok) in
    let closed : Gains count first c.fill_tuple.new.self (Text (codes ")") ∷ []) c.append.new.self = (tt, c.in_ok-append.ensures.ok) in
    let filled = gains_then count first c.open_tuple.new.self c.fill_tuple.new.self c.append.new.self ps (Text (codes ")") ∷ []) c.in_ok-fill_tuple.ensures.ok.2 closed in
    (ps, rw (sym c.in_ok-open_tuple.ensures.ok) c.in_ok-fill_tuple.ensures.ok.1, gains_then count first c.args.self.now c.open_tuple.new.self c.append.new.self head (ps ++ Text (codes ")") ∷ []) opened filled)
