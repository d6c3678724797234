use Rattle.sqlx_query.proofs.DraftLemmas.{extends_then, so_far_none, so_far_more, so_far_extends}
use Rattle.sqlx_query_drafts.specs.Tuples.{Wrote}
use Rattle.sqlx_query.proofs.builder.QueryBuilder.write_tuples.Goals as goal
use Rattle.std.proofs.Common.{rules}

pub loop-item-init : goal.loop-item-init
loop-item-init g c =
    let so = so_far_none g.DB.ArgumentBuffer.ArgumentList.count g.DB.ArgumentBuffer.ArgumentList.first (Wrote g.DB.ArgumentBuffer.ArgumentList.count g.DB.ArgumentBuffer.ArgumentList.first g.DB.Arguments.Arguments.buffered (λ row. row.now.parts) (goal.F-step g)) c.args.push_tuple c.args.self.now in
    (rw c.into_iter-item-iterator.ensures.into_iter_gives c.requires.can, rw c.into_iter-item-iterator.ensures.into_iter_gives c.requires.ends, c.requires.callable, so)

pub returns-in_err-write_tuple-clause-appends : goal.returns-in_err-write_tuple-clause-appends
returns-in_err-write_tuple-clause-appends g c =
    let count = g.DB.ArgumentBuffer.ArgumentList.count in
    let first = g.DB.ArgumentBuffer.ArgumentList.first in
    let before = so_far_extends count first (Wrote g.DB.ArgumentBuffer.ArgumentList.count g.DB.ArgumentBuffer.ArgumentList.first g.DB.Arguments.Arguments.buffered (λ row. row.now.parts) (goal.F-step g)) c.args.push_tuple c.args.self.now _ _ _ _ c.loop-item.invariant.3 in
    extends_then count first c.args.self.now c.loop-item.self c.write_tuple.new.self before c.write_tuple.ensures.appends

pub loop-item-preserved : goal.loop-item-preserved
loop-item-preserved g c =
    let count = g.DB.ArgumentBuffer.ArgumentList.count in
    let first = g.DB.ArgumentBuffer.ArgumentList.first in
    let wrote = c.in_ok-write_tuple.ensures.ok in
    let so = so_far_more count first (Wrote g.DB.ArgumentBuffer.ArgumentList.count g.DB.ArgumentBuffer.ArgumentList.first g.DB.Arguments.Arguments.buffered (λ row. row.now.parts) (goal.F-step g)) c.args.push_tuple c.args.self.now c.loop-item.yielded c.loop-item.later c.loop-item.push_tuple c.write_tuple.new.push_tuple c.loop-item.self c.write_tuple.new.self c.in-Some.item wrote.0 c.loop-item.invariant.3 wrote.1 wrote.2 in
    (search rules, search rules, c.write_tuple.ensures.again, so)

pub returns-clause-appends : goal.returns-clause-appends
returns-clause-appends g c =
    so_far_extends g.DB.ArgumentBuffer.ArgumentList.count g.DB.ArgumentBuffer.ArgumentList.first (Wrote g.DB.ArgumentBuffer.ArgumentList.count g.DB.ArgumentBuffer.ArgumentList.first g.DB.Arguments.Arguments.buffered (λ row. row.now.parts) (goal.F-step g)) c.args.push_tuple c.args.self.now _ _ _ _ c.loop-item.invariant.3
