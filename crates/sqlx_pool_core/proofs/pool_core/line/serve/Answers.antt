use Rattle.std.proofs.Common.{◌≡◌, ◌+◌, arith, inr, ap, ◌∙◌}
use Rattle.sqlx_pool_core.proofs.KeptLine.{nearly-moved}
use Rattle.sqlx_pool_core.proofs.Looks.{entitles-passed}
use Rattle.sqlx_pool_core.proofs.LonePools.{advanced-moved, moves-once}
use Rattle.sqlx_pool_places.specs.Line.{TicketLine}
use Rattle.sqlx_pool_core.proofs.pool_core.line.serve.Goals as goal

pub returns-then-entitled-num_free-clause-still : goal.returns-then-entitled-num_free-clause-still
returns-then-entitled-num_free-clause-still g c = λ lined. absurd (let served = lined.served in omega (arith, served, c.if-beyond-gt0.true, c.beyond.ensures, c.if-entitled-num_free.true, c.entitled.ensures, c.num_free.ensures))

pub returns-then-entitled-num_free-clause-lined : goal.returns-then-entitled-num_free-clause-lined
returns-then-entitled-num_free-clause-lined g c =
    nearly-moved c.args.pool.now c.args.line.now c.advance.new.self c.sound.ensures c.requires.near c.advance.ensures.becomes c.advance.ensures.one (omega (arith, c.if-beyond-gt0.true, c.beyond.ensures)) (omega (arith, c.if-entitled-num_free.true, c.entitled.ensures, c.num_free.ensures))

pub returns-then-entitled-num_free-clause-turns : goal.returns-then-entitled-num_free-clause-turns
returns-then-entitled-num_free-clause-turns g c =
    inr (entitles-passed c.args.pool.now c.args.line.now c.advance.new.self c.sound.ensures (returns-then-entitled-num_free-clause-lined g c) c.advance.ensures.becomes (omega (arith, c.if-beyond-gt0.true, c.beyond.ensures)))

pub returns-then-entitled-num_free-clause-moves : goal.returns-then-entitled-num_free-clause-moves
returns-then-entitled-num_free-clause-moves g c =
    let one : c.advance.new.self.moves ≡ c.args.line.now.moves + 1 = ap (λ (l : TicketLine). l.moves) c.advance.ensures.becomes ∙ advanced-moved c.args.line.now (omega (arith, c.if-beyond-gt0.true, c.beyond.ensures)) in
    omega (arith, one, c.advance.ensures.cost)

pub returns-then-entitled-num_free-clause-edge : goal.returns-then-entitled-num_free-clause-edge
returns-then-entitled-num_free-clause-edge g c = moves-once c.args.line.now c.advance.new.self (omega (arith, c.if-beyond-gt0.true, c.beyond.ensures)) c.advance.ensures.becomes c.advance.ensures.forward
