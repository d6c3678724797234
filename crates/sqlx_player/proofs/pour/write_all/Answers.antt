use Rattle.std.proofs.Common.{arith}
use Rattle.std.proofs.lemmas.List.{take_rest}
use Rattle.sqlx_player.proofs.Pieces.{handed_more}
use Rattle.sqlx_player.proofs.scripts.Parts.{more}
use Rattle.sqlx_player.proofs.pour.write_all.Goals as goal

pub loop-rest-preserved : goal.loop-rest-preserved
loop-rest-preserved g c = record {
  wrote = rw take_rest (more _ _ _ _ _ c.in-Ok.n c.loop-rest.invariant.wrote c.in-Ok.ensures.bytes);
  handed = rw take_rest (handed_more _ _ _ _ _ c.in-Ok.n c.loop-rest.invariant.handed c.in-Ok.ensures.pieces (omega arith) c.in-Ok.ensures.within);
  rises = omega arith;
}
