use Rattle.std.proofs.Common.{w64, to_z, arith}
use Rattle.std.proofs.lemmas.Int.{to_z_pos}
use Rattle.sqlx_savepoints.specs.Links.{new_link}
use Rattle.sqlx_transfer_rules.specs.Transfers.{nobody}
use Rattle.sqlx_transfer.proofs.OpeningLemmas.{wrote_one}
use Rattle.sqlx_transfer.proofs.opening.write_openings.Goals as goal

pub loop-account-preserved : goal.loop-account-preserved
loop-account-preserved g c = (
  omega (arith, c.loop-account-test.true),
  λ start.
      let w = c.loop-account.invariant.1 start in
      let put = c.in_ok-put.ensures w.past (λ _. new_link) nobody 0 0 w.at in
      wrote_one c.args.opening c.loop-account.account _ (to_z w64 c.args.opening) _ _ _ _ (to_z_pos w64 c.args.opening c.requires) w put,
)
