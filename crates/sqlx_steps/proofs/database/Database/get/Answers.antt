use Rattle.std.proofs.Common.{◌≡◌, ℤ, pos, refl, ap, ◌∙◌, w64, SFits, to_z, of_z, to_z-of_z, arith}
use Rattle.sqlx_savepoints.specs.Rows.{sees}
use Rattle.mem_driver.specs.Session.{Link}
use Rattle.sqlx_steps_rules.specs.Rules.{found_reply}
use Rattle.sqlx_steps.proofs.Keeping.{get_keeps, get_found}
use Rattle.sqlx_steps.proofs.database.Database.get.Goals as goal

pub lend-id-requires : goal.lend-id-requires
lend-id-requires c = (c.requires.1.link, c.requires.1.rests)

pub take_back-requires : goal.take_back-requires
take_back-requires c = (c.lend-id.ensures c.requires.1.link c.requires.1.rests).1

pub returns : goal.returns
returns c = λ steps k.
    let fits : SFits w64 (pos c.args.key) = record { sfits = omega (arith, c.ranges.key.fits) } in
    let same : c.into_parts-side.result.0 ≡ k.link.side = c.into_parts-side.ensures.0 ∙ ap (λ (l : Link). l.side) (c.lend-id.ensures k.link k.rests).0 in (
      c.read_reply.ensures ∙ ap found_reply (c.seen_by-found.ensures ∙ ap (λ (z : ℤ). sees c.into_parts-side.result.0.own c.args.self.now.store.rows z) (ap (λ (z : ℤ). to_z w64 (of_z w64 z)) c.from.ensures ∙ to_z-of_z fits) ∙ get_found steps c.args.self.now.version c.args.key c.args.self.now c.into_parts-side.result.0 k same),
      get_keeps steps c.args.self.now.version c.args.self.now _ c.of-raw.result k (ap (λ (l : Link). l.side) c.of-raw.ensures ∙ same) c.take_back.ensures refl refl,
    )
