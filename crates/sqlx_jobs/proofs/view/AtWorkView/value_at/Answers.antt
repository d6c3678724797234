use Rattle.std.proofs.Common.{pos, sym, ap, ◌∙◌}
use Rattle.std.proofs.Math.Facts.{to_z_pos}
use Rattle.sqlx_savepoints.specs.Rows.{sees}
use Rattle.sqlx_savepoints.proofs.Laid.{get-laid}
use Rattle.sqlx_jobs.proofs.view.AtWorkView.value_at.Goals as goal
use mir.Syntax.{w64}

pub returns : goal.returns
returns c =
    let work = c.args.self.now in
    c.seen.ensures
    ∙ ap (sees work.link.now.own work.store.now.rows) (to_z_pos w64 c.requires)
    ∙ sym (get-laid work.link.now.own work.store.now.rows (pos c.args.key))
