use Rattle.std.proofs.Common.{refl}
use Rattle.std.proofs.lemmas.Option.{slice_get_read}
use Rattle.sqlx_any.proofs.describe.Describe.column.Goals as goal

pub returns : goal.returns
returns g c = slice_get_read c.args.self.now.columns.items _ c.args.index c.index.result.now refl c.requires c.index.ensures
