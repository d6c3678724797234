use Rattle.std.proofs.Common.{◌≡◌, ◌+◌, ◌-◌, length, take, drop, refl, arith}
use Rattle.std.proofs.lemmas.List.{take_all, length-drop}
use Rattle.std.proofs.lemmas.Option.{slice_get_read}
use Rattle.sqlx_pool_log.proofs.Cutting.{cut_step_some}
use Rattle.sqlx_pool_log.proofs.cut.keep_entry.Goals as goal

pub returns-in-Some-clause-says : goal.returns-in-Some-clause-says
returns-in-Some-clause-says c = cut_step_some c.args.next_ticket c.args.next_conn c.args.entries.now.items c.args.kept c.args.at c.index.result.now c.in-Some.cut c.requires.before c.requires.inside (slice_get_read c.args.entries.now.items (length c.args.entries.now.items) c.args.at c.index.result.now refl c.requires.inside c.index.ensures) (let h = c.in-Some.ensures in rw (c.deref.ensures.value, rest) at h)
  where
    rest : take (length c.args.entries.now.items - (c.args.at + 1)) (drop (c.args.at + 1) c.args.entries.now.items) ≡ drop (c.args.at + 1) c.args.entries.now.items
    rest = take_all (length c.args.entries.now.items - (c.args.at + 1)) (drop (c.args.at + 1) c.args.entries.now.items) (omega (arith, length-drop (c.args.at + 1) c.args.entries.now.items))
