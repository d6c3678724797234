use Rattle.std.proofs.Common.{◌≡◌, false, codes, sym, subst, ◌∙◌}
use Rattle.std.specs.Str.{bytes_eq}
use Rattle.sqlite_driver.specs.Opened.{IsFile, names_memory}
use Rattle.sqlite_driver.proofs.RunsLemmas.{named_file}
use Rattle.sqlite_driver.proofs.files.opened.Goals as goal

pub returns-in-Ok-clause-opened : goal.returns-in-Ok-clause-opened
returns-in-Ok-clause-opened c = (
  c.in_ok-expect_scheme.ensures.found,
  c.new.ensures.fresh,
  named_file (names_memory c.args.options.now) c.new.result.base (subst (λ path. bytes_eq path (codes ":memory:") ≡ false) c.path-path.ensures.value (sym c.eq.ensures ∙ c.if-eq.false)) (subst IsFile (sym c.new.ensures.base) c.in-Ok.ensures.opened),
)
