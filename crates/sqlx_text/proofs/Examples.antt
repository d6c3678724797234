-- Worked examples of the definitions.
use Rattle.std.proofs.Common.{◌≡◌, Some, None, refl}
use Rattle.std.specs.Prelude.{codes}
use Rattle.sqlx_text.specs.Text.{without_prefix}

without_prefix-ab : without_prefix (codes "ab") (codes "abc") ≡ Some (codes "c")
without_prefix-ab = refl

without_prefix-b : without_prefix (codes "b") (codes "abc") ≡ None
without_prefix-b = refl
