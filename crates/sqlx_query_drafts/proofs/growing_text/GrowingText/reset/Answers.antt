use Rattle.std.proofs.Common.{rules, string_bytes, subst}
use Rattle.std.specs.Str.{IsUtf8}
use Rattle.std.proofs.lemmas.Str.{IsCharBoundary-from_take}
use Rattle.sqlx_query_drafts.proofs.growing_text.GrowingText.reset.Goals as goal

pub truncate-requires : goal.truncate-requires
truncate-requires c =
    let at = IsCharBoundary-from_take (string_bytes c.self.inside.text) _ (subst IsUtf8 c.as_str-bytes.ensures.value c.as_str-bytes.utf8) c.self.invariant.0 c.self.invariant.1 in search rules
