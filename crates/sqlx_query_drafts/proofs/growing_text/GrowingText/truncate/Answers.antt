use Rattle.std.proofs.Common.{rules, ◌≤◌, length, string_bytes, take, subst}
use Rattle.std.specs.Str.{IsUtf8}
use Rattle.std.proofs.lemmas.Str.{IsCharBoundary-from_take}
use Rattle.sqlx_query_drafts.proofs.growing_text.GrowingText.truncate.Goals as goal

pub truncate-requires : goal.truncate-requires
truncate-requires c =
    let at = IsCharBoundary-from_take (string_bytes c.self.inside.text) c.args.len (subst IsUtf8 c.as_str-bytes.ensures.value c.as_str-bytes.utf8) (let w : c.args.len ≤ length (string_bytes c.self.inside.text) = search rules in w) (let v : IsUtf8 (take c.args.len (string_bytes c.self.inside.text)) = search rules in v) in search rules
