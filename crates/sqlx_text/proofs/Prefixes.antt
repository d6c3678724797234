-- What the search for a prefix says, in the word for what follows it.
use Rattle.std.proofs.Common.{◌≡◌, ℕ, List, true, false, Some, None, refl, sym, ap}
use Rattle.std.specs.Str.{IsCharBoundary}
use Rattle.std.specs.Str.Pattern.{FindsTextPrefix, StripsPrefix}
use Rattle.std.proofs.lemmas.Str.Pattern.{starts_text}
use Rattle.sqlx_text.specs.Text.{without_prefix}

-- a prefix that was found is stripped
pub without_prefix-found : (prefix text rest : List ℕ) → StripsPrefix (FindsTextPrefix prefix) text rest → Some rest ≡ without_prefix prefix text
without_prefix-found prefix text rest found =
    let boundary : IsCharBoundary text found.0 = rw found.1.0 found.1.2 in
    rw (sym (starts_text true prefix text (found.0, found.1, boundary))) (ap Some (rw (found.2, found.1.0) refl))

-- a prefix that wasn't found isn't one
pub without_prefix-lacking : (prefix text : List ℕ) → FindsTextPrefix prefix text None → None ≡ without_prefix prefix text
without_prefix-lacking prefix text lacks = rw (sym (starts_text false prefix text lacks)) refl
