use Rattle.sqlx_text.proofs.Prefixes.{without_prefix-found, without_prefix-lacking}
use Rattle.sqlx_text.proofs.ustr.UStr.strip_prefix.Goals as goal

pub returns-in_ok-new-in-Some : goal.returns-in_ok-new-in-Some
returns-in_ok-new-in-Some c =
    rw (c.in_ok-new-in-Some.ensures, ← c.as_str.ensures) (without_prefix-found _ _ _ c.in-Some.ensures.cases)

pub returns-in-None : goal.returns-in-None
returns-in-None c = rw (← c.as_str.ensures) (without_prefix-lacking _ _ c.in-None.ensures.cases)
