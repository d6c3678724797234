-- The text `mem:crowd` is a URL.
use Rattle.std.proofs.Common.{◌≡◌, ◌⊎◌, codes, Result, None, Err}
use Rattle.url.specs.Parts.{Parts}
use Rattle.url.specs.Parser.{parse_url, parse_parts, parse_body, parse_non_special, split_scheme, leading_slashes}
use Rattle.url.specs.Scheme.{scheme_len, scheme_type, default_port}
use Rattle.url.specs.Input.{trim_c0_control_and_space, strip_tabs_and_new_lines, split_once}
use Rattle.sqlx_text.specs.declared.error.Error.{Error}
use Rattle.sqlx_text.specs.declared.error.Error.TheVariants.{OutOfMemory}
use Rattle.sqlx_traits.specs.Options.{ReadsText}

-- what it stands for is what the options of its URL are, unless there is no memory
pub reads_crowd : {O : Type 0} (read : Parts → Result O Error → Type 0) (r : Result O Error) → ReadsText (parse_url None (codes "mem:crowd")) read r
    → (url : Parts) × (read url r ⊎ (r ≡ Err OutOfMemory))
unfolding parse_url parse_parts parse_body parse_non_special split_scheme leading_slashes scheme_len scheme_type default_port trim_c0_control_and_space strip_tabs_and_new_lines split_once
reads_crowd read r reads = (_, reads)
