-- Options of a connection: what they are read of.
use Rattle.std.specs.Prelude.{◌≡◌, ◌⊎◌, ℕ, List, Result, Ok, Err, IsErrAnd}
use Rattle.url.specs.Parser.{Parsed}
use Rattle.url.specs.Parts.{Parts}
use Rattle.url.specs.declared.error.ParseError.{ParseError}
use Rattle.url.specs.declared.error.ParseError.TheVariants as parse
use Rattle.sqlx_text.specs.declared.error.Error.{Error}
use Rattle.sqlx_text.specs.declared.error.Error.TheVariants as error
use Rattle.sqlx_text.specs.declared.fault.Fault.TheVariants as fault

-- a refusal of the options in words, or want of memory
abbrev pub IsRefusal : Error → Type 0
IsRefusal e = ((text : List ℕ) × (e ≡ error.Configuration (fault.Text text))) ⊎ (e ≡ error.OutOfMemory)

-- the error of a text that is no URL; one that came to 4 GB counts as want of memory
abbrev pub IsRefusalOf : ParseError → Error → Type 0
IsRefusalOf parse.OutOfMemory e = e ≡ error.OutOfMemory
IsRefusalOf parse.Overflow e = e ≡ error.OutOfMemory
IsRefusalOf _ e = IsRefusal e

-- what a text stands for: the options of its URL, and a refusal of the options where it is none; or there is no memory
abbrev pub ReadsText : {O : Type 0} → Parsed Parts → (Parts → Result O Error → Type 0) → Result O Error → Type 0
ReadsText (Ok url) read r = read url r ⊎ (r ≡ Err error.OutOfMemory)
ReadsText (Err reason) read r = IsErrAnd r IsRefusal
