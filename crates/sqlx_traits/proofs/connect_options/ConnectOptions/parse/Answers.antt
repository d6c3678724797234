use Rattle.std.proofs.Common.{◌≡◌, Err, Ok, Result, inl, inr, refl, rules}
use Rattle.url.specs.Parser.{IsOutOfRoom, Parsed}
use Rattle.url.specs.Parts.{Parts}
use Rattle.url.specs.declared.error.ParseError.{ParseError}
use Rattle.sqlx_text.specs.declared.error.Error.{Error}
use Rattle.sqlx_text.specs.declared.error.Error.TheVariants as error
use Rattle.sqlx_traits.specs.Options.{IsRefusal, IsRefusalOf, ReadsText}
use Rattle.sqlx_traits.proofs.connect_options.ConnectOptions.parse.Goals as goal

is_refusal : (reason : ParseError) (e : Error) → IsRefusalOf reason e → IsRefusal e
is_refusal reason e refusal = search rules

out_of_room : (reason : ParseError) (e : Error) → IsOutOfRoom reason → IsRefusalOf reason e → e ≡ error.OutOfMemory
out_of_room reason e (inl memory) refusal = rw memory at refusal
out_of_room reason e (inr overflow) refusal = rw overflow at refusal

no_memory : {O : Type 0} (parsed : Parsed Parts) (reads : Parts → Result O Error → Type 0) → ReadsText parsed reads (Err error.OutOfMemory)
no_memory (Ok url) reads = inr refl
no_memory (Err reason) reads = inr refl

pub returns-in-Ok : goal.returns-in-Ok
returns-in-Ok g c = rw c.in-Ok.ensures (inl c.from_url.ensures)

pub returns-in-Err : goal.returns-in-Err
returns-in-Err g c =
    elim c.in-Err.ensures [
      | inl is ↦ rw is (is_refusal c.in-Err.reason c.not_a_url.result c.not_a_url.ensures)
      | inr no_room ↦ rw (out_of_room c.in-Err.reason c.not_a_url.result no_room c.not_a_url.ensures) (no_memory _ _)
    ]
