-- Arguments that are handed on to another database, each as its Rust type.
use Rattle.std.specs.Prelude.{◌≡◌, ◌⊎◌, ℕ, ℤ, Bool, List, [], ◌∷◌}
use Rattle.sqlx_text.specs.declared.fault.Fault.{Fault}
use Rattle.sqlx_text.specs.declared.kind.AnyTypeInfoKind.{AnyTypeInfoKind}
use Rattle.sqlx_text.specs.declared.kind.AnyTypeInfoKind.TheVariants as kind
use Rattle.sqlx_traits.specs.Arguments.{IsWantOfMemory}
use Rattle.sqlx_any_values.specs.declared.value.AnyValueKind.{AnyValueKind}
use Rattle.sqlx_any_values.specs.declared.value.AnyValueKind.TheVariants as value

-- a list of arguments became another by a value
abbrev pub Step : Type 0 → Type 1
Step L = L → L → Type 0

-- a Rust value was added that is seen as a
abbrev pub Adds : {T A L : Type 0} → (T → A) → (T → L → L) → A → Step L
Adds {T = T} seen encoded a before after = (x : T) × (seen x ≡ a) × (after ≡ encoded x before)

-- how a database takes each Rust type as an argument: a value of it, and where it is an option, none
pub record Takes (L : Type 0) : Type 1 where
  pub a_bool : Bool → L → L
  pub an_i16 : ℤ → L → L
  pub an_i32 : ℤ → L → L
  pub an_i64 : ℤ → L → L
  pub a_text : List ℕ → Step L
  pub bytes : List ℕ → Step L
  pub none : AnyTypeInfoKind → L → L

-- for each kind of a null what stands for it; one of the kind Null is taken for one of an i32
abbrev pub by_kind {ℓ} : {X : Type ℓ} → X → X → X → X → X → X → AnyTypeInfoKind → X
by_kind of_bool of_i16 of_i32 of_i64 of_text of_bytes kind.Null = of_i32
by_kind of_bool of_i16 of_i32 of_i64 of_text of_bytes kind.Bool = of_bool
by_kind of_bool of_i16 of_i32 of_i64 of_text of_bytes kind.SmallInt = of_i16
by_kind of_bool of_i16 of_i32 of_i64 of_text of_bytes kind.Integer = of_i32
by_kind of_bool of_i16 of_i32 of_i64 of_text of_bytes kind.BigInt = of_i64
by_kind of_bool of_i16 of_i32 of_i64 of_text of_bytes kind.Text = of_text
by_kind of_bool of_i16 of_i32 of_i64 of_text of_bytes kind.Blob = of_bytes

-- a value was added as its Rust type, a null as one of its kind
abbrev pub AddsValue : {L : Type 0} → Takes L → AnyValueKind → Step L
AddsValue takes (value.Null kind) before after = after ≡ takes.none kind before
AddsValue takes (value.Bool b) before after = after ≡ takes.a_bool b before
AddsValue takes (value.SmallInt n) before after = after ≡ takes.an_i16 n before
AddsValue takes (value.Integer n) before after = after ≡ takes.an_i32 n before
AddsValue takes (value.BigInt n) before after = after ≡ takes.an_i64 n before
AddsValue takes (value.Text text) before after = takes.a_text text before after
AddsValue takes (value.TextSlice text) before after = takes.a_text text before after
AddsValue takes (value.Blob bytes) before after = takes.bytes bytes before after

-- values were added one by one, in their order
abbrev pub AddsInOrder : {L : Type 0} → (AnyValueKind → Step L) → List AnyValueKind → Step L
AddsInOrder adds [] before after = after ≡ before
AddsInOrder {L} adds (v ∷ rest) before after = (next : L) × adds v before next × AddsInOrder adds rest next after

-- a Rust value that is seen as a may be refused with the fault
abbrev pub Refuses : {T A : Type 0} → (T → A) → (T → Fault → Type 0) → A → Fault → Type 0
Refuses {T = T} seen refuses a fault = (x : T) × (seen x ≡ a) × refuses x fault

-- what a database may refuse each Rust type with: a value of it, and where it is an option, none
pub record Refusals : Type 1 where
  pub a_bool : Bool → Fault → Type 0
  pub an_i16 : ℤ → Fault → Type 0
  pub an_i32 : ℤ → Fault → Type 0
  pub an_i64 : ℤ → Fault → Type 0
  pub a_text : List ℕ → Fault → Type 0
  pub bytes : List ℕ → Fault → Type 0
  pub none : AnyTypeInfoKind → Fault → Type 0

-- a value may be refused with the fault, as its Rust type; a text is copied first, for which memory may be wanting
abbrev pub RefusesValue : Refusals → AnyValueKind → Fault → Type 0
RefusesValue refusals (value.Null kind) fault = refusals.none kind fault
RefusesValue refusals (value.Bool b) fault = refusals.a_bool b fault
RefusesValue refusals (value.SmallInt n) fault = refusals.an_i16 n fault
RefusesValue refusals (value.Integer n) fault = refusals.an_i32 n fault
RefusesValue refusals (value.BigInt n) fault = refusals.an_i64 n fault
RefusesValue refusals (value.Text text) fault = refusals.a_text text fault ⊎ IsWantOfMemory fault
RefusesValue refusals (value.TextSlice text) fault = refusals.a_text text fault ⊎ IsWantOfMemory fault
RefusesValue refusals (value.Blob bytes) fault = refusals.bytes bytes fault

-- one of the values may be refused with the fault
abbrev pub RefusesOne : (AnyValueKind → Fault → Type 0) → List AnyValueKind → Fault → Type 0
RefusesOne refuses [] fault = ⊥
RefusesOne refuses (v ∷ rest) fault = refuses v fault ⊎ RefusesOne refuses rest fault
