-- Values that are read as the type that they were bound at.
use Rattle.std.proofs.Common.{◌≡◌, ℤ, pos, negsuc, inl, inr, refl, ap, subst, ◌∙◌, arith, Result, Ok, Err, Option, Some, option_map, FitsSigned, w16, w32, w64, Bool, true, false}
use Rattle.sqlx_text.specs.declared.fault.Fault.{Fault}
use Rattle.sqlx_traits.specs.Reads.{Reads, ReadsOption, option_of}
use Rattle.sqlx_any_values.specs.declared.value.AnyValueKind.{AnyValueKind}
use Rattle.sqlx_any_values.specs.Kinds.{kind_of}
use Rattle.sqlx_any_values.specs.TypedRead.{Reader, may_read, typed_read, within}

-- what is read of a value that isn't null is read of it as an option
read_as_some : {T A : Type 0} (seen : T → A) (a : A) (r : Result (Option T) Fault)
    → ReadsOption false (λ answer. Reads seen (Ok a) answer) r → Reads (option_map seen) (Ok (Some a)) r
read_as_some seen a r (Ok y, read, is) = rw is (ap option_of read)
read_as_some seen a r (Err e, inl read, is) = rw is (inl (ap option_of read))
read_as_some seen a r (Err e, inr none, is) = rw is (inr none)

-- a value that fits a type is read by it, checked or not
typed_read-fits : {A : Type 0} (t : Reader A) (is_checked in_row : Bool) (v : AnyValueKind) → may_read true (t.takes (kind_of v)) (kind_of v) ≡ true → typed_read t is_checked in_row v ≡ t.read v
typed_read-fits t true in_row v fits = rw fits refl
typed_read-fits t false in_row v fits = refl

module _ {T A : Type 0} (seen : T → A) (t : Reader A) (v : AnyValueKind) (a : A) (fits : may_read true (t.takes (kind_of v)) (kind_of v) ≡ true) (due : t.read v ≡ Ok a) where
  -- what a type reads of a value that it fits
  pub read_back : (is_checked in_row : Bool) (r : Result T Fault) → Reads seen (typed_read t is_checked in_row v) r → Reads seen (Ok a) r
  read_back is_checked in_row r read = subst (λ d. Reads seen d r) (typed_read-fits t is_checked in_row v fits ∙ due) read

  -- and what it reads of it as an option
  pub read_back_as_some : (is_checked in_row : Bool) (r : Result (Option T) Fault)
      → ReadsOption false (λ answer. Reads seen (typed_read t is_checked in_row v) answer) r → Reads (option_map seen) (Ok (Some a)) r
  read_back_as_some is_checked in_row r read =
      read_as_some seen a r (subst (λ d. ReadsOption false (λ answer. Reads seen d answer) r) (typed_read-fits t is_checked in_row v fits ∙ due) read)

-- a number of 16 bits is in its range
pub fits_i16 : (z : ℤ) → FitsSigned w16 z → within (negsuc 32_767) (pos 32_767) z ≡ Ok z
fits_i16 (pos n) fits = grind (arith, fits.sfits)
fits_i16 (negsuc n) fits = grind (arith, fits.sfits)

-- a number of 32 bits is in its range
pub fits_i32 : (z : ℤ) → FitsSigned w32 z → within (negsuc 2_147_483_647) (pos 2_147_483_647) z ≡ Ok z
fits_i32 (pos n) fits = grind (arith, fits.sfits)
fits_i32 (negsuc n) fits = grind (arith, fits.sfits)

-- a number of 64 bits is in its range
pub fits_i64 : (z : ℤ) → FitsSigned w64 z → within (negsuc 9_223_372_036_854_775_807) (pos 9_223_372_036_854_775_807) z ≡ Ok z
fits_i64 (pos n) fits = grind (arith, fits.sfits)
fits_i64 (negsuc n) fits = grind (arith, fits.sfits)
