-- A refusal that was counted since a later moment was counted since an earlier one.
use Rattle.std.proofs.Common.{ℕ, ◌≡◌, ◌==◌, ◌≤◌, false, inl, inr, arith}
use Rattle.sqlx_text.specs.declared.error.Error.{Error}
use Rattle.sqlx_pool_core.specs.Outside.{HasRisen}
use Rattle.sqlx_pool_parts.specs.Opened.{IsCounted, IsOpenRefusal, TellsLevels}
use Rattle.sqlx_pool.specs.Refusals.{IsPollRefusal}

risen_sooner : (a b c : ℕ) → a ≤ b → HasRisen b c → HasRisen a c
risen_sooner a b c more (inl rose) = inl (omega (arith, more, rose))
risen_sooner a b c more (inr most) = inr most

-- so for why a poll is refused
pub refusal_sooner : (a b c : ℕ) (e : Error) → a ≤ b → IsPollRefusal b c e → IsPollRefusal a c e
refusal_sooner a b c e more (inl end) = inl end
refusal_sooner a b c e more (inr (inl short, lasts)) = inr (inl short, lasts)
refusal_sooner a b c e more (inr (inr rose, lasts)) = inr (inr (risen_sooner a b c more rose), lasts)

risen_later : (a b c : ℕ) → b ≤ c → HasRisen a b → HasRisen a c
risen_later a b c more (inl rose) = inl (omega (arith, more, rose))
risen_later a b c more (inr most) = inr (omega (arith, more, most))

-- so for why the first connections are refused
pub open_sooner : {C X : Type 0} (depth : X → C → ℕ) (levels : C → ℕ) (f f1 f2 r r1 r2 : ℕ) (e : Error) → f ≤ f1 → r ≤ r1
    → IsOpenRefusal depth levels f1 r1 f2 r2 e → IsOpenRefusal depth levels f r f2 r2 e
open_sooner depth levels f f1 f2 r r1 r2 e more again (inl short) = inl short
open_sooner depth levels f f1 f2 r r1 r2 e more again (inr (inl left)) = inr (inl (left.0, (λ tells. risen_sooner r r1 r2 again (left.1 tells))))
open_sooner depth levels f f1 f2 r r1 r2 e more again (inr (inr (inl rose))) = inr (inr (inl (risen_sooner f f1 f2 more rose)))
open_sooner depth levels f f1 f2 r r1 r2 e more again (inr (inr (inr rose))) = inr (inr (inr (risen_sooner r r1 r2 again rose)))

-- and at a later moment they still were
pub open_later : {C X : Type 0} (depth : X → C → ℕ) (levels : C → ℕ) (f f1 f2 r r1 r2 : ℕ) (e : Error) → f1 ≤ f2 → r1 ≤ r2
    → IsOpenRefusal depth levels f r f1 r1 e → IsOpenRefusal depth levels f r f2 r2 e
open_later depth levels f f1 f2 r r1 r2 e more again (inl short) = inl short
open_later depth levels f f1 f2 r r1 r2 e more again (inr (inl left)) = inr (inl (left.0, (λ tells. risen_later r r1 r2 again (left.1 tells))))
open_later depth levels f f1 f2 r r1 r2 e more again (inr (inr (inl rose))) = inr (inr (inl (risen_later f f1 f2 more rose)))
open_later depth levels f f1 f2 r r1 r2 e more again (inr (inr (inr rose))) = inr (inr (inr (risen_later r r1 r2 again rose)))

-- a level that the connection tells of is one that the outside tells of, where it tells of levels so
pub left_open : {C X : Type 0} (depth : X → C → ℕ) (levels : C → ℕ) (out : X) (conn : C) (r r1 r2 : ℕ) → (levels conn == 0) ≡ false → r1 ≤ r2
    → ((depth out conn == 0) ≡ false → HasRisen r r1) → TellsLevels depth levels → HasRisen r r2
left_open depth levels out conn r r1 r2 has more counted tells = risen_later r r1 r2 more (counted (rw (tells out conn) has))

-- a refusal that an outside counted since a later moment it counted since an earlier one
pub counted_sooner : {X : Type 0} (faults refusals : X → ℕ) (old mid new : X) → faults old ≤ faults mid → refusals old ≤ refusals mid → IsCounted faults refusals mid new → IsCounted faults refusals old new
counted_sooner faults refusals old mid new more again (inl rose) = inl (risen_sooner (faults old) (faults mid) (faults new) more rose)
counted_sooner faults refusals old mid new more again (inr rose) = inr (risen_sooner (refusals old) (refusals mid) (refusals new) again rose)
