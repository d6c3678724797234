-- What the proofs of the calls that hand the builder back cite.
pub use Rattle.std.proofs.Common.{◌≡◌, ℕ, List, [], ◌∷◌, refl, sym, ap, ◌∙◌, MutBor}
pub use Rattle.std.proofs.raw_atomic.Walks.{proved, proved_at}
pub use base.Logic.{SProp, ent, sep, emp, id⊢}
use base.Logic.{via, emp∗, mono_l}
use types.Kit.{Item, Seq, Step, prop, step}
pub use base.Fml.{Fml, Lft, GName, Share, ftrue, flft}
use Prim.Native.Nat.{zero, suc}
pub use mathlib.Core.List.{◌++◌}
pub use seplogic.Ra.Ura.{Ura}
pub use mir.Syntax.{a_type, dcons, dnil, named}
pub use mir.MapTy.{inst_fn}
pub use mir.Val.{Val, vptr}
pub use mathlib.Core.Path.{subst}
pub use mathlib.Core.Option.{some as there}
pub use contract.Monad.{fact, fact_i}
pub use contract.BorrowLft.{◌⊑◌}
pub use contract.Lifetimes.{Lfts, Shares, toks}
pub use contract.Running.{tables}
use lib.ListN.{length}
pub use types.Logic.{Logic, sem}
pub use types.Kit.{‵, raw, ◌⊛◌, some, later, ◌$◌, ◌∵◌, !, qed, done, move, keep, drop, use0, use1, use2, use3, split, split3, join, pick, await, suffices, frame, group}
pub use types.Run.{enter, of_opd, addr, stop, no_more, and_then, returns}
pub use types.ByLocal.{alloc_all, pass_all, free_all, look_at, get, through, sets, lands_as}
pub use denote.RattleType.{RattleType}
pub use denote.Exit.{yes, no}
pub use denote.Laws.{Is, shows}
pub use denote.Param.{param, bounded}
pub use denote.Param.Laws.{Laws, of_field, param_laws, row_shared}
pub use denote.Param.Shared.{mut_ref_shared}
pub use denote.Struct.Field.{mut_ref_field}
pub use denote.Struct.Laws.{mut_ref_laws}
pub use denote.Ref.{MutRef, NamedLft, mut_vals, mut_Tells}
pub use denote.Signature.{plain, types_at}
pub use denote.Laws.{Are, Ises}
pub use denote.Builtin.{RefOf}
pub use denote.Ref.{shr_vals, shr_Tells}
pub use denote.Steps.{nothing, heard, peeks}
pub use borrow.Struct.Leaves.{Lone-is}
pub use denote.Steps.{only as the_one}
pub use prog.Wp.{WpFn}
pub use denote.Text.{StrRefOf, str-laws}
pub use denote.Triple.Call.{calls_at}
pub use denote.Triple.Clauses.{Lasts, lasts}
pub use denote.Triple.Entry.{alive, on_entry}
pub use denote.Triple.Spec.{triple_of}
pub use denote.Triple.Walked.{Stays, walk_of, says, stay_dropped, Goes-dropped, Goes-spent_ref, ends_at}
pub use denote.Triple.Table.{framed}
pub use Rattle.std.specs.Prelude.{Result, MatchResult, Ok, Err}
pub use Rattle.std.specs.contracts.result.Result.{the_row as result_row}
pub use Rattle.std.proofs.result.Result.TheLaws.{the_row_laws as result_laws}
pub use Rattle.std.specs.contracts.alloc.Global.{the_type as global_type, the_row as global_row}
pub use Rattle.std.proofs.alloc.Global.TheLaws.{the_laws as global_laws, the_loose as global_loose}
pub use denote.Struct.Loose.{loose_lawful}
pub use Rattle.sqlx_query_drafts.specs.Builder.{Draft}
pub use Rattle.sqlx_query.specs.Lending.{rests, HandsBack}
pub use Rattle.sqlx_query.specs.contracts.builder.QueryBuilder.{the_row as builder_row}
pub use Rattle.sqlx_query.proofs.builder.QueryBuilder.TheLaws.{the_row_laws as builder_laws}
pub use Rattle.sqlx_query.specs.contracts.lent.Lent.{the_row as lent_row}
pub use Rattle.sqlx_query.proofs.lent.Lent.TheLaws.{the_row_laws as lent_laws}

-- each type lives as long as its lifetime
abbrev pub within : (Ts : List RattleType) → Lfts (length Ts) → List (Type 0)
within [] κs = []
within (T ∷ Ts) κs = (κs.0 ⊑ T.lives) ∷ within Ts κs.1

abbrev pub pairs : (n : ℕ) → Lfts n → Shares n → List (Lft × Share)
pairs zero κs qs = []
pairs (suc n) κs qs = (κs.0, qs.0) ∷ pairs n κs.1 qs.1

-- what is said of the lent builder, or of the error, is said of the answer
pub carried : {B L E : Type 0} (of : L → MutBor B) (lent : Result L E) (r : Result (MutBor B) E) → HandsBack of lent r → (P : MutBor B → Type 0) (Q : E → Type 0)
    → MatchResult lent (λ l. P (of l)) Q → MatchResult r P Q
carried of (Ok l) (Ok b) e P Q p = subst P (sym e) p
carried of (Err e) (Err e') same P Q q = subst Q (sym same) q
carried of (Ok l) (Err e) never P Q p = absurd never
carried of (Err e) (Ok b) never P Q p = absurd never

module _ {M : Type 1} {𝓤 : Ura M} (𝓛 : Logic 𝓤) where
  -- so is what the builder ends as
  pub turns : (A : RattleType) {L E : Type 0} (of : L → MutBor (Draft A.Denot)) (s : MutBor (Draft A.Denot)) (lent : Result L E) (r : Result (MutBor (Draft A.Denot)) E)
      → HandsBack of lent r → ent 𝓤 (sem 𝓛 (rests A s (λ l. (of l).ghost_name) lent)) (sem 𝓛 (rests A s (λ b. b.ghost_name) r))
  turns A {E = E} of s (Ok l) (Ok b) e = subst (λ (b : MutBor (Draft A.Denot)). ent 𝓤 (sem 𝓛 (rests A {E = E} s (λ b. b.ghost_name) (Ok (of l)))) (sem 𝓛 (rests A {E = E} s (λ b. b.ghost_name) (Ok b)))) (sym e) (id⊢ 𝓤 _)
  turns A of s (Err e) (Err e') same = id⊢ 𝓤 _
  turns A of s (Ok l) (Err e) never = absurd never
  turns A of s (Err e) (Ok b) never = absurd never

  abbrev pub said : List (Type 0) → SProp 𝓤 → SProp 𝓤
  said [] P = P
  said (φ ∷ φs) P = sep 𝓤 (fact 𝓤 φ) (said φs P)

  -- facts are said twice
  pub twice : (φs : List (Type 0)) (P : SProp 𝓤) → ent 𝓤 (said φs P) (sep 𝓤 (said φs P) (said φs (emp 𝓤)))
  twice [] P = qed 𝓛 (raw P ∷ []) ∵ nothing ! $ move ! (1 ∷ 0 ∷ []) $ done !
  twice (φ ∷ φs) P = qed 𝓛 (raw (fact 𝓤 φ) ∷ raw (said φs P) ∷ []) ∵ heard ! φ (λ x. use1 𝓛 (raw (said φs P) ⊛ raw (said φs (emp 𝓤))) (twice φs P) $ split ! $
      use0 𝓛 (raw (fact 𝓤 φ)) (fact_i 𝓤 φ (emp 𝓤) x) $ join ! $ move ! (1 ∷ []) $ use0 𝓛 (raw (fact 𝓤 φ)) (fact_i 𝓤 φ (emp 𝓤) x) $ join ! $ move ! (1 ∷ 0 ∷ []) $ done !)

  -- the tokens of some lifetimes and of others
  abbrev pub owned : List (Lft × Share) → SProp 𝓤
  owned [] = emp 𝓤
  owned (p ∷ ps) = sep 𝓤 (𝓛.A.lft p.0 p.1) (owned ps)

  pub cut : (ps rs : List (Lft × Share)) → ent 𝓤 (owned (ps ++ rs)) (sep 𝓤 (owned ps) (owned rs))
  cut [] rs = qed 𝓛 (raw (owned rs) ∷ []) ∵ nothing ! $ done !
  cut (p ∷ ps) rs = qed 𝓛 (raw (𝓛.A.lft p.0 p.1) ∷ raw (owned (ps ++ rs)) ∷ []) ∵ move ! (1 ∷ []) $ use1 𝓛 (raw (owned ps) ⊛ raw (owned rs)) (cut ps rs) $ split ! $
      move ! (2 ∷ 0 ∷ []) $ join ! $ done !

  pub joined : (ps rs : List (Lft × Share)) → ent 𝓤 (sep 𝓤 (owned ps) (owned rs)) (owned (ps ++ rs))
  joined [] rs = qed 𝓛 (raw (emp 𝓤) ∷ raw (owned rs) ∷ []) ∵ drop ! $ done !
  joined (p ∷ ps) rs = qed 𝓛 ((raw (𝓛.A.lft p.0 p.1) ⊛ raw (owned ps)) ∷ raw (owned rs) ∷ []) ∵ split ! $ move ! (1 ∷ 2 ∷ []) $ use2 𝓛 (raw (owned (ps ++ rs))) (joined ps rs) $
      move ! (1 ∷ 0 ∷ []) $ done !

-- a fact is shown, as the first part of the goal, or as all of it
pub tells : {M : Type 1} {𝓤 : Ura M} {𝓛 : Logic 𝓤} {K : Type 0} {Γ : List (Item 𝓤)} → K → {φ : Type 0} {P : SProp 𝓤} → φ → Step K 𝓛 Γ (prop P) Γ (prop (sep 𝓤 (fact 𝓤 φ) P))
tells {𝓤 = 𝓤} t {φ} {P} x = step (λ s. record { prf = via 𝓤 P s.prf (via 𝓤 (sep 𝓤 (emp 𝓤) P) (emp∗ 𝓤 P) (mono_l 𝓤 P (fact_i 𝓤 φ (emp 𝓤) x))) })

pub told : {M : Type 1} {𝓤 : Ura M} {𝓛 : Logic 𝓤} {K : Type 0} → K → {φ : Type 0} → φ → Seq K 𝓛 [] (prop (fact 𝓤 φ))
told {𝓤 = 𝓤} {𝓛 = 𝓛} t {φ} x = record { prf = fact_i 𝓤 φ _ x }
