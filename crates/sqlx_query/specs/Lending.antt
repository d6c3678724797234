-- What a builder ends as where a call that would hand it back is refused.
use Rattle.std.specs.Prelude.{◌≡◌, OnErr, OnOk, Result, Ok, Err}
use Rattle.std.specs.Borrow.{Fml, GName, MutBor, RattleType, name_if_ok}
use Rattle.sqlx_query_drafts.specs.Builder.{Draft}
use Rattle.sqlx_query.specs.declared.builder.QueryBuilder.{the_code}
use base.Stored.{Coded, coded_unit as none}
use denote.Follow.{such_by}

-- how the logic keeps a builder: of what the database has, it reads the arguments alone
abbrev pub kept : (L : RattleType) → Coded (Draft L.Denot)
kept L = let U : Type 0 = Unit {0} in
    the_code U U U U U U U U U L.Denot U U none none none none none none none none none L.coded none none

-- `RestsIfErr` of a builder whose arguments are of L: refused, it ends as it was, and else as the one under the answer's name
abbrev pub rests : (L : RattleType) {A E : Type 0} → MutBor (Draft L.Denot) → (A → GName) → Result A E → Fml
rests L s name r = such_by (Draft L.Denot) (Draft L.Denot) (kept L).code (kept L).code s.ghost_name (name_if_ok name r) (λ x n. OnOk r (n ≡ x)) (λ n. OnErr r (n ≡ s.now))

-- the same builder, or the same error
abbrev pub HandsBack : {B L E : Type 0} → (L → MutBor B) → Result L E → Result (MutBor B) E → Type 0
HandsBack of (Ok lent) (Ok b) = b ≡ of lent
HandsBack of (Err e) (Err e') = e' ≡ e
HandsBack of (Ok lent) (Err e) = ⊥
HandsBack of (Err e) (Ok b) = ⊥
