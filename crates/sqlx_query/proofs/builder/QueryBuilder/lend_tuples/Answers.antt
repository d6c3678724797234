use Rattle.std.proofs.Common.{◌∷◌, [], ◌++◌, codes, refl}
use Rattle.sqlx_query_drafts.specs.Builder.{Text, tuples_of}
use Rattle.sqlx_query.proofs.OpenLemmas.{gains_open}
use Rattle.sqlx_query.proofs.builder.QueryBuilder.lend_tuples.Goals as goal

pub returns-in-Ok : goal.returns-in-Ok
returns-in-Ok g c =
    let wrote = c.in-Ok.ensures.ok in (
      (refl, (λ w. refl), tt),
      record {
        err = tt;
        same = refl;
        ok = wrote;
        unbuilt = gains_open g.DB.ArgumentBuffer.ArgumentList.count g.DB.ArgumentBuffer.ArgumentList.first c.args.self.now _ (Text (codes " (") ∷ (tuples_of wrote.1 ++ Text (codes ") ") ∷ [])) c.requires.unbuilt wrote.5;
        refused = tt;
      },
    )
