use Rattle.std.proofs.Common.{◌∙◌, ◌<◌, ◌^◌, ◌∷◌, ◌++◌, [], false, sym, ap, subst}
use Rattle.sqlx_family.specs.Pools.{pools_of}
use Rattle.sqlx_family.specs.IsFamily.{IsFamily}
use Rattle.sqlx_family.proofs.FamilyLemmas.{new-value, family-new}
use Rattle.sqlx_family.proofs.family.Family.root.Goals as goal

pub invariant_of-result : goal.invariant_of-result
invariant_of-result g c =
    let e = c.in-Ok-new.ensures in
    let value = new-value c.in-Ok-new.core c.args.options c.args.options.max_connections e.stands e.options (e.permits ∙ c.get_max_connections.ensures) e.closed e.shut e.next_ticket e.next_conn e.places e.last in
    let all = c.push_reserved.ensures.items ∙ ap (λ l. l ++ (record { core = c.in-Ok-new.core; retired = false }) ∷ []) c.in-Ok.ensures.items ∙ ap (λ p. p ∷ []) value in
    subst (λ l. IsFamily (pools_of l (record { next_ticket = 1; next_conn = 1; last = record { 0 = 0 } }))) (sym all) (family-new c.args.options (subst (λ o. o.max_connections < 2 ^ 32) e.options c.sound.ensures.few))

pub returns : goal.returns
returns g c =
    let e = c.in-Ok-new.ensures in
    let value = new-value c.in-Ok-new.core c.args.options c.args.options.max_connections e.stands e.options (e.permits ∙ c.get_max_connections.ensures) e.closed e.shut e.next_ticket e.next_conn e.places e.last in
    let all = c.push_reserved.ensures.items ∙ ap (λ l. l ++ (record { core = c.in-Ok-new.core; retired = false }) ∷ []) c.in-Ok.ensures.items ∙ ap (λ p. p ∷ []) value in
    ap (λ l. pools_of l (record { next_ticket = 1; next_conn = 1; last = record { 0 = 0 } })) all
