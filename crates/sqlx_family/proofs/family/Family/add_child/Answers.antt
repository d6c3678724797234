use Rattle.std.proofs.Common.{◌<◌, ◌^◌, ◌-◌, ◌∙◌, ◌∷◌, ◌++◌, [], false, ap, length, arith}
use Rattle.sqlx_family.specs.Pools.{pools_of, with_child}
use Rattle.sqlx_family.proofs.FamilyLemmas.{family-added, new-owes, new-value}
use Rattle.sqlx_family.proofs.family.Family.add_child.Goals as goal

pub invariant_of-self-2 : goal.invariant_of-self-2
invariant_of-self-2 g c =
    let room : length c.self.inside.pools.items < 2 ^ 32 - 1 = grind arith in
    let e = c.in-Ok.ensures in
    rw c.push_reserved.ensures.items (rw c.reserve.ensures.items
    (family-added c.self.inside.pools.items c.self.inside.shared _ c.self.invariant room e.permits (new-owes c.in-Ok.core e.stands e.gone e.places) e.next_ticket e.next_conn))

pub returns-clause-becomes : goal.returns-clause-becomes
returns-clause-becomes g c =
    let e = c.in-Ok.ensures in
    let value = new-value c.in-Ok.core c.args.options 0 e.stands e.options e.permits e.closed e.shut e.next_ticket e.next_conn e.places e.last in
    let all = c.push_reserved.ensures.items ∙ ap (λ l. l ++ (record { core = c.in-Ok.core; retired = false }) ∷ []) c.reserve.ensures.items ∙ ap (λ p. c.self.inside.pools.items ++ p ∷ []) value in
    ap (λ l. pools_of l c.self.inside.shared) all ∙ ap (with_child c.args.options) c.self.view_is
