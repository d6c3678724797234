use Rattle.std.proofs.Common.{◌∙◌, ◌++◌, ap, arith, length, take, drop, length-append}
use Rattle.std.proofs.Math.Seq.{take-length, drop-length}
use Rattle.sqlx_pool_lists.proofs.idle_list.IdleList.take_all.Goals as goal

pub append-requires : goal.append-requires
append-requires g c =
    let n = length-append c.self.inside.fresh.items c.self.inside.rest.items in
    let all = c.self.invariant.all in
    let room = c.self.invariant.in_front in
    omega (arith, n, all, room)

pub returns-clause-all : goal.returns-clause-all
returns-clause-all g c =
    c.take_all.ensures.all ∙ c.append.ensures.put ∙ ap (λ n. c.self.inside.fresh.items ++ take n c.self.inside.rest.items) c.len-all.ensures
    ∙ ap (λ l. c.self.inside.fresh.items ++ l) (take-length c.self.inside.rest.items) ∙ ap (λ q. q.items) c.self.view_is

pub returns-clause-items : goal.returns-clause-items
returns-clause-items g c =
    ap (λ l. l ++ c.append.new.back.items) c.take_all.ensures.items ∙ c.append.ensures.left ∙ ap (λ n. drop n c.self.inside.rest.items) c.len-all.ensures ∙ drop-length c.self.inside.rest.items

pub invariant_of-self : goal.invariant_of-self
invariant_of-self g c =
    let none = ap length (returns-clause-items g c) in
    record { all = omega (arith, none); in_front = omega arith; in_back = omega arith; small = omega arith }
