use Rattle.std.proofs.Common.{◌∙◌, ◌∷◌, ◌++◌, [], ap, sym}
use Rattle.sqlx_pool_history.proofs.Chaining.{may_follow}
use Rattle.sqlx_pool_history.proofs.Prefixes.{prefix_trans}
use Rattle.sqlx_pool_history.proofs.Showing.{showed_value, steps_value}
use Rattle.sqlx_pool.proofs.kept.Kept.reap.Goals as goal

pub add-requires : goal.add-requires
add-requires g c = may_follow g.S.Stood.Chained.follows c.show.new.self (g.S.Stands.state c.self.inside.locked) (g.S.Stands.state c.reap-done.new.self) c.show.ensures.last (g.met.S.PoolSteps.goes_on _ _ _ c.reap-done.ensures.does)

pub returns-clause-saw : goal.returns-clause-saw
returns-clause-saw g c = steps_value _ c.show.new.me _ c.show.new.self (g.S.Stands.state c.self.inside.locked) (g.S.Stands.state c.reap-done.new.self) _ c.show.ensures.all c.show.ensures.later c.show.ensures.ends (c.front.ensures ∙ c.add.ensures.added) (c.facts.ensures, (c.facts-2.ensures, c.reap-done.ensures.does))

pub returns-clause-later : goal.returns-clause-later
returns-clause-later g c = prefix_trans c.args.me.now c.show.new.me c.front.result c.show.ensures.later (g.S.Stands.state c.reap-done.new.self ∷ [], sym (c.front.ensures ∙ c.add.ensures.added ∙ ap (λ h. h ++ g.S.Stands.state c.reap-done.new.self ∷ []) (sym c.show.ensures.all)))

pub returns-clause-none : goal.returns-clause-none
returns-clause-none g c = λ is. showed_value _ c.show.new.me _ c.show.new.self (g.S.Stands.state c.self.inside.locked) (g.S.Stands.state c.reap-done.new.self) _ c.show.ensures.all c.show.ensures.later c.show.ensures.ends (c.front.ensures ∙ c.add.ensures.added) (c.facts.ensures, c.reap-done.ensures.none is)
