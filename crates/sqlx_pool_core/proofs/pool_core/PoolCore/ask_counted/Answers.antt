use Rattle.std.proofs.Common.{ℕ, [], ◌∷◌, Ok, sym, subst, ◌∙◌, arith}
use Rattle.sqlx_text.specs.declared.Error.{Error}
use Rattle.sqlx_pool_marks.specs.declared.mark.Mark.TheVariants.{Asked}
use Rattle.sqlx_pool_places.specs.Line.{ComesLast}
use Rattle.sqlx_pool_lists.specs.Sound.{IsSound}
use Rattle.sqlx_pool_core.specs.KeptLine.{IsNearlyLined}
use Rattle.sqlx_pool_core.specs.LonePool.{lone_of}
use Rattle.sqlx_pool_core.proofs.Alone.{ask-alone, ask-moves-alone}
use Rattle.sqlx_pool_core.proofs.KeptLine.{comes-last}
use Rattle.sqlx_pool_core.proofs.LineSteps.{taken-back, asked-nearly, lone-back, has-joined}
use Rattle.sqlx_pool_core.proofs.Looks.{looks-asked, looks-nothing}
use Rattle.sqlx_pool_core.proofs.LonePools.{pool-is, unjoined}
use Rattle.sqlx_pool_core.proofs.pool_core.PoolCore.ask_counted.Goals as goal

pub join-requires-clause-last : goal.join-requires-clause-last
join-requires-clause-last g c = subst (λ (t : ℕ). ComesLast t c.self.inside.line) (sym c.in-Ok.ensures.numbered) (comes-last _ _ c.sound.ensures c.self.invariant.lined)

pub unask-requires : goal.unask-requires
unask-requires g c = subst IsSound (sym (taken-back _ _ _ c.args.client _ _ _ c.sound.ensures c.in-Ok.ensures.numbered c.moment-last.ensures c.in-Ok.ensures.becomes)) c.sound.ensures

pub invariant_of-self-then-not-join : goal.invariant_of-self-then-not-join
invariant_of-self-then-not-join g c =
    lone-back _ _ _ _ c.in-Ok.ticket c.join.result c.self.invariant (c.unask.ensures ∙ taken-back _ _ _ c.args.client _ _ _ c.sound.ensures c.in-Ok.ensures.numbered c.moment-last.ensures c.in-Ok.ensures.becomes) c.join.ensures.becomes c.if-not-join.true

pub returns-then-not-join-clause-err : goal.returns-then-not-join-clause-err
returns-then-not-join-clause-err g c =
    let pool = c.unask.ensures ∙ taken-back _ _ _ c.args.client _ _ _ c.sound.ensures c.in-Ok.ensures.numbered c.moment-last.ensures c.in-Ok.ensures.becomes in
    let line = unjoined c.self.inside.line c.join.new.line c.in-Ok.ticket c.join.result c.join.ensures.becomes c.if-not-join.true in
    (λ i. lone_of (pool i) (line i)) ∙ c.self.view_is

pub returns-in-Err-clause-cost : goal.returns-in-Err-clause-cost
returns-in-Err-clause-cost g c =
    looks-nothing c.self.inside.pool c.self.inside.line _ _ _ _ c.self.view_is c.sound.ensures c.self.invariant.lined ((λ i. lone_of (c.in-Err.ensures.err i) c.self.inside.line) ∙ c.self.view_is) (omega arith)

pub returns-then-not-join-clause-cost : goal.returns-then-not-join-clause-cost
returns-then-not-join-clause-cost g c = looks-nothing c.self.inside.pool c.self.inside.line _ _ _ _ c.self.view_is c.sound.ensures c.self.invariant.lined (returns-then-not-join-clause-err g c) (omega (arith, c.join.ensures.cost))

pub serve-requires : goal.serve-requires
serve-requires g c = record {
  near =
      subst (IsNearlyLined c.ask.new.self) (sym (has-joined _ _ _ _ c.join.result c.join.ensures.becomes c.if-not-join.false c.in-Ok.ensures.numbered))
      (asked-nearly _ _ _ c.args.client _ _ c.self.invariant.lined c.in-Ok.ensures.becomes);
}

pub returns-clause-makes : goal.returns-clause-makes
returns-clause-makes g c =
    ask-alone _ _ _ (pool-is c.self.view_is) {E = Error} (λ t d. Asked t c.args.client d ∷ []) c.moment-moment.result.0 c.args.now.0 (Ok c.in-Ok.ticket) c.moment-moment.ensures c.self.invariant.alone c.sound-2.ensures c.in-Ok.ensures.stays c.in-Ok.ensures.draws c.in-Ok.ensures.makes

pub returns-clause-balance : goal.returns-clause-balance
returns-clause-balance g c =
    ask-moves-alone _ _ _ (pool-is c.self.view_is) {E = Error} (λ t d. Asked t c.args.client d ∷ []) c.moment-moment.result.0 c.args.now.0 (Ok c.in-Ok.ticket) c.moment-moment.ensures c.in-Ok.ensures.balance

pub returns-clause-cost : goal.returns-clause-cost
returns-clause-cost g c =
    looks-asked c.self.inside.pool c.args.self.now c.ask.new.self c.self.inside.line c.join.new.line c.serve.new.line c.args.client _ _ _ _ _ c.self.view_is c.sound.ensures c.self.invariant.lined c.in-Ok.ensures.becomes
    (has-joined _ _ _ _ c.join.result c.join.ensures.becomes c.if-not-join.false c.in-Ok.ensures.numbered) c.join.ensures.cost
    (record { cost = c.serve.ensures.cost; once = c.serve.ensures.once; turns = c.serve.ensures.turns; moves = c.serve.ensures.moves; edge = c.serve.ensures.edge; lined = c.serve.ensures.lined; sound = c.serve.ensures.sound })
