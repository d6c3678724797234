use Rattle.std.proofs.Common.{◌≡◌, ℕ, ◌+◌, refl, sym, ap, subst, ◌∙◌, arith}
use Rattle.mem_store.specs.Store.{Store}
use Rattle.sqlx_play.specs.events.KeepsMinimum.{KeepsMinimum}
use Rattle.sqlx_play.proofs.upkeep.KeepsMinimumLemmas.{opened-none, fills-from}
use Rattle.sqlx_play.proofs.upkeep.MinimumKept.{fills, keeps-moved}
use Rattle.sqlx_play.specs.stage.Scene.{scene_of}
use Rattle.sqlx_play.proofs.stage.upkeep.fill.fill.Goals as goal

plus_none : (n : ℕ) → n + 0 ≡ n
plus_none n = omega arith

none_plus : (n : ℕ) → 0 + n ≡ n
none_plus n = omega arith

pub returns-clause-ok : goal.returns-clause-ok
returns-clause-ok c =
    let stage = (scene_of c.args.stage.now) in
    let old = record stage { out = c.begin_minimum.new.self } in
    let kept = c.keep_minimum-kept.ensures.keeps in
    let numbers = c.requires.numbers in
    fills-from stage c.begin_minimum.new.self (record stage { core = c.keep_minimum-kept.new.self.pool; out = c.keep_minimum-kept.new.out }) c.args.moment.0 c.args.opens c.from.result c.begin_minimum.ensures.store
    (subst (λ (n : ℕ). KeepsMinimum old (record stage { core = c.keep_minimum-kept.new.self.pool; out = c.keep_minimum-kept.new.out }) c.args.moment.0 c.args.opens n) (none_plus _ ∙ sym (c.from.ensures ∙ kept.opened))
    (fills old c.args.moment.0 c.args.opens (omega (arith, numbers)) kept.tries stage.core c.keep_minimum-kept.new.self.pool c.begin_minimum.new.self c.keep_minimum-kept.new.out 0 kept.keeps (sym kept.short ∙ c.if-kept.false)
    (opened-none old c.args.moment.0) (plus_none _ ∙ c.begin_minimum.ensures.opens) c.begin_minimum.ensures.refuses c.begin_minimum.ensures.sets_up c.requires.in_order))

pub returns-clause-runs : goal.returns-clause-runs
returns-clause-runs c =
    let w = keeps-moved c.args.moment.0 c.keep_minimum-kept.ensures.keeps.tries _ _ _ _ c.keep_minimum-kept.ensures.keeps.keeps c.begin_minimum.ensures.refuses c.begin_minimum.ensures.sets_up in
    w.runs ∙ ap (λ (s : Store). s.runs) c.begin_minimum.ensures.store

pub returns-clause-frame : goal.returns-clause-frame
returns-clause-frame c =
    let w = keeps-moved c.args.moment.0 c.keep_minimum-kept.ensures.keeps.tries _ _ _ _ c.keep_minimum-kept.ensures.keeps.keeps c.begin_minimum.ensures.refuses c.begin_minimum.ensures.sets_up in
    let a = w.ticket in
    let b = w.conn in
    let n = c.begin_minimum.ensures.opens in
    record { pool = refl; last = w.last c.requires.in_order; used = omega (arith, a, b, n) }

pub returns-then-kept-clause-frame : goal.returns-then-kept-clause-frame
returns-then-kept-clause-frame c =
    let w = keeps-moved c.args.moment.0 c.keep_minimum-kept.ensures.keeps.tries _ _ _ _ c.keep_minimum-kept.ensures.keeps.keeps c.begin_minimum.ensures.refuses c.begin_minimum.ensures.sets_up in
    let a = w.ticket in
    let b = w.conn in
    let n = c.begin_minimum.ensures.opens in
    record { pool = refl; last = w.last c.requires.in_order; used = omega (arith, a, b, n) }
