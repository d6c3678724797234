use Rattle.std.proofs.Common.{arith}
use Rattle.sqlx_player.proofs.scripts.Lines.{due, stopped, stops, shorter_next, no_element, some_element, finished}
use Rattle.sqlx_player.proofs.scripts.Handed.{begins, goes_on, all_handed}
use Rattle.sqlx_player.proofs.scripts.Causes.{cause_of}
use Rattle.sqlx_player.proofs.player.play_lines.Goals as goal

pub loop-rest-init : goal.loop-rest-init
loop-rest-init g c = record {
  played = λ first fresh. begins _ _ _ _ _ first fresh;
  counted = omega arith;
  rises = omega arith;
}

pub returns-in_default-clause-cause : goal.returns-in_default-clause-cause
returns-in_default-clause-cause g c = λ first fresh.
    stops _ _ _ _ _ _ _ first c.read.result (c.loop-rest.invariant.played first fresh).played c.in_default.is c.read.ensures (some_element _ c.loop-rest-test.ensures)

pub play_event-requires : goal.play_event-requires
play_event-requires g c =
    let fresh = c.requires.fresh in
    due _ _ _ _ _ _ _ fresh.0 c.read.result c.in-Some.line (c.loop-rest.invariant.played fresh.0 fresh.1).played c.in-Some.is c.read.ensures (some_element _ c.loop-rest-test.ensures) c.loop-rest.invariant.counted

pub returns-in-Err-clause-cause : goal.returns-in-Err-clause-cause
returns-in-Err-clause-cause g c = λ first fresh.
    cause_of _ _ _ _ _ _ _ c.in-Err.error (λ n stops. absurd stops)
    (stopped _ _ _ _ _ _ _ _ first c.read.result c.in-Some.line (c.loop-rest.invariant.played first fresh).played c.in-Some.is c.read.ensures (some_element _ c.loop-rest-test.ensures) c.loop-rest.invariant.counted) c.loop-rest.invariant.rises c.in-Err.ensures.cause

pub loop-rest-smaller : goal.loop-rest-smaller
loop-rest-smaller g c =
    let fresh = c.requires.fresh in
    shorter_next _ _ _ _ _ _ _ fresh.0 c.read.result c.in-Some.line (c.loop-rest.invariant.played fresh.0 fresh.1).played c.in-Some.is c.read.ensures (some_element _ c.loop-rest-test.ensures)

pub loop-rest-preserved : goal.loop-rest-preserved
loop-rest-preserved g c =
    let fresh = c.requires.fresh in
    let some = some_element _ c.loop-rest-test.ensures in
    let shorter = shorter_next _ _ _ _ _ _ _ fresh.0 c.read.result c.in-Some.line (c.loop-rest.invariant.played fresh.0 fresh.1).played c.in-Some.is c.read.ensures some in
    record {
      played = λ first fresh. goes_on _ _ _ _ _ _ _ _ _ _ _ _ first c.read.result c.in-Some.line (c.loop-rest.invariant.played first fresh) c.in-Some.is c.read.ensures some c.loop-rest.invariant.counted c.in_default-play_event.ensures.ok c.in_default-play_event.ensures.pieces;
      counted = omega (arith, shorter, c.loop-rest.invariant.counted);
      rises = omega arith;
    }

pub returns-clause-ok : goal.returns-clause-ok
returns-clause-ok g c = λ first fresh. finished _ _ _ c.loop-rest.rest.now _ _ _ first (c.loop-rest.invariant.played first fresh).played (no_element _ c.loop-rest-test.ensures)

pub returns-clause-pieces : goal.returns-clause-pieces
returns-clause-pieces g c = λ first fresh. all_handed _ _ _ c.loop-rest.rest.now _ _ _ _ _ first (c.loop-rest.invariant.played first fresh) (no_element _ c.loop-rest-test.ensures)
