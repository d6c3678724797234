use Rattle.sqlx_player.proofs.scripts.Lines.{no_element, some_element}
use Rattle.sqlx_player.proofs.scripts.Causes.{cause_of, cause_at_first}
use Rattle.sqlx_player.proofs.scripts.Scripts.{opens_some, opens_none, short_behind, script_is, no_script, empty_script, stops_at_first, stops_later, part_of_replies, part_of_closing, plays_text}
use Rattle.sqlx_player.proofs.scripts.Handed.{text_handed}
use Rattle.sqlx_player.proofs.player.play_text.Goals as goal

pub returns-then-is_empty-clause-cause : goal.returns-then-is_empty-clause-cause
returns-then-is_empty-clause-cause g c = stops_at_first g.A.Responder.language c.args.text.now _ (empty_script _ _ (no_element _ c.if-is_empty.ensures))

pub returns-in_default-clause-cause : goal.returns-in_default-clause-cause
returns-in_default-clause-cause g c =
    stops_at_first g.A.Responder.language c.args.text.now _
    (no_script _ c.args.text.now (some_element _ c.if-is_empty.ensures) (opens_none g.A.Responder.language g.A.Responder.stands c.args.text.now _ c.in_default.is c.in_ok-first.ensures))

pub play_lines-requires-clause-short : goal.play_lines-requires-clause-short
play_lines-requires-clause-short g c =
    let opens = opens_some g.A.Responder.language g.A.Responder.stands c.args.text.now _ c.in-Some.first c.in-Some.is c.in_ok-first.ensures in
    short_behind c.args.text.now _ c.requires opens.3

pub returns-in-Err-clause-cause : goal.returns-in-Err-clause-cause
returns-in-Err-clause-cause g c =
    let opens = opens_some g.A.Responder.language g.A.Responder.stands c.args.text.now _ c.in-Some.first c.in-Some.is c.in_ok-first.ensures in
    let is = script_is g.A.Responder.language.grammar c.args.text.now c.in-Some.first.behind.now opens.0 (some_element _ c.if-is_empty.ensures) opens.1 opens.3 in
    cause_at_first _ _ _ _ _ _ c.in-Err.error (λ n. stops_later g.A.Responder.language c.args.text.now c.in-Some.first.behind.now _ _ _ n is)
    (part_of_replies g.A.Responder.language c.args.text.now c.in-Some.first.behind.now _ _ _ is) (c.in-Err.ensures.cause opens.0 opens.2)

pub returns-in-Err-write_closing-clause-cause : goal.returns-in-Err-write_closing-clause-cause
returns-in-Err-write_closing-clause-cause g c =
    let opens = opens_some g.A.Responder.language g.A.Responder.stands c.args.text.now _ c.in-Some.first c.in-Some.is c.in_ok-first.ensures in
    let is = script_is g.A.Responder.language.grammar c.args.text.now c.in-Some.first.behind.now opens.0 (some_element _ c.if-is_empty.ensures) opens.1 opens.3 in
    cause_of _ _ _ _ _ _ _ c.in-Err-write_closing.error (λ n stops. absurd stops)
    (part_of_closing g.A.Responder.language _ c.args.text.now c.in-Some.first.behind.now opens.0 _ _ _ is (c.in_default-play_lines.ensures.ok opens.0 opens.2)) c.play_lines.ensures.rises c.in-Err-write_closing.ensures.cause

pub returns-clause-ok : goal.returns-clause-ok
returns-clause-ok g c =
    let opens = opens_some g.A.Responder.language g.A.Responder.stands c.args.text.now _ c.in-Some.first c.in-Some.is c.in_ok-first.ensures in
    let is = script_is g.A.Responder.language.grammar c.args.text.now c.in-Some.first.behind.now opens.0 (some_element _ c.if-is_empty.ensures) opens.1 opens.3 in
    plays_text g.A.Responder.language _ _ c.args.text.now c.in-Some.first.behind.now opens.0 _ _ _ c.requires is (c.in_default-play_lines.ensures.ok opens.0 opens.2) c.in_default-write_closing.ensures.ok

pub returns-clause-pieces : goal.returns-clause-pieces
returns-clause-pieces g c =
    let opens = opens_some g.A.Responder.language g.A.Responder.stands c.args.text.now _ c.in-Some.first c.in-Some.is c.in_ok-first.ensures in
    let is = script_is g.A.Responder.language.grammar c.args.text.now c.in-Some.first.behind.now opens.0 (some_element _ c.if-is_empty.ensures) opens.1 opens.3 in
    text_handed g.A.Responder.language _ c.args.text.now c.in-Some.first.behind.now opens.0 _ _ _ _ _ is (c.in_default-play_lines.ensures.ok opens.0 opens.2) (c.in_default-play_lines.ensures.pieces opens.0 opens.2) c.in_default-write_closing.ensures.pieces
