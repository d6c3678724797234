use Rattle.std.proofs.Common.{◌+◌, ◌++◌, length, drop, append-nil, sym, ap, ◌∙◌, arith, string_bytes}
use Rattle.std.proofs.lemmas.Iterator.{YieldsList-from_chars}
use Rattle.std.proofs.lemmas.Iterator.Consumers.{YieldsList-turn, YieldsList-end}
use Rattle.std.proofs.lemmas.List.{at_drop_all, length_push}
use Rattle.std.specs.Str.{chars, encode_utf8_all}
use Rattle.sqlx_text.specs.Summary.{unwritten}
use Rattle.sqlx_text.proofs.Summaries.{unwritten_stopped, unwritten-start, unwritten-drop}
use Rattle.sqlx_text.proofs.summary.parse_query_summary.Goals as goal
use Rattle.sqlx_text.proofs.summary.parse_query_summary.Goals.{in-None, in-Some+then-place-eq0+then-not-place}

pub loop-c-init : goal.loop-c-init
loop-c-init c = (omega arith, rw c.new-summary.ensures.bytes (ap encode_utf8_all (unwritten-start (chars c.args.sql.now))))

pub loop-c-preserved : goal.loop-c-preserved
loop-c-preserved c =
    let turn = YieldsList-turn (YieldsList-from_chars c.args.sql.now c.utf8.sql cc) c.loop-c.yielded _ c.loop-c.yielded_by _ _ c.in-Some.c c.in-Some.is c.next.ensures.steps in
    let next = unwritten-drop c.loop-c.place.in_word c.loop-c.place.words_left (chars c.args.sql.now) _ _ turn in
    let written = c.in_ok-place.ensures.written (drop (length c.loop-c.yielded + 1) (chars c.args.sql.now)) in
    (c.in_ok-place.ensures.left, rw (length_push c.loop-c.yielded c.in-Some.c) (sym written ∙ ap (λ cs. string_bytes c.loop-c.summary ++ encode_utf8_all cs) (sym next) ∙ c.loop-c.invariant.1))

pub returns : goal.returns
returns c =
    elim c.match-next.branch [
      | in-None w ↦
          let end = YieldsList-end (YieldsList-from_chars c.args.sql.now c.utf8.sql cc) c.loop-c.yielded _ c.loop-c.yielded_by _ _ w.in-None.is c.next.ensures.steps in
          let nothing = at_drop_all (unwritten c.loop-c.place.in_word c.loop-c.place.words_left) (chars c.args.sql.now) (length c.loop-c.yielded) (omega (arith, end)) in
          c.from_string.ensures ∙ sym (append-nil (string_bytes c.loop-c.summary)) ∙ ap (λ cs. string_bytes c.loop-c.summary ++ encode_utf8_all cs) (sym nothing) ∙ c.loop-c.invariant.1
      | in-Some+then-place-eq0+then-not-place w ↦
          let nothing = unwritten_stopped c.loop-c.place.in_word c.loop-c.place.words_left (drop (length c.loop-c.yielded) (chars c.args.sql.now)) w.if-not-place.true w.if-place-eq0.true in
          c.from_string.ensures ∙ sym (append-nil (string_bytes c.loop-c.summary)) ∙ ap (λ cs. string_bytes c.loop-c.summary ++ encode_utf8_all cs) (sym nothing) ∙ c.loop-c.invariant.1
    ]
