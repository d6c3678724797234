-- The rules of the pool's scripts: what each event is answered, and what is written.
use Rattle.std.specs.Prelude.{ℕ, List}
use Rattle.sqlx_lines.specs.Words.{line_of}
use Rattle.sqlx_player.specs.Language.{Rules, Language}
use Rattle.sqlx_script.specs.declared.pool_line.PoolLine.{PoolLine}
use Rattle.sqlx_script.specs.declared.step.Event.{Event}
use Rattle.sqlx_script.specs.declared.reply.Reply.{Reply}
use Rattle.sqlx_script.specs.Texts.{reply_text, report_text}
use Rattle.sqlx_script.specs.Grammar.{pool_grammar}
use Rattle.sqlx_script_rules.specs.Answer.{answer, report_of}

-- the line of a reply
abbrev pub reply_line : Event × Reply → List ℕ
reply_line pair = line_of (reply_text pair.1)

-- the rules of the pool's scripts: the reply to each event, its line, and the line of the closing report
abbrev pub pool_rules : Rules PoolLine Event Reply
pool_rules = record {
  answer = answer;
  text_of = λ reply. line_of (reply_text reply);
  closing = λ pool pairs. line_of (report_text (report_of pool pairs));
}

-- the language of the pool's scripts
abbrev pub pool_language : Language PoolLine Event Reply
pool_language = record { grammar = pool_grammar; rules = pool_rules }
