-- Lines and scripts, valid and damaged, read by computing.
use Rattle.std.proofs.Common.{◌≡◌, ◌++◌, true, false, [], codes, Some, None, refl, negsuc}
use Rattle.sqlx_lines.specs.Numbers.{number_in, value}
use Rattle.sqlx_script.specs.Numbers.{limit_nanos}
use Rattle.sqlx_script.specs.Letters.{plus_or_minus, hook_letter, after_connect_letter, connect_letter, statement_letter, statement, poll_answers, switches}
use Rattle.sqlx_lines.specs.Rows.{words1, words5}
use Rattle.sqlx_lines.specs.Words.{line_of}
use Rattle.sqlx_script.specs.Grammar.{pool_grammar, statement_of, put_words, poll_words, step_of, pool_name, limits_after, event_words, pool_words, event_of, pool_of}
use Rattle.sqlx_lines.specs.Scripts.{reading_from, script_lines, first_bad}
use Rattle.sqlx_lines.specs.Words.{whole}
use Rattle.sqlx_script.specs.declared.answers.StatementAnswer.TheVariants.{Runs}
use Rattle.sqlx_script.specs.declared.answers.HookAnswer.TheVariants.{LeavesOpen}
use Rattle.sqlx_script.specs.declared.answers.AfterConnectAnswer.TheVariants.{SetUpFails}
use Rattle.sqlx_script.specs.declared.answers.ConnectAnswer.TheVariants.{ConnectDatabase}
use Rattle.sqlx_script.specs.declared.step.Step.TheVariants.{Ask, Poll, Put}

-- ---- lines

ask : event_of false (line_of (codes "ask 5 7")) ≡ Some (record { moment = record { 0 = 5000000 }; step = Ask 7 })
unfolding event_of event_words step_of words1 number_in
ask = refl

-- client 0 is a client
ask_of_client_0 : event_of false (line_of (codes "ask 0 0")) ≡ Some (record { moment = record { 0 = 0 }; step = Ask 0 })
unfolding event_of event_words step_of words1 number_in
ask_of_client_0 = refl

leading_zero : event_of false (line_of (codes "ask 05 7")) ≡ None
unfolding event_of event_words step_of words1 number_in
leading_zero = refl

two_blanks : event_of false (line_of (codes "ask 5  7")) ≡ None
unfolding event_of event_words step_of words1 number_in
two_blanks = refl

blank_at_the_end : event_of false (line_of (codes "ask 5 7 ")) ≡ None
unfolding event_of event_words step_of words1 number_in
blank_at_the_end = refl

no_newline : event_of false (codes "ask 5 7") ≡ None
unfolding event_of event_words step_of words1 number_in
no_newline = refl

client_too_large : event_of false (line_of (codes "ask 5 4294967296")) ≡ None
unfolding event_of event_words step_of words1 number_in
client_too_large = refl

moment_too_large : event_of false (line_of (codes "ask 1099511627776 7")) ≡ None
unfolding event_of event_words step_of words1 number_in
moment_too_large = refl

unknown_name : event_of false (line_of (codes "asks 5 7")) ≡ None
unfolding event_of event_words step_of statement_of number_in
unknown_name = refl

put : whole (event_words false) (line_of (codes "put 5 7 1 999 -9223372036854775808 +")) ≡ Some (record { moment = record { 0 = 5000000 }; step = Put 7 1 999 Runs (negsuc 9223372036854775807) })
unfolding event_words step_of statement_of put_words words5 number_in value statement statement_letter
put = refl

key_too_large : whole (event_words false) (line_of (codes "put 5 7 1 1000 4 +")) ≡ None
unfolding event_words step_of statement_of put_words words5 number_in value statement statement_letter
key_too_large = refl

minus_zero : whole (event_words false) (line_of (codes "put 5 7 1 9 -0 +")) ≡ None
unfolding event_words step_of statement_of put_words words5 number_in value statement statement_letter
minus_zero = refl

value_too_large : whole (event_words false) (line_of (codes "put 5 7 1 9 9223372036854775808 +")) ≡ None
unfolding event_words step_of statement_of put_words words5 number_in value statement statement_letter
value_too_large = refl

-- ---- first lines

pool : pool_of (line_of (codes "pool 2 0 5000 - - ----")) ≡ Some (record {
  max = 2;
  min = 0;
  timeout = 5000000000;
  lifetime = None;
  idle = None;
  test_before_acquire = false;
  after_connect = false;
  before_acquire = false;
  after_release = false;
  tries = 1;
  counts_tests = false;
})
unfolding pool_of pool_words limits_after number_in pool_name limit_nanos switches plus_or_minus
pool = refl

pool_with_limits : whole pool_words (line_of (codes "pool 65535 3 0 60000 - +-+-")) ≡ Some (record {
  max = 65535;
  min = 3;
  timeout = 0;
  lifetime = Some 60000000000;
  idle = None;
  test_before_acquire = true;
  after_connect = false;
  before_acquire = true;
  after_release = false;
  tries = 1;
  counts_tests = false;
})
unfolding pool_words limits_after number_in pool_name limit_nanos switches plus_or_minus
pool_with_limits = refl

pool_of_none : whole pool_words (line_of (codes "pool 0 0 5000 - - ----")) ≡ None
unfolding pool_words limits_after number_in pool_name limit_nanos switches plus_or_minus
pool_of_none = refl

-- ---- scripts

no_bytes : first_bad pool_grammar [] ≡ Some 1
unfolding script_lines
no_bytes = refl

first_line_is_bad : first_bad pool_grammar (line_of (codes "ask 5 7")) ≡ Some 1
unfolding script_lines pool_of pool_words number_in pool_name
first_line_is_bad = refl

pool_line_alone : first_bad pool_grammar (line_of (codes "pool 2 0 5000 - - ----")) ≡ None
unfolding script_lines reading_from pool_of pool_words limits_after number_in pool_name limit_nanos switches plus_or_minus
pool_line_alone = refl

moments_rise : first_bad pool_grammar (line_of (codes "pool 2 0 5000 - - ----") ++ line_of (codes "ask 5 7") ++ line_of (codes "ask 5 8")) ≡ None
unfolding script_lines reading_from pool_of pool_words limits_after number_in pool_name limit_nanos switches plus_or_minus event_of event_words step_of words1
moments_rise = refl

moment_falls : first_bad pool_grammar (line_of (codes "pool 2 0 5000 - - ----") ++ line_of (codes "ask 5 7") ++ line_of (codes "ask 4 8")) ≡ Some 3
unfolding script_lines reading_from pool_of pool_words limits_after number_in pool_name limit_nanos switches plus_or_minus event_of event_words step_of words1
moment_falls = refl

-- ---- tries

pool2 : whole pool_words (line_of (codes "pool2 3 0 100 - - +--- 2")) ≡ Some (record {
  max = 3;
  min = 0;
  timeout = 100000000;
  lifetime = None;
  idle = None;
  test_before_acquire = true;
  after_connect = false;
  before_acquire = false;
  after_release = false;
  tries = 2;
  counts_tests = true;
})
unfolding pool_words limits_after number_in pool_name limit_nanos switches plus_or_minus
pool2 = refl

no_tries : first_bad pool_grammar (line_of (codes "pool2 1 0 5 - - ---- 0")) ≡ Some 1
unfolding script_lines pool_of pool_words limits_after number_in pool_name limit_nanos switches plus_or_minus
no_tries = refl

too_many_tries : first_bad pool_grammar (line_of (codes "pool2 1 0 5 - - ---- 17")) ≡ Some 1
unfolding script_lines pool_of pool_words limits_after number_in pool_name limit_nanos switches plus_or_minus
too_many_tries = refl

tries_of_pool : first_bad pool_grammar (line_of (codes "pool 1 0 5 - - ---- 1")) ≡ Some 1
unfolding script_lines pool_of pool_words limits_after number_in pool_name limit_nanos switches plus_or_minus
tries_of_pool = refl

count_of_pool : first_bad pool_grammar (line_of (codes "pool 1 0 5 - - ----") ++ line_of (codes "poll 0 1 1 ++++ 0")) ≡ Some 2
unfolding script_lines reading_from pool_of pool_words limits_after number_in pool_name limit_nanos switches plus_or_minus event_of event_words step_of poll_words poll_answers hook_letter connect_letter after_connect_letter
count_of_pool = refl

poll_of_one_test : event_of false (line_of (codes "poll 0 7 1 -^d!")) ≡ Some (record { moment = record { 0 = 0 }; step = Poll 7 1 (record { ping = false; before_acquire = LeavesOpen; connect = ConnectDatabase; after_connect = SetUpFails; tests = 1 }) })
unfolding number_in plus_or_minus event_of event_words step_of poll_words poll_answers hook_letter connect_letter after_connect_letter
poll_of_one_test = refl

poll_of_many_tests : event_of true (line_of (codes "poll 0 7 1 -^d! 65535")) ≡ Some (record { moment = record { 0 = 0 }; step = Poll 7 1 (record { ping = false; before_acquire = LeavesOpen; connect = ConnectDatabase; after_connect = SetUpFails; tests = 65535 }) })
unfolding number_in plus_or_minus event_of event_words step_of poll_words poll_answers hook_letter connect_letter after_connect_letter
poll_of_many_tests = refl

no_count : event_of true (line_of (codes "poll 0 7 1 ++++")) ≡ None
unfolding number_in plus_or_minus event_of event_words step_of poll_words poll_answers hook_letter connect_letter after_connect_letter
no_count = refl

count_too_large : event_of true (line_of (codes "poll 0 7 1 ++++ 65536")) ≡ None
unfolding number_in plus_or_minus event_of event_words step_of poll_words poll_answers hook_letter connect_letter after_connect_letter
count_too_large = refl
