-- The made script is a script.
use Rattle.std.proofs.Common.{◌≡◌, ℕ, zero, suc, ◌+◌, ◌-◌, ◌*◌, ◌/◌, ◌%◌, ◌^◌, ◌<◌, ◌≤◌, ◌==◌, Bool, true, false, not, cond, List, [], ◌∷◌, ◌++◌, Some, None, pos, length, codes, nat_lt, refl, sym, ap, ◌∙◌, subst, append_assoc, arith}
use Rattle.std.specs.Fmt.{decimal}
use Rattle.std.specs.List.{list_all, join_with_byte}
use Rattle.std.proofs.lemmas.Bool.{cond-false, and_parts, and_from}
use Rattle.std.proofs.lemmas.Bool.Decides.{nat_tests}
use Rattle.std.proofs.lemmas.List.{length-append}
use Rattle.std.proofs.lemmas.List.Folds.{list_all-append}
use Rattle.sqlx_lines.specs.Words.{lines_of}
use Rattle.sqlx_lines.specs.Numbers.{number_in, millis, nanos, name_number, key, value}
use Rattle.sqlx_script.specs.Numbers.{limit_nanos}
use Rattle.sqlx_script.specs.Letters.{plus_or_minus, switches}
use Rattle.sqlx_script.specs.Grammar.{event_of, event_words, pool_of, pool_words, pool_name, limits_after, last_moment, not_before, pool_grammar}
use Rattle.sqlx_lines.specs.Scripts.{reading_from, with_event, Script, script_after, script_lines, IsScript}
use Rattle.sqlx_script.specs.declared.pool_line.PoolLine.{PoolLine}
use Rattle.sqlx_script.specs.declared.step.Event.{Event}
use Rattle.sqlx_script.specs.declared.step.Step.{Step}
use Rattle.sqlx_lines.proofs.Readings.{event_next, end_next}
use Rattle.sqlx_script.proofs.Moments.{last_moment-push}
use Rattle.sqlx_script_made.specs.declared.block.Block.{Block}
use Rattle.sqlx_script_made.specs.Blocks.{upper, client, closes, end_word, give_word, block_at}
use Rattle.sqlx_script_made.specs.Blocks as blocks
use Rattle.sqlx_script_made.specs.Made.{line_of_words, line_in, line_at, lines_from, first_line, made_text}
use Rattle.sqlx_script_made.proofs.Decimals.{is_inner, number_in-decimal, value-decimal}
use Rattle.sqlx_script_made.proofs.WordsLemmas.{IsWord, AreWords, word-decimal, whole-line_of_words, lines_of-line, line_is}
use Rattle.sqlx_script_made.proofs.LineReads.{at, ask_reads, poll_reads, begin_reads, commit_reads, rollback_reads, give_reads, get_reads, put_reads}
use Rattle.sqlx_script_made.proofs.BlocksLemmas.{IsAmong, block_at-among}

-- ---- a line

-- A line of few bytes that reads as an event of this millisecond.
pub record IsLine (i : ℕ) (line : List ℕ) : Type 0 where
  pub text : List ℕ
  pub is : line ≡ text ++ 10 ∷ []
  pub one : list_all (λ b. not (b == 10)) text ≡ true
  pub short : length line ≤ 88
  pub step : Step
  pub reads : event_of false line ≡ Some (at i step)

inner_one : (text : List ℕ) → list_all is_inner text ≡ true → list_all (λ b. not (b == 10)) text ≡ true
inner_one [] h = refl
inner_one (b ∷ text) h =
    let parts = and_parts (is_inner b) (list_all is_inner text) h in
    and_from (not (b == 10)) (list_all (λ b. not (b == 10)) text) (and_parts (not (b == 32)) (not (b == 10)) parts.0).1 (inner_one text parts.1)

-- no newline stands among words with blanks between them
joined_one : (w : List ℕ) (ws : List (List ℕ)) → AreWords (w ∷ ws) → list_all (λ b. not (b == 10)) (join_with_byte 32 (w ∷ ws)) ≡ true
joined_one w [] h = inner_one w h.0.inner
joined_one w (next ∷ ws) h =
    list_all-append (λ b. not (b == 10)) w (32 ∷ join_with_byte 32 (next ∷ ws))
    ∙ and_from (list_all (λ b. not (b == 10)) w) (list_all (λ b. not (b == 10)) (join_with_byte 32 (next ∷ ws))) (inner_one w h.0.inner) (joined_one next ws h.1)

-- a line is no longer than its words and blanks
line_short : (w : List ℕ) (ws : List (List ℕ)) → AreWords (w ∷ ws) → length (line_of_words (w ∷ ws)) ≤ 11 * length (w ∷ ws)
line_short w [] h = omega (arith, h.0.short, length-append w (10 ∷ []))
line_short w (next ∷ ws) h = omega (arith, h.0.short, length-append w (32 ∷ line_of_words (next ∷ ws)), line_short next ws h.1)

line_from : (i : ℕ) (w : List ℕ) (ws : List (List ℕ)) (step : Step) → AreWords (w ∷ ws) → length (w ∷ ws) ≤ 8 → event_words false (w ∷ ws) ≡ Some (at i step) → IsLine i (line_of_words (w ∷ ws))
unfolding event_of
line_from i w ws step h few reads = record {
  text = join_with_byte 32 (w ∷ ws);
  is = line_is w ws;
  one = joined_one w ws h;
  short = omega (arith, few, line_short w ws h);
  step = step;
  reads = whole-line_of_words (event_words false) w ws h ∙ reads;
}

minus_reads : plus_or_minus 45 ≡ Some false
unfolding plus_or_minus
minus_reads = refl

plus_reads : plus_or_minus 43 ≡ Some true
unfolding plus_or_minus
plus_reads = refl

literal : (w : List ℕ) → list_all is_inner w ≡ true → length w ≤ 10 → IsWord w
literal w inner short = record { inner = inner; short = short }

-- ---- the lines of a block

module _ (i : ℕ) (block : Block) (small : i ≤ 10000) (among : IsAmong 10000 block) where
  now_word : IsWord (decimal i)
  now_word = word-decimal i (omega arith)

  now_reads : millis (decimal i) ≡ Some i
  now_reads = number_in-decimal 0 (2 ^ 40) i (omega arith) (omega arith) (omega arith)

  client_low : client block ≤ 4
  client_low = omega arith

  client_word : IsWord (decimal (client block))
  client_word = word-decimal (client block) (omega (arith, client_low))

  client_reads : name_number (decimal (client block)) ≡ Some (client block)
  client_reads = number_in-decimal 0 (2 ^ 32) (client block) (omega arith) (omega (arith, client_low)) (omega (arith, client_low))

  ticket_word : IsWord (decimal block.ticket)
  ticket_word = word-decimal block.ticket (omega (arith, among.ticket))

  ticket_reads : name_number (decimal block.ticket) ≡ Some block.ticket
  ticket_reads = number_in-decimal 0 (2 ^ 32) block.ticket (omega arith) (omega (arith, among.ticket)) (omega (arith, among.ticket))

  connection_word : IsWord (decimal block.connection)
  connection_word = word-decimal block.connection (omega (arith, among.connection))

  connection_reads : name_number (decimal block.connection) ≡ Some block.connection
  connection_reads = number_in-decimal 0 (2 ^ 32) block.connection (omega arith) (omega (arith, among.connection)) (omega (arith, among.connection))

  key_low : blocks.key block < 1000
  key_low = omega arith

  key_word : IsWord (decimal (blocks.key block))
  key_word = word-decimal (blocks.key block) (omega (arith, key_low))

  key_reads : key (decimal (blocks.key block)) ≡ Some (blocks.key block)
  key_reads = number_in-decimal 0 1000 (blocks.key block) (omega arith) key_low (omega (arith, key_low))

  drawn_word : IsWord (decimal block.drawn)
  drawn_word = word-decimal block.drawn (omega (arith, among.drawn))

  drawn_reads : value (decimal block.drawn) ≡ Some (pos block.drawn)
  drawn_reads = value-decimal block.drawn (omega (arith, among.drawn))

  ended_line : (commits : Bool)
      → IsLine i (line_of_words ((cond commits (codes "commit") (codes "rollback")) ∷ decimal i ∷ decimal (client block) ∷ decimal block.connection ∷ codes "+" ∷ []))
  ended_line true =
      line_from i (codes "commit") (decimal i ∷ decimal (client block) ∷ decimal block.connection ∷ codes "+" ∷ []) _
      (literal (codes "commit") refl (omega arith), (now_word, (client_word, (connection_word, (literal (codes "+") refl (omega arith), tt))))) (omega arith)
      (commit_reads (decimal i) (decimal (client block)) i (client block) now_reads client_reads (decimal block.connection) block.connection connection_reads)
  ended_line false =
      line_from i (codes "rollback") (decimal i ∷ decimal (client block) ∷ decimal block.connection ∷ codes "+" ∷ []) _
      (literal (codes "rollback") refl (omega arith), (now_word, (client_word, (connection_word, (literal (codes "+") refl (omega arith), tt))))) (omega arith)
      (rollback_reads (decimal i) (decimal (client block)) i (client block) now_reads client_reads (decimal block.connection) block.connection connection_reads)

  given_line : (closed : Bool)
      → IsLine i (line_of_words (codes "give" ∷ decimal i ∷ decimal (client block) ∷ decimal block.connection ∷ (cond closed (codes "+-") (codes "++")) ∷ codes "0" ∷ []))
  given_line true =
      line_from i (codes "give") (decimal i ∷ decimal (client block) ∷ decimal block.connection ∷ codes "+-" ∷ codes "0" ∷ []) _
      (literal (codes "give") refl (omega arith), (now_word, (client_word, (connection_word, (literal (codes "+-") refl (omega arith), (literal (codes "0") refl (omega arith), tt)))))) (omega arith)
      (give_reads (decimal i) (decimal (client block)) i (client block) now_reads client_reads (decimal block.connection) block.connection connection_reads 45 false minus_reads)
  given_line false =
      line_from i (codes "give") (decimal i ∷ decimal (client block) ∷ decimal block.connection ∷ codes "++" ∷ codes "0" ∷ []) _
      (literal (codes "give") refl (omega arith), (now_word, (client_word, (connection_word, (literal (codes "++") refl (omega arith), (literal (codes "0") refl (omega arith), tt)))))) (omega arith)
      (give_reads (decimal i) (decimal (client block)) i (client block) now_reads client_reads (decimal block.connection) block.connection connection_reads 43 true plus_reads)

  -- each line of the block is one
  line_in-is : (place : ℕ) → place < 7 → IsLine i (line_in i block place)
  line_in-is zero h =
      line_from i (codes "ask") (decimal i ∷ decimal (client block) ∷ []) _ (literal (codes "ask") refl (omega arith), (now_word, (client_word, tt))) (omega arith)
      (ask_reads (decimal i) (decimal (client block)) i (client block) now_reads client_reads)
  line_in-is (suc zero) h =
      line_from i (codes "poll") (decimal i ∷ decimal (client block) ∷ decimal block.ticket ∷ codes "++++" ∷ []) _
      (literal (codes "poll") refl (omega arith), (now_word, (client_word, (ticket_word, (literal (codes "++++") refl (omega arith), tt))))) (omega arith)
      (poll_reads (decimal i) (decimal (client block)) i (client block) now_reads client_reads (decimal block.ticket) block.ticket ticket_reads)
  line_in-is (suc (suc zero)) h =
      line_from i (codes "begin") (decimal i ∷ decimal (client block) ∷ decimal block.connection ∷ codes "+" ∷ []) _
      (literal (codes "begin") refl (omega arith), (now_word, (client_word, (connection_word, (literal (codes "+") refl (omega arith), tt))))) (omega arith)
      (begin_reads (decimal i) (decimal (client block)) i (client block) now_reads client_reads (decimal block.connection) block.connection connection_reads)
  line_in-is (suc (suc (suc zero))) h =
      line_from i (codes "put") (decimal i ∷ decimal (client block) ∷ decimal block.connection ∷ decimal (blocks.key block) ∷ decimal block.drawn ∷ codes "+" ∷ []) _
      (literal (codes "put") refl (omega arith), (now_word, (client_word, (connection_word, (key_word, (drawn_word, (literal (codes "+") refl (omega arith), tt))))))) (omega arith)
      (put_reads (decimal i) (decimal (client block)) i (client block) now_reads client_reads (decimal block.connection) block.connection connection_reads (decimal (blocks.key block))
      (blocks.key block) key_reads (decimal block.drawn) (pos block.drawn) drawn_reads)
  line_in-is (suc (suc (suc (suc zero)))) h = ended_line ((upper block / 4) % 2 == 0)
  line_in-is (suc (suc (suc (suc (suc zero))))) h =
      line_from i (codes "get") (decimal i ∷ decimal (client block) ∷ decimal block.connection ∷ decimal (blocks.key block) ∷ codes "+" ∷ []) _
      (literal (codes "get") refl (omega arith), (now_word, (client_word, (connection_word, (key_word, (literal (codes "+") refl (omega arith), tt)))))) (omega arith)
      (get_reads (decimal i) (decimal (client block)) i (client block) now_reads client_reads (decimal block.connection) block.connection connection_reads (decimal (blocks.key block))
      (blocks.key block) key_reads)
  line_in-is (suc (suc (suc (suc (suc (suc zero)))))) h = given_line (closes block)
  line_in-is (suc (suc (suc (suc (suc (suc (suc place))))))) h = absurd (omega arith)

-- ---- the lines of the script

among_more : (m n : ℕ) (block : Block) → m ≤ n → IsAmong m block → IsAmong n block
among_more m n block h a = record { ticket = omega (arith, h, a.ticket); connection = omega (arith, h, a.connection); drawn = a.drawn }

pub line_at-is : (seed i : ℕ) → i ≤ 10000 → IsLine i (line_at seed i)
unfolding line_at
line_at-is seed i h =
    line_in-is i (block_at seed ((i - 2) / 7)) h (among_more ((i - 2) / 7 + 1) 10000 _ (omega arith) (block_at-among seed ((i - 2) / 7))) ((i - 2) % 7) (omega arith)

-- what the first line of the script says
abbrev pub made_pool : PoolLine
made_pool = record {
  max = 1;
  min = 0;
  timeout = 1000000000;
  lifetime = None;
  idle = None;
  test_before_acquire = true;
  after_connect = false;
  before_acquire = false;
  after_release = false;
  tries = 1;
  counts_tests = false;
}

-- Lines that read as events behind these, and none of them bad.
record Reads (n : ℕ) (done : List Event) (lines : List (List ℕ)) : Type 0 where
  events : List Event
  are : reading_from pool_grammar made_pool n done lines ≡ record { events = events; bad = None }

read_more : (i : ℕ) (done : List Event) (lines : List (List ℕ)) (line : List ℕ) (step : Step) → event_of false line ≡ Some (at i step) → last_moment done ≤ nanos i
    → Reads (i + 1) (done ++ at i step ∷ []) lines → Reads i done (line ∷ lines)
read_more i done lines line step reads rises rest =
    let no_fall : nat_lt (nanos i) (last_moment done) ≡ false = grind (arith, nat_tests) in
    let says : not_before (last_moment done) (event_of false line) ≡ Some (at i step) = ap (not_before (last_moment done)) reads ∙ cond-false (nat_lt (nanos i) (last_moment done)) _ _ no_fall in
    record {
      events = at i step ∷ rest.events;
      are = event_next pool_grammar made_pool i done line lines (at i step) says ∙ ap (with_event (at i step)) rest.are;
    }

cut_first : (line rest : List ℕ) (i : ℕ) → IsLine i line → lines_of (line ++ rest) ≡ line ∷ lines_of rest
cut_first line rest i h =
    ap (λ l. lines_of (l ++ rest)) h.is ∙ ap lines_of (append_assoc h.text (10 ∷ []) rest) ∙ lines_of-line h.text rest h.one ∙ ap (λ l. l ∷ lines_of rest) (sym h.is)

lines_read : (seed count i : ℕ) (done : List Event) → i + count ≤ 10001 → last_moment done ≤ nanos i → Reads i done (lines_of (lines_from seed i count))
unfolding lines_from
lines_read seed zero i done few rises = record { events = []; are = end_next pool_grammar made_pool i done }
lines_read seed (suc count) i done few rises =
    let line = line_at-is seed i (omega (arith, few)) in
    let event : Event = at i line.step in
    let last = last_moment-push done event in
    subst (Reads i done) (sym (cut_first (line_at seed i) (lines_from seed (i + 1) count) i line))
    (read_more i done (lines_of (lines_from seed (i + 1) count)) (line_at seed i) line.step line.reads rises (lines_read seed count (i + 1) (done ++ event ∷ []) (omega (arith, few)) (omega (arith, last))))

lines_short : (seed count i : ℕ) → i + count ≤ 10001 → length (lines_from seed i count) ≤ 88 * count
unfolding lines_from
lines_short seed zero i few = omega arith
lines_short seed (suc count) i few =
    omega (arith, length-append (line_at seed i) (lines_from seed (i + 1) count), (line_at-is seed i (omega (arith, few))).short, lines_short seed count (i + 1) (omega (arith, few)))

-- ---- the script

pool_reads : pool_of first_line ≡ Some made_pool
unfolding pool_of pool_words pool_name limits_after number_in limit_nanos switches plus_or_minus
pool_reads = refl

-- the made script is a script
pub made_is_script : (count seed : ℕ) → 1 ≤ count → count ≤ 10000 → (script : Script PoolLine Event) × IsScript pool_grammar (made_text count seed) script
unfolding script_lines
made_is_script count seed some few =
    let lines = lines_read seed (count - 1) 2 [] (omega (arith, some, few)) (omega arith) in
    let cut = lines_of-line (codes "pool 1 0 1000 - - +---") (lines_from seed 2 (count - 1)) refl in
    let after = lines_of (lines_from seed 2 (count - 1)) in (
      record { first = made_pool; lines = record { events = lines.events; bad = None } },
      record {
        short = omega (arith, few, lines_short seed (count - 1) 2 (omega (arith, some, few)));
        reads = ap (script_lines pool_grammar) cut ∙ ap (λ pool. script_after pool_grammar pool after) pool_reads ∙ ap (λ r. Some (record { first = made_pool; lines = r })) lines.are;
        good = refl;
      },
    )
