use Rattle.std.proofs.Common.{codes, refl, arith}
use Rattle.std.proofs.lemmas.Slice.Eq.{text_from_reads}
use Rattle.sqlx_script.specs.Letters.{plus_or_minus, hook_letter, connect_letter, after_connect_letter, poll_answers}
use Rattle.sqlx_script.proofs.letters.poll_answers.Goals as goal

pub returns-then-from_le_bytes-eq-FOUR_PLUS-clause-is : goal.returns-then-from_le_bytes-eq-FOUR_PLUS-clause-is
unfolding poll_answers plus_or_minus hook_letter connect_letter after_connect_letter
returns-then-from_le_bytes-eq-FOUR_PLUS-clause-is c =
    rw (text_from_reads c.args.word.now (codes "++++") (omega arith) (omega arith, (omega arith, (omega arith, (omega arith, tt))))) refl
