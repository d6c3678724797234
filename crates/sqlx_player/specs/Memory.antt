-- What the sources and sinks in memory show.
use Rattle.std.specs.Prelude.{ℕ, List, drop}
use Rattle.sqlx_player.specs.declared.memory.MemSource.{MemSource}
use Rattle.sqlx_player.specs.declared.memory.MemSink.{MemSink}
use Rattle.sqlx_player.specs.declared.memory.SureSource.{SureSource}
use Rattle.sqlx_player.specs.declared.memory.Taken.{Taken}
use Rattle.sqlx_player.specs.Calls.{cut}
use Rattle.sqlx_player.specs.declared.memory.SureSink.{SureSink}

-- the pieces that were taken
abbrev pub pieces_in : Taken → List (List ℕ)
pieces_in t = cut t.sizes.items t.bytes.items

-- the bytes that a source in memory has yet to give
abbrev pub left_of : MemSource → List ℕ
left_of s = drop s.at s.bytes.items

-- the numbers of its calls that fail
abbrev pub read_fails : MemSource → List ℕ
read_fails s = s.fails.items

-- how many calls it has had
abbrev pub read_calls : MemSource → ℕ
read_calls s = s.calls

-- how many of its calls failed
abbrev pub read_faults : MemSource → ℕ
read_faults s = s.faults

-- the bytes that a sink in memory has taken
abbrev pub written_of : MemSink → List ℕ
written_of k = k.taken.bytes.items

-- what each of its calls was handed that didn't fail
abbrev pub pieces_taken : MemSink → List (List ℕ)
pieces_taken k = pieces_in k.taken

-- the numbers of its calls that fail
abbrev pub write_fails : MemSink → List ℕ
write_fails k = k.fails.items

-- how many calls it has had
abbrev pub write_calls : MemSink → ℕ
write_calls k = k.calls

-- how many of its calls failed
abbrev pub write_faults : MemSink → ℕ
write_faults k = k.faults

-- the bytes that a source without faults has yet to give
abbrev pub sure_left : SureSource → List ℕ
sure_left s = drop s.at s.bytes.items

-- the bytes that a sink without faults has taken
abbrev pub sure_written : SureSink → List ℕ
sure_written k = k.taken.bytes.items

-- what each of its calls was handed
abbrev pub sure_pieces : SureSink → List (List ℕ)
sure_pieces k = pieces_in k.taken
