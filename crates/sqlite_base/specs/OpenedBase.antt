-- What a database is that was opened.
use Rattle.std.specs.Prelude.{ℕ, List, codes}
use Rattle.sqlite.specs.Files.{IsOpened, file_state}
use Rattle.sqlite.specs.Held.{state}
use Rattle.sqlite.specs.State.{HasCleanDisk, State}
use Rattle.sqlite.specs.Steps.{IsEmpty, over_memory}
use Rattle.sqlite_base.specs.Ran.{Ran}
use Rattle.sqlite_base.specs.declared.base.Base.{Base}
use Rattle.sqlite_base.specs.declared.base.Base.TheVariants.{Memory, File}

-- the text that makes the table of a database in memory
abbrev pub table_text : List ℕ
table_text = codes "CREATE TABLE kv(k INTEGER PRIMARY KEY, v INTEGER NOT NULL)"

-- by what a connection shows, its database was empty when the text that makes the table ran
abbrev pub HasTable : {C : Type 0} → (C → State) → C → Type 0
HasTable {C = C} state conn = (blank : C) × IsEmpty (state blank) × Ran table_text (state blank) (state conn)

-- a database in memory, with the table alone
abbrev pub IsInMemory : Base → Type 0
IsInMemory (Memory conn) = HasTable (state over_memory) conn
IsInMemory (File conn) = ⊥

-- a file that was opened
abbrev pub IsFile : Base → Type 0
IsFile (Memory conn) = ⊥
IsFile (File conn) = HasCleanDisk (file_state conn) → IsOpened conn
