-- A cache of statements as a list of texts with their statements, the most recently used first.
use Rattle.std.specs.Prelude.{ℕ, ◌-◌, List, ◌∷◌, length, map, take, slice_get, Option, Some, option_map}
use Rattle.std.specs.Option.{option_map_or}
use Rattle.std.specs.Map.{lookup, remove_entry}
use Rattle.std.specs.Str.{bytes_eq}
use Rattle.lru.specs.LruCache.{LruCache}

-- the entries by the texts of their keys
abbrev pub by_texts : {K V : Type 0} → (K → List ℕ) → List (K × V) → List (List ℕ × V)
by_texts text_of entries = map (λ e. (text_of e.0, e.1)) entries

module _ {V : Type 0} where
  -- the value that was used least recently
  abbrev pub last_value : List (List ℕ × V) → Option V
  last_value entries = option_map (λ e. e.1) (slice_get entries (length entries - 1))

  -- the entries without the one that was used least recently
  abbrev pub without_last : List (List ℕ × V) → List (List ℕ × V)
  without_last entries = take (length entries - 1) entries

  module _ (cache : LruCache (List ℕ) V) (text : List ℕ) where
    -- the entries with the text first, and no more of them than there may be
    abbrev pub inserted : V → List (List ℕ × V)
    inserted value = take cache.cap ((text, value) ∷ remove_entry (bytes_eq text) cache.entries)

    -- the value that goes: that of the text, or else the last of a full cache
    abbrev pub handed_back : Option V
    handed_back = option_map_or Some (lookup (bytes_eq text) cache.entries) (option_map (λ e. e.1) (slice_get cache.entries (cache.cap - 1)))
