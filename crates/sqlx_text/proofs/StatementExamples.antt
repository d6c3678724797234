-- Worked examples of the definitions.
use Rattle.std.proofs.Common.{◌≡◌, ℕ, List, [], ◌∷◌, ◌++◌, take, Some, refl}
use Rattle.std.specs.Prelude.{codes}
use Rattle.lru.specs.LruCache.{LruCache, lru_cache}
use Rattle.sqlx_text.specs.Cache.{inserted, handed_back}
use Rattle.sqlx_text.specs.Summary.{joined, words_of}

words_of-select : joined (take 4 (words_of (codes "SELECT id, name" ++ 10 ∷ codes "  FROM users WHERE id = ?"))) ≡ codes "SELECT id, name FROM"
words_of-select = refl

words_of-blanks : words_of (codes "  ") ≡ []
words_of-blanks = refl

-- a full cache of a and b
abbrev full : LruCache (List ℕ) ℕ
full = lru_cache ((codes "a", 1) ∷ (codes "b", 2) ∷ []) 2

abbrev disabled : LruCache (List ℕ) ℕ
disabled = lru_cache [] 0

inserted-c : inserted full (codes "c") 3 ≡ (codes "c", 3) ∷ (codes "a", 1) ∷ []
inserted-c = refl

handed_back-c : handed_back full (codes "c") ≡ Some 2
handed_back-c = refl

inserted-b : inserted full (codes "b") 3 ≡ (codes "b", 3) ∷ (codes "a", 1) ∷ []
inserted-b = refl

handed_back-b : handed_back full (codes "b") ≡ Some 2
handed_back-b = refl

inserted-disabled : inserted disabled (codes "a") 1 ≡ []
inserted-disabled = refl
