-- The lent links of a stage, by the numbers of their connections.
use Rattle.std.specs.Prelude.{ℕ, ◌==◌, Bool, not, List, filter, refl}
use Rattle.std.specs.Coded.{Coded, code_by, coded×, coded_ℕ, coded_list}
use Rattle.sqlx_pool_lists.specs.declared.steps.Lent.{Lent}
use Rattle.mem_store.specs.Store.{Link, link_code}

-- Links in the order of lending.
pub record LentQueue : Type 0 where
  pub items : List (Lent Link)

-- a link of a connection, written out
abbrev pub lent_code : Coded (Lent Link)
lent_code = code_by (ℕ × (ℕ × Link)) (coded× coded_ℕ (coded× coded_ℕ link_code)) (λ l. (l.id, (l.created.0, l.raw))) (λ p. record { id = p.0; created = record { 0 = p.1.0 }; raw = p.1.1 }) (λ _. refl)

-- links in the order of lending, written out
abbrev pub queue_code : Coded LentQueue
queue_code = code_by (List (Lent Link)) (coded_list lent_code) (λ q. q.items) (λ items. record { items = items }) (λ _. refl)

-- the number of a link's connection
abbrev pub number_of : Lent Link → ℕ
number_of l = l.id

-- it is the link of connection c
abbrev pub is_lent : ℕ → Lent Link → Bool
is_lent c l = c == l.id

-- the links of the other connections
abbrev pub without_lent : ℕ → List (Lent Link) → List (Lent Link)
without_lent c lent = filter (λ (l : Lent Link). not (is_lent c l)) lent
