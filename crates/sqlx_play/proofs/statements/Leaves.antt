-- What an act on one connection's link leaves of the rows, of that link and of the count of links with an open level.
use Rattle.std.proofs.Common.{◌≡◌, ℕ, zero, suc, ◌==◌, ℤ, false, ◌⊎◌, inl, inr, Option, ◌∷◌, refl, sym, ap, ◌∙◌, eq-eqb}
use Rattle.std.proofs.lemmas.Bool.{cond-true, cond-false}
use Rattle.sqlx_savepoints.specs.NamedSavepoints.{Named, write_at, wrote}
use Rattle.mem_store.specs.declared.answer.Answer.{Answer}
use Rattle.mem_store.specs.declared.runs.Runs.{Runs}
use Rattle.mem_store.specs.Store.{Link, Session, remarked}
use Rattle.mem_store.specs.Undo.{Undo}
use Rattle.mem_store.specs.Acts.{moved_to, written_to, store_read}
use Rattle.sqlx_savepoints.specs.Changes.{Change, History, writes}
use Rattle.sqlx_savepoints.specs.Links.{Linked, linked_after, linked_changed, named_at, link_of, moved}
use Rattle.sqlx_play.specs.stage.LinksStand.{side_of}

-- the session of connection c behind a history, on this link
abbrev pub session_at : History → ℕ → Link → ℕ → ℕ → Runs → Answer → Session
session_at past c link open_links given runs answer = record {
  store = record { rows = (linked_after past).rows; open_links = open_links; given = given; runs = runs };
  link = record link { depth = ((linked_after past).link c).depth; own = ((linked_after past).link c).own; entries = ((linked_after past).link c).entries };
  answer = answer;
}

-- the rows and the link are those of the new history, which leaves the other connections; the store counts the link's level
pub record Leaves (past new : History) (c : ℕ) (s t : Session) : Type 0 where
  pub rows : t.store.rows ≡ (linked_after new).rows
  pub side : side_of t.link ≡ (linked_after new).link c
  pub others : (d : ℕ) → (d == c) ≡ false → (linked_after new).link d ≡ (linked_after past).link d
  pub number : t.link.number ≡ s.link.number
  pub given : t.store.given ≡ s.store.given
  pub open_links : ((t.store.open_links ≡ s.store.open_links) × (t.link.depth ≡ s.link.depth)) ⊎ (t.store.open_links ≡ remarked s.link.depth t.link.depth s.store.open_links)

module _ (past : History) (c : ℕ) (link : Link) (open_links given : ℕ) (runs : Runs) (answer : Answer) where
  abbrev s : Session
  s = session_at past c link open_links given runs answer

  pub leaves-none : (after : Answer) → Leaves past past c s (session_at past c link open_links given runs after)
  leaves-none after = record { rows = refl; side = refl; others = λ d e. refl; number = refl; given = refl; open_links = inl (refl, refl) }

  pub leaves-read : Leaves past past c s (record s { store = store_read s.store })
  leaves-read = record { rows = refl; side = refl; others = λ d e. refl; number = refl; given = refl; open_links = inl (refl, refl) }

  pub leaves-moved : (change : Change) (state : Named) (undo : Undo) (after : Answer) (count : Runs) → linked_changed (linked_after past) change ≡ moved c state (linked_after past)
      → Leaves past (change ∷ past) c s (moved_to state undo count (session_at past c link open_links given runs after))
  leaves-moved change state undo after count e = record {
    rows = sym (ap (λ (l : Linked). l.rows) e);
    side = sym (ap (λ (l : Linked). l.link c) e ∙ cond-true (c == c) (link_of state) ((linked_after past).link c) (eq-eqb c c refl));
    others = λ d apart. ap (λ (l : Linked). l.link d) e ∙ cond-false (d == c) (link_of state) ((linked_after past).link d) apart;
    number = refl;
    given = refl;
    open_links = inr refl;
  }

  depth_kept : (d : ℕ) (key : ℤ) (value : Option ℤ) (state : Named) → (write_at d key value state).depth ≡ state.depth
  depth_kept zero key value state = refl
  depth_kept (suc d) key value state = refl

  pub leaves-written : (key : ℤ) (value : Option ℤ) → Leaves past (writes c key value ∷ past) c s (written_to key value s)
  leaves-written key value =
      let state : Named = wrote key value (named_at c (linked_after past)) in
      record {
        rows = refl;
        side = sym (cond-true (c == c) (link_of state) ((linked_after past).link c) (eq-eqb c c refl));
        others = λ d apart. cond-false (d == c) (link_of state) ((linked_after past).link d) apart;
        number = refl;
        given = refl;
        open_links = inl (refl, depth_kept ((linked_after past).link c).depth key value (named_at c (linked_after past)));
      }
