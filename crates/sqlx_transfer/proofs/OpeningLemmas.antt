-- What stands in a bank before its first event.
use Rattle.std.proofs.Common.{◌≡◌, ℕ, suc, ◌+◌, ℤ, pos, false, cond, Option, Some, [], ◌∷◌, ◌++◌, refl, sym, ap, subst, ◌∙◌, eq-eqb, arith, length-append, inl, inr}
use Rattle.std.proofs.lemmas.Bool.Decides.{eqb_tells}
use Rattle.std.proofs.lemmas.List.Elements.{All-nil, All-push}
use Rattle.std.specs.FinMap.{empty}
use Rattle.sqlx_savepoints.specs.Changes.{History, writes}
use Rattle.sqlx_savepoints.specs.Standing.{standing}
use Rattle.sqlx_savepoints.specs.Standing as stands
use Rattle.sqlx_savepoints.specs.Levels.{named_step}
use Rattle.sqlx_savepoints.specs.Levels as levels
use Rattle.sqlx_savepoints.specs.Links.{linked_after, link_of, named_at, new_link}
use Rattle.sqlx_savepoints.specs.Links.{Link as BracketLink}
use Rattle.sqlx_savepoints.specs.Stores.{AreAccepted}
use Rattle.sqlx_pool_lists.specs.Core.{Core}
use Rattle.sqlx_pool_lists.specs.declared.steps.Idle.{Idle}
use Rattle.mem_store.specs.Store.{Store, Link}
use Rattle.sqlx_play.specs.stage.LinksStand.{side_of}
use Rattle.sqlx_transfer_rules.specs.declared.bank_line.BankLine.{BankLine}
use Rattle.sqlx_transfer_rules.specs.Transfers.{nobody, history_of, history_after, connected, connected_after}
use Rattle.sqlx_transfer_rules.specs.Values.{valued, opening_rows}
use Rattle.sqlx_transfer.specs.declared.level.Written.{Written}
use Rattle.sqlx_transfer.specs.declared.holder.Holder.{Holder}
use Rattle.sqlx_transfer.specs.At.{Puts}
use Rattle.sqlx_transfer.specs.Pool.{Opens}
use Rattle.sqlx_transfer.specs.Openings.{Wrote, Fills, AreAlike}
use Rattle.sqlx_transfer.specs.Stands.{IsInLevel, IsClient, Stands}

-- ---- the opening balances

pub wrote_none : (opening : ℕ) (store : Store) (link : Link) → store.rows ≡ empty → store.open_links ≡ 0 → side_of link ≡ new_link → Wrote opening 0 store link
wrote_none opening store link rows alone rests = record {
  past = [];
  at = record {
    accepted = tt;
    rows = rows;
    side = rests;
    beside = λ other apart. refl;
    open_links = (let flat : link.depth ≡ 0 = ap (λ (l : BracketLink). l.depth) rests in omega (arith, alone, flat));
    quiet = λ none other apart. refl;
    loud = λ one. absurd (omega (arith, one));
    few = omega arith;
    begun = omega arith;
  };
  stands = refl;
  flat = refl;
}

written_flat : (past : History) (k : ℕ) (key : ℤ) (v : Option ℤ) → (linked_after past).link k ≡ new_link → (linked_after (writes k key v ∷ past)).link k ≡ new_link
written_flat past k key v flat =
    ap (λ b. cond b (link_of (named_step (levels.writes key v) (named_at k (linked_after past)))) ((linked_after past).link k)) (eq-eqb k k refl)
    ∙ (λ i. link_of (named_step (levels.writes key v) (record { rows = (linked_after past).rows; own = (flat i).own; entries = (flat i).entries; depth = (flat i).depth })))

pub wrote_one : (opening n : ℕ) (told : Written) (v : ℤ) (store store' : Store) (link link' : Link) → v ≡ pos opening → (w : Wrote opening n store link) → Puts false (pos (n + 1)) v w.past (λ _. new_link) nobody 0 0 told store' link' → Wrote opening (n + 1) store' link'
wrote_one opening n told v store store' link link' is w put =
    let next : n + 1 ≡ suc n = omega arith in
    record {
      past = writes nobody (pos (n + 1)) (Some v) ∷ w.past;
      at = put.1;
      stands = (λ i. stands.wrote nobody (pos (next i)) (Some (is i)) ∷ w.stands i) ∙ ap (opening_rows opening) (sym next);
      flat = written_flat w.past nobody (pos (n + 1)) (Some v) w.flat;
    }

-- ---- the connections

pub fills_one : (max : ℕ) (core : Core Link) (raw : Link) → side_of raw ≡ new_link → Opens max core [] raw → Fills max 1 core
fills_one max core raw rests o = record {
  idle = o.entry ∷ [];
  pool = o.pool;
  count' = refl;
  rests = All-push (λ (i : Idle Link). side_of i.lent.raw ≡ new_link) [] o.entry (All-nil (λ (i : Idle Link). side_of i.lent.raw ≡ new_link)) (ap side_of o.is ∙ rests);
}

pub fills_more : (max count : ℕ) (core core' : Core Link) (raw : Link) → side_of raw ≡ new_link → (f : Fills max count core) → Opens max core' f.idle raw → Fills max (count + 1) core'
fills_more max count core core' raw rests f o = record {
  idle = f.idle ++ o.entry ∷ [];
  pool = o.pool;
  count' = (let long = length-append f.idle (o.entry ∷ []) in let is = f.count' in omega (arith, long, is));
  rests = All-push (λ (i : Idle Link). side_of i.lent.raw ≡ new_link) f.idle o.entry f.rests (ap side_of o.is ∙ rests);
}

-- ---- all of it

no_history : history_of [] ≡ []
unfolding history_after
no_history = refl

no_clients : connected [] ≡ []
unfolding connected_after
no_clients = refl

pub fresh : (core : Core Link) (store store' : Store) (link : Link) (line : BankLine) → Wrote line.opening line.accounts store link → AreAlike store store' → Fills line.max line.max core → Stands core store' [] line line []
fresh core store store' link line w alike f = record {
  set_up = refl;
  past = w.past;
  links = record {
    accepted = w.at.accepted;
    rows = alike.rows ∙ w.at.rows;
    links = All-nil (λ (h : Holder). side_of h.lent.raw ≡ (linked_after w.past).link h.client);
    levels = All-nil IsInLevel;
    numbers = All-nil IsClient;
    away = λ k none. away k;
    once = λ k. omega arith;
    open_links = (let open' = alike.open_links in let all = w.at.open_links in let flat : link.depth ≡ 0 = ap (λ (l : BracketLink). l.depth) (w.at.side ∙ w.flat) in omega (arith, open', all, flat));
  };
  pool = record { idle = f.idle; pool = f.pool; all = (let count = f.count' in omega (arith, count)); rests = f.rests };
  accepted = subst AreAccepted (sym no_history) tt;
  stands = w.stands ∙ ap (λ (h : History). valued line (standing h)) (sym no_history);
  clients = sym no_clients;
  begun = omega arith;
}
  where
    away : (k : ℕ) → (linked_after w.past).link k ≡ new_link
    away k = elim (eqb_tells k nobody) [
      | inl is ↦ ap (linked_after w.past).link is.1 ∙ w.flat
      | inr is ↦ w.at.beside k is.0
    ]
