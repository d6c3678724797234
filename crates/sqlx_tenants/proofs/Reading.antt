-- What a family that keeps a book shows of it.
use Rattle.std.proofs.Common.{◌≡◌, ℕ, ◌<◌, ◌≤◌, ◌||◌, false, length, max, ap, ◌∙◌, arith}
use Rattle.std.specs.List.{list_any}
use Rattle.sqlx_pool_marks.specs.Marks.{is_shut}
use Rattle.sqlx_pool_marks.proofs.ListFacts.{or-false}
use Rattle.sqlx_pool_lists.specs.Core.{size}
use Rattle.sqlx_pool_lists.specs.StandsFor.{StandsIn}
use Rattle.sqlx_pool_core.proofs.TurnAtMarks.{owned-stands, idle-stands}
use Rattle.sqlx_family.specs.Pools.{entry_of, pool_in, counts_as_closed}
use Rattle.sqlx_lines.specs.Numbers.{nanos}
use Rattle.sqlx_tenants_rules.specs.declared.event.Opening.{Opening}
use Rattle.sqlx_tenants_rules.specs.declared.reply.Reply.TheVariants as reply
use Rattle.sqlx_tenants_rules.specs.Book.{Book, account, is_retired, open_in}
use Rattle.sqlx_tenants_rules.specs.Rules.{use_reply}
use Rattle.sqlx_tenants.specs.Keeps.{IsPool, Keeps}
use Rattle.sqlx_tenants.proofs.Alike.{Family}

module _ (first : Opening) (f : Family) (book : Book) (m : ℕ) (k : Keeps first f book m) (q : ℕ) (lt : q < length f.pools) where
  pub named : q < length book
  named = let e = k.alike.names in omega (arith, e, lt)

  pub is : IsPool (nanos first.timeout) (entry_of q f) (account q book)
  is = k.alike.each q named

  pub stands : StandsIn (pool_in q f) (account q book).marks
  stands = k.logs q lt

  pub size-is : size (pool_in q f) ≡ open_in (account q book)
  size-is =
      let idle = idle-stands (pool_in q f) (account q book).marks stands in
      let held = owned-stands (pool_in q f) (account q book).marks stands in
      let places = is.rests.places in
      let leaked = is.rests.leaked in
      let gone = is.rests.gone in
      omega (arith, idle, held, places, leaked, gone)

  pub use-is : (n w : ℕ) → n ≡ open_in (account q book) → w ≡ (entry_of q f).core.permits → reply.Use n w ≡ use_reply (account q book)
  use-is n w e paid = (λ i. reply.Use (e i) ((paid ∙ is.owned) i))

  -- the root is never shut
  pub root-open : (entry_of 0 f).core.shut ≡ false
  root-open = (k.logs 0 (omega (arith, lt))).shut ∙ ap (list_any is_shut) k.root

  pub shut-is : (entry_of q f).core.shut ≡ is_retired (account q book)
  shut-is = stands.shut

  pub closed-is : counts_as_closed q f ≡ is_retired (account q book)
  closed-is = (λ i. shut-is i || root-open i) ∙ or-false (is_retired (account q book))

  -- the moment of a step isn't below the last one
  pub moment-is : (now : ℕ) → m ≤ now → max f.shared.last.0 now ≡ now
  moment-is now le = let e = k.reached in omega (arith, e, le)
