-- Worked scripts: what their events are answered, and what their lines say, by computing the definitions.
use Rattle.std.proofs.Common.{◌≡◌, List, ℕ, map, [], ◌∷◌, codes, refl, false, true, None, Some}
use Rattle.sqlx_lines.specs.Words.{line_of}
use Rattle.sqlx_lines.specs.Numbers.{number_in}
use Rattle.sqlx_player.specs.Output.{pairs_after}
use Rattle.sqlx_tenants_rules.specs.declared.event.Event.{Event}
use Rattle.sqlx_tenants_rules.specs.declared.event.Event.TheVariants.{Tenant, Ask, Poll, Give, Retire, Use}
use Rattle.sqlx_tenants_rules.specs.declared.reply.Reply.{Reply}
use Rattle.sqlx_tenants_rules.specs.declared.reply.Reply.TheVariants as reply
use Rattle.sqlx_tenants_rules.specs.declared.event.Opening.{Opening}
use Rattle.sqlx_tenants_rules.specs.Grammar.{event_words, tenant_words, poll_words, letter, event_at}
use Rattle.sqlx_tenants_rules.specs.Book.{greatest}
use Rattle.sqlx_tenants_rules.specs.Rules.{tenants_rules, book_after, book_of, all_open}

-- the replies to events, and how many connections are open behind them
abbrev told : ℕ → ℕ → List Event → List Reply × ℕ
told limit timeout events =
    let first : Opening = record { limit = limit; timeout = timeout } in
    let pairs = pairs_after tenants_rules first [] events in (map (λ (pair : Event × Reply). pair.1) pairs, all_open (book_of first pairs))

-- a permit stays with the tenant that freed it; the root's line is kept
two_tenants : told 2 100 (
    Tenant 0 2 ∷ Tenant 0 1 ∷ Ask 0 1 1 ∷ Poll 0 1 1 1 true ∷ Ask 0 2 2 ∷ Ask 0 1 1 ∷ Poll 0 1 1 3 true ∷ Poll 0 2 2 2 true ∷ Poll 0 1 1 3 true ∷
    Give 1 1 1 1 ∷ Poll 1 1 1 3 true ∷ Use 1 1 ∷ Give 2 1 1 1 ∷ Retire 2 1 ∷ Use 2 1 ∷ [])
    ≡ (
      reply.Tenant 1 ∷ reply.Tenant 2 ∷ reply.Ticket 1 ∷ reply.Ready 1 ∷ reply.Ticket 2 ∷ reply.Ticket 3 ∷ reply.Waiting ∷ reply.Ready 2 ∷ reply.Waiting ∷
          reply.Kept ∷ reply.Ready 1 ∷ reply.Use 1 1 ∷ reply.Kept ∷ reply.Retired 1 ∷ reply.Use 0 0 ∷ [],
      1,
    )
unfolding pairs_after book_after greatest
two_tenants = refl

-- a refused connect leaves the permit with its tenant, who gives it back by going
one_permit : told 1 5 (
    Tenant 0 1 ∷ Ask 0 1 2 ∷ Ask 0 1 1 ∷ Poll 0 1 1 1 false ∷ Use 0 1 ∷ Tenant 0 1 ∷ Ask 0 2 2 ∷ Poll 0 2 2 2 true ∷ Retire 0 1 ∷ Poll 4 2 2 2 true ∷ Ask 4 1 1 ∷ [])
    ≡ (
      reply.Tenant 1 ∷ reply.NoTenant ∷ reply.Ticket 1 ∷ reply.Io ∷ reply.Use 0 1 ∷ reply.Tenant 2 ∷ reply.Ticket 2 ∷ reply.Waiting ∷ reply.Retired 0 ∷ reply.Ready 1 ∷
          reply.PoolClosed ∷ [],
      1,
    )
unfolding pairs_after book_after greatest
one_permit = refl

-- a retired tenant's ticket stands in the root's line until it is polled
the_retired_wait : told 1 100 (
    Tenant 0 1 ∷ Tenant 0 1 ∷ Ask 0 1 1 ∷ Ask 0 2 2 ∷ Retire 0 1 ∷ Poll 0 2 2 2 true ∷ Poll 0 1 1 1 true ∷ Poll 0 2 2 2 true ∷ [])
    ≡ (reply.Tenant 1 ∷ reply.Tenant 2 ∷ reply.Ticket 1 ∷ reply.Ticket 2 ∷ reply.Retired 0 ∷ reply.Waiting ∷ reply.PoolClosed ∷ reply.Ready 1 ∷ [], 1)
unfolding pairs_after book_after greatest
the_retired_wait = refl

-- a tenant's tickets stand in the root's line also where its own line entitles them: the second waits
the_second_waits : told 2 100 (
    Tenant 0 2 ∷ Ask 0 1 1 ∷ Poll 0 1 1 1 true ∷ Ask 0 1 1 ∷ Ask 0 1 1 ∷ Give 0 1 1 1 ∷ Poll 0 1 1 3 true ∷ Poll 0 1 1 2 true ∷ Poll 0 1 1 3 true ∷ [])
    ≡ (reply.Tenant 1 ∷ reply.Ticket 1 ∷ reply.Ready 1 ∷ reply.Ticket 2 ∷ reply.Ticket 3 ∷ reply.Kept ∷ reply.Waiting ∷ reply.Ready 1 ∷ reply.Ready 2 ∷ [], 2)
unfolding pairs_after book_after greatest
the_second_waits = refl

-- ---- lines

above_the_limit : event_at 2 0 (line_of (codes "tenant 0 3")) ≡ None
unfolding event_words tenant_words number_in
above_the_limit = refl

before_the_last : event_at 2 5 (line_of (codes "tenant 4 1")) ≡ None
unfolding event_words tenant_words number_in
before_the_last = refl

refused : event_at 2 5 (line_of (codes "poll 5 1 2 3 i")) ≡ Some (Poll 5 1 2 3 false)
unfolding event_words poll_words letter number_in
refused = refl
