-- A desk stands for one event more, and for none at first.
use Rattle.std.proofs.Common.{◌≡◌, ◌^◌, ◌<◌, ◌≤◌, [], ◌∷◌, ◌++◌, length, length-append, sym, ap, subst, ◌∙◌, arith}
use Rattle.sqlx_lines.specs.Numbers.{nanos}
use Rattle.sqlx_player.specs.Language.{Pairs, events_of}
use Rattle.sqlx_player.specs.Responds.{IsDue}
use Rattle.sqlx_lines.specs.Scripts.{limit}
use Rattle.sqlx_pool_lists.specs.declared.options.PoolOptions.{PoolOptions}
use Rattle.sqlx_family.specs.Pools.{root_of, new_family}
use Rattle.sqlx_tenants_rules.specs.declared.event.Opening.{Opening}
use Rattle.sqlx_tenants_rules.specs.declared.event.Event.{Event}
use Rattle.sqlx_tenants_rules.specs.declared.reply.Reply.{Reply}
use Rattle.sqlx_tenants_rules.specs.Grammar.{moment, last_moment, BudgetFits}
use Rattle.sqlx_tenants_rules.specs.Book.{Book}
use Rattle.sqlx_tenants_rules.specs.Rules.{tenants_language, book_of, book_by, answer_at}
use Rattle.sqlx_tenants_rules.proofs.Behind.{book-behind, last-behind, no-book, no-moment}
use Rattle.sqlx_tenants_rules.proofs.Fits.{event-fits}
use Rattle.sqlx_family.specs.IsFamily.{IsFamily}
use Rattle.sqlx_tenants.proofs.Within.{is-within, within-behind, within-first}
use Rattle.sqlx_tenants.specs.declared.desk.TenantDesk.{TenantDesk}
use Rattle.sqlx_tenants.specs.Keeps.{Keeps, options_for}
use Rattle.sqlx_tenants.specs.Answers.{Answered, HasNumbers}
use Rattle.sqlx_tenants.specs.Draws.{Draws}
use Rattle.sqlx_tenants.specs.Standing.{DeskStands}
use Rattle.sqlx_tenants.proofs.Alike.{Family}
use Rattle.sqlx_tenants.proofs.ComeLemmas.{opened}

-- ---- what is known of an event that is due

pub record Due (desk : TenantDesk) (event : Event) : Type 0 where
  pub soon : moment event < 2 ^ 40
  pub budget : BudgetFits (root_of desk.family).options.max_connections event
  pub after : desk.last ≤ moment event

pub is-due : (desk : TenantDesk) (event : Event) → IsDue tenants_language (DeskStands desk) event → Due desk event
is-due desk event due =
    let s = due.stands in
    let fits = event-fits due.first.limit (last_moment (events_of due.pairs)) due.line event due.says in
    let most : (root_of desk.family).options.max_connections ≡ due.first.limit =
    ap (λ (o : PoolOptions). o.max_connections) (s.keeps.alike.each 0 (let n = s.keeps.some in omega (arith, n))).options ∙ s.keeps.limit in
    record {
      soon = fits.0.soon;
      budget = subst (λ n. BudgetFits n event) (sym most) fits.0.budget;
      after = let l = s.last in let a = fits.1 in omega (arith, l, a);
    }

-- ---- one event more

pub stands-behind : (old : TenantDesk) (event : Event) (new : Family) (word : Reply) (next : TenantDesk) → Due old event → Answered old.timeout event old.family new word → Draws old.family.shared new.shared
    → IsFamily new → next ≡ record old { family = new; last = moment event } → (first : Opening) (pairs : Pairs Event Reply) → DeskStands old first pairs → length pairs < limit
    → (word ≡ answer_at (book_of first pairs) event) × DeskStands next first (pairs ++ (event, answer_at (book_of first pairs) event) ∷ [])
stands-behind old event new word next due does draws sums is first pairs s few = (
  all.0,
  subst (λ (d : TenantDesk). DeskStands d first (pairs ++ pair ∷ [])) (sym is) (record {
    keeps = subst (λ (b : Book). Keeps first new b (nanos (moment event))) (sym (book-behind first pairs pair)) all.1;
    limit = s.limit;
    timeout = s.timeout;
    last = sym (last-behind pairs pair);
    few_tickets = let n = length-append pairs (pair ∷ []) in let d = draws.0 in let t = s.few_tickets in omega (arith, n, d, t);
    few_conns = let n = length-append pairs (pair ∷ []) in let d = draws.1 in let t = s.few_conns in omega (arith, n, d, t);
    within = within-behind first pairs pair s.within (is-within first new (book_of first (pairs ++ pair ∷ [])) (nanos (moment event)) (subst (λ (b : Book). Keeps first new b (nanos (moment event))) (sym (book-behind first pairs pair)) all.1) sums);
  }),
)
  where
    pair : Event × Reply
    pair = (event, answer_at (book_of first pairs) event)

    numbers : HasNumbers (book_of first pairs)
    numbers =
        (let e = s.keeps.tickets in let t = s.few_tickets in omega (arith, e, t, few), let e = s.keeps.conns in let t = s.few_conns in omega (arith, e, t, few))

    all : (word ≡ answer_at (book_of first pairs) event) × Keeps first new (book_by first (book_of first pairs) (event, answer_at (book_of first pairs) event)) (nanos (moment event))
    all = does first (book_of first pairs) (nanos old.last) s.keeps (let a = due.after in omega (arith, a)) numbers s.timeout

-- ---- before the first event

pub stands-first : (desk : TenantDesk) (first : Opening) → desk.limit ≡ first.limit → desk.timeout ≡ nanos first.timeout → desk.last ≡ 0
    → desk.family ≡ new_family (options_for first.limit (nanos first.timeout)) → IsFamily desk.family → DeskStands desk first []
stands-first desk first limit_is timeout_is last_is is sums = record {
  keeps = subst (λ n. Keeps first desk.family (book_of first []) (nanos n)) (sym last_is) (subst (λ (b : Book). Keeps first desk.family b 0) (sym (no-book first)) (opened first desk.family is));
  limit = limit_is;
  timeout = timeout_is;
  last = last_is ∙ sym no-moment;
  few_tickets = let e = ap (λ (f : Family). f.shared.next_ticket) is in omega (arith, e);
  few_conns = let e = ap (λ (f : Family). f.shared.next_conn) is in omega (arith, e);
  within = within-first first (is-within first desk.family (book_of first []) 0 (subst (λ (b : Book). Keeps first desk.family b 0) (sym (no-book first)) (opened first desk.family is)) sums);
}
