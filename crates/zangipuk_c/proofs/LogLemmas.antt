-- The marks of a step stand behind a log, if one is kept.
use Rattle.std.proofs.Common.{◌≡◌, ℕ, Bool, true, List, ◌++◌, Option, Some, None, Vec, is_some, cond, refl, ap, ◌∙◌}
use Rattle.std.specs.declared.alloc.Global.{Global}
use Rattle.sqlx_pool_marks.specs.declared.mark.Mark.{Mark}
use Rattle.sqlx_pool_lists.specs.declared.steps.Lent.{Lent}
use Rattle.sqlx_pool_lists.specs.declared.steps.Start.{Start}
use Rattle.sqlx_pool_lists.specs.declared.ticket.Phase.{Phase}
use Rattle.sqlx_pool_lists.specs.declared.ticket.Phase.TheVariants as phase
use Rattle.sqlx_pool_lists.specs.PollSteps.{is_in_line, start_marks, serve_marks}
use Rattle.zangipuk_c.proofs.MarkLemmas.{start-waited}
use Rattle.zangipuk_c.specs.Logged.{Notes}

-- which marks they are is looked up for a log that is kept alone
pub noted-as : (log new : Option (Vec Mark Global)) (made due : List Mark) → (is_some log ≡ true → made ≡ due) → Notes log made new → Notes log due new
noted-as None None made due same n = tt
noted-as None (Some new) made due same n = n
noted-as (Some old) None made due same n = tt
noted-as (Some old) (Some new) made due same n = n ∙ ap (λ l. old.items ++ l) (same refl)

-- of a start: whether the ticket waited
pub noted-start : (log new : Option (Vec Mark Global)) (t : ℕ) (p : Option Phase) (answer : Start ℕ) (waited : Bool)
    → (is_some log ≡ true → waited ≡ is_in_line p) → Notes log (start_marks t (cond waited (Some phase.Waiting) None) answer) new → Notes log (start_marks t p answer) new
noted-start log new t p answer waited same n = noted-as log new _ (start_marks t p answer) (λ is. start-waited t p answer waited (same is)) n

-- of an ask that is served at once: its ticket and its deadline
pub noted-serve : (log new : Option (Vec Mark Global)) (k : ℕ) (lent : Option (Lent ℕ)) (t ticket d deadline : ℕ)
    → (is_some log ≡ true → t ≡ ticket) → (is_some log ≡ true → d ≡ deadline) → Notes log (serve_marks k t d lent) new → Notes log (serve_marks k ticket deadline lent) new
noted-serve log new k lent t ticket d deadline numbered in_time n =
    noted-as log new _ (serve_marks k ticket deadline lent) (λ is. ap (λ x. serve_marks k x d lent) (numbered is) ∙ ap (λ x. serve_marks k ticket x lent) (in_time is)) n
