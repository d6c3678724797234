-- Tickets whose tries stay stand as they stood.
use Rattle.std.proofs.Common.{◌≡◌, ℕ, List, [], ◌∷◌, ◌++◌, All, ◌∙◌}
use Rattle.std.proofs.lemmas.List.Elements.{All-weaker}
use Rattle.sqlx_pool_lists.specs.declared.ticket.Ticket.{Ticket}
use Rattle.sqlx_pool_lists.specs.declared.ticket.Phase.{Phase}
use Rattle.sqlx_pool_lists.specs.declared.ticket.Phase.TheVariants as phase
use Rattle.sqlx_script.specs.declared.step.Event.{Event}
use Rattle.sqlx_script.specs.declared.reply.Reply.{Reply}
use Rattle.sqlx_script_rules.specs.Tries.{tries_of}
use Rattle.sqlx_play.specs.stage.StageStands.{IsTriedAt, IsTried}
use Rattle.sqlx_script_rules.specs.Pairs.{Pairs}

-- a ticket whose tries are the same stands as it stood
tried_alike_at : (one two : Pairs) (x : Ticket) (p : Phase) → tries_of x.number two ≡ tries_of x.number one → IsTriedAt one x p → IsTriedAt two x p
tried_alike_at one two x phase.Waiting e h = e ∙ h
tried_alike_at one two x (phase.Backoff until) e h = (h.0, h.1, e ∙ h.2)
tried_alike_at one two x (phase.Testing c created before) e h = h
tried_alike_at one two x phase.Connecting e h = h

pub tried-alike : (one two : Pairs) (x : Ticket) → tries_of x.number two ≡ tries_of x.number one → IsTried one x → IsTried two x
tried-alike one two x e h = tried_alike_at one two x x.phase e h

-- an event that is no backoff leaves the tries of every ticket
pub tried-same : (pairs : Pairs) (pair : Event × Reply) (tickets : List Ticket) → ((t : ℕ) → tries_of t (pairs ++ pair ∷ []) ≡ tries_of t pairs) → All (IsTried pairs) tickets → All (IsTried (pairs ++ pair ∷ [])) tickets
tried-same pairs pair tickets same h = All-weaker (IsTried pairs) (IsTried (pairs ++ pair ∷ [])) (λ x t. tried-alike pairs (pairs ++ pair ∷ []) x (same x.number) t) tickets h
