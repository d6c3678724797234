-- What an act gives, of a session by its parts.
use Rattle.std.proofs.Common.{◌≡◌, IfOk, OnOk, Result, Ok, Err, ap, ◌∙◌}
use Rattle.sqlx_script.specs.declared.reply.Reply.{Reply}
use Rattle.mem_store.specs.Store.{Link, Session, Store}
use Rattle.sqlx_play_acts.specs.ClientActs.{Gives, left_by, reply_on}
use Rattle.sqlx_play_acts.specs.declared.act.Act.{Act}

module _ {E : Type 0} (act : Act) (given before after : Session) (result : Result Reply E) (is : before ≡ given) (gives : Gives act before result after) where
  told : (result : Result Reply E) → Gives act before result after → IfOk result (λ reply. reply ≡ reply_on act given)
  told (Ok reply) gives = gives.0 ∙ ap (reply_on act) is
  told (Err none) gives = tt

  pub gives_reply : IfOk result (λ reply. reply ≡ reply_on act given)
  gives_reply = told result gives

  linked : (result : Result Reply E) (link : Link) → Gives act before result after → link ≡ after.link → OnOk result (link ≡ (left_by act given).link)
  linked (Ok reply) link gives same = same ∙ ap (λ (s : Session). s.link) (gives.1 ∙ ap (left_by act) is)
  linked (Err none) link gives same = tt

  pub gives_link : (link : Link) → link ≡ after.link → OnOk result (link ≡ (left_by act given).link)
  gives_link link same = linked result link gives same

  stored : (result : Result Reply E) (store : Store) → Gives act before result after → store ≡ after.store → OnOk result (store ≡ (left_by act given).store)
  stored (Ok reply) store gives same = same ∙ ap (λ (s : Session). s.store) (gives.1 ∙ ap (left_by act) is)
  stored (Err none) store gives same = tt

  pub gives_store : (store : Store) → store ≡ after.store → OnOk result (store ≡ (left_by act given).store)
  gives_store store same = stored result store gives same
