use Rattle.std.proofs.Common.{◌≡◌, ◌++◌, ◌∷◌, [], IfOk, refl, sym, ap, subst, ◌∙◌, w64, rules, nat_le}
use Rattle.std.proofs.lemmas.Int.{to_z-of_z}
use Rattle.std.proofs.lemmas.Bool.{and_parts, leb-true}
use mir.Val.{SFits, to_z, of_z}
use Rattle.sqlx_transfer_rules.specs.declared.event.Event.{Event}
use Rattle.sqlx_transfer_rules.specs.declared.event.Event.TheVariants.{Show}
use Rattle.sqlx_transfer_rules.specs.declared.reply.Reply.TheVariants.{Balance}
use Rattle.sqlx_transfer_rules.specs.Laws.{IsOfBank}
use Rattle.sqlx_transfer_rules.specs.Rules.{answer}
use Rattle.sqlx_transfer.specs.Stands.{Replies, Stands, state_of}
use Rattle.sqlx_transfer.proofs.Bankings.{kept}
use Rattle.sqlx_transfer.proofs.bank.Bank.reply_to.Goals as goal

pub returns-in-Start : goal.returns-in-Start
returns-in-Start g c = subst (λ (e : Event). IfOk c.start.result (λ reply. Replies e reply (state_of c.args.self.now) (state_of c.start.new.self))) (sym c.in-Start.is) c.start.ensures

pub returns-in-Commit : goal.returns-in-Commit
returns-in-Commit g c = subst (λ (e : Event). IfOk c.end_level.result (λ reply. Replies e reply (state_of c.args.self.now) (state_of c.end_level.new.self))) (sym c.in-Commit.is) c.end_level.ensures

pub returns-in-Undo : goal.returns-in-Undo
returns-in-Undo g c = subst (λ (e : Event). IfOk c.end_level-in-Undo.result (λ reply. Replies e reply (state_of c.args.self.now) (state_of c.end_level-in-Undo.new.self))) (sym c.in-Undo.is) c.end_level-in-Undo.ensures

pub returns-in-Drop : goal.returns-in-Drop
returns-in-Drop g c = subst (λ (e : Event). IfOk c.drop_levels.result (λ reply. Replies e reply (state_of c.args.self.now) (state_of c.drop_levels.new.self))) (sym c.in-Drop.is) c.drop_levels.ensures

pub returns-in-Show : goal.returns-in-Show
returns-in-Show g c = λ first pairs s few inside.
    let x = c.in-Show.account in
    let at = and_parts (nat_le 1 x) (nat_le x first.accounts) (subst (λ (e : Event). IsOfBank first e) c.in-Show.is inside) in
    let fits : SFits w64 c.balance.result = search rules in
    let is = to_z-of_z w64 c.balance.result fits ∙ c.balance.ensures first pairs s (leb-true 1 x at.0) (leb-true x first.accounts at.1) in
    subst (λ (e : Event). (Balance (to_z w64 (of_z w64 c.balance.result)) ≡ answer first pairs e) × Stands c.args.self.now.core.pool c.args.self.now.store c.args.self.now.holders.items c.args.self.now.line first (pairs ++ (e, Balance (to_z w64 (of_z w64 c.balance.result))) ∷ [])) (sym c.in-Show.is)
    (ap (λ v. Balance v) is, kept c.args.self.now.core.pool c.args.self.now.store c.args.self.now.line first pairs c.args.self.now.holders.items s (Show x) (Balance (to_z w64 (of_z w64 c.balance.result))) refl refl refl)
