use Rattle.std.proofs.Common.{◌^◌, min, ℕ, [], ◌∷◌, ◌++◌, true, ap, ◌∙◌, vec_capacity}
use Rattle.sqlx_pool_marks.specs.declared.mark.Mark.TheVariants.{Kept}
use Rattle.sqlx_pool_log.specs.declared.entry.Entry.TheVariants.{Loan}
use Rattle.sqlx_pool_log.specs.Entries.{loan_marks}
use Rattle.sqlx_pool_log.proofs.Entries.{set_items, set_counts, set_capacity, kept_too}
use Rattle.sqlx_pool_log.proofs.packed_log.PackedLog.keep.Goals as goal

pub invariant_of-self : goal.invariant_of-self
invariant_of-self c =
    let last = (let h = c.in-Some.ensures.0 in rw c.deref.ensures.value at h) in
    set_counts c.self.inside.entries.items c.in-Some.at c.in-Some.loan (Loan (record c.in-Some.loan { kept = true; moment = c.args.moment })) (Kept c.args.conn c.args.moment ∷ []) _ last (kept_too c.in-Some.loan c.args.moment c.in-Some.ensures.1 ∙ ap (λ (n : ℕ). loan_marks c.in-Some.loan ++ Kept n c.args.moment ∷ []) c.in-Some.ensures.2) c.self.invariant

pub returns-in-Some-clause-items : goal.returns-in-Some-clause-items
returns-in-Some-clause-items c =
    let last = (let h = c.in-Some.ensures.0 in rw c.deref.ensures.value at h) in
    rw (← c.self.view_is) (set_items c.self.inside.entries.items c.in-Some.at c.in-Some.loan (Loan (record c.in-Some.loan { kept = true; moment = c.args.moment })) (Kept c.args.conn c.args.moment ∷ []) last (kept_too c.in-Some.loan c.args.moment c.in-Some.ensures.1 ∙ ap (λ (n : ℕ). loan_marks c.in-Some.loan ++ Kept n c.args.moment ∷ []) c.in-Some.ensures.2))

pub returns-in-Some-clause-capacity : goal.returns-in-Some-clause-capacity
returns-in-Some-clause-capacity c =
    let last = (let h = c.in-Some.ensures.0 in rw c.deref.ensures.value at h) in
    rw (← c.self.view_is) (set_capacity c.self.inside.entries.items c.in-Some.at c.in-Some.loan (Loan (record c.in-Some.loan { kept = true; moment = c.args.moment })) (Kept c.args.conn c.args.moment ∷ []) (min (vec_capacity c.self.inside.entries) (2 ^ 60)) last (kept_too c.in-Some.loan c.args.moment c.in-Some.ensures.1 ∙ ap (λ (n : ℕ). loan_marks c.in-Some.loan ++ Kept n c.args.moment ∷ []) c.in-Some.ensures.2))
