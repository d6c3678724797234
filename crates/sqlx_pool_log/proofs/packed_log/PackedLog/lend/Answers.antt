use Rattle.std.proofs.Common.{◌^◌, min, [], ◌∷◌, true, vec_capacity}
use Rattle.sqlx_pool_marks.specs.declared.mark.Mark.TheVariants.{Lent, Ended}
use Rattle.sqlx_pool_log.specs.declared.entry.Entry.TheVariants.{Loan}
use Rattle.sqlx_pool_log.proofs.Entries.{set_items, set_counts, set_capacity, lent_too}
use Rattle.sqlx_pool_log.proofs.packed_log.PackedLog.lend.Goals as goal

pub invariant_of-self : goal.invariant_of-self
invariant_of-self c =
    let last = (let h = c.in-Some.ensures.0 in rw c.deref.ensures.value at h) in
    set_counts c.self.inside.entries.items c.in-Some.at c.in-Some.loan (Loan (record c.in-Some.loan { lent = true; ended = true; client = c.args.client })) (Lent c.args.client c.args.conn ∷ Ended c.args.ticket ∷ []) _ last (lent_too c.in-Some.loan c.args.client c.args.ticket c.args.conn c.in-Some.ensures.1) c.self.invariant

pub returns-in-Some-clause-items : goal.returns-in-Some-clause-items
returns-in-Some-clause-items c =
    let last = (let h = c.in-Some.ensures.0 in rw c.deref.ensures.value at h) in
    rw (← c.self.view_is) (set_items c.self.inside.entries.items c.in-Some.at c.in-Some.loan (Loan (record c.in-Some.loan { lent = true; ended = true; client = c.args.client })) (Lent c.args.client c.args.conn ∷ Ended c.args.ticket ∷ []) last (lent_too c.in-Some.loan c.args.client c.args.ticket c.args.conn c.in-Some.ensures.1))

pub returns-in-Some-clause-capacity : goal.returns-in-Some-clause-capacity
returns-in-Some-clause-capacity c =
    let last = (let h = c.in-Some.ensures.0 in rw c.deref.ensures.value at h) in
    rw (← c.self.view_is) (set_capacity c.self.inside.entries.items c.in-Some.at c.in-Some.loan (Loan (record c.in-Some.loan { lent = true; ended = true; client = c.args.client })) (Lent c.args.client c.args.conn ∷ Ended c.args.ticket ∷ []) (min (vec_capacity c.self.inside.entries) (2 ^ 60)) last (lent_too c.in-Some.loan c.args.client c.args.ticket c.args.conn c.in-Some.ensures.1))
