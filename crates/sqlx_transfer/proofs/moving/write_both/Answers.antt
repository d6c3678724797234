use Rattle.std.proofs.lemmas.Int.{to_z-of_z}
use mir.Val.{to_z, of_z}
use Rattle.std.proofs.Common.{w64, Bool, pos, ℤ, subst, sym, ap, ◌∙◌}
use Rattle.sqlx_transfer.specs.At.{Puts}
use Rattle.sqlx_transfer.specs.Moving.{refuses_first, refuses_second}
use Rattle.sqlx_transfer.proofs.MoveLemmas.{first_refused, first_busy, second, said_of}
use Rattle.sqlx_transfer.proofs.moving.write_both.Goals as goal

pub returns-in-Refused : goal.returns-in-Refused
returns-in-Refused g c = λ past o k n b at.
    let put = subst (λ (r : Bool). Puts r (pos c.args.transfer.now.from) (to_z w64 (of_z w64 c.args.less)) past o k n b c.in_ok-first.first c.put.new.store c.put.new.link) c.refuses_first.ensures (c.in_ok-first.ensures past o k n b at) in
    let put' = subst (λ (x : ℤ). Puts (refuses_first c.args.transfer.now.met) (pos c.args.transfer.now.from) x past o k n b c.in_ok-first.first c.put.new.store c.put.new.link) (to_z-of_z w64 c.args.less c.ranges.less) put in
    first_refused c.args.transfer.now.met n k (pos c.args.transfer.now.from) c.args.less (pos c.args.transfer.now.to) c.args.more past o b c.in_ok-first.first _ _ c.in-Refused.is put'

pub returns-in-Busy : goal.returns-in-Busy
returns-in-Busy g c = λ past o k n b at.
    let put = subst (λ (r : Bool). Puts r (pos c.args.transfer.now.from) (to_z w64 (of_z w64 c.args.less)) past o k n b c.in_ok-first.first c.put.new.store c.put.new.link) c.refuses_first.ensures (c.in_ok-first.ensures past o k n b at) in
    let put' = subst (λ (x : ℤ). Puts (refuses_first c.args.transfer.now.met) (pos c.args.transfer.now.from) x past o k n b c.in_ok-first.first c.put.new.store c.put.new.link) (to_z-of_z w64 c.args.less c.ranges.less) put in
    first_busy c.args.transfer.now.met n k (pos c.args.transfer.now.from) c.args.less (pos c.args.transfer.now.to) c.args.more past o b c.in_ok-first.first _ _ c.in-Busy.is put'

pub returns-in-Refused-second : goal.returns-in-Refused-second
returns-in-Refused-second g c = λ past o k n b at.
    let t = c.args.transfer.now in
    let put = subst (λ (r : Bool). Puts r (pos c.args.transfer.now.from) (to_z w64 (of_z w64 c.args.less)) past o k n b c.in_ok-first.first c.put.new.store c.put.new.link) c.refuses_first.ensures (c.in_ok-first.ensures past o k n b at) in
    let put' = subst (λ (x : ℤ). Puts (refuses_first c.args.transfer.now.met) (pos c.args.transfer.now.from) x past o k n b c.in_ok-first.first c.put.new.store c.put.new.link) (to_z-of_z w64 c.args.less c.ranges.less) put in
    let both = second t.met n k (pos t.from) c.args.less (pos t.to) c.args.more past o b c.in_ok-first.first c.in_ok-second.second _ _ _ _ c.in-Done.is put'
    (λ now at'. subst (λ (x : ℤ). Puts (refuses_second t.met) (pos t.to) x now o k n b c.in_ok-second.second c.put-2.new.store c.put-2.new.link) (to_z-of_z w64 c.args.more c.ranges.more)
    (subst (λ (r : Bool). Puts r (pos t.to) (to_z w64 (of_z w64 c.args.more)) now o k n b c.in_ok-second.second c.put-2.new.store c.put-2.new.link) c.refuses_second.ensures (c.in_ok-second.ensures now o k n b at'))) in
    (sym (ap said_of c.in-Refused-second.is) ∙ both.0, both.1)

pub returns-in-Busy-second : goal.returns-in-Busy-second
returns-in-Busy-second g c = λ past o k n b at.
    let t = c.args.transfer.now in
    let put = subst (λ (r : Bool). Puts r (pos c.args.transfer.now.from) (to_z w64 (of_z w64 c.args.less)) past o k n b c.in_ok-first.first c.put.new.store c.put.new.link) c.refuses_first.ensures (c.in_ok-first.ensures past o k n b at) in
    let put' = subst (λ (x : ℤ). Puts (refuses_first c.args.transfer.now.met) (pos c.args.transfer.now.from) x past o k n b c.in_ok-first.first c.put.new.store c.put.new.link) (to_z-of_z w64 c.args.less c.ranges.less) put in
    let both = second t.met n k (pos t.from) c.args.less (pos t.to) c.args.more past o b c.in_ok-first.first c.in_ok-second.second _ _ _ _ c.in-Done.is put'
    (λ now at'. subst (λ (x : ℤ). Puts (refuses_second t.met) (pos t.to) x now o k n b c.in_ok-second.second c.put-2.new.store c.put-2.new.link) (to_z-of_z w64 c.args.more c.ranges.more)
    (subst (λ (r : Bool). Puts r (pos t.to) (to_z w64 (of_z w64 c.args.more)) now o k n b c.in_ok-second.second c.put-2.new.store c.put-2.new.link) c.refuses_second.ensures (c.in_ok-second.ensures now o k n b at'))) in
    (sym (ap said_of c.in-Busy-second.is) ∙ both.0, both.1)

pub returns-in-Done-second : goal.returns-in-Done-second
returns-in-Done-second g c = λ past o k n b at.
    let t = c.args.transfer.now in
    let put = subst (λ (r : Bool). Puts r (pos c.args.transfer.now.from) (to_z w64 (of_z w64 c.args.less)) past o k n b c.in_ok-first.first c.put.new.store c.put.new.link) c.refuses_first.ensures (c.in_ok-first.ensures past o k n b at) in
    let put' = subst (λ (x : ℤ). Puts (refuses_first c.args.transfer.now.met) (pos c.args.transfer.now.from) x past o k n b c.in_ok-first.first c.put.new.store c.put.new.link) (to_z-of_z w64 c.args.less c.ranges.less) put in
    let both = second t.met n k (pos t.from) c.args.less (pos t.to) c.args.more past o b c.in_ok-first.first c.in_ok-second.second _ _ _ _ c.in-Done.is put'
    (λ now at'. subst (λ (x : ℤ). Puts (refuses_second t.met) (pos t.to) x now o k n b c.in_ok-second.second c.put-2.new.store c.put-2.new.link) (to_z-of_z w64 c.args.more c.ranges.more)
    (subst (λ (r : Bool). Puts r (pos t.to) (to_z w64 (of_z w64 c.args.more)) now o k n b c.in_ok-second.second c.put-2.new.store c.put-2.new.link) c.refuses_second.ensures (c.in_ok-second.ensures now o k n b at'))) in
    (sym (ap said_of c.in-Done-second.is) ∙ both.0, both.1)
