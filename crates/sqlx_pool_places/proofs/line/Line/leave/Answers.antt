use Rattle.std.proofs.Common.{arith, ◌≡◌, ℕ, ◌+◌, ◌==◌, ◌<◌, ◌&&◌, ◌∙◌, not, cond, List, Some, length, slice_get, slice_set, ap, sym, subst}
use Rattle.std.specs.Prelude.{nat_lt}
use Rattle.std.specs.Ordering.{nat_cmp}
use Rattle.std.proofs.lemmas.Option.{slice_get_within}
use Rattle.std.proofs.lemmas.List.Kept.{IsStrictlySortedBy-filter}
use Rattle.sqlx_pool_places.specs.declared.rising_places.Place.{Place}
use Rattle.sqlx_pool_places.specs.declared.rising_places.Place.TheVariants.{Here, Gap}
use Rattle.sqlx_pool_places.specs.Rising.{things_at}
use Rattle.sqlx_pool_places.proofs.Rising.{all-others, ended-at, rising-set}
use Rattle.sqlx_pool_places.specs.Line.{IsKept, line_of}
use Rattle.sqlx_pool_places.proofs.Edge.{below, left_out, below-left_out, length-left_out, sound_without}
use Rattle.sqlx_pool_places.proofs.LinePlaces.{others, has-there, has-not}
use Rattle.sqlx_pool_places.proofs.line.Line.leave.Goals as goal

-- What holds where a ticket stands at a place.
record Stands (t counted entitled edge moves : ℕ) (ps : List (Place ℕ)) (place : ℕ) : Type 0 where
  within : place < length ps
  fewer : length (left_out t (things_at ps)) + 1 ≡ length (things_at ps)
  fewer_entitled : below edge (left_out t (things_at ps)) + cond (nat_lt t edge) 1 0 ≡ entitled
  ended : things_at (slice_set ps place (Gap t)) ≡ left_out t (things_at ps)

stands : (t counted entitled edge moves : ℕ) (ps : List (Place ℕ)) (place n : ℕ) → IsKept ps counted entitled edge moves → slice_get ps place ≡ Some (Here n) → n ≡ t → Stands t counted entitled edge moves ps place
stands t counted entitled edge moves ps place n kept at is =
    let ks = things_at ps in
    let there = has-there ps place t (at ∙ ap (λ m. Some (Here m)) is) in
    record {
      within = slice_get_within ps place (Here n) at;
      fewer = subst (λ b. length (left_out t ks) + cond {A = ℕ} b 1 0 ≡ length ks) there (length-left_out t ks kept.sound.rising);
      fewer_entitled = subst (λ b. below edge (left_out t ks) + cond {A = ℕ} (b && nat_lt t edge) 1 0 ≡ below edge ks) there (below-left_out t edge ks kept.sound.rising) ∙ sym kept.sound.counted_right;
      ended = ended-at (λ m. m) t ps place n kept.rising at is ∙ others t ks;
    }

pub less-self-inside-requires : goal.less-self-inside-requires
less-self-inside-requires c =
    let i = c.self.inside in
    let there = c.in-Some.ensures.some in
    let stand = stands c.args.ticket i.waiting i.entitled i.edge i.moves i.places.items c.in-Some.place _ c.self.invariant there.0 there.1 in
    rw there.1 (omega (arith, stand.fewer_entitled))

pub overflow_sub-self : goal.overflow_sub-self
overflow_sub-self c =
    let i = c.self.inside in
    let there = c.in-Some.ensures.some in
    let stand = stands c.args.ticket i.waiting i.entitled i.edge i.moves i.places.items c.in-Some.place _ c.self.invariant there.0 there.1 in
    omega (arith, stand.fewer, c.self.invariant.counted_right)

pub index_mut-requires : goal.index_mut-requires
index_mut-requires c =
    let i = c.self.inside in
    omega (arith, slice_get_within i.places.items c.in-Some.place _ c.in-Some.ensures.some.0, i.places.ok.0)

pub drop_first_gaps-requires : goal.drop_first_gaps-requires
drop_first_gaps-requires c =
    let there = c.in-Some.ensures.some in
    rising-set (λ m. m) c.self.inside.places.items c.in-Some.place _ (Gap c.args.ticket) c.self.invariant.rising there.0 (sym there.1)

pub invariant_of-self : goal.invariant_of-self
invariant_of-self c =
    let t = c.args.ticket in
    let i = c.self.inside in
    let ks = things_at i.places.items in
    let there = c.in-Some.ensures.some in
    let stand = stands t i.waiting i.entitled i.edge i.moves i.places.items c.in-Some.place _ c.self.invariant there.0 there.1 in
    let same : things_at c.drop_first_gaps.new.places.items ≡ left_out t ks = c.drop_first_gaps.ensures.things ∙ stand.ended in
    let one = below-left_out t i.edge ks c.self.invariant.sound.rising in
    record {
      rising = c.drop_first_gaps.ensures.rising;
      counted_right = omega (arith, ap length same, stand.fewer, c.self.invariant.counted_right);
      sound = rw same (sound_without t i.entitled c.less-self-inside.result i.edge i.moves ks c.self.invariant.sound (omega (arith, one, stand.fewer_entitled, c.self.invariant.sound.counted_right, (rw there.1 at c.less-self-inside.ensures))) (IsStrictlySortedBy-filter nat_cmp (λ m. not (m == t)) ks c.self.invariant.sound.rising));
    }

pub returns-in-Some-clause-answer : goal.returns-in-Some-clause-answer
returns-in-Some-clause-answer c =
    let there = c.in-Some.ensures.some in
    rw (← c.self.view_is) (sym (has-there c.self.inside.places.items c.in-Some.place c.args.ticket (there.0 ∙ ap (λ m. Some (Here m)) there.1)))

pub returns-in-Some-clause-becomes : goal.returns-in-Some-clause-becomes
returns-in-Some-clause-becomes c =
    let i = c.self.inside in
    let there = c.in-Some.ensures.some in
    let stand = stands c.args.ticket i.waiting i.entitled i.edge i.moves i.places.items c.in-Some.place _ c.self.invariant there.0 there.1 in
    rw (← c.self.view_is) (ap (λ ks. line_of ks i.edge i.moves) (c.drop_first_gaps.ensures.things ∙ stand.ended))

pub returns-in_default-clause-answer : goal.returns-in_default-clause-answer
returns-in_default-clause-answer c =
    let none = rw c.in_default.is at c.find_place.ensures.none in
    rw (← c.self.view_is) (sym (has-not c.self.inside.places.items c.args.ticket none))

pub returns-in_default-clause-becomes : goal.returns-in_default-clause-becomes
returns-in_default-clause-becomes c =
    let i = c.self.inside in
    let none = rw c.in_default.is at c.find_place.ensures.none in
    rw (← c.self.view_is) (ap (λ ks. line_of ks i.edge i.moves) (sym (all-others (λ m. m) c.args.ticket i.places.items none) ∙ others c.args.ticket (things_at i.places.items)))
