use Rattle.std.proofs.Common.{◌≡◌, ℕ, ◌<◌, List, None, ◌∙◌, sym, subst, arith}
use Rattle.std.specs.Prelude.{find, nat_lt, not, length}
use Rattle.sqlx_pool_places.specs.Rising.{things_at}
use Rattle.sqlx_pool_places.specs.Line.{TicketLine, line_of, beyond}
use Rattle.sqlx_pool_places.proofs.Edge.{below, below-passed, sound_passed, numbered_found, not_below, some_found}
use Rattle.sqlx_pool_places.proofs.line.Line.advance.Goals as goal

left_over : (ks : List ℕ) (edge moves : ℕ) (line : TicketLine) → line_of ks edge moves ≡ line → 0 < beyond line → below edge ks < length ks
left_over ks edge moves line is some = let here : 0 < beyond (line_of ks edge moves) = subst (λ l. 0 < beyond l) (sym is) some in omega arith

pub overflow_add-self : goal.overflow_add-self
overflow_add-self g c = let l = numbered_found c.self.inside.edge c.in-Some.next _ (things_at c.self.inside.places.items) c.self.invariant.sound.numbered (sym c.first_from.ensures ∙ c.in-Some.is) in omega arith

pub overflow_add-self-in-Some : goal.overflow_add-self-in-Some
overflow_add-self-in-Some g c =
    let is = sym c.first_from.ensures ∙ c.in-Some.is in
    omega (arith, numbered_found c.self.inside.edge c.in-Some.next _ (things_at c.self.inside.places.items) c.self.invariant.sound.numbered is, not_below c.self.inside.edge c.in-Some.next (things_at c.self.inside.places.items) is, c.self.invariant.sound.few_moves)

pub overflow_add-self-in-Some-2 : goal.overflow_add-self-in-Some-2
overflow_add-self-in-Some-2 g c =
    let is = sym c.first_from.ensures ∙ c.in-Some.is in
    omega (arith, numbered_found c.self.inside.edge c.in-Some.next _ (things_at c.self.inside.places.items) c.self.invariant.sound.numbered is, not_below c.self.inside.edge c.in-Some.next (things_at c.self.inside.places.items) is, c.self.invariant.sound.few_moves, c.self.invariant.sound.few_entitled)

pub invariant_of-self : goal.invariant_of-self
invariant_of-self g c = record {
  rising = c.self.invariant.rising;
  counted_right = c.self.invariant.counted_right;
  sound = sound_passed c.in-Some.next _ c.self.inside.edge c.self.inside.moves (things_at c.self.inside.places.items) c.self.invariant.sound (sym c.first_from.ensures ∙ c.in-Some.is);
}

pub returns-in-Some-clause-one : goal.returns-in-Some-clause-one
returns-in-Some-clause-one g c = rw (← c.self.view_is) (below-passed c.self.inside.edge c.in-Some.next (things_at c.self.inside.places.items) c.self.invariant.sound.rising (sym c.first_from.ensures ∙ c.in-Some.is))

nobody : {A : Type 0} (ks : List ℕ) (edge moves : ℕ) (line : TicketLine) → line_of ks edge moves ≡ line → 0 < beyond line → find (λ n. not (nat_lt n edge)) ks ≡ None → A
nobody ks edge moves line is some none = absurd (some_found edge ks (left_over ks edge moves line is some) none)

pub returns-in-None-clause-answer : goal.returns-in-None-clause-answer
returns-in-None-clause-answer g c = nobody (things_at c.self.inside.places.items) c.self.inside.edge c.self.inside.moves _ c.self.view_is c.requires (sym c.first_from.ensures ∙ c.in-None.is)

pub returns-in-None-clause-one : goal.returns-in-None-clause-one
returns-in-None-clause-one g c = nobody (things_at c.self.inside.places.items) c.self.inside.edge c.self.inside.moves _ c.self.view_is c.requires (sym c.first_from.ensures ∙ c.in-None.is)

pub returns-in-Some-clause-forward : goal.returns-in-Some-clause-forward
returns-in-Some-clause-forward g c = rw (← c.self.view_is) (let l = not_below c.self.inside.edge c.in-Some.next (things_at c.self.inside.places.items) (sym c.first_from.ensures ∙ c.in-Some.is) in omega arith)

pub returns-in-None-clause-forward : goal.returns-in-None-clause-forward
returns-in-None-clause-forward g c = nobody (things_at c.self.inside.places.items) c.self.inside.edge c.self.inside.moves _ c.self.view_is c.requires (sym c.first_from.ensures ∙ c.in-None.is)
