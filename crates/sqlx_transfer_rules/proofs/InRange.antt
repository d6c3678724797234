-- What is told of a line whose accounts are there, or are not.
use Rattle.std.proofs.Common.{◌≡◌, ℕ, true, false, cond, List, Option, Some, None, sym, ap, subst, refl, ◌∙◌}
use Rattle.sqlx_lines.specs.Rows.{with_behind}
use Rattle.sqlx_transfer_rules.specs.Grammar.{is_in_range, in_range}
use Rattle.sqlx_transfer_rules.specs.declared.event.Event.{Event}

abbrev said_or : Event → Option (Event × List ℕ) → Event
said_or other (Some pair) = pair.0
said_or other None = other

pub kept : (b behind : List ℕ) (o : Option Event) (says : Event) (d : ℕ) → Some (says, behind) ≡ with_behind b o → is_in_range d says ≡ true → Some (says, behind) ≡ with_behind b (in_range d o)
kept b behind (Some x) says d h fits =
    let same : says ≡ x = ap (said_or says) h in
    let is : is_in_range d x ≡ true = subst (λ y. is_in_range d y ≡ true) same fits in
    h ∙ ap (λ c. with_behind b (cond c (Some x) None)) (sym is)
kept b behind None says d h fits = cc

pub left_out : (b behind : List ℕ) (o : Option Event) (says : Event) (d : ℕ) → Some (says, behind) ≡ with_behind b o → is_in_range d says ≡ false → None ≡ with_behind b (in_range d o)
left_out b behind (Some x) says d h fits =
    let same : says ≡ x = ap (said_or says) h in
    let is : is_in_range d x ≡ false = subst (λ y. is_in_range d y ≡ false) same fits in
    ap (λ c. with_behind b (cond c (Some x) None)) (sym is)
left_out b behind None says d h fits = cc

pub nothing : (b : List ℕ) (o : Option Event) (d : ℕ) → None ≡ with_behind b o → None ≡ with_behind b (in_range d o)
nothing b (Some x) d h = cc
nothing b None d h = refl
