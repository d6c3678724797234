-- Texts that are counted, and rows that are changed one after the other.
use Rattle.std.proofs.Common.{◌≡◌, ◌≢◌, ◌⊎◌, inl, inr, ℕ, ◌+◌, ◌-◌, ◌<◌, ◌≤◌, List, [], ◌∷◌, ◌++◌, length, take, refl, sym, ap, subst, ◌∙◌, get_or, arith}
use Rattle.std.proofs.lemmas.List.{take_more, take_all}
use Rattle.sqlx_savepoints.specs.Rows.{Rows}
use Rattle.mem_store.specs.Store.{Store, Link}
use Rattle.sqlx_steps_rules.specs.declared.event.Write.{Write}
use Rattle.sqlx_steps_rules.specs.Rules.{changed, all_changed}
use Rattle.sqlx_steps.specs.declared.texts.Ran.{Ran}
use Rattle.sqlx_steps.specs.declared.texts.Ran.TheVariants.{All, Refused, Wanting}
use Rattle.sqlx_steps.specs.AtWork.{IsWithin}
use Rattle.sqlx_steps.specs.Texts.{Text, Texts}

-- ---- rows

pub all_changed-nil : (rows : Rows) → all_changed [] rows ≡ rows
unfolding all_changed
all_changed-nil rows = refl

pub all_changed-push : (ws : List Write) (w : Write) (rows : Rows) → all_changed (ws ++ w ∷ []) rows ≡ changed w (all_changed ws rows)
unfolding all_changed
all_changed-push [] w rows = refl
all_changed-push (v ∷ ws) w rows = all_changed-push ws w (changed v rows)

pub none_ran : (s : Store) (l : Link) (n : ℕ) (before rows : Rows) (ws : List Write) → IsWithin s l n before rows → IsWithin s l n before (all_changed (take 0 ws) rows)
none_ran s l n before rows ws w = subst (IsWithin s l n before) (sym (all_changed-nil rows)) w

pub one_ran : (s : Store) (l : Link) (n : ℕ) (before rows : Rows) (ws : List Write) (i : ℕ) (d : Write) → i < length ws → IsWithin s l n before (changed (get_or ws i d) (all_changed (take i ws) rows))
    → IsWithin s l n before (all_changed (take (i + 1) ws) rows)
one_ran s l n before rows ws i d inside h =
    subst (IsWithin s l n before) (sym (ap (λ vs. all_changed vs rows) (take_more ws i d inside) ∙ all_changed-push (take i ws) (get_or ws i d) rows)) h

pub all_ran : (s : Store) (l : Link) (n : ℕ) (before rows : Rows) (ws : List Write) (i : ℕ) → length ws ≤ i → IsWithin s l n before (all_changed (take i ws) rows) → IsWithin s l n before (all_changed ws rows)
all_ran s l n before rows ws i all h = subst (λ vs. IsWithin s l n before (all_changed vs rows)) (take_all i ws all) h

-- ---- texts after one another

not_all : (All ≡ Refused) ⊎ (All ≡ Wanting) → ⊥
not_all (inl e) = cc
not_all (inr e) = cc

-- a text that didn't run is the next one of several
pub text_stops : (Done Kept Done' Kept' : Store → Link → Type 0) (many i left left' left'' : ℕ) (ran : Ran) (s : Store) (l : Link) → (ran ≡ Refused) ⊎ (ran ≡ Wanting) → (Kept s l → Kept' s l)
    → left' ≡ left - i → (0 < left → i < left) → i < many → Text Done Kept left' ran s l → Texts Done' Kept' many left left'' ran s l
text_stops Done Kept Done' Kept' many i left left' left'' All s l not keeps is counted few h = absurd (not_all not)
text_stops Done Kept Done' Kept' many i left left' left'' Refused s l not keeps is counted few h = (keeps h.0, omega (arith, h.1, is), omega (arith, h.1, is, few))
text_stops Done Kept Done' Kept' many i left left' left'' Wanting s l not keeps is counted few h = keeps h

-- several texts didn't run, and they are the first of more
pub texts_stop : (Done Kept Done' Kept' : Store → Link → Type 0) (many more left left' left'' : ℕ) (ran : Ran) (s s' : Store) (l l' : Link) → (ran ≡ Refused) ⊎ (ran ≡ Wanting) → (Kept s l → Kept' s' l')
    → many ≤ more → Texts Done Kept many left left' ran s l → Texts Done' Kept' more left left'' ran s' l'
texts_stop Done Kept Done' Kept' many more left left' left'' All s s' l l' not keeps few h = absurd (not_all not)
texts_stop Done Kept Done' Kept' many more left left' left'' Refused s s' l l' not keeps few h = (keeps h.0, h.1, omega (arith, h.2, few))
texts_stop Done Kept Done' Kept' many more left left' left'' Wanting s s' l l' not keeps few h = keeps h

-- a text behind several that ran
pub text_behind : (Done Kept Done' Kept' : Store → Link → Type 0) (many more left left' left'' : ℕ) (ran : Ran) (s : Store) (l : Link) → (Done s l → Done' s l) → (Kept s l → Kept' s l)
    → more ≡ many + 1 → (0 < left → many < left) → left' ≡ left - many → left'' ≡ left' - 1 → Text Done Kept left' ran s l → Texts Done' Kept' more left left'' ran s l
text_behind Done Kept Done' Kept' many more left left' left'' All s l dones keeps one counted is next h = (dones h.0, λ some. omega (arith, counted some, h.1, is, one), omega (arith, is, next, one))
text_behind Done Kept Done' Kept' many more left left' left'' Refused s l dones keeps one counted is next h = (keeps h.0, omega (arith, h.1, is), omega (arith, h.1, is, one))
text_behind Done Kept Done' Kept' many more left left' left'' Wanting s l dones keeps one counted is next h = keeps h

-- several texts behind one that ran
pub texts_behind : (Done Kept : Store → Link → Type 0) (many more left left' left'' : ℕ) (ran : Ran) (s : Store) (l : Link)
    → more ≡ many + 1 → left ≢ 1 → left' ≡ left - 1 → Texts Done Kept many left' left'' ran s l → Texts Done Kept more left left'' ran s l
texts_behind Done Kept many more left left' left'' All s l one not is h = (h.0, λ some. omega (arith, h.1, not, is, one), omega (arith, h.2, is, one))
texts_behind Done Kept many more left left' left'' Refused s l one not is h = (h.0, omega (arith, h.1, is), omega (arith, h.2, is, one))
texts_behind Done Kept many more left left' left'' Wanting s l one not is h = h

-- the text that is refused is one of several
pub one_refused : (Done Kept Done' : Store → Link → Type 0) (many left left' : ℕ) (ran : Ran) (s : Store) (l : Link) → 0 < left → left ≤ many → Text Done' Kept 1 ran s l → Texts Done Kept many left left' ran s l
one_refused Done Kept Done' many left left' All s l some few h = absurd (h.1 refl)
one_refused Done Kept Done' many left left' Refused s l some few h = (h.0, some, few)
one_refused Done Kept Done' many left left' Wanting s l some few h = h

-- a text that is refused, and what was done behind it
pub refused_then : (Done Kept Done' Kept' : Store → Link → Type 0) (ran : Ran) (s s' : Store) (l l' : Link) → (Kept s l → Kept' s' l') → Text Done Kept 1 ran s l → Text Done' Kept' 1 ran s' l'
refused_then Done Kept Done' Kept' All s s' l l' keeps h = absurd (h.1 refl)
refused_then Done Kept Done' Kept' Refused s s' l l' keeps h = (keeps h.0, h.1)
refused_then Done Kept Done' Kept' Wanting s s' l l' keeps h = keeps h
