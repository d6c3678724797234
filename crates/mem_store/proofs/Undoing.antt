-- Changes that are noted and undone, and the savepoints behind them.
use Rattle.std.proofs.Common.{◌≡◌, ℕ, suc, ◌+◌, ◌≤◌, ◌==◌, ◌||◌, nat_lt, min, ℤ, Bool, true, false, cond, is_some, IsSome, Option, Some, None, option_map, List, [], ◌∷◌, length, map, drop, refl, sym, ap, subst, ◌∙◌, arith, eqb-true}
use Rattle.std.specs.List.{list_any}
use Rattle.std.specs.Option.{unwrap_or}
use Rattle.std.proofs.lemmas.Bool.{lt-ltb, le-ltb, cond-true, cond-false}
use Rattle.std.specs.Ordering.{int_cmp, eq_by_cmp}
use Rattle.std.specs.Cmp.{int_cmp_total, eq_by_cmp_equiv}
use Rattle.std.specs.FinMap.{FinMap, get, insert, from_entries, get-insert, get-remove, same_map, int_cmp-IsAntisymmetric}
use Rattle.sqlx_savepoints.specs.Rows.{Rows, Writes}
use Rattle.sqlx_savepoints.specs.NamedSavepoints.{Entry, newest}
use Rattle.mem_store.specs.declared.saved.Saved.{Saved}
use Rattle.mem_store.specs.declared.saved.Change.{Change}
use Rattle.mem_store.specs.declared.saved.Overwrite.{Overwrite}
use Rattle.mem_store.specs.SavepointStack.{SavepointStack, saved_at, released_to, restored_to}
use Rattle.mem_store.specs.Undo.{Undo, counted_from, noted, undo_behind, undo_released, undo_restored}
use Rattle.mem_store.specs.UndoLog.{put_back, unwritten, as_of, entries_at, AreMarked, from_name, first_mark}
use Rattle.mem_store.proofs.Trees.{found, Updated, get-found, from_entries-insert, tied}

-- ---- one change

module _ {X : Type 0} where
  same_key : (values : FinMap int_cmp X) (q key : ℤ) → eq_by_cmp int_cmp q key ≡ true → get values q ≡ get values key
  same_key values q key e = ap (get values) (int_cmp-IsAntisymmetric q key (tied (int_cmp q key) e))

  -- a key is written, and then as before
  undone_at : (values : FinMap int_cmp X) (q key : ℤ) (value before : Option X) (b : Bool) → get values key ≡ before → eq_by_cmp int_cmp q key ≡ b → cond b before (cond b value (get values q)) ≡ get values q
  undone_at values q key value before true is e = sym (same_key values q key e ∙ is)
  undone_at values q key value before false is e = refl

  undone_by : (values : FinMap int_cmp X) (key : ℤ) (value : X) (before : Option X) → get values key ≡ before → put_back key before (insert values key value) ≡ values
  undone_by values key value None is = same_map int_cmp_total int_cmp-IsAntisymmetric _ _ (λ q.
      get-remove int_cmp_total (insert values key value) key q
      ∙ ap (cond (eq_by_cmp int_cmp q key) None) (get-insert int_cmp_total values key value q)
      ∙ undone_at values q key (Some value) None (eq_by_cmp int_cmp q key) is refl)
  undone_by values key value (Some old) is =
      let written = insert values key value in
      let there : is_some (get written key) ≡ true = ap is_some (get-insert int_cmp_total values key value key ∙ cond-true (eq_by_cmp int_cmp key key) (Some value) (get values key) ((eq_by_cmp_equiv int_cmp_total).refl key)) in
      cond-true (is_some (get written key)) (insert written key old) written there
      ∙ same_map int_cmp_total int_cmp-IsAntisymmetric _ _ (λ q.
      get-insert int_cmp_total written key old q
      ∙ ap (cond (eq_by_cmp int_cmp q key) (Some old)) (get-insert int_cmp_total values key value q)
      ∙ undone_at values q key (Some value) (Some old) (eq_by_cmp int_cmp q key) is refl)

  pub put_back-insert : (values : FinMap int_cmp X) (key : ℤ) (value : X) → put_back key (get values key) (insert values key value) ≡ values
  put_back-insert values key value = undone_by values key value (get values key) refl

-- ---- changes in their order

-- behind the mark nothing is undone
pub as_of-here : (mark : ℕ) (changes : List Change) (own : Writes) → length changes ≤ mark → as_of mark changes own ≡ own
as_of-here mark [] own few = refl
as_of-here mark (change ∷ older) own few = cond-true (nat_lt (length older) mark) own (as_of mark older (put_back change.key change.before own)) (lt-ltb (length older) mark few)

pub as_of-cons : (mark : ℕ) (change : Change) (older : List Change) (own : Writes) → mark ≤ length older → as_of mark (change ∷ older) own ≡ as_of mark older (put_back change.key change.before own)
as_of-cons mark change older own many = cond-false (nat_lt (length older) mark) own (as_of mark older (put_back change.key change.before own)) (le-ltb (length older) mark many)

-- a write that is noted changes no savepoint
as_of-noted : (mark : ℕ) (changes : List Change) (own : Writes) (key : ℤ) (value : Option ℤ) → mark ≤ length changes → as_of mark (record { key = key; before = get own key } ∷ changes) (insert own key value) ≡ as_of mark changes own
as_of-noted mark changes own key value many = as_of-cons mark (record { key = key; before = get own key }) changes (insert own key value) many ∙ ap (as_of mark changes) (put_back-insert own key value)

pub entries-noted : (now : ℕ) (saved : List Saved) (changes : List Change) (own : Writes) (key : ℤ) (value : Option ℤ) → AreMarked now saved → now ≤ length changes
    → entries_at (insert own key value) (record { key = key; before = get own key } ∷ changes) saved ≡ entries_at own changes saved
entries-noted now [] changes own key value marked many = refl
entries-noted now (top ∷ older) changes own key value marked many = λ i.
    record { name = top.name; own = as_of-noted top.mark changes own key value (omega (arith, marked.0, many)) i }
    ∷ entries-noted top.mark older changes own key value marked.1 (omega (arith, marked.0, many)) i

-- savepoints that are marked by then are the same behind other changes that are alike up to then
pub entries-alike : (mark : ℕ) (saved : List Saved) (changes changes' : List Change) (own own' : Writes) → AreMarked mark saved
    → ((earlier : ℕ) → earlier ≤ mark → as_of earlier changes' own' ≡ as_of earlier changes own) → entries_at own' changes' saved ≡ entries_at own changes saved
entries-alike mark [] changes changes' own own' marked alike = refl
entries-alike mark (top ∷ older) changes changes' own own' marked alike = λ i.
    record { name = top.name; own = alike top.mark marked.0 i }
    ∷ entries-alike top.mark older changes changes' own own' marked.1 (λ earlier e. alike earlier (omega (arith, e, marked.0))) i

-- ---- the newest savepoint of a name

-- the first of these savepoints, as what it keeps and all that is older
abbrev pub first_entry : Writes → List Change → List Saved → Option (Writes × List Entry)
first_entry own changes [] = None
first_entry own changes (top ∷ older) = Some (as_of top.mark changes own, entries_at own changes older)

pub newest-from_name : (name : ℕ) (own : Writes) (changes : List Change) (saved : List Saved) → newest name (entries_at own changes saved) ≡ first_entry own changes (from_name name saved)
newest-from_name name own changes [] = refl
newest-from_name name own changes (top ∷ older) =
    elim (name == top.name) as (λ (b : Bool). cond b (Some (as_of top.mark changes own, entries_at own changes older)) (newest name (entries_at own changes older)) ≡ first_entry own changes (cond b (top ∷ older) (from_name name older))) [
      | true ↦ refl
      | false ↦ newest-from_name name own changes older
    ]

pub any-newest : (name : ℕ) (own : Writes) (changes : List Change) (saved : List Saved) → list_any (λ (s : Saved). name == s.name) saved ≡ is_some (newest name (entries_at own changes saved))
any-newest name own changes [] = refl
any-newest name own changes (top ∷ older) =
    elim (name == top.name) as (λ (b : Bool). (b || list_any (λ (s : Saved). name == s.name) older) ≡ is_some (cond b (Some (as_of top.mark changes own, entries_at own changes older)) (newest name (entries_at own changes older)))) [
      | true ↦ refl
      | false ↦ any-newest name own changes older
    ]

-- marks stay in order
pub later_marked : (now later : ℕ) (saved : List Saved) → now ≤ later → AreMarked now saved → AreMarked later saved
later_marked now later [] e marked = tt
later_marked now later (top ∷ older) e marked = (omega (arith, e, marked.0), marked.1)

pub noted-marked : (change : Change) (changes changes' : List Change) (saved : List Saved) → changes' ≡ change ∷ changes → AreMarked (length changes) saved → AreMarked (length changes') saved
noted-marked change changes changes' saved is marked = subst (λ (cs : List Change). AreMarked (length cs) saved) (sym is) (later_marked (length changes) (length (change ∷ changes)) saved (omega arith) marked)

pub from_name-marked : (name now : ℕ) (saved : List Saved) → AreMarked now saved → AreMarked now (from_name name saved)
from_name-marked name now [] marked = tt
from_name-marked name now (top ∷ older) marked =
    elim (name == top.name) as (λ (b : Bool). AreMarked now (cond b (top ∷ older) (from_name name older))) [
      | true ↦ marked
      | false ↦ from_name-marked name now older (later_marked top.mark now older marked.0 marked.1)
    ]

pub rest_marked : (now : ℕ) (saved : List Saved) → AreMarked now saved → AreMarked now (drop 1 saved)
rest_marked now [] marked = tt
rest_marked now (top ∷ older) marked = later_marked top.mark now older marked.0 marked.1

-- ---- releasing and going back

-- the marks count the writes before what is noted
from_name-counted : (unnoted name : ℕ) (saved : List Saved) → from_name name (map (counted_from unnoted) saved) ≡ map (counted_from unnoted) (from_name name saved)
from_name-counted unnoted name [] = refl
from_name-counted unnoted name (top ∷ older) =
    elim (name == top.name) as (λ (b : Bool). cond b (counted_from unnoted top ∷ map (counted_from unnoted) older) (from_name name (map (counted_from unnoted) older)) ≡ map (counted_from unnoted) (cond b (top ∷ older) (from_name name older))) [
      | true ↦ refl
      | false ↦ from_name-counted unnoted name older
    ]

rest-counted : (unnoted : ℕ) (found : List Saved) → drop 1 (map (counted_from unnoted) found) ≡ map (counted_from unnoted) (drop 1 found)
rest-counted unnoted [] = refl
rest-counted unnoted (top ∷ older) = refl

first_mark-counted : (unnoted mark : ℕ) (found : List Saved) → first_mark found ≡ Some mark → first_mark (map (counted_from unnoted) found) ≡ Some (unnoted + mark)
first_mark-counted unnoted mark [] marks = absurd cc
first_mark-counted unnoted mark (top ∷ older) marks = let same : top.mark ≡ mark = cc in ap (λ (m : ℕ). Some (unnoted + m)) same

-- a stack by what stands in its fields
abbrev pub stack_in : ℕ → Writes → List Change → List Saved → SavepointStack
stack_in unnoted own changes saved = record { own = own; entries = entries_at own changes saved; undo = undo_behind unnoted (length changes) saved }

released_at : (name : ℕ) (stack : SavepointStack) (changes : List Change) (found : List Saved) → newest name stack.entries ≡ first_entry stack.own changes found → IsSome (newest name stack.entries)
    → record stack { entries = entries_at stack.own changes (drop 1 found); undo = undo_released name stack.undo } ≡ released_to name stack
released_at name stack changes [] is some = absurd (let none : false ≡ true = sym (ap is_some is) ∙ some in cc)
released_at name stack changes (top ∷ older) is some =
    sym (ap (λ (o : Option (Writes × List Entry)). unwrap_or (option_map (λ (found : Writes × List Entry). record stack { entries = found.1; undo = undo_released name stack.undo }) o) stack) is)

released-is : (name unnoted : ℕ) (own : Writes) (changes : List Change) (saved : List Saved) → IsSome (newest name (entries_at own changes saved))
    → stack_in unnoted own changes (drop 1 (from_name name saved)) ≡ released_to name (stack_in unnoted own changes saved)
released-is name unnoted own changes saved some =
    ap (λ (s : List Saved). record { own = own; entries = entries_at own changes (drop 1 (from_name name saved)); undo = record { len = unnoted + length changes; saved = s } })
    (sym (ap (drop 1) (from_name-counted unnoted name saved) ∙ rest-counted unnoted (from_name name saved)))
    ∙ released_at name (stack_in unnoted own changes saved) changes (from_name name saved) (newest-from_name name own changes saved) some

-- the first savepoint has this name
abbrev IsNamed : ℕ → List Saved → Type 0
IsNamed name [] = Unit {0}
IsNamed name (top ∷ older) = top.name ≡ name

from_name-named : (name : ℕ) (saved : List Saved) → IsNamed name (from_name name saved)
from_name-named name [] = tt
from_name-named name (top ∷ older) =
    elim (name == top.name) as (λ (b : Bool). (name == top.name) ≡ b → IsNamed name (cond b (top ∷ older) (from_name name older))) [
      | true ↦ λ e. sym (eqb-true name top.name e)
      | false ↦ λ e. from_name-named name older
    ] refl

-- the first savepoint is marked no later than now
pub mark_below : (mark now : ℕ) (found : List Saved) → first_mark found ≡ Some mark → AreMarked now found → mark ≤ now
mark_below mark now [] marks marked = absurd cc
mark_below mark now (top ∷ older) marks marked = let same : top.mark ≡ mark = cc in let below = marked.0 in omega (arith, same, below)

-- the log goes back to the mark
restored_undo : (name unnoted mark left now : ℕ) (saved : List Saved) → first_mark (from_name name saved) ≡ Some mark → AreMarked now saved → left ≡ min mark now
    → ◌≡◌ {A = Undo} (undo_behind unnoted left (from_name name saved)) (undo_restored name (undo_behind unnoted now saved))
restored_undo name unnoted mark left now saved marks marked left_is =
    let below = mark_below mark now (from_name name saved) marks (from_name-marked name now saved marked) in
    let here : left ≡ mark = omega (arith, left_is, below) in
    let found = from_name-counted unnoted name saved in
    let marks' : first_mark (from_name name (map (counted_from unnoted) saved)) ≡ Some (unnoted + mark) = ap first_mark found ∙ first_mark-counted unnoted mark (from_name name saved) marks in
    let len : unnoted + left ≡ unwrap_or (first_mark (from_name name (map (counted_from unnoted) saved))) (unnoted + now) = ap (λ (m : ℕ). unnoted + m) here ∙ ap (λ (o : Option ℕ). unwrap_or o (unnoted + now)) (sym marks') in
    λ i. record { len = len i; saved = sym found i }

restored_at : (name mark now : ℕ) (stack : SavepointStack) (own : Writes) (changes changes' : List Change) (found : List Saved) → newest name stack.entries ≡ first_entry stack.own changes found → first_mark found ≡ Some mark → IsNamed name found → AreMarked now found
    → own ≡ as_of mark changes stack.own → ((earlier : ℕ) → earlier ≤ mark → as_of earlier changes' own ≡ as_of earlier changes stack.own)
    → record { own = own; entries = entries_at own changes' found; undo = undo_restored name stack.undo } ≡ restored_to name stack
restored_at name mark now stack own changes changes' [] is marks named marked own_is alike = absurd cc
restored_at name mark now stack own changes changes' (top ∷ older) is marks named marked own_is alike =
    let same : top.mark ≡ mark = cc in
    let below : top.mark ≤ mark = omega (arith, same) in
    let undo : Undo = undo_restored name stack.undo in
    let back : SavepointStack = record { own = as_of top.mark changes stack.own; entries = record { name = name; own = as_of top.mark changes stack.own } ∷ entries_at stack.own changes older; undo = undo } in
    let parts : record { own = own; entries = entries_at own changes' (top ∷ older); undo = undo } ≡ back = λ i. record {
      own = (own_is ∙ ap (λ (m : ℕ). as_of m changes stack.own) (sym same)) i;
      entries = record { name = named i; own = alike top.mark below i } ∷ entries-alike top.mark older changes changes' stack.own own marked.1 (λ earlier e. alike earlier (omega (arith, e, below))) i;
      undo = undo;
    } in
    parts
    ∙ sym (ap (λ (o : Option (Writes × List Entry)). unwrap_or (option_map (λ (found : Writes × List Entry). record { own = found.0; entries = record { name = name; own = found.0 } ∷ found.1; undo = undo_restored name stack.undo }) o) stack) is)

restored-is : (name unnoted mark : ℕ) (own own' : Writes) (changes changes' : List Change) (saved : List Saved) → first_mark (from_name name saved) ≡ Some mark → AreMarked (length changes) saved → length changes' ≡ min mark (length changes)
    → own' ≡ as_of mark changes own → ((earlier : ℕ) → earlier ≤ mark → as_of earlier changes' own' ≡ as_of earlier changes own)
    → stack_in unnoted own' changes' (from_name name saved) ≡ restored_to name (stack_in unnoted own changes saved)
restored-is name unnoted mark own own' changes changes' saved marks marked left own_is alike =
    ap (λ (u : Undo). record { own = own'; entries = entries_at own' changes' (from_name name saved); undo = u }) (restored_undo name unnoted mark (length changes') (length changes) saved marks marked left)
    ∙ restored_at name mark (length changes) (stack_in unnoted own changes saved) own' changes changes' (from_name name saved) (newest-from_name name own changes saved) marks (from_name-named name saved)
    (from_name-marked name (length changes) saved marked) own_is alike

-- the marks are in order behind going back
pub restored-marked : (name mark now left : ℕ) (saved found : List Saved) → found ≡ from_name name saved → Some mark ≡ first_mark found → left ≡ min mark now → AreMarked now saved → AreMarked left found
restored-marked name mark now left saved found is marks left_is marked = at found marks (subst (AreMarked now) (sym is) (from_name-marked name now saved marked)) where
  at : (found : List Saved) → Some mark ≡ first_mark found → AreMarked now found → AreMarked left found
  at [] marks marked = tt
  at (top ∷ older) marks marked = let same : mark ≡ top.mark = cc in (omega (arith, same, left_is, marked.0), marked.1)

-- no savepoint has the name
pub unnamed-none : (name unnoted : ℕ) (stack : SavepointStack) (own : Writes) (changes : List Change) (saved found : List Saved) → stack_in unnoted own changes saved ≡ stack → found ≡ from_name name saved
    → None ≡ first_mark found → IsSome (newest name stack.entries) → ⊥
unnamed-none name unnoted stack own changes saved found view is marks some =
    at found marks (ap (λ (fs : List Saved). is_some (first_entry own changes fs)) is ∙ sym (ap is_some (newest-from_name name own changes saved)) ∙ ap (λ (k : SavepointStack). is_some (newest name k.entries)) view ∙ some) where
      at : (found : List Saved) → None ≡ first_mark found → is_some (first_entry own changes found) ≡ true → ⊥
      at [] marks some = cc
      at (top ∷ older) marks some = cc

-- ---- the same of what stands in the fields

pub saved-by : (name mark unnoted : ℕ) (stack : SavepointStack) (own : Writes) (changes : List Change) (saved saved' : List Saved) → stack_in unnoted own changes saved ≡ stack
    → mark ≡ length changes → saved' ≡ record { name = name; mark = mark } ∷ saved → stack_in unnoted own changes saved' ≡ saved_at name stack
saved-by name mark unnoted stack own changes saved saved' view at is =
    let here = as_of-here mark changes own (omega (arith, at)) in
    let parts : stack_in unnoted own changes (record { name = name; mark = mark } ∷ saved) ≡ saved_at name (stack_in unnoted own changes saved) = λ i. record {
      own = own;
      entries = record { name = name; own = here i } ∷ entries_at own changes saved;
      undo = record { len = unnoted + length changes; saved = record { name = name; mark = unnoted + at i } ∷ map (counted_from unnoted) saved };
    } in
    ap (λ (s : List Saved). stack_in unnoted own changes s) is ∙ parts ∙ ap (saved_at name) view

pub released-by : (name unnoted : ℕ) (stack : SavepointStack) (own : Writes) (changes : List Change) (saved found rest : List Saved) → stack_in unnoted own changes saved ≡ stack
    → found ≡ from_name name saved → rest ≡ drop 1 found → IsSome (newest name stack.entries) → stack_in unnoted own changes rest ≡ released_to name stack
released-by name unnoted stack own changes saved found rest view found_is rest_is =
    subst (λ (k : SavepointStack). IsSome (newest name k.entries) → stack_in unnoted own changes rest ≡ released_to name k) view
    (λ some. ap (λ (s : List Saved). stack_in unnoted own changes s) (rest_is ∙ ap (drop 1) found_is) ∙ released-is name unnoted own changes saved some)

pub released-marked : (name now : ℕ) (saved found rest : List Saved) → found ≡ from_name name saved → rest ≡ drop 1 found → AreMarked now saved → AreMarked now rest
released-marked name now saved found rest found_is rest_is marked = subst (AreMarked now) (sym (rest_is ∙ ap (drop 1) found_is)) (rest_marked now (from_name name saved) (from_name-marked name now saved marked))

pub restored-by : (name unnoted mark : ℕ) (stack : SavepointStack) (own own' : Writes) (changes changes' : List Change) (saved found : List Saved) → stack_in unnoted own changes saved ≡ stack
    → found ≡ from_name name saved → Some mark ≡ first_mark found → AreMarked (length changes) saved → length changes' ≡ min mark (length changes) → own' ≡ as_of mark changes own
    → ((earlier : ℕ) → earlier ≤ mark → as_of earlier changes' own' ≡ as_of earlier changes own) → stack_in unnoted own' changes' found ≡ restored_to name stack
restored-by name unnoted mark stack own own' changes changes' saved found view found_is marks marked left own_is alike =
    ap (λ (s : List Saved). stack_in unnoted own' changes' s) found_is
    ∙ restored-is name unnoted mark own own' changes changes' saved (ap first_mark (sym found_is) ∙ sym marks) marked left own_is alike
    ∙ ap (restored_to name) view

pub inserted-by : (key : ℤ) (value : Option ℤ) (before : Option (Option ℤ)) (unnoted : ℕ) (stack : SavepointStack) (own own' : Writes) (changes changes' : List Change) (saved : List Saved) → stack_in unnoted own changes saved ≡ stack
    → AreMarked (length changes) saved → before ≡ get own key → changes' ≡ record { key = key; before = before } ∷ changes → own' ≡ insert own key value
    → stack_in unnoted own' changes' saved ≡ record stack { own = insert stack.own key value; undo = noted stack.undo }
inserted-by key value before unnoted stack own own' changes changes' saved view marked before_is changes_is own_is =
    let new : List Change = record { key = key; before = get own key } ∷ changes in
    let more : unnoted + length new ≡ suc (unnoted + length changes) = omega arith in
    ap (λ (o : Writes). stack_in unnoted o changes' saved) own_is
    ∙ ap (λ (cs : List Change). stack_in unnoted (insert own key value) cs saved) (changes_is ∙ ap (λ (b : Option (Option ℤ)). record { key = key; before = b } ∷ changes) before_is)
    ∙ (λ i. record { own = insert own key value; entries = entries-noted (length changes) saved changes own key value marked (omega arith) i; undo = record { len = more i; saved = map (counted_from unnoted) saved } })
    ∙ ap (λ (k : SavepointStack). record k { own = insert k.own key value; undo = noted k.undo }) view

-- a write where there is no savepoint, for which nothing is noted
pub unnoted-by : (key : ℤ) (value : Option ℤ) (unnoted unnoted' : ℕ) (stack : SavepointStack) (own own' : Writes) (changes : List Change) (saved : List Saved) → stack_in unnoted own changes saved ≡ stack
    → length saved ≡ 0 → unnoted' ≡ suc unnoted → own' ≡ insert own key value → stack_in unnoted' own' changes saved ≡ record stack { own = insert stack.own key value; undo = noted stack.undo }
unnoted-by key value unnoted unnoted' stack own own' changes [] view none one own_is =
    let more : unnoted' + length changes ≡ suc (unnoted + length changes) = omega (arith, one) in
    (λ i. record { own = own_is i; entries = []; undo = record { len = more i; saved = [] } })
    ∙ ap (λ (k : SavepointStack). record k { own = insert k.own key value; undo = noted k.undo }) view
unnoted-by key value unnoted unnoted' stack own own' changes (top ∷ older) view none one own_is = absurd (omega (arith, none))

-- ---- the tree, where a value is put back

module _ {X : Type 0} where
  pub put_back-absent : (tree : List (ℤ × X)) (key : ℤ) (value : X) → None ≡ found tree key → from_entries {R = int_cmp} tree ≡ put_back key (Some value) (from_entries {R = int_cmp} tree)
  put_back-absent tree key value none =
      let values : FinMap int_cmp X = from_entries {R = int_cmp} tree in
      sym (cond-false (is_some (get values key)) (insert values key value) values (ap is_some (get-found tree key ∙ sym none)))

  pub put_back-present : (old new : List (ℤ × X)) (key : ℤ) (value there : X) → Some there ≡ found old key → Updated old new key (Some value) → from_entries {R = int_cmp} new ≡ put_back key (Some value) (from_entries {R = int_cmp} old)
  put_back-present old new key value there some is =
      let values : FinMap int_cmp X = from_entries {R = int_cmp} old in
      from_entries-insert old new key value is ∙ sym (cond-true (is_some (get values key)) (insert values key value) values (ap is_some (get-found old key ∙ sym some)))

-- ---- rows that are written in place

-- an overwrite that is noted
pub unwritten-noted : (older : List Overwrite) (rows : Rows) (key value : ℤ) → unwritten (record { key = key; before = get rows key } ∷ older) (insert rows key value) ≡ unwritten older rows
unwritten-noted older rows key value = ap (unwritten older) (put_back-insert rows key value)

-- the same of what stands in the fields
pub unwritten-by : (older noted : List Overwrite) (rows new : Rows) (key value : ℤ) (before : Option ℤ) → before ≡ get rows key → noted ≡ record { key = key; before = before } ∷ older → new ≡ insert rows key value
    → unwritten noted new ≡ unwritten older rows
unwritten-by older noted rows new key value before before_is noted_is new_is =
    ap (λ list. unwritten list new) (noted_is ∙ ap (λ (b : Option ℤ). record { key = key; before = b } ∷ older) before_is)
    ∙ ap (unwritten (record { key = key; before = get rows key } ∷ older)) new_is
    ∙ unwritten-noted older rows key value
