-- Steps that are applied one after the other.
use Rattle.std.proofs.Common.{◌≡◌, inl, inr, ℕ, suc, ◌+◌, ◌-◌, ◌<◌, ◌≤◌, max, ℤ, pos, negsuc, true, false, cond, nat_le, List, [], ◌∷◌, ◌++◌, length, take, drop, flat_map, get_or, Option, Some, None, refl, sym, ap, subst, ◌∙◌, append-nil, arith}
use Rattle.std.specs.FinMap.{get, empty, get-empty}
use Rattle.std.specs.Ordering.{int_cmp, eq_by_cmp}
use Rattle.std.proofs.lemmas.Bool.{le-leb, lt-leb, cases_lt, cases_eq, or_left, or_right, or_from, eq-eqb, ne_eqb, lt-ltb, le-ltb, cond-true, cond-false}
use Rattle.std.proofs.lemmas.List.{take_more, length-take-le, drop_all, get_or-take}
use Rattle.std.proofs.lemmas.List.Concat.{flat_map-append}
use Rattle.std.proofs.Math.Seq.{drop-cons}
use Rattle.sqlx_savepoints.specs.Rows.{Rows, seen, sees}
use Rattle.sqlx_savepoints.proofs.Laid.{get-written}
use Rattle.mem_store.specs.Store.{Store, Link}
use Rattle.sqlx_steps_rules.specs.declared.event.Write.{Write}
use Rattle.sqlx_steps_rules.specs.declared.event.Write.TheVariants.{Put, Del}
use Rattle.sqlx_steps_rules.specs.declared.reply.Reply.TheVariants as reply
use Rattle.sqlx_steps_rules.specs.Rules.{changed, all_changed, rows_of, cost, all_run, applied_of, version_reached, apply_reply}
use Rattle.sqlx_steps.specs.AtWork.{IsAtRest}
use Rattle.sqlx_steps.specs.Texts.{stepped}
use Rattle.sqlx_steps.specs.Applies.{number_of, is_version_key, TellsVersion, HoldsVersion, IsAtVersion}

-- ---- the version

-- the connection sees the row of the version
pub tells_number : (store : Store) (link : Link) (n v : ℕ) (rows : Rows) → IsAtRest store link n rows → TellsVersion rows v → number_of (sees link.own store.rows (negsuc 0)) ≡ v
tells_number store link n v rows rests tells = by_row tells
  where
    row : sees link.own store.rows (negsuc 0) ≡ get rows (negsuc 0)
    row = ap (λ (l : Link). sees l.own store.rows (negsuc 0)) rests.rests ∙ ap (λ (o : Option (Option ℤ)). seen o (get store.rows (negsuc 0))) (get-empty {X = Option ℤ} int_cmp (negsuc 0)) ∙ ap (λ (r : Rows). get r (negsuc 0)) rests.sees

    by_row : TellsVersion rows v → number_of (sees link.own store.rows (negsuc 0)) ≡ v
    by_row (inl e) = ap number_of (row ∙ e)
    by_row (inr e) = ap number_of (row ∙ e.1) ∙ sym e.0

-- ---- texts

all_run-true : (f t : ℕ) → (0 < f → t < f) → all_run f t ≡ true
all_run-true f t h = elim (cases_eq f 0) [ inl e ↦ or_left _ _ (eq-eqb f 0 e) | inr ne ↦ or_right _ _ (lt-ltb t f (h (omega (arith, ne)))) ]

all_run-false : (f t : ℕ) → 0 < f → f ≤ t → all_run f t ≡ false
all_run-false f t some le = or_from _ _ (ne_eqb f 0 (λ e. omega (arith, e, some))) (le-ltb t f le)

all_run-shift : (f t x : ℕ) → (0 < f → t < f) → all_run f (t + x) ≡ all_run (f - t) x
all_run-shift f t x h = elim (cases_lt (t + x) f) [
  | inl lt ↦ all_run-true f (t + x) (λ _. lt) ∙ sym (all_run-true (f - t) x (λ _. omega (arith, lt)))
  | inr le ↦ elim (cases_eq f 0) [
    | inl e ↦ all_run-true f (t + x) (λ some. absurd (omega (arith, e, some))) ∙ sym (all_run-true (f - t) x (λ some. absurd (omega (arith, e, some))))
    | inr ne ↦ let lt : t < f = h (omega (arith, ne)) in all_run-false f (t + x) (omega (arith, ne)) le ∙ sym (all_run-false (f - t) x (omega (arith, lt)) (omega (arith, le, lt)))
  ]
]

-- what is applied behind some texts is what is applied where the refused text comes that much earlier
applied-shift : (f t u : ℕ) (steps : List (List Write)) → (0 < f → t < f) → applied_of f (t + u) steps ≡ applied_of (f - t) u steps
unfolding applied_of
applied-shift f t u [] h = refl
applied-shift f t u (s ∷ steps) h =
    let sum : t + u + cost s ≡ t + (u + cost s) = omega arith in
    let runs : all_run f (t + u + cost s) ≡ all_run (f - t) (u + cost s) = ap (all_run f) sum ∙ all_run-shift f t (u + cost s) h in
    let rest : applied_of f (t + u + cost s) steps ≡ applied_of (f - t) (u + cost s) steps = ap (λ x. applied_of f x steps) sum ∙ applied-shift f t (u + cost s) steps h in
    ap (λ b. cond b (suc (applied_of f (t + u + cost s) steps)) 0) runs ∙ ap (λ x. cond (all_run (f - t) (u + cost s)) (suc x) 0) rest

-- a step that is applied
applied-next : (f : ℕ) (s : List Write) (steps : List (List Write)) → (0 < f → cost s < f) → applied_of f 0 (s ∷ steps) ≡ suc (applied_of (f - cost s) 0 steps)
unfolding applied_of
applied-next f s steps h =
    let zero_cost : 0 + cost s ≡ cost s + 0 = omega arith in
    cond-true (all_run f (0 + cost s)) (suc (applied_of f (0 + cost s) steps)) 0 (all_run-true f (0 + cost s) (λ some. omega (arith, h some)))
    ∙ ap suc (ap (λ x. applied_of f x steps) zero_cost ∙ applied-shift f (cost s) 0 steps h)

-- a step that is not
applied-stop : (f : ℕ) (s : List Write) (steps : List (List Write)) → 0 < f → f ≤ cost s → applied_of f 0 (s ∷ steps) ≡ 0
unfolding applied_of
applied-stop f s steps some le = cond-false (all_run f (0 + cost s)) (suc (applied_of f (0 + cost s) steps)) 0 (all_run-false f (0 + cost s) some (omega (arith, le)))

applied-none : (f : ℕ) → applied_of f 0 [] ≡ 0
unfolding applied_of
applied-none f = refl

-- ---- rows

-- rows that agree at a key agree there after the same statements
agrees : (ws : List Write) (a b : Rows) (key : ℤ) → get a key ≡ get b key → get (all_changed ws a) key ≡ get (all_changed ws b) key
unfolding all_changed
agrees [] a b key e = e
agrees (Put k v ∷ ws) a b key e = agrees ws _ _ key (get-written k (Some v) a key ∙ ap (cond (eq_by_cmp int_cmp key k) (Some v)) e ∙ sym (get-written k (Some v) b key))
agrees (Del k ∷ ws) a b key e = agrees ws _ _ key (get-written k None a key ∙ ap (cond (eq_by_cmp int_cmp key k) None) e ∙ sym (get-written k None b key))

all_changed-append : (xs ys : List Write) (rows : Rows) → all_changed (xs ++ ys) rows ≡ all_changed ys (all_changed xs rows)
unfolding all_changed
all_changed-append [] ys rows = refl
all_changed-append (x ∷ xs) ys rows = all_changed-append xs ys (changed x rows)

-- the rows of the next version
rows-next : (steps : List (List Write)) (v : ℕ) (d : List Write) → v < length steps → rows_of steps (v + 1) ≡ all_changed (get_or steps v d) (rows_of steps v)
rows-next steps v d inside =
    ap (λ (ss : List (List Write)). all_changed (flat_map (λ (s : List Write). s) ss) empty) (take_more steps v d inside)
    ∙ ap (λ (ws : List Write). all_changed ws empty) (flat_map-append (λ (s : List Write). s) (take v steps) (get_or steps v d ∷ []) ∙ ap (λ ws. flat_map (λ (s : List Write). s) (take v steps) ++ ws) (append-nil (get_or steps v d)))
    ∙ all_changed-append (flat_map (λ (s : List Write). s) (take v steps)) (get_or steps v d) empty

-- ---- one step more

-- How far the steps behind version v up to this one were applied, where text number f is refused: this is the version, and the refused text is number `left` from here.
pub record AppliedSoFar (steps : List (List Write)) (n v upto f version left : ℕ) (store : Store) (link : Link) : Type 0 where
  pub here : IsAtVersion steps n version store link
  pub above : v ≤ version
  pub below : version ≤ max v upto
  pub reaches : version_reached steps v upto f ≡ version + applied_of left 0 (drop version (take upto steps))

pub begun : (steps : List (List Write)) (n v upto f version : ℕ) (store : Store) (link : Link) → version ≡ v → IsAtVersion steps n v store link → AppliedSoFar steps n v upto f version f store link
begun steps n v upto f version store link is at = record {
  here = subst (λ k. IsAtVersion steps n k store link) (sym is) at;
  above = omega (arith, is);
  below = omega (arith, is);
  reaches = ap (λ k. k + applied_of f 0 (drop k (take upto steps))) (sym is);
}

-- the rows behind one step more
holds_next : (steps : List (List Write)) (rows : Rows) (v : ℕ) (step : List Write) → v < length steps → step ≡ get_or steps v step → HoldsVersion steps rows v → HoldsVersion steps (stepped step (pos (v + 1)) rows) (v + 1)
holds_next steps rows v step inside is h = record {
  tells = inl (get-written (negsuc 0) (Some (pos (v + 1))) (all_changed step rows) (negsuc 0));
  others = λ key not.
      get-written (negsuc 0) (Some (pos (v + 1))) (all_changed step rows) key
      ∙ cond-false (is_version_key key) (Some (pos (v + 1))) (get (all_changed step rows) key) not
      ∙ agrees step rows (rows_of steps v) key (h.others key not)
      ∙ ap (λ (ws : List Write). get (all_changed ws (rows_of steps v)) key) is
      ∙ ap (λ (r : Rows). get r key) (sym (rows-next steps v step inside));
}

-- the steps that are left begin with the next one
next_left : (steps : List (List Write)) (i upto : ℕ) (step : List Write) → i < upto → upto ≤ length steps → step ≡ get_or steps i step → drop i (take upto steps) ≡ step ∷ drop (i + 1) (take upto steps)
next_left steps i upto step lt le is =
    let long : length (take upto steps) ≡ upto = length-take-le upto steps le in
    let one : suc i ≡ i + 1 = omega arith in
    drop-cons (take upto steps) i step (omega (arith, long, lt))
    ∙ ap (λ (s : List Write). s ∷ drop (suc i) (take upto steps)) (get_or-take upto steps i step lt ∙ sym is)
    ∙ ap (λ k. step ∷ drop k (take upto steps)) one

pub more : (steps : List (List Write)) (n v upto f version left left' : ℕ) (store store' : Store) (link link' : Link) (step : List Write) → (so_far : AppliedSoFar steps n v upto f version left store link)
    → version < upto → upto ≤ length steps → step ≡ get_or steps version step
    → IsAtRest store' link' n (stepped step (pos (version + 1)) so_far.here.rows) → (0 < left → cost step < left) → left' ≡ left - cost step
    → AppliedSoFar steps n v upto f (version + 1) left' store' link'
more steps n v upto f version left left' store store' link link' step so_far lt le is rests counted next = record {
  here = record { rows = stepped step (pos (version + 1)) so_far.here.rows; rests = rests; holds = holds_next steps so_far.here.rows version step (omega (arith, lt, le)) is so_far.here.holds };
  above = omega (arith, so_far.above);
  below = omega (arith, lt);
  reaches =
      so_far.reaches
      ∙ ap (λ (ss : List (List Write)). version + applied_of left 0 ss) (next_left steps version upto step lt le is)
      ∙ ap (λ k. version + k) (applied-next left step (drop (version + 1) (take upto steps)) counted)
      ∙ one_more version (applied_of (left - cost step) 0 (drop (version + 1) (take upto steps)))
      ∙ ap (λ k. (version + 1) + applied_of k 0 (drop (version + 1) (take upto steps))) (sym next);
}
  where
    one_more : (a b : ℕ) → a + suc b ≡ (a + 1) + b
    one_more a b = omega arith

pub stops : (steps : List (List Write)) (n v upto f version left : ℕ) (store : Store) (link : Link) (step : List Write) → AppliedSoFar steps n v upto f version left store link
    → version < upto → upto ≤ length steps → step ≡ get_or steps version step → 0 < left → left ≤ cost step → version ≡ version_reached steps v upto f
stops steps n v upto f version left store link step so_far lt le is some few =
    let none : version + 0 ≡ version = omega arith in
    sym (
    so_far.reaches
    ∙ ap (λ (ss : List (List Write)). version + applied_of left 0 ss) (next_left steps version upto step lt le is)
    ∙ ap (λ k. version + k) (applied-stop left step (drop (version + 1) (take upto steps)) some few)
    ∙ none
    )

pub finished : (steps : List (List Write)) (n v upto f version left : ℕ) (store : Store) (link : Link) → AppliedSoFar steps n v upto f version left store link
    → upto ≤ version → upto ≤ length steps → version ≡ version_reached steps v upto f
finished steps n v upto f version left store link so_far past le =
    let none : version + 0 ≡ version = omega arith in
    let long : length (take upto steps) ≡ upto = length-take-le upto steps le in
    sym (
    so_far.reaches
    ∙ ap (λ (ss : List (List Write)). version + applied_of left 0 ss) (drop_all version (take upto steps) (omega (arith, long, past)))
    ∙ ap (λ k. version + k) (applied-none left)
    ∙ none
    )

-- a step that wasn't applied leaves the version
pub stays : (steps : List (List Write)) (n v upto f version left : ℕ) (store store' : Store) (link link' : Link) → (so_far : AppliedSoFar steps n v upto f version left store link)
    → IsAtRest store' link' n so_far.here.rows → IsAtVersion steps n version store' link'
stays steps n v upto f version left store store' link link' so_far rests = record { rows = so_far.here.rows; rests = rests; holds = so_far.here.holds }

-- ---- what is told

-- all steps that were asked for are applied
pub told_done : (upto V reached : ℕ) → upto ≤ V → V ≡ reached → apply_reply upto reached ≡ reply.Applied V
told_done upto V reached past is = ap (apply_reply upto) (sym is) ∙ cond-true (nat_le upto V) (reply.Applied V) (reply.Stopped V) (le-leb upto V past)

-- fewer are
pub told_stopped : (upto V reached : ℕ) → V < upto → V ≡ reached → apply_reply upto reached ≡ reply.Stopped V
told_stopped upto V reached before is = ap (apply_reply upto) (sym is) ∙ cond-false (nat_le upto V) (reply.Applied V) (reply.Stopped V) (lt-leb upto V before)
