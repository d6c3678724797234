-- What holds behind each event of a script, where each reply is the answer.
use Rattle.std.proofs.Common.{◌≡◌, List, [], ◌∷◌, ◌++◌, refl, sym, ap, ap₂, subst, ◌∙◌}
use Rattle.sqlx_script.specs.declared.pool_line.PoolLine.{PoolLine}
use Rattle.sqlx_script.specs.declared.step.Event.{Event}
use Rattle.sqlx_script.specs.declared.reply.Reply.{Reply}
use Rattle.sqlx_script_rules.specs.Answer.{answer}
use Rattle.sqlx_player.specs.Output.{pairs_after}
use Rattle.sqlx_script_rules.specs.Output.{pool_rules}
use Rattle.sqlx_script_rules.specs.Pairs.{Pairs}

-- ---- lists with one more element

-- its fronts
data Fronts {X : Type 0} (xs : List X) (x : X) (front later : List X) : Type 0 where
  whole : front ≡ xs ++ x ∷ [] → Fronts xs x front later
  before : (rest : List X) → xs ≡ front ++ rest → Fronts xs x front later

fronts : {X : Type 0} (xs : List X) (x : X) (front later : List X) → xs ++ x ∷ [] ≡ front ++ later → Fronts xs x front later
fronts xs x [] later e = before xs refl
fronts [] x (y ∷ []) later e = whole (let h : x ≡ y = cc in ap (λ (z : _). z ∷ []) (sym h))
fronts [] x (y ∷ z ∷ front) later e = absurd cc
fronts (w ∷ xs) x (y ∷ front) later e = further (fronts xs x front later cc) where
  further : Fronts xs x front later → Fronts (w ∷ xs) x (y ∷ front) later
  further (whole h) = whole (let k : w ≡ y = cc in cc)
  further (before rest h) = before rest (let k : w ≡ y = cc in cc)

-- its cuts around an element
data Cuts {X : Type 0} (xs : List X) (x : X) (front : List X) (y : X) (later : List X) : Type 0 where
  last : front ≡ xs → y ≡ x → Cuts xs x front y later
  inner : (rest : List X) → xs ≡ front ++ y ∷ rest → Cuts xs x front y later

cuts : {X : Type 0} (xs : List X) (x : X) (front : List X) (y : X) (later : List X) → xs ++ x ∷ [] ≡ front ++ y ∷ later → Cuts xs x front y later
cuts [] x [] y later e = last refl cc
cuts [] x (z ∷ []) y later e = absurd cc
cuts [] x (z ∷ w ∷ front) y later e = absurd cc
cuts (w ∷ xs) x [] y later e = inner xs cc
cuts (w ∷ xs) x (z ∷ front) y later e = further (cuts xs x front y later cc) where
  further : Cuts xs x front y later → Cuts (w ∷ xs) x (z ∷ front) y later
  further (last h i) = last (let k : w ≡ z = cc in cc) i
  further (inner rest h) = inner rest (let k : w ≡ z = cc in cc)

-- ---- events behind others

-- It holds of each front.
abbrev pub AllFronts : (Pairs → Type 0) → Pairs → Type 0
AllFronts P pairs = (front later : Pairs) → pairs ≡ front ++ later → P front

module _ (pool : PoolLine) (P : Pairs → Type 0) (push : (pairs : Pairs) (e : Event) → P pairs → P (pairs ++ (e, answer pool pairs e) ∷ [])) where
  -- it holds behind further events
  pub along : (pairs : Pairs) (events : List Event) → P pairs → P (pairs_after pool_rules pool pairs events)
  unfolding pairs_after
  along pairs [] h = h
  along pairs (e ∷ events) h = along (pairs ++ (e, answer pool pairs e) ∷ []) events (push pairs e h)

-- it holds of each front, where it holds of none and behind each further event
pub all-fronts : (pool : PoolLine) (P : Pairs → Type 0) → ((pairs : Pairs) (e : Event) → P pairs → P (pairs ++ (e, answer pool pairs e) ∷ [])) → P []
    → (events : List Event) → AllFronts P (pairs_after pool_rules pool [] events)
all-fronts pool P push none events = (along pool (λ (pairs : Pairs). P pairs × AllFronts P pairs) further [] events (none, of_none)).1
  where
    front_nil : (front later : Pairs) → [] ≡ front ++ later → [] ≡ front
    front_nil [] later e = refl
    front_nil (p ∷ front) later e = absurd cc

    of_none : AllFronts P []
    of_none front later e = subst P (front_nil front later e) none

    further : (pairs : Pairs) (e : Event) → P pairs × AllFronts P pairs → P (pairs ++ (e, answer pool pairs e) ∷ []) × AllFronts P (pairs ++ (e, answer pool pairs e) ∷ [])
    further pairs e h = (now, at_front)
      where
        now : P (pairs ++ (e, answer pool pairs e) ∷ [])
        now = push pairs e h.0

        by : (front later : Pairs) → Fronts pairs (e, answer pool pairs e) front later → P front
        by front later (whole is) = subst P (sym is) now
        by front later (before rest is) = h.1 front rest is

        at_front : AllFronts P (pairs ++ (e, answer pool pairs e) ∷ [])
        at_front front later is = by front later (fronts pairs (e, answer pool pairs e) front later is)

-- ---- replies

-- Each reply is the answer behind the pairs before it.
abbrev pub AreAnswers : PoolLine → Pairs → Type 0
AreAnswers pool pairs = (front : Pairs) (pair : Event × Reply) (later : Pairs) → pairs ≡ front ++ pair ∷ later → pair ≡ (pair.0, answer pool front pair.0)

pub are-answers : (pool : PoolLine) (events : List Event) → AreAnswers pool (pairs_after pool_rules pool [] events)
are-answers pool events = along pool (AreAnswers pool) further [] events of_none
  where
    of_none : AreAnswers pool []
    of_none [] pair later e = absurd cc
    of_none (p ∷ front) pair later e = absurd cc

    further : (pairs : Pairs) (e : Event) → AreAnswers pool pairs → AreAnswers pool (pairs ++ (e, answer pool pairs e) ∷ [])
    further pairs e h front pair later is = by (cuts pairs (e, answer pool pairs e) front pair later is)
      where
        by : Cuts pairs (e, answer pool pairs e) front pair later → pair ≡ (pair.0, answer pool front pair.0)
        by (last same it) = it ∙ ap₂ (λ (ps : Pairs) (e : Event). (e, answer pool ps e)) (sym same) (sym (ap (λ (p : Event × Reply). p.0) it))
        by (inner rest its) = h front pair rest its
