-- An event tells no more connects than a line may tell of.
use Rattle.std.proofs.Common.{◌≡◌, ℕ, Bool, true, false, cond, List, [], ◌∷◌, Option, Some, codes, refl, arith}
use Rattle.std.specs.Str.{bytes_eq}
use Rattle.std.proofs.lemmas.Bool.Decides.{nat_tests}
use Rattle.sqlx_lines.specs.Numbers.{number_in, name_number}
use Rattle.sqlx_script.specs.Numbers.{opens, tests}
use Rattle.sqlx_script.specs.Letters.{poll_answers, answering}
use Rattle.sqlx_lines.specs.Rows.{row, row_if, ended, words0, words1, words2, words3, words4, words5}
use Rattle.sqlx_script.specs.Built.{is_few, has_few_opens}
use Rattle.sqlx_script.specs.Grammar.{statement_of, put_words, poll_words, step_of}
use Rattle.sqlx_script.specs.declared.step.Step.{Step}
use Rattle.sqlx_script.specs.declared.step.Step.TheVariants.{Ask, Poll, Cancel, Try, Give, End, Detach, Leak, Reap, Min, CloseState, Begin, Custom, Put, Del, Get, Commit, Rollback, GiveUp, Close}
use Rattle.sqlx_lines.proofs.Rows.{bound}

-- a word that tells how many connects succeed tells few
opens_few : (w : List ℕ) (n : ℕ) → opens w ≡ Some n → is_few n ≡ true
unfolding number_in
opens_few w n h = grind (arith, nat_tests)

-- the step that is made of these words, if any is, tells few
abbrev Few : (List (List ℕ) → Option Step) → Type 0
Few f = (ws : List (List ℕ)) (step : Step) → f ws ≡ Some step → has_few_opens step ≡ true

ended_few : (made : Step) → has_few_opens made ≡ true → Few (ended made)
ended_few made few [] step h = cc
ended_few made few (w ∷ ws) step h = cc

row_few : {A : Type 0} (p : List ℕ → Option A) (f : A → List (List ℕ) → Option Step) → ((w : List ℕ) (x : A) → p w ≡ Some x → Few (f x)) → Few (row p f)
row_few p f few [] step h = cc
row_few p f few (w ∷ ws) step h = let first = bound (p w) (λ x. f x ws) step h in few w first.0 first.1 ws step first.2

row_if_few : {A : Type 0} (told : Bool) (p : List ℕ → Option A) (other : A) (f : A → List (List ℕ) → Option Step) → ((x : A) → Few (f x)) → Few (row_if told p other f)
row_if_few true p other f few = row_few p f (λ _ x _. few x)
row_if_few false p other f few = few other

-- ---- steps that tell of no connects

none0 : (made : Step) → has_few_opens made ≡ true → Few (words0 made)
unfolding words0
none0 made few = ended_few made few

none1 : {A : Type 0} (p : List ℕ → Option A) (make : A → Step) → ((x : A) → has_few_opens (make x) ≡ true) → Few (words1 p make)
unfolding words1
none1 p make few = row_few p _ (λ _ x _. ended_few (make x) (few x))

none2 : {A B : Type 0} (p : List ℕ → Option A) (q : List ℕ → Option B) (make : A → B → Step) → ((x : A) (y : B) → has_few_opens (make x y) ≡ true) → Few (words2 p q make)
unfolding words2
none2 p q make few = row_few p _ (λ _ x _. row_few q _ (λ _ y _. ended_few (make x y) (few x y)))

none3 : {A B C : Type 0} (p : List ℕ → Option A) (q : List ℕ → Option B) (r : List ℕ → Option C) (make : A → B → C → Step) → ((x : A) (y : B) (z : C) → has_few_opens (make x y z) ≡ true) → Few (words3 p q r make)
unfolding words3
none3 p q r make few = row_few p _ (λ _ x _. row_few q _ (λ _ y _. row_few r _ (λ _ z _. ended_few (make x y z) (few x y z))))

none4 : {A B C D : Type 0} (p : List ℕ → Option A) (q : List ℕ → Option B) (r : List ℕ → Option C) (s : List ℕ → Option D) (make : A → B → C → D → Step)
    → ((x : A) (y : B) (z : C) (u : D) → has_few_opens (make x y z u) ≡ true) → Few (words4 p q r s make)
unfolding words4
none4 p q r s make few =
    row_few p _ (λ _ x _. row_few q _ (λ _ y _. row_few r _ (λ _ z _. row_few s _ (λ _ u _. ended_few (make x y z u) (few x y z u)))))

none5 : {A B C D E : Type 0} (p : List ℕ → Option A) (q : List ℕ → Option B) (r : List ℕ → Option C) (s : List ℕ → Option D) (t : List ℕ → Option E) (make : A → B → C → D → E → Step)
    → ((x : A) (y : B) (z : C) (u : D) (v : E) → has_few_opens (make x y z u v) ≡ true) → Few (words5 p q r s t make)
unfolding words5
none5 p q r s t make few =
    row_few p _ (λ _ x _. row_few q _ (λ _ y _. row_few r _ (λ _ z _. row_few s _ (λ _ u _. row_few t _ (λ _ v _. ended_few (make x y z u v) (few x y z u v))))))

-- ---- steps whose last word tells of connects

last1 : (make : ℕ → Step) → ((n : ℕ) → is_few n ≡ true → has_few_opens (make n) ≡ true) → Few (words1 opens make)
unfolding words1
last1 make few = row_few opens _ (λ w n h. ended_few (make n) (few n (opens_few w n h)))

last3 : {A B : Type 0} (p : List ℕ → Option A) (q : List ℕ → Option B) (make : A → B → ℕ → Step) → ((x : A) (y : B) (n : ℕ) → is_few n ≡ true → has_few_opens (make x y n) ≡ true) → Few (words3 p q opens make)
unfolding words3
last3 p q make few = row_few p _ (λ _ x _. row_few q _ (λ _ y _. row_few opens _ (λ w n h. ended_few (make x y n) (few x y n (opens_few w n h)))))

last4 : {A B C : Type 0} (p : List ℕ → Option A) (q : List ℕ → Option B) (r : List ℕ → Option C) (make : A → B → C → ℕ → Step)
    → ((x : A) (y : B) (z : C) (n : ℕ) → is_few n ≡ true → has_few_opens (make x y z n) ≡ true) → Few (words4 p q r opens make)
unfolding words4
last4 p q r make few =
    row_few p _ (λ _ x _. row_few q _ (λ _ y _. row_few r _ (λ _ z _. row_few opens _ (λ w n h. ended_few (make x y z n) (few x y z n (opens_few w n h))))))

-- ---- lines

poll_few : (counts_tests : Bool) → Few (poll_words counts_tests)
unfolding poll_words
poll_few counts_tests =
    row_few name_number _ (λ _ client _.
    row_few name_number _ (λ _ ticket _.
    row_few poll_answers _ (λ _ answers _.
    row_if_few counts_tests tests 1 _ (λ n.
    ended_few (Poll client ticket (answering answers n)) refl))))

-- the step of a name that is this text, or else that of the others
choose : (b : Bool) (here others : Option Step) (step : Step) → cond b here others ≡ Some step → (here ≡ Some step → has_few_opens step ≡ true) → (others ≡ Some step → has_few_opens step ≡ true) → has_few_opens step ≡ true
choose true here others step h few rest = few h
choose false here others step h few rest = rest h

statement_few : (name : List ℕ) → Few (statement_of name)
unfolding statement_of put_words
statement_few name fields step h =
    choose (bytes_eq name (codes "begin")) _ _ step h (none3 _ _ _ Begin (λ _ _ _. refl) fields step) (λ h1.
    choose (bytes_eq name (codes "custom")) _ _ step h1 (none4 _ _ _ _ Custom (λ _ _ _ _. refl) fields step) (λ h2.
    choose (bytes_eq name (codes "put")) _ _ step h2 (none5 _ _ _ _ _ (λ client connection key value answer. Put client connection key answer value) (λ _ _ _ _ _. refl) fields step) (λ h3.
    choose (bytes_eq name (codes "del")) _ _ step h3 (none4 _ _ _ _ Del (λ _ _ _ _. refl) fields step) (λ h4.
    choose (bytes_eq name (codes "get")) _ _ step h4 (none4 _ _ _ _ Get (λ _ _ _ _. refl) fields step) (λ h5.
    choose (bytes_eq name (codes "commit")) _ _ step h5 (none3 _ _ _ Commit (λ _ _ _. refl) fields step) (λ h6.
    choose (bytes_eq name (codes "rollback")) _ _ step h6 (none3 _ _ _ Rollback (λ _ _ _. refl) fields step) (λ h7.
    choose (bytes_eq name (codes "giveup")) _ _ step h7 (none2 _ _ GiveUp (λ _ _. refl) fields step) (λ h8.
    cc))))))))

-- the step of a name and its fields tells few
pub step_few : (counts_tests : Bool) (name : List ℕ) → Few (step_of counts_tests name)
unfolding step_of
step_few counts_tests name fields step h =
    choose (bytes_eq name (codes "ask")) _ _ step h (none1 _ Ask (λ _. refl) fields step) (λ h1.
    choose (bytes_eq name (codes "poll")) _ _ step h1 (poll_few counts_tests fields step) (λ h2.
    choose (bytes_eq name (codes "cancel")) _ _ step h2 (none2 _ _ Cancel (λ _ _. refl) fields step) (λ h3.
    choose (bytes_eq name (codes "try")) _ _ step h3 (none1 _ Try (λ _. refl) fields step) (λ h4.
    choose (bytes_eq name (codes "give")) _ _ step h4 (last4 _ _ _ Give (λ _ _ _ _ h. h) fields step) (λ h5.
    choose (bytes_eq name (codes "end")) _ _ step h5 (last3 _ _ End (λ _ _ _ h. h) fields step) (λ h6.
    choose (bytes_eq name (codes "detach")) _ _ step h6 (last3 _ _ Detach (λ _ _ _ h. h) fields step) (λ h7.
    choose (bytes_eq name (codes "leak")) _ _ step h7 (last3 _ _ Leak (λ _ _ _ h. h) fields step) (λ h8.
    choose (bytes_eq name (codes "reap")) _ _ step h8 (last1 Reap (λ _ h. h) fields step) (λ h9.
    choose (bytes_eq name (codes "min")) _ _ step h9 (last1 Min (λ _ h. h) fields step) (λ h10.
    choose (bytes_eq name (codes "closed")) _ _ step h10 (none0 CloseState refl fields step) (λ h11.
    choose (bytes_eq name (codes "close")) _ _ step h11 (none0 Close refl fields step) (λ h12.
    statement_few name fields step h12))))))))))))
