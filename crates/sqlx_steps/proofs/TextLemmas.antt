-- What each text of a step does to the connection and the store.
use Rattle.std.proofs.Common.{◌≡◌, ◌≢◌, ℕ, zero, suc, [], true, false, Some, None, refl, sym, ap, subst, ◌∙◌}
use Rattle.sqlx_savepoints.specs.Rows.{Rows, written, laid}
use Rattle.sqlx_savepoints.proofs.Laid.{laid-empty, laid-insert}
use Rattle.mem_store.specs.declared.answer.Answer.{Answer}
use Rattle.mem_store.specs.Store.{Store, Link, Session, at_work, new_link}
use Rattle.mem_store.specs.Acts.{after_start_rollback}
use Rattle.mem_store.specs.declared.answer.Answer.TheVariants as answer
use Rattle.sqlx_play_acts.specs.ClientActs.{left_by}
use Rattle.sqlx_play_acts.specs.declared.act.Act.{Act}
use Rattle.sqlx_play_acts.specs.declared.act.Act.TheVariants as act
use Rattle.sqlx_steps_rules.specs.declared.event.Write.{Write}
use Rattle.sqlx_steps_rules.specs.declared.event.Write.TheVariants.{Put, Del}
use Rattle.sqlx_steps_rules.specs.Rules.{changed}
use Rattle.sqlx_steps.specs.declared.texts.Ran.{Ran}
use Rattle.sqlx_steps.specs.declared.texts.Ran.TheVariants.{All, Refused, Wanting}
use Rattle.sqlx_steps.specs.AtWork.{IsAtRest, IsWithin}
use Rattle.sqlx_steps.specs.Texts.{answer_at, act_by, TextGives, Text}

-- a store of these rows, of which so many links have an open level
abbrev pub store_of : Store → Rows → ℕ → Store
store_of store rows levels = record { rows = rows; open_links = levels; given = store.given; runs = store.runs }

-- a link in a level
abbrev pub link_of : Link → ℕ → Link
link_of link n = record { number = n; depth = 1; own = link.own; entries = []; undo = link.undo }

true_false : true ≡ false → ⊥
true_false e = cc

rest_is : (store : Store) (link : Link) (n : ℕ) (rows : Rows) → IsAtRest store link n rows → store ≡ store_of store rows 0
rest_is store link n rows h = λ i. record { rows = h.sees i; open_links = h.alone i; given = store.given; runs = store.runs }

within_is : (store : Store) (link : Link) (n : ℕ) (before rows : Rows) → IsWithin store link n before rows → store ≡ store_of store before 1
within_is store link n before rows h = λ i. record { rows = h.below i; open_links = h.alone i; given = store.given; runs = store.runs }

link_is : (store : Store) (link : Link) (n : ℕ) (before rows : Rows) → IsWithin store link n before rows → link ≡ link_of link n
link_is store link n before rows h = λ i. record { number = h.number i; depth = h.depth i; own = link.own; entries = h.entries i; undo = link.undo }

-- the same of what a text gives
rest_gives : (store : Store) (link : Link) (n : ℕ) (rows : Rows) (a : Act) (ran : Ran) (met : Answer) (after : Session) → IsAtRest store link n rows
    → TextGives a ran (at_work store link met) after → TextGives a ran (at_work (store_of store rows 0) (new_link n) met) after
rest_gives store link n rows a ran met after h gives =
    subst (λ (l : Link). TextGives a ran (at_work (store_of store rows 0) l met) after) h.rests
    (subst (λ (s : Store). TextGives a ran (at_work s link met) after) (rest_is store link n rows h) gives)

within_gives : (store : Store) (link : Link) (n : ℕ) (before rows : Rows) (a : Act) (ran : Ran) (met : Answer) (after : Session) → IsWithin store link n before rows
    → TextGives a ran (at_work store link met) after → TextGives a ran (at_work (store_of store before 1) (link_of link n) met) after
within_gives store link n before rows a ran met after h gives =
    subst (λ (l : Link). TextGives a ran (at_work (store_of store before 1) l met) after) (link_is store link n before rows h)
    (subst (λ (s : Store). TextGives a ran (at_work s link met) after) (within_is store link n before rows h) gives)

one_not : (k : ℕ) → suc (suc k) ≢ 1
one_not k e = cc

zero_not : ◌≢◌ {A = ℕ} 0 1
zero_not e = cc

-- ---- what stays

kept_rest : (store : Store) (n : ℕ) (rows : Rows) (s : Store) (l : Link) (met met' : Answer) → at_work s l met ≡ at_work (store_of store rows 0) (new_link n) met' → IsAtRest s l n rows
kept_rest store n rows s l met met' e = record {
  sees = ap (λ (x : Session). x.store.rows) e;
  alone = ap (λ (x : Session). x.store.open_links) e;
  rests = ap (λ (x : Session). x.link) e;
}

kept_within : (store : Store) (link : Link) (n : ℕ) (before rows : Rows) (s : Store) (l : Link) (met met' : Answer) → laid link.own before ≡ rows
    → at_work s l met ≡ at_work (store_of store before 1) (link_of link n) met' → IsWithin s l n before rows
kept_within store link n before rows s l met met' sees e = record {
  below = ap (λ (x : Session). x.store.rows) e;
  alone = ap (λ (x : Session). x.store.open_links) e;
  number = ap (λ (x : Session). x.link.number) e;
  depth = ap (λ (x : Session). x.link.depth) e;
  entries = ap (λ (x : Session). x.link.entries) e;
  sees = ap (λ (x : Session). laid x.link.own before) e ∙ sees;
}

-- ---- begin

begin_done : (store : Store) (n : ℕ) (rows : Rows) (s : Store) (l : Link) (met : Answer) → at_work s l met ≡ left_by act.Begin (at_work (store_of store rows 0) (new_link n) answer.Accept) → IsWithin s l n rows rows
begin_done store n rows s l met e = record {
  below = ap (λ (x : Session). x.store.rows) e;
  alone = ap (λ (x : Session). x.store.open_links) e;
  number = ap (λ (x : Session). x.link.number) e;
  depth = ap (λ (x : Session). x.link.depth) e;
  entries = ap (λ (x : Session). x.link.entries) e;
  sees = ap (λ (x : Session). laid x.link.own rows) e ∙ laid-empty rows;
}

begin_at_rest : (store : Store) (n : ℕ) (rows : Rows) (left : ℕ) (ran : Ran) (s : Store) (l : Link) (met : Answer) → TextGives act.Begin ran (at_work (store_of store rows 0) (new_link n) (answer_at left)) (at_work s l met)
    → Text (λ s l. IsWithin s l n rows rows) (λ s l. IsAtRest s l n rows) left ran s l
begin_at_rest store n rows left Wanting s l met h = kept_rest store n rows s l met (answer_at left) h
begin_at_rest store n rows zero All s l met h = (begin_done store n rows s l met h.1, zero_not)
begin_at_rest store n rows (suc zero) All s l met h = absurd (true_false h.0)
begin_at_rest store n rows (suc (suc k)) All s l met h = (begin_done store n rows s l met h.1, one_not k)
begin_at_rest store n rows zero Refused s l met h = absurd (true_false (sym h.0))
begin_at_rest store n rows (suc zero) Refused s l met h = (kept_rest store n rows s l met answer.Accept h.1, refl)
begin_at_rest store n rows (suc (suc k)) Refused s l met h = absurd (true_false (sym h.0))

-- the text that begins the level of a step
pub begin_text : (store : Store) (link : Link) (n : ℕ) (rows : Rows) (left : ℕ) (ran : Ran) (s : Store) (l : Link) (met : Answer) → IsAtRest store link n rows → TextGives act.Begin ran (at_work store link (answer_at left)) (at_work s l met)
    → Text (λ s l. IsWithin s l n rows rows) (λ s l. IsAtRest s l n rows) left ran s l
begin_text store link n rows left ran s l met rests gives =
    begin_at_rest store n rows left ran s l met (rest_gives store link n rows act.Begin ran (answer_at left) (at_work s l met) rests gives)

-- ---- statements

write_done : (store : Store) (link : Link) (n : ℕ) (before rows : Rows) (w : Write) (s : Store) (l : Link) (met : Answer) → laid link.own before ≡ rows
    → at_work s l met ≡ left_by (act_by w) (at_work (store_of store before 1) (link_of link n) answer.Accept) → IsWithin s l n before (changed w rows)
write_done store link n before rows (Put key value) s l met sees e = record {
  below = ap (λ (x : Session). x.store.rows) e;
  alone = ap (λ (x : Session). x.store.open_links) e;
  number = ap (λ (x : Session). x.link.number) e;
  depth = ap (λ (x : Session). x.link.depth) e;
  entries = ap (λ (x : Session). x.link.entries) e;
  sees = ap (λ (x : Session). laid x.link.own before) e ∙ laid-insert link.own key (Some value) before ∙ ap (written key (Some value)) sees;
}
write_done store link n before rows (Del key) s l met sees e = record {
  below = ap (λ (x : Session). x.store.rows) e;
  alone = ap (λ (x : Session). x.store.open_links) e;
  number = ap (λ (x : Session). x.link.number) e;
  depth = ap (λ (x : Session). x.link.depth) e;
  entries = ap (λ (x : Session). x.link.entries) e;
  sees = ap (λ (x : Session). laid x.link.own before) e ∙ laid-insert link.own key None before ∙ ap (written key None) sees;
}

write_within : (store : Store) (link : Link) (n : ℕ) (before rows : Rows) (w : Write) (left : ℕ) (ran : Ran) (s : Store) (l : Link) (met : Answer) → laid link.own before ≡ rows
    → TextGives (act_by w) ran (at_work (store_of store before 1) (link_of link n) (answer_at left)) (at_work s l met)
    → Text (λ s l. IsWithin s l n before (changed w rows)) (λ s l. IsWithin s l n before rows) left ran s l
write_within store link n before rows (Put key value) left Wanting s l met sees h = kept_within store link n before rows s l met (answer_at left) sees h
write_within store link n before rows (Put key value) zero All s l met sees h = (write_done store link n before rows (Put key value) s l met sees h.1, zero_not)
write_within store link n before rows (Put key value) (suc zero) All s l met sees h = absurd (true_false h.0)
write_within store link n before rows (Put key value) (suc (suc k)) All s l met sees h = (write_done store link n before rows (Put key value) s l met sees h.1, one_not k)
write_within store link n before rows (Put key value) zero Refused s l met sees h = absurd (true_false (sym h.0))
write_within store link n before rows (Put key value) (suc zero) Refused s l met sees h = (kept_within store link n before rows s l met answer.Accept sees h.1, refl)
write_within store link n before rows (Put key value) (suc (suc k)) Refused s l met sees h = absurd (true_false (sym h.0))
write_within store link n before rows (Del key) left Wanting s l met sees h = kept_within store link n before rows s l met (answer_at left) sees h
write_within store link n before rows (Del key) zero All s l met sees h = (write_done store link n before rows (Del key) s l met sees h.1, zero_not)
write_within store link n before rows (Del key) (suc zero) All s l met sees h = absurd (true_false h.0)
write_within store link n before rows (Del key) (suc (suc k)) All s l met sees h = (write_done store link n before rows (Del key) s l met sees h.1, one_not k)
write_within store link n before rows (Del key) zero Refused s l met sees h = absurd (true_false (sym h.0))
write_within store link n before rows (Del key) (suc zero) Refused s l met sees h = (kept_within store link n before rows s l met answer.Accept sees h.1, refl)
write_within store link n before rows (Del key) (suc (suc k)) Refused s l met sees h = absurd (true_false (sym h.0))

-- the text of a statement
pub write_text : (store : Store) (link : Link) (n : ℕ) (before rows : Rows) (w : Write) (left : ℕ) (ran : Ran) (s : Store) (l : Link) (met : Answer) → IsWithin store link n before rows
    → TextGives (act_by w) ran (at_work store link (answer_at left)) (at_work s l met)
    → Text (λ s l. IsWithin s l n before (changed w rows)) (λ s l. IsWithin s l n before rows) left ran s l
write_text store link n before rows w left ran s l met within gives =
    write_within store link n before rows w left ran s l met within.sees (within_gives store link n before rows (act_by w) ran (answer_at left) (at_work s l met) within gives)

-- ---- commit

commit_done : (store : Store) (link : Link) (n : ℕ) (before rows : Rows) (s : Store) (l : Link) (met : Answer) → laid link.own before ≡ rows
    → at_work s l met ≡ left_by act.Commit (at_work (store_of store before 1) (link_of link n) answer.Accept) → IsAtRest s l n rows
commit_done store link n before rows s l met sees e = record {
  sees = ap (λ (x : Session). x.store.rows) e ∙ sees;
  alone = ap (λ (x : Session). x.store.open_links) e;
  rests = ap (λ (x : Session). x.link) e;
}

left_level : (store : Store) (link : Link) (n : ℕ) (before : Rows) (s : Store) (l : Link) (met met' : Answer)
    → at_work s l met ≡ after_start_rollback (at_work (store_of store before 1) (link_of link n) met') → IsAtRest s l n before
left_level store link n before s l met met' e = record {
  sees = ap (λ (x : Session). x.store.rows) e;
  alone = ap (λ (x : Session). x.store.open_links) e;
  rests = ap (λ (x : Session). x.link) e;
}

commit_within : (store : Store) (link : Link) (n : ℕ) (before rows : Rows) (left : ℕ) (ran : Ran) (s : Store) (l : Link) (met : Answer) → laid link.own before ≡ rows
    → TextGives act.Commit ran (at_work (store_of store before 1) (link_of link n) (answer_at left)) (at_work s l met)
    → Text (λ s l. IsAtRest s l n rows) (λ s l. IsAtRest s l n before) left ran s l
commit_within store link n before rows left Wanting s l met sees h = left_level store link n before s l met (answer_at left) h
commit_within store link n before rows zero All s l met sees h = (commit_done store link n before rows s l met sees h.1, zero_not)
commit_within store link n before rows (suc zero) All s l met sees h = absurd (true_false h.0)
commit_within store link n before rows (suc (suc k)) All s l met sees h = (commit_done store link n before rows s l met sees h.1, one_not k)
commit_within store link n before rows zero Refused s l met sees h = absurd (true_false (sym h.0))
commit_within store link n before rows (suc zero) Refused s l met sees h = (left_level store link n before s l met answer.Accept h.1, refl)
commit_within store link n before rows (suc (suc k)) Refused s l met sees h = absurd (true_false (sym h.0))

-- the text that commits the level of a step
pub commit_text : (store : Store) (link : Link) (n : ℕ) (before rows : Rows) (left : ℕ) (ran : Ran) (s : Store) (l : Link) (met : Answer) → IsWithin store link n before rows
    → TextGives act.Commit ran (at_work store link (answer_at left)) (at_work s l met)
    → Text (λ s l. IsAtRest s l n rows) (λ s l. IsAtRest s l n before) left ran s l
commit_text store link n before rows left ran s l met within gives =
    commit_within store link n before rows left ran s l met within.sees (within_gives store link n before rows act.Commit ran (answer_at left) (at_work s l met) within gives)

-- a level that is given up
pub given_up : (store : Store) (link : Link) (n : ℕ) (before rows : Rows) (s : Store) (l : Link) (met met' : Answer) → IsWithin store link n before rows
    → at_work s l met ≡ after_start_rollback (at_work store link met') → IsAtRest s l n before
given_up store link n before rows s l met met' within e =
    left_level store link n before s l met met'
    (subst (λ (k : Link). at_work s l met ≡ after_start_rollback (at_work (store_of store before 1) k met')) (link_is store link n before rows within)
    (subst (λ (t : Store). at_work s l met ≡ after_start_rollback (at_work t link met')) (within_is store link n before rows within) e))
