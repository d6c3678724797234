-- Each line of a block reads back as its event.
use Rattle.std.proofs.Common.{◌≡◌, ℕ, Bool, true, false, List, [], ◌∷◌, Some, ℤ, codes, refl}
use Rattle.sqlx_lines.specs.Numbers.{number_in, millis, nanos, name_number, key, value}
use Rattle.sqlx_script.specs.Letters.{plus_or_minus, hook_letter, connect_letter, after_connect_letter, statement_letter, statement, poll_answers, give_answers}
use Rattle.sqlx_lines.specs.Rows.{words1, words3, words4, words5}
use Rattle.sqlx_script.specs.Grammar.{poll_words, put_words, statement_of, step_of, event_words}
use Rattle.sqlx_script.specs.declared.answers.HookAnswer.TheVariants.{Accepts}
use Rattle.sqlx_script.specs.declared.answers.AfterConnectAnswer.TheVariants.{SetUp}
use Rattle.sqlx_script.specs.declared.answers.ConnectAnswer.TheVariants.{Connected}
use Rattle.sqlx_script.specs.declared.answers.StatementAnswer.TheVariants.{Runs}
use Rattle.sqlx_script.specs.declared.step.Event.{Event}
use Rattle.sqlx_script.specs.declared.step.Step.{Step}
use Rattle.sqlx_script.specs.declared.step.Step.TheVariants.{Ask, Poll, Give, Begin, Put, Get, Commit, Rollback}

-- this step at this millisecond
abbrev pub at : ℕ → Step → Event
at ms step = record { moment = record { 0 = nanos ms }; step = step }

module _ (now client : List ℕ) (i k : ℕ) (reads_now : millis now ≡ Some i) (reads_client : name_number client ≡ Some k) where
  pub ask_reads : event_words false (codes "ask" ∷ now ∷ client ∷ []) ≡ Some (at i (Ask k))
  unfolding event_words step_of words1
  ask_reads = rw reads_now (rw reads_client refl)

  pub poll_reads : (ticket : List ℕ) (t : ℕ) → name_number ticket ≡ Some t
      → event_words false (codes "poll" ∷ now ∷ client ∷ ticket ∷ codes "++++" ∷ [])
      ≡ Some (at i (Poll k t (record { ping = true; before_acquire = Accepts; connect = Connected; after_connect = SetUp; tests = 1 })))
  unfolding event_words step_of poll_words poll_answers plus_or_minus hook_letter connect_letter after_connect_letter
  poll_reads ticket t reads_ticket = rw reads_now (rw reads_client (rw reads_ticket refl))

  module _ (connection : List ℕ) (c : ℕ) (reads_connection : name_number connection ≡ Some c) where
    pub begin_reads : event_words false (codes "begin" ∷ now ∷ client ∷ connection ∷ codes "+" ∷ []) ≡ Some (at i (Begin k c Runs))
    unfolding event_words step_of statement_of words3 statement statement_letter
    begin_reads = rw reads_now (rw reads_client (rw reads_connection refl))

    pub commit_reads : event_words false (codes "commit" ∷ now ∷ client ∷ connection ∷ codes "+" ∷ []) ≡ Some (at i (Commit k c Runs))
    unfolding event_words step_of statement_of words3 statement statement_letter
    commit_reads = rw reads_now (rw reads_client (rw reads_connection refl))

    pub rollback_reads : event_words false (codes "rollback" ∷ now ∷ client ∷ connection ∷ codes "+" ∷ []) ≡ Some (at i (Rollback k c Runs))
    unfolding event_words step_of statement_of words3 statement statement_letter
    rollback_reads = rw reads_now (rw reads_client (rw reads_connection refl))

    pub give_reads : (sign : ℕ) (ping : Bool) → plus_or_minus sign ≡ Some ping
        → event_words false (codes "give" ∷ now ∷ client ∷ connection ∷ (43 ∷ sign ∷ []) ∷ codes "0" ∷ [])
        ≡ Some (at i (Give k c (record { after_release = Accepts; ping = ping }) 0))
    unfolding event_words step_of words4 give_answers hook_letter number_in
    give_reads sign ping reads_sign = rw reads_now (rw reads_client (rw reads_connection (rw reads_sign refl)))

    module _ (word : List ℕ) (n : ℕ) (reads_key : key word ≡ Some n) where
      pub get_reads : event_words false (codes "get" ∷ now ∷ client ∷ connection ∷ word ∷ codes "+" ∷ []) ≡ Some (at i (Get k c n Runs))
      unfolding event_words step_of statement_of words4 statement statement_letter
      get_reads = rw reads_now (rw reads_client (rw reads_connection (rw reads_key refl)))

      pub put_reads : (drawn : List ℕ) (v : ℤ) → value drawn ≡ Some v
          → event_words false (codes "put" ∷ now ∷ client ∷ connection ∷ word ∷ drawn ∷ codes "+" ∷ []) ≡ Some (at i (Put k c n Runs v))
      unfolding event_words step_of statement_of put_words words5 statement statement_letter
      put_reads drawn v reads_value = rw reads_now (rw reads_client (rw reads_connection (rw reads_key (rw reads_value refl))))
