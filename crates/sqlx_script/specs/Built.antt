-- What a hook's answer comes to, and how many connects an event may tell of.
use Rattle.std.specs.Prelude.{ℕ, nat_le, Bool, true, false}
use Rattle.sqlx_script.specs.declared.answers.HookAnswer.{HookAnswer}
use Rattle.sqlx_script.specs.declared.answers.HookAnswer.TheVariants.{Accepts, Refuses, Fails, LeavesOpen}
use Rattle.sqlx_script.specs.declared.answers.AfterConnectAnswer.{AfterConnectAnswer}
use Rattle.sqlx_script.specs.declared.answers.AfterConnectAnswer.TheVariants.{SetUp, SetUpFails, SetUpLeavesOpen}
use Rattle.sqlx_script.specs.declared.step.Step.{Step}
use Rattle.sqlx_script.specs.declared.step.Step.TheVariants.{Ask, Poll, Cancel, Try, Give, End, Detach, Leak, Reap, Min, CloseState, Begin, Custom, Put, Del, Get, Commit, Rollback, GiveUp, Close}

-- whether the hook accepts
abbrev pub accepts : HookAnswer → Bool
accepts Accepts = true
accepts Refuses = false
accepts Fails = false
accepts LeavesOpen = false

-- whether the connection is set up
abbrev pub sets_up : AfterConnectAnswer → Bool
sets_up SetUp = true
sets_up SetUpFails = false
sets_up SetUpLeavesOpen = false

-- so many connects as a line may tell of
abbrev pub is_few : ℕ → Bool
is_few opens = nat_le opens 65536

-- whether an event tells of so many connects at most; one that tells of none does
abbrev pub has_few_opens : Step → Bool
has_few_opens (Ask client) = true
has_few_opens (Poll client ticket answers) = true
has_few_opens (Cancel client ticket) = true
has_few_opens (Try client) = true
has_few_opens (Give client connection answers opens) = is_few opens
has_few_opens (End client connection opens) = is_few opens
has_few_opens (Detach client connection opens) = is_few opens
has_few_opens (Leak client connection opens) = is_few opens
has_few_opens (Reap opens) = is_few opens
has_few_opens (Min opens) = is_few opens
has_few_opens CloseState = true
has_few_opens (Begin client connection answer) = true
has_few_opens (Custom client connection begins answer) = true
has_few_opens (Put client connection key answer value) = true
has_few_opens (Del client connection key answer) = true
has_few_opens (Get client connection key answer) = true
has_few_opens (Commit client connection answer) = true
has_few_opens (Rollback client connection answer) = true
has_few_opens (GiveUp client connection) = true
has_few_opens Close = true
