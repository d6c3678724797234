-- What a queue that stands for a script's events and replies has worked, and the laws of its replies.
use Rattle.std.proofs.Common.{◌≡◌, ℕ, List, sym, subst}
use Rattle.sqlx_pool_lists.specs.Core.{Core}
use Rattle.mem_store.specs.Store.{Store, Link}
use Rattle.sqlx_player.specs.Plays.{Plays}
use Rattle.sqlx_player.specs.Causes.{Shown, TookAll}
use Rattle.sqlx_jobs_rules.specs.Jobs.{jobs_language}
use Rattle.sqlx_jobs_rules.proofs.Moments.{moments_never_fall}
use Rattle.sqlx_jobs_rules.proofs.Holders.{no_two_holders, none_finished_twice}
use Rattle.sqlx_jobs_rules.proofs.Faults.{as_if_it_had_not_come}
use Rattle.sqlx_jobs.specs.Stands.{Stands}
use Rattle.sqlx_jobs.specs.Plays.{PlaysOn}

pub worked : (core : Core Link) (store store' : Store) (lease last : ℕ) (bytes : List ℕ) (s : Shown) → store' ≡ store
    → TookAll s.left_before s.left_now bytes → Plays jobs_language (Stands core store lease last) bytes s.written_before s.written_now → PlaysOn store' s
worked core store store' lease last bytes s is took p = subst (λ (x : Store). PlaysOn x s) (sym is) (record {
  plays = record {
    bytes = bytes;
    took = took;
    script = p.script;
    is_script = p.is_script;
    written = p.written;
    one_holder = no_two_holders p.script.first p.script.lines.events (moments_never_fall bytes p.script p.is_script);
    finishes_once = none_finished_twice p.script.first p.script.lines.events;
    faults_leave_nothing = as_if_it_had_not_come p.script.first p.script.lines.events;
  };
  begun = p.stands.holds.keeps.rests.levels;
  writes = p.stands.holds.keeps.rests.puts;
})
