use Rattle.std.proofs.Common.{sym, ap, subst, [], ◌∙◌, arith}
use Rattle.std.proofs.lemmas.List.Elements.{All-nil, All-same}
use Rattle.sqlx_pool_lists.specs.StandsFor.{StandsFor}
use Rattle.mem_store.specs.Store.{Store}
use Rattle.sqlx_play.specs.stage.StageStands.{IsSetUp, IsTried}
use Rattle.sqlx_play.specs.stage.LinksStand.{LinksStand}
use Rattle.sqlx_script_rules.proofs.Pairs.{marks_of-nil, history_of-nil, tries_of-nil}
use Rattle.sqlx_play.proofs.events.Stages.{tickets-nil, held-nil, idle-nil}
use Rattle.sqlx_play.proofs.links.LinksSame.{links-none}
use Rattle.sqlx_play.proofs.stage.new_stage.Goals as goal

pub returns-in-Ok-clause-fresh : goal.returns-in-Ok-clause-fresh
returns-in-Ok-clause-fresh c =
    let core = c.in-Ok.core.pool in
    let stands = c.in-Ok.ensures.stands in
    record {
      stands = record {
        stands = subst (StandsFor core) (sym (marks_of-nil c.args.pool)) stands;
        set_up = subst (IsSetUp c.args.pool) (sym c.in-Ok.ensures.options) c.options_of.ensures;
        places = c.in-Ok.ensures.places;
        tried = All-same (IsTried []) core.tickets [] (tickets-nil core stands) (All-nil (IsTried []));
        untried = λ t h. tries_of-nil t;
        links = subst (LinksStand core c.new-in-Ok-2.result.store c.new-in-Ok-3.result.items) (sym (history_of-nil c.args.pool))
            (subst (λ (store : Store). LinksStand core store c.new-in-Ok-3.result.items []) (sym (c.new-in-Ok-2.ensures.store ∙ c.new-in-Ok.ensures))
            (links-none core c.new-in-Ok-3.result.items (held-nil core stands) (idle-nil core stands) c.new-in-Ok-3.ensures));
      };
      runs = ap (λ (s : Store). s.runs) (c.new-in-Ok-2.ensures.store ∙ c.new-in-Ok.ensures);
      last = c.in-Ok.ensures.last;
      numbers = omega (arith, stands.ticket_number, stands.conn_number);
    }
