use Rattle.mem_store.proofs.session.StoreSession.start_rollback.Goals as goal

pub returns : goal.returns
returns c = rw (← c.self.view_is) (c.roll_back.ensures c.self.inside.answer)
