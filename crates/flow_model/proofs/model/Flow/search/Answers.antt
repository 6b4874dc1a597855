use Rattle.flow_model.proofs.model.Flow.search.Goals as goal

-- the locals of the model are in order
pub returns : goal.returns
returns c = rw (← c.self.view_is) c.search.ensures
