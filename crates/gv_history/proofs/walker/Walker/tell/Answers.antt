use Rattle.gv_history.proofs.walker.Walker.tell.Goals as goal

pub returns-in-Call-clause-step : goal.returns-in-Call-clause-step
returns-in-Call-clause-step c = rw c.in-Call.is (c.call.ensures.step c.args.spec.now)
