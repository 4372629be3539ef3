use Rattle.gv_top.proofs.commands.perform.Goals as goal

pub returns-in-Check-clause-comes : goal.returns-in-Check-clause-comes
returns-in-Check-clause-comes g c = rw c.in-Check.is (c.check.result, c.check.ensures.outcome, c.told.ensures)

pub returns-in-Explain-clause-comes : goal.returns-in-Explain-clause-comes
returns-in-Explain-clause-comes g c = rw c.in-Explain.is (c.explain.result, c.explain.ensures.outcome, c.told-in-Explain.ensures)

pub returns-in-Replay-clause-comes : goal.returns-in-Replay-clause-comes
returns-in-Replay-clause-comes g c = rw c.in-Replay.is (c.replay.result, c.replay.ensures.outcome, c.told-in-Replay.ensures)

pub judge-requires : goal.judge-requires
judge-requires g c = (rw c.in-Judge.is at c.requires).some

pub returns-in-Judge-clause-comes : goal.returns-in-Judge-clause-comes
returns-in-Judge-clause-comes g c = rw c.in-Judge.is (c.judge.result, c.judge.ensures.outcome, c.told-in-Judge.ensures)
