use Rattle.gv_judge.proofs.Explained.{few_without_picks}
use Rattle.gv_judge.proofs.laws.few_nodes.Goals as goal

pub returns : goal.returns
returns c = few_without_picks c.args.spec.now
