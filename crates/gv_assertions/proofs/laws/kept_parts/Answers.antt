use Rattle.gv_assertions.proofs.Kept.{parts_law}
use Rattle.gv_assertions.proofs.laws.kept_parts.Goals as goal

pub returns : goal.returns
returns c = parts_law
