use Rattle.gv_certs.proofs.OneAnswer.{never_both, fails_once, always_one}
use Rattle.gv_certs.proofs.laws.proofs_hold_or_fail.Goals as goal

pub returns-clause-apart : goal.returns-clause-apart
returns-clause-apart c = never_both

pub returns-clause-one : goal.returns-clause-one
returns-clause-one c = fails_once

pub returns-clause-always : goal.returns-clause-always
returns-clause-always c = always_one
