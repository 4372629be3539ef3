use Rattle.gv_marks.proofs.Commands.{marks_law}
use Rattle.gv_marks.proofs.laws.steps_mark_what_they_write.Goals as goal

pub returns : goal.returns
returns c = marks_law
