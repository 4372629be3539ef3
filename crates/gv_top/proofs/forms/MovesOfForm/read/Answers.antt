use Rattle.gv_spec.specs.History.{IsMoveOf}
use Rattle.gv_replay.specs.Reading as lines
use Rattle.gv_top.proofs.FormLemmas.{reads_lines}
use Rattle.gv_top.proofs.forms.MovesOfForm.read.Goals as goal

pub returns : goal.returns
returns c =
    let s = c.args.self.now.spec.now in
    reads_lines (lines.TellsMoves s) (lines.AreRefusedMoves s) (IsMoveOf s) c.args.text.now c.read_moves.result c.read_moves.ensures.found c.read_moves.ensures.of_spec c.read_moves.ensures.refused
