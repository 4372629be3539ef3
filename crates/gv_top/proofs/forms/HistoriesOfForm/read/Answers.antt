use Rattle.gv_spec.specs.History.{IsEntryOf}
use Rattle.gv_replay.specs.Reading as lines
use Rattle.gv_top.proofs.FormLemmas.{reads_lines}
use Rattle.gv_top.proofs.forms.HistoriesOfForm.read.Goals as goal

pub returns : goal.returns
returns c =
    let s = c.args.self.now.spec.now in
    reads_lines (lines.TellsHistory s) (lines.IsRefusedHistory s) (IsEntryOf s) c.args.text.now c.read_history.result c.read_history.ensures.found c.read_history.ensures.of_spec c.read_history.ensures.refused
