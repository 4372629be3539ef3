use Rattle.gv_specs.specs.Reading as written
use Rattle.gv_top.proofs.FormLemmas.{reads_placed}
use Rattle.gv_top.proofs.forms.SpecsForm.read.Goals as goal

pub returns : goal.returns
returns c = reads_placed written.Spells written.IsRefused c.args.text.now c.read_spec.result c.read_spec.ensures.read c.read_spec.ensures.refused
