use Rattle.gv_top.specs.Files.{outside, form_of}
use Rattle.gv_top.proofs.FilesLemmas.{opened}
use Rattle.gv_top.proofs.files.read_file.Goals as goal

pub returns-clause-value : goal.returns-clause-value
returns-clause-value g c =
    opened (λ v. v.items) (outside (g.F.Files.held c.args.files.now)) (form_of g.R.Form.spells g.R.Form.refuses c.args.form.now) c.args.name.now c.in_ok-text.text c.as_slice.result.now
    c.args.format.now c.fetch.new.format c.read_text.result c.in_ok-text.ensures.text c.as_slice.ensures.value c.read_text.ensures
