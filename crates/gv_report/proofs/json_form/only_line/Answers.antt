use Rattle.std.proofs.Common.{ℕ, List, [], ◌∷◌, ◌++◌, ap, ◌∙◌}
use Rattle.gv_report.specs.Report.{lines_of}
use Rattle.gv_report.proofs.OutputLemmas.{without_newline}
use Rattle.gv_report.proofs.json_form.only_line.Goals as goal

pub returns : goal.returns
returns c =
    let line = c.in_ok-line.line in
    c.in_ok-push.ensures.items ∙ ap (λ (v : List (List ℕ)). v ++ c.in_ok-from_vec.field-0 ∷ []) c.new-made.ensures.items
    ∙ ap (λ (l : List ℕ). l ∷ []) c.in_ok-from_vec.ensures
    ∙ without_newline (lines_of c.args.report.now) line.items c.pop.new.self.items line.len c.requires c.in_ok-line.ensures line.ok.0 c.pop.ensures.rest
