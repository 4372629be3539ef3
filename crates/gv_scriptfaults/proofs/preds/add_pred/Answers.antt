use Rattle.std.proofs.Common.{map, refl, ap, ◌∙◌}
use Rattle.gv_scriptsyntax.specs.declared.tree.Par.{Par}
use Rattle.gv_scriptnames.specs.Names.{name_in}
use Rattle.gv_scriptnames.specs.Scopes.{sort_of}
use Rattle.gv_scriptfaults.specs.Scoped.{params_of}
use Rattle.gv_scriptfaults.proofs.Meeting.{on_ok}
use Rattle.gv_scriptfaults.proofs.Naming.{pred_added}
use Rattle.gv_scriptfaults.proofs.preds.add_pred.Goals as goal

pub returns : goal.returns
returns c =
    let text = c.args.text.now in
    let p = c.args.pred.now in
    on_ok c.keep.result
    (λ more books before is.
    pred_added text books before p c.in_ok-name.name c.params.result c.args.outside.now (record { preds = c.keep.new.self; books = c.args.outside.now.books }) c.in_ok-name.ensures
    (c.params.ensures (name_in text p.name) ∙ ap (λ ps. params_of (record { name = name_in text p.name; params = map (λ (q : Par). sort_of q.sort) ps })) c.as_slice.ensures)
    more refl is)
    c.keep.ensures
