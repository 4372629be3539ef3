use Rattle.std.proofs.Common.{◌≡◌}
use Rattle.std.specs.Prelude.{map}
use Rattle.gv_scriptnames.specs.Outlines.{of_case}
use Rattle.gv_scriptnodes.proofs.DeclActs.{pred_is}
use Rattle.gv_scriptnodes.proofs.preds.pred_at.Goals as goal

pub returns : goal.returns
returns c = λ whole is.
    let n = pred_is c.args.text.now c.args.nodes.now c.args.at c.requires.made whole is in
    let q_name : c.token_of-name.result ≡ n.name = n.at_name c.token_of-name.result c.token_of-name.ensures in
    let q_params : c.in_ok-params.params.items ≡ n.params = c.in_ok-params.ensures n.params (n.at_params c.place_of-params_at.result c.place_of-params_at.ensures) in
    let r_params = c.from_vec.ensures in
    let q_cases : c.in_ok-cases.cases.items ≡ map of_case n.cases = c.in_ok-cases.ensures n.cases (n.at_cases c.place_of-cases_at.result c.place_of-cases_at.ensures) in
    let r_cases = c.from_vec-2.ensures in
    record {
      rest = n.preds;
      last = record { name = n.name; params = n.params; cases = n.cases };
      left = n.at_preds;
      same = cc;
      made = n.made;
    }
