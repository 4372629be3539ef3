use Rattle.std.proofs.Common.{◌≡◌, [], ◌++◌, List, not, ap, subst, ◌∙◌, option_map}
use Rattle.gv_base.specs.declared.answers.Code.TheVariants.{Twice}
use Rattle.gv_scriptsyntax.specs.declared.tree.Par.{Par}
use Rattle.gv_scriptnames.specs.declared.outline.CaseOutline.{CaseOutline}
use Rattle.gv_scriptnames.specs.Names.{name_in, names_in, names_of, is_word}
use Rattle.gv_scriptnames.specs.Scopes.{outside, pred_named}
use Rattle.gv_scriptnames.specs.Found.{unless, again, all_twice, in_all, of_mentions}
use Rattle.gv_scriptfaults.specs.Least.{after}
use Rattle.gv_scriptfaults.specs.Scoped.{params_of}
use Rattle.gv_scriptfaults.specs.Tables.{Holds}
use Rattle.gv_scriptfaults.proofs.Meeting.{both_noted, on_ok}
use Rattle.gv_scriptfaults.proofs.preds.note_pred.Goals as goal

pub returns : goal.returns
returns c =
    let text = c.args.text.now in
    let p = c.args.pred.now in
    on_ok c.note_items.result
    (λ items spec program books before known is.
    let sc = outside text books before in
    let n = name_in text p.name in
    let params = names_in text (names_of p.params) in
    let f0 = c.args.first.now in
    let f1 = c.want.new.first in
    let f2 = c.note_again.new.first in
    let f3 = c.declare_pars.new.first in
    let f4 = c.note_vars.new.first in
    let f5 = c.note_items.new.first in
    let fs1 = unless (not (is_word p.name)) p.name.start Twice in
    let fs2 = again text spec program (pred_named sc n) p.name in
    let fs3 = all_twice text spec program [] (names_of p.params) in
    let fs4 = in_all (λ (k : CaseOutline). all_twice text spec program params (names_of k.vars)) p.cases in
    let fs5 = in_all (λ (k : CaseOutline). of_mentions text spec program sc k.items) p.cases in
    let e : c.get.result ≡ option_map params_of (pred_named sc n) = c.get.ensures ∙ is.preds c.in_ok-name.name ∙ ap (λ m. option_map params_of (pred_named sc m)) c.in_ok-name.ensures in
    let h1 : f1 ≡ after f0 fs1 = c.want.ensures ∙ ap (λ b. after f0 (unless (not b) p.name.start Twice)) c.is_word.ensures in
    let h2 : f2 ≡ after f1 fs2 = c.note_again.ensures text spec program (pred_named sc n) e in
    let h3 : f3 ≡ after f2 fs3 = c.in_ok-declare_pars.ensures.noted spec program [] [] c.new-none.ensures c.new-params.ensures ∙ ap (λ ps. after f2 (all_twice text spec program [] (names_of ps))) c.as_slice-pars.ensures in
    let h4 : f4 ≡ after f3 fs4 = c.in_ok-note_vars.ensures spec program params
    (subst (λ (ps : List Par). Holds (names_in text (names_of ps)) c.declare_pars.new.own) c.as_slice-pars.ensures (c.in_ok-declare_pars.ensures.added [] c.new-params.ensures))
    ∙ ap (λ (ks : List CaseOutline). after f3 (in_all (λ (k : CaseOutline). all_twice text spec program params (names_of k.vars)) ks)) c.as_slice-cases.ensures in
    let h5 : f5 ≡ after f4 fs5 = items spec program sc (record { known = known; outside = is; beside = c.new-none.ensures })
    ∙ ap (λ (ks : List CaseOutline). after f4 (in_all (λ (k : CaseOutline). of_mentions text spec program sc k.items) ks)) c.as_slice-cases.ensures in
    both_noted fs1 (fs2 ++ (fs3 ++ (fs4 ++ fs5))) f0 f1 f5 h1 (both_noted fs2 (fs3 ++ (fs4 ++ fs5)) f1 f2 f5 h2 (both_noted fs3 (fs4 ++ fs5) f2 f3 f5 h3 (both_noted fs4 fs5 f3 f4 f5 h4 h5))))
    c.note_items.ensures
