use Rattle.std.proofs.Common.{◌≡◌, ℕ, [], ◌++◌, List, not, map, ap, sym, subst, ◌∙◌}
use Rattle.std.specs.Prelude.{slice_get}
use Rattle.std.specs.Option.{option_copied, option_and_then}
use Rattle.gv_base.specs.declared.answers.Code.TheVariants.{Twice}
use Rattle.gv_termread.specs.declared.token.SeenToken.{SeenToken}
use Rattle.gv_scriptsyntax.specs.declared.tree.Par.{Par}
use Rattle.gv_scriptnames.specs.declared.outline.ProcOutline.{ProcOutline}
use Rattle.gv_scriptnames.specs.Mentions.{Mentions}
use Rattle.gv_scriptnames.specs.Names.{name_in, names_in, names_of}
use Rattle.gv_scriptnames.specs.Scopes.{is_borne, proc_named, param_names}
use Rattle.gv_scriptnames.specs.Found.{unless, all_twice, of_results, of_own, of_mentions, of_body}
use Rattle.gv_scriptfaults.specs.Least.{after}
use Rattle.gv_scriptfaults.specs.Scoped.{Sees}
use Rattle.gv_scriptfaults.specs.Tables.{Holds}
use Rattle.gv_scriptfaults.proofs.Meeting.{both_noted, on_ok}
use Rattle.gv_scriptfaults.proofs.Naming.{behind_none}
use Rattle.gv_scriptfaults.proofs.Lookups.{named_facts}
use Rattle.gv_scriptfaults.proofs.procs.note_proc.Goals as goal

pub returns-clause-noted : goal.returns-clause-noted
returns-clause-noted c =
    let text = c.args.text.now in
    let r = c.args.proc.now in
    on_ok c.note_body.result
    (λ last spec program sc before known is nil holds.
    let t = r.name in
    let n = name_in text t in
    let e = c.in_ok-name.ensures in
    let names = names_in text (map (λ (q : ProcOutline). q.name) before) in
    let proc = proc_named program n in
    let facts = named_facts spec program c.args.known.now c.in_ok-name.name n (option_copied c.facts_at-facts.result) known e (c.facts_at-facts.ensures ∙ ap (option_and_then (slice_get c.args.known.now.facts)) c.get.ensures) in
    let sees : Sees spec program sc c.args.known.now c.args.outside.now c.new-none.result = record { known = known; outside = is; beside = subst (λ (ns : List (List ℕ)). Holds ns c.new-none.result) (sym nil) c.new-none.ensures } in
    let params = param_names proc in
    let are_params : Holds params c.params_of-params.result.now = c.params_of-params.ensures proc facts in
    let vars = names_in text (names_of r.vars) in
    let own : Holds vars c.declare_pars.new.own = subst (λ (ps : List Par). Holds (names_in text (names_of ps)) c.declare_pars.new.own) c.as_slice.ensures (c.in_ok-declare_pars.ensures.added [] c.new-own.ensures) in
    let f0 = c.args.first.now in
    let f1 = c.note_results.new.first in
    let f2 = c.want.new.first in
    let f3 = c.note_own.new.first in
    let f4 = c.declare_pars.new.first in
    let f5 = c.declare_all.new.first in
    let f6 = c.note_mentions.new.first in
    let f7 = c.note_mentions-2.new.first in
    let f8 = c.note_body.new.first in
    let fs1 = of_results text spec program t r.results proc in
    let fs2 = unless (not (is_borne names n)) t.start Twice in
    let fs3 = of_own text spec program sc r.own in
    let fs4 = all_twice text spec program params (names_of r.vars) in
    let fs5 = all_twice text spec program (params ++ vars) r.results in
    let fs6 = of_mentions text spec program sc r.pre in
    let fs7 = of_mentions text spec program sc r.post in
    let fs8 = of_body text spec program sc proc r.body in
    let h1 : f1 ≡ after f0 fs1 = c.note_results.ensures text spec program proc facts ∙ ap (λ (ts : List SeenToken). after f0 (of_results text spec program t ts proc)) c.as_slice-results.ensures in
    let h2 : f2 ≡ after f1 fs2 = c.want.ensures ∙ ap (λ b. after f1 (unless (not b) t.start Twice)) (c.has.ensures ∙ holds c.in_ok-name.name ∙ ap (is_borne names) e) in
    let h3 : f3 ≡ after f2 fs3 = c.in_ok-note_own.ensures spec program sc sees in
    let h4 : f4 ≡ after f3 fs4 = c.in_ok-declare_pars.ensures.noted spec program params [] are_params c.new-own.ensures ∙ ap (after f3) (behind_none text spec program params _ (names_of r.vars) (ap names_of c.as_slice.ensures)) in
    let h5 : f5 ≡ after f4 fs5 = c.in_ok-declare_all.ensures.noted spec program params vars are_params own ∙ ap (λ (ts : List SeenToken). after f4 (all_twice text spec program (params ++ vars) ts)) c.as_slice-results.ensures in
    let h6 : f6 ≡ after f5 fs6 = c.in_ok-note_mentions.ensures spec program sc sees ∙ ap (λ (ms : Mentions). after f5 (of_mentions text spec program sc ms)) c.as_slice-pre.ensures in
    let h7 : f7 ≡ after f6 fs7 = c.in_ok-note_mentions-2.ensures spec program sc sees ∙ ap (λ (ms : Mentions). after f6 (of_mentions text spec program sc ms)) c.as_slice-post.ensures in
    let h8 : f8 ≡ after f7 fs8 = last spec program sc proc known is facts in
    both_noted fs1 (fs2 ++ (fs3 ++ (fs4 ++ (fs5 ++ (fs6 ++ (fs7 ++ fs8)))))) f0 f1 f8 h1 (both_noted fs2 (fs3 ++ (fs4 ++ (fs5 ++ (fs6 ++ (fs7 ++ fs8))))) f1 f2 f8 h2
    (both_noted fs3 (fs4 ++ (fs5 ++ (fs6 ++ (fs7 ++ fs8)))) f2 f3 f8 h3 (both_noted fs4 (fs5 ++ (fs6 ++ (fs7 ++ fs8))) f3 f4 f8 h4 (both_noted fs5 (fs6 ++ (fs7 ++ fs8)) f4 f5 f8 h5
    (both_noted fs6 (fs7 ++ fs8) f5 f6 f8 h6 (both_noted fs7 fs8 f6 f7 f8 h7 h8)))))))
    c.note_body.ensures
