use Rattle.std.proofs.Common.{◌≡◌, ◌++◌, not, is_some, option_map, length, map, ap, ◌∙◌}
use Rattle.std.specs.Option.{option_copied, option_and_then}
use Rattle.std.specs.Prelude.{slice_get}
use Rattle.gv_base.specs.declared.answers.Code.TheVariants.{Undeclared, Twice}
use Rattle.gv_atomic.specs.declared.spec.Op.{Op}
use Rattle.gv_scriptnames.specs.declared.outline.OpOutline.{OpOutline}
use Rattle.gv_scriptnames.specs.Names.{name_in, names_in}
use Rattle.gv_scriptnames.specs.Scopes.{is_borne, op_named, proc_of_op}
use Rattle.gv_scriptnames.specs.Found.{unless, if_none, of_body}
use Rattle.gv_scriptfaults.specs.Least.{after}
use Rattle.gv_scriptfaults.proofs.Meeting.{both_noted, on_ok}
use Rattle.gv_scriptfaults.proofs.Lookups.{method_facts, both_there, mapped_there, copied_there, none_found}
use Rattle.gv_scriptfaults.proofs.ops.note_op.Goals as goal

pub returns-clause-noted : goal.returns-clause-noted
returns-clause-noted c =
    let text = c.args.text.now in
    let op = c.args.op.now in
    on_ok c.note_body.result
    (λ last spec program sc before known is holds.
    let t = op.name in
    let n = name_in text t in
    let e = c.in_ok-name.ensures in
    let names = names_in text (map (λ (p : OpOutline). p.name) before) in
    let proc = proc_of_op program n in
    let facts = method_facts spec program c.args.known.now c.in_ok-name.name n (option_copied c.facts_at-facts.result) known e (c.facts_at-facts.ensures ∙ ap (option_and_then (slice_get c.args.known.now.facts)) c.get-2.ensures) in
    let f0 = c.args.first.now in
    let f1 = c.want.new.first in
    let f2 = c.want-2.new.first in
    let f3 = c.want-3.new.first in
    let f4 = c.note_body.new.first in
    let fs1 = if_none text spec program (op_named spec n) t in
    let fs2 = if_none text spec program proc t in
    let fs3 = unless (not (is_borne names n)) t.start Twice in
    let fs4 = of_body text spec program sc proc op.body in
    let h1 : f1 ≡ after f0 fs1 = c.want.ensures ∙ ap (λ b. after f0 (unless b t.start Undeclared)) (c.is_some.ensures ∙ ap is_some (c.get.ensures ∙ known.ops c.in_ok-name.name ∙ ap (λ m. option_map (λ (o : Op). length o.params) (op_named spec m)) e) ∙ mapped_there (λ (o : Op). length o.params) (op_named spec n)) ∙ ap (after f0) (none_found text spec program (op_named spec n) t) in
    let h2 : f2 ≡ after f1 fs2 = c.want-2.ensures ∙ ap (λ b. after f1 (unless b t.start Undeclared)) (c.is_some-2.ensures ∙ copied_there c.facts_at-facts.result ∙ both_there proc (option_copied c.facts_at-facts.result) facts) ∙ ap (after f1) (none_found text spec program proc t) in
    let h3 : f3 ≡ after f2 fs3 = c.want-3.ensures ∙ ap (λ b. after f2 (unless (not b) t.start Twice)) (c.has.ensures ∙ holds c.in_ok-name.name ∙ ap (is_borne names) e) in
    let h4 : f4 ≡ after f3 fs4 = last spec program sc proc known is facts in
    both_noted fs1 (fs2 ++ (fs3 ++ fs4)) f0 f1 f4 h1 (both_noted fs2 (fs3 ++ fs4) f1 f2 f4 h2 (both_noted fs3 fs4 f2 f3 f4 h3 h4)))
    c.note_body.ensures
