use Rattle.std.proofs.Common.{Some, get_or, ap, ◌∙◌, arith}
use Rattle.gv_base.specs.declared.answers.Code.TheVariants.{Undeclared}
use Rattle.gv_scriptnames.specs.Found.{unless}
use Rattle.gv_scriptfaults.specs.Least.{after}
use Rattle.gv_scriptfaults.proofs.Declaring.{none_token}
use Rattle.gv_scriptfaults.proofs.Cutting.{local_more, locals_through, no_locals}
use Rattle.gv_scriptfaults.proofs.bodies.note_known_locals.Goals as goal

pub loop-t-init : goal.loop-t-init
loop-t-init c = no_locals c.args.text.now c.args.facts.now c.args.first.now

pub loop-t-preserved : goal.loop-t-preserved
loop-t-preserved c =
    local_more c.args.text.now c.args.facts.now c.args.ts.now c.loop-t.t-index _ c.in_ok-name.name c.args.first.now c.loop-t.first c.want.new.first (omega arith) c.in_ok-name.ensures c.loop-t.invariant
    (c.want.ensures ∙ ap (λ h. after c.loop-t.first (unless h (get_or c.args.ts.now c.loop-t.t-index none_token).start Undeclared)) c.has.ensures)

pub returns : goal.returns
returns c = locals_through c.args.text.now (Some c.args.facts.now) c.args.ts.now c.loop-t.t-index c.args.first.now c.loop-t.first (omega arith) c.loop-t.invariant
