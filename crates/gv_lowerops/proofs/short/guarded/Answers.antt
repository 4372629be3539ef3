use Rattle.std.proofs.Common.{List, ◌++◌, ◌∷◌, [], refl, ap, ◌∙◌}
use Rattle.gv_lang.specs.Plain.{body_of}
use Rattle.gv_lang.specs.Tree as lang
use Rattle.gv_lang.specs.declared.cmd.Cmd.{Cmd}
use Rattle.gv_lowering.specs.Operands as lower
use Rattle.gv_lowerops.proofs.Wholes.{guarded_tail}
use Rattle.gv_lowerops.proofs.short.guarded.Goals as goal

pub returns : goal.returns
returns g c = λ old mid block r s h set k.
    let d = g.P.Places.context c.args.places.now in
    let x = c.in_ok-x.x in
    guarded_tail d c.args.place old mid block c.args.left c.args.before.items c.args.used c.args.right (record { cmds = c.push-3.new.self; temps = c.args.right.draft.temps }) r s c.args.sign x
    c.let_command.result c.let_command-2.result c.guarded_if.result h set k c.in_ok-x.ensures c.let_command.ensures c.let_command-2.ensures
    (c.guarded_if.ensures ∙ ap (λ (l : List Cmd). lower.guarded_if c.args.sign (lang.LocalAt x) (body_of l) c.args.place) c.in_ok-push.ensures.items)
    (c.in_ok-push-3.ensures.items ∙ ap (λ (l : List Cmd). l ++ c.guarded_if.result ∷ []) c.in_ok-push-2.ensures.items) refl
