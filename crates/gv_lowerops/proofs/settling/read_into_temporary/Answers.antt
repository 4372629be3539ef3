use Rattle.std.proofs.Common.{◌≡◌, ℕ, List, ◌++◌, ◌∷◌, [], length, ap, ◌∙◌, arith}
use Rattle.std.proofs.lemmas.Grind.{common_steps}
use Rattle.gv_lang.specs.declared.program.LocalKind.{LocalKind}
use Rattle.gv_lowering.specs.Operands as lower
use Rattle.gv_lowerops.proofs.Wholes.{reads_settled}
use Rattle.gv_lowerops.proofs.settling.read_into_temporary.Goals as goal

pub returns : goal.returns
returns g c = λ old t h.
    let d = g.P.Places.context c.args.places.now in
    let used : c.len.result ≡ length c.args.draft.temps.items = grind (arith, common_steps, c.len.ensures) in
    reads_settled d c.args.place old c.args.draft c.in_ok-draft.draft c.args.kind c.args.reading t c.in_ok-x.x c.into_command.result h
    (c.in_ok-x.ensures ∙ ap (λ (n : ℕ). lower.temporary d n) used) c.into_command.ensures (c.in_ok-draft.ensures.cmds ∙ c.in_ok-with_command.ensures.cmds)
    (c.in_ok-draft.ensures.temps ∙ ap (λ (l : List LocalKind). l ++ c.args.kind ∷ []) c.in_ok-with_command.ensures.temps)
