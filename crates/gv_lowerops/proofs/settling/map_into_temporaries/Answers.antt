use Rattle.std.proofs.Common.{◌≡◌, ℕ, List, ◌++◌, ◌∷◌, [], length, ap, ◌∙◌, arith}
use Rattle.std.proofs.lemmas.Grind.{common_steps}
use Rattle.gv_lang.proofs.Trees.{tree_map_get}
use Rattle.gv_lang.specs.declared.cmd.Cmd.{Cmd}
use Rattle.gv_lang.specs.declared.cmd.Cmd.TheVariants as cmd
use Rattle.gv_lowering.specs.Operands as lower
use Rattle.gv_lowerops.proofs.Wholes.{map_settled}
use Rattle.gv_lowerops.proofs.settling.map_into_temporaries.Goals as goal

pub returns : goal.returns
returns g c = λ old t h.
    let d = g.P.Places.context c.args.places.now in
    let x = c.in_ok-x.x in
    let ok = c.in_ok-ok.ok in
    let got = cmd.MapGet x ok c.args.m c.args.k c.args.place in
    let used : c.len.result ≡ length c.args.draft.temps.items = grind (arith, common_steps, c.len.ensures) in
    let more : c.len-2.result ≡ length c.in_ok-draft.draft.temps.items = grind (arith, common_steps, c.len-2.ensures) in
    map_settled d c.args.place old c.args.draft c.in_ok-draft.draft c.in_ok-draft-2.draft c.args.m c.args.k t x ok got h
    (c.in_ok-x.ensures ∙ ap (λ (n : ℕ). lower.temporary d n) used) (c.in_ok-ok.ensures ∙ ap (λ (n : ℕ). lower.temporary d n) more) (tree_map_get x ok c.args.m c.args.k c.args.place)
    c.in_ok-draft.ensures.temps
    (c.in_ok-draft-2.ensures.cmds ∙ (ap (λ (l : List Cmd). l ++ got ∷ []) c.in_ok-with_temporary.ensures.cmds ∙ ap (λ (l : List Cmd). l ++ got ∷ []) c.in_ok-draft.ensures.cmds))
    (c.in_ok-draft-2.ensures.temps ∙ c.in_ok-with_temporary.ensures.temps)
