use Rattle.std.proofs.Common.{◌≡◌, List, [], ap, ◌∙◌}
use Rattle.gv_gonames.specs.Named.{NamesOf}
use Rattle.gv_goseen.specs.Naming.{source_with}
use Rattle.gv_godeclared.proofs.Whole.{names_both}
use Rattle.gv_godeclared.proofs.known.declare_names.Goals as goal

pub declare_heads-requires : goal.declare_heads-requires
declare_heads-requires c = ap (λ (t : NamesOf). t.text) (c.in_ok-imports.ensures.declared [])

pub returns-clause-told : goal.returns-clause-told
returns-clause-told c = λ tokens.
    c.earliest.ensures
    ∙ names_both (source_with c.args.text.now tokens) c.args.names.now.names c.declare_imports.new.names.names c.args.paths.now c.args.heads.now c.in_ok-imports.imports c.in_ok-declared.declared
    c.requires.none (ap (λ (t : NamesOf). t.names) (c.in_ok-imports.ensures.declared tokens)) (c.in_ok-imports.ensures.told tokens) (c.in_ok-declared.ensures.told tokens)
