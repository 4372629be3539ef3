use Rattle.gv_scriptnames.specs.Outlines.{outline_of}
use Rattle.gv_scripts.proofs.Decided.{typed_none}
use Rattle.gv_scripts.proofs.reading.script_of.Goals as goal

pub returns-clause-typed : goal.returns-clause-typed
returns-clause-typed c = λ tree is.
    typed_none c.args.text.now c.args.spec.now c.args.program.now c.in_ok-outline.outline (outline_of tree) c.in_ok-first.first c.in_ok-first.ensures c.in_default.is
    ((rw c.deref.ensures.value at c.in_ok-outline.ensures) tree is)
