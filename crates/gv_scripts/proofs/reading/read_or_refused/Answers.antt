use Rattle.std.proofs.Common.{refl, subst}
use Rattle.gv_typing.specs.Placing.{IsCause}
use Rattle.gv_scriptparse.specs.Seen.{seen}
use Rattle.gv_scriptparse.specs.Reading as grammar
use Rattle.gv_scriptnames.specs.Faults.{HasOutlineFault}
use Rattle.gv_scriptnames.specs.Outlines.{outline_of}
use Rattle.gv_scripts.specs.Reading.{IsRefused, grammar_fault, meaning}
use Rattle.gv_scripts.proofs.Decided.{refuses_on}
use Rattle.gv_scripts.proofs.reading.read_or_refused.Goals as goal

pub returns-in_err-tree-clause-refused : goal.returns-in_err-tree-clause-refused
returns-in_err-tree-clause-refused c =
    let text = c.args.text.now in
    let tokens = c.in_ok-tokens.tokens.items in
    refuses_on text (grammar.IsRefusedAt text (seen text tokens)) (IsRefused text c.args.spec.now c.args.program.now) (λ m k h. grammar_fault tokens c.in_ok-tokens.ensures.read h) c.from_residual-in_err-tree.result
    c.in_err-tree.field-0.0 c.from_residual-in_err-tree.ensures.1 (rw c.deref.ensures.value at c.in_err-tree.ensures.refused)

pub returns-in-Ok-clause-read : goal.returns-in-Ok-clause-read
returns-in-Ok-clause-read c =
    let h = rw c.deref.ensures.value at c.in_ok-tree.ensures.read in
    record {
      tree = h.script;
      spelled = record { has = record { tokens = c.in_ok-tokens.tokens.items; cut = c.in_ok-tokens.ensures.read; read = h.read }; typed = c.in-Ok.ensures.typed h.script h.tree };
      is = c.in-Ok.ensures.read h.script h.tree;
    }

pub returns-clause-refused : goal.returns-clause-refused
returns-clause-refused c =
    let text = c.args.text.now in
    let h = rw c.deref.ensures.value at c.in_ok-tree.ensures.read in
    rw c.refusal_at.ensures (
      c.in-Err-At.start,
      refl,
      meaning h.script (record { tokens = c.in_ok-tokens.tokens.items; cut = c.in_ok-tokens.ensures.read; read = h.read })
          (subst (IsCause (HasOutlineFault text c.args.spec.now c.args.program.now (outline_of h.script))) c.in-Err-At.field-0-is (c.in-Err-At.ensures.cause h.script h.tree)),
    )
