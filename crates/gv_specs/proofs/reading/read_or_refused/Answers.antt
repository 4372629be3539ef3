use Rattle.std.proofs.Common.{refl, subst}
use Rattle.gv_typing.specs.Placing.{IsCause}
use Rattle.gv_specread.specs.Seen.{seen}
use Rattle.gv_specread.specs.Reading as grammar
use Rattle.gv_specs.specs.Faults.{HasFault}
use Rattle.gv_specs.specs.Reading.{IsRefused, grammar_fault, meaning}
use Rattle.gv_specs.proofs.Decided.{refuses_on}
use Rattle.gv_specs.proofs.reading.read_or_refused.Goals as goal

pub returns-in_err-tree-clause-refused : goal.returns-in_err-tree-clause-refused
returns-in_err-tree-clause-refused c =
    let text = c.args.text.now in
    let tokens = c.in_ok-tokens.tokens.items in
    refuses_on text (grammar.IsRefusedAt text (seen text tokens)) (IsRefused text) (λ m k h. grammar_fault tokens c.in_ok-tokens.ensures.read h) c.from_residual-in_err-tree.result c.in_err-tree.field-0.0 c.from_residual-in_err-tree.ensures.1
    (rw c.deref.ensures.value at c.in_err-tree.ensures.refused)

pub returns-in-Ok-clause-read : goal.returns-in-Ok-clause-read
returns-in-Ok-clause-read c = record {
  tree = c.in_ok-tree.tree;
  has = record { tokens = c.in_ok-tokens.tokens.items; cut = c.in_ok-tokens.ensures.read; read = rw c.deref.ensures.value at c.in_ok-tree.ensures.read };
  faultless = c.in-Ok.ensures.faultless;
  spelled = c.in-Ok.ensures.read;
}

pub returns-clause-refused : goal.returns-clause-refused
returns-clause-refused c =
    let text = c.args.text.now in
    rw c.refusal_at.ensures (
      c.in-Err-At.start,
      refl,
      meaning c.in_ok-tree.tree (record { tokens = c.in_ok-tokens.tokens.items; cut = c.in_ok-tokens.ensures.read; read = rw c.deref.ensures.value at c.in_ok-tree.ensures.read })
          (subst (IsCause (HasFault text c.in_ok-tree.tree)) c.in-Err-At.field-0-is c.in-Err-At.ensures.cause),
    )
