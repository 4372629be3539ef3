use Rattle.gv_grammar.specs.Derivation.{tables_of}
use Rattle.gv_grammar.proofs.Outcome.{viable_passes}
use Rattle.gv_grammar.proofs.derivation.longest.Goals as goal

pub unreachable-requires : goal.unreachable-requires
unreachable-requires c =
    let first = rw c.in-Err-Refused.field-0-is at c.in-Err-Refused.ensures.fault in
    let second = rw c.in-Err-Refused-derive.field-0-is at c.in-Err-Refused-derive.ensures.fault in
    viable_passes (tables_of c.args.grammar.now) c.args.root _ _ first.viable second
