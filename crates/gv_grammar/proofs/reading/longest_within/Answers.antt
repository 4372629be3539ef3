use Rattle.gv_grammar.specs.Derivation.{tables_of}
use Rattle.gv_grammar.proofs.Outcome.{viable_passes, deep_longer}
use Rattle.gv_grammar.proofs.reading.longest_within.Goals as goal

pub unreachable-requires : goal.unreachable-requires
unreachable-requires c =
    let first = rw c.in-Err-Refused.field-0-is at c.in-Err-Refused.ensures.fault in
    let second = rw c.in-Err-Refused-derive_within.field-0-is at c.in-Err-Refused-derive_within.ensures.fault in
    viable_passes (tables_of c.args.grammar.now) c.args.root _ _ first.0.viable second.0

pub unreachable-requires-in-Err-TooDeep : goal.unreachable-requires-in-Err-TooDeep
unreachable-requires-in-Err-TooDeep c =
    let first = rw c.in-Err-Refused.field-0-is at c.in-Err-Refused.ensures.fault in
    let second = rw c.in-Err-TooDeep.field-0-is at c.in-Err-TooDeep.ensures.fault in
    first.1 c.in-Err-TooDeep.field-0-0 (deep_longer (tables_of c.args.grammar.now) c.args.root c.args.level c.args.limit c.args.classes.now c.in-Err-Refused.at c.in-Err-TooDeep.field-0-0 second)
