use Rattle.gv_grammar.specs.Derivation.{tables_of}
use Rattle.gv_grammar.proofs.Outcome.{whole_too_deep, refused_too_deep, refused_shallow, end_too_deep, end_shallow}
use Rattle.gv_grammar.proofs.reading.derive_within.Goals as goal

pub returns-in-Some-clause-fault : goal.returns-in-Some-clause-fault
returns-in-Some-clause-fault c =
    whole_too_deep (tables_of c.args.grammar.now) c.args.root c.requires c.args.level c.args.limit c.args.classes.now _ _ c.deref.ensures.value _ c.in-Some.at c.in-Ok.ensures.derived c.in_ok-at-in-Ok.ensures c.in-Some.is

pub returns-in-Some-2-clause-fault : goal.returns-in-Some-2-clause-fault
returns-in-Some-2-clause-fault c =
    let r = rw c.in-Err-Refused.field-0-is at c.in-Err-Refused.ensures.fault in
    let b = rw c.in-Err-Refused.field-0-is at c.in-Err-Refused.ensures.front in
    refused_too_deep (tables_of c.args.grammar.now) c.args.root c.requires c.args.level c.args.limit c.args.classes.now _ _ c.deref-in-Err-Refused.ensures.value _ c.in-Err-Refused.at c.in-Some-2.deep r b c.in_ok-deep-in-Err-Refused.ensures c.in-Some-2.is

pub returns-in-Err-Refused-clause-fault : goal.returns-in-Err-Refused-clause-fault
returns-in-Err-Refused-clause-fault c =
    let r = rw c.in-Err-Refused.field-0-is at c.in-Err-Refused.ensures.fault in
    let b = rw c.in-Err-Refused.field-0-is at c.in-Err-Refused.ensures.front in
    refused_shallow (tables_of c.args.grammar.now) c.args.root c.requires c.args.level c.args.limit c.args.classes.now _ _ c.deref-in-Err-Refused.ensures.value _ c.in-Err-Refused.at r b c.in_ok-deep-in-Err-Refused.ensures c.in-None-2.is

pub returns-in-Some-3-clause-fault : goal.returns-in-Some-3-clause-fault
returns-in-Some-3-clause-fault c =
    let r = rw c.in-Err-End.field-0-is at c.in-Err-End.ensures.fault in
    let b = rw c.in-Err-End.field-0-is at c.in-Err-End.ensures.front in
    end_too_deep (tables_of c.args.grammar.now) c.args.root c.requires c.args.level c.args.limit c.args.classes.now _ _ c.deref-in-Err-End.ensures.value _ c.in-Some-3.at r b c.in_ok-at-in-Err-End.ensures c.in-Some-3.is

pub returns-clause-fault : goal.returns-clause-fault
returns-clause-fault c =
    let r = rw c.in-Err-End.field-0-is at c.in-Err-End.ensures.fault in
    let b = rw c.in-Err-End.field-0-is at c.in-Err-End.ensures.front in
    end_shallow (tables_of c.args.grammar.now) c.args.root c.requires c.args.level c.args.limit c.args.classes.now _ _ c.deref-in-Err-End.ensures.value _ r b c.in_ok-at-in-Err-End.ensures c.in-None-3.is
