use Rattle.std.proofs.Common.{◌<◌, length, take, get_or, arith}
use Rattle.std.proofs.lemmas.List.{take_all}
use Rattle.gv_scriptfaults.proofs.Declaring.{more_added, more_declared, next_name, declared_as, added_as}
use Rattle.gv_scriptfaults.proofs.declared.declare_all.Goals as goal

pub loop-t-preserved : goal.loop-t-preserved
loop-t-preserved c =
    let text = c.args.text.now in
    let ts = c.args.ts.now in
    let i = c.loop-t.t-index in
    let lt : i < length ts = omega arith in
    let t = get_or ts i (record { class = 0; start = 0; end = 0; value = 0 }) in
    let next = next_name ts i (record { class = 0; start = 0; end = 0; value = 0 }) lt in
    record {
      noted = declared_as text c.args.outer.now c.args.own.now _ _ c.args.first.now c.declare.new.first next
          (more_declared text c.args.outer.now c.args.own.now c.loop-t.own (take i ts) t c.args.first.now c.loop-t.first c.declare.new.first c.loop-t.invariant.added c.loop-t.invariant.noted c.in_ok-declare.ensures.noted);
      added = added_as text c.args.own.now c.declare.new.own _ _ next
          (more_added text (take i ts) t c.args.own.now c.loop-t.own c.declare.new.own c.loop-t.invariant.added c.in_ok-declare.ensures.added);
    }

pub returns-clause-noted : goal.returns-clause-noted
returns-clause-noted c =
    let ts = c.args.ts.now in
    declared_as c.args.text.now c.args.outer.now c.args.own.now (take c.loop-t.t-index ts) ts c.args.first.now c.loop-t.first (take_all c.loop-t.t-index ts (omega arith)) c.loop-t.invariant.noted
