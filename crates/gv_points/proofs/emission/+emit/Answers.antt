use Rattle.std.proofs.Common.{rules, arith}
use Rattle.gv_lang.specs.Plain.{tree_of}
use Rattle.gv_points.proofs.Measured.{there, whole_there, first_there, first_held, rest_held, then_held, other_held, split_body, kept_emitted, sized, sized_if, if_emitted}
use Rattle.gv_points.proofs.emission.+emit.Goals as goal

pub emit-bounds-extents-here : goal.emit-bounds-extents-here
emit-bounds-extents-here t c =
    let e = split_body c.loop-rest.rest.now c.first-item.result c.in-len1-up.len_at_least c.first-item.is in
    there _ _ _ (first_held _ _ _ _ _ e c.loop-rest.invariant.held)

pub emit-overflow_add-next : goal.emit-overflow_add-next
emit-overflow_add-next t c =
    let e = split_body c.loop-rest.rest.now c.first-item.result c.in-len1-up.len_at_least c.first-item.is in
    let w = whole_there c.args.extents.now c.loop-rest.here _ (record { whole = 0; first = 0 }) (first_held _ _ _ _ _ e c.loop-rest.invariant.held) in
    let s = sized _ _ _ e in
    let n = c.loop-rest.invariant.numbered in
    let r = c.requires.room in
    omega arith

pub emit-emit_command-requires : goal.emit-emit_command-requires
emit-emit_command-requires t c =
    let e = split_body c.loop-rest.rest.now c.first-item.result c.in-len1-up.len_at_least c.first-item.is in
    let s = sized _ _ _ e in
    let n = c.loop-rest.invariant.numbered in
    let m = c.loop-rest.invariant.smaller in
    let r = c.requires.room in
    let d = c.decreases in
    (search (rules, arith), (first_held _ _ _ _ _ e c.loop-rest.invariant.held, omega arith))

pub emit-loop-rest-preserved : goal.emit-loop-rest-preserved
emit-loop-rest-preserved t c =
    let e = split_body c.loop-rest.rest.now c.first-item.result c.in-len1-up.len_at_least c.first-item.is in
    let held = first_held _ _ _ _ _ e c.loop-rest.invariant.held in
    let w = whole_there c.args.extents.now c.loop-rest.here _ (record { whole = 0; first = 0 }) held in
    let s = sized _ _ _ e in
    let n = c.loop-rest.invariant.numbered in
    let m = c.loop-rest.invariant.smaller in
    record {
      emitted = kept_emitted _ _ _ _ _ c.args.exits.after c.args.exits.leave c.args.exits.again _ _ _ _ e w c.first_point-after.ensures
          c.in_ok-emit_command.ensures c.loop-rest.invariant.emitted;
      numbered = omega arith;
      held = rest_held _ _ _ _ _ _ e w c.loop-rest.invariant.held;
      smaller = omega arith;
    }

pub emit_command-emit-requires : goal.emit_command-emit-requires
emit_command-emit-requires t c =
    let s = sized_if (tree_of c.args.c.now) _ _ c.in-If.ensures in
    let r = c.requires.room in
    let d = c.decreases in
    (search (rules, arith), (then_held _ _ _ _ _ c.in-If.ensures c.requires.extents, omega arith))

pub emit_command-emit-requires-in-If : goal.emit_command-emit-requires-in-If
emit_command-emit-requires-in-If t c =
    let w = first_there c.args.extents.now c.args.at _ _ _ (record { whole = 0; first = 0 }) c.in-If.ensures c.requires.extents in
    let s = sized_if (tree_of c.args.c.now) _ _ c.in-If.ensures in
    let r = c.requires.room in
    let d = c.decreases in
    (search (rules, arith), (other_held _ _ _ _ _ _ c.in-If.ensures w c.requires.extents, omega arith))

pub emit_command-returns-in_ok-emit-in-If-2 : goal.emit_command-returns-in_ok-emit-in-If-2
emit_command-returns-in_ok-emit-in-If-2 t c =
    let w = first_there c.args.extents.now c.args.at _ _ _ (record { whole = 0; first = 0 }) c.in-If.ensures c.requires.extents in
    if_emitted _ _ _ c.args.at c.args.exits.after c.args.exits.leave c.args.exits.again _ _ _ _ _ _ _ _ c.in-If.ensures w c.first_point-yes.ensures c.first_point-no.ensures
    c.in_ok-both-in-If.ensures c.in_ok-push-in-If.ensures c.in_ok-emit-in-If.ensures c.in_ok-emit-in-If-2.ensures
