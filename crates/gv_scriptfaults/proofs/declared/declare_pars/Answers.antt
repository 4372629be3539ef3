use Rattle.std.proofs.Common.{◌<◌, length, take, get_or, ap, arith}
use Rattle.std.proofs.lemmas.List.{take_all}
use Rattle.gv_scriptsyntax.specs.declared.tree.Par.{Par}
use Rattle.gv_scriptnames.specs.Names.{names_of}
use Rattle.gv_scriptfaults.proofs.Declaring.{more_added, more_declared, next_par, declared_as, added_as}
use Rattle.gv_scriptfaults.proofs.declared.declare_pars.Goals as goal

abbrev none : Par
none = record { name = record { class = 0; start = 0; end = 0; value = 0 }; sort = record { class = 0; start = 0; end = 0; value = 0 } }

pub loop-p-preserved : goal.loop-p-preserved
loop-p-preserved c =
    let text = c.args.text.now in
    let ps = c.args.ps.now in
    let i = c.loop-p.p-index in
    let lt : i < length ps = omega arith in
    let t = (get_or ps i none).name in
    let next = next_par ps i none lt in
    record {
      noted = declared_as text c.args.outer.now c.args.own.now _ _ c.args.first.now c.declare.new.first next
          (more_declared text c.args.outer.now c.args.own.now c.loop-p.own (names_of (take i ps)) t c.args.first.now c.loop-p.first c.declare.new.first c.loop-p.invariant.added c.loop-p.invariant.noted c.in_ok-declare.ensures.noted);
      added = added_as text c.args.own.now c.declare.new.own _ _ next
          (more_added text (names_of (take i ps)) t c.args.own.now c.loop-p.own c.declare.new.own c.loop-p.invariant.added c.in_ok-declare.ensures.added);
    }

pub returns-clause-noted : goal.returns-clause-noted
returns-clause-noted c =
    let ps = c.args.ps.now in
    declared_as c.args.text.now c.args.outer.now c.args.own.now (names_of (take c.loop-p.p-index ps)) (names_of ps) c.args.first.now c.loop-p.first (ap names_of (take_all c.loop-p.p-index ps (omega arith))) c.loop-p.invariant.noted
