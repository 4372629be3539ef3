use Rattle.std.proofs.Common.{rules, ◌≡◌, ◌<◌, length, get_or, take, ap, subst, sym, ◌∙◌, arith}
use Rattle.std.proofs.Math.IntN.{ℤ, pos}
use Rattle.std.proofs.lemmas.List.{take_all}
use Rattle.std.proofs.lemmas.Int.{to_z-of_z}
use Rattle.std.specs.Prelude.{FitsSigned}
use Rattle.std.specs.Int.{w128}
use Rattle.gv_linear.specs.Row.{entry}
use Rattle.gv_linear.specs.Columns.{products, total}
use Rattle.gv_linear.proofs.ColumnLemmas.{row_in_order, length-products, product_at, total_more, narrow_more, wide_here, same_product}
use Rattle.gv_linear.proofs.columns.column_sum.Goals as goal

pub entry-requires : goal.entry-requires
entry-requires c = row_in_order c.args.unknowns c.args.rows.now c.loop-i.i c.index-rows-i.result c.requires.in_order (omega arith) c.index-rows-i.is

pub returns-in-None-clause-wide : goal.returns-in-None-clause-wide
returns-in-None-clause-wide c =
    let ps = products c.args.rows.now c.args.factors.now c.args.unknowns c.args.column in
    let factor : ℤ = get_or c.args.factors.now c.loop-i.i (pos 0) in
    let fits : FitsSigned w128 factor = search rules in
    let entry_fits : FitsSigned w128 c.entry.result = search rules in
    let within : c.loop-i.i < length ps = omega (arith, length-products c.args.rows.now c.args.factors.now c.requires.lengths c.args.unknowns c.args.column) in
    let at = product_at c.args.rows.now c.args.factors.now c.requires.lengths c.args.unknowns c.args.column c.loop-i.i c.index-rows-i.result c.loop-i-test.true c.index-rows-i.is
    ∙ same_product factor c.entry.result (entry c.args.unknowns c.args.column c.index-rows-i.result) fits entry_fits c.entry.ensures in
    wide_here ps c.loop-i.i _ _ within at c.loop-i.invariant.sum c.loop-i.invariant.narrow c.in-None.ensures

pub loop-i-preserved : goal.loop-i-preserved
loop-i-preserved c =
    let ps = products c.args.rows.now c.args.factors.now c.args.unknowns c.args.column in
    let factor : ℤ = get_or c.args.factors.now c.loop-i.i (pos 0) in
    let fits : FitsSigned w128 factor = search rules in
    let entry_fits : FitsSigned w128 c.entry.result = search rules in
    let within : c.loop-i.i < length ps = omega (arith, length-products c.args.rows.now c.args.factors.now c.requires.lengths c.args.unknowns c.args.column) in
    let at = product_at c.args.rows.now c.args.factors.now c.requires.lengths c.args.unknowns c.args.column c.loop-i.i c.index-rows-i.result c.loop-i-test.true c.index-rows-i.is
    ∙ same_product factor c.entry.result (entry c.args.unknowns c.args.column c.index-rows-i.result) fits entry_fits c.entry.ensures in
    let added = c.in-Some.ensures in
    let more_fits : FitsSigned w128 c.in-Some.more = subst (λ (z : ℤ). FitsSigned w128 z) (sym added.2) added.1 in
    record {
      sum = to_z-of_z w128 c.in-Some.more more_fits ∙ total_more ps c.loop-i.i _ _ within at c.loop-i.invariant.sum c.in-Some.more added.2;
      narrow = narrow_more ps c.loop-i.i _ _ within at c.loop-i.invariant.sum c.loop-i.invariant.narrow added.0 added.1;
    }

pub returns-clause-sum : goal.returns-clause-sum
returns-clause-sum c =
    let ps = products c.args.rows.now c.args.factors.now c.args.unknowns c.args.column in
    let all : take c.loop-i.i ps ≡ ps = take_all c.loop-i.i ps (omega (arith, length-products c.args.rows.now c.args.factors.now c.requires.lengths c.args.unknowns c.args.column)) in
    c.loop-i.invariant.sum ∙ ap total all

pub returns-clause-narrow : goal.returns-clause-narrow
returns-clause-narrow c r wide =
    let l = wide.0 in
    c.loop-i.invariant.narrow r (omega (arith, length-products c.args.rows.now c.args.factors.now c.requires.lengths c.args.unknowns c.args.column)) wide
