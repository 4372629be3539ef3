use Rattle.std.proofs.Common.{◌∙◌, sym, subst, rules}
use Rattle.std.specs.Prelude.{FitsSigned}
use Rattle.std.specs.Int.{w128}
use Rattle.std.proofs.lemmas.Int.{to_z-of_z}
use Rattle.gv_sums.specs.Reading.{AreItems}
use Rattle.gv_sums.proofs.Numbers.{no_items, next_item}
use Rattle.gv_sums.proofs.numbering.items.Goals as goal

pub loop-unknown-init : goal.loop-unknown-init
loop-unknown-init c =
    let first = c.next_unknown-unknown.ensures in
    record {
      within = first.high;
      stand = subst (AreItems c.next_unknown-unknown.result c.args.summands.now) (sym c.new-items.ensures.items) (no_items c.next_unknown-unknown.result c.args.summands.now first.between);
    }

pub loop-unknown-preserved : goal.loop-unknown-preserved
loop-unknown-preserved c =
    let fits : FitsSigned w128 c.coefficient.result = search rules in
    let next = c.next_unknown-unknown-in-loop-unknown.ensures in
    record {
      within = next.high;
      stand = next_item c.loop-unknown.unknown c.next_unknown-unknown-in-loop-unknown.result c.args.summands.now c.loop-unknown.items.items c.push.new.self.items _ c.loop-unknown.invariant.stand
          (to_z-of_z w128 c.coefficient.result fits ∙ c.coefficient.ensures) next.low next.between c.in_ok-push.ensures.items;
    }
