use Rattle.std.proofs.Common.{◌∷◌, [], length, drop, get_or, ◌+◌, sym, subst, ap, arith}
use Rattle.std.proofs.lemmas.List.{length-append}
use Rattle.gv_terms.specs.Store.{tree_at, trees_at}
use Rattle.gv_certs.specs.Proving.{AllHold}
use Rattle.gv_side.specs.Telling.{IsFault}
use Rattle.gv_side.proofs.Lists.{handed_on, fault_in_front, fault_behind, all_append}
use Rattle.gv_sums.specs.Telling.{row_asks}
use Rattle.gv_sums.proofs.Parts.{no_row, rows_asked, row_here, row_within, comparison_more, all_within_more}
use Rattle.gv_sums.proofs.checking.ask_rows.Goals as goal

pub ask_row-requires-clause-formula : goal.ask_row-requires-clause-formula
ask_row-requires-clause-formula c = row_within c.args.store.now c.args.rows.now c.loop-i.i c.requires.rows c.loop-i-test.true

pub returns-in_err-ask_row-clause-cause : goal.returns-in_err-ask_row-clause-cause
returns-in_err-ask_row-clause-cause c =
    let st = c.args.store.now in
    let facts = trees_at st c.args.facts.now in
    let rows = c.args.rows.now in
    let p = row_asks facts (tree_at st (get_or rows c.loop-i.i no_row).formula.id) in
    let rest = rows_asked facts st (drop (c.loop-i.i + 1) rows) in
    let e = c.in_err-ask_row.field-0.0 in
    handed_on c.from_residual.result e (IsFault (rows_asked facts st rows)) c.from_residual.ensures.1
    (c.loop-i.invariant.fault e (subst (λ ps. IsFault ps e) (sym (row_here facts st rows c.loop-i.i c.loop-i-test.true)) (fault_in_front p rest e c.in_err-ask_row.ensures.cause)))

pub loop-i-preserved : goal.loop-i-preserved
loop-i-preserved c =
    let st = c.args.store.now in
    let facts = trees_at st c.args.facts.now in
    let rows = c.args.rows.now in
    let p = row_asks facts (tree_at st (get_or rows c.loop-i.i no_row).formula.id) in
    let rest = rows_asked facts st (drop (c.loop-i.i + 1) rows) in
    let split = row_here facts st rows c.loop-i.i c.loop-i-test.true in
    let made = c.in_ok-ask_row.field-0 in
    let longer = length-append c.loop-i.comparisons.items (made ∷ []) in
    let more = ap length c.in_ok-push.ensures.items in
    record {
      holds = λ h. c.loop-i.invariant.holds (subst AllHold (sym split) (all_append p rest c.in_ok-ask_row.ensures.holds h));
      fault = λ e f. c.loop-i.invariant.fault e (subst (λ ps. IsFault ps e) (sym split) (fault_behind p rest e c.in_ok-ask_row.ensures.holds f));
      told = comparison_more st rows c.loop-i.i c.loop-i.comparisons.items c.push.new.self.items made c.loop-i-test.true c.in_ok-ask_row.ensures.told c.in_ok-push.ensures.items c.loop-i.invariant.told;
      counted = omega (arith, longer, more);
      within = all_within_more st c.loop-i.comparisons.items c.push.new.self.items made c.loop-i.invariant.within c.in_ok-ask_row.ensures.within c.in_ok-push.ensures.items;
    }
