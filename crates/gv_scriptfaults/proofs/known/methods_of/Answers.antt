use Rattle.std.proofs.Common.{◌<◌, ◌+◌, ℕ, List, length, take, get_or, sym, subst, refl, ◌∙◌, arith}
use Rattle.std.proofs.lemmas.List.{take_more}
use Rattle.gv_lang.specs.Plain.{program_of}
use Rattle.gv_lang.specs.WellShaped.{method_at}
use Rattle.gv_scriptfaults.specs.Tables.{IsTable}
use Rattle.gv_scriptfaults.proofs.Tables.{table_more}
use Rattle.gv_scriptfaults.proofs.known.methods_of.Goals as goal

pub loop-op-preserved : goal.loop-op-preserved
loop-op-preserved c =
    let program = c.args.program.now in
    let items = c.as_slice-op-items.result.now in
    let e = c.as_slice-op-items.ensures in
    let k = c.loop-op.op-index in
    let lt : k < length items = omega arith in
    let was = subst (λ (os : List ℕ). IsTable (method_at (program_of program)) (λ (op : ℕ). op) (take k os) c.loop-op.table) (sym e) c.loop-op.invariant in
    subst (λ (os : List ℕ). IsTable (method_at (program_of program)) (λ (op : ℕ). op) (take (k + 1) os) c.keep.new.self) e
    (subst (λ (os : List ℕ). IsTable (method_at (program_of program)) (λ (op : ℕ). op) os c.keep.new.self) (sym (take_more items k 0 lt))
    (table_more (method_at (program_of program)) (λ (op : ℕ). op) (take k items) (get_or items k 0) _ _ c.loop-op.table c.keep.new.self (c.in_ok-name.ensures ∙ c.method_at.ensures) refl c.in_ok-keep.ensures was))
