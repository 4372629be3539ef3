use Rattle.std.proofs.Common.{◌≡◌, map, length, take, drop}
use Rattle.std.specs.List.{All}
use Rattle.gv_terms.specs.Store.{trees_at}
use Rattle.gv_certs.specs.declared.fault.RuleFault.{RuleFault}
use Rattle.gv_certs.specs.Proving.{AllHold, comparisons}
use Rattle.gv_side.specs.Telling.{IsFault}
use Rattle.gv_sums.specs.Reading.{comparisons_at, row_at, IsWithin}
use Rattle.gv_sums.proofs.Parts.{rows_asked}
use Rattle.gv_sums.proofs.checking.ask_rows.Given as goal

abbrev pub invariant-loop-i : goal.invariant-loop-i
invariant-loop-i l = record {
  holds : AllHold (rows_asked (trees_at l.store l.facts) l.store (drop l.i l.rows)) → AllHold (rows_asked (trees_at l.store l.facts) l.store l.rows);
  fault : (e : RuleFault) → IsFault (rows_asked (trees_at l.store l.facts) l.store (drop l.i l.rows)) e → IsFault (rows_asked (trees_at l.store l.facts) l.store l.rows) e;
  told : comparisons_at l.store l.comparisons.items ≡ comparisons (map (row_at l.store) (take l.i l.rows));
  counted : length l.comparisons.items ≡ l.i;
  within : All (IsWithin l.store) l.comparisons.items;
}
