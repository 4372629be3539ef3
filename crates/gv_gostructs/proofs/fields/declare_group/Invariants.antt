use Rattle.std.proofs.Common.{◌≡◌, ℕ, List, [], drop}
use Rattle.gv_gotypes.specs.Declarations.{group_fields}
use Rattle.gv_goseen.specs.Seen.{env_of, source_of}
use Rattle.gv_gostructs.specs.Fields.{with_fields, AreBorne}
use Rattle.gv_gostructs.proofs.Rests.{AreLeft}
use Rattle.gv_gostructs.proofs.fields.declare_group.Given as goal

abbrev pub invariant-loop-name : goal.invariant-loop-name
invariant-loop-name l = record {
  text : l.table.text ≡ l.seen.text.now;
  alone : l.table.struct.methods ≡ [];
  table_is : with_fields l.table (group_fields (env_of l.seen) (drop l.name-index l.names) l.kind) ≡ with_fields l.fn.table (group_fields (env_of l.seen) l.names l.kind);
  left : (before : List (List ℕ)) → AreBorne before l.fn.table.struct.fields
      → AreLeft (source_of l.seen) before l.table.struct.fields l.first l.names (drop l.name-index l.names);
}
