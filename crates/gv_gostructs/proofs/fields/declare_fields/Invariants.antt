use Rattle.std.proofs.Common.{◌≡◌, [], drop}
use Rattle.gv_gotypes.specs.Declarations.{all_fields}
use Rattle.gv_goseen.specs.Seen.{env_of}
use Rattle.gv_gostructs.specs.Fields.{with_fields}
use Rattle.gv_gostructs.proofs.Rests.{AreStill}
use Rattle.gv_gostructs.proofs.fields.declare_fields.Given as goal

abbrev pub invariant-loop-group : goal.invariant-loop-group
invariant-loop-group l = record {
  text : l.table.text ≡ l.seen.text.now;
  alone : l.table.struct.methods ≡ [];
  table_is : with_fields l.table (all_fields (env_of l.seen) (drop l.group-index l.groups)) ≡ with_fields l.fn.table (all_fields (env_of l.seen) l.groups);
  left : AreStill (env_of l.seen) l.table.struct.fields l.first l.groups (drop l.group-index l.groups);
}
