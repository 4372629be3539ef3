use Rattle.std.proofs.Common.{◌≡◌, take, true}
use Rattle.gv_small.specs.Forms as form
use Rattle.gv_small.proofs.names.distinct.Given as goal

abbrev pub invariant-loop-name : goal.invariant-loop-name
invariant-loop-name l = record {
  keys : l.set.keys ≡ take l.name-index l.names;
  distinct : form.is_distinct (take l.name-index l.names) ≡ true;
}
