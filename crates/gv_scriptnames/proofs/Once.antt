-- What is so of every script.
use Rattle.gv_text.proofs.FirstOnes.{one_first}
use Rattle.gv_scriptnames.specs.Outlines.{outline_of}
use Rattle.gv_scriptnames.specs.Faults.{HasOutlineFault}
use Rattle.gv_scriptnames.specs.Laws.{AreRefusedOnce, AreFound}
use Rattle.gv_scriptnames.proofs.Wholes.{outline_same}

pub all_once : AreRefusedOnce
all_once text spec program s = record {
  one_refusal = λ m n c d p q. one_first (HasOutlineFault text spec program (outline_of s)) m n c d p q;
  not_both = λ at code h r. h at code r.there;
}

pub all_found : AreFound
all_found text spec program s = let same = outline_same text spec program s in record { all = same.found; only = same.so }
