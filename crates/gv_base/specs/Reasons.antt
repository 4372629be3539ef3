-- The names of the reasons why a step is undefined.
use Rattle.std.specs.Prelude.{ℕ, List, codes}
use Rattle.gv_base.specs.declared.reason.Reason.{Reason}
use Rattle.gv_base.specs.declared.reason.Reason.TheVariants.{Race, NilUse, OutOfRange, DivideByZero, UnlockFree, BadAddress, BadBlockLength, Kind}

-- the name, as a report writes it
abbrev pub reason_name : Reason → List ℕ
reason_name Race = codes "Race"
reason_name NilUse = codes "NilUse"
reason_name OutOfRange = codes "OutOfRange"
reason_name DivideByZero = codes "DivideByZero"
reason_name UnlockFree = codes "UnlockFree"
reason_name BadAddress = codes "BadAddress"
reason_name BadBlockLength = codes "BadBlockLength"
reason_name Kind = codes "Kind"
