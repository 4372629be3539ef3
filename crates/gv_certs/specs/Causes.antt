-- The causes' numbers and names.
use Rattle.std.specs.Prelude.{ℕ, List, codes}
use Rattle.gv_certs.specs.declared.cause.Cause.{Cause}
use Rattle.gv_certs.specs.declared.cause.Cause.TheVariants as cause

abbrev pub cause_number : Cause → ℕ
cause_number cause.Scope = 1
cause_number cause.NameTaken = 2
cause_number cause.Count = 3
cause_number cause.NoAtom = 4
cause_number cause.NotKnown = 5
cause_number cause.Mismatch = 6
cause_number cause.Mode = 7
cause_number cause.Bracket = 8
cause_number cause.NotDurable = 9
cause_number cause.NotPersistent = 10
cause_number cause.HasToken = 11
cause_number cause.CrashBlock = 12
cause_number cause.PathEnd = 13
cause_number cause.NoStep = 14
cause_number cause.WrongPoint = 15
cause_number cause.NotAPlus = 16
cause_number cause.Negative = 17
cause_number cause.Wide = 18
cause_number cause.NotContradiction = 19
cause_number cause.BadAxiom = 20
cause_number cause.Excluded = 21
cause_number cause.Missing = 22
cause_number cause.Hole = 23

-- the name, as a report writes it
abbrev pub cause_name : Cause → List ℕ
cause_name cause.Scope = codes "Scope"
cause_name cause.NameTaken = codes "NameTaken"
cause_name cause.Count = codes "Count"
cause_name cause.NoAtom = codes "NoAtom"
cause_name cause.NotKnown = codes "NotKnown"
cause_name cause.Mismatch = codes "Mismatch"
cause_name cause.Mode = codes "Mode"
cause_name cause.Bracket = codes "Bracket"
cause_name cause.NotDurable = codes "NotDurable"
cause_name cause.NotPersistent = codes "NotPersistent"
cause_name cause.HasToken = codes "HasToken"
cause_name cause.CrashBlock = codes "CrashBlock"
cause_name cause.PathEnd = codes "PathEnd"
cause_name cause.NoStep = codes "NoStep"
cause_name cause.WrongPoint = codes "WrongPoint"
cause_name cause.NotAPlus = codes "NotAPlus"
cause_name cause.Negative = codes "Negative"
cause_name cause.Wide = codes "Wide"
cause_name cause.NotContradiction = codes "NotContradiction"
cause_name cause.BadAxiom = codes "BadAxiom"
cause_name cause.Excluded = codes "Excluded"
cause_name cause.Missing = codes "Missing"
cause_name cause.Hole = codes "Hole"
