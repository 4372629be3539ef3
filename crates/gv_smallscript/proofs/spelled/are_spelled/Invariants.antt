use Rattle.std.proofs.Common.{◌≡◌, take}
use Rattle.std.specs.Prelude.{map}
use Rattle.gv_smallscript.specs.SmallScript.{texts}
use Rattle.gv_smallscript.proofs.spelled.are_spelled.Given as goal

abbrev pub invariant-loop-at : goal.invariant-loop-at
invariant-loop-at l = texts l.text (take l.at l.tokens) ≡ map (λ word. word.now) (take l.at l.words)
