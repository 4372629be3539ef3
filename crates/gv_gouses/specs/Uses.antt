-- Uses of variables among what is found.
use Rattle.std.specs.Prelude.{◌≡◌, List, [], ◌∷◌, ◌++◌}
use Rattle.gv_gotypes.specs.Types.{Finding, Fault}
use Rattle.gv_gotypes.specs.Types as found
use Rattle.gv_gouses.specs.declared.noted.Use.{Use}
use Rattle.gv_gouses.specs.declared.noted.Use.TheVariants.{Outer, Assigned}

-- faults aside
abbrev pub uses_of : List Finding → List Use
uses_of [] = []
uses_of (Fault at code ∷ fs) = uses_of fs
uses_of (found.Outer at declared ∷ fs) = Outer at declared ∷ uses_of fs
uses_of (found.Assigned declared ∷ fs) = Assigned declared ∷ uses_of fs

-- a list is another one with these uses behind it
abbrev pub Adds : List Use → List Use → List Finding → Type 0
Adds old new fs = new ≡ old ++ uses_of fs
