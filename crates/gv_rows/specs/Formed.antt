-- Assertions of a right form: with as many values as their kinds have.
use Rattle.std.specs.Prelude.{◌≡◌, ℕ, List, [], ◌∷◌, Option, Some, None, length}
use Rattle.gv_resources.specs.Kinds as kind
use Rattle.gv_resources.specs.Kinds.{Kind}
use Rattle.gv_assertions.specs.Atoms.{Atom, Owns}

-- how many values an assertion of a kind has; what a lock guards, a token and a reply have any number
abbrev pub values_of : Kind → Option ℕ
values_of kind.Mutex = Some 0
values_of kind.Held = Some 0
values_of kind.Down = Some 0
values_of kind.Lock = None
values_of kind.Token = None
values_of kind.Done = None
values_of kind.OpenCall = Some 0
values_of kind.Recovering = Some 0
values_of _ = Some 1

abbrev pub IsFormed : Atom → Type 0
IsFormed (Owns k key value) = (n : ℕ) → values_of k ≡ Some n → length value ≡ n
IsFormed _ = Unit {0}

abbrev pub AreFormed : List Atom → Type 0
AreFormed [] = Unit {0}
AreFormed (a ∷ all) = IsFormed a × AreFormed all
