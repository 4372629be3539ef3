-- What is so of all scripts of the small form.
use Rattle.std.specs.Prelude.{◌≡◌, ℕ, List}
use Rattle.gv_smallscript.specs.SmallScript.{IsSmallScript}
use Rattle.gv_smallscript.specs.declared.forms.SmallScript.{SmallScript}

-- a text has at most one small form
abbrev pub HasOne : Type 0
HasOne = (text : List ℕ) (x y : SmallScript) → IsSmallScript text x → IsSmallScript text y → x ≡ y
