-- Where reading stops, at a byte by a code, and the refusal of that.
use Rattle.std.specs.Prelude.{◌≡◌, ℕ, Result, Err, List}
use Rattle.gv_base.specs.Places.{place_at}
use Rattle.gv_base.specs.declared.answers.Code.{Code}
use Rattle.gv_base.specs.declared.answers.Refusal.{Refusal}
use Rattle.gv_base.specs.declared.answers.Refusal.TheVariants as refusal
use Rattle.gv_text.specs.declared.stop.Stop.{Stop}
use Rattle.gv_text.specs.declared.stop.Stop.TheVariants as stop

-- a fault: how many bytes come before its place, and its code
abbrev pub Fault : Type 0
Fault = ℕ × Code

abbrev pub refusal_at : List ℕ → ℕ → Code → Refusal
refusal_at text at code = refusal.At (place_at text at) code

-- a stop as a refusal
abbrev pub refusal_of : List ℕ → Stop → Refusal
refusal_of text stop.NoMemory = refusal.NoMemory
refusal_of text (stop.At at code) = refusal_at text at code

-- a stop is the fault of what should have come out, unless memory ran out
abbrev pub StopsAs : {A : Type 0} → Result A Fault → Stop → Type 0
StopsAs r stop.NoMemory = Unit {0}
StopsAs r (stop.At at code) = r ≡ Err (at, code)
