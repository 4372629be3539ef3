-- What the table holds under a number, and the standing that it tells.
use Rattle.std.specs.Prelude.{◌≡◌, ℕ, ◌≤◌, if◌then◌else◌, ◌==◌, Option, Some, None, nat_eq}
use Rattle.std.specs.HashMap.{HashMap, get}
use Rattle.std.specs.declared.hash.FoldHasher.{FoldHasher}
use Rattle.std.specs.declared.hash.BuildHasherDefault.{BuildHasherDefault}
use Rattle.gv_terms.specs.declared.value.Value.{Value}
use Rattle.gv_spec.specs.Walks.{Standing, NeverCalled, Called, Acted, Answered, dropped}
use Rattle.gv_history.specs.declared.seen.Seen.{Seen}
use Rattle.gv_history.specs.declared.seen.Standing as held
use Rattle.gv_history.specs.declared.seen.Standing.TheVariants as stands

abbrev pub Calls : Type 0
Calls = HashMap ℕ Seen (BuildHasherDefault FoldHasher)

abbrev pub standing_of : held.Standing → Standing Value
standing_of (stands.Called op args) = Called op args
standing_of (stands.Acted reply) = Acted reply
standing_of stands.Answered = Answered

-- where a call stands after so many boots: one that was last moved before the last of them has left the table
abbrev pub standing_since : ℕ → Option Seen → Standing Value
standing_since boots None = NeverCalled
standing_since boots (Some seen) = if seen.boots == boots then standing_of seen.standing else dropped (standing_of seen.standing)

-- where it stands if no boot came since it was last moved
abbrev pub present_since : ℕ → Option Seen → Option held.Standing
present_since boots None = None
present_since boots (Some seen) = if seen.boots == boots then Some seen.standing else None

-- no call was last moved after more boots than these
abbrev pub AreSeenBy : Calls → ℕ → Type 0
AreSeenBy calls boots = (n : ℕ) (seen : Seen) → get nat_eq calls n ≡ Some seen → seen.boots ≤ boots
