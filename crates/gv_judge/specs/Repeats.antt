-- Which calls of a history bear the number of an earlier one.
use Rattle.std.specs.Prelude.{◌≡◌, ◌↔◌, ℕ, Bool, List, map, take, length, Some, slice_get, IsTrue}
use Rattle.gv_spec.specs.declared.entry.Entry as held_entry
use Rattle.gv_spec.specs.declared.entry.Entry.TheVariants as held
use Rattle.gv_spec.specs.History.{entry_of}
use Rattle.gv_judge.specs.SearchLaws.{IsIn}
use Rattle.gv_judge.specs.Calls.{numbers_called}

-- an entry is a call under a number that a call before it bears
abbrev pub IsRepeat : List held_entry.Entry → held_entry.Entry → Type 0
IsRepeat before (held.Call number op args) = IsIn number (numbers_called (map entry_of before))
IsRepeat before (held.Answer number reply) = ⊥
IsRepeat before held.Crash = ⊥
IsRepeat before held.Boot = ⊥

-- these are the numbers of the calls among entries
abbrev pub AreSeen : List held_entry.Entry → List ℕ → Type 0
AreSeen before seen = (n : ℕ) → IsIn n seen ↔ IsIn n (numbers_called (map entry_of before))

-- of each entry of a history it is told whether it is one
pub record AreRepeats (history : List held_entry.Entry) (told : List Bool) : Type 0 where
  pub count : length told ≡ length history
  pub each : (k : ℕ) (e : held_entry.Entry) (b : Bool) → slice_get history k ≡ Some e → slice_get told k ≡ Some b → IsTrue b ↔ IsRepeat (take k history) e
