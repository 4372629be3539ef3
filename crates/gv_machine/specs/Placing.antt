-- The arguments of a call, as values of a specification, as they are placed in the store.
use Rattle.std.specs.Prelude.{◌≡◌, ◌≤◌, ◌++◌, ℕ, Bool, true, false, List, [], ◌∷◌, Option, Some, None, Result, Ok, Err, Vec, take, length, nat_lt, option_and_then}
use Rattle.std.specs.declared.alloc.Global.{Global}
use Rattle.std.specs.List.{list_all}
use Rattle.gv_base.specs.declared.val.Val.{Val}
use Rattle.gv_base.specs.declared.val.Val.TheVariants as val
use Rattle.gv_words.specs.Words.{words}
use Rattle.gv_world.specs.Disks.{byte_cells}
use Rattle.gv_world.specs.Slices.{whole_of}
use Rattle.gv_world.specs.Store.{Cells, Store as World, fresh, with_new, is_within_limit}
use Rattle.gv_lang.specs.Calls.{is_buffer, all_placed}
use Rattle.gv_store.specs.declared.grow.Grow.{Grow}
use Rattle.gv_store.specs.declared.grow.Grow.TheVariants as grow
use Rattle.gv_terms.specs.declared.value.Value.{Value}
use Rattle.gv_terms.specs.declared.value.Value.TheVariants as value
use Rattle.gv_runs.specs.Machine.{all_given}

-- a word, a truth value or bytes, in range
abbrev pub is_argument : Value → Bool
is_argument (value.Word n) = nat_lt n words
is_argument (value.Bool b) = true
is_argument (value.Bytes x) = is_buffer x
is_argument _ = false

abbrev pub are_arguments : List Value → Bool
are_arguments args = list_all is_argument args

-- the store with an argument's buffer, where it has one
abbrev pub with_argument : World → Value → World
with_argument w (value.Bytes x) = with_new w (Cells (byte_cells x))
with_argument w _ = w

-- an argument as a thread takes it
abbrev pub argument_in : World → Value → Val
argument_in w (value.Word n) = val.Word n
argument_in w (value.Bool b) = val.Bool b
argument_in w (value.Bytes x) = val.Slice (whole_of (fresh w) (length x))
argument_in w _ = val.Unit

abbrev pub with_arguments : World → List Value → World
with_arguments w [] = w
with_arguments w (v ∷ vs) = with_arguments (with_argument w v) vs

abbrev pub arguments_in : World → List Value → List Val
arguments_in w [] = []
arguments_in w (v ∷ vs) = argument_in w v ∷ arguments_in (with_argument w v) vs

-- the arguments as the definition of a call places them
abbrev pub placed_in : World → List Value → Option (World × List Val)
placed_in w args = option_and_then (λ givens. all_placed w givens) (all_given args)

-- one argument was placed, or the limit or memory refuses
abbrev pub Places : World → Val → World → Result Val Grow → World → Type 0
Places wanted value old (Ok v) new = (v ≡ value) × (new ≡ wanted) × (is_within_limit new ≡ true)
Places wanted value old (Err grow.TooMany) new = (is_within_limit wanted ≡ false) × (new ≡ old)
Places wanted value old (Err grow.NoMemory) new = new ≡ old

-- a store that has gained objects behind those of another one
pub record IsGrown (old new : World) : Type 0 where
  pub kept : take (length old.objects) new.objects ≡ old.objects
  pub longer : length old.objects ≤ length new.objects
  pub disks : new.disks ≡ old.disks

-- all arguments were placed behind some values, or the limit or memory refuses, and some may have been placed
abbrev pub PlacesEach : World → List Value → List Val → Result (Unit {0}) Grow → World → List Val → Type 0
PlacesEach old args before (Ok done) new values =
    (values ≡ before ++ arguments_in old args) × (new ≡ with_arguments old args) × (is_within_limit new ≡ true)
PlacesEach old args before (Err grow.TooMany) new values = (is_within_limit (with_arguments old args) ≡ false) × IsGrown old new
PlacesEach old args before (Err grow.NoMemory) new values = IsGrown old new

-- all arguments were placed behind some values, or what is refused changes nothing
abbrev pub PlacesAll : World → List Value → List Val → Result (Vec Val Global) Grow → World → Type 0
PlacesAll old args before (Ok vs) new = (vs.items ≡ before ++ arguments_in old args) × (new ≡ with_arguments old args) × (is_within_limit new ≡ true)
PlacesAll old args before (Err grow.TooMany) new = (is_within_limit (with_arguments old args) ≡ false) × (new ≡ old)
PlacesAll old args before (Err grow.NoMemory) new = new ≡ old
