-- The text of a script of the small form read from the front, step by step.
use Rattle.std.specs.Prelude.{ℕ, Bool, true, false, if◌then◌else◌, List, [], ◌∷◌, Option, Some, None, option_map, option_and_then, codes}
use Rattle.std.specs.Str.{bytes_eq}
use Rattle.gv_base.specs.declared.answers.Place.{Place}
use Rattle.gv_small.specs.Tokens.{Token, named, signed, arrowed, Placed, plain}
use Rattle.gv_small.specs.Forms.{is_operation_name}
use Rattle.gv_small.specs.Reading.{ReadFrom, behind_placed, word_placed, all_of}
use Rattle.gv_top.specs.declared.small_script.SmallBlock.{SmallBlock}
use Rattle.gv_top.specs.SmallScript.{declarations}

-- the place of this word, where it comes first
abbrev pub place_behind : List ℕ → Token → Place → List Placed → ReadFrom Placed Place
place_behind w (named v) place ts = if bytes_eq v w then Some (place, ts) else None
place_behind w arrowed place ts = None
place_behind w (signed b) place ts = None

abbrev pub place_at : List ℕ → List Placed → ReadFrom Placed Place
place_at w [] = None
place_at w (t ∷ ts) = place_behind w t.token t.place ts

abbrev pub block : List Placed → ReadFrom Placed SmallBlock
block ts =
    option_and_then (λ a. option_and_then (λ b. option_and_then (λ c. option_and_then (λ d.
    option_map (λ after. (record { name = b.0; step = d.0 }, after)) (behind_placed (plain (codes "; }")) d.1))
    (place_at (codes "step") c)) (behind_placed (plain (codes "{ open; sim me; close;")) b.1)) (word_placed is_operation_name a))
    (behind_placed (plain (codes "op")) ts)

abbrev pub is_nothing : List Placed → Bool
is_nothing [] = true
is_nothing (t ∷ ts) = false

abbrev pub blocks : List Placed → ReadFrom Placed (List SmallBlock)
blocks ts = all_of is_nothing block ts

abbrev pub script_ops : List Placed → Option (List SmallBlock)
script_ops ts = option_and_then (λ a. option_map (λ m. m.0) (blocks a)) (behind_placed (plain declarations) ts)
