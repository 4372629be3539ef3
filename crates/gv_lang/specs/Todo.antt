-- What a frame has still to do.
use Rattle.std.specs.Prelude.{Bool, List, [], ◌∷◌, Option, Some, None, if◌then◌else◌}
use Rattle.gv_lang.specs.Tree.{Cmd, Do, If, Loop, Break, Continue, Return, Block, finish, next}

pub data Item : Type 0 where
  Run : Cmd → Item
  -- the mark of a loop, with its body
  Mark : Block → Item

abbrev pub Todo : Type 0
Todo = List Item

-- the block's commands before the rest
abbrev pub put : Block → Todo → Todo
put finish rest = rest
put (next c b) rest = Run c ∷ put b rest

-- drops through the innermost mark
abbrev pub left : Todo → Option Todo
left [] = None
left (Run c ∷ rest) = left rest
left (Mark body ∷ rest) = Some rest

-- drops up to the innermost mark, and puts its loop's body again
abbrev pub repeated : Todo → Option Todo
repeated [] = None
repeated (Run c ∷ rest) = repeated rest
repeated (Mark body ∷ rest) = Some (put body (Mark body ∷ rest))

-- the next command, where there is one
abbrev pub head : Todo → Option Cmd
head [] = None
head (Mark body ∷ rest) = None
head (Run c ∷ rest) = Some c

-- what is to do in this frame after the next command; the truth value is the condition's of an If, and nothing
-- else looks at it. None after a Return, and where there is no next command.
abbrev pub onward : Bool → Todo → Option Todo
onward v [] = None
onward v (Mark body ∷ rest) = None
onward v (Run (Do a place) ∷ rest) = Some rest
onward v (Run (If e t f place) ∷ rest) = Some (if v then put t rest else put f rest)
onward v (Run (Loop body place) ∷ rest) = Some (put body (Mark body ∷ rest))
onward v (Run (Break place) ∷ rest) = left rest
onward v (Run (Continue place) ∷ rest) = repeated rest
onward v (Run (Return es place) ∷ rest) = None
