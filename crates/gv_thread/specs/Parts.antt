-- What a frame has still to do, as parts that name places of the program.
use Rattle.std.specs.Prelude.{◌≡◌, ℕ, List, [], ◌∷◌, Option, Some, None, fold, take}
use Rattle.gv_lang.specs.Todo as items
use Rattle.gv_lang.specs.Todo.{put, left, repeated}
use Rattle.gv_lang.specs.Plain.{tree_of, body_of}
use Rattle.gv_thread.specs.declared.todo.Part.{Part}
use Rattle.gv_thread.specs.declared.todo.Part.TheVariants as part
use Rattle.gv_thread.specs.declared.todo.Todo.{Todo}

-- a part before what is below it
abbrev pub placed : items.Todo → Part → items.Todo
placed below (part.Run first rest) = items.Run (tree_of first.now) ∷ put (body_of rest.now) below
placed below (part.Mark body) = items.Mark (body_of body.now) ∷ below

abbrev pub placed_if : items.Todo → Option Part → items.Todo
placed_if below None = below
placed_if below (Some p) = placed below p

-- the last part comes first
abbrev pub items_of : List Part → items.Todo
items_of parts = fold placed [] parts

abbrev pub todo_of : Todo → items.Todo
todo_of t = items_of t.parts.items

-- of so many of the parts, from the first on
abbrev pub up_to : Todo → ℕ → items.Todo
up_to t count = items_of (take count t.parts.items)

-- without the next command, where there is one
abbrev pub after_head : items.Todo → items.Todo
after_head [] = []
after_head (items.Mark body ∷ rest) = items.Mark body ∷ rest
after_head (items.Run c ∷ rest) = rest

-- no loop is entered between the two
pub record Passes (below above : items.Todo) : Type 0 where
  pub left : left above ≡ left below
  pub repeated : repeated above ≡ repeated below
