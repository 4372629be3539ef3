-- The sites of a body: for each of its commands, in the order of the text, what is to do from it on. Every item bears the number
-- of its command, so two commands that look alike are two sites.
use Rattle.std.specs.Prelude.{ℕ, zero, suc, ◌+◌, Bool, true, false, List, [], ◌∷◌, ◌++◌, Option, Some, None, slice_get, map, if◌then◌else◌}
use Rattle.gv_base.specs.declared.answers.Place.{Place}
use Rattle.gv_lang.specs.Tree.{Cmd, Do, If, Loop, Break, Continue, Return, Block, finish, next}
use Rattle.gv_lang.specs.Todo.{Item, Run, Mark, Todo}
use Rattle.gv_lang.specs.Graph.{Point, size, command_size, sets}

-- item k of a list, from 1 on
abbrev pub nth : {A : Type 0} → List A → ℕ → Option A
nth xs zero = None
nth xs (suc i) = slice_get xs i

-- ---- what is to do, with numbers

pub data Numbered : Type 0 where
  RunAt : ℕ → Cmd → Numbered
  -- the mark of a loop, whose body's commands are numbered from here
  MarkAt : ℕ → Block → Numbered

-- without its number
abbrev pub plain_item : Numbered → Item
plain_item (RunAt n c) = Run c
plain_item (MarkAt n body) = Mark body

abbrev pub plain : List Numbered → Todo
plain z = map plain_item z

-- the block's commands, numbered from n, before the rest
abbrev pub numbered_put : ℕ → Block → List Numbered → List Numbered
numbered_put n finish z = z
numbered_put n (next c b) z = RunAt n c ∷ numbered_put (n + command_size c) b z

-- drops through the innermost mark
abbrev pub numbered_left : List Numbered → Option (List Numbered)
numbered_left [] = None
numbered_left (RunAt n c ∷ z) = numbered_left z
numbered_left (MarkAt n body ∷ z) = Some z

-- drops up to the innermost mark, and puts its loop's body again
abbrev pub numbered_repeated : List Numbered → Option (List Numbered)
numbered_repeated [] = None
numbered_repeated (RunAt n c ∷ z) = numbered_repeated z
numbered_repeated (MarkAt n body ∷ z) = Some (numbered_put n body (MarkAt n body ∷ z))

-- what is to do after the next command, as the table of steps has it; the blocks of a command are numbered right behind it
abbrev pub numbered_onward : Bool → List Numbered → Option (List Numbered)
numbered_onward v [] = None
numbered_onward v (MarkAt n body ∷ z) = None
numbered_onward v (RunAt n (Do a place) ∷ z) = Some z
numbered_onward v (RunAt n (If e t f place) ∷ z) = Some (if v then numbered_put (n + 1) t z else numbered_put (n + 1 + size t) f z)
numbered_onward v (RunAt n (Loop body place) ∷ z) = Some (numbered_put (n + 1) body (MarkAt (n + 1) body ∷ z))
numbered_onward v (RunAt n (Break place) ∷ z) = numbered_left z
numbered_onward v (RunAt n (Continue place) ∷ z) = numbered_repeated z
numbered_onward v (RunAt n (Return es place) ∷ z) = None

-- the number of the next command, 0 where there is none
abbrev pub here : List Numbered → ℕ
here [] = 0
here (RunAt n c ∷ z) = n
here (MarkAt n body ∷ z) = 0

abbrev pub number : Option (List Numbered) → ℕ
number None = 0
number (Some z) = here z

-- ---- sites

pub record Site : Type 0 where
  pub number : ℕ
  pub command : Cmd
  pub rest : List Numbered

abbrev pub to_do : Site → List Numbered
to_do s = RunAt s.number s.command ∷ s.rest

-- those of a block, and of a command, whose numbers begin at n; z is to do behind it
abbrev mutual
  pub block_sites : ℕ → Block → List Numbered → List Site
  block_sites n finish z = []
  block_sites n (next c b) z =
      command_sites n c (numbered_put (n + command_size c) b z) ++ block_sites (n + command_size c) b z

  pub command_sites : ℕ → Cmd → List Numbered → List Site
  command_sites n (If e t f place) z =
      record { number = n; command = If e t f place; rest = z } ∷ block_sites (n + 1) t z ++ block_sites (n + 1 + size t) f z
  command_sites n (Loop body place) z =
      record { number = n; command = Loop body place; rest = z } ∷ block_sites (n + 1) body (MarkAt (n + 1) body ∷ z)
  command_sites n (Do a place) z = record { number = n; command = Do a place; rest = z } ∷ []
  command_sites n (Break place) z = record { number = n; command = Break place; rest = z } ∷ []
  command_sites n (Continue place) z = record { number = n; command = Continue place; rest = z } ∷ []
  command_sites n (Return es place) z = record { number = n; command = Return es place; rest = z } ∷ []

-- those of a procedure's body, numbered from 1
abbrev pub sites : Block → List Site
sites body = block_sites 1 body []

-- ---- the point of a site

-- an If and a Loop without their blocks
abbrev pub bare : Cmd → Cmd
bare (Do a place) = Do a place
bare (If e t f place) = If e finish finish place
bare (Loop body place) = Loop finish place
bare (Break place) = Break place
bare (Continue place) = Continue place
bare (Return es place) = Return es place

abbrev pub place_of : Cmd → Place
place_of (Do a place) = place
place_of (If e t f place) = place
place_of (Loop body place) = place
place_of (Break place) = place
place_of (Continue place) = place
place_of (Return es place) = place

abbrev pub targets_of : Cmd → List ℕ
targets_of (Do a place) = sets a
targets_of (If e t f place) = []
targets_of (Loop body place) = []
targets_of (Break place) = []
targets_of (Continue place) = []
targets_of (Return es place) = []

-- the numbers of the commands that the table can take from a site: of an If both, that of its true branch first, also where they
-- are one; of a Return none
abbrev pub reached : Site → Cmd → List ℕ
reached s (Return es place) = []
reached s (If e t f place) = number (numbered_onward true (to_do s)) ∷ number (numbered_onward false (to_do s)) ∷ []
reached s (Do a place) = number (numbered_onward true (to_do s)) ∷ []
reached s (Loop body place) = number (numbered_onward true (to_do s)) ∷ []
reached s (Break place) = number (numbered_onward true (to_do s)) ∷ []
reached s (Continue place) = number (numbered_onward true (to_do s)) ∷ []

-- a command's point, with its successors
abbrev pub point_with : Cmd → List ℕ → Point
point_with c successors = record { action = bare c; place = place_of c; targets = targets_of c; next = successors }

abbrev pub point_of : Site → Point
point_of s = point_with s.command (reached s s.command)
