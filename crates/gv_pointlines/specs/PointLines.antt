-- The lines of a program's points, as they are printed.
use Rattle.std.specs.Prelude.{ℕ, ◌+◌, List, [], ◌∷◌, ◌++◌, Option, Some, None, codes, slice_get}
use Rattle.std.specs.Fmt.{decimal}
use Rattle.gv_base.specs.declared.answers.Place.{Place}
use Rattle.gv_lang.specs.declared.program.Local.{Local}
use Rattle.gv_lang.specs.Tree.{Action, Let, Div, Rem, New, Load, Store, MakeSlice, At, Put, Len, NewMap, MapGet, MapPut, MapDelete, NewMutex, Lock, Unlock, DiskRead, DiskRead2, DiskWrite, DiskSize, Get64, Put64, Sub, Append, Call, Spawn, Cmd, Do, If, Loop, Break, Continue, Return, Proc, Program}
use Rattle.gv_lang.specs.Graph.{Point, points}

-- ---- words

-- a division and a remainder are a Let, and a read of one of two disks is a DiskRead
abbrev pub action_word : Action → List ℕ
action_word (Let x e) = codes "Let"
action_word (Div x a b) = codes "Let"
action_word (Rem x a b) = codes "Let"
action_word (New x of vs) = codes "New"
action_word (Load x p of field) = codes "Load"
action_word (Store p of field e) = codes "Store"
action_word (MakeSlice x item n) = codes "MakeSlice"
action_word (At x s i) = codes "At"
action_word (Put s i v) = codes "Put"
action_word (Len x s) = codes "Len"
action_word (NewMap x) = codes "NewMap"
action_word (MapGet x ok m k) = codes "MapGet"
action_word (MapPut m k v) = codes "MapPut"
action_word (MapDelete m k) = codes "MapDelete"
action_word (NewMutex x) = codes "NewMutex"
action_word (Lock m) = codes "Lock"
action_word (Unlock m) = codes "Unlock"
action_word (DiskRead x a) = codes "DiskRead"
action_word (DiskRead2 x ok d a) = codes "DiskRead"
action_word (DiskWrite d a s) = codes "DiskWrite"
action_word (DiskSize x) = codes "DiskSize"
action_word (Get64 x s) = codes "Get64"
action_word (Put64 s v) = codes "Put64"
action_word (Sub x s a b) = codes "Sub"
action_word (Append x item s v) = codes "Append"
action_word (Call xs f es) = codes "Call"
action_word (Spawn f es) = codes "Spawn"

abbrev pub word : Cmd → List ℕ
word (Do a place) = action_word a
word (If e t f place) = codes "If"
word (Loop body place) = codes "Loop"
word (Break place) = codes "Break"
word (Continue place) = codes "Continue"
word (Return es place) = codes "Return"

-- ---- the parts of a line, each with a space before it

abbrev pub name_in : Option Local → List ℕ
name_in None = []
name_in (Some l) = l.name

-- the name of a local; of a number that no local has it is empty
abbrev pub target_text : List Local → ℕ → List ℕ
target_text locals x = codes " " ++ name_in (slice_get locals x)

abbrev pub targets_text : List Local → List ℕ → List ℕ
targets_text locals [] = []
targets_text locals (x ∷ xs) = target_text locals x ++ targets_text locals xs

abbrev pub place_text : Place → List ℕ
place_text place = codes " " ++ decimal place.line ++ codes ":" ++ decimal place.column

abbrev pub number_text : ℕ → List ℕ
number_text k = codes " " ++ decimal k

abbrev pub numbers_text : List ℕ → List ℕ
numbers_text [] = []
numbers_text (k ∷ ks) = number_text k ++ numbers_text ks

-- without a successor there is no arrow
abbrev pub arrow_text : List ℕ → List ℕ
arrow_text [] = []
arrow_text (k ∷ ks) = codes " ->" ++ numbers_text (k ∷ ks)

-- ---- lines

-- a number and a command's word
abbrev pub start_text : ℕ → Cmd → List ℕ
start_text k c = decimal k ++ codes " " ++ word c

-- point k of a procedure with these locals
abbrev pub point_line : List Local → ℕ → Point → List ℕ
point_line locals k p = start_text k p.action ++ targets_text locals p.targets ++ place_text p.place ++ arrow_text p.next

-- points that are numbered from k on
abbrev pub lines_from : List Local → ℕ → List Point → List (List ℕ)
lines_from locals k [] = []
lines_from locals k (p ∷ ps) = point_line locals k p ∷ lines_from locals (k + 1) ps

abbrev pub proc_line : List ℕ → List ℕ
proc_line name = codes "proc " ++ name

-- the procedure's name, and its points
abbrev pub proc_lines : Proc → List (List ℕ)
proc_lines q = proc_line q.name ∷ lines_from q.locals 1 (points q.body)

abbrev pub all_lines : List Proc → List (List ℕ)
all_lines [] = []
all_lines (q ∷ qs) = proc_lines q ++ all_lines qs

abbrev pub point_lines : Program → List (List ℕ)
point_lines g = all_lines g.procs
