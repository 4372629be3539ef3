-- Which tokens among the nodes of a script begin a numbered command of a block: those directly behind a list of commands, as there the
-- next command begins, or the block ends.
use Rattle.std.specs.Prelude.{ℕ, Bool, false, ◌==◌, ◌||◌, if◌then◌else◌, List, [], ◌∷◌, ◌++◌}
use Rattle.gv_scriptsyntax.specs.declared.generated.script_table.TheConstants.{ACT_COMMAND, ACT_LAST, ACT_NO_COMMANDS}
use Rattle.gv_scriptsyntax.specs.declared.node.Node.{Node}
use Rattle.gv_scriptsyntax.specs.declared.node.Node.TheVariants.{Token, Made}

-- whether an act makes a list of commands
abbrev pub is_list : ℕ → Bool
is_list act = act == ACT_NO_COMMANDS || (act == ACT_COMMAND || act == ACT_LAST)

-- whether a node is one
abbrev pub ends_list : Node → Bool
ends_list (Token t) = false
ends_list (Made act from) = is_list act

-- where a node begins a command, where it stands behind a list or not
abbrev pub begun_by : Bool → Node → List ℕ
begun_by behind (Token t) = if behind then t.start ∷ [] else []
begun_by behind (Made act from) = []

-- where the nodes begin commands, where the first one stands behind a list or not
abbrev pub begun : Bool → List Node → List ℕ
begun behind [] = []
begun behind (node ∷ nodes) = begun_by behind node ++ begun (ends_list node) nodes
