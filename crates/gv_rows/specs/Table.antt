-- Some rows of the table, each a premise or a gift a line.
use Rattle.std.specs.Prelude.{true, false, List, [], ◌∷◌}
use Rattle.gv_terms.specs.declared.operator.Operator.TheVariants as op
use Rattle.gv_certs.specs.declared.cause.Cause.TheVariants as cause
use Rattle.gv_resources.specs.Kinds as kind
use Rattle.gv_world.specs.Store.{block_bytes}
use Rattle.gv_rows.specs.Rows.{Head, Owned, Cells, Step, Reads, Becomes, Knows, Sets, Fails, Slot, Literal, Over, OverTwo}

-- x = p.f            slots p, the struct's number, f
abbrev pub load_row : List Step
load_row =
    Reads (Owned kind.Cell) (Owned kind.FrozenCell) (Slot 0 ∷ Slot 1 ∷ Slot 2 ∷ [])  -- cell or ro (p, T.f, v)
    ∷ Sets 0 (Slot 3)  -- x is v
    ∷ []

-- p.f = e            slots p, the struct's number, f, e
abbrev pub store_row : List Step
store_row =
    Reads (Owned kind.Cell) (Owned kind.Cell) (Slot 0 ∷ Slot 1 ∷ Slot 2 ∷ [])  -- cell(p, T.f, v)
    ∷ Becomes 0 (Owned kind.Cell) (Slot 0 ∷ Slot 1 ∷ Slot 2 ∷ []) (Slot 3 ∷ [])  -- that cell with e
    ∷ []

-- x = s[i]           slots s, i
abbrev pub at_row : List Step
at_row =
    Reads (Cells false) (Cells true) (Slot 0 ∷ [])  -- slice or roslice (s, t)
    ∷ Knows (OverTwo op.Less (Slot 1) (Over op.Len (Slot 2)))  -- i < len(t)
    ∷ Sets 0 (OverTwo op.At (Slot 2) (Slot 1))  -- x is at(t, i)
    ∷ []

-- block a of disk d = s      slots d, a, s, how many blocks there are
abbrev pub disk_write_row : List Step
disk_write_row =
    Reads (Owned kind.Master) (Owned kind.Master) (Slot 0 ∷ Slot 1 ∷ [])  -- master(d, a, v)
    ∷ Reads (Owned kind.Lease) (Owned kind.Lease) (Slot 0 ∷ Slot 1 ∷ [])  -- lease(d, a, w)
    ∷ Reads (Cells false) (Cells true) (Slot 2 ∷ [])  -- slice or roslice (s, t)
    ∷ Knows (OverTwo op.Less (Slot 1) (Slot 3))  -- a is an address
    ∷ Knows (OverTwo op.Equal (Over op.Len (Slot 6)) (Literal block_bytes))  -- len(t) is a block's
    ∷ Knows (OverTwo op.Equal (Over op.SLen (Slot 2)) (Literal block_bytes))  -- and so is slen(s)
    ∷ Becomes 0 (Owned kind.Master) (Slot 0 ∷ Slot 1 ∷ []) (Slot 6 ∷ [])  -- master and lease with t
    ∷ Becomes 1 (Owned kind.Lease) (Slot 0 ∷ Slot 1 ∷ []) (Slot 6 ∷ [])
    ∷ []

-- freeze A           slots the key of A; by its root
abbrev pub freeze_row : Head → List Step
freeze_row (Owned kind.Cell) =
    Reads (Owned kind.Cell) (Owned kind.Cell) (Slot 0 ∷ Slot 1 ∷ Slot 2 ∷ [])
    ∷ Becomes 0 (Owned kind.FrozenCell) (Slot 0 ∷ Slot 1 ∷ Slot 2 ∷ []) (Slot 3 ∷ [])
    ∷ []
freeze_row (Cells false) =
    Reads (Cells false) (Cells false) (Slot 0 ∷ [])
    ∷ Becomes 0 (Cells true) (Slot 0 ∷ []) (Slot 1 ∷ [])
    ∷ []
freeze_row _ = Fails cause.Mismatch ∷ []
