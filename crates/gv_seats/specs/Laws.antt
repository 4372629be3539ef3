-- What expressions are worth, and what a seat tells.
use Rattle.std.specs.Prelude.{◌≡◌, ℕ, ◌+◌, false, List, [], Option, Some}
use Rattle.gv_base.specs.declared.val.Val.{Val}
use Rattle.gv_terms.specs.declared.tree.TermTree.{TermTree}
use Rattle.gv_terms.specs.declared.value.Env.{Env}
use Rattle.gv_terms.specs.declared.sort.Sort.{Sort}
use Rattle.gv_terms.specs.Trees.{sort_of, value_under}
use Rattle.gv_lang.specs.Tree.{Expr}
use Rattle.gv_lang.specs.Values.{value}
use Rattle.gv_terms.specs.declared.value.Value.{Value}
use Rattle.gv_world.specs.Store.{Store as World}
use Rattle.gv_lang.specs.Threads.{Frame}
use Rattle.gv_resources.specs.Pieces.{Piece}
use Rattle.gv_resources.specs.Ghost.{Ghost, Shared}
use Rattle.gv_resources.specs.Told.{object_at, locked_in}
use Rattle.gv_seats.specs.Paths.{Path, Closed, term_of}
use Rattle.gv_seats.specs.Seats.{Proof, HaveValues, plain, Seat, BegunSeat, IsInstance, Target, OwnsTarget, mark_at, AreOwned}

-- where locals have the values of their terms, an expression whose term has a sort has its term's value
abbrev pub ExpressionsLaw : Type 0
ExpressionsLaw = (env : Env) (terms : List (Option TermTree)) (locals : List Val) → HaveValues env terms locals → (e : Expr) (t : TermTree) (s : Sort)
    → term_of terms e ≡ Some t → sort_of t ≡ Some s → (v : Val) × (value locals e ≡ Some v) × (plain v ≡ Some (value_under env t))

-- what a frame tells that has its seat at a path
pub record TellsOf (o : Proof) (w : World) (g : Ghost) (start : Env) (f : Frame) (h : Path) (rest : Piece) (s : Seat o w g start f h rest) : Type 0 where
  -- no write has begun of what it owns
  pub unmarked : (t : Target) → OwnsTarget s.piece t → mark_at w t ≡ false
  -- in shared mode, where the bracket is closed, the crash invariant holds
  pub invariant : h.mode ≡ Shared → h.bracket ≡ Closed → IsInstance o.preds o.crash [] s.pool
  -- what a mutex guards holds where it is free
  pub guarded : (object : ℕ) (guard : ℕ × List Value) → g.guards object ≡ Some guard → locked_in (object_at w object) ≡ Some false
      → IsInstance o.preds guard.0 guard.1 (s.locks object)

abbrev pub SeatsLaw : Type 0
SeatsLaw = (o : Proof) (w : World) (g : Ghost) (start : Env) (f : Frame) (h : Path) (rest : Piece) (s : Seat o w g start f h rest) → TellsOf o w g start f h rest s

-- in the middle of a frame's write each write that has begun is of what the frame or the rest owns: so others never meet it in what they own
abbrev pub BegunLaw : Type 0
BegunLaw = (o : Proof) (w : World) (g : Ghost) (start : Env) (f : Frame) (h : Path) (rest : Piece) → (s : BegunSeat o w g start f h rest)
    → AreOwned w (λ e. s.piece e + rest e)
