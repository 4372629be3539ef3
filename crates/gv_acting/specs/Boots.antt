-- Boot: recovery has returned, the crash has its effect on the fields, and the calls of before have left the table.
use Rattle.std.specs.Prelude.{◌≡◌, ℕ, ◌+◌, true, false, List, [], ◌∷◌, ◌++◌, Some, map, length}
use Rattle.gv_base.specs.declared.answers.Place.{Place}
use Rattle.gv_terms.specs.declared.tree.TermTree.{TermTree}
use Rattle.gv_terms.specs.declared.value.Env.{Env}
use Rattle.gv_terms.specs.declared.value.Value.{Value}
use Rattle.gv_world.specs.Store.{Store as World}
use Rattle.gv_lang.specs.Tree.{Expr, Return}
use Rattle.gv_lang.specs.Todo.{Todo, Run}
use Rattle.gv_lang.specs.Threads.{Frame}
use Rattle.gv_spec.specs.Entry as entry
use Rattle.gv_spec.specs.Move as move
use Rattle.gv_spec.specs.Walks.{dropped}
use Rattle.gv_resources.specs.Kinds as kind
use Rattle.gv_resources.specs.Pieces.{Have, Piece}
use Rattle.gv_resources.specs.Ghost.{Ghost, Shared}
use Rattle.gv_assertions.specs.Atoms.{Atom}
use Rattle.gv_terms.specs.Ranges.{IsValuation}
use Rattle.gv_assertions.specs.Standing.{AreTrueUnder, valued, number_under}
use Rattle.gv_seats.specs.Paths.{Path, Recovers, Opened}
use Rattle.gv_seats.specs.Seats.{Proof, Seat, of_locks}
use Rattle.gv_giving.specs.Rows.{TakesAll}
use Rattle.gv_acting.specs.Acts.{Became, Renews, fields_become, Leased, leases_become, AreOnce, GetNews, KeepsOthers}

-- the record beside the state at the boot: history and explanation have it
abbrev pub booted_to : Ghost → List ℕ → List Value → Ghost
booted_to g choices fields = record g {
  history = g.history ++ entry.Boot ∷ [];
  moves = g.moves ++ move.Boot choices ∷ [];
  walk = record { fields = fields; table = λ call. dropped (g.walk.table call) };
  booted = true;
}

-- a piece has no token, no badge of a call, and none of recovery
pub record IsQuiet (p : Piece) : Type 0 where
  pub tokens : (key v : List Value) → p (Have kind.Token key v) ≡ 0
  pub calls : (key v : List Value) → p (Have kind.OpenCall key v) ≡ 0
  pub recovers : (key v : List Value) → p (Have kind.Recovering key v) ≡ 0

-- The boot of a path is sound, under choices: wherever a frame stands at it, and nothing of the sum is a token or a badge, it stands at the other path
-- beside the same rest once the record beside the state has the boot, with fields that the crash leaves.
abbrev pub IsSoundBoot : Proof → List TermTree → Path → Path → Type 0
IsSoundBoot o choices h k = (w : World) (g : Ghost) (start : Env) (f : Frame) (rest : Piece) → (seat : Seat o w g start f h rest)
    → IsQuiet (λ e. seat.piece e + (seat.pool e + (of_locks w seat.locks e + rest e)))
    → (fields : List Value) × (o.atomic.crashed (map (number_under seat.env) choices) g.walk.fields ≡ Some fields)
    × Seat o w (booted_to g (map (number_under seat.env) choices) fields) start f k rest

-- the crash has this effect wherever the path's facts are true
abbrev pub Crashes : Proof → Path → (choices olds news : List TermTree) → Type 0
Crashes o h choices olds news = (env : Env) → IsValuation env → AreTrueUnder env h.facts
    → o.atomic.crashed (map (number_under env) choices) (valued env olds) ≡ Some (valued env news)

-- boot with choices: at recovery's return, where it shares and the crash invariant is opened, all fields and the leases of those that change
pub data Boots (o : Proof) (h : Path) : List TermTree → Path → Type 0 where
  boots : (es : List Expr) (choices olds news : List TermTree) (leases : List Leased) (became : List Became) (after : List Atom) (place : Place) (rest : Todo)
      → h.todo ≡ Run (Return es place) ∷ rest → h.procedure.role ≡ Recovers → h.mode ≡ Shared → h.bracket ≡ Opened → h.booted ≡ false
      → length olds ≡ length o.leased → length news ≡ length olds → AreOnce leases → GetNews news leases
      → Crashes o h choices olds news → KeepsOthers o h olds news leases
      → Renews h.atoms after became → TakesAll became (fields_become 0 olds news ++ leases_become leases) []
      → Boots o h choices (record h { atoms = after; booted = true })
