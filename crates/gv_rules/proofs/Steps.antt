-- Steps of one thread: setting a local, and reading a cell.
use Rattle.std.proofs.Common.{◌≡◌, ℕ, List, [], ◌∷◌, Option, Some, refl, sym, subst, ◌∙◌}
use Rattle.std.specs.Prelude.{slice_set}
use Rattle.gv_base.specs.declared.answers.Place.{Place}
use Rattle.gv_base.specs.declared.answer.Answer.{Answer}
use Rattle.gv_base.specs.declared.answer.Answer.TheVariants.{Next}
use Rattle.gv_base.specs.declared.val.Val.{Val}
use Rattle.gv_terms.specs.declared.tree.TermTree.{TermTree}
use Rattle.gv_terms.specs.declared.value.Env.{Env}
use Rattle.gv_terms.specs.Trees.{value_under}
use Rattle.gv_world.specs.Answers.{and_then}
use Rattle.gv_world.specs.Store.{Store as World}
use Rattle.gv_lang.specs.Tree.{Expr, Let, Do, Program}
use Rattle.gv_lang.specs.Todo.{Todo, Run}
use Rattle.gv_lang.specs.Threads.{Frame}
use Rattle.gv_lang.specs.Table.{sets, as_value}
use Rattle.gv_lang.specs.Values.{value}
use Rattle.gv_lang.specs.Step.{Stepped, GoesOn, stepped, settled}
use Rattle.gv_resources.specs.Pieces.{Piece}
use Rattle.gv_resources.specs.Ghost.{Ghost}
use Rattle.gv_seats.specs.Paths.{Path, goes_on}
use Rattle.gv_seats.specs.Seats.{Proof, Seat, plain}
use Rattle.gv_seats.specs.Changes.{Nothing}
use Rattle.gv_seats.specs.Soundness.{Goes, goes, at_rest}
use Rattle.gv_seats.proofs.Bases.{arrived, base_after}
use Rattle.gv_seats.proofs.Expressions.{expressions_law}
use Rattle.gv_seats.proofs.Locals.{have_set, set_length}
use Rattle.gv_rules.specs.Rows.{lets, IsLocal}
use Rattle.gv_rules.specs.Laws.{LetsLaw}

-- the frame behind a command that sets a local
abbrev pub with_local : Frame → ℕ → Val → Todo → Frame
with_local f x v rest = record f { locals = slice_set f.locals x v; todo = rest }

-- a frame that has set a local to the value of a term stands at the path behind
pub seat_set : (o : Proof) (w : World) (g : Ghost) (start : Env) (f : Frame) (h : Path) (rest : Piece) (x : ℕ) (t : TermTree) (v : Val) (next : Todo) → (s : Seat o w g start f h rest)
    → IsLocal h x → plain v ≡ Some (value_under s.env t) → Seat o w g start (with_local f x v next) (goes_on h next (slice_set h.locals x (Some t)) h.atoms) rest
seat_set o w g start f h rest x t v next s l is = record {
  env = s.env;
  piece = s.piece;
  pool = s.pool;
  locks = s.locks;
  described = record {
    todo = refl;
    as_many = set_length f.locals x v ∙ s.described.as_many ∙ sym (set_length h.locals x (Some t));
    locals = have_set s.env h.locals f.locals x t v s.described.locals s.described.as_many l is;
    valuation = s.described.valuation;
    started = s.described.started;
    facts = s.described.facts;
    stands = s.described.stands;
  };
  base = base_after o w g h.mode h.bracket s.piece s.pool s.locks rest s.base;
  still = s.still;
}

-- ---- x = e

module _ (program : Program) (extra : ℕ) (w : World) (f : Frame) (below : List Frame) where
  abbrev pub left_with : ℕ → Val → Todo → Answer Stepped
  left_with x v next = Next (GoesOn w (at_rest (with_local f x v next) below) [])

  abbrev at : Todo → Frame
  at todo = record f { todo = todo }

  let_step : (x : ℕ) (e : Expr) (place : Place) (next : Todo) (v : Val) → f.todo ≡ Run (Do (Let x e) place) ∷ next → value f.locals e ≡ Some v
      → stepped program extra (at_rest f below) w ≡ left_with x v next
  let_step x e place next v is found =
      subst (λ (todo : Todo). stepped program extra (at_rest (at todo) below) w ≡ left_with x v next) (sym is)
      (subst (λ (r : Option Val). and_then (and_then (as_value r) (λ u. sets w f.locals x u)) (settled (at_rest (at (Run (Do (Let x e) place) ∷ next)) below) w (Some next))
      ≡ left_with x v next) (sym found) refl)

pub lets_law : LetsLaw
lets_law o h k (lets x e t s place next may todo l term sorted) program extra w g start f below rest seat =
    let (v, found, is) = expressions_law seat.env h.locals f.locals seat.described.locals e t s term sorted in
    let step = let_step program extra w f below x e place next v (seat.described.todo ∙ todo) found in
    let after = goes_on h next (slice_set h.locals x (Some t)) h.atoms in
    subst (λ (answer : Answer Stepped). Goes o g start below h (after ∷ []) rest Nothing answer) (sym step)
    (goes (arrived o w g start (with_local f x v next) h after rest refl (seat_set o w g start f h rest x t v next seat l is)))
