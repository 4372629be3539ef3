-- The text of a script of the small form: fixed declarations, and one block of fixed commands for each operation.
use Rattle.std.specs.Prelude.{◌≡◌, ℕ, true, false, List, [], ◌∷◌, ◌++◌, codes}
use Rattle.gv_base.specs.declared.answers.Place.{Place}
use Rattle.gv_small.specs.Tokens.{Piece, IsCut, Token, named, Placed, plain, kinds, tokens_in}
use Rattle.gv_small.specs.Forms.{is_operation_name, Many}
use Rattle.gv_top.specs.declared.small_script.SmallBlock.{SmallBlock}
use Rattle.gv_top.specs.declared.small_script.SmallScript.{SmallScript}

-- `before` begins with tokens of these kinds and goes on with `after`
pub record Takes (ws : List Token) (before after : List Placed) : Type 0 where
  pub front : List Placed
  pub whole : before ≡ front ++ after
  pub kinds_are : kinds front ≡ ws

-- the predicates, the initial fold and the recovery
abbrev pub declarations : List ℕ
declarations = codes "pred Crash() { case () { } } pred H(p: Ref) { case () { } } crash Crash; root H; init { fold Crash() 1 (); } recover { step as (p); share { }; open; boot; fold H(p) 1 (); close; }"

-- op NAME { open; sim me; close; step; }, with the place of its `step`
pub data IsBlock : SmallBlock → List Placed → List Placed → Type 0 where
  block : (name : List ℕ) (place step : Place) (t1 t2 : List Placed) {before after : List Placed} →
      Takes (plain (codes "op")) before (record { token = named name; place = place } ∷ t1) → is_operation_name name ≡ true →
      Takes (plain (codes "{ open; sim me; close;")) t1 (record { token = named (codes "step"); place = step } ∷ t2) → Takes (plain (codes "; }")) t2 after →
      IsBlock (record { name = name; step = step }) before after

-- the text is the declarations and these blocks
pub record IsSmallScript (text : List ℕ) (script : SmallScript) : Type 0 where
  pub pieces : List Piece
  pub cut : IsCut text pieces
  pub blocks : List Placed
  pub declared : Takes (plain declarations) (tokens_in false pieces) blocks
  pub ops : Many IsBlock script.ops blocks []
