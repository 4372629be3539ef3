-- The small form of a package: a struct without fields, a Recover that makes it, and methods that return a Sum.
use Rattle.std.specs.Prelude.{◌≡◌, ℕ, Bool, true, List, [], ◌∷◌, ◌++◌, map, codes}
use Rattle.gv_base.specs.declared.small.Small.{Small}
use Rattle.gv_base.specs.declared.small.SmallOp.{SmallOp}
use Rattle.gv_base.specs.declared.small.Part.{Part}
use Rattle.gv_base.specs.declared.small.Turn.{Turn}
use Rattle.gv_small.specs.Tokens.{Piece, IsCut, Token, named, plain, kinds, tokens_in}
use Rattle.gv_small.specs.Forms.{is_name, is_operation_name, is_distinct, AreParameters, IsSum, MayEnd, Many}

-- func (RECEIVER *T) NAME(PARAMETERS) uint64 { return SUM }
pub data IsMethod (type_name : List ℕ) : SmallOp → List Token → List Token → Type 0 where
  method : (receiver name : List ℕ) (params : List (List ℕ)) (first : Part) (rest : List Turn) (ps ss end after : List Token) →
      is_name receiver ≡ true → is_operation_name name ≡ true → AreParameters (plain (codes "uint64")) params ps (plain (codes ") uint64 { return") ++ ss) →
      is_distinct (receiver ∷ params) ≡ true → IsSum params first rest ss end → MayEnd end (plain (codes "} ;") ++ after) →
      IsMethod type_name (record { name = name; params = params; first = first; rest = rest })
      (plain (codes "func (") ++ named receiver ∷ (plain (codes "*") ++ named type_name ∷ (plain (codes ")") ++ named name ∷ (plain (codes "(") ++ ps)))) after

-- package NAME; type T struct { }; func Recover() *T { return &T{} }; and the methods of *T
pub data IsPackage : Small → List Token → Type 0 where
  whole : (name type_name : List ℕ) (ops : List SmallOp) (end ms : List Token) →
      is_name name ≡ true → is_name type_name ≡ true → MayEnd end (plain (codes "} ;") ++ ms) → Many (IsMethod type_name) ops ms [] →
      is_distinct (map (λ op. op.name) ops) ≡ true →
      IsPackage (record { ops = ops })
      (plain (codes "package") ++ named name ∷ (plain (codes "; type") ++ named type_name
      ∷ (plain (codes "struct { } ; func Recover ( ) *") ++ named type_name
      ∷ (plain (codes "{ return &") ++ named type_name ∷ (plain (codes "{ }") ++ end)))))

-- the text's tokens, with Go's semicolons, are those of a package with these operations
pub record IsSmallPackage (text : List ℕ) (small : Small) : Type 0 where
  pub pieces : List Piece
  pub cut : IsCut text pieces
  pub spelled : IsPackage small (kinds (tokens_in true pieces))
