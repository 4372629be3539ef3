-- Lists of phrases, by what a phrase of one item is.
use Rattle.std.specs.Prelude.{List, [], ◌∷◌, ◌++◌}
use Rattle.gv_grammar.specs.Text.{plain}
use Rattle.gv_termread.specs.declared.generated.term_table.TheConstants.{CLASS_COMMA}
use Rattle.gv_termread.specs.declared.token.SeenToken.{SeenToken}
use Rattle.gv_termread.specs.Language.{Tokens, Is}

-- X { "," X }
pub data IsItems {X : Type 0} (IsX : X → Tokens → Type 0) : List X → Tokens → Type 0 where
  first : {x : X} {ts : Tokens} → IsX x ts → IsItems IsX (x ∷ []) ts
  next : (t : SeenToken) {x : X} {xs : List X} {ts us : Tokens} → IsItems IsX xs ts → Is CLASS_COMMA t → IsX x us
      → IsItems IsX (xs ++ x ∷ []) (ts ++ (plain t ∷ us))

-- [ X { "," X } ]
pub data IsList {X : Type 0} (IsX : X → Tokens → Type 0) : List X → Tokens → Type 0 where
  empty : IsList IsX [] []
  items : {xs : List X} {ts : Tokens} → IsItems IsX xs ts → IsList IsX xs ts

-- { "," X }
pub data IsRest {X : Type 0} (IsX : X → Tokens → Type 0) : List X → Tokens → Type 0 where
  no_rest : IsRest IsX [] []
  next_rest : (t : SeenToken) {x : X} {xs : List X} {ts us : Tokens} → IsRest IsX xs ts → Is CLASS_COMMA t → IsX x us
      → IsRest IsX (xs ++ x ∷ []) (ts ++ (plain t ∷ us))

-- X { X }
pub data IsSeveral {X : Type 0} (IsX : X → Tokens → Type 0) : List X → Tokens → Type 0 where
  one_of : {x : X} {ts : Tokens} → IsX x ts → IsSeveral IsX (x ∷ []) ts
  more_of : {x : X} {xs : List X} {ts us : Tokens} → IsSeveral IsX xs ts → IsX x us → IsSeveral IsX (xs ++ x ∷ []) (ts ++ us)

-- { X }
pub data IsMany {X : Type 0} (IsX : X → Tokens → Type 0) : List X → Tokens → Type 0 where
  no_more : IsMany IsX [] []
  one_more : {x : X} {xs : List X} {ts us : Tokens} → IsMany IsX xs ts → IsX x us → IsMany IsX (xs ++ x ∷ []) (ts ++ us)
