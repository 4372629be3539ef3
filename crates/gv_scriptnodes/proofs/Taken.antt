-- Items that are taken off the end of a list, the last one first.
use Rattle.std.proofs.Common.{◌≡◌, ℕ, ◌+◌, List, [], ◌∷◌, ◌++◌, length, refl, sym, ap, ◌∙◌, arith}
use Rattle.std.specs.Prelude.{map}
use mathlib.Core.List.{reverse}
use Rattle.std.proofs.lemmas.List.{reverse-append}
use Rattle.gv_termread.specs.declared.token.SeenToken.{SeenToken}
use Rattle.gv_scriptsyntax.specs.declared.tree.Par.{Par}
use Rattle.gv_scriptnodes.specs.Lasts.{IsItem, IsLeft, IsCounted}

module _ {T U : Type 0} (IsAt : ℕ → List U → Type 0) (told : U → T) where
  -- nothing is taken yet
  pub none_taken : (place : ℕ) (whole : List U) → IsAt place whole → IsLeft IsAt told place [] whole
  none_taken place whole at = record { rest = whole; behind = []; at = at; same = refl; made = nil whole }
    where
      nil : (xs : List U) → xs ≡ xs ++ []
      nil [] = refl
      nil (x ∷ xs) = ap (λ (ys : List U). x ∷ ys) (nil xs)

  join : (xs : List U) (x : U) (ys : List U) → (xs ++ x ∷ []) ++ ys ≡ xs ++ x ∷ ys
  join [] x ys = refl
  join (z ∷ xs) x ys = ap (λ (zs : List U). z ∷ zs) (join xs x ys)

  -- the last one of those that are left is taken
  pub one_taken : (place before : ℕ) (item : T) (taken : List T) (whole : List U) → IsLeft IsAt told place taken whole
      → ((rest : List U) → IsAt place rest → IsItem IsAt (λ found last. found ≡ told last) item before rest) → IsLeft IsAt told before (taken ++ item ∷ []) whole
  one_taken place before item taken whole left last =
      let i = last left.rest left.at in
      record {
        rest = i.rest;
        behind = i.last ∷ left.behind;
        at = i.at;
        same = reverse-append taken (item ∷ []) ∙ (ap (λ (x : T). x ∷ reverse taken) i.same ∙ ap (λ (xs : List T). told i.last ∷ xs) left.same);
        made = left.made ∙ (ap (λ (xs : List U). xs ++ left.behind) i.made ∙ join i.rest i.last left.behind);
      }

  -- the same list stands at another place
  pub same_taken : (place next : ℕ) (taken : List T) (whole : List U) → IsLeft IsAt told place taken whole → ((rest : List U) → IsAt place rest → IsAt next rest)
      → IsLeft IsAt told next taken whole
  same_taken place next taken whole left moves = record { rest = left.rest; behind = left.behind; at = moves left.rest left.at; same = left.same; made = left.made }

  -- all are taken
  pub all_taken : (place : ℕ) (taken : List T) (whole : List U) → IsLeft IsAt told place taken whole → ((rest : List U) → IsAt place rest → rest ≡ []) → reverse taken ≡ map told whole
  all_taken place taken whole left empty =
      left.same ∙ ap (λ (xs : List U). map told xs) (sym (left.made ∙ ap (λ (xs : List U). xs ++ left.behind) (empty left.rest left.at)))

pub map_same : {T : Type 0} (xs : List T) → map (λ (x : T). x) xs ≡ xs
map_same [] = refl
map_same {T} (x ∷ xs) = ap (λ (ys : List T). x ∷ ys) (map_same xs)

pub par_same : (name other : SeenToken) (sort another : SeenToken) → name ≡ other → sort ≡ another → (let p : Par = record { name = name; sort = sort } in p) ≡ record { name = other; sort = another }
par_same name other sort another p q = cc

-- ---- the same by numbers

long : {U : Type 0} (xs : List U) (x : U) → length (xs ++ x ∷ []) ≡ length xs + 1
long [] x = refl
long (y ∷ xs) x = let l = long xs x in omega (arith, l)

pub none_counted : {U : Type 0} (IsAt : ℕ → List U → Type 0) (place : ℕ) (whole : List U) → IsAt place whole → IsCounted IsAt place 0 whole
none_counted IsAt place whole at = record { rest = whole; at = at; same = omega arith }

pub one_counted : {T U : Type 0} (IsAt : ℕ → List U → Type 0) (Tells : T → U → Type 0) (place before : ℕ) (item : T) (count : ℕ) (whole : List U) → IsCounted IsAt place count whole
    → ((rest : List U) → IsAt place rest → IsItem IsAt Tells item before rest) → IsCounted IsAt before (count + 1) whole
one_counted {T} {U} IsAt Tells place before item count whole left last =
    let i = last left.rest left.at in
    let q : length left.rest ≡ length i.rest + 1 = ap (λ (xs : List U). length xs) i.made ∙ long i.rest i.last in
    let s = left.same in
    record { rest = i.rest; at = i.at; same = omega (arith, q, s) }

pub same_counted : {U : Type 0} (IsAt : ℕ → List U → Type 0) (place next count : ℕ) (whole : List U) → IsCounted IsAt place count whole
    → ((rest : List U) → IsAt place rest → IsAt next rest) → IsCounted IsAt next count whole
same_counted IsAt place next count whole left moves = record { rest = left.rest; at = moves left.rest left.at; same = left.same }

pub all_counted : {U : Type 0} (IsAt : ℕ → List U → Type 0) (place count : ℕ) (whole : List U) → IsCounted IsAt place count whole
    → ((rest : List U) → IsAt place rest → rest ≡ []) → count ≡ length whole
all_counted {U} IsAt place count whole left empty =
    let q : length left.rest ≡ 0 = ap (λ (xs : List U). length xs) (empty left.rest left.at) in
    let s = left.same in
    omega (arith, q, s)
