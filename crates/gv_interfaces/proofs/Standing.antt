-- The name of a method stands in the text of its package.
use Rattle.std.proofs.Common.{◌≡◌, ℕ, Bool, true, false, List, [], ◌∷◌, ◌++◌, Option, Some, None, refl, sym, ap, subst, ◌∙◌, append_assoc}
use Rattle.std.specs.Prelude.{◌&&◌, codes, if◌then◌else◌}
use Rattle.std.specs.Str.{bytes_eq}
use Rattle.std.proofs.lemmas.Slice.Eq.{bytes_eq-Decides}
use Rattle.gv_base.specs.declared.answers.Place.{Place}
use Rattle.gv_base.specs.declared.small.Small.{Small}
use Rattle.gv_base.specs.declared.small.SmallOp.{SmallOp}
use Rattle.gv_base.specs.declared.small.Part.{Part}
use Rattle.gv_base.specs.declared.small.Turn.{Turn}
use Rattle.gv_small.specs.Tokens.{Piece, Placed, Token, named as word, signed, plain, cut, kinds, tokens_in, tokens_of}
use Rattle.gv_small.specs.Forms.{Many, IsNextParameter, next, AreParameters, none, some, IsTurn, plus, minus, IsSum, number, turns, MayEnd, absent, present, more}
use Rattle.gv_small.proofs.Cuts.{cut_only}
use Rattle.gv_gotree.specs.SmallPackage.{IsMethod, method, IsPackage, whole, IsSmallPackage}
use Rattle.gv_interfaces.specs.Interfaces.{named}
use Rattle.gv_interfaces.specs.Places.{is_word, is_closing, place_behind, method_place}

-- ---- a name behind a `)`

closing_token : plain (codes ")") ≡ signed 41 ∷ []
unfolding cut
closing_token = refl

found_or : (b : Bool) (p : Place) (r : Option Place) → ((q : Place) × (r ≡ Some q)) → (q : Place) × ((if b then Some p else r) ≡ Some q)
found_or true p r h = (p, refl)
found_or false p r h = h

-- the name stands right behind a `)`
pub record Stands (name : List ℕ) (ks : List Token) : Type 0 where
  front : List Token
  after : List Token
  is : ks ≡ front ++ signed 41 ∷ word name ∷ after

first_is : (name : List ℕ) (t : Placed) (ts : List Placed) → t.token ≡ word name → place_behind name true (t ∷ ts) ≡ Some t.place
first_is name t ts e =
    ap (λ b. if b then Some t.place else place_behind name (is_closing t.token) ts) (ap (is_word name) e ∙ (bytes_eq-Decides name name).1 refl)

stands_at : (name : List ℕ) (ts : List Placed) (closed : Bool) (front after : List Token) → kinds ts ≡ front ++ signed 41 ∷ word name ∷ after
    → (q : Place) × (place_behind name closed ts ≡ Some q)
stands_at name [] closed [] after e = absurd cc
stands_at name [] closed (f ∷ front) after e = absurd cc
stands_at name (t ∷ []) closed [] after e = absurd cc
stands_at name (t ∷ u ∷ us) closed [] after e =
    let one : t.token ≡ signed 41 = cc in
    let two : u.token ≡ word name = cc in
    let here : place_behind name (is_closing t.token) (u ∷ us) ≡ Some u.place =
    ap (λ k. place_behind name (is_closing k) (u ∷ us)) one ∙ first_is name u us two in
    found_or (closed && is_word name t.token) t.place (place_behind name (is_closing t.token) (u ∷ us)) (u.place, here)
stands_at name (t ∷ ts) closed (f ∷ front) after e =
    let rest : kinds ts ≡ front ++ signed 41 ∷ word name ∷ after = cc in
    found_or (closed && is_word name t.token) t.place (place_behind name (is_closing t.token) ts) (stands_at name ts (is_closing t.token) front after rest)

-- ---- what tokens go on with

abbrev GoesOn : List Token → List Token → Type 0
GoesOn ts r = (front : List Token) × (ts ≡ front ++ r)

then_on : (a b c : List Token) → GoesOn a b → GoesOn b c → GoesOn a c
then_on a b c (f, h) (g, k) = (f ++ g, h ∙ ap (λ (us : List Token). f ++ us) k ∙ sym (append_assoc f g c))

many_go : {A : Type 0} (P : A → List Token → List Token → Type 0) → ((a : A) (ts r : List Token) → P a ts r → GoesOn ts r)
    → (xs : List A) (ts r : List Token) → Many P xs ts r → GoesOn ts r
many_go P h xs ts r none = ([], refl)
many_go P h (x ∷ xs) ts r (more {middle = m} p k) = then_on ts m r (h x ts m p) (many_go P h xs m r k)

next_goes : (kind : List Token) (n : List ℕ) (ts r : List Token) → IsNextParameter kind n ts r → GoesOn ts r
next_goes kind n ts r (next e) = (signed 44 ∷ word n ∷ kind, refl)

parameters_go : (kind : List Token) (ns : List (List ℕ)) (ts r : List Token) → AreParameters kind ns ts r → GoesOn ts r
parameters_go kind ns ts r none = ([], refl)
parameters_go kind (n ∷ ns) ts r (some {ts = us} e m) =
    then_on (word n ∷ (kind ++ us)) us r (word n ∷ kind, refl) (many_go (IsNextParameter kind) (next_goes kind) ns us r m)

turn_goes : (params : List (List ℕ)) (t : Turn) (ts r : List Token) → IsTurn params t ts r → GoesOn ts r
turn_goes params t ts r (plus {w = w} e) = (signed 43 ∷ word w ∷ [], refl)
turn_goes params t ts r (minus {w = w} e) = (signed 45 ∷ word w ∷ [], refl)

sum_goes : (params : List (List ℕ)) (first : Part) (rest : List Turn) (ts r : List Token) → IsSum params first rest ts r → GoesOn ts r
sum_goes params first rest ts r (number {w = w} e) = (word w ∷ [], refl)
sum_goes params first rest ts r (turns {w = w} {ts = us} e m) =
    then_on (word w ∷ us) us r (word w ∷ [], refl) (many_go (IsTurn params) (turn_goes params) rest us r m)

end_goes : (ts r : List Token) → MayEnd ts r → GoesOn ts r
end_goes ts r absent = ([], refl)
end_goes ts r present = (signed 59 ∷ [], refl)

-- ---- methods

later : (name : List ℕ) (front ks : List Token) → Stands name ks → Stands name (front ++ ks)
later name front ks h = record {
  front = front ++ h.front;
  after = h.after;
  is = ap (λ (us : List Token). front ++ us) h.is ∙ sym (append_assoc front h.front (signed 41 ∷ word name ∷ h.after));
}

later_on : (name : List ℕ) (ts r : List Token) → GoesOn ts r → Stands name r → Stands name ts
later_on name ts r (front, e) h = subst (λ (us : List Token). Stands name us) (sym e) (later name front r h)

-- a method's own name
own_name : (type_name receiver name : List ℕ) (r : List Token)
    → Stands name (plain (codes "func (") ++ word receiver ∷ (plain (codes "*") ++ word type_name ∷ (plain (codes ")") ++ word name ∷ r)))
own_name type_name receiver name r =
    let here : Stands name (plain (codes ")") ++ word name ∷ r) =
    record { front = []; after = r; is = ap (λ (us : List Token). us ++ word name ∷ r) closing_token } in
    later name (plain (codes "func (")) _ (later name (word receiver ∷ []) _ (later name (plain (codes "*")) _ (later name (word type_name ∷ []) _ here)))

-- what comes behind a method
method_goes : (type_name : List ℕ) (op : SmallOp) (ts r : List Token) → IsMethod type_name op ts r → GoesOn ts r
method_goes type_name op ts r (method receiver name params first rest ps ss end after is_r is_n are distinct sum may) =
    let head : List Token = word name ∷ plain (codes "(") in
    let a : GoesOn (plain (codes "func (") ++ word receiver ∷ (plain (codes "*") ++ word type_name ∷ (plain (codes ")") ++ word name ∷ (plain (codes "(") ++ ps)))) ps =
    then_on _ _ ps (plain (codes "func ("), refl) (then_on _ _ ps (word receiver ∷ [], refl) (then_on _ _ ps (plain (codes "*"), refl)
    (then_on _ _ ps (word type_name ∷ [], refl) (then_on _ _ ps (plain (codes ")"), refl) (head, refl))))) in
    let b : GoesOn ps ss = then_on ps (plain (codes ") uint64 { return") ++ ss) ss (parameters_go (plain (codes "uint64")) params ps _ are) (plain (codes ") uint64 { return"), refl) in
    let c : GoesOn ss r = then_on ss end r (sum_goes params first rest ss end sum)
    (then_on end (plain (codes "} ;") ++ r) r (end_goes end _ may) (plain (codes "} ;"), refl)) in
    then_on ts ps r a (then_on ps ss r b c)

named_here : (type_name : List ℕ) (op : SmallOp) (name : List ℕ) (ts r : List Token) → IsMethod type_name op ts r → op.name ≡ name → Stands name ts
named_here type_name op name ts r (method receiver own params first rest ps ss end after is_r is_n are distinct sum may) e =
    subst (λ n. Stands n ts) e (own_name type_name receiver own (plain (codes "(") ++ ps))

methods_named : (type_name name : List ℕ) (ops : List SmallOp) (ts r : List Token) (op : SmallOp) → Many (IsMethod type_name) ops ts r
    → named (λ op. op.name) name ops ≡ Some op → Stands name ts
methods_named type_name name [] ts r op none h = absurd cc
methods_named type_name name (o ∷ os) ts r op (more {middle = m} p k) h =
    by_test (bytes_eq o.name name) refl (λ e. methods_named type_name name os m r op k e)
  where
    by_test : (b : Bool) → bytes_eq o.name name ≡ b → (named (λ op. op.name) name os ≡ Some op → Stands name m) → Stands name ts
    by_test true e behind = named_here type_name o name ts m p ((bytes_eq-Decides o.name name).0 e)
    by_test false e behind =
        later_on name ts m (method_goes type_name o ts m p)
        (behind (sym (ap (λ b. if b then Some o else named (λ op. op.name) name os) e) ∙ h))

package_named : (name : List ℕ) (p : Small) (ts : List Token) (op : SmallOp) → IsPackage p ts → named (λ op. op.name) name p.ops ≡ Some op → Stands name ts
package_named name p ts op (whole own type_name ops end ms n t may methods distinct) h =
    let stands = methods_named type_name name ops ms [] op methods h in
    let ended : Stands name end = later_on name end ms (then_on end (plain (codes "} ;") ++ ms) ms (end_goes end _ may) (plain (codes "} ;"), refl)) stands in
    later name (plain (codes "package")) _ (later name (word own ∷ []) _ (later name (plain (codes "; type")) _ (later name (word type_name ∷ []) _
    (later name (plain (codes "struct { } ; func Recover ( ) *")) _ (later name (word type_name ∷ []) _ (later name (plain (codes "{ return &")) _
    (later name (word type_name ∷ []) _ (later name (plain (codes "{ }")) _ ended))))))))

-- an operation of a package has its name somewhere in the text
pub method_stands : (text name : List ℕ) (p : Small) (op : SmallOp) → IsSmallPackage text p → named (λ op. op.name) name p.ops ≡ Some op
    → (q : Place) × (method_place text name ≡ Some q)
method_stands text name p op s h =
    let stands = package_named name p (kinds (tokens_in true s.pieces)) op s.spelled h in
    let same : kinds (tokens_of true text) ≡ kinds (tokens_in true s.pieces) = ap (λ (ps : List Piece). kinds (tokens_in true ps)) (cut_only text s.pieces s.cut) in
    stands_at name (tokens_of true text) false stands.front stands.after (same ∙ stands.is)

-- so it is found
pub never_absent : (text name : List ℕ) (p : Small) → IsSmallPackage text p → (named (λ op. op.name) name p.ops ≡ None → ⊥) → method_place text name ≡ None → ⊥
never_absent text name p s there nowhere = by_op (named (λ op. op.name) name p.ops) refl
  where
    by_op : (o : Option SmallOp) → named (λ op. op.name) name p.ops ≡ o → ⊥
    by_op None e = there e
    by_op (Some op) e =
        let found = method_stands text name p op s e in
        let clash : None ≡ Some found.0 = sym nowhere ∙ found.1 in
        cc
