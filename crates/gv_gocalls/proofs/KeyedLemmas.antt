-- Keys and values of literals, from their end; and keys that are there already told apart from them.
use Rattle.std.proofs.Common.{◌≡◌, ℕ, ◌<◌, ◌≤◌, Bool, true, false, ◌&&◌, ◌||◌, ◌==◌, List, [], ◌∷◌, ◌++◌, length, reverse, Option, Some, None, refl, sym, ap, ◌∙◌, append_assoc, arith}
use Rattle.std.specs.Prelude.{map, not, nat_lt, nat_le, if◌then◌else◌}
use Rattle.std.proofs.lemmas.List.{map-append}
use Rattle.gv_base.specs.Codes.{code_number}
use Rattle.gv_base.specs.declared.answers.Code.{Code}
use Rattle.gv_base.specs.declared.answers.Code.TheVariants.{Undeclared, Twice}
use Rattle.gv_text.proofs.FirstOnes.{one_code}
use Rattle.gv_gosyntax.specs.declared.generated.gosyntax_acts.Part.TheVariants.{Keyed as PKeyed, GoType as PGoType}
use Rattle.gv_gosyntax.specs.declared.lexeme.Lexeme.{Lexeme}
use Rattle.gv_gosyntax.specs.declared.node.Node.{Node}
use Rattle.gv_gosyntax.specs.declared.tree.KeyedExpr.{KeyedExpr as DeclaredKeyed}
use Rattle.gv_gosyntax.specs.Nodes.{IsPartAt}
use Rattle.gv_gonodes.specs.Places.{IsBefore}
use Rattle.gv_gonodes.specs.Keyed.{IsSomeKeyed}
use Rattle.gv_gonodes.specs.GoType.{IsSomeGoType}
use Rattle.gv_gosyntax.specs.declared.tree.GoType.{GoType as TypeTree}
use Rattle.gv_gotypes.specs.Types.{Finding, unless}
use Rattle.gv_gotypes.specs.Trees.{KeyedExpr, keyed_of}
use Rattle.gv_gotypes.specs.Scopes.{Env, FieldType, name_in}
use Rattle.gv_gotypes.specs.Calls.{placed, is_field, field_want, is_keyed_in, keyed_findings}
use Rattle.gv_gotypes.specs.Told.{is_told_before}
use Rattle.gv_gotyped.specs.declared.fault.Fault.{Fault}
use Rattle.gv_gotyped.specs.First.{first_of, earlier, earliest}
use Rattle.gv_gotyped.proofs.Firsts.{first_of_two, first_both, earliest_of_three, earliest_none}
use Rattle.gv_goscopes.specs.Called.{keyed_again}
use Rattle.gv_gocalls.specs.Lists.{keyed_one, keyed_alone}

pub keyed_there : (nodes : List Node) (at inner : ℕ) (ks : List DeclaredKeyed) → at < length nodes → IsBefore nodes at inner (PKeyed ks) → IsSomeKeyed nodes inner
keyed_there nodes at inner ks l is = let k = is.before in record { whole = ks; within = omega (arith, l, k); part = is.is }

pub type_there : (nodes : List Node) (at inner : ℕ) (t : TypeTree) → at < length nodes → IsBefore nodes at inner (PGoType t) → IsSomeGoType nodes inner
type_there nodes at inner t l is = let k = is.before in record { whole = t; within = omega (arith, l, k); part = is.is }

-- ---- keys

-- the keys that are left, before those that were taken
pub record Keys (nodes : List Node) (place : ℕ) (taken : List Lexeme) (ks : List DeclaredKeyed) : Type 0 where
  pub lefts : List DeclaredKeyed
  pub there : IsPartAt nodes place (PKeyed lefts)
  pub same : map (λ (k : DeclaredKeyed). k.key) ks ≡ map (λ (k : DeclaredKeyed). k.key) lefts ++ taken

pub keys_more : (ks lefts before : List DeclaredKeyed) (k : DeclaredKeyed) (taken : List Lexeme) → map (λ (x : DeclaredKeyed). x.key) ks ≡ map (λ (x : DeclaredKeyed). x.key) lefts ++ taken
    → lefts ≡ before ++ k ∷ [] → map (λ (x : DeclaredKeyed). x.key) ks ≡ map (λ (x : DeclaredKeyed). x.key) before ++ k.key ∷ taken
keys_more ks lefts before k taken same made =
    same
    ∙ ap (λ (xs : List DeclaredKeyed). map (λ (x : DeclaredKeyed). x.key) xs ++ taken) made
    ∙ ap (λ (ts : List Lexeme). ts ++ taken) (map-append (λ (x : DeclaredKeyed). x.key) before (k ∷ []))
    ∙ append_assoc (map (λ (x : DeclaredKeyed). x.key) before) (k.key ∷ []) taken

-- ---- values

pub record Valued (env : Env) (fs : Option (List FieldType)) (nodes : List Node) (place : ℕ) (first : Option Fault) (ks : List DeclaredKeyed) : Type 0 where
  pub lefts : List DeclaredKeyed
  pub there : IsPartAt nodes place (PKeyed lefts)
  pub done : List DeclaredKeyed
  pub same : ks ≡ lefts ++ done
  pub told : first ≡ first_of (keyed_alone env fs (map keyed_of done))

pub valued_more : (env : Env) (fs : Option (List FieldType)) (nodes : List Node) (place inner : ℕ) (k : DeclaredKeyed) (before : List DeclaredKeyed) (fault first x : Option Fault)
    (ks : List DeclaredKeyed) (r : Valued env fs nodes place first ks) → r.lefts ≡ before ++ k ∷ [] → IsPartAt nodes inner (PKeyed before)
    → fault ≡ first_of (keyed_one env fs (keyed_of k)) → x ≡ earliest fault first → Valued env fs nodes inner x ks
valued_more env fs nodes place inner k before fault first x ks r made there f is = record {
  lefts = before;
  there = there;
  done = k ∷ r.done;
  same = r.same ∙ ap (λ (ys : List DeclaredKeyed). ys ++ r.done) made ∙ append_assoc before (k ∷ []) r.done;
  told = is ∙ first_of_two (keyed_one env fs (keyed_of k)) (keyed_alone env fs (map keyed_of r.done)) fault first f r.told;
}

-- ---- the order of two faults doesn't matter

abbrev before : Fault → Fault → Bool
before f g = is_told_before f.start f.code g.start g.code

one_place : (m n i j : ℕ) → (nat_lt m n || m == n && nat_le i j) ≡ true → (nat_lt n m || n == m && nat_le j i) ≡ true → (m ≡ n) × (i ≡ j)
one_place m n i j e f = (grind arith, grind arith)

no_place : (m n i j : ℕ) → (nat_lt m n || m == n && nat_le i j) ≡ false → (nat_lt n m || n == m && nat_le j i) ≡ false → ⊥
no_place m n i j e f = grind arith

same_fault : (f g : Fault) → f.start ≡ g.start → f.code ≡ g.code → f ≡ g
same_fault f g e d =
    ap (λ (n : ℕ). let x : Fault = record { start = n; code = f.code } in x) e ∙ ap (λ (c : Code). let x : Fault = record { start = g.start; code = c } in x) d

either_by : (f g : Fault) (p q : Bool) → before f g ≡ p → before g f ≡ q → earlier f g ≡ earlier g f
either_by f g true true d e =
    let o = one_place f.start g.start (code_number f.code) (code_number g.code) d e in
    ap (λ (b : Bool). if b then f else g) d ∙ same_fault f g o.0 (one_code f.code g.code o.1) ∙ sym (ap (λ (b : Bool). if b then g else f) e)
either_by f g true false d e = ap (λ (b : Bool). if b then f else g) d ∙ sym (ap (λ (b : Bool). if b then g else f) e)
either_by f g false true d e = ap (λ (b : Bool). if b then f else g) d ∙ sym (ap (λ (b : Bool). if b then g else f) e)
either_by f g false false d e = absurd (no_place f.start g.start (code_number f.code) (code_number g.code) d e)

pub either : (a b : Option Fault) → earliest a b ≡ earliest b a
either None None = refl
either None (Some g) = refl
either (Some f) None = refl
either (Some f) (Some g) = ap (λ (x : Fault). Some x) (either_by f g (before f g) (before g f) refl refl)

-- two pairs of faults, crosswise
pub crosswise : (a b c d : Option Fault) → earliest (earliest a b) (earliest c d) ≡ earliest (earliest a c) (earliest b d)
crosswise a b c d =
    earliest_of_three a b (earliest c d)
    ∙ ap (λ (x : Option Fault). earliest a x)
    (sym (earliest_of_three b c d) ∙ ap (λ (x : Option Fault). earliest x d) (either b c) ∙ earliest_of_three c b d)
    ∙ sym (earliest_of_three a c (earliest b d))

-- ---- keys that are there already

one_key : (a t p r : List Finding) (x y : Option Fault) → first_of r ≡ earliest x y
    → first_of (a ++ (t ++ (p ++ r))) ≡ earliest (earliest (first_of (a ++ p)) x) (earliest (first_of t) y)
one_key a t p r x y h =
    first_both a (t ++ (p ++ r))
    ∙ ap (λ (z : Option Fault). earliest (first_of a) z)
    (first_both t (p ++ r) ∙ ap (λ (z : Option Fault). earliest (first_of t) z) (first_both p r ∙ ap (λ (z : Option Fault). earliest (first_of p) z) h))
    ∙ ordered (first_of a) (first_of t) (first_of p)
    ∙ ap (λ (z : Option Fault). earliest (earliest z x) (earliest (first_of t) y)) (sym (first_both a p))
  where
    ordered : (b u q : Option Fault) → earliest b (earliest u (earliest q (earliest x y))) ≡ earliest (earliest (earliest b q) x) (earliest u y)
    ordered b u q =
        ap (λ (z : Option Fault). earliest b z)
        (ap (λ (z : Option Fault). earliest u z) (sym (earliest_of_three q x y)) ∙ either u (earliest (earliest q x) y) ∙ earliest_of_three (earliest q x) y u
        ∙ ap (λ (z : Option Fault). earliest (earliest q x) z) (either y u))
        ∙ sym (earliest_of_three b (earliest q x) (earliest u y))
        ∙ ap (λ (z : Option Fault). earliest z (earliest u y)) (sym (earliest_of_three b q x))

pub told_apart : (env : Env) (fs : Option (List FieldType)) (before : List (List ℕ)) (ks : List DeclaredKeyed)
    → first_of (keyed_findings env fs before (map keyed_of ks))
    ≡ earliest (first_of (keyed_alone env fs (map keyed_of ks))) (first_of (keyed_again env.source before (map (λ (k : DeclaredKeyed). k.key) ks)))
told_apart env fs before [] = refl
told_apart env fs before (k ∷ ks) =
    let name = name_in env.source k.key in
    let field : List Finding = unless (is_field fs name) k.key.start Undeclared in
    let again : List Finding = unless (not (is_keyed_in before name)) k.key.start Twice in
    let value = placed env (field_want fs name) (keyed_of k).value in
    let alone = keyed_alone env fs (map keyed_of ks) in
    let rest = keyed_again env.source (name ∷ before) (map (λ (x : DeclaredKeyed). x.key) ks) in
    one_key field again value (keyed_findings env fs (name ∷ before) (map keyed_of ks)) (first_of alone) (first_of rest) (told_apart env fs (name ∷ before) ks)
    ∙ sym (ap (λ (z : Option Fault). earliest z (first_of (again ++ rest))) (first_both (field ++ value) alone)
    ∙ ap (λ (z : Option Fault). earliest (earliest (first_of (field ++ value)) (first_of alone)) z) (first_both again rest))
