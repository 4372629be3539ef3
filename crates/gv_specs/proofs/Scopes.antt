-- Variables that are declared one after another.
use Rattle.std.proofs.Common.{◌≡◌, ℕ, zero, suc, Bool, true, false, ◌&&◌, not, cond, List, [], ◌∷◌, ◌++◌, Option, Some, None, is_some, is_none, length, take, refl, sym, ap, ◌∙◌, append_assoc, append-nil}
use Rattle.std.specs.Prelude.{slice_get}
use Rattle.std.proofs.Math.Seq.{take-append_seam}
use Rattle.std.specs.List.{find}
use Rattle.std.specs.Str.{bytes_eq}
use Rattle.gv_terms.specs.declared.var.Var.{Var}
use Rattle.gv_atomic.specs.Typed.{names_of, are_names, is_free}
use Rattle.gv_atomic.specs.Marks.{is_new}
use Rattle.gv_atomic.proofs.DistinctNames.{names_more, parted, both}
use Rattle.gv_atomic.proofs.OneByOne.{names_append}
use Rattle.gv_atomic.proofs.Vars.{named}
use Rattle.gv_terms.specs.declared.sort.Sort.{Sort}
use Rattle.gv_terms.specs.Scopes.{sort_under}
use Rattle.gv_specs.specs.Names.{with_var, with_vars}

-- one variable after others
pub with_one : (vars vs : List Var) (v : Var) → with_vars vars (vs ++ v ∷ []) ≡ with_var (with_vars vars vs) v
with_one vars [] v = refl
with_one vars (w ∷ vs) v = with_one (with_var vars w) vs v

pub new_added : (vars : List Var) (v : Var) → is_new (names_of vars) v.name ≡ true → with_var vars v ≡ vars ++ v ∷ []
new_added vars v e = rw e refl

pub old_kept : (vars : List Var) (v : Var) → is_new (names_of vars) v.name ≡ false → with_var vars v ≡ vars
old_kept vars v e = rw e refl

-- variables only come behind others
pub grown_by : (vars vs : List Var) → (rest : List Var) × (with_vars vars vs ≡ vars ++ rest)
grown_by vars [] = ([], sym (append-nil vars))
grown_by vars (v ∷ vs) = step (is_new (names_of vars) v.name) refl (grown_by (vars ++ v ∷ []) vs) (grown_by vars vs)
  where
    step : (b : Bool) → is_new (names_of vars) v.name ≡ b → ((rest : List Var) × (with_vars (vars ++ v ∷ []) vs ≡ (vars ++ v ∷ []) ++ rest)) → ((rest : List Var) × (with_vars vars vs ≡ vars ++ rest))
        → (rest : List Var) × (with_vars (with_var vars v) vs ≡ vars ++ rest)
    step true e more same = (v ∷ more.0, ap (λ (ws : List Var). with_vars ws vs) (new_added vars v e) ∙ more.1 ∙ append_assoc vars (v ∷ []) more.0)
    step false e more same = (same.0, ap (λ (ws : List Var). with_vars ws vs) (old_kept vars v e) ∙ same.1)

-- each bears a name that none before it does
pub record AreNew (vars vs : List Var) : Type 0 where
  pub each : (i : ℕ) (v : Var) → slice_get vs i ≡ Some v → is_new (names_of (vars ++ take i vs)) v.name ≡ true

pub are_new : (vars vs : List Var) → ((i : ℕ) (v : Var) → slice_get vs i ≡ Some v → is_new (names_of (with_vars vars (take i vs))) v.name ≡ true) → AreNew vars vs
are_new vars [] h = record { each = λ i v e. absurd cc }
are_new vars (v ∷ vs) h =
    let first : is_new (names_of vars) v.name ≡ true = h 0 v refl in
    let more : with_var vars v ≡ vars ++ v ∷ [] = new_added vars v first in
    let rest : AreNew (vars ++ v ∷ []) vs = are_new (vars ++ v ∷ []) vs (λ i w e. ap (λ (ws : List Var). is_new (names_of (with_vars ws (take i vs))) w.name) (sym more) ∙ h (suc i) w e) in
    record { each = step first rest }
  where
    step : is_new (names_of vars) v.name ≡ true → AreNew (vars ++ v ∷ []) vs → (i : ℕ) (w : Var) → slice_get (v ∷ vs) i ≡ Some w → is_new (names_of (vars ++ take i (v ∷ vs))) w.name ≡ true
    step first rest zero w e = let same : v ≡ w = cc in ap (λ (ws : List Var). is_new (names_of ws) w.name) (append-nil vars) ∙ ap (λ (x : Var). is_new (names_of vars) x.name) (sym same) ∙ first
    step first rest (suc i) w e = ap (λ (ws : List Var). is_new (names_of ws) w.name) (sym (append_assoc vars (v ∷ []) (take i vs))) ∙ rest.each i w e

new_rest : (vars : List Var) (v : Var) (vs : List Var) → AreNew vars (v ∷ vs) → AreNew (vars ++ v ∷ []) vs
new_rest vars v vs h = record { each = λ i w e. ap (λ (ws : List Var). is_new (names_of ws) w.name) (append_assoc vars (v ∷ []) (take i vs)) ∙ h.each (suc i) w e }

new_first : (vars : List Var) (v : Var) (vs : List Var) → AreNew vars (v ∷ vs) → is_new (names_of vars) v.name ≡ true
new_first vars v vs h = ap (λ (ws : List Var). is_new (names_of ws) v.name) (sym (append-nil vars)) ∙ h.each 0 v refl

-- then all count
pub new_all : (vars vs : List Var) → AreNew vars vs → with_vars vars vs ≡ vars ++ vs
new_all vars [] h = sym (append-nil vars)
new_all vars (v ∷ vs) h =
    ap (λ (ws : List Var). with_vars ws vs) (new_added vars v (new_first vars v vs h)) ∙ new_all (vars ++ v ∷ []) vs (new_rest vars v vs h) ∙ append_assoc vars (v ∷ []) vs

-- and the first of them too
pub new_take : (vars vs : List Var) (k : ℕ) → AreNew vars vs → AreNew vars (take k vs)
new_take vars vs zero h = record { each = λ i v e. absurd cc }
new_take vars [] (suc k) h = h
new_take vars (v ∷ vs) (suc k) h =
    let rest : AreNew (vars ++ v ∷ []) (take k vs) = new_take (vars ++ v ∷ []) vs k (new_rest vars v vs h) in
    record { each = step (new_first vars v vs h) rest }
  where
    step : is_new (names_of vars) v.name ≡ true → AreNew (vars ++ v ∷ []) (take k vs) → (i : ℕ) (w : Var) → slice_get (v ∷ take k vs) i ≡ Some w → is_new (names_of (vars ++ take i (v ∷ take k vs))) w.name ≡ true
    step first rest zero w e = let same : v ≡ w = cc in ap (λ (ws : List Var). is_new (names_of ws) w.name) (append-nil vars) ∙ ap (λ (x : Var). is_new (names_of vars) x.name) (sym same) ∙ first
    step first rest (suc i) w e = ap (λ (ws : List Var). is_new (names_of ws) w.name) (sym (append_assoc vars (v ∷ []) (take i (take k vs)))) ∙ rest.each i w e

-- and all names are distinct
pub new_names : (vars vs : List Var) → are_names (names_of vars) ≡ true → AreNew vars vs → are_names (names_of (vars ++ vs)) ≡ true
new_names vars [] e h = ap (λ (ws : List Var). are_names (names_of ws)) (append-nil vars) ∙ e
new_names vars (v ∷ vs) e h =
    let one : are_names (names_of (vars ++ v ∷ [])) ≡ true = ap are_names (names_append vars (v ∷ [])) ∙ names_more (names_of vars) v.name e (new_first vars v vs h) in
    ap (λ (ws : List Var). are_names (names_of ws)) (sym (append_assoc vars (v ∷ []) vs)) ∙ new_names (vars ++ v ∷ []) vs one (new_rest vars v vs h)

-- what is new behind others is new without them

found_more : (ns ms : List (List ℕ)) (n : List ℕ) → is_some (find (bytes_eq n) (ns ++ ms)) ≡ false → is_some (find (bytes_eq n) ms) ≡ false
found_more [] ms n e = e
found_more (m ∷ ns) ms n e = step (bytes_eq n m) (found_more ns ms n) e
  where
    step : (b : Bool) → (is_some (find (bytes_eq n) (ns ++ ms)) ≡ false → is_some (find (bytes_eq n) ms) ≡ false) → is_some (cond b (Some m) (find (bytes_eq n) (ns ++ ms))) ≡ false → is_some (find (bytes_eq n) ms) ≡ false
    step true g f = absurd cc
    step false g f = g f

negated : (b : Bool) → not b ≡ true → b ≡ false
negated true e = absurd cc
negated false e = refl

new_alone : (ns ms : List (List ℕ)) (n : List ℕ) → is_new (ns ++ ms) n ≡ true → is_new ms n ≡ true
new_alone ns ms n e =
    let two = parted (is_free n) (not (is_some (find (bytes_eq n) (ns ++ ms)))) e in
    both (is_free n) (not (is_some (find (bytes_eq n) ms))) two.0 (ap not (found_more ns ms n (negated (is_some (find (bytes_eq n) (ns ++ ms))) two.1)))

pub new_without : (vars vs : List Var) → AreNew vars vs → AreNew [] vs
new_without vars vs h = record { each = λ i v e. new_alone (names_of vars) (names_of (take i vs)) v.name (ap (λ (ns : List (List ℕ)). is_new ns v.name) (sym (names_append vars (take i vs))) ∙ h.each i v e) }

-- look-ups

pub turned_round : (a r : Bool) → a ≡ not r → r ≡ not a
turned_round true true e = absurd cc
turned_round true false e = refl
turned_round false true e = refl
turned_round false false e = absurd cc

none_not : (o : Option Sort) → is_none o ≡ not (is_some o)
none_not None = refl
none_not (Some s) = refl

-- a name that is no constant is new where no variable bears it
pub new_of : (vars : List Var) (n : List ℕ) → is_free n ≡ true → is_none (sort_under vars n) ≡ is_new (names_of vars) n
new_of vars n free = none_not (sort_under vars n) ∙ ap not (sym (named vars n)) ∙ ap (λ b. b && not (is_some (find (bytes_eq n) (names_of vars)))) (sym free)

pub never_new : (vars : List Var) (n : List ℕ) → is_free n ≡ false → is_new (names_of vars) n ≡ false
never_new vars n e = ap (λ b. b && not (is_some (find (bytes_eq n) (names_of vars)))) e

pub none_new : (vars : List Var) (n : List ℕ) → is_new (names_of vars) n ≡ true → is_none (sort_under vars n) ≡ true
none_new vars n e = none_not (sort_under vars n) ∙ ap not (sym (named vars n)) ∙ (parted (is_free n) (not (is_some (find (bytes_eq n) (names_of vars)))) e).1

-- what was there first stays in front

pub kept_front : (vars ps qs : List Var) → take (length vars) (with_vars (with_vars vars ps) qs) ≡ vars
kept_front vars ps qs =
    let g = grown_by vars ps in
    let h = grown_by (with_vars vars ps) qs in
    ap (take (length vars)) (h.1 ∙ ap (λ (vs : List Var). vs ++ h.0) g.1 ∙ append_assoc vars g.0 h.0) ∙ take-append_seam vars (g.0 ++ h.0)
