-- Locals that left sides set, one after another.
use Rattle.std.proofs.Common.{◌≡◌, ℕ, ◌+◌, List, [], ◌∷◌, ◌++◌, length, map, refl, sym, ap, subst, ◌∙◌, append_assoc, append-nil, arith}
use Rattle.gv_lang.specs.declared.program.LocalKind.{LocalKind}
use Rattle.gv_lang.specs.Plain.{tree_of}
use Rattle.gv_lowering.specs.Operands.{Context}
use Rattle.gv_lowering.specs.Statements as lower
use Rattle.gv_lowerops.specs.declared.draft.Draft.{Draft}
use Rattle.gv_lowerops.proofs.Behind.{count_behind}
use Rattle.gv_lowermoves.specs.declared.locals.Locals.{Locals}
use Rattle.gv_lowermoves.specs.declared.locals.Target.{Target}
use Rattle.gv_lowermoves.specs.Moves.{target_in, AreGiven, IsGiven}

abbrev behind_one : Context → ℕ → lower.Target → List lower.Target → List ℕ × List LocalKind
behind_one c n t ts = lower.given c (n + length (lower.given c n (t ∷ [])).1) ts

same_locals : (c : Context) (x n m : ℕ) (ts : List lower.Target) → n ≡ m → x ∷ (lower.given c n ts).0 ≡ x ∷ (lower.given c m ts).0
same_locals c x n m ts h = ap (λ (k : ℕ). x ∷ (lower.given c k ts).0) h

same_temps : (c : Context) (n m : ℕ) (ts : List lower.Target) → n ≡ m → (lower.given c n ts).1 ≡ (lower.given c m ts).1
same_temps c n m ts h = ap (λ (k : ℕ). (lower.given c k ts).1) h

-- those of the first, and those of the others behind it
given_locals : (c : Context) (n : ℕ) (t : lower.Target) (ts : List lower.Target) → (lower.given c n (t ∷ ts)).0 ≡ (lower.given c n (t ∷ [])).0 ++ (behind_one c n t ts).0
given_locals c n (lower.Known x) ts = same_locals c x n (n + 0) ts (omega arith)
given_locals c n (lower.Fresh k) ts = refl

given_temps : (c : Context) (n : ℕ) (t : lower.Target) (ts : List lower.Target) → (lower.given c n (t ∷ ts)).1 ≡ (lower.given c n (t ∷ [])).1 ++ (behind_one c n t ts).1
given_temps c n (lower.Known x) ts = same_temps c n (n + 0) ts (omega arith)
given_temps c n (lower.Fresh k) ts = refl

-- Some have got their locals, and these are left.
pub record Giving (c : Context) (old : Draft) (all left : List Target) (xs : List ℕ) (draft : Draft) : Type 0 where
  pub locals : xs ++ (lower.given c (length draft.temps.items) (map target_in left)).0 ≡ (lower.given c (length old.temps.items) (map target_in all)).0
  pub cmds : map tree_of draft.cmds.items ≡ map tree_of old.cmds.items ++ []
  pub temps : draft.temps.items ++ (lower.given c (length draft.temps.items) (map target_in left)).1 ≡ old.temps.items ++ (lower.given c (length old.temps.items) (map target_in all)).1

pub giving_none : (c : Context) (old : Draft) (all : List Target) (locals : List ℕ) → locals ≡ [] → Giving c old all all locals old
giving_none c old all locals none = record {
  locals = ap (λ (xs : List ℕ). xs ++ (lower.given c (length old.temps.items) (map target_in all)).0) none;
  cmds = sym (append-nil (map tree_of old.cmds.items));
  temps = refl;
}

pub giving_more : (c : Context) (old draft new : Draft) (all left rest : List Target) (t : Target) (locals more : List ℕ) (x : ℕ) → Giving c old all left locals draft → left ≡ t ∷ rest
    → IsGiven c draft t (record { local = x; draft = new }) → more ≡ locals ++ x ∷ [] → Giving c old all rest more new
giving_more c old draft new all left rest t locals more x g is one m =
    let n = length draft.temps.items in
    let here : Giving c old all (t ∷ rest) locals draft = subst (λ (ts : List Target). Giving c old all ts locals draft) is g in
    let first = lower.given c n (target_in t ∷ []) in
    let many = count_behind draft new [] first.1 one.behind in
    let ts = map target_in rest in
    record {
      locals =
          ap (λ (xs : List ℕ). xs ++ (lower.given c (length new.temps.items) ts).0) m
          ∙ (append_assoc locals (x ∷ []) (lower.given c (length new.temps.items) ts).0
          ∙ (ap (λ (xs : List ℕ). locals ++ (xs ++ (lower.given c (length new.temps.items) ts).0)) one.local
          ∙ (ap (λ (k : ℕ). locals ++ (first.0 ++ (lower.given c k ts).0)) many
          ∙ (ap (λ (xs : List ℕ). locals ++ xs) (sym (given_locals c n (target_in t) ts)) ∙ here.locals))));
      cmds = one.behind.cmds ∙ (append-nil (map tree_of draft.cmds.items) ∙ here.cmds);
      temps =
          ap (λ (ks : List LocalKind). ks ++ (lower.given c (length new.temps.items) ts).1) one.behind.temps
          ∙ (append_assoc draft.temps.items first.1 (lower.given c (length new.temps.items) ts).1
          ∙ (ap (λ (k : ℕ). draft.temps.items ++ (first.1 ++ (lower.given c k ts).1)) many
          ∙ (ap (λ (ks : List LocalKind). draft.temps.items ++ ks) (sym (given_temps c n (target_in t) ts)) ∙ here.temps)));
    }

pub giving_all : (c : Context) (old : Draft) (all left : List Target) (made : Locals) → Giving c old all left made.locals.items made.draft → left ≡ [] → AreGiven c old all made
giving_all c old all left made g none =
    let here : Giving c old all [] made.locals.items made.draft = subst (λ (ts : List Target). Giving c old all ts made.locals.items made.draft) none g in
    record {
      locals = sym (append-nil made.locals.items) ∙ here.locals;
      behind = record { cmds = here.cmds; temps = sym (append-nil made.draft.temps.items) ∙ here.temps };
    }

-- two
pub two_given : (c : Context) (old mid : Draft) (t u : Target) (x y : ℕ) (made : Locals) → IsGiven c old t (record { local = x; draft = mid })
    → IsGiven c mid u (record { local = y; draft = made.draft }) → made.locals.items ≡ ([] ++ x ∷ []) ++ y ∷ [] → AreGiven c old (t ∷ u ∷ []) made
two_given c old mid t u x y made g h is =
    let none = giving_none c old (t ∷ u ∷ []) [] refl in
    let first = giving_more c old old mid (t ∷ u ∷ []) (t ∷ u ∷ []) (u ∷ []) t [] ([] ++ x ∷ []) x none refl g refl in
    let second = giving_more c old mid made.draft (t ∷ u ∷ []) (u ∷ []) [] u ([] ++ x ∷ []) made.locals.items y first refl h is in
    giving_all c old (t ∷ u ∷ []) [] made second refl
