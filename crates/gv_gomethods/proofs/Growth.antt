-- Structs with the methods of the first declarations, and of one more.
use Rattle.std.proofs.Common.{◌≡◌, ℕ, zero, suc, ◌+◌, ◌<◌, ◌≤◌, Bool, true, false, cond, not, ◌&&◌, ◌||◌, ◌==◌, List, [], ◌∷◌, ◌++◌, Option, Some, None, length, get_or, set, refl, sym, ap, ◌∙◌, append_assoc, subst, arith, map}
use Rattle.std.proofs.lemmas.List.{append-nil}
use Rattle.std.specs.Prelude.{slice_get, slice_range, if◌then◌else◌}
use Rattle.gv_gosyntax.specs.declared.lexeme.Lexeme.{Lexeme}
use Rattle.gv_gotypes.specs.Trees as decl
use Rattle.gv_gotypes.specs.Trees.{Decl, FuncTree}
use Rattle.gv_gotypes.specs.Types.{Finding}
use Rattle.gv_gotypes.specs.Scopes.{Method, StructType, Package, Env, is_blank, name_in}
use Rattle.gv_gotypes.specs.Declarations.{Counts, no_counts, counted, all_fields, is_number, struct_of_method, methods_from, structs_from}
use Rattle.gv_gotypes.specs.Files.{method_twice}
use Rattle.gv_gotyped.specs.declared.fault.Fault.{Fault}
use Rattle.gv_gotyped.specs.First.{first_of, earliest}
use Rattle.gv_gotyped.proofs.Firsts.{earliest_none}
use Rattle.gv_gonames.specs.declared.span.Span.{Span}
use Rattle.gv_gonames.specs.Structs.{StructOf, with_method}
use Rattle.gv_goparts.specs.Parts.{named_method_findings, methods_findings}
use Rattle.gv_goseen.specs.Naming.{span_by, AreBelow, AreFrom, IsGrown}
use Rattle.gv_gostructs.specs.Fields.{in_text, all_in_text}
use Rattle.gv_gostructs.proofs.Rests.{fault_more}
use Rattle.gv_gomethods.specs.Methods.{with_structs, with_method_of, with_head, head_twice, AreIn, method_twice_of, IsGrowing, IsGrowingIn, AreGrowing}

-- how many there are behind these declarations
abbrev pub behind : Counts → List Decl → Counts
behind n [] = n
behind n (d ∷ ds) = behind (counted n d) ds

pub behind_more : (n : Counts) (ds : List Decl) (d : Decl) → behind n (ds ++ d ∷ []) ≡ counted (behind n ds) d
behind_more n [] d = refl
behind_more n (e ∷ ds) d = behind_more (counted n e) ds d

-- ---- methods of the first declarations

split : (env : Env) (k : ℕ) (n : Counts) (ds es : List Decl) → methods_from env k n.procedures (ds ++ es) ≡ methods_from env k n.procedures ds ++ methods_from env k (behind n ds).procedures es
split env k n [] es = refl
split env k n (decl.Struct i gs ∷ ds) es = split env k (counted n (decl.Struct i gs)) ds es
split env k n (decl.Const i u e ∷ ds) es = split env k (counted n (decl.Const i u e)) ds es
split env k n (decl.Func f ∷ ds) es = step (is_number k (struct_of_method env f)) (split env k (counted n (decl.Func f)) ds es)
  where
    m : Method
    m = record { name = name_in env.source f.name; procedure = n.procedures }

    step : (b : Bool) → methods_from env k (suc n.procedures) (ds ++ es) ≡ methods_from env k (suc n.procedures) ds ++ methods_from env k (behind (counted n (decl.Func f)) ds).procedures es
        → cond b (m ∷ methods_from env k (suc n.procedures) (ds ++ es)) (methods_from env k (suc n.procedures) (ds ++ es))
        ≡ cond b (m ∷ methods_from env k (suc n.procedures) ds) (methods_from env k (suc n.procedures) ds) ++ methods_from env k (behind (counted n (decl.Func f)) ds).procedures es
    step true e = ap (λ (ms : List Method). m ∷ ms) e
    step false e = e

-- methods are numbered from here on
from_here : (env : Env) (k a b : ℕ) (ds : List Decl) → a ≤ b → AreFrom a (methods_from env k b ds)
from_here env k a b [] h = tt
from_here env k a b (decl.Struct i gs ∷ ds) h = from_here env k a b ds h
from_here env k a b (decl.Const i u e ∷ ds) h = from_here env k a b ds h
from_here env k a b (decl.Func f ∷ ds) h = step (is_number k (struct_of_method env f)) (from_here env k a (suc b) ds (omega (arith, h)))
  where
    step : (c : Bool) → AreFrom a (methods_from env k (suc b) ds)
        → AreFrom a (cond c (record { name = name_in env.source f.name; procedure = b } ∷ methods_from env k (suc b) ds) (methods_from env k (suc b) ds))
    step true g = (h, g)
    step false g = g

no_fewer : (n : Counts) (ds : List Decl) → n.procedures ≤ (behind n ds).procedures
no_fewer n [] = omega arith
no_fewer n (decl.Struct i gs ∷ ds) = no_fewer (counted n (decl.Struct i gs)) ds
no_fewer n (decl.Const i u e ∷ ds) = no_fewer (counted n (decl.Const i u e)) ds
no_fewer n (decl.Func f ∷ ds) = let h = no_fewer (counted n (decl.Func f)) ds in less n.procedures (behind (counted n (decl.Func f)) ds).procedures h
  where
    less : (a b : ℕ) → suc a ≤ b → a ≤ b
    less a b h = omega (arith, h)

below_here : (env : Env) (k : ℕ) (n : Counts) (ds : List Decl) (top : ℕ) → (behind n ds).procedures ≤ top → AreBelow top (methods_from env k n.procedures ds)
below_here env k n [] top h = tt
below_here env k n (decl.Struct i gs ∷ ds) top h = below_here env k (counted n (decl.Struct i gs)) ds top h
below_here env k n (decl.Const i u e ∷ ds) top h = below_here env k (counted n (decl.Const i u e)) ds top h
below_here env k n (decl.Func f ∷ ds) top h =
    step (is_number k (struct_of_method env f)) (below_here env k (counted n (decl.Func f)) ds top h)
    (less n.procedures (behind (counted n (decl.Func f)) ds).procedures top (no_fewer (counted n (decl.Func f)) ds) h)
  where
    less : (a b c : ℕ) → suc a ≤ b → b ≤ c → a < c
    less a b c h g = omega (arith, h, g)

    step : (c : Bool) → AreBelow top (methods_from env k (suc n.procedures) ds) → n.procedures < top
        → AreBelow top (cond c (record { name = name_in env.source f.name; procedure = n.procedures } ∷ methods_from env k (suc n.procedures) ds) (methods_from env k (suc n.procedures) ds))
    step true g l = (l, g)
    step false g l = g

-- ---- structs with the methods of the first declarations

-- of the structs with these and with all methods, each has the same fields, and some methods more
structs_grow : (env : Env) (all done rest : List Decl) (number k : ℕ) (ds : List Decl) → all ≡ done ++ rest → (p : Package) → ((i : ℕ) → slice_get p.structs (number + i) ≡ slice_get (structs_from env all number ds) i)
    → (text : List ℕ) → IsGrowingIn p (behind no_counts done).procedures (number + k) (slice_get (all_in_text text (structs_from env done number ds)) k)
structs_grow env all done rest number k [] e p h text = h k
structs_grow env all done rest number k (decl.Const i u x ∷ ds) e p h text = structs_grow env all done rest number k ds e p h text
structs_grow env all done rest number k (decl.Func f ∷ ds) e p h text = structs_grow env all done rest number k ds e p h text
structs_grow env all done rest number zero (decl.Struct i gs ∷ ds) e p h text =
    subst (λ (m : ℕ). IsGrowing p (behind no_counts done).procedures m (record { name = name_in env.source i; fields = all_fields env gs; methods = methods_from env number 0 done })) (sym (at number))
    record {
      rest = methods_from env number (behind no_counts done).procedures rest;
      grown = record {
        whole = record { name = name_in env.source i; fields = all_fields env gs; methods = methods_from env number 0 all };
        there = ap (λ (m : ℕ). slice_get p.structs m) (sym (at number)) ∙ h 0;
        fields = refl;
        methods = ap (methods_from env number 0) e ∙ split env number no_counts done rest;
      };
      below = below_here env number no_counts done (behind no_counts done).procedures (omega arith);
      from = from_here env number (behind no_counts done).procedures (behind no_counts done).procedures rest (omega arith);
    }
  where
    at : (n : ℕ) → n + 0 ≡ n
    at n = omega arith
structs_grow env all done rest number (suc k) (decl.Struct i gs ∷ ds) e p h text =
    subst (λ (m : ℕ). IsGrowingIn p (behind no_counts done).procedures m (slice_get (all_in_text text (structs_from env done (suc number) ds)) k)) (on number k)
    (structs_grow env all done rest (suc number) k ds e p (λ j. ap (λ (m : ℕ). slice_get p.structs m) (on number j) ∙ h (suc j)) text)
  where
    on : (n j : ℕ) → suc n + j ≡ n + suc j
    on n j = omega arith

pub all_growing : (env : Env) (all done rest : List Decl) (text : List ℕ) → all ≡ done ++ rest
    → AreGrowing (with_structs env (structs_from env all 0 all)).declared (behind no_counts done).procedures (all_in_text text (structs_from env done 0 all))
all_growing env all done rest text e number =
    subst (λ (m : ℕ). IsGrowingIn (with_structs env (structs_from env all 0 all)).declared (behind no_counts done).procedures m (slice_get (all_in_text text (structs_from env done 0 all)) number)) (none number)
    (structs_grow env all done rest 0 number all e (with_structs env (structs_from env all 0 all)).declared (λ i. ap (λ (m : ℕ). slice_get (structs_from env all 0 all) m) (none i)) text)
  where
    none : (n : ℕ) → 0 + n ≡ n
    none n = omega arith

-- ---- one declaration more

one_method : (env : Env) (k : ℕ) (done : List Decl) (f : FuncTree) → methods_from env k 0 (done ++ decl.Func f ∷ [])
    ≡ methods_from env k 0 done ++ cond (is_number k (struct_of_method env f)) (record { name = name_in env.source f.name; procedure = (behind no_counts done).procedures } ∷ []) []
one_method env k done f = split env k no_counts done (decl.Func f ∷ [])

pub structs_more : (env : Env) (text : List ℕ) (done : List Decl) (f : FuncTree) (number : ℕ) (ds : List Decl) → env.source.text ≡ text
    → with_method_of (struct_of_method env f) (span_by f.name) (behind no_counts done).procedures number (all_in_text text (structs_from env done number ds))
    ≡ all_in_text text (structs_from env (done ++ decl.Func f ∷ []) number ds)
structs_more env text done f number [] e = refl
structs_more env text done f number (decl.Const i u x ∷ ds) e = structs_more env text done f number ds e
structs_more env text done f number (decl.Func g ∷ ds) e = structs_more env text done f number ds e
structs_more env text done f number (decl.Struct i gs ∷ ds) e =
    ap (λ (t : StructOf). t ∷ with_method_of (struct_of_method env f) (span_by f.name) (behind no_counts done).procedures (suc number) (all_in_text text (structs_from env done (suc number) ds)))
    (step (is_number number (struct_of_method env f)) ∙ ap whole (sym (one_method env number done f)))
    ∙ ap (λ (ts : List StructOf). whole (methods_from env number 0 (done ++ decl.Func f ∷ [])) ∷ ts) (structs_more env text done f (suc number) ds e)
  where
    whole : List Method → StructOf
    whole ms = in_text text (record { name = name_in env.source i; fields = all_fields env gs; methods = ms })

    step : (b : Bool) → cond b (with_method (whole (methods_from env number 0 done)) (span_by f.name) (behind no_counts done).procedures) (whole (methods_from env number 0 done))
        ≡ whole (methods_from env number 0 done ++ cond b (record { name = name_in env.source f.name; procedure = (behind no_counts done).procedures } ∷ []) [])
    step true = ap (λ (t : List ℕ). whole (methods_from env number 0 done ++ record { name = slice_range t f.name.start f.name.end; procedure = (behind no_counts done).procedures } ∷ [])) (sym e)
    step false = ap whole (sym (append-nil (methods_from env number 0 done)))

-- a declaration that is no function adds no method
pub structs_same : (env : Env) (done : List Decl) (d : Decl) → ((k : ℕ) → methods_from env k 0 (done ++ d ∷ []) ≡ methods_from env k 0 done) → (number : ℕ) (ds : List Decl)
    → structs_from env (done ++ d ∷ []) number ds ≡ structs_from env done number ds
structs_same env done d h number [] = refl
structs_same env done d h number (decl.Const i u x ∷ ds) = structs_same env done d h number ds
structs_same env done d h number (decl.Func g ∷ ds) = structs_same env done d h number ds
structs_same env done d h number (decl.Struct i gs ∷ ds) =
    ap (λ (ms : List Method). record { name = name_in env.source i; fields = all_fields env gs; methods = ms } ∷ structs_from env (done ++ d ∷ []) (suc number) ds) (h number)
    ∙ ap (λ (ss : List StructType). record { name = name_in env.source i; fields = all_fields env gs; methods = methods_from env number 0 done } ∷ ss) (structs_same env done d h (suc number) ds)

pub no_method : (env : Env) (done : List Decl) (d : Decl) → ((k n : ℕ) → methods_from env k n (d ∷ []) ≡ []) → (k : ℕ) → methods_from env k 0 (done ++ d ∷ []) ≡ methods_from env k 0 done
no_method env done d h k = split env k no_counts done (d ∷ []) ∙ ap (λ (ms : List Method). methods_from env k 0 done ++ ms) (h k (behind no_counts done).procedures) ∙ append-nil (methods_from env k 0 done)

-- ---- the whole walk

pub record AreAdded (env : Env) (text : List ℕ) (tables : List StructOf) (first : Option Fault) (n : Counts) (all rest : List Decl) : Type 0 where
  pub done : List Decl
  pub whole : all ≡ done ++ rest
  pub counts_are : n ≡ behind no_counts done
  pub tables_are : tables ≡ all_in_text text (structs_from env done 0 all)
  pub told : earliest first (first_of (methods_findings (with_structs env (structs_from env all 0 all)) n rest))
      ≡ first_of (methods_findings (with_structs env (structs_from env all 0 all)) no_counts all)

pub added_first : (env : Env) (text : List ℕ) (tables : List StructOf) (n : Counts) (all : List Decl) → n ≡ no_counts → tables ≡ all_in_text text (structs_from env [] 0 all)
    → AreAdded env text tables None n all all
added_first env text tables n all e t = record {
  done = [];
  whole = refl;
  counts_are = e;
  tables_are = t;
  told = ap (λ (m : Counts). first_of (methods_findings (with_structs env (structs_from env all 0 all)) m all)) e;
}

pub added_func : (env : Env) (text : List ℕ) (tables grown : List StructOf) (first own : Option Fault) (n m : Counts) (all rest : List Decl) (f : FuncTree) (o : Option ℕ)
    → env.source.text ≡ text → AreAdded env text tables first n all (decl.Func f ∷ rest) → o ≡ struct_of_method env f → m ≡ counted n (decl.Func f)
    → ((p : Package) → AreGrowing p n.procedures tables → own ≡ first_of (method_twice_of p n.procedures (slice_range text f.name.start f.name.end) o f.name.start))
    → grown ≡ with_method_of o (span_by f.name) n.procedures 0 tables
    → AreAdded env text grown (earliest first own) m all rest
added_func env text tables grown first own n m all rest f o t h of e is g = record {
  done = h.done ++ decl.Func f ∷ [];
  whole = h.whole ∙ sym (append_assoc h.done (decl.Func f ∷ []) rest);
  counts_are = e ∙ ap (λ (c : Counts). counted c (decl.Func f)) h.counts_are ∙ sym (behind_more no_counts h.done (decl.Func f));
  tables_are = g
      ∙ ap (λ (x : Option ℕ). with_method_of x (span_by f.name) n.procedures 0 tables) of
      ∙ ap (λ (c : Counts). with_method_of (struct_of_method env f) (span_by f.name) c.procedures 0 tables) h.counts_are
      ∙ ap (λ (ts : List StructOf). with_method_of (struct_of_method env f) (span_by f.name) (behind no_counts h.done).procedures 0 ts) h.tables_are
      ∙ structs_more env text h.done f 0 all t;
  told = ap (λ (c : Counts). earliest (earliest first own) (first_of (methods_findings whole_env c rest))) e
      ∙ fault_more first own (method_twice whole_env n.procedures f) (methods_findings whole_env (counted n (decl.Func f)) rest) found
      ∙ h.told;
}
  where
    whole_env : Env
    whole_env = with_structs env (structs_from env all 0 all)

    growing : AreGrowing whole_env.declared n.procedures tables
    growing = subst (λ (ts : List StructOf). AreGrowing whole_env.declared n.procedures ts) (sym h.tables_are)
        (subst (λ (c : Counts). AreGrowing whole_env.declared c.procedures (all_in_text text (structs_from env h.done 0 all))) (sym h.counts_are)
        (all_growing env all h.done (decl.Func f ∷ rest) text h.whole))

    found : own ≡ first_of (method_twice whole_env n.procedures f)
    found = is whole_env.declared growing
        ∙ ap (λ (x : Option ℕ). first_of (method_twice_of whole_env.declared n.procedures (slice_range text f.name.start f.name.end) x f.name.start)) of
        ∙ ap (λ (x : List ℕ). first_of (method_twice_of whole_env.declared n.procedures (slice_range x f.name.start f.name.end) (struct_of_method env f) f.name.start)) (sym t)

growing_on : (env : Env) (text : List ℕ) (tables : List StructOf) (first : Option Fault) (n : Counts) (all rest : List Decl) (d : Decl) → AreAdded env text tables first n all (d ∷ rest)
    → AreGrowing (with_structs env (structs_from env all 0 all)).declared n.procedures tables
growing_on env text tables first n all rest d h =
    subst (λ (ts : List StructOf). AreGrowing (with_structs env (structs_from env all 0 all)).declared n.procedures ts) (sym h.tables_are)
    (subst (λ (c : Counts). AreGrowing (with_structs env (structs_from env all 0 all)).declared c.procedures (all_in_text text (structs_from env h.done 0 all))) (sym h.counts_are)
    (all_growing env all h.done (d ∷ rest) text h.whole))

same_on : (env : Env) (text : List ℕ) (tables grown : List StructOf) (first own : Option Fault) (m : Counts) (all rest : List Decl) → grown ≡ tables → own ≡ None
    → AreAdded env text tables first m all rest → AreAdded env text grown (earliest first own) m all rest
same_on env text tables grown first own m all rest g e h =
    subst (λ (ts : List StructOf). AreAdded env text ts (earliest first own) m all rest) (sym g)
    (subst (λ (f : Option Fault). AreAdded env text tables f m all rest) (sym (ap (earliest first) e ∙ earliest_none first)) h)

pub added_other : (env : Env) (text : List ℕ) (tables : List StructOf) (first : Option Fault) (n m : Counts) (all rest : List Decl) (d : Decl)
    → AreAdded env text tables first n all (d ∷ rest) → m ≡ counted n d → ((k n : ℕ) → methods_from env k n (d ∷ []) ≡ []) → ((w : Env) (k : ℕ) → named_method_findings w k d ≡ [])
    → AreAdded env text tables first m all rest
added_other env text tables first n m all rest d h e none found = record {
  done = h.done ++ d ∷ [];
  whole = h.whole ∙ sym (append_assoc h.done (d ∷ []) rest);
  counts_are = e ∙ ap (λ (c : Counts). counted c d) h.counts_are ∙ sym (behind_more no_counts h.done d);
  tables_are = h.tables_are ∙ ap (all_in_text text) (sym (structs_same env h.done d (no_method env h.done d none) 0 all));
  told = ap (λ (c : Counts). earliest first (first_of (methods_findings whole_env c rest))) e
      ∙ ap (λ (fs : List Finding). earliest first (first_of (fs ++ methods_findings whole_env (counted n d) rest))) (sym (found whole_env n.procedures))
      ∙ h.told;
}
  where
    whole_env : Env
    whole_env = with_structs env (structs_from env all 0 all)

pub added_none : (env : Env) (text : List ℕ) (tables : List StructOf) (first : Option Fault) (n : Counts) (all : List Decl) → AreAdded env text tables first n all []
    → (first ≡ first_of (methods_findings (with_structs env (structs_from env all 0 all)) no_counts all)) × (tables ≡ all_in_text text (structs_from env all 0 all))
added_none env text tables first n all h = (
  sym (earliest_none first) ∙ h.told,
  h.tables_are ∙ ap (λ (ds : List Decl). all_in_text text (structs_from env ds 0 all)) (sym (h.whole ∙ append-nil h.done)),
)

pub all_in : (env : Env) (text : List ℕ) (done : List Decl) (number : ℕ) (ds : List Decl) → AreIn text (all_in_text text (structs_from env done number ds))
all_in env text done number [] = tt
all_in env text done number (decl.Const i u x ∷ ds) = all_in env text done number ds
all_in env text done number (decl.Func g ∷ ds) = all_in env text done number ds
all_in env text done number (decl.Struct i gs ∷ ds) = (refl, all_in env text done (suc number) ds)

pub added_more : (env : Env) (text : List ℕ) (tables grown : List StructOf) (first own : Option Fault) (n m : Counts) (all rest : List Decl) (d : Decl)
    → env.source.text ≡ text → AreAdded env text tables first n all (d ∷ rest) → m ≡ counted n d
    → ((p : Package) → AreGrowing p n.procedures tables → own ≡ first_of (head_twice env p n.procedures d)) → grown ≡ with_head env n.procedures d tables
    → AreAdded env text grown (earliest first own) m all rest
added_more env text tables grown first own n m all rest (decl.Func f) t h e is g =
    added_func env text tables grown first own n m all rest f (struct_of_method env f) t h refl e
    (λ p a. is p a ∙ ap (λ (x : List ℕ). first_of (method_twice_of p n.procedures (slice_range x f.name.start f.name.end) (struct_of_method env f) f.name.start)) t) g
added_more env text tables grown first own n m all rest (decl.Struct i gs) t h e is g =
    same_on env text tables grown first own m all rest g (is whole_env.declared (growing_on env text tables first n all rest (decl.Struct i gs) h))
    (added_other env text tables first n m all rest (decl.Struct i gs) h e (λ k j. refl) (λ w k. refl))
  where
    whole_env : Env
    whole_env = with_structs env (structs_from env all 0 all)
added_more env text tables grown first own n m all rest (decl.Const i u x) t h e is g =
    same_on env text tables grown first own m all rest g (is whole_env.declared (growing_on env text tables first n all rest (decl.Const i u x) h))
    (added_other env text tables first n m all rest (decl.Const i u x) h e (λ k j. refl) (λ w k. refl))
  where
    whole_env : Env
    whole_env = with_structs env (structs_from env all 0 all)

pub added_in : (env : Env) (text : List ℕ) (tables : List StructOf) (first : Option Fault) (n : Counts) (all rest : List Decl) → AreAdded env text tables first n all rest → AreIn text tables
added_in env text tables first n all rest h = subst (λ (ts : List StructOf). AreIn text ts) (sym h.tables_are) (all_in env text h.done 0 all)
