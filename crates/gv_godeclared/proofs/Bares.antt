-- Declarations without bodies and values declare the same.
use Rattle.std.proofs.Common.{◌≡◌, ℕ, suc, Bool, true, false, cond, not, ◌||◌, List, [], ◌∷◌, ◌++◌, Option, Some, None, map, refl, sym, ap, ◌∙◌}
use Rattle.std.specs.Prelude.{is_some, slice_get}
use Rattle.gv_base.specs.declared.answers.Code.TheVariants.{Twice}
use Rattle.gv_gosyntax.specs.declared.lexeme.Lexeme.{Lexeme}
use Rattle.gv_gosyntax.specs.declared.tree.GoType.{GoType as TypeTree}
use Rattle.gv_gosyntax.specs.declared.tree.GoType.TheVariants as tree
use Rattle.gv_gosyntax.specs.declared.tree.Group.{Group}
use Rattle.gv_gotypes.specs.Trees as decl
use Rattle.gv_gotypes.specs.Trees.{Decl, FuncTree, File}
use Rattle.gv_gotypes.specs.Types.{Finding, unless}
use Rattle.gv_gotypes.specs.Scopes.{Source, Named, Method, StructType, Package, Signature, Env, name_in, is_blank}
use Rattle.gv_gotypes.specs.declared.names.Entity.{Entity}
use Rattle.gv_gotypes.specs.Members.{field_from}
use Rattle.gv_gotypes.specs.Kinds.{kind_findings}
use Rattle.gv_gotypes.specs.Declarations.{all_imports, import_names, Counts, no_counts, counted, declared_name, decl_names, all_names, outside, names_alone, signatures, signature_of, all_fields, is_number, struct_of_method, methods_from, structs_from, without_constants}
use Rattle.gv_gotypes.specs.Files.{name_twice, with_name, groups_findings, all_names_of, fields_twice, is_taken, is_earlier, method_twice, file_env}
use Rattle.gv_goheads.specs.declared.head.Head.{Head}
use Rattle.gv_goheads.specs.Heads.{head_of, bare, bares, bare_func, func_head}
use Rattle.gv_goparts.specs.Parts.{names_findings, struct_findings, structs_findings, named_method_findings, methods_findings}
use Rattle.gv_gomethods.specs.Methods.{with_structs}

abbrev pub cut : List Decl → List Decl
cut ds = bares (map head_of ds)

same_name : (n : Counts) (d : Decl) → declared_name n (bare (head_of d)) ≡ declared_name n d
same_name n (decl.Struct i gs) = refl
same_name n (decl.Const i u e) = refl
same_name n (decl.Func f) = refl

same_count : (n : Counts) (d : Decl) → counted n (bare (head_of d)) ≡ counted n d
same_count n (decl.Struct i gs) = refl
same_count n (decl.Const i u e) = refl
same_count n (decl.Func f) = refl

abbrev joined : Source → Option (Lexeme × Entity) → List Named → List Named
joined s p ms = elim p [ None ↦ ms | Some q ↦ record { name = name_in s q.0; entity = q.1 } ∷ ms ]

one_name : (s : Source) (p : Option (Lexeme × Entity)) (ms ns : List Named) → ms ≡ ns → joined s p ms ≡ joined s p ns
one_name s None ms ns e = e
one_name s (Some q) ms ns e = ap (λ (xs : List Named). record { name = name_in s q.0; entity = q.1 } ∷ xs) e

pub same_names : (s : Source) (n : Counts) (ds : List Decl) → decl_names s n (cut ds) ≡ decl_names s n ds
same_names s n [] = refl
same_names s n (decl.Struct i gs ∷ ds) = one_name s (declared_name n (decl.Struct i gs)) (decl_names s (counted n (decl.Struct i gs)) (cut ds)) (decl_names s (counted n (decl.Struct i gs)) ds) (same_names s (counted n (decl.Struct i gs)) ds)
same_names s n (decl.Const i u e ∷ ds) = one_name s (declared_name n (decl.Const i u e)) (decl_names s (counted n (decl.Const i u e)) (cut ds)) (decl_names s (counted n (decl.Const i u e)) ds) (same_names s (counted n (decl.Const i u e)) ds)
same_names s n (decl.Func f ∷ ds) = one_name s (declared_name n (decl.Func f)) (decl_names s (counted n (decl.Func f)) (cut ds)) (decl_names s (counted n (decl.Func f)) ds) (same_names s (counted n (decl.Func f)) ds)

pub same_twice : (s : Source) (before : List Named) (n : Counts) (ds : List Decl) → names_findings s before n (cut ds) ≡ names_findings s before n ds
same_twice s before n [] = refl
same_twice s before n (d ∷ ds) =
    ap (λ (p : Option (Lexeme × Entity)). name_twice s before p ++ names_findings s (with_name s before p) (counted n (bare (head_of d))) (cut ds)) (same_name n d)
    ∙ ap (λ (c : Counts). name_twice s before (declared_name n d) ++ names_findings s (with_name s before (declared_name n d)) c (cut ds)) (same_count n d)
    ∙ ap (λ (fs : List Finding). name_twice s before (declared_name n d) ++ fs) (same_twice s (with_name s before (declared_name n d)) (counted n d) ds)

same_methods : (env : Env) (k n : ℕ) (ds : List Decl) → methods_from env k n (cut ds) ≡ methods_from env k n ds
same_methods env k n [] = refl
same_methods env k n (decl.Struct i gs ∷ ds) = same_methods env k n ds
same_methods env k n (decl.Const i u e ∷ ds) = same_methods env k n ds
same_methods env k n (decl.Func f ∷ ds) =
    ap (λ (ms : List Method). cond (is_number k (struct_of_method env f)) (record { name = name_in env.source f.name; procedure = n } ∷ ms) ms) (same_methods env k (suc n) ds)

pub same_structs : (env : Env) (all : List Decl) (number : ℕ) (ds : List Decl) → structs_from env (cut all) number (cut ds) ≡ structs_from env all number ds
same_structs env all number [] = refl
same_structs env all number (decl.Const i u e ∷ ds) = same_structs env all number ds
same_structs env all number (decl.Func f ∷ ds) = same_structs env all number ds
same_structs env all number (decl.Struct i gs ∷ ds) =
    ap (λ (ms : List Method). record { name = name_in env.source i; fields = all_fields env gs; methods = ms } ∷ structs_from env (cut all) (suc number) (cut ds)) (same_methods env number 0 all)
    ∙ ap (λ (ss : List StructType). record { name = name_in env.source i; fields = all_fields env gs; methods = methods_from env number 0 all } ∷ ss) (same_structs env all (suc number) ds)

pub same_signatures : (env : Env) (ds : List Decl) → signatures env (cut ds) ≡ signatures env ds
same_signatures env [] = refl
same_signatures env (decl.Struct i gs ∷ ds) = same_signatures env ds
same_signatures env (decl.Const i u e ∷ ds) = same_signatures env ds
same_signatures env (decl.Func f ∷ ds) = ap (λ (ss : List Signature). signature_of env f ∷ ss) (same_signatures env ds)

-- ---- the same where all is declared

kinds_there : (s : Source) (f : File) (t : TypeTree) → kind_findings (names_alone s f) t ≡ kind_findings (file_env s f) t
kinds_there s f (tree.Word w) = refl
kinds_there s f (tree.Slice o w) = refl
kinds_there s f (tree.Pointers o p) = refl
kinds_there s f (tree.Map m) = refl
kinds_there s f (tree.Pointer o p) = refl
kinds_there s f (tree.Block k) = refl

groups_there : (s : Source) (f : File) (gs : List Group) → groups_findings (names_alone s f) gs ≡ groups_findings (file_env s f) gs
groups_there s f [] = refl
groups_there s f (g ∷ gs) = ap (λ (fs : List Finding). fs ++ groups_findings (names_alone s f) gs) (kinds_there s f g.kind)
    ∙ ap (λ (fs : List Finding). kind_findings (file_env s f) g.kind ++ fs) (groups_there s f gs)

pub structs_there : (s : Source) (f : File) (ds : List Decl) → structs_findings (names_alone s f) (cut ds) ≡ structs_findings (file_env s f) ds
structs_there s f [] = refl
structs_there s f (decl.Const i u e ∷ ds) = structs_there s f ds
structs_there s f (decl.Func g ∷ ds) = structs_there s f ds
structs_there s f (decl.Struct i gs ∷ ds) =
    ap (λ (fs : List Finding). (fs ++ fields_twice s [] (all_names_of gs)) ++ structs_findings (names_alone s f) (cut ds)) (groups_there s f gs)
    ∙ ap (λ (fs : List Finding). struct_findings (file_env s f) (decl.Struct i gs) ++ fs) (structs_there s f ds)

taken_there : (p q : Package) (number : ℕ) (name : List ℕ) (o : Option ℕ) → p.structs ≡ q.structs → is_taken p number name o ≡ is_taken q number name o
taken_there p q number name None e = refl
taken_there p q number name (Some n) e =
    ap (λ (ss : List StructType). elim (slice_get ss n) [ None ↦ false | Some s ↦ is_some (field_from 0 s.fields name) || is_earlier s.methods number name ]) e

pub methods_there : (s : Source) (f : File) (ss : List StructType) (n : Counts) (ds : List Decl) → ss ≡ (file_env s f).declared.structs
    → methods_findings (with_structs (names_alone s f) ss) n (cut ds) ≡ methods_findings (file_env s f) n ds
methods_there s f ss n [] e = refl
methods_there s f ss n (decl.Struct i gs ∷ ds) e = methods_there s f ss (counted n (decl.Struct i gs)) ds e
methods_there s f ss n (decl.Const i u x ∷ ds) e = methods_there s f ss (counted n (decl.Const i u x)) ds e
methods_there s f ss n (decl.Func g ∷ ds) e =
    ap (λ (b : Bool). unless (is_blank (name_in s g.name) || not b) g.name.start Twice ++ methods_findings (with_structs (names_alone s f) ss) (counted n (decl.Func g)) (cut ds))
    (taken_there (with_structs (names_alone s f) ss).declared (file_env s f).declared n.procedures (name_in s g.name) (struct_of_method (file_env s f) g) e)
    ∙ ap (λ (fs : List Finding). method_twice (file_env s f) n.procedures g ++ fs) (methods_there s f ss (counted n (decl.Func g)) ds e)
