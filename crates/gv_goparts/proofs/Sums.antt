-- The fault that is told of all that is found is the earliest of those that are told of its parts, in whatever order they stand.
use Rattle.std.proofs.Common.{◌≡◌, ℕ, Bool, true, false, ◌&&◌, ◌||◌, List, [], ◌∷◌, ◌++◌, Option, Some, None, refl, sym, ap, ◌∙◌, arith}
use Rattle.std.specs.Prelude.{if◌then◌else◌, nat_lt, nat_le, ◌==◌}
use Rattle.gv_base.specs.Codes.{code_number}
use Rattle.gv_base.specs.declared.answers.Code.{Code}
use Rattle.gv_text.proofs.FirstOnes.{one_code}
use Rattle.gv_gotypes.specs.Trees as decl
use Rattle.gv_gotypes.specs.Trees.{Decl, FuncTree, File}
use Rattle.gv_gotypes.specs.Types.{Finding}
use Rattle.gv_gotypes.specs.Scopes.{Source, Named, Env}
use Rattle.gv_gotypes.specs.Told.{is_told_before}
use Rattle.gv_gotypes.specs.Declarations.{all_imports, import_names, Counts, no_counts, counted, declared_name}
use Rattle.gv_gotypes.specs.Constants.{ConstantTree, constant_trees}
use Rattle.gv_gotypes.specs.Functions.{func_findings}
use Rattle.gv_gotypes.specs.Operations.{Recover, recover_in, recover_findings, operation_findings}
use Rattle.gv_gotypes.specs.Files.{import_findings, name_twice, with_name, method_twice, decl_findings, decls_findings, file_env, file_findings}
use Rattle.gv_gotyped.specs.declared.fault.Fault.{Fault}
use Rattle.gv_gotyped.specs.First.{first_of, earliest}
use Rattle.gv_gotyped.proofs.Firsts.{earliest_of_three, earliest_none, first_both}
use Rattle.gv_goparts.specs.Parts.{names_findings, struct_findings, structs_findings, named_method_findings, methods_findings, declared_constant_findings, constants_findings, function_findings, functions_findings, declared_operation_findings, operations_findings, AreOf}
use Rattle.gv_goparts.specs.declared.parts.PartFaults.{PartFaults}

-- ---- of two the earlier one, in whatever order

before : (m n i j : ℕ) → (nat_lt m n || m == n && nat_le i j) ≡ true → (nat_lt n m || n == m && nat_le j i) ≡ true → (m ≡ n) × (i ≡ j)
before m n i j p q = (place m n i j p q, number m n i j p q)
  where
    place : (m n i j : ℕ) → (nat_lt m n || m == n && nat_le i j) ≡ true → (nat_lt n m || n == m && nat_le j i) ≡ true → m ≡ n
    place m n i j p q = grind arith

    number : (m n i j : ℕ) → (nat_lt m n || m == n && nat_le i j) ≡ true → (nat_lt n m || n == m && nat_le j i) ≡ true → i ≡ j
    number m n i j p q = grind arith

neither : (m n i j : ℕ) → (nat_lt m n || m == n && nat_le i j) ≡ false → (nat_lt n m || n == m && nat_le j i) ≡ false → ⊥
neither m n i j p q = grind arith

one_fault : (f g : Fault) → f.start ≡ g.start → f.code ≡ g.code → f ≡ g
one_fault f g p q = ap (λ (n : ℕ). record { start = n; code = f.code }) p ∙ ap (λ (c : Code). record { start = g.start; code = c }) q

turned : (f g : Fault) (p q : Bool) → is_told_before f.start f.code g.start g.code ≡ p → is_told_before g.start g.code f.start f.code ≡ q
    → (if p then f else g) ≡ (if q then g else f)
turned f g true true d e =
    let same = before f.start g.start (code_number f.code) (code_number g.code) d e in
    one_fault f g same.0 (one_code f.code g.code same.1)
turned f g true false d e = refl
turned f g false true d e = refl
turned f g false false d e = absurd (neither f.start g.start (code_number f.code) (code_number g.code) d e)

either_order : (a b : Option Fault) → earliest a b ≡ earliest b a
either_order None None = refl
either_order None (Some g) = refl
either_order (Some f) None = refl
either_order (Some f) (Some g) = ap (λ (x : Fault). Some x)
    (turned f g (is_told_before f.start f.code g.start g.code) (is_told_before g.start g.code f.start f.code) refl refl)

-- ---- of parts beside parts

pub two_pairs : (x y a b : Option Fault) → earliest (earliest x y) (earliest a b) ≡ earliest (earliest x a) (earliest y b)
two_pairs x y a b =
    earliest_of_three x y (earliest a b)
    ∙ ap (λ (z : Option Fault). earliest x z) (sym (earliest_of_three y a b) ∙ ap (λ (z : Option Fault). earliest z b) (either_order y a) ∙ earliest_of_three a y b)
    ∙ sym (earliest_of_three x a (earliest y b))

two_threes : (x y z a b c : Option Fault) → earliest (earliest x (earliest y z)) (earliest a (earliest b c)) ≡ earliest (earliest x a) (earliest (earliest y b) (earliest z c))
two_threes x y z a b c = two_pairs x (earliest y z) a (earliest b c) ∙ ap (λ (w : Option Fault). earliest (earliest x a) w) (two_pairs y z b c)

abbrev six : Option Fault → Option Fault → Option Fault → Option Fault → Option Fault → Option Fault → Option Fault
six a b c d e f = earliest (earliest a (earliest b c)) (earliest d (earliest e f))

both_six : (a b c d e f t u v w x y : Option Fault) → earliest (six a b c d e f) (six t u v w x y)
    ≡ six (earliest a t) (earliest b u) (earliest c v) (earliest d w) (earliest e x) (earliest f y)
both_six a b c d e f t u v w x y =
    two_pairs (earliest a (earliest b c)) (earliest d (earliest e f)) (earliest t (earliest u v)) (earliest w (earliest x y))
    ∙ ap (λ (z : Option Fault). earliest z (earliest (earliest d (earliest e f)) (earliest w (earliest x y)))) (two_threes a b c t u v)
    ∙ ap (λ (z : Option Fault). earliest (earliest (earliest a t) (earliest (earliest b u) (earliest c v))) z) (two_threes d e f w x y)

six_alike : (a b c d e f t u v w x y : Option Fault) → a ≡ t → b ≡ u → c ≡ v → d ≡ w → e ≡ x → f ≡ y → six a b c d e f ≡ six t u v w x y
six_alike a b c d e f t u v w x y p q r k l m = cc

-- ---- one declaration

abbrev here : Env → List ConstantTree → Recover → List Named → Counts → Decl → Option Fault
here env cs r known n d = six
    (first_of (name_twice env.source known (declared_name n d)))
    (first_of (struct_findings env d))
    (first_of (named_method_findings env n.procedures d))
    (first_of (declared_constant_findings env cs n.constants d))
    (first_of (function_findings env d))
    (first_of (declared_operation_findings env r d))

of_struct : (a b : Option Fault) → earliest a b ≡ six a b None None None None
of_struct a b = sym (earliest_none (earliest a (earliest b None)) ∙ ap (λ (z : Option Fault). earliest a z) (earliest_none b))

of_constant : (a d : Option Fault) → earliest a d ≡ six a None None d None None
of_constant a d = sym (ap (λ (z : Option Fault). earliest z (earliest d None)) (earliest_none a) ∙ ap (λ (z : Option Fault). earliest a z) (earliest_none d))

of_function : (a c e f : Option Fault) → earliest a (earliest c (earliest f e)) ≡ six a None c None e f
of_function a c e f = ap (λ (z : Option Fault). earliest a (earliest c z)) (either_order f e) ∙ sym (earliest_of_three a c (earliest e f))

method_parts : (env : Env) (r : Recover) (number : ℕ) (f : FuncTree) → first_of (method_twice env number f ++ (operation_findings env r f ++ func_findings env f))
    ≡ earliest (first_of (method_twice env number f)) (earliest (first_of (operation_findings env r f)) (first_of (func_findings env f)))
method_parts env r number f =
    first_both (method_twice env number f) (operation_findings env r f ++ func_findings env f)
    ∙ ap (λ (z : Option Fault). earliest (first_of (method_twice env number f)) z) (first_both (operation_findings env r f) (func_findings env f))

one_here : (env : Env) (cs : List ConstantTree) (r : Recover) (known : List Named) (n : Counts) (d : Decl)
    → earliest (first_of (name_twice env.source known (declared_name n d))) (first_of (decl_findings env cs r n d)) ≡ here env cs r known n d
one_here env cs r known n (decl.Struct i gs) = of_struct (first_of (name_twice env.source known (declared_name n (decl.Struct i gs)))) (first_of (struct_findings env (decl.Struct i gs)))
one_here env cs r known n (decl.Const i u e) =
    of_constant (first_of (name_twice env.source known (declared_name n (decl.Const i u e)))) (first_of (declared_constant_findings env cs n.constants (decl.Const i u e)))
one_here env cs r known n (decl.Func f) =
    ap (λ (z : Option Fault). earliest (first_of (name_twice env.source known (declared_name n (decl.Func f)))) z) (method_parts env r n.procedures f)
    ∙ of_function (first_of (name_twice env.source known (declared_name n (decl.Func f)))) (first_of (method_twice env n.procedures f)) (first_of (func_findings env f)) (first_of (operation_findings env r f))

-- ---- all declarations

abbrev all : Env → List ConstantTree → Recover → List Named → Counts → List Decl → Option Fault
all env cs r known n ds = six
    (first_of (names_findings env.source known n ds))
    (first_of (structs_findings env ds))
    (first_of (methods_findings env n ds))
    (first_of (constants_findings env cs n ds))
    (first_of (functions_findings env ds))
    (first_of (operations_findings env r ds))

all_there : (env : Env) (cs : List ConstantTree) (r : Recover) (known : List Named) (n : Counts) (ds : List Decl)
    → first_of (decls_findings env cs r known n ds) ≡ all env cs r known n ds
all_there env cs r known n [] = refl
all_there env cs r known n (d ∷ ds) =
    first_both twice (own ++ more)
    ∙ ap (λ (z : Option Fault). earliest (first_of twice) z) (first_both own more)
    ∙ sym (earliest_of_three (first_of twice) (first_of own) (first_of more))
    ∙ ap (λ (z : Option Fault). earliest z (first_of more)) (one_here env cs r known n d)
    ∙ ap (λ (z : Option Fault). earliest (here env cs r known n d) z) (all_there env cs r (with_name env.source known (declared_name n d)) (counted n d) ds)
    ∙ both_six
    (first_of twice) (first_of (struct_findings env d)) (first_of (named_method_findings env n.procedures d)) (first_of (declared_constant_findings env cs n.constants d))
    (first_of (function_findings env d)) (first_of (declared_operation_findings env r d))
    (first_of names) (first_of (structs_findings env ds)) (first_of (methods_findings env (counted n d) ds)) (first_of (constants_findings env cs (counted n d) ds))
    (first_of (functions_findings env ds)) (first_of (operations_findings env r ds))
    ∙ sym (six_alike
    (first_of (twice ++ names)) (first_of (struct_findings env d ++ structs_findings env ds))
    (first_of (named_method_findings env n.procedures d ++ methods_findings env (counted n d) ds))
    (first_of (declared_constant_findings env cs n.constants d ++ constants_findings env cs (counted n d) ds))
    (first_of (function_findings env d ++ functions_findings env ds)) (first_of (declared_operation_findings env r d ++ operations_findings env r ds))
    (earliest (first_of twice) (first_of names)) (earliest (first_of (struct_findings env d)) (first_of (structs_findings env ds)))
    (earliest (first_of (named_method_findings env n.procedures d)) (first_of (methods_findings env (counted n d) ds)))
    (earliest (first_of (declared_constant_findings env cs n.constants d)) (first_of (constants_findings env cs (counted n d) ds)))
    (earliest (first_of (function_findings env d)) (first_of (functions_findings env ds)))
    (earliest (first_of (declared_operation_findings env r d)) (first_of (operations_findings env r ds)))
    (first_both twice names) (first_both (struct_findings env d) (structs_findings env ds))
    (first_both (named_method_findings env n.procedures d) (methods_findings env (counted n d) ds))
    (first_both (declared_constant_findings env cs n.constants d) (constants_findings env cs (counted n d) ds))
    (first_both (function_findings env d) (functions_findings env ds))
    (first_both (declared_operation_findings env r d) (operations_findings env r ds)))
  where
    twice : List Finding
    twice = name_twice env.source known (declared_name n d)

    own : List Finding
    own = decl_findings env cs r n d

    more : List Finding
    more = decls_findings env cs r (with_name env.source known (declared_name n d)) (counted n d) ds

    names : List Finding
    names = names_findings env.source (with_name env.source known (declared_name n d)) (counted n d) ds

-- ---- the whole

with_ends : (i a b c d e f r : Option Fault) → earliest i (earliest (six a b c d e f) r) ≡ six (earliest i a) b c d e (earliest f r)
with_ends i a b c d e f r =
    sym (earliest_of_three i (six a b c d e f) r)
    ∙ ap (λ (z : Option Fault). earliest z r) (sym (earliest_of_three i (earliest a (earliest b c)) (earliest d (earliest e f)))
    ∙ ap (λ (z : Option Fault). earliest z (earliest d (earliest e f))) (sym (earliest_of_three i a (earliest b c))))
    ∙ earliest_of_three (earliest (earliest i a) (earliest b c)) (earliest d (earliest e f)) r
    ∙ ap (λ (z : Option Fault). earliest (earliest (earliest i a) (earliest b c)) z)
    (earliest_of_three d (earliest e f) r ∙ ap (λ (z : Option Fault). earliest d z) (earliest_of_three e f r))

pub whole_of : (s : Source) (f : File) (faults : PartFaults) → AreOf s f faults
    → six faults.names faults.structs faults.methods faults.constants faults.functions faults.operations ≡ first_of (file_findings s f)
whole_of s f faults are =
    six_alike faults.names faults.structs faults.methods faults.constants faults.functions faults.operations
    (earliest (first_of imports) (first_of names)) (first_of structs) (first_of methods) (first_of constants) (first_of functions) (earliest (first_of operations) (first_of recover))
    (are.names ∙ first_both imports names) are.structs are.methods are.constants are.functions (are.operations ∙ first_both operations recover)
    ∙ sym (with_ends (first_of imports) (first_of names) (first_of structs) (first_of methods) (first_of constants) (first_of functions) (first_of operations) (first_of recover))
    ∙ ap (λ (z : Option Fault). earliest (first_of imports) (earliest z (first_of recover)))
    (sym (all_there env (constant_trees f.decls) (recover_in env f.decls) (import_names s (all_imports f.imports)) no_counts f.decls))
    ∙ ap (λ (z : Option Fault). earliest (first_of imports) z) (sym (first_both declared recover))
    ∙ sym (first_both imports (declared ++ recover))
  where
    env : Env
    env = file_env s f

    imports : List Finding
    imports = import_findings s [] (all_imports f.imports)

    names : List Finding
    names = names_findings s (import_names s (all_imports f.imports)) no_counts f.decls

    structs : List Finding
    structs = structs_findings env f.decls

    methods : List Finding
    methods = methods_findings env no_counts f.decls

    constants : List Finding
    constants = constants_findings env (constant_trees f.decls) no_counts f.decls

    functions : List Finding
    functions = functions_findings env f.decls

    operations : List Finding
    operations = operations_findings env (recover_in env f.decls) f.decls

    recover : List Finding
    recover = recover_findings env (recover_in env f.decls)

    declared : List Finding
    declared = decls_findings env (constant_trees f.decls) (recover_in env f.decls) (import_names s (all_imports f.imports)) no_counts f.decls
