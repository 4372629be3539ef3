-- What is known of a package by what was told of its heads.
use Rattle.std.proofs.Common.{◌≡◌, ℕ, List, [], ◌∷◌, ◌++◌, Option, map, refl, sym, ap, ◌∙◌}
use Rattle.gv_gosyntax.specs.declared.lexeme.Lexeme.{Lexeme}
use Rattle.gv_gosyntax.specs.declared.tree.Decl.{Decl as DeclaredDecl}
use Rattle.gv_gotypes.specs.Trees.{Decl, File, decl_of}
use Rattle.gv_gotypes.specs.Types.{Finding}
use Rattle.gv_gotypes.specs.Scopes.{Source, Named, StructType, Signature, Package, Env}
use Rattle.gv_gotypes.specs.Declarations.{all_imports, import_names, no_counts, decl_names, all_names, outside, names_alone, signatures, structs_from, without_constants}
use Rattle.gv_gotypes.specs.Files.{import_findings, file_env}
use Rattle.gv_gotyped.specs.declared.fault.Fault.{Fault}
use Rattle.gv_gotyped.specs.First.{first_of, earliest}
use Rattle.gv_gotyped.proofs.Firsts.{first_of_two}
use Rattle.gv_gonames.specs.Structs.{StructOf}
use Rattle.gv_goheads.specs.declared.head.Head.{Head}
use Rattle.gv_goheads.specs.Heads.{head_of, heads_of, bares}
use Rattle.gv_goparts.specs.Parts.{names_findings, names_in, structs_findings, methods_findings}
use Rattle.gv_goseen.specs.declared.seen.Seen.{Seen}
use Rattle.gv_goseen.specs.Seen.{struct_in, env_with, outer_of}
use Rattle.gv_gostructs.specs.Fields.{all_in_text}
use Rattle.gv_gomethods.specs.Methods.{with_structs}
use Rattle.gv_godeclared.specs.Known.{with_declared}
use Rattle.gv_godeclared.proofs.Bares.{cut, same_names, same_twice, same_structs, same_signatures, structs_there, methods_there}

-- a place outside of functions where these names are declared and nothing else
abbrev pub place_of : Source → List Named → Env
place_of s names = record { source = s; declared = record { names = names; structs = []; procedures = []; constants = [] }; entries = []; results = [] }

abbrev pub names_by : Source → List Lexeme → List Head → List Named
names_by s paths heads = import_names s paths ++ decl_names s no_counts (bares heads)

pub names_are : (s : Source) (f : File) (paths : List Lexeme) (heads : List Head) → all_imports f.imports ≡ paths → map head_of f.decls ≡ heads → names_by s paths heads ≡ all_names s f
names_are s f paths heads p q =
    ap (λ (ts : List Lexeme). names_by s ts heads) (sym p)
    ∙ ap (λ (hs : List Head). names_by s (all_imports f.imports) hs) (sym q)
    ∙ ap (λ (ns : List Named). import_names s (all_imports f.imports) ++ ns) (same_names s no_counts f.decls)

pub alone_is : (s : Source) (f : File) (paths : List Lexeme) (heads : List Head) → all_imports f.imports ≡ paths → map head_of f.decls ≡ heads → place_of s (names_by s paths heads) ≡ names_alone s f
alone_is s f paths heads p q = ap (place_of s) (names_are s f paths heads p q)

pub names_told : (s : Source) (f : File) (paths : List Lexeme) (heads : List Head) → all_imports f.imports ≡ paths → map head_of f.decls ≡ heads
    → import_findings s [] paths ++ names_findings s (import_names s paths) no_counts (bares heads) ≡ names_in s f
names_told s f paths heads p q =
    ap (λ (ts : List Lexeme). import_findings s [] ts ++ names_findings s (import_names s ts) no_counts (bares heads)) (sym p)
    ∙ ap (λ (hs : List Head). import_findings s [] (all_imports f.imports) ++ names_findings s (import_names s (all_imports f.imports)) no_counts (bares hs)) (sym q)
    ∙ ap (λ (fs : List Finding). import_findings s [] (all_imports f.imports) ++ fs) (same_twice s (import_names s (all_imports f.imports)) no_counts f.decls)

pub structs_told : (s : Source) (f : File) (paths : List Lexeme) (heads : List Head) → all_imports f.imports ≡ paths → map head_of f.decls ≡ heads
    → structs_findings (place_of s (names_by s paths heads)) (bares heads) ≡ structs_findings (file_env s f) f.decls
structs_told s f paths heads p q =
    ap (λ (env : Env). structs_findings env (bares heads)) (alone_is s f paths heads p q)
    ∙ ap (λ (hs : List Head). structs_findings (names_alone s f) (bares hs)) (sym q)
    ∙ structs_there s f f.decls

abbrev pub structs_by : Env → List Head → List StructType
structs_by env heads = structs_from env (bares heads) 0 (bares heads)

pub structs_are : (s : Source) (f : File) (paths : List Lexeme) (heads : List Head) → all_imports f.imports ≡ paths → map head_of f.decls ≡ heads
    → structs_by (place_of s (names_by s paths heads)) heads ≡ structs_from (names_alone s f) f.decls 0 f.decls
structs_are s f paths heads p q =
    ap (λ (env : Env). structs_by env heads) (alone_is s f paths heads p q)
    ∙ ap (λ (hs : List Head). structs_by (names_alone s f) hs) (sym q)
    ∙ same_structs (names_alone s f) f.decls 0 f.decls

pub methods_told : (s : Source) (f : File) (paths : List Lexeme) (heads : List Head) → all_imports f.imports ≡ paths → map head_of f.decls ≡ heads
    → methods_findings (with_structs (place_of s (names_by s paths heads)) (structs_by (place_of s (names_by s paths heads)) heads)) no_counts (bares heads)
    ≡ methods_findings (file_env s f) no_counts f.decls
methods_told s f paths heads p q =
    ap (λ (ss : List StructType). methods_findings (with_structs (place_of s (names_by s paths heads)) ss) no_counts (bares heads)) (structs_are s f paths heads p q)
    ∙ ap (λ (env : Env). methods_findings (with_structs env (structs_from (names_alone s f) f.decls 0 f.decls)) no_counts (bares heads)) (alone_is s f paths heads p q)
    ∙ ap (λ (hs : List Head). methods_findings (with_structs (names_alone s f) (structs_from (names_alone s f) f.decls 0 f.decls)) no_counts (bares hs)) (sym q)
    ∙ methods_there s f (structs_from (names_alone s f) f.decls 0 f.decls) no_counts f.decls refl

pub signatures_are : (s : Source) (f : File) (paths : List Lexeme) (heads : List Head) → all_imports f.imports ≡ paths → map head_of f.decls ≡ heads
    → signatures (place_of s (names_by s paths heads)) (bares heads) ≡ signatures (names_alone s f) f.decls
signatures_are s f paths heads p q =
    ap (λ (env : Env). signatures env (bares heads)) (alone_is s f paths heads p q)
    ∙ ap (λ (hs : List Head). signatures (names_alone s f) (bares hs)) (sym q)
    ∙ same_signatures (names_alone s f) f.decls

tables_back : (text : List ℕ) (ss : List StructType) → map struct_in (all_in_text text ss) ≡ ss
tables_back text [] = refl
tables_back text (s ∷ ss) = ap (λ (ts : List StructType). s ∷ ts) (tables_back text ss)

-- what is seen once the tables are filled
pub env_is : (s : Source) (f : File) (paths : List Lexeme) (heads : List Head) (text : List ℕ) (env : Env) (tables : List StructOf) (sigs : List Signature)
    → all_imports f.imports ≡ paths → map head_of f.decls ≡ heads → env ≡ place_of s (names_by s paths heads)
    → tables ≡ all_in_text text (structs_by env heads) → sigs ≡ signatures env (bares heads)
    → with_declared env (map struct_in tables) sigs ≡ outside s (without_constants s f)
env_is s f paths heads text env tables sigs p q n t g =
    ap (λ (e : Env). with_declared e (map struct_in tables) sigs) alone
    ∙ ap (λ (ss : List StructType). with_declared (names_alone s f) ss sigs)
    (ap (map struct_in) t ∙ tables_back text (structs_by env heads) ∙ ap (λ (e : Env). structs_by e heads) n ∙ structs_are s f paths heads p q)
    ∙ ap (λ (ss : List Signature). with_declared (names_alone s f) (structs_from (names_alone s f) f.decls 0 f.decls) ss)
    (g ∙ ap (λ (e : Env). signatures e (bares heads)) n ∙ signatures_are s f paths heads p q)
  where
    alone : env ≡ names_alone s f
    alone = n ∙ alone_is s f paths heads p q

pub no_outer : (seen : Seen) → seen.locals.outer ≡ [] → outer_of seen ≡ []
no_outer seen e = ap (map (env_with seen)) e

pub heads_there : (f : File) (ds : List DeclaredDecl) (heads : List Head) → f.decls ≡ map decl_of ds → heads ≡ heads_of ds → map head_of f.decls ≡ heads
heads_there f ds heads e h = ap (map head_of) e ∙ twice_mapped ds ∙ sym h
  where
    twice_mapped : (ds : List DeclaredDecl) → map head_of (map decl_of ds) ≡ heads_of ds
    twice_mapped [] = refl
    twice_mapped (d ∷ ds) = ap (λ (hs : List Head). head_of (decl_of d) ∷ hs) (twice_mapped ds)

pub names_both : (s : Source) (old known : List Named) (paths : List Lexeme) (heads : List Head) (a b : Option Fault) → old ≡ [] → known ≡ old ++ import_names s paths
    → a ≡ first_of (import_findings s old paths) → b ≡ first_of (names_findings s known no_counts (bares heads))
    → earliest a b ≡ first_of (import_findings s [] paths ++ names_findings s (import_names s paths) no_counts (bares heads))
names_both s old known paths heads a b e k p q =
    first_of_two (import_findings s [] paths) (names_findings s (import_names s paths) no_counts (bares heads)) a b
    (p ∙ ap (λ (ns : List Named). first_of (import_findings s ns paths)) e)
    (q ∙ ap (λ (ns : List Named). first_of (names_findings s ns no_counts (bares heads))) (k ∙ ap (λ (ns : List Named). ns ++ import_names s paths) e))
