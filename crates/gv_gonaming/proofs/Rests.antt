-- Names that are declared, and those that are still to be.
use Rattle.std.proofs.Common.{◌≡◌, ℕ, List, [], ◌∷◌, ◌++◌, Option, Some, None, refl, sym, ap, ◌∙◌, append_assoc, drop, get_or, length, ◌+◌, ◌<◌}
use Rattle.std.proofs.lemmas.List.{append-nil, drop_more}
use Rattle.std.specs.Prelude.{is_none, if◌then◌else◌}
use Rattle.gv_base.specs.declared.answers.Code.TheVariants.{Undeclared}
use Rattle.gv_gosyntax.specs.declared.lexeme.Lexeme.{Lexeme}
use Rattle.gv_gotypes.specs.Trees.{Decl}
use Rattle.gv_gotypes.specs.Types.{Finding, Fault as FaultAt}
use Rattle.gv_gotypes.specs.Literals.{element_of}
use Rattle.gv_gotypes.specs.Scopes.{Source, Named, name_in}
use Rattle.gv_gotypes.specs.declared.names.Entity.{Entity}
use Rattle.gv_gotypes.specs.Declarations.{library_named, import_name, import_names, Counts, no_counts, counted, declared_name, decl_names}
use Rattle.gv_gotypes.specs.Files.{import_findings, twice, name_twice, with_name}
use Rattle.gv_gotyped.specs.declared.fault.Fault.{Fault}
use Rattle.gv_gotyped.specs.First.{first_of, earliest}
use Rattle.gv_gotyped.proofs.Firsts.{earliest_of_three, first_both}
use Rattle.gv_gonames.specs.Named.{NamesOf}
use Rattle.gv_goparts.specs.Parts.{names_findings}

-- a fault more
one_more : (first own : Option Fault) (fs gs : List Finding) → own ≡ first_of fs → earliest (earliest first own) (first_of gs) ≡ earliest first (first_of (fs ++ gs))
one_more first own fs gs e =
    earliest_of_three first own (first_of gs)
    ∙ ap (λ (x : Option Fault). earliest first (earliest x (first_of gs))) e
    ∙ ap (earliest first) (sym (first_both fs gs))

-- ---- imports

-- these paths are left, behind known names
pub record AreLeft (s : Source) (old known : List Named) (first : Option Fault) (paths rest : List Lexeme) : Type 0 where
  pub names : known ++ import_names s rest ≡ old ++ import_names s paths
  pub told : earliest first (first_of (import_findings s known rest)) ≡ first_of (import_findings s old paths)

pub left_first : (s : Source) (old : List Named) (paths : List Lexeme) → AreLeft s old old None paths paths
left_first s old paths = record { names = refl; told = refl }

abbrev of_path : Source → List Named → Lexeme → List Finding
of_path s known t = if is_none (library_named (element_of (name_in s t))) then FaultAt t.start Undeclared ∷ [] else twice known (element_of (name_in s t)) t.start

pub left_more : (s : Source) (old known grown : List Named) (first own : Option Fault) (paths rest : List Lexeme) (t : Lexeme) → AreLeft s old known first paths (t ∷ rest)
    → own ≡ first_of (import_findings s known (t ∷ [])) → grown ≡ known ++ import_names s (t ∷ []) → AreLeft s old grown (earliest first own) paths rest
left_more s old known grown first own paths rest t h is g = record {
  names = ap (λ (ns : List Named). ns ++ import_names s rest) (g ∙ ap (λ (ns : List Named). known ++ ns) (append-nil (import_name s t)))
      ∙ append_assoc known (import_name s t) (import_names s rest) ∙ h.names;
  told = ap (λ (ns : List Named). earliest (earliest first own) (first_of (import_findings s ns rest))) g
      ∙ one_more first own (of_path s known t) (import_findings s (known ++ import_names s (t ∷ [])) rest) (is ∙ ap first_of (append-nil (of_path s known t)))
      ∙ h.told;
}

pub left_none : (s : Source) (old known : List Named) (first : Option Fault) (paths : List Lexeme) → AreLeft s old known first paths []
    → (first ≡ first_of (import_findings s old paths)) × (known ≡ old ++ import_names s paths)
left_none s old known first paths h = (sym (ends first) ∙ h.told, sym (append-nil known) ∙ h.names)
  where
    ends : (a : Option Fault) → earliest a None ≡ a
    ends None = refl
    ends (Some f) = refl

-- ---- names of declarations

-- these declarations are left, behind known names and so many of each kind
pub record AreStill (s : Source) (old known : List Named) (first : Option Fault) (n : Counts) (all rest : List Decl) : Type 0 where
  pub names : known ++ decl_names s n rest ≡ old ++ decl_names s no_counts all
  pub told : earliest first (first_of (names_findings s known n rest)) ≡ first_of (names_findings s old no_counts all)

pub still_first : (s : Source) (old : List Named) (all : List Decl) (n : Counts) → n ≡ no_counts → AreStill s old old None n all all
still_first s old all n e = record {
  names = ap (λ (m : Counts). old ++ decl_names s m all) e;
  told = ap (λ (m : Counts). first_of (names_findings s old m all)) e;
}

more_names : (s : Source) (known : List Named) (p : Option (Lexeme × Entity)) (more : List Named)
    → with_name s known p ++ more ≡ known ++ elim p [ None ↦ more | Some q ↦ record { name = name_in s q.0; entity = q.1 } ∷ more ]
more_names s known None more = refl
more_names s known (Some q) more = append_assoc known (record { name = name_in s q.0; entity = q.1 } ∷ []) more

pub still_more : (s : Source) (old known grown : List Named) (first own : Option Fault) (n m : Counts) (all rest : List Decl) (d : Decl) → AreStill s old known first n all (d ∷ rest)
    → own ≡ first_of (name_twice s known (declared_name n d)) → grown ≡ with_name s known (declared_name n d) → m ≡ counted n d → AreStill s old grown (earliest first own) m all rest
still_more s old known grown first own n m all rest d h is g e = record {
  names = ap (λ (ns : List Named). ns ++ decl_names s m rest) g
      ∙ ap (λ (c : Counts). with_name s known (declared_name n d) ++ decl_names s c rest) e
      ∙ more_names s known (declared_name n d) (decl_names s (counted n d) rest) ∙ h.names;
  told = ap (λ (ns : List Named). earliest (earliest first own) (first_of (names_findings s ns m rest))) g
      ∙ ap (λ (c : Counts). earliest (earliest first own) (first_of (names_findings s (with_name s known (declared_name n d)) c rest))) e
      ∙ one_more first own (name_twice s known (declared_name n d)) (names_findings s (with_name s known (declared_name n d)) (counted n d) rest) is
      ∙ h.told;
}

pub still_none : (s : Source) (old known : List Named) (first : Option Fault) (n : Counts) (all : List Decl) → AreStill s old known first n all []
    → (first ≡ first_of (names_findings s old no_counts all)) × (known ≡ old ++ decl_names s no_counts all)
still_none s old known first n all h = (sym (ends first) ∙ h.told, sym (append-nil known) ∙ h.names)
  where
    ends : (a : Option Fault) → earliest a None ≡ a
    ends None = refl
    ends (Some f) = refl

pub one_text : (known : NamesOf) (text : List ℕ) (names : List Named) → known.text ≡ text → known.names ≡ names → known ≡ record { text = text; names = names }
one_text known text names e g = ap (λ (t : List ℕ). record { text = t; names = known.names }) e ∙ ap (λ (ns : List Named). record { text = text; names = ns }) g

pub drop_item : {T : Type 0} (xs : List T) (i : ℕ) (x : T) → i < length xs → x ≡ get_or xs i x → drop i xs ≡ x ∷ drop (i + 1) xs
drop_item xs i x l e = drop_more xs i x l ∙ ap (λ y. y ∷ drop (i + 1) xs) (sym e)
