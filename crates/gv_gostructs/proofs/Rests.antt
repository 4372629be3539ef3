-- Fields and structs that are declared, and those that are still to be.
use Rattle.std.proofs.Common.{◌≡◌, ℕ, suc, Bool, true, false, cond, not, ◌||◌, List, [], ◌∷◌, ◌++◌, Option, Some, None, is_some, refl, sym, ap, ◌∙◌, append_assoc, map, drop, get_or, length, ◌+◌, ◌<◌}
use Rattle.std.proofs.lemmas.List.{append-nil, drop_more}
use Rattle.std.specs.Str.{bytes_eq}
use Rattle.gv_base.specs.declared.answers.Code.TheVariants.{Twice}
use Rattle.gv_gosyntax.specs.declared.lexeme.Lexeme.{Lexeme}
use Rattle.gv_gosyntax.specs.declared.tree.Group.{Group}
use Rattle.gv_operands.specs.declared.types.GoType.{GoType}
use Rattle.gv_gotypes.specs.Trees as decl
use Rattle.gv_gotypes.specs.Trees.{Decl}
use Rattle.gv_gotypes.specs.Types.{Finding, unless}
use Rattle.gv_gotypes.specs.Scopes.{Source, FieldType, StructType, Env, name_in, is_blank}
use Rattle.gv_gotypes.specs.Kinds.{kind_of, kind_findings}
use Rattle.gv_gotypes.specs.Declarations.{group_fields, all_fields, structs_from, methods_from}
use Rattle.gv_gotypes.specs.Files.{is_borne, all_names_of, fields_twice, groups_findings}
use Rattle.gv_gotyped.specs.declared.fault.Fault.{Fault}
use Rattle.gv_gotyped.specs.First.{first_of, earliest}
use Rattle.gv_gotyped.proofs.Firsts.{earliest_of_three, earliest_none, first_both}
use Rattle.gv_gonames.specs.Structs.{StructOf, kind_among, with_field}
use Rattle.gv_goseen.specs.Naming.{span_by}
use Rattle.std.specs.Prelude.{slice_range}
use Rattle.gv_goparts.specs.Parts.{struct_findings, structs_findings}
use Rattle.gv_goparts.proofs.Sums.{two_pairs}
use Rattle.gv_gostructs.specs.Fields.{with_fields, in_text, all_in_text, AreBorne}

-- ---- a fault more

pub fault_more : (first own : Option Fault) (fs gs : List Finding) → own ≡ first_of fs → earliest (earliest first own) (first_of gs) ≡ earliest first (first_of (fs ++ gs))
fault_more first own fs gs e =
    earliest_of_three first own (first_of gs)
    ∙ ap (λ (x : Option Fault). earliest first (earliest x (first_of gs))) e
    ∙ ap (earliest first) (sym (first_both fs gs))

-- ---- names of fields

one_more : (fs : List FieldType) (f : FieldType) (name : List ℕ) → is_some (kind_among (fs ++ f ∷ []) name) ≡ (bytes_eq f.name name || is_some (kind_among fs name))
one_more [] f name = step (bytes_eq f.name name)
  where
    step : (b : Bool) → is_some (cond b (Some f.kind) None) ≡ (b || false)
    step true = refl
    step false = refl
one_more (m ∷ ms) f name = step (bytes_eq m.name name) (bytes_eq f.name name) (one_more ms f name)
  where
    step : (b own : Bool) → is_some (kind_among (ms ++ f ∷ []) name) ≡ (own || is_some (kind_among ms name))
        → is_some (cond b (Some m.kind) (kind_among (ms ++ f ∷ []) name)) ≡ (own || is_some (cond b (Some m.kind) (kind_among ms name)))
    step true true e = refl
    step true false e = refl
    step false own e = e

pub borne_more : (before : List (List ℕ)) (fs : List FieldType) (f : FieldType) → AreBorne before fs → AreBorne (f.name ∷ before) (fs ++ f ∷ [])
borne_more before fs f h n = ap (λ (b : Bool). bytes_eq f.name n || b) (h n) ∙ sym (one_more fs f n)

-- the names before, and these
abbrev pub behind : Source → List (List ℕ) → List Lexeme → List (List ℕ)
behind s before [] = before
behind s before (i ∷ is) = behind s (name_in s i ∷ before) is

pub borne_behind : (env : Env) (before : List (List ℕ)) (fs : List FieldType) (is : List Lexeme) (k : Option GoType) → AreBorne before fs
    → AreBorne (behind env.source before is) (fs ++ group_fields env is k)
borne_behind env before fs [] k h n = h n ∙ ap (λ (gs : List FieldType). is_some (kind_among gs n)) (sym (append-nil fs))
borne_behind env before fs (i ∷ is) k h n =
    borne_behind env (name_in env.source i ∷ before) (fs ++ record { name = name_in env.source i; kind = k } ∷ []) is k (borne_more before fs (record { name = name_in env.source i; kind = k }) h) n
    ∙ ap (λ (gs : List FieldType). is_some (kind_among gs n)) (append_assoc fs (record { name = name_in env.source i; kind = k } ∷ []) (group_fields env is k))

pub twice_both : (s : Source) (before : List (List ℕ)) (is js : List Lexeme) → fields_twice s before (is ++ js) ≡ fields_twice s before is ++ fields_twice s (behind s before is) js
twice_both s before [] js = refl
twice_both s before (i ∷ is) js =
    ap (λ (fs : List Finding). unless (is_blank (name_in s i) || not (is_borne before (name_in s i))) i.start Twice ++ fs) (twice_both s (name_in s i ∷ before) is js)
    ∙ sym (append_assoc (unless (is_blank (name_in s i) || not (is_borne before (name_in s i))) i.start Twice) (fields_twice s (name_in s i ∷ before) is) (fields_twice s (behind s (name_in s i ∷ before) is) js))

-- ---- the names of one group

-- these are left of the names of a group, where some stood before it
pub record AreLeft (s : Source) (before : List (List ℕ)) (fs : List FieldType) (first : Option Fault) (names rest : List Lexeme) : Type 0 where
  pub now : List (List ℕ)
  pub borne : AreBorne now fs
  pub told : earliest first (first_of (fields_twice s now rest)) ≡ first_of (fields_twice s before names)

pub left_first : (s : Source) (before : List (List ℕ)) (fs : List FieldType) (names : List Lexeme) → AreBorne before fs → AreLeft s before fs None names names
left_first s before fs names h = record { now = before; borne = h; told = refl }

pub left_more : (s : Source) (before : List (List ℕ)) (fs grown : List FieldType) (first own : Option Fault) (names rest : List Lexeme) (i : Lexeme) (k : Option GoType)
    → AreLeft s before fs first names (i ∷ rest)
    → ((now : List (List ℕ)) → AreBorne now fs → own ≡ first_of (fields_twice s now (i ∷ [])))
    → grown ≡ fs ++ record { name = name_in s i; kind = k } ∷ []
    → AreLeft s before grown (earliest first own) names rest
left_more s before fs grown first own names rest i k h is g = record {
  now = name_in s i ∷ h.now;
  borne = λ n. borne_more h.now fs (record { name = name_in s i; kind = k }) h.borne n ∙ ap (λ (gs : List FieldType). is_some (kind_among gs n)) (sym g);
  told = fault_more first own (here h.now) (fields_twice s (name_in s i ∷ h.now) rest) (is h.now h.borne ∙ ap first_of (append-nil (here h.now))) ∙ h.told;
}
  where
    here : List (List ℕ) → List Finding
    here now = unless (is_blank (name_in s i) || not (is_borne now (name_in s i))) i.start Twice

pub left_none : (s : Source) (before : List (List ℕ)) (fs : List FieldType) (first : Option Fault) (names : List Lexeme) → AreLeft s before fs first names [] → first ≡ first_of (fields_twice s before names)
left_none s before fs first names h = sym (earliest_none first) ∙ h.told

-- ---- the groups of one struct

pub record AreStill (env : Env) (fs : List FieldType) (first : Option Fault) (groups rest : List Group) : Type 0 where
  pub now : List (List ℕ)
  pub borne : AreBorne now fs
  pub told : earliest first (first_of (groups_findings env rest ++ fields_twice env.source now (all_names_of rest)))
      ≡ first_of (groups_findings env groups ++ fields_twice env.source [] (all_names_of groups))

pub still_first : (env : Env) (fs : List FieldType) (groups : List Group) → fs ≡ [] → AreStill env fs None groups groups
still_first env fs groups e = record { now = []; borne = λ n. ap (λ (gs : List FieldType). is_some (kind_among gs n)) (sym e); told = refl }

of_group : (env : Env) (now : List (List ℕ)) (g : Group) (rest : List Group) (kind again : Option Fault) → kind ≡ first_of (kind_findings env g.kind) → again ≡ first_of (fields_twice env.source now g.names)
    → earliest (earliest kind again) (first_of (groups_findings env rest ++ fields_twice env.source (behind env.source now g.names) (all_names_of rest)))
    ≡ first_of (groups_findings env (g ∷ rest) ++ fields_twice env.source now (all_names_of (g ∷ rest)))
of_group env now g rest kind again e d =
    ap (λ (x : Option Fault). earliest (earliest kind again) x) (first_both (groups_findings env rest) (fields_twice env.source (behind env.source now g.names) (all_names_of rest)))
    ∙ two_pairs kind again (first_of (groups_findings env rest)) (first_of (fields_twice env.source (behind env.source now g.names) (all_names_of rest)))
    ∙ ap (λ (x : Option Fault). earliest x (earliest again (first_of (fields_twice env.source (behind env.source now g.names) (all_names_of rest)))))
    (ap (λ (x : Option Fault). earliest x (first_of (groups_findings env rest))) e ∙ sym (first_both (kind_findings env g.kind) (groups_findings env rest)))
    ∙ ap (λ (x : Option Fault). earliest (first_of (groups_findings env (g ∷ rest))) x)
    (ap (λ (x : Option Fault). earliest x (first_of (fields_twice env.source (behind env.source now g.names) (all_names_of rest)))) d
    ∙ sym (first_both (fields_twice env.source now g.names) (fields_twice env.source (behind env.source now g.names) (all_names_of rest)))
    ∙ ap first_of (sym (twice_both env.source now g.names (all_names_of rest))))
    ∙ sym (first_both (groups_findings env (g ∷ rest)) (fields_twice env.source now (all_names_of (g ∷ rest))))

pub still_more : (env : Env) (fs grown : List FieldType) (first kind again : Option Fault) (groups rest : List Group) (g : Group) (k : Option GoType)
    → AreStill env fs first groups (g ∷ rest)
    → kind ≡ first_of (kind_findings env g.kind)
    → ((now : List (List ℕ)) → AreBorne now fs → again ≡ first_of (fields_twice env.source now g.names))
    → grown ≡ fs ++ group_fields env g.names k
    → AreStill env grown (earliest first (earliest kind again)) groups rest
still_more env fs grown first kind again groups rest g k h e is d = record {
  now = behind env.source h.now g.names;
  borne = λ n. borne_behind env h.now fs g.names k h.borne n ∙ ap (λ (gs : List FieldType). is_some (kind_among gs n)) (sym d);
  told = earliest_of_three first (earliest kind again) (first_of (groups_findings env rest ++ fields_twice env.source (behind env.source h.now g.names) (all_names_of rest)))
      ∙ ap (earliest first) (of_group env h.now g rest kind again e (is h.now h.borne))
      ∙ h.told;
}

pub still_none : (env : Env) (fs : List FieldType) (first : Option Fault) (groups : List Group) → AreStill env fs first groups []
    → first ≡ first_of (groups_findings env groups ++ fields_twice env.source [] (all_names_of groups))
still_none env fs first groups h = sym (earliest_none first) ∙ h.told

-- ---- tables

-- fields in two steps
pub fields_on : (t : StructOf) (fs gs : List FieldType) → with_fields (with_fields t fs) gs ≡ with_fields t (fs ++ gs)
fields_on t fs gs = ap (λ (hs : List FieldType). record { text = t.text; struct = record { name = t.struct.name; fields = hs; methods = t.struct.methods } }) (append_assoc t.struct.fields fs gs)

-- ---- structs

pub record AreDeclared (env : Env) (text : List ℕ) (tables : List StructOf) (first : Option Fault) (all rest : List Decl) : Type 0 where
  pub number : ℕ
  pub tables_are : tables ++ all_in_text text (structs_from env [] number rest) ≡ all_in_text text (structs_from env [] 0 all)
  pub told : earliest first (first_of (structs_findings env rest)) ≡ first_of (structs_findings env all)

pub declared_first : (env : Env) (text : List ℕ) (tables : List StructOf) (all : List Decl) → tables ≡ [] → AreDeclared env text tables None all all
declared_first env text tables all e = record { number = 0; tables_are = ap (λ (ts : List StructOf). ts ++ all_in_text text (structs_from env [] 0 all)) e; told = refl }

pub declared_more : (env : Env) (text : List ℕ) (tables grown : List StructOf) (first own : Option Fault) (all rest : List Decl) (d : Decl)
    → AreDeclared env text tables first all (d ∷ rest) → own ≡ first_of (struct_findings env d) → grown ≡ tables ++ all_in_text text (structs_from env [] 0 (d ∷ []))
    → AreDeclared env text grown (earliest first own) all rest
declared_more env text tables grown first own all rest (decl.Struct i gs) h is g = record {
  number = suc h.number;
  tables_are = ap (λ (ts : List StructOf). ts ++ all_in_text text (structs_from env [] (suc h.number) rest)) g
      ∙ append_assoc tables (all_in_text text (structs_from env [] 0 (decl.Struct i gs ∷ []))) (all_in_text text (structs_from env [] (suc h.number) rest))
      ∙ h.tables_are;
  told = fault_more first own (struct_findings env (decl.Struct i gs)) (structs_findings env rest) is ∙ h.told;
}
declared_more env text tables grown first own all rest (decl.Const i u e) h is g = record {
  number = h.number;
  tables_are = ap (λ (ts : List StructOf). ts ++ all_in_text text (structs_from env [] h.number rest)) (g ∙ append-nil tables) ∙ h.tables_are;
  told = fault_more first own [] (structs_findings env rest) is ∙ h.told;
}
declared_more env text tables grown first own all rest (decl.Func f) h is g = record {
  number = h.number;
  tables_are = ap (λ (ts : List StructOf). ts ++ all_in_text text (structs_from env [] h.number rest)) (g ∙ append-nil tables) ∙ h.tables_are;
  told = fault_more first own [] (structs_findings env rest) is ∙ h.told;
}

pub declared_none : (env : Env) (text : List ℕ) (tables : List StructOf) (first : Option Fault) (all : List Decl) → AreDeclared env text tables first all []
    → (first ≡ first_of (structs_findings env all)) × (tables ≡ all_in_text text (structs_from env [] 0 all))
declared_none env text tables first all h = (sym (earliest_none first) ∙ h.told, sym (append-nil tables) ∙ h.tables_are)

-- ---- one field and one group more

pub field_on : (s : Source) (old known grown : StructOf) (env : Env) (i : Lexeme) (is names : List Lexeme) (k : Option GoType) → env.source ≡ s → known.text ≡ s.text
    → with_fields known (group_fields env (i ∷ is) k) ≡ with_fields old (group_fields env names k) → grown ≡ with_field known (span_by i) k
    → with_fields grown (group_fields env is k) ≡ with_fields old (group_fields env names k)
field_on s old known grown env i is names k e t h g =
    ap (λ (x : StructOf). with_fields x (group_fields env is k)) (g ∙ sym (named s known env i k e t))
    ∙ fields_on known (record { name = name_in env.source i; kind = k } ∷ []) (group_fields env is k)
    ∙ h
  where
    named : (s : Source) (known : StructOf) (env : Env) (i : Lexeme) (k : Option GoType) → env.source ≡ s → known.text ≡ s.text
        → with_fields known (record { name = name_in env.source i; kind = k } ∷ []) ≡ with_field known (span_by i) k
    named s known env i k e t = ap (λ (text : List ℕ). with_fields known (record { name = slice_range text i.start i.end; kind = k } ∷ [])) (ap (λ (x : Source). x.text) e ∙ sym t)

pub field_fields : (s : Source) (known grown : StructOf) (i : Lexeme) (k : Option GoType) → known.text ≡ s.text → grown ≡ with_field known (span_by i) k
    → grown.struct.fields ≡ known.struct.fields ++ record { name = name_in s i; kind = k } ∷ []
field_fields s known grown i k t g = ap (λ (x : StructOf). x.struct.fields) g
    ∙ ap (λ (text : List ℕ). known.struct.fields ++ record { name = slice_range text i.start i.end; kind = k } ∷ []) t

pub nothing_on : (t : StructOf) → with_fields t [] ≡ t
nothing_on t = ap (λ (fs : List FieldType). record { text = t.text; struct = record { name = t.struct.name; fields = fs; methods = t.struct.methods } }) (append-nil t.struct.fields)

pub drop_item : {T : Type 0} (xs : List T) (i : ℕ) (x : T) → i < length xs → x ≡ get_or xs i x → drop i xs ≡ x ∷ drop (i + 1) xs
drop_item xs i x l e = drop_more xs i x l ∙ ap (λ y. y ∷ drop (i + 1) xs) (sym e)
