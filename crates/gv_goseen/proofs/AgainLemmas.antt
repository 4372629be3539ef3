-- Names that stand in a list again, by a table of those before them.
use Rattle.std.specs.Prelude.{not, is_some, is_none, slice_range}
use Rattle.std.proofs.Common.{◌≡◌, ℕ, Bool, true, false, cond, List, [], ◌∷◌, ◌++◌, Option, Some, None, refl, sym, ap, ◌∙◌, subst}
use Rattle.std.specs.Str.{bytes_eq}
use Rattle.gv_base.specs.declared.answers.Code.TheVariants.{Twice}
use Rattle.gv_gosyntax.specs.declared.lexeme.Lexeme.{Lexeme}
use Rattle.gv_gotypes.specs.Types.{unless}
use Rattle.gv_gotypes.specs.declared.names.Entity.{Entity}
use Rattle.gv_gotypes.specs.Scopes.{Source, Named, named_in, name_in}
use Rattle.gv_gotypes.specs.Calls.{is_keyed_in}
use Rattle.gv_gotyped.specs.declared.fault.Fault.{Fault}
use Rattle.gv_gotyped.specs.First.{first_of, earliest}
use Rattle.gv_gotyped.proofs.Firsts.{earliest_of_three, first_both}
use Rattle.gv_goscopes.specs.Called.{keyed_again}
use Rattle.gv_gonames.specs.declared.span.Span.{Span}
use Rattle.gv_gonames.specs.Named.{NamesOf, spelled, with_named}
use Rattle.gv_goseen.specs.Naming.{span_by}

-- the names before the rest stand in a table, and a fault is told of them
pub record IsAgain (s : Source) (known : List Named) (first : Option Fault) (rest names : List Lexeme) : Type 0 where
  pub before : List (List ℕ)
  pub alike : (n : List ℕ) → is_keyed_in before n ≡ is_some (named_in known n)
  pub told : earliest first (first_of (keyed_again s before rest)) ≡ first_of (keyed_again s [] names)

pub again_first : (s : Source) (names : List Lexeme) → IsAgain s [] None names names
again_first s names = record { before = []; alike = λ n. refl; told = refl }

one_more : (known : List Named) (n : Named) (name : List ℕ) → is_some (named_in (known ++ n ∷ []) name) ≡ cond (bytes_eq n.name name) true (is_some (named_in known name))
one_more [] n name = step (bytes_eq n.name name)
  where
    step : (b : Bool) → is_some (cond b (Some n.entity) None) ≡ cond b true false
    step true = refl
    step false = refl
one_more (m ∷ ms) n name = step (bytes_eq m.name name) (bytes_eq n.name name) (one_more ms n name)
  where
    step : (b own : Bool) → is_some (named_in (ms ++ n ∷ []) name) ≡ cond own true (is_some (named_in ms name))
        → is_some (cond b (Some m.entity) (named_in (ms ++ n ∷ []) name)) ≡ cond own true (is_some (cond b (Some m.entity) (named_in ms name)))
    step true true e = refl
    step true false e = refl
    step false own e = e

absent : (o : Option Entity) → is_none o ≡ not (is_some o)
absent None = refl
absent (Some e) = refl

pub again_more : (s : Source) (known : List Named) (first : Option Fault) (t : Lexeme) (rest names : List Lexeme) (new : Bool) (e : Entity) → IsAgain s known first (t ∷ rest) names
    → new ≡ is_none (named_in known (name_in s t)) → IsAgain s (known ++ record { name = name_in s t; entity = e } ∷ []) (earliest first (first_of (unless new t.start Twice))) rest names
again_more s known first t rest names new e h is = record {
  before = name_in s t ∷ h.before;
  alike = λ n. ap (λ (b : Bool). cond (bytes_eq (name_in s t) n) true b) (h.alike n)
      ∙ sym (one_more known (record { name = name_in s t; entity = e }) n);
  told = earliest_of_three first (first_of (unless new t.start Twice)) (first_of (keyed_again s (name_in s t ∷ h.before) rest))
      ∙ ap (λ (b : Bool). earliest first (earliest (first_of (unless b t.start Twice)) (first_of (keyed_again s (name_in s t ∷ h.before) rest)))) same
      ∙ ap (earliest first) (sym (first_both (unless (not (is_keyed_in h.before (name_in s t))) t.start Twice) (keyed_again s (name_in s t ∷ h.before) rest)))
      ∙ h.told;
}
  where
    same : new ≡ not (is_keyed_in h.before (name_in s t))
    same = is ∙ absent (named_in known (name_in s t)) ∙ ap not (sym (h.alike (name_in s t)))

-- the same by the table that is kept of them
pub again_step : (s : Source) (known grown : NamesOf) (first made : Option Fault) (t : Lexeme) (rest names : List Lexeme) (new : Bool) (e : Entity) (span : Span) → known.text ≡ s.text → span ≡ span_by t
    → IsAgain s known.names first (t ∷ rest) names → new ≡ is_none (named_in known.names (spelled known span)) → grown ≡ with_named known span e
    → made ≡ earliest first (first_of (unless new t.start Twice)) → IsAgain s grown.names made rest names
again_step s known grown first made t rest names new e span text is h told added made_is =
    subst (λ (ns : List Named). IsAgain s ns made rest names) (sym grown_names)
    (subst (λ (f : Option Fault). IsAgain s (known.names ++ record { name = name_in s t; entity = e } ∷ []) f rest names) (sym made_is)
    (again_more s known.names first t rest names new e h (told ∙ ap (λ (n : List ℕ). is_none (named_in known.names n)) same)))
  where
    same : spelled known span ≡ name_in s t
    same = ap (λ (x : Span). slice_range known.text x.start x.end) is ∙ ap (λ (x : List ℕ). slice_range x t.start t.end) text

    grown_names : grown.names ≡ known.names ++ record { name = name_in s t; entity = e } ∷ []
    grown_names = ap (λ (g : NamesOf). g.names) added ∙ ap (λ (n : List ℕ). known.names ++ record { name = n; entity = e } ∷ []) same
