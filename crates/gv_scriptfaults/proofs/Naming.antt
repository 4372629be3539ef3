-- Predicates that may be named, one after another.
use Rattle.std.proofs.Common.{◌≡◌, ℕ, List, [], ◌∷◌, ◌++◌, map, sym, ap, subst, ◌∙◌, append_assoc, append-nil}
use Rattle.std.proofs.lemmas.List.{map-append}
use Rattle.std.specs.Str.{bytes_eq}
use Rattle.gv_lang.specs.declared.program.Program.{Program}
use Rattle.gv_atomic.specs.declared.spec.Spec.{Spec}
use Rattle.gv_termread.specs.declared.token.SeenToken.{SeenToken}
use Rattle.gv_scriptnames.specs.declared.outline.BookOutline.{BookOutline}
use Rattle.gv_scriptnames.specs.declared.outline.PredOutline.{PredOutline}
use Rattle.gv_scriptnames.specs.Names.{name_in}
use Rattle.gv_scriptnames.specs.Scopes.{Shape, shape_of, book_lease, block_lease, shapes_of, outside}
use Rattle.gv_scriptnames.specs.Found.{all_twice}
use Rattle.gv_scriptfaults.specs.declared.scoped.Params.{Params}
use Rattle.gv_scriptfaults.specs.declared.scoped.Outside.{Outside}
use Rattle.gv_scriptfaults.specs.Tables.{has, entry, kept, IsTable}
use Rattle.gv_scriptfaults.specs.Scoped.{params_of, IsOutside}
use Rattle.gv_scriptfaults.proofs.Tables.{table_more}

shapes_last : (text : List ℕ) (books : List BookOutline) (before : List PredOutline) (p : PredOutline) → shapes_of text books before ++ shape_of text p ∷ [] ≡ shapes_of text books (before ++ p ∷ [])
shapes_last text books before p =
    ap (λ ss. block_lease ∷ ss)
    (append_assoc (map (book_lease text) books) (map (shape_of text) before) (shape_of text p ∷ []) ∙ ap (λ ss. map (book_lease text) books ++ ss) (sym (map-append (shape_of text) before (p ∷ []))))

pub pred_added : (text : List ℕ) (books : List BookOutline) (before : List PredOutline) (p : PredOutline) (name : List ℕ) (value : Params) (old new : Outside) → name ≡ name_in text p.name → value ≡ params_of (shape_of text p)
    → ((n : List ℕ) → entry new.preds n ≡ kept (entry old.preds n) (bytes_eq name n) value) → old.books ≡ new.books → IsOutside (outside text books before) old → IsOutside (outside text books (before ++ p ∷ [])) new
pred_added text books before p name value old new e f more same is = record {
  preds = subst (λ (ss : List Shape). IsTable (λ s. s.name) params_of ss new.preds) (shapes_last text books before p)
      (table_more (λ (s : Shape). s.name) params_of (shapes_of text books before) (shape_of text p) name value old.preds new.preds e f more is.preds);
  books = λ n. ap (λ b. has b n) (sym same) ∙ is.books n;
}

pub behind_none : (text : List ℕ) (spec : Spec) (program : Program) (names : List (List ℕ)) (ts us : List SeenToken) → ts ≡ us → all_twice text spec program (names ++ []) ts ≡ all_twice text spec program names us
behind_none text spec program names ts us e = ap (λ ns. all_twice text spec program ns ts) (append-nil names) ∙ ap (all_twice text spec program names) e
