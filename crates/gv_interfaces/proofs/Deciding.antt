-- What the tables of names decide, and what is found among all names.
use Rattle.std.proofs.Common.{◌≡◌, ℕ, ◌<◌, Bool, true, false, List, length, map, Option, Some, None, Result, Ok, Err, option_map, refl, sym, ap, subst, ◌∙◌}
use Rattle.std.specs.Prelude.{not, slice_get, IfOk, IfSome, IfNone}
use Rattle.std.proofs.lemmas.Option.{slice_get_within}
use Rattle.gv_base.specs.declared.answers.Code.{Code}
use Rattle.gv_base.specs.declared.answers.Place.{Place}
use Rattle.gv_base.specs.declared.answers.Refusal.{Refusal}
use Rattle.gv_base.specs.declared.answers.Refusal.TheVariants as refusal
use Rattle.gv_text.specs.Answers.{IsReadSo}
use Rattle.gv_base.specs.Places.{place_at}
use Rattle.gv_base.specs.declared.small.Small.{Small}
use Rattle.gv_base.specs.declared.small.SmallOp.{SmallOp}
use Rattle.gv_base.specs.declared.token.Token.{Token}
use Rattle.gv_text.proofs.FirstFaults.{decided}
use Rattle.gv_lex.specs.Reading as lex
use Rattle.gv_atomic.specs.declared.spec.Op.{Op}
use Rattle.gv_atomic.specs.declared.spec.Spec.{Spec}
use Rattle.gv_specread.specs.declared.tree.OpTree.{OpTree}
use Rattle.gv_specread.specs.declared.tree.SpecTree.{SpecTree}
use Rattle.gv_specread.specs.Seen.{seen}
use Rattle.gv_specread.specs.Reading as grammar
use Rattle.gv_specs.specs.Names.{name_in}
use Rattle.gv_specs.specs.Reading.{HasTree, Spells}
use Rattle.gv_interfaces.specs.Deciding.{takes_words, are_other, differs, first_among}
use Rattle.gv_interfaces.specs.Interfaces.{named, small_signature, spec_signature, SameOperations, IsDiffering, IsFirstDiffering}
use Rattle.gv_interfaces.specs.Places.{name_place}
use Rattle.gv_interfaces.specs.Tables.{number_among}
use Rattle.gv_interfaces.proofs.ByName.{number_none, number_some, both_none}
use Rattle.gv_interfaces.proofs.Decided.{tree_names}
use Rattle.gv_interfaces.proofs.Finding.{first_found, none_found}

some_same : {A : Type 0} (x y : A) (o : Option A) → o ≡ Some x → o ≡ Some y → x ≡ y
some_same x y o h k = let same : Some x ≡ Some y = sym h ∙ k in cc

-- a number that a table holds is one of an item
pub within : {A : Type 0} (f : A → List ℕ) (name : List ℕ) (xs : List A) (n : ℕ) → number_among (map f xs) name ≡ Some n → n < length xs
within f name xs n h = let found = number_some f name xs n h in slice_get_within xs n found.0 found.2

-- and the item with the name is the one under the number
named_at : {A : Type 0} (f : A → List ℕ) (name : List ℕ) (xs : List A) (n : ℕ) (x : A) → number_among (map f xs) name ≡ Some n → slice_get xs n ≡ Some x
    → named f name xs ≡ Some x
named_at f name xs n x h is = let found = number_some f name xs n h in found.1 ∙ ap Some (some_same found.0 x (slice_get xs n) found.2 is)

module _ (p : Small) (s : Spec) (name : List ℕ) where
  sides : (one : Option SmallOp) (other : Option Op) → named (λ op. op.name) name p.ops ≡ one → named (λ op. op.name) name s.ops ≡ other
      → are_other s.store one other ≡ differs p s name
  sides one other h k =
      ap (λ o. are_other s.store o other) (sym h) ∙ ap (λ o. are_other s.store (named (λ op. op.name) name p.ops) o) (sym k)

  pub in_none : number_among (map (λ op. op.name) p.ops) name ≡ None → number_among (map (λ op. op.name) s.ops) name ≡ None → false ≡ differs p s name
  in_none h k = sides None None (number_none (λ op. op.name) name p.ops h) (number_none (λ op. op.name) name s.ops k)

  pub in_package_alone : (n : ℕ) → number_among (map (λ op. op.name) p.ops) name ≡ Some n → number_among (map (λ op. op.name) s.ops) name ≡ None → true ≡ differs p s name
  in_package_alone n h k =
      let found = number_some (λ op. op.name) name p.ops n h in
      sides (Some found.0) None found.1 (number_none (λ op. op.name) name s.ops k)

  pub in_spec_alone : (n : ℕ) → number_among (map (λ op. op.name) p.ops) name ≡ None → number_among (map (λ op. op.name) s.ops) name ≡ Some n → true ≡ differs p s name
  in_spec_alone n h k =
      let found = number_some (λ op. op.name) name s.ops n k in
      sides None (Some found.0) (number_none (λ op. op.name) name p.ops h) found.1

  pub in_both : (n m : ℕ) (op : SmallOp) (o : Op) (same : Bool) → number_among (map (λ op. op.name) p.ops) name ≡ Some n → number_among (map (λ op. op.name) s.ops) name ≡ Some m
      → slice_get p.ops n ≡ Some op → slice_get s.ops m ≡ Some o → same ≡ takes_words (length op.params) s.store o → not same ≡ differs p s name
  in_both n m op o same h k x y e =
      ap not e ∙ sides (Some op) (Some o) (named_at (λ op. op.name) name p.ops n op h x) (named_at (λ op. op.name) name s.ops m o k y)

-- ---- all names

module _ {E : Type 0} (p : Small) (s : Spec) (r : Result (Option (List ℕ)) E) (first : Option (List ℕ)) (ours theirs : List (List ℕ)) where
  pub same_if_none : IfOk r (λ o. o ≡ first_among p s first theirs) → first ≡ first_among p s None ours → ours ≡ map (λ op. op.name) p.ops
      → theirs ≡ map (λ op. op.name) s.ops → IfOk r (λ o. IfNone o (SameOperations p s))
  same_if_none h f a b = by_result r h
    where
      by_result : (r : Result (Option (List ℕ)) E) → IfOk r (λ o. o ≡ first_among p s first theirs) → IfOk r (λ o. IfNone o (SameOperations p s))
      by_result (Ok None) h = none_found p s ours theirs a b (ap (λ x. first_among p s x theirs) (sym f) ∙ sym h)
      by_result (Ok (Some n)) h = tt
      by_result (Err e) h = tt

  pub first_if_some : IfOk r (λ o. o ≡ first_among p s first theirs) → first ≡ first_among p s None ours → ours ≡ map (λ op. op.name) p.ops
      → theirs ≡ map (λ op. op.name) s.ops → IfOk r (λ o. IfSome o (IsFirstDiffering p s))
  first_if_some h f a b = by_result r h
    where
      by_result : (r : Result (Option (List ℕ)) E) → IfOk r (λ o. o ≡ first_among p s first theirs) → IfOk r (λ o. IfSome o (IsFirstDiffering p s))
      by_result (Ok None) h = tt
      by_result (Ok (Some n)) h = first_found p s ours theirs n a b (ap (λ x. first_among p s x theirs) (sym f) ∙ sym h)
      by_result (Err e) h = tt

-- ---- texts

-- what is read isn't refused
pub never_refused : {V : Type 0} (P : V → Type 0) (e : Refusal) (place : Place) (code : Code) → e ≡ refusal.At place code → IsReadSo P (Err e) → ⊥
never_refused P e place code is h = subst (λ (x : Refusal). IsReadSo P (Err x)) is h

-- the tokens of a text have its tree
pub tree_read : (text : List ℕ) (tokens : List Token) → lex.IsRead text tokens → (tree : SpecTree) → HasTree text tree → grammar.IsRead text (seen text tokens) tree
tree_read text tokens read tree h =
    subst (λ (ts : List Token). grammar.IsRead text (seen text ts) tree) ((decided lex.own text).one_value h.tokens tokens h.cut read) h.read

-- a name that stands nowhere in a specification's text names none of its operations
pub absent_in_spec : (text name : List ℕ) (s : Spec) (o : Option Place) → Spells text s → (tree : SpecTree) × HasTree text tree × (o ≡ name_place text name tree.ops) → o ≡ None
    → named (λ op. op.name) name s.ops ≡ None
absent_in_spec text name s o spells (tree, has, is) none =
    both_none (λ t. name_in text t.name) (λ op. op.name) name tree.ops s.ops (tree_names text s tree spells has)
    (never_mapped (named (λ t. name_in text t.name) name tree.ops) (sym is ∙ none))
  where
    never_mapped : (found : Option OpTree) → option_map (λ (op : OpTree). place_at text op.name.start) found ≡ None → found ≡ None
    never_mapped None e = refl
    never_mapped (Some t) e = absurd cc

-- what differs and isn't there is in the package
pub there_in_package : (p : Small) (s : Spec) (name : List ℕ) → IsDiffering p s name → named (λ op. op.name) name s.ops ≡ None → named (λ op. op.name) name p.ops ≡ None → ⊥
there_in_package p s name d none other = d (ap (option_map small_signature) other ∙ sym (ap (option_map (spec_signature s.store)) none))

pub some_is : {A : Type 0} (P : A → Type 0) (o : Option A) (x : A) → o ≡ Some x → IfSome o P → P x
some_is P o x e h = subst (λ y. IfSome y P) e h
