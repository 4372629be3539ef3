-- Operations differ at one place first, or nowhere.
use Rattle.std.proofs.Common.{◌≡◌, ℕ, suc, Bool, true, false, List, [], ◌∷◌, map, Option, Some, None, option_map, refl, sym, ap, ◌∙◌, arith}
use Rattle.std.specs.Prelude.{if◌then◌else◌}
use Rattle.std.specs.Str.{bytes_eq}
use Rattle.std.specs.declared.cmp.Ordering.{Ordering}
use Rattle.std.specs.declared.cmp.Ordering.TheVariants.{Less, Equal, Greater}
use Rattle.gv_base.specs.Places.{place_at}
use Rattle.gv_base.specs.declared.answers.Place.{Place}
use Rattle.gv_base.specs.declared.small.Small.{Small}
use Rattle.gv_terms.specs.declared.sort.Sort.{Sort}
use Rattle.gv_terms.specs.declared.term.Term.{Term}
use Rattle.gv_terms.specs.declared.tree.TermTree.{TermTree}
use Rattle.gv_terms.specs.Store.{tree_at}
use Rattle.gv_terms.specs.Trees.{sort_of}
use Rattle.gv_atomic.specs.declared.spec.Op.{Op}
use Rattle.gv_atomic.specs.declared.spec.Spec.{Spec}
use Rattle.gv_spec.specs.Atomic.{term_sort}
use Rattle.gv_specread.specs.declared.tree.OpTree.{OpTree}
use Rattle.gv_specread.specs.declared.tree.SpecTree.{SpecTree}
use Rattle.gv_specs.specs.Alike.{ShownOp, shown_op, AreAlike}
use Rattle.gv_specs.specs.Names.{name_in}
use Rattle.gv_specs.specs.Reading.{HasTree, Spells}
use Rattle.gv_specs.specs.Told.{AreEach}
use Rattle.gv_specs.proofs.Alike.{one_specification}
use Rattle.gv_specs.proofs.Decided.{one_tree}
use Rattle.gv_interfaces.specs.declared.difference.Difference.{Difference}
use Rattle.gv_interfaces.specs.declared.difference.Difference.TheVariants as difference
use Rattle.gv_interfaces.specs.Interfaces.{Signature, named, spec_signature, in_spec, IsDiffering, IsFirstDiffering}
use Rattle.gv_interfaces.specs.Laws.{OneDifference, NoneWhereSame, SameForBoth}
use Rattle.gv_interfaces.specs.Places.{name_place, StandsInSpec, IsFirstDifference, method_place}
use Rattle.gv_interfaces.proofs.ByName.{both_none}
use Rattle.gv_interfaces.proofs.Order.{compared, turned, same_bytes}

some_same : {A : Type 0} (x y : A) (o : Option A) → o ≡ Some x → o ≡ Some y → x ≡ y
some_same x y o h k = let same : Some x ≡ Some y = sym h ∙ k in cc

none_some : {A : Type 0} (x : A) (o : Option A) → o ≡ None → o ≡ Some x → ⊥
none_some x o h k = let clash : None ≡ Some x = sym h ∙ k in cc

-- ---- specifications that one text spells

abbrev shown_sort : Option TermTree → Option Sort
shown_sort None = None
shown_sort (Some tree) = sort_of tree

sort_shown : (ts : List TermTree) (reply : Option Term) → term_sort ts reply ≡ shown_sort (option_map (λ t. tree_at ts t.id) reply)
sort_shown ts None = refl
sort_shown ts (Some t) = refl

abbrev shown_signature : ShownOp → Signature
shown_signature o = record { params = map (λ v. v.sort) o.params; reply = shown_sort o.reply }

signature_shown : (ts : List TermTree) (o : Op) → spec_signature ts o ≡ shown_signature (shown_op ts o)
signature_shown ts o = let reply = sort_shown ts o.reply in λ i. record { params = map (λ v. v.sort) o.params; reply = reply i }

named_same : (ts us : List TermTree) (name : List ℕ) (os ps : List Op) → map (shown_op ts) os ≡ map (shown_op us) ps
    → option_map (spec_signature ts) (named (λ op. op.name) name os) ≡ option_map (spec_signature us) (named (λ op. op.name) name ps)
named_same ts us name [] [] e = refl
named_same ts us name [] (p ∷ ps) e = absurd cc
named_same ts us name (o ∷ os) [] e = absurd cc
named_same ts us name (o ∷ os) (p ∷ ps) e =
    let head : shown_op ts o ≡ shown_op us p = cc in
    let rest : map (shown_op ts) os ≡ map (shown_op us) ps = cc in
    let signature : spec_signature ts o ≡ spec_signature us p = signature_shown ts o ∙ ap shown_signature head ∙ sym (signature_shown us p) in
    chosen (bytes_eq o.name name) (bytes_eq p.name name) (Some o) (named (λ op. op.name) name os) (Some p) (named (λ op. op.name) name ps)
    (ap (λ (x : ShownOp). bytes_eq x.name name) head) (ap Some signature) (named_same ts us name os ps rest)
  where
    chosen : (b c : Bool) (x y z w : Option Op) → b ≡ c → option_map (spec_signature ts) x ≡ option_map (spec_signature us) z
        → option_map (spec_signature ts) y ≡ option_map (spec_signature us) w
        → option_map (spec_signature ts) (if b then x else y) ≡ option_map (spec_signature us) (if c then z else w)
    chosen true true x y z w e h k = h
    chosen true false x y z w e h k = absurd cc
    chosen false true x y z w e h k = absurd cc
    chosen false false x y z w e h k = k

in_both : (s t : Spec) → AreAlike s t → (name : List ℕ) → in_spec s name ≡ in_spec t name
in_both s t alike name = named_same s.store t.store name s.ops t.ops alike.ops

-- the names of a text's operations are those of the specification
names_of_trees : (text : List ℕ) (Is : ℕ → OpTree → Op → Type 0) (trees : List OpTree) (ops : List Op) → AreEach Is trees ops
    → ((i : ℕ) (t : OpTree) (o : Op) → Is i t o → o.name ≡ name_in text t.name) → map (λ t. name_in text t.name) trees ≡ map (λ o. o.name) ops
names_of_trees text Is [] [] h is = refl
names_of_trees text Is [] (o ∷ os) h is = let c = h.count in absurd (omega (arith, c))
names_of_trees text Is (t ∷ ts) [] h is = let c = h.count in absurd (omega (arith, c))
names_of_trees text Is (t ∷ ts) (o ∷ os) h is =
    let one : name_in text t.name ≡ o.name = sym (is 0 t o (h.each 0 t o refl refl)) in
    let rest : map (λ t. name_in text t.name) ts ≡ map (λ o. o.name) os = names_of_trees text (λ i. Is (suc i)) ts os
    (record { count = let c = h.count in omega (arith, c); each = λ i a b p q. h.each (suc i) a b p q }) (λ i. is (suc i)) in
    ap (λ (n : List ℕ). n ∷ map (λ t. name_in text t.name) ts) one ∙ ap (λ (ns : List (List ℕ)). o.name ∷ ns) rest

pub tree_names : (text : List ℕ) (s : Spec) (tree : SpecTree) → Spells text s → HasTree text tree → map (λ t. name_in text t.name) tree.ops ≡ map (λ o. o.name) s.ops
tree_names text s tree h has =
    let same : h.tree ≡ tree = one_tree text h.tree tree h.has has in
    ap (λ (x : SpecTree). map (λ t. name_in text t.name) x.ops) (sym same)
    ∙ names_of_trees text _ h.tree.ops s.ops h.spelled.ops (λ i t o is. is.name)

-- ---- one first difference

one_name : (p : Small) (s : Spec) (name other : List ℕ) → IsFirstDiffering p s name → IsFirstDiffering p s other → name ≡ other
one_name p s name other h k = by_order (compared name other) refl
  where
    by_order : (r : Ordering) → compared name other ≡ r → name ≡ other
    by_order Less e = absurd (k.first name h.differs e)
    by_order Equal e = same_bytes name other e
    by_order Greater e = absurd (h.first other k.differs (turned name other Greater e))

differing_by : (p : Small) (s t : Spec) → AreAlike s t → (name : List ℕ) → IsDiffering p s name → IsDiffering p t name
differing_by p s t alike name d = λ e. d (e ∙ sym (in_both s t alike name))

first_by : (p : Small) (s t : Spec) → AreAlike s t → AreAlike t s → (name : List ℕ) → IsFirstDiffering p s name → IsFirstDiffering p t name
first_by p s t alike back name h = record {
  differs = differing_by p s t alike name h.differs;
  first = λ other d less. h.first other (differing_by p t s back other d) less;
}

one_place : (text name other : List ℕ) (a b : Place) → name ≡ other → StandsInSpec text name a → StandsInSpec text other b → a ≡ b
one_place text name other a b same h k =
    let tree : h.tree ≡ k.tree = one_tree text h.tree k.tree h.has k.has in
    some_same a b (name_place text other k.tree.ops)
    (ap (λ (x : SpecTree). name_place text other x.ops) (sym tree) ∙ ap (λ n. name_place text n h.tree.ops) (sym same) ∙ h.there) k.there

-- the specification has no operation with the name, or it stands in its text
never_both : (text name other : List ℕ) (s : Spec) (a : Place) → Spells text s → name ≡ other → StandsInSpec text name a → named (λ op. op.name) other s.ops ≡ None → ⊥
never_both text name other s a spells same h none =
    let absent : named (λ t. name_in text t.name) other h.tree.ops ≡ None =
    both_none (λ o. o.name) (λ t. name_in text t.name) other s.ops h.tree.ops (sym (tree_names text s h.tree spells h.has)) none in
    none_some a (name_place text name h.tree.ops)
    (ap (λ n. name_place text n h.tree.ops) same ∙ ap (option_map (λ (op : OpTree). place_at text op.name.start)) absent) h.there

pub one_difference : OneDifference
one_difference p text s t spec_text (difference.InSpec a) (difference.InSpec b) x y (n, f, h) (m, g, k) =
    let same = one_name p t n m (first_by p s t (one_specification spec_text s t x y) (one_specification spec_text t s y x) n f) g in
    ap difference.InSpec (one_place spec_text n m a b same h k)
one_difference p text s t spec_text (difference.InPackage a) (difference.InPackage b) x y (n, f, none, h) (m, g, other, k) =
    let same = one_name p t n m (first_by p s t (one_specification spec_text s t x y) (one_specification spec_text t s y x) n f) g in
    ap difference.InPackage (some_same a b (method_place text m) (ap (method_place text) (sym same) ∙ h) k)
one_difference p text s t spec_text (difference.InSpec a) (difference.InPackage b) x y (n, f, h) (m, g, none, k) =
    let same = one_name p t n m (first_by p s t (one_specification spec_text s t x y) (one_specification spec_text t s y x) n f) g in
    absurd (never_both spec_text n m t a y same h none)
one_difference p text s t spec_text (difference.InPackage a) (difference.InSpec b) x y (n, f, none, h) (m, g, k) =
    let same = one_name p t n m (first_by p s t (one_specification spec_text s t x y) (one_specification spec_text t s y x) n f) g in
    absurd (never_both spec_text m n s b x (sym same) k none)

pub same_for_both : SameForBoth
same_for_both p s t spec_text x y same = λ name. same name ∙ in_both s t (one_specification spec_text s t x y) name

differs_somewhere : (p : Small) (text : List ℕ) (t : Spec) (spec_text : List ℕ) (d : Difference) → IsFirstDifference p text t spec_text d
    → (name : List ℕ) × IsDiffering p t name
differs_somewhere p text t spec_text (difference.InSpec a) (n, f, h) = (n, f.differs)
differs_somewhere p text t spec_text (difference.InPackage a) (n, f, none, h) = (n, f.differs)

pub none_where_same : NoneWhereSame
none_where_same p text s t spec_text d x y same first =
    let found = differs_somewhere p text t spec_text d first in
    found.1 (same_for_both p s t spec_text x y same found.0)
