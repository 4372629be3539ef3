-- Lists of assertions that a piece stands for: more pieces, other orders, parts.
use Rattle.std.proofs.Common.{ℕ, ◌+◌, ◌≤◌, List, [], ◌∷◌, ◌++◌, arith}
use Rattle.gv_base.specs.declared.slice_val.SliceVal.{SliceVal}
use Rattle.gv_terms.specs.declared.value.Value.{Value}
use Rattle.gv_terms.specs.declared.value.Env.{Env}
use Rattle.gv_terms.specs.Trees.{value_under}
use Rattle.gv_terms.specs.Values.{slice_of}
use Rattle.gv_resources.specs.Kinds as kind
use Rattle.gv_resources.specs.Kinds.{Kind, item_kind}
use Rattle.gv_resources.specs.Pieces.{Resource, Have, Piece}
use Rattle.gv_assertions.specs.Atoms.{Atom, Predicate, Takes, here, there}
use Rattle.gv_assertions.specs.Standing.{AreParts, StandsFor, StandForAll, owns, slice, spare, instance, each, none, both, valued, OwnsItems, OwnsSpare, cell_key, owned_key}
use Rattle.gv_assertions.specs.Laws.{Parted, ListsLaw}

-- ---- who owns more

pub more_items : (k : Kind) (s : SliceVal) (place : ℕ) (items : List Value) (p q : Piece) → ((e : Resource) → p e ≤ q e) → OwnsItems k s place items p
    → OwnsItems k s place items q
more_items k s place [] p q le h = tt
more_items k s place (v ∷ items) p q le h = ((let l = le (Have k (cell_key s place) (v ∷ [])) in let m = h.0 in omega arith), more_items k s (place + 1) items p q le h.1)

pub more_spare : (s : SliceVal) (p q : Piece) → ((e : Resource) → p e ≤ q e) → OwnsSpare s p → OwnsSpare s q
more_spare s p q le h place a b =
    let (v, has) = h place a b in
    (v, (let l = le (Have kind.Item (cell_key s place) (v ∷ [])) in omega arith))

mutual
  pub more_for : {preds : List Predicate} {env : Env} {a : Atom} {p q : Piece} → ((e : Resource) → p e ≤ q e) → StandsFor preds env a p → StandsFor preds env a q
  more_for le (owns {env = env} {k = k} {key = key} {value = value} has) = owns (let l = le (Have k (owned_key k (valued env key)) (valued env value)) in omega arith)
  more_for {p = p} {q = q} le (slice {env = env} {frozen = frozen} {s = s} h) = slice (record {
    items = h.items;
    of_list = h.of_list;
    as_many = h.as_many;
    cells = more_items (item_kind frozen) (slice_of (value_under env s)) 0 h.items p q le h.cells;
  })
  more_for {p = p} {q = q} le (spare {env = env} {s = s} h) = spare (more_spare (slice_of (value_under env s)) p q le h)
  more_for le (instance pred place case own is_pred is_case values facts stands) = instance pred place case own is_pred is_case values facts (more_all le stands)
  more_for le (each parts sums stands) = each parts (λ e. let l = le e in let m = sums e in omega arith) stands

  pub more_all : {preds : List Predicate} {env : Env} {all : List Atom} {p q : Piece} → ((e : Resource) → p e ≤ q e) → StandForAll preds env all p
      → StandForAll preds env all q
  more_all le none = none
  more_all le (both q r split a s) = both q r (λ e. let l = le e in let m = split e in omega arith) a s

-- ---- order

swapped : {preds : List Predicate} {env : Env} {a b : Atom} {all : List Atom} {p : Piece} (q r : Piece) → AreParts q r p → StandsFor preds env b q
    → StandForAll preds env (a ∷ all) r → StandForAll preds env (a ∷ b ∷ all) p
swapped q r split b (both one others split' a s) =
    both one (λ e. q e + others e) (λ e. let l = split e in let m = split' e in omega arith) a (both q others (λ e. omega arith) b s)

pub front : {preds : List Predicate} {env : Env} {all rest : List Atom} {a : Atom} {p : Piece} → Takes all a rest → StandForAll preds env all p
    → StandForAll preds env (a ∷ rest) p
front here s = s
front (there t) (both q r split a s) = swapped q r split a (front t s)

pub parted : {preds : List Predicate} {env : Env} {a : Atom} {all : List Atom} {p : Piece} → StandForAll preds env (a ∷ all) p
    → Parted (StandsFor preds env a) (StandForAll preds env all) p
parted (both q r split a s) = (q, r, split, a, s)

pub put_back : {preds : List Predicate} {env : Env} {all rest : List Atom} {a : Atom} {p : Piece} → Takes all a rest → StandForAll preds env (a ∷ rest) p
    → StandForAll preds env all p
put_back here s = s
put_back (there t) (both q r split a (both one others split' b s)) =
    both one (λ e. q e + others e) (λ e. let l = split e in let m = split' e in omega arith) b (put_back t (both q others (λ e. omega arith) a s))

-- ---- lists one behind the other

pub joined : {preds : List Predicate} {env : Env} {all others : List Atom} {p q r : Piece} → AreParts p q r → StandForAll preds env all p → StandForAll preds env others q
    → StandForAll preds env (all ++ others) r
joined {p = p} {q = q} split none t = more_all (λ e. let l = split e in omega arith) t
joined {q = q} split (both one rest split' a s) t =
    both one (λ e. rest e + q e) (λ e. let l = split e in let m = split' e in omega arith) a (joined (λ e. omega arith) s t)

pub cut : {preds : List Predicate} {env : Env} (all : List Atom) {others : List Atom} {p : Piece} → StandForAll preds env (all ++ others) p
    → Parted (StandForAll preds env all) (StandForAll preds env others) p
cut [] {p = p} s = ((λ e. 0), p, (λ e. omega arith), none, s)
cut (a ∷ all) (both one rest split h s) =
    let (q, r, split', left, right) = cut all s in
    ((λ e. one e + q e), r, (λ e. let l = split e in let m = split' e in omega arith), both one q (λ e. omega arith) h left, right)

pub list_laws : ListsLaw
list_laws preds = record {
  more = λ env all p q le s. more_all le s;
  taken = λ env a all rest p t. (λ s. parted (front t s), λ (q, r, split, h, s). put_back t (both q r split h s));
  joined = λ env all others p. (λ s. cut all s, λ (q, r, split, s, t). joined split s t);
}
