-- Lists of nodes that grow, and where the nodes of their parts begin.
use Rattle.std.proofs.Common.{◌≡◌, ℕ, zero, suc, ◌+◌, ◌-◌, ◌<◌, ◌≤◌, Bool, true, false, ◌⊎◌, inl, inr, List, [], ◌∷◌, ◌++◌, length, Option, Some, None, refl, sym, ap, subst, ◌∙◌, arith}
use Rattle.std.specs.Prelude.{take, drop, slice_get, slice_index, map, option_map, IsSome, if◌then◌else◌}
use Rattle.std.specs.Option.{option_and_then, unwrap_or}
use Rattle.std.proofs.lemmas.List.{take-append-le}
use Rattle.std.proofs.lemmas.Bool.{false≢true}
use Rattle.std.proofs.lemmas.Option.{slice_get_within, slice_get-map, unwrap_or-slice_get}
use Rattle.gv_grammar.specs.declared.levels.TheConstants.{FIRST_ACT}
use Rattle.gv_grammar.specs.declared.steps.Step.{Step}
use Rattle.gv_grammar.specs.Building.{Reduction, has_tops, act_of}
use Rattle.gv_grammar.proofs.Tests.{both}
use Rattle.gv_gosyntax.specs.declared.generated.gosyntax_acts.Part.{Part}
use Rattle.gv_gosyntax.specs.declared.generated.gosyntax_acts.Part.TheVariants.{Token as PToken}
use Rattle.gv_gosyntax.specs.declared.generated.gosyntax_acts.TheConstants.{TAKEN}
use Rattle.gv_gosyntax.specs.declared.lexeme.Lexeme.{Lexeme}
use Rattle.gv_gosyntax.specs.declared.node.Node.{Node}
use Rattle.gv_gosyntax.specs.declared.node.Node.TheVariants.{Token, Made}
use Rattle.gv_gosyntax.specs.Making.{Making, reduction_of}
use Rattle.gv_gosyntax.specs.GosyntaxActs.{gosyntax_built, gosyntax_makings}
use Rattle.gv_gosyntax.specs.Nodes.{placed, built_on, built, done_by, arity, first_of, MakeOne, IsFormed, HasParts, Allows, left_by}

-- ---- an act makes one part of those that it takes

tops_enough : {P : Type 0} (tests : List (P → Bool)) (parts : List P) → has_tops tests parts ≡ true → length tests ≤ length parts
tops_enough [] parts h = omega arith
tops_enough (test ∷ tests) [] h = absurd cc
tops_enough (test ∷ tests) (part ∷ parts) h =
    let l = tops_enough tests parts (both (test part) (has_tops tests parts) h).1 in
    omega (arith, l)

abbrev arity_in : {P : Type 0} → Option (Making P) → ℕ
arity_in found = elim found [ None ↦ 0 | Some making ↦ length making.takes ]

-- the parts that an act leaves
pub record Leaves {P : Type 0} (count : ℕ) (parts made : List P) : Type 0 where
  pub part : P
  pub same : made ≡ part ∷ drop count parts
  pub enough : count ≤ length parts

abbrev act_with : {P : Type 0} → Option (Reduction P) → List P → Option (List P)
act_with found parts = if (elim found [ None ↦ false | Some act ↦ has_tops act.takes parts ]) then Some (elim found [ None ↦ parts | Some act ↦ act.makes parts ]) else None

leaves_one : {P : Type 0} (found : Option (Making P)) (parts made : List P) → act_with (option_map reduction_of found) parts ≡ Some made → Leaves (arity_in found) parts made
leaves_one None parts made h = absurd cc
leaves_one {P} (Some making) parts made h = go (has_tops making.takes parts) refl h
  where
    go : (b : Bool) → has_tops making.takes parts ≡ b → (if b then Some (making.makes parts ∷ drop (length making.takes) parts) else None) ≡ Some made → Leaves (length making.takes) parts made
    go false e h = absurd cc
    go true e h = record { part = making.makes parts; same = cc; enough = tops_enough making.takes parts e }

makes_one : {P : Type 0} (makings : List (Making P)) (act : ℕ) (parts made : List P) → act_of (map reduction_of makings) act parts ≡ Some made
    → Leaves (arity_in (slice_get makings (act - FIRST_ACT))) parts made
makes_one {P} makings act parts made h =
    leaves_one (slice_get makings (act - FIRST_ACT)) parts made
    (subst (λ (found : Option (Reduction P)). act_with found parts ≡ Some made) (slice_get-map reduction_of makings (act - FIRST_ACT)) h)

pub act_leaves : (act : ℕ) (parts made : List Part) → done_by act parts ≡ Some made → Leaves (arity act) parts made
unfolding done_by arity
act_leaves act parts made h = makes_one gosyntax_makings act parts made h

-- ---- the table of how many parts an act takes

arities : drop 4 TAKEN ≡ map (λ (making : Making Part). length making.takes) gosyntax_makings
arities = refl

unwrap_arity : {P : Type 0} (found : Option (Making P)) → unwrap_or (option_map (λ (making : Making P). length making.takes) found) 0 ≡ arity_in found
unwrap_arity None = refl
unwrap_arity (Some making) = refl

entry_arity : (act : ℕ) → FIRST_ACT ≤ act → unwrap_or (slice_get TAKEN act) 0 ≡ arity act
unfolding arity
entry_arity zero l = absurd (omega (arith, l))
entry_arity (suc zero) l = absurd (omega (arith, l))
entry_arity (suc (suc zero)) l = absurd (omega (arith, l))
entry_arity (suc (suc (suc zero))) l = absurd (omega (arith, l))
entry_arity (suc (suc (suc (suc n)))) l =
    let e : slice_get (drop 4 TAKEN) n ≡ option_map (λ (making : Making Part). length making.takes) (slice_get gosyntax_makings n) =
    ap (λ (xs : List ℕ). slice_get xs n) arities ∙ slice_get-map (λ (making : Making Part). length making.takes) gosyntax_makings n in
    let z : suc (suc (suc (suc n))) - FIRST_ACT ≡ n = omega arith in
    ap (λ (found : Option ℕ). unwrap_or found 0) e ∙ (unwrap_arity (slice_get gosyntax_makings n) ∙ sym (ap (λ (i : ℕ). arity_in (slice_get gosyntax_makings i)) z))

pub taken_arity : (act : ℕ) → FIRST_ACT ≤ act → slice_index TAKEN act ≡ arity act
taken_arity act l = sym (unwrap_or-slice_get TAKEN act 0) ∙ entry_arity act l

-- ---- one node more

built_on_end : (nodes : List Node) (node : Node) (parts : List Part) → built_on (nodes ++ node ∷ []) parts ≡ option_and_then (λ made. placed node made) (built_on nodes parts)
built_on_end [] node parts = go (placed node parts)
  where
    go : (made : Option (List Part)) → option_and_then (λ (m : List Part). Some m) made ≡ made
    go None = refl
    go (Some made) = refl
built_on_end (first ∷ nodes) node parts = go (λ made. built_on_end nodes node made) (placed first parts)
  where
    go : ((made : List Part) → built_on (nodes ++ node ∷ []) made ≡ option_and_then (λ (m : List Part). placed node m) (built_on nodes made)) → (made : Option (List Part)) → option_and_then (λ (m : List Part). built_on (nodes ++ node ∷ []) m) made ≡ option_and_then (λ (m : List Part). placed node m) (option_and_then (λ (m : List Part). built_on nodes m) made)
    go rest None = refl
    go rest (Some made) = rest made

pub built_end : (nodes : List Node) (node : Node) → built (nodes ++ node ∷ []) ≡ option_and_then (λ made. placed node made) (built nodes)
built_end nodes node = built_on_end nodes node []

take_end : {X : Type 0} (xs : List X) (x : X) → take (length xs + 1) (xs ++ x ∷ []) ≡ xs ++ x ∷ []
take_end [] x = refl
take_end {X} (y ∷ xs) x =
    let z : suc (length xs) + 1 ≡ suc (length xs + 1) = omega arith in
    ap (λ (n : ℕ). take n (y ∷ (xs ++ x ∷ []))) z ∙ ap (λ (ys : List X). y ∷ ys) (take_end xs x)

take_before : {X : Type 0} (xs : List X) (x : X) → take (length xs) (xs ++ x ∷ []) ≡ xs
take_before [] x = refl
take_before {X} (y ∷ xs) x = ap (λ (ys : List X). y ∷ ys) (take_before xs x)

get_end : {X : Type 0} (xs : List X) (x y : X) (at : ℕ) → slice_get (xs ++ x ∷ []) at ≡ Some y → (slice_get xs at ≡ Some y) ⊎ ((at ≡ length xs) × (x ≡ y))
get_end [] x y zero e = inr (refl, cc)
get_end [] x y (suc at) e = absurd cc
get_end (z ∷ xs) x y zero e = inl e
get_end (z ∷ xs) x y (suc at) e = elim (get_end xs x y at e) [ inl f ↦ inl f | inr f ↦ inr (ap suc f.0, f.1) ]

one_more : (nodes : List Node) (node : Node) (from end : ℕ) → end ≤ length nodes → MakeOne nodes from end → MakeOne (nodes ++ node ∷ []) from end
one_more nodes node from end l m =
    let s = m.some in
    let k : from ≤ length nodes = omega (arith, l, s) in
    record {
      some = s;
      part = m.part;
      before = m.before;
      made = ap built (take-append-le end nodes (node ∷ []) l) ∙ m.made;
      kept = ap built (take-append-le from nodes (node ∷ []) k) ∙ m.kept;
    }

-- nodes that are formed stay so where a node that makes one part comes behind them
pub formed_end : (nodes : List Node) (node : Node) → IsFormed nodes → MakeOne (nodes ++ node ∷ []) (first_of (length nodes) node) (length nodes + 1) → IsFormed (nodes ++ node ∷ [])
formed_end nodes node f m at other e = go (get_end nodes node other at e)
  where
    go : (slice_get nodes at ≡ Some other) ⊎ ((at ≡ length nodes) × (node ≡ other)) → MakeOne (nodes ++ node ∷ []) (first_of at other) (at + 1)
    go (inl g) = let l = slice_get_within nodes at other g in one_more nodes node (first_of at other) (at + 1) (omega (arith, l)) (f at other g)
    go (inr (p, q)) =
        subst (λ (x : Node). MakeOne (nodes ++ node ∷ []) (first_of at x) (at + 1)) q
        (subst (λ (i : ℕ). MakeOne (nodes ++ node ∷ []) (first_of i node) (i + 1)) (sym p) m)

-- a token, and what an act makes, behind the nodes
pub token_one : (nodes : List Node) (token : Lexeme) → IsSome (built nodes) → MakeOne (nodes ++ Token token ∷ []) (length nodes) (length nodes + 1)
token_one nodes token s = go (built nodes) refl s
  where
    go : (made : Option (List Part)) → built nodes ≡ made → IsSome made → MakeOne (nodes ++ Token token ∷ []) (length nodes) (length nodes + 1)
    go None e s = absurd (false≢true s)
    go (Some parts) e s = record {
      some = omega arith;
      part = PToken token;
      before = parts;
      made = ap built (take_end nodes (Token token)) ∙ (built_end nodes (Token token) ∙ ap (λ (m : Option (List Part)). option_and_then (λ made. placed (Token token) made) m) e);
      kept = ap built (take_before nodes (Token token)) ∙ e;
    }

pub act_one : (nodes : List Node) (act from : ℕ) (parts made : List Part) → built nodes ≡ Some parts → done_by act parts ≡ Some made → from ≤ length nodes
    → built (take from nodes) ≡ Some (drop (arity act) parts) → MakeOne (nodes ++ Made act from ∷ []) from (length nodes + 1)
act_one nodes act from parts made e d l k =
    let left = act_leaves act parts made d in
    record {
      some = omega (arith, l);
      part = left.part;
      before = drop (arity act) parts;
      made = ap built (take_end nodes (Made act from)) ∙ (built_end nodes (Made act from) ∙ (ap (λ (m : Option (List Part)). option_and_then (λ made. placed (Made act from) made) m) e ∙ (d ∙ ap Some left.same)));
      kept = ap built (take-append-le from nodes (Made act from ∷ []) l) ∙ k;
    }

-- ---- back over parts

-- one part less
pub step_back : (nodes : List Node) (start : ℕ) (node : Node) (parts : List Part) → IsFormed nodes → 0 < start → slice_get nodes (start - 1) ≡ Some node → built (take start nodes) ≡ Some parts
    → built (take (first_of (start - 1) node) nodes) ≡ Some (drop 1 parts)
step_back nodes start node parts f l g e =
    let m = f (start - 1) node g in
    let q : (start - 1) + 1 ≡ start = omega (arith, l) in
    let h : built (take start nodes) ≡ Some (m.part ∷ m.before) = subst (λ (i : ℕ). built (take i nodes) ≡ Some (m.part ∷ m.before)) q m.made in
    let s : Some parts ≡ Some (m.part ∷ m.before) = sym e ∙ h in
    let r : parts ≡ m.part ∷ m.before = cc in
    m.kept ∙ ap (λ (ps : List Part). Some (drop 1 ps)) (sym r)

pub some_before : (nodes : List Node) (start : ℕ) (parts : List Part) → built (take start nodes) ≡ Some parts → 0 < length parts → 0 < start
some_before nodes zero parts e l = let q : parts ≡ [] = cc in absurd (subst (λ (ps : List Part). 0 < length ps → ⊥) (sym q) (λ h. omega (arith, h)) l)
some_before nodes (suc start) parts e l = omega arith

pub drop_more : {X : Type 0} (n : ℕ) (xs : List X) → drop 1 (drop n xs) ≡ drop (n + 1) xs
drop_more zero xs = refl
drop_more {X} (suc n) [] = let z : suc n + 1 ≡ suc (n + 1) = omega arith in sym (ap (λ (m : ℕ). drop {A = X} m []) z)
drop_more {X} (suc n) (x ∷ xs) = let z : suc n + 1 ≡ suc (n + 1) = omega arith in drop_more n xs ∙ sym (ap (λ (m : ℕ). drop m (x ∷ xs)) z)

pub length_drop : {X : Type 0} (n count : ℕ) (xs : List X) → n < count → count ≤ length xs → 0 < length (drop n xs)
length_drop zero count xs l k = omega (arith, l, k)
length_drop (suc n) zero xs l k = absurd (omega (arith, l))
length_drop (suc n) (suc count) [] l k = absurd (omega (arith, k))
length_drop (suc n) (suc count) (x ∷ xs) l k = length_drop n count xs (omega (arith, l)) (omega (arith, k))

pub within_end : {X : Type 0} (xs : List X) (at : ℕ) → at < length xs → (x : X) × (slice_get xs at ≡ Some x)
within_end [] at l = absurd (omega (arith, l))
within_end (x ∷ xs) zero l = (x, refl)
within_end (x ∷ xs) (suc at) l = within_end xs at (omega (arith, l))

-- where a part is left to be passed, there are nodes
pub parts_left : (nodes : List Node) (start end count passed : ℕ) → HasParts nodes end count → ((parts : List Part) → built (take end nodes) ≡ Some parts → built (take start nodes) ≡ Some (drop passed parts)) → passed < count
    → 0 < start
parts_left nodes start end count passed has kept l =
    some_before nodes start (drop passed has.parts) (kept has.parts has.made) (length_drop passed count has.parts l has.enough)

-- ---- what is read off a node more

pub take_whole : {X : Type 0} (xs : List X) → take (length xs) xs ≡ xs
take_whole [] = refl
take_whole {X} (x ∷ xs) = ap (λ (ys : List X). x ∷ ys) (take_whole xs)

-- what an act makes where the nodes allow it
pub record Done (nodes : List Node) (act : ℕ) : Type 0 where
  pub parts : List Part
  pub before : built nodes ≡ Some parts
  pub made : List Part
  pub done : done_by act parts ≡ Some made

pub done_of : (nodes : List Node) (act : ℕ) → Allows nodes act → Done nodes act
done_of nodes act h = go (done_by act h.parts) refl h.accepted
  where
    go : (made : Option (List Part)) → done_by act h.parts ≡ made → IsSome made → Done nodes act
    go None e s = absurd (false≢true s)
    go (Some made) e s = record { parts = h.parts; before = h.made; made = made; done = e }

pub has_parts : (nodes : List Node) (act : ℕ) → Allows nodes act → HasParts nodes (length nodes) (arity act)
has_parts nodes act h =
    let d = done_of nodes act h in
    record { parts = d.parts; made = ap built (take_whole nodes) ∙ d.before; enough = (act_leaves act d.parts d.made d.done).enough }

pub formed_token : (nodes : List Node) (token : Lexeme) → IsFormed nodes → IsSome (built nodes) → IsFormed (nodes ++ Token token ∷ [])
formed_token nodes token f s = formed_end nodes (Token token) f (token_one nodes token s)

pub formed_act : (nodes : List Node) (act from : ℕ) → IsFormed nodes → Allows nodes act → from ≤ length nodes
    → ((parts : List Part) → built nodes ≡ Some parts → built (take from nodes) ≡ Some (drop (arity act) parts)) → IsFormed (nodes ++ Made act from ∷ [])
formed_act nodes act from f h l kept =
    let d = done_of nodes act h in
    formed_end nodes (Made act from) f (act_one nodes act from d.parts d.made d.before d.done l (kept d.parts d.before))

-- ---- the engine's words

pub left_same : (steps : List Step) (tokens : List Lexeme) → left_by steps tokens ≡ gosyntax_built steps tokens
unfolding done_by
left_same steps tokens = refl

-- ---- the parts of a node

pub fewer_parts : (nodes : List Node) (end count : ℕ) → HasParts nodes end (count + 1) → HasParts nodes end count
fewer_parts nodes end count has = let l = has.enough in record { parts = has.parts; made = has.made; enough = omega (arith, l) }

pub part_there : (nodes : List Node) (start end count : ℕ) → HasParts nodes end (count + 1)
    → ((parts : List Part) → built (take end nodes) ≡ Some parts → built (take start nodes) ≡ Some (drop count parts)) → 0 < start
part_there nodes start end count has kept = parts_left nodes start end (count + 1) count has kept (omega arith)
