-- What stands before a node, and what the node makes of it.
use Rattle.std.proofs.Common.{◌≡◌, ℕ, zero, suc, ◌+◌, ◌-◌, ◌<◌, ◌≤◌, Bool, true, false, not, ◌&&◌, List, [], ◌∷◌, ◌++◌, length, Option, Some, None, refl, sym, ap, subst, ◌∙◌, arith}
use Rattle.std.specs.Prelude.{take, drop, slice_get, option_map, if◌then◌else◌}
use Rattle.std.specs.Option.{option_and_then}
use Rattle.std.proofs.lemmas.Bool.{false≢true}
use Rattle.std.proofs.lemmas.Option.{slice_get-map}
use Rattle.gv_grammar.specs.declared.levels.TheConstants.{FIRST_ACT}
use Rattle.gv_grammar.specs.Building.{Reduction, has_tops}
use Rattle.gv_gosyntax.specs.declared.generated.gosyntax_acts.Part.{Part}
use Rattle.gv_gosyntax.specs.declared.generated.gosyntax_acts.Part.TheVariants.{Token as PToken}
use Rattle.gv_gosyntax.specs.declared.lexeme.Lexeme.{Lexeme}
use Rattle.gv_gosyntax.specs.declared.node.Node.{Node}
use Rattle.gv_gosyntax.specs.declared.node.Node.TheVariants.{Token, Made}
use Rattle.gv_gosyntax.specs.Making.{Making, reduction_of}
use Rattle.gv_gosyntax.specs.GosyntaxActs.{gosyntax_acts, gosyntax_makings, is_token}
use Rattle.gv_gosyntax.specs.Nodes.{placed, built, done_by, arity, IsPartAt, HasParts, IsFormed}
use Rattle.gv_gosyntax.proofs.Nodes.{built_end, act_leaves, within_end}
use Rattle.gv_gonodes.specs.Places.{IsMade, IsMadeBy, IsPartOf, IsTokenOf, IsBefore}

-- ---- one node

take_one : {X : Type 0} (xs : List X) (at : ℕ) (x : X) → slice_get xs at ≡ Some x → take (suc at) xs ≡ take at xs ++ x ∷ []
take_one [] at x e = absurd cc
take_one {X} (y ∷ xs) zero x e = let q : y ≡ x = cc in ap (λ (z : X). z ∷ []) q
take_one {X} (y ∷ xs) (suc at) x e = ap (λ (ys : List X). y ∷ ys) (take_one xs at x e)

pub record Opened (nodes : List Node) (at : ℕ) (node : Node) (part : Part) : Type 0 where
  pub parts : List Part
  pub rest : List Part
  pub before : built (take at nodes) ≡ Some parts
  pub done : placed node parts ≡ Some (part ∷ rest)

pub opened : (nodes : List Node) (at : ℕ) (node : Node) (part : Part) → slice_get nodes at ≡ Some node → IsPartAt nodes at part → Opened nodes at node part
opened nodes at node part there is = go (built (take at nodes)) refl step
  where
    one : at + 1 ≡ suc at
    one = omega arith

    step : option_and_then (λ made. placed node made) (built (take at nodes)) ≡ Some (part ∷ is.before)
    step = sym (built_end (take at nodes) node) ∙ sym (ap built (take_one nodes at node there)) ∙ sym (ap (λ (n : ℕ). built (take n nodes)) one) ∙ is.made

    go : (made : Option (List Part)) → built (take at nodes) ≡ made → option_and_then (λ (m : List Part). placed node m) made ≡ Some (part ∷ is.before) → Opened nodes at node part
    go None e h = absurd cc
    go (Some parts) e h = record { parts = parts; rest = is.before; before = e; done = h }

abbrev pub act_with : Option (Reduction Part) → List Part → Option (List Part)
act_with found parts = if (elim found [ None ↦ false | Some act ↦ has_tops act.takes parts ]) then Some (elim found [ None ↦ parts | Some act ↦ act.makes parts ]) else None

-- acts are told by their numbers behind the marks
pub same_act : (raw act : ℕ) (parts : List Part) → raw - FIRST_ACT ≡ act - FIRST_ACT → done_by act parts ≡ done_by raw parts
unfolding done_by
same_act raw act parts e = ap (λ (n : ℕ). act_with (slice_get gosyntax_acts n) parts) (sym e)

-- the parts that an act takes are there
pub has_parts : (nodes : List Node) (at act number : ℕ) → IsFormed nodes → IsMadeBy nodes at act → number < arity act → HasParts nodes at (number + 1)
has_parts nodes at act number formed made less =
    let one = formed at (Made made.raw made.from) made.node in
    let o = opened nodes at (Made made.raw made.from) one.part made.node (record { before = one.before; made = one.made }) in
    let enough = (act_leaves act o.parts (one.part ∷ o.rest) (same_act made.raw act o.parts made.number ∙ o.done)).enough in
    record { parts = o.parts; made = o.before; enough = omega (arith, less, enough) }

pub at_part : (nodes : List Node) (end number place : ℕ) (parts rest : List Part) (part : Part) → IsPartOf nodes end number place → built (take end nodes) ≡ Some parts
    → drop number parts ≡ part ∷ rest → IsBefore nodes end place part
at_part nodes end number place parts rest part is before e = record {
  before = is.before;
  is = record { before = rest; made = is.part parts before ∙ ap (λ (ps : List Part). Some ps) e };
}

-- ---- no act makes a token

abbrev some_token : List (Making Part) → List Part → Bool
some_token [] parts = false
some_token (m ∷ ms) parts = if is_token (m.makes parts) then true else some_token ms parts

no_tokens : (parts : List Part) → some_token gosyntax_makings parts ≡ false
no_tokens parts = refl

first_or_later : (b : Bool) (n : Making Part) (ms : List (Making Part)) (parts : List Part) → is_token (n.makes parts) ≡ b → (if b then true else some_token ms parts) ≡ false
    → (is_token (n.makes parts) ≡ false) × (some_token ms parts ≡ false)
first_or_later true n ms parts q h = absurd cc
first_or_later false n ms parts q h = (q, h)

none_there : (ms : List (Making Part)) (parts : List Part) → some_token ms parts ≡ false → (at : ℕ) (m : Making Part) → slice_get ms at ≡ Some m → is_token (m.makes parts) ≡ false
none_there [] parts h at m e = absurd cc
none_there (n ∷ ms) parts h zero m e =
    let r : n ≡ m = cc in
    ap (λ (x : Making Part). is_token (x.makes parts)) (sym r) ∙ (first_or_later (is_token (n.makes parts)) n ms parts refl h).0
none_there (n ∷ ms) parts h (suc at) m e = none_there ms parts (first_or_later (is_token (n.makes parts)) n ms parts refl h).1 at m e

no_token_with : (found : Option (Making Part)) (parts rest : List Part) (t : Lexeme) → ((m : Making Part) → found ≡ Some m → is_token (m.makes parts) ≡ false)
    → act_with (option_map reduction_of found) parts ≡ Some (PToken t ∷ rest) → ⊥
no_token_with None parts rest t none h = cc
no_token_with (Some m) parts rest t none h = go (has_tops m.takes parts) h
  where
    go : (b : Bool) → (if b then Some (m.makes parts ∷ drop (length m.takes) parts) else None) ≡ Some (PToken t ∷ rest) → ⊥
    go false h = cc
    go true h =
        let q : m.makes parts ≡ PToken t = cc in
        false≢true (sym (none m refl) ∙ ap is_token q)

pub makes_no_token : (act : ℕ) (parts rest : List Part) (t : Lexeme) → done_by act parts ≡ Some (PToken t ∷ rest) → ⊥
unfolding done_by
makes_no_token act parts rest t h =
    no_token_with (slice_get gosyntax_makings (act - FIRST_ACT)) parts rest t (λ m e. none_there gosyntax_makings parts (no_tokens parts) (act - FIRST_ACT) m e)
    (subst (λ (found : Option (Reduction Part)). act_with found parts ≡ Some (PToken t ∷ rest)) (slice_get-map reduction_of gosyntax_makings (act - FIRST_ACT)) h)

-- a node that is a token is that token
pub token_there : (nodes : List Node) (at number place : ℕ) (node : Node) (token : Lexeme) → IsPartOf nodes at number place → slice_get nodes place ≡ Some node
    → ((t : Lexeme) → node ≡ Token t → token ≡ t) → IsTokenOf nodes at number token
token_there nodes at number place node token is there same = record {
  same = λ parts rest t before e.
      let b = at_part nodes at number place parts rest (PToken t) is before e in
      go parts rest t (opened nodes place node (PToken t) there b.is);
}
  where
    at_token : (n : Node) → node ≡ n → (t : Lexeme) (parts rest : List Part) → placed n parts ≡ Some (PToken t ∷ rest) → token ≡ t
    at_token (Token u) q t parts rest h = let r : u ≡ t = cc in same u q ∙ r
    at_token (Made act from) q t parts rest h = absurd (makes_no_token act parts rest t h)

    go : (parts rest : List Part) (t : Lexeme) → Opened nodes place node (PToken t) → token ≡ t
    go parts rest t o = at_token node refl t o.parts o.rest o.done

-- ---- what is no token is made by an act

pub some_made : (nodes : List Node) (at : ℕ) (part : Part) → at < length nodes → IsPartAt nodes at part → is_token part ≡ false → IsMade nodes at
some_made nodes at part l is none =
    let there = within_end nodes at l in
    let o = opened nodes at there.0 part there.1 is in
    go there.0 there.1 o.parts o.rest o.done
  where
    go : (node : Node) → slice_get nodes at ≡ Some node → (parts rest : List Part) → placed node parts ≡ Some (part ∷ rest) → IsMade nodes at
    go (Token t) e parts rest h = let q : part ≡ PToken t = cc in absurd (false≢true (sym none ∙ ap is_token q))
    go (Made act from) e parts rest h = record { act = act; from = from; node = e }
