-- Operands by the outcomes of their parts.
use Rattle.std.proofs.Common.{◌≡◌, ℕ, List, ◌++◌, Option, refl, sym, ap, subst, ◌∙◌}
use Rattle.gv_gosyntax.specs.declared.lexeme.Lexeme.{Lexeme}
use Rattle.gv_operands.specs.declared.types.Class.{Class}
use Rattle.gv_operands.specs.declared.part.Spot.{Spot}
use Rattle.gv_operands.specs.declared.part.Part.{Part}
use Rattle.gv_gotypes.specs.Types.{Finding}
use Rattle.gv_gotypes.specs.Trees.{Expr, Paren, Convert, Unary, Binary, Index}
use Rattle.gv_gotypes.specs.Scopes.{Env}
use Rattle.gv_gotypes.specs.Places.{spot_of, part_of, Outcome, behind}
use Rattle.gv_gotypes.specs.Expressions.{operand, convert_outcome, unary_outcome, binary_outcome, index_outcome}
use Rattle.gv_gotyped.specs.declared.fault.Fault.{Fault}
use Rattle.gv_gotyped.specs.declared.outcomes.Made.{Made}
use Rattle.gv_gotyped.specs.declared.outcomes.Operand.{Operand}
use Rattle.gv_gotyped.specs.First.{first_of, earliest, IsMade}
use Rattle.gv_gotyped.specs.Operands.{IsOperand}
use Rattle.gv_gotyped.proofs.Firsts.{first_both, first_of_two}

-- a spot without parentheses
abbrev pub at : ℕ → Spot
at start = record { start = start; inner = start }

-- behind what is found in the parts
pub stands : (env : Env) (e : Expr) (fs : List Finding) (o : Outcome) (start : ℕ) (first : Option Fault) (m : Made) (r : Operand)
    → operand env e ≡ behind fs o → at start ≡ spot_of e → first ≡ first_of fs → IsMade m o
    → r.part ≡ record { spot = at start; class = m.class } → r.first ≡ earliest first m.first → IsOperand env e r
stands env e fs o start first m r is there known made part told = record {
  part = part
      ∙ ap (λ (s : Spot). let p : Part = record { spot = s; class = m.class } in p) there
      ∙ ap (λ (c : Option Class). part_of e c) (made.class ∙ sym (ap (λ (x : Outcome). x.class) is));
  first = told
      ∙ ap (λ (x : Option Fault). earliest x m.first) known
      ∙ ap (λ (x : Option Fault). earliest (first_of fs) x) made.first
      ∙ sym (first_both fs o.findings)
      ∙ sym (ap (λ (x : Outcome). first_of x.findings) is);
}

-- what is made of a part is made of the operand that it is
pub moved : (f : Part → Outcome) (m : Made) (p q : Part) → p ≡ q → IsMade m (f p) → IsMade m (f q)
moved f m p q e h = subst (λ (x : Part). IsMade m (f x)) e h

pub starts : (p q : Part) → p ≡ q → at p.spot.start ≡ at q.spot.start
starts p q e = ap (λ (x : Part). at x.spot.start) e

pub paren_stands : (env : Env) (t : Lexeme) (e : Expr) (k r : Operand)
    → r.part ≡ record { spot = record { start = t.start; inner = k.part.spot.inner }; class = k.part.class } → r.first ≡ k.first
    → IsOperand env e k → IsOperand env (Paren t e) r
paren_stands env t e k r part first h = record {
  part = part ∙ ap (λ (x : Part). let p : Part = record { spot = record { start = t.start; inner = x.spot.inner }; class = x.class } in p) h.part;
  first = first ∙ h.first;
}

pub convert_stands : (env : Env) (t : Lexeme) (e : Expr) (k r : Operand) (m : Made)
    → IsMade m (convert_outcome t k.part.spot k.part.class)
    → r.part ≡ record { spot = at t.start; class = m.class } → r.first ≡ earliest k.first m.first
    → IsOperand env e k → IsOperand env (Convert t e) r
convert_stands env t e k r m made part first h =
    stands env (Convert t e) (operand env e).findings (convert_outcome t (spot_of e) (operand env e).class) t.start k.first m r refl refl h.first
    (moved (λ (x : Part). convert_outcome t x.spot x.class) m k.part (part_of e (operand env e).class) h.part made) part first

pub unary_stands : (env : Env) (t : Lexeme) (e : Expr) (k r : Operand) (m : Made)
    → IsMade m (unary_outcome t k.part.spot k.part.class)
    → r.part ≡ record { spot = at t.start; class = m.class } → r.first ≡ earliest k.first m.first
    → IsOperand env e k → IsOperand env (Unary t e) r
unary_stands env t e k r m made part first h =
    stands env (Unary t e) (operand env e).findings (unary_outcome t (spot_of e) (operand env e).class) t.start k.first m r refl refl h.first
    (moved (λ (x : Part). unary_outcome t x.spot x.class) m k.part (part_of e (operand env e).class) h.part made) part first

pub binary_stands : (env : Env) (a b : Expr) (t : Lexeme) (k l r : Operand) (m : Made) (first : Option Fault)
    → IsMade m (binary_outcome t k.part.spot l.part.spot k.part.class l.part.class) → first ≡ earliest k.first l.first
    → r.part ≡ record { spot = at k.part.spot.start; class = m.class } → r.first ≡ earliest first m.first
    → IsOperand env a k → IsOperand env b l → IsOperand env (Binary a t b) r
binary_stands env a b t k l r m first made both part told g h =
    let p = part_of a (operand env a).class in let q = part_of b (operand env b).class in
    stands env (Binary a t b) ((operand env a).findings ++ (operand env b).findings) (binary_outcome t p.spot q.spot p.class q.class) k.part.spot.start first m r refl
    (starts k.part p g.part)
    (both ∙ first_of_two (operand env a).findings (operand env b).findings k.first l.first g.first h.first)
    (moved (λ (x : Part). binary_outcome t p.spot x.spot p.class x.class) m l.part q h.part
    (moved (λ (x : Part). binary_outcome t x.spot l.part.spot x.class l.part.class) m k.part p g.part made)) part told

pub index_stands : (env : Env) (a b : Expr) (k l r : Operand) (m : Made) (first : Option Fault)
    → IsMade m (index_outcome k.part.spot l.part.spot k.part.class l.part.class) → first ≡ earliest k.first l.first
    → r.part ≡ record { spot = at k.part.spot.start; class = m.class } → r.first ≡ earliest first m.first
    → IsOperand env a k → IsOperand env b l → IsOperand env (Index a b) r
index_stands env a b k l r m first made both part told g h =
    let p = part_of a (operand env a).class in let q = part_of b (operand env b).class in
    stands env (Index a b) ((operand env a).findings ++ (operand env b).findings) (index_outcome p.spot q.spot p.class q.class) k.part.spot.start first m r refl
    (starts k.part p g.part)
    (both ∙ first_of_two (operand env a).findings (operand env b).findings k.first l.first g.first h.first)
    (moved (λ (x : Part). index_outcome p.spot x.spot p.class x.class) m l.part q h.part
    (moved (λ (x : Part). index_outcome x.spot l.part.spot x.class l.part.class) m k.part p g.part made)) part told
