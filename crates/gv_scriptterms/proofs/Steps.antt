-- From a node to the nodes of its parts, and terms that are taken off the end of a list.
use Rattle.std.proofs.Common.{◌≡◌, ℕ, ◌<◌, List, [], ◌∷◌, ◌++◌, length, sym, subst, arith}
use Rattle.gv_terms.specs.declared.tree.RawTerm.{RawTerm}
use Rattle.gv_termread.specs.declared.generated.term_acts.Part.TheVariants.{Other as POther, Term as PTerm}
use Rattle.gv_termread.specs.declared.placed.PlacedTerm.{PlacedTerm}
use Rattle.gv_scriptsyntax.specs.declared.generated.script_acts.ScriptPart.TheVariants.{Terms as PTerms}
use Rattle.gv_scriptsyntax.specs.declared.node.Node.{Node}
use Rattle.gv_scriptsyntax.specs.Nodes.{IsPartAt}
use Rattle.gv_scriptnodes.specs.Lasts.{IsItem, IsLeft}
use Rattle.gv_scriptnodes.proofs.Taken.{one_taken}
use Rattle.gv_certnodes.specs.Places.{IsBefore}
use Rattle.gv_certnodes.specs.Term.{IsSomeTerm}
use Rattle.gv_certnodes.specs.Terms.{IsSomeTerms}

pub term_there : (text : List ℕ) (nodes : List Node) (at place : ℕ) (t : PlacedTerm) → at < length nodes → IsBefore text nodes at place (PTerm t) → IsSomeTerm text nodes place
term_there text nodes at place t l is = let k = is.before in record { whole = t; within = omega (arith, l, k); part = is.is }

pub terms_there : (text : List ℕ) (nodes : List Node) (at place : ℕ) (ts : List PlacedTerm) → at < length nodes → IsBefore text nodes at place (POther (PTerms ts)) → IsSomeTerms text nodes place
terms_there text nodes at place ts l is = let k = is.before in record { whole = ts; within = omega (arith, l, k); part = is.is }

abbrev pub raw : PlacedTerm → RawTerm
raw t = t.term

abbrev pub TermsAt : List ℕ → List Node → ℕ → List PlacedTerm → Type 0
TermsAt text nodes place ts = IsPartAt text nodes place (POther (PTerms ts))

-- those that were taken follow those that are left
abbrev pub Left : List ℕ → List Node → ℕ → List RawTerm → List PlacedTerm → Type 0
Left text nodes place taken whole = IsLeft (TermsAt text nodes) raw place taken whole

pub one_more : (text : List ℕ) (nodes : List Node) (place before : ℕ) (item : RawTerm) (taken new : List RawTerm) (whole : List PlacedTerm) → Left text nodes place taken whole → new ≡ taken ++ item ∷ []
    → ((rest : List PlacedTerm) → TermsAt text nodes place rest → IsItem (TermsAt text nodes) (λ (found : RawTerm) last. found ≡ raw last) item before rest) → Left text nodes before new whole
one_more text nodes place before item taken new whole left grown last =
    subst (λ (ts : List RawTerm). Left text nodes before ts whole) (sym grown) (one_taken (TermsAt text nodes) raw place before item taken whole left last)
