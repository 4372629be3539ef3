use Rattle.std.specs.Prelude.{List}
use Rattle.gv_termread.specs.declared.placed.PlacedTerm.{PlacedTerm}
use Rattle.gv_certnodes.specs.Terms.{IsSomeTerms}
use Rattle.gv_scriptterms.proofs.Steps.{TermsAt, Left}
use Rattle.gv_scriptterms.proofs.terms.terms_at.Given as goal

abbrev pub invariant-loop-before : goal.invariant-loop-before
invariant-loop-before l = record {
  some : IsSomeTerms l.text l.nodes l.place;
  left : (whole : List PlacedTerm) → TermsAt l.text l.nodes l.at whole → Left l.text l.nodes l.place l.terms.items whole;
}

abbrev pub decreases-loop-before : goal.decreases-loop-before
decreases-loop-before l = l.place
