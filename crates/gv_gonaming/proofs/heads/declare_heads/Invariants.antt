use Rattle.std.proofs.Common.{◌≡◌, List, drop}
use Rattle.gv_gosyntax.specs.declared.lexeme.Lexeme.{Lexeme}
use Rattle.gv_goheads.specs.Heads.{bares}
use Rattle.gv_goheads.specs.Naming.{counts_of}
use Rattle.gv_goseen.specs.Naming.{source_with}
use Rattle.gv_gonaming.proofs.Rests.{AreStill}
use Rattle.gv_gonaming.proofs.heads.declare_heads.Given as goal

abbrev pub invariant-loop-head : goal.invariant-loop-head
invariant-loop-head l = record {
  text : l.names.text ≡ l.text;
  left : (tokens : List Lexeme)
      → AreStill (source_with l.text tokens) l.fn.names.names l.names.names l.first (counts_of l.counted) (bares l.heads) (bares (drop l.head-index l.heads));
}
