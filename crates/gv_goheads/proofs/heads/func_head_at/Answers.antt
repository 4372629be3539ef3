use Rattle.std.proofs.Common.{Option, List, ap, ◌∙◌}
use Rattle.gv_gosyntax.specs.declared.lexeme.Lexeme.{Lexeme}
use Rattle.gv_gosyntax.specs.declared.tree.GoType.{GoType}
use Rattle.gv_gosyntax.specs.declared.tree.Group.{Group}
use Rattle.gv_gosyntax.specs.declared.tree.Receiver.{Receiver}
use Rattle.gv_goheads.specs.declared.head.FuncHead.{FuncHead}
use Rattle.gv_goheads.proofs.heads.func_head_at.Goals as goal

abbrev made : Option Receiver → Lexeme → List Group → List GoType → FuncHead
made r name gs ts = record { receiver = r; name = name; params = gs; results = ts }

pub returns : goal.returns
returns c = λ r gs ts h i j.
    ap (λ (x : Option Receiver). made x c.args.name c.from_vec.result c.from_vec-2.result) (c.receiver_at.ensures r h)
    ∙ ap (λ (xs : List Group). made r c.args.name xs c.from_vec-2.result) (c.from_vec.ensures ∙ c.in_ok-params.ensures gs i)
    ∙ ap (λ (xs : List GoType). made r c.args.name gs xs) (c.from_vec-2.ensures ∙ c.in_ok-results.ensures ts j)
