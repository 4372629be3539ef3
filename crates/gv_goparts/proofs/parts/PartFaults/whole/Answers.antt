use Rattle.std.proofs.Common.{rules, ◌≡◌, ◌∙◌}
use Rattle.gv_gotyped.specs.First.{earliest}
use Rattle.gv_goparts.proofs.Sums.{whole_of}
use Rattle.gv_goparts.proofs.parts.PartFaults.whole.Goals as goal

pub returns : goal.returns
returns c = λ s f are.
    let same : c.earliest-3.result ≡ earliest (earliest c.args.self.names (earliest c.args.self.structs c.args.self.methods)) (earliest c.args.self.constants (earliest c.args.self.functions c.args.self.operations)) = search rules in
    same ∙ whole_of s f c.args.self are
