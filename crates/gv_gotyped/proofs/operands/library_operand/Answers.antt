use Rattle.gv_gotypes.specs.Scopes.{name_in}
use Rattle.gv_gotypes.specs.Members.{library_member}
use Rattle.gv_gotyped.proofs.PartLemmas.{library_stands}
use Rattle.gv_gotyped.proofs.operands.library_operand.Goals as goal

pub returns : goal.returns
returns c = λ env l is known. library_stands env c.args.word c.args.name l c.member_made.result c.made_at.result
    (c.member_made.ensures (library_member l (name_in env.source c.args.name)) known) c.made_at.ensures.part c.made_at.ensures.first is
