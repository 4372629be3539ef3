use Rattle.std.proofs.Common.{rules, ◌≡◌, ℕ, List, is_none, ◌∙◌}
use Rattle.gv_gonames.specs.Structs.{member_among, spelled}
use Rattle.gv_goseen.specs.Naming.{span_by, twice_by}
use Rattle.gv_goseen.proofs.Taken.{told_of_method}
use Rattle.gv_goseen.proofs.naming.declare_method.Goals as goal

pub returns-clause-told : goal.returns-clause-told
returns-clause-told c p number rest grown below from =
    let name : List ℕ = spelled c.args.table.now (span_by c.args.name) in
    let same : c.twice_unless.result ≡ twice_by name c.in_ok-new.new c.args.name.start = search rules in
    let new : c.in_ok-new.new ≡ is_none (member_among c.args.table.now.struct.fields c.args.table.now.struct.methods name) = search rules in
    same ∙ told_of_method p c.args.procedure number c.args.name.start c.args.table.now.struct rest name c.in_ok-new.new new grown below from
