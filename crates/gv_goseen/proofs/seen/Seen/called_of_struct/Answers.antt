use Rattle.std.proofs.Common.{rules, ◌≡◌, ℕ, Option, false, List, subst}
use Rattle.gv_gotypes.specs.Scopes.{Package, is_blank}
use Rattle.gv_gonames.specs.declared.rows.MemberRow.{MemberRow}
use Rattle.gv_goscopes.specs.Called.{IsCalled}
use Rattle.gv_goseen.specs.Called.{member_of_row}
use Rattle.gv_goseen.specs.Seen.{package_of}
use Rattle.gv_goseen.proofs.CalledLemmas.{struct_called}
use Rattle.gv_goseen.proofs.seen.Seen.called_of_struct.Goals as goal

pub returns : goal.returns
returns c =
    let name : List ℕ = c.args.name.now in
    let p : Package = package_of c.args.self.now.declared in
    let named : is_blank name ≡ false = search rules in
    struct_called p c.args.number name c.called_by_row.result named
    (subst (λ (r : Option (Option MemberRow)). IsCalled c.called_by_row.result (member_of_row p r)) c.row.ensures c.called_by_row.ensures)
