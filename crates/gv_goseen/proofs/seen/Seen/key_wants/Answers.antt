use Rattle.std.proofs.Common.{ℕ, List, ap, ◌∙◌, option_map}
use Rattle.std.specs.Prelude.{slice_get}
use Rattle.gv_gotypes.specs.Scopes.{StructType, Package}
use Rattle.gv_gonames.specs.Structs.{member_among}
use Rattle.gv_goseen.specs.Keys.{wants_by}
use Rattle.gv_goseen.specs.Seen.{package_of}
use Rattle.gv_goseen.proofs.MemberLemmas.{wants_so}
use Rattle.gv_goseen.proofs.seen.Seen.key_wants.Goals as goal

pub returns : goal.returns
returns c =
    let p : Package = package_of c.args.self.now.declared in
    c.wants_as.ensures
    ∙ ap wants_by c.row.ensures
    ∙ ap (λ (n : List ℕ). wants_by (option_map (λ (s : StructType). member_among s.fields s.methods n) (slice_get p.structs c.args.number))) c.bytes.ensures
    ∙ wants_so p c.args.number _
