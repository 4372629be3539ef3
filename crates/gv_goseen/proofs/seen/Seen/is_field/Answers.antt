use Rattle.std.proofs.Common.{ℕ, Bool, Option, List, ap, ◌∙◌, option_map}
use Rattle.std.specs.Prelude.{slice_get}
use Rattle.gv_gotypes.specs.Scopes.{StructType, Package, is_blank}
use Rattle.gv_gonames.specs.Structs.{member_among}
use Rattle.gv_gonames.specs.declared.rows.MemberRow.{MemberRow}
use Rattle.gv_goseen.specs.Keys.{field_by}
use Rattle.gv_goseen.specs.Seen.{package_of}
use Rattle.gv_goseen.proofs.MemberLemmas.{is_field_so}
use Rattle.gv_goseen.proofs.seen.Seen.is_field.Goals as goal

pub returns : goal.returns
returns c =
    let p : Package = package_of c.args.self.now.declared in
    c.is_field_as.ensures
    ∙ ap (λ (b : Bool). field_by b c.row.result) c.is_blank.ensures
    ∙ ap (λ (r : Option (Option MemberRow)). field_by (is_blank c.bytes-bytes.result.now) r) c.row.ensures
    ∙ ap (λ (n : List ℕ). field_by (is_blank n) (option_map (λ (s : StructType). member_among s.fields s.methods n) (slice_get p.structs c.args.number))) c.bytes-bytes.ensures
    ∙ is_field_so p c.args.number _
