use Rattle.std.proofs.Common.{◌≡◌, Some, None, List, sym, ap, ◌∙◌, option_map}
use Rattle.std.proofs.lemmas.Option.{slice_get-map, slice_get-get_or, slice_get_past}
use Rattle.std.specs.Prelude.{slice_get}
use Rattle.gv_gotypes.specs.Scopes.{StructType}
use Rattle.gv_gonames.specs.Structs.{StructOf, member_among}
use Rattle.gv_goseen.specs.Seen.{struct_in}
use Rattle.gv_goseen.proofs.seen.Seen.row.Goals as goal

pub returns-in-Some : goal.returns-in-Some
returns-in-Some c =
    let structs : List StructOf = c.args.self.now.declared.structs.items in
    let got : slice_get structs c.args.number ≡ Some c.in-Some.table.now =
    ap (λ (ts : List StructOf). slice_get ts c.args.number) (sym c.deref.ensures.value)
    ∙ slice_get-get_or c.deref.result.now c.args.number c.in-Some.table.now c.in-Some.ensures.lookup.3.0
    ∙ ap Some (sym c.in-Some.ensures.lookup.1) in
    ap Some c.member.ensures
    ∙ ap (option_map (λ (s : StructType). member_among s.fields s.methods c.args.name.now)) (sym (slice_get-map struct_in structs c.args.number ∙ ap (option_map struct_in) got))

pub returns-in-None : goal.returns-in-None
returns-in-None c =
    let structs : List StructOf = c.args.self.now.declared.structs.items in
    let got : slice_get structs c.args.number ≡ None =
    ap (λ (ts : List StructOf). slice_get ts c.args.number) (sym c.deref.ensures.value)
    ∙ slice_get_past c.deref.result.now c.args.number c.in-None.ensures.lookup.3 in
    ap (option_map (λ (s : StructType). member_among s.fields s.methods c.args.name.now)) (sym (slice_get-map struct_in structs c.args.number ∙ ap (option_map struct_in) got))
