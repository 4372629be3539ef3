use Rattle.std.proofs.Common.{rules, ◌≡◌, ℕ, sym, ap, ◌∙◌, Option, Bool, List, [], ◌∷◌, ◌++◌, map}
use Rattle.std.proofs.lemmas.List.{map-append}
use Rattle.std.specs.Str.{bytes_eq}
use Rattle.gv_gotypes.specs.Scopes.{FieldType, Method}
use Rattle.gv_gonames.specs.declared.rows.MethodRow.{MethodRow}
use Rattle.gv_gonames.specs.declared.rows.MemberRow.{MemberRow}
use Rattle.gv_gonames.specs.declared.rows.MemberRow.TheVariants.{Method as ByMethod}
use Rattle.gv_gonames.specs.Firsts.{or_first}
use Rattle.gv_gonames.specs.Structs.{field_row, method_row, member_among}
use Rattle.gv_gonames.proofs.Lookups.{member_more, turned}
use Rattle.gv_gonames.proofs.struct_table.StructTable.add_method.Goals as goal

pub invariant_of-self-2 : goal.invariant_of-self-2
invariant_of-self-2 c name =
    let text : List ℕ = c.self.inside.text.now in
    let row : MethodRow = record { name = c.args.name; procedure = c.args.procedure } in
    let fields : List FieldType = map (field_row text) c.self.inside.fields.items in
    let methods : List Method = map (method_row text) c.self.inside.methods.items in
    let grown : c.push.new.self.items ≡ c.self.inside.methods.items ++ row ∷ [] = search rules in
    c.in_ok-new.ensures.put name
    ∙ ap (λ (r : Option MemberRow). or_first r (bytes_eq name c.bytes_between-bytes.result.now) (ByMethod c.args.procedure)) (c.self.invariant name)
    ∙ ap (λ (b : Bool). or_first (member_among fields methods name) b (ByMethod c.args.procedure))
    (turned name c.bytes_between-bytes.result.now ∙ ap (λ (bs : List ℕ). bytes_eq bs name) c.bytes_between-bytes.ensures)
    ∙ sym (member_more fields methods (method_row text row) name)
    ∙ ap (λ (ms : List Method). member_among fields ms name) (sym (map-append (method_row text) c.self.inside.methods.items (row ∷ [])))
    ∙ ap (λ (rs : List MethodRow). member_among fields (map (method_row text) rs) name) (sym grown)
