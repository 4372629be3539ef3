use Rattle.std.proofs.Common.{rules, ◌≡◌, ℕ, sym, ap, ◌∙◌, Option, Bool, List, [], ◌∷◌, ◌++◌, map}
use Rattle.std.proofs.lemmas.List.{map-append}
use Rattle.std.specs.Str.{bytes_eq}
use Rattle.gv_gotypes.specs.Scopes.{FieldType, Method}
use Rattle.gv_gonames.specs.declared.rows.FieldRow.{FieldRow}
use Rattle.gv_gonames.specs.declared.rows.MemberRow.{MemberRow}
use Rattle.gv_gonames.specs.declared.rows.MemberRow.TheVariants.{Field}
use Rattle.gv_gonames.specs.Firsts.{or_first}
use Rattle.gv_gonames.specs.Structs.{field_row, method_row, member_among, StructOf}
use Rattle.gv_gonames.proofs.Lookups.{field_more, turned}
use Rattle.gv_gonames.proofs.struct_table.StructTable.add_field.Goals as goal

pub invariant_of-self-2 : goal.invariant_of-self-2
invariant_of-self-2 c name =
    let text : List ℕ = c.self.inside.text.now in
    let row : FieldRow = record { name = c.args.name; kind = c.args.kind } in
    let fields : List FieldType = map (field_row text) c.self.inside.fields.items in
    let methods : List Method = map (method_row text) c.self.inside.methods.items in
    let none : methods ≡ [] = ap (λ (s : StructOf). s.struct.methods) c.self.view_is ∙ c.requires in
    let grown : c.push.new.self.items ≡ c.self.inside.fields.items ++ row ∷ [] = search rules in
    c.in_ok-new.ensures.put name
    ∙ ap (λ (r : Option MemberRow). or_first r (bytes_eq name c.bytes_between-bytes.result.now) (Field c.args.kind)) (c.self.invariant name)
    ∙ ap (λ (b : Bool). or_first (member_among fields methods name) b (Field c.args.kind))
    (turned name c.bytes_between-bytes.result.now ∙ ap (λ (bs : List ℕ). bytes_eq bs name) c.bytes_between-bytes.ensures)
    ∙ ap (λ (ms : List Method). or_first (member_among fields ms name) (bytes_eq (field_row text row).name name) (Field c.args.kind)) none
    ∙ sym (field_more fields (field_row text row) name)
    ∙ ap (λ (ms : List Method). member_among (fields ++ field_row text row ∷ []) ms name) (sym none)
    ∙ ap (λ (fs : List FieldType). member_among fs methods name) (sym (map-append (field_row text) c.self.inside.fields.items (row ∷ [])))
    ∙ ap (λ (rs : List FieldRow). member_among (map (field_row text) rs) methods name) (sym grown)
