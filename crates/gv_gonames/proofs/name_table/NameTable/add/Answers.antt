use Rattle.std.proofs.Common.{rules, ◌≡◌, ℕ, sym, ap, ◌∙◌, Option, Bool, List, [], ◌∷◌, ◌++◌}
use Rattle.std.proofs.lemmas.List.{map-append}
use Rattle.std.specs.Str.{bytes_eq}
use Rattle.gv_gotypes.specs.Scopes.{named_in, Named}
use Rattle.gv_gonames.specs.declared.rows.NameRow.{NameRow}
use Rattle.gv_gonames.specs.Firsts.{or_first}
use Rattle.gv_gonames.specs.Named.{named_row, named_rows}
use Rattle.gv_gonames.proofs.Lookups.{named_more, turned}
use Rattle.gv_gonames.proofs.name_table.NameTable.add.Goals as goal

pub invariant_of-self-2 : goal.invariant_of-self-2
invariant_of-self-2 c name =
    let text : List ℕ = c.self.inside.text.now in
    let row : NameRow = record { name = c.args.name; entity = c.args.entity } in
    let grown : c.push.new.self.items ≡ c.self.inside.rows.items ++ row ∷ [] = search rules in
    c.in_ok-new.ensures.put name
    ∙ ap (λ (r : Option _). or_first r (bytes_eq name c.bytes_between-bytes.result.now) c.args.entity) (c.self.invariant name)
    ∙ ap (λ (b : Bool). or_first (named_in (named_rows text c.self.inside.rows.items) name) b c.args.entity)
    (turned name c.bytes_between-bytes.result.now ∙ ap (λ (bs : List ℕ). bytes_eq bs name) c.bytes_between-bytes.ensures)
    ∙ sym (named_more (named_rows text c.self.inside.rows.items) (named_row text row) name)
    ∙ ap (λ (ns : List Named). named_in ns name) (sym (map-append (named_row text) c.self.inside.rows.items (row ∷ [])))
    ∙ ap (λ (rs : List NameRow). named_in (named_rows text rs) name) (sym grown)
