use Rattle.std.proofs.Common.{[], ◌∷◌, Option, Some, refl, ap, ◌∙◌}
use Rattle.std.specs.Prelude.{map, option_map}
use Rattle.gv_operands.specs.declared.types.Base.{Base}
use Rattle.gv_operands.specs.declared.types.GoType.{GoType}
use Rattle.gv_operands.specs.declared.types.GoType.TheVariants.{Pointer}
use Rattle.gv_gotypes.specs.Trees.{keyed_of}
use Rattle.gv_gotypes.specs.Scopes.{name_in, entity_named}
use Rattle.gv_gotypes.specs.Kinds.{name_findings, struct_in}
use Rattle.gv_gotypes.specs.Calls.{fields_of, keyed_findings}
use Rattle.gv_gotyped.specs.First.{first_of}
use Rattle.gv_gotyped.proofs.Firsts.{first_of_two}
use Rattle.gv_gotypes.specs.declared.names.Entity.{Entity}
use Rattle.gv_gocalls.proofs.literals.literal_at.Goals as goal

pub returns : goal.returns
returns g c = λ ks h.
    let env = g.N.Names.env c.args.names.now in
    let name = c.args.name.start in
    let at = c.args.start.start in
    let e = entity_named env (name_in env.source c.args.name) in
    let same = c.struct_in-base.ensures ∙ ap struct_in c.entity_of-entity.ensures in
    record {
      start = refl;
      results = ap (λ (k : Option GoType). Some (k ∷ [])) (c.pointer_to.ensures ∙ ap (λ (b : Option Base). option_map Pointer b) same);
      first = c.earliest.ensures
          ∙ first_of_two (name_findings e (struct_in e) name at) (keyed_findings env (fields_of env.declared (struct_in e)) [] (map keyed_of ks))
          c.name_fault-own.result c.in_ok-keyed.keyed
          (c.name_fault-own.ensures
          ∙ ap (λ (b : Option Base). first_of (name_findings c.entity_of-entity.result b name at)) same
          ∙ ap (λ (x : Option Entity). first_of (name_findings x (struct_in e) name at)) c.entity_of-entity.ensures)
          (c.in_ok-keyed.ensures ks h ∙ ap (λ (b : Option Base). first_of (keyed_findings env (fields_of env.declared b) [] (map keyed_of ks))) same);
    }
