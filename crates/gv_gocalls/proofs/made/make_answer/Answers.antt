use Rattle.std.proofs.Common.{ℕ, Bool, List, [], ◌∷◌, Option, Some, refl, ap, ◌∙◌}
use Rattle.std.specs.Prelude.{is_some}
use Rattle.gv_operands.specs.declared.types.GoType.{GoType}
use Rattle.gv_gotypes.specs.Kinds.{kind_of, kind_findings, type_start}
use Rattle.gv_gotypes.specs.Calls.{made_findings, made_result, size_findings}
use Rattle.gv_gotyped.specs.First.{first_of}
use Rattle.gv_gotyped.proofs.Firsts.{first_of_lists}
use Rattle.gv_gocalls.proofs.made.make_answer.Goals as goal

pub returns : goal.returns
returns c = λ env t e w sized size.
    let word = c.args.word.start in
    record {
      start = refl;
      results = ap (λ (k : Option GoType). Some (k ∷ [])) (c.made_result.ensures ∙ ap made_result w.kind);
      first = c.earliest.ensures
          ∙ first_of_lists (kind_findings env t) (made_findings (kind_of env t) (is_some e) word (type_start t)) (size_findings env e)
          c.args.written.first c.made_fault-own.result c.args.size c.earliest-more.result w.first
          (c.made_fault-own.ensures
          ∙ ap (λ (k : Option GoType). first_of (made_findings k c.args.sized word c.args.written.start)) w.kind
          ∙ ap (λ (b : Bool). first_of (made_findings (kind_of env t) b word c.args.written.start)) sized
          ∙ ap (λ (n : ℕ). first_of (made_findings (kind_of env t) (is_some e) word n)) w.start)
          size c.earliest-more.ensures;
    }
