use Rattle.std.proofs.Common.{◌≡◌, ℕ, List, map, ap, subst, ◌∙◌}
use Rattle.gv_interfaces.specs.Tables.{IsTableOf}
use Rattle.gv_interfaces.proofs.Deciding.{same_if_none, first_if_some}
use Rattle.gv_interfaces.proofs.differing.first_differing.Goals as goal

pub invariant_of-sides : goal.invariant_of-sides
invariant_of-sides c =
    let ours : c.as_slice-3.result.now ≡ map (λ op. op.name) c.args.package.now.ops =
    c.as_slice-3.ensures.value ∙ c.in_ok-names.ensures ∙ ap (map (λ op. op.name)) c.as_slice.ensures in
    let theirs : c.as_slice-4.result.now ≡ map (λ op. op.name) c.args.spec.now.ops =
    c.as_slice-4.ensures.value ∙ c.in_ok-others.ensures ∙ ap (map (λ op. op.name)) c.as_slice-2.ensures in
    record {
      ours_are = subst (λ (ns : List (List ℕ)). IsTableOf ns c.in_ok-ours.ours) ours c.in_ok-ours.ensures;
      theirs_are = subst (λ (ns : List (List ℕ)). IsTableOf ns c.in_ok-theirs.theirs) theirs c.in_ok-theirs.ensures;
    }

pub returns-clause-none : goal.returns-clause-none
returns-clause-none c =
    same_if_none c.args.package.now c.args.spec.now c.first_among-2.result c.in_ok-first.first c.as_slice-5.result.now c.as_slice-6.result.now
    c.first_among-2.ensures c.in_ok-first.ensures
    (c.as_slice-5.ensures.value ∙ c.in_ok-names.ensures ∙ ap (map (λ op. op.name)) c.as_slice.ensures)
    (c.as_slice-6.ensures.value ∙ c.in_ok-others.ensures ∙ ap (map (λ op. op.name)) c.as_slice-2.ensures)

pub returns-clause-some : goal.returns-clause-some
returns-clause-some c =
    first_if_some c.args.package.now c.args.spec.now c.first_among-2.result c.in_ok-first.first c.as_slice-5.result.now c.as_slice-6.result.now
    c.first_among-2.ensures c.in_ok-first.ensures
    (c.as_slice-5.ensures.value ∙ c.in_ok-names.ensures ∙ ap (map (λ op. op.name)) c.as_slice.ensures)
    (c.as_slice-6.ensures.value ∙ c.in_ok-others.ensures ∙ ap (map (λ op. op.name)) c.as_slice-2.ensures)
