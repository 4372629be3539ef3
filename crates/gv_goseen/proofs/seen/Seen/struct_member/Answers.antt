use Rattle.std.proofs.Common.{rules, ◌≡◌, ℕ, Option, Some, None, false, List, length, sym, ap, ◌∙◌, subst, option_map}
use Rattle.std.proofs.lemmas.Option.{slice_get-map, slice_get-get_or, slice_get_past}
use Rattle.std.proofs.lemmas.List.{length-map}
use Rattle.std.specs.Prelude.{slice_get, option_and_then}
use Rattle.gv_gotypes.specs.Scopes.{StructType, Package, is_blank}
use Rattle.gv_gotypes.specs.Members.{struct_member}
use Rattle.gv_gotyped.specs.declared.members.Member.{Member}
use Rattle.gv_gotyped.specs.Parts.{IsMember}
use Rattle.gv_gonames.specs.Structs.{StructOf, member_among}
use Rattle.gv_gonames.specs.declared.rows.MemberRow.{MemberRow}
use Rattle.gv_goseen.specs.Seen.{package_of, struct_in, signature_of, member_by}
use Rattle.gv_goseen.proofs.MemberLemmas.{members_so}
use Rattle.gv_goseen.proofs.seen.Seen.struct_member.Goals as goal

pub returns-in-Some : goal.returns-in-Some
returns-in-Some c =
    let name : List ℕ = c.args.name.now in
    let p : Package = package_of c.args.self.now.declared in
    let s : StructType = struct_in c.in-Some.table.now in
    let got : slice_get c.args.self.now.declared.structs.items c.args.number ≡ Some c.in-Some.table.now =
    ap (λ (ts : List StructOf). slice_get ts c.args.number) (sym c.deref.ensures.value)
    ∙ slice_get-get_or c.deref.result.now c.args.number c.in-Some.table.now c.in-Some.ensures.lookup.3.0
    ∙ ap Some (sym c.in-Some.ensures.lookup.1) in
    let here : slice_get p.structs c.args.number ≡ Some s = slice_get-map struct_in c.args.self.now.declared.structs.items c.args.number ∙ ap (option_map struct_in) got in
    let named : is_blank name ≡ false = search rules in
    let count : c.len.result ≡ length p.procedures = c.len.ensures ∙ c.args.self.now.declared.procedures.ok.0 ∙ sym (length-map c.args.self.now.declared.procedures.items signature_of) in
    let known : c.member_as.result ≡ member_by (length p.procedures) (member_among s.fields s.methods name) =
    c.member_as.ensures ∙ ap (λ (r : Option MemberRow). member_by c.len.result r) c.member.ensures ∙ ap (λ (n : ℕ). member_by n (member_among s.fields s.methods name)) count in
    subst (λ (o : Option StructType). IsMember c.member_as.result (option_and_then (λ s. struct_member p s name) o)) (sym here)
    (subst (λ (k : Option Member). IsMember k (struct_member p s name)) (sym known) (members_so p s name named))

pub returns-in-None : goal.returns-in-None
returns-in-None c =
    let name : List ℕ = c.args.name.now in
    let p : Package = package_of c.args.self.now.declared in
    let got : slice_get c.args.self.now.declared.structs.items c.args.number ≡ None =
    ap (λ (ts : List StructOf). slice_get ts c.args.number) (sym c.deref.ensures.value)
    ∙ slice_get_past c.deref.result.now c.args.number c.in-None.ensures.lookup.3 in
    let here : slice_get p.structs c.args.number ≡ None = slice_get-map struct_in c.args.self.now.declared.structs.items c.args.number ∙ ap (option_map struct_in) got in
    subst (λ (o : Option StructType). IsMember None (option_and_then (λ s. struct_member p s name) o)) (sym here) tt
