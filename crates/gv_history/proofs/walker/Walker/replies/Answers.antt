use Rattle.std.proofs.Common.{◌≡◌, ◌∙◌, Some, true, refl, sym, ap, nat_eq}
use Rattle.std.specs.HashMap.{get}
use Rattle.gv_spec.specs.Walks.{Acted}
use Rattle.gv_history.specs.declared.seen.Standing.TheVariants as stands
use Rattle.gv_history.specs.Table.{standing_in, present_in}
use Rattle.gv_history.specs.Walker.{walk_in}
use Rattle.gv_history.proofs.TableLemmas.{present_stands}
use Rattle.gv_history.proofs.WalkerLemmas.{right_reply, wrong_reply}
use Rattle.gv_history.proofs.walker.Walker.replies.Goals as goal

pub returns-then-same-clause-ok : goal.returns-then-same-clause-ok
returns-then-same-clause-ok c =
    let t = c.args.self.now.table in
    let kept = c.in-Some-Acted.kept in
    let here : present_in t c.args.number ≡ Some (stands.Acted kept) = sym c.in-Some-Acted.ensures ∙ ap (λ x. Some x) c.in-Some-Acted.field-0-is in
    let stood : standing_in t c.args.number ≡ Acted kept = present_stands t.boots (get nat_eq t.calls c.args.number) (stands.Acted kept) here in
    λ s. right_reply s (walk_in c.args.self.now) c.args.number c.args.reply.now kept (standing_in t c.args.number) stood (c.same.ensures.0 c.if-same.true)

pub returns-else-same-clause-err : goal.returns-else-same-clause-err
returns-else-same-clause-err c =
    let t = c.args.self.now.table in
    let kept = c.in-Some-Acted.kept in
    let here : present_in t c.args.number ≡ Some (stands.Acted kept) = sym c.in-Some-Acted.ensures ∙ ap (λ x. Some x) c.in-Some-Acted.field-0-is in
    let stood : standing_in t c.args.number ≡ Acted kept = present_stands t.boots (get nat_eq t.calls c.args.number) (stands.Acted kept) here in
    let other : c.args.reply.now ≡ kept → ⊥ = λ e. let test : c.same.result ≡ true = c.same.ensures.1 e in let clash = sym test ∙ c.if-same.false in cc in
    λ s. (refl, wrong_reply s (walk_in c.args.self.now) c.args.number c.args.reply.now kept (standing_in t c.args.number) stood other)
