use Rattle.std.proofs.Common.{◌≡◌, List, sym, subst, ◌∙◌}
use Rattle.std.specs.Prelude.{All, Vec}
use Rattle.std.specs.declared.alloc.Global.{Global}
use Rattle.gv_base.specs.Places.{place_at}
use Rattle.gv_spec.specs.History.{IsMoveOf}
use Rattle.gv_spec.specs.declared.explanation.Move.{Move}
use Rattle.gv_replay.specs.Meaning.{with_moves}
use Rattle.gv_replay.specs.Reading.{Tells, IsRefused}
use Rattle.gv_replay.specs.declared.line.TextKind.TheVariants as text_kind
use Rattle.gv_replay.proofs.AnswerLemmas.{unread_on, refused_on}
use Rattle.gv_replay.proofs.OfSpecLemmas.{moves_told}
use Rattle.gv_replay.proofs.reading.read_moves.Goals as goal

pub returns-in_err-moves-clause-only : goal.returns-in_err-moves-clause-only
returns-in_err-moves-clause-only c = λ moves t.
    let given = subst (λ (st : List Move). Tells (with_moves c.args.spec.now) st text_kind.Moves c.args.text.now moves) (sym c.new.ensures) t in
    unread_on (λ (r : List Move). r ≡ moves) (λ (r : Vec Move Global). r.items ≡ moves) c.from_residual.result c.in_err-moves.field-0.0 c.from_residual.ensures.1 (c.in_err-moves.ensures.only moves given)

pub returns-in_err-moves-clause-fault : goal.returns-in_err-moves-clause-fault
returns-in_err-moves-clause-fault c = λ at code r.
    let given = subst (λ (st : List Move). IsRefused (with_moves c.args.spec.now) st text_kind.Moves c.args.text.now at code) (sym c.new.ensures) r in
    refused_on (List Move) (place_at c.args.text.now at) code c.from_residual.result c.in_err-moves.field-0.0 c.from_residual.ensures.1 (c.in_err-moves.ensures.fault at code given)

pub returns-clause-only : goal.returns-clause-only
returns-clause-only c = λ moves t.
    let given = subst (λ (st : List Move). Tells (with_moves c.args.spec.now) st text_kind.Moves c.args.text.now moves) (sym c.new.ensures) t in
    c.into_vec.ensures ∙ c.in_ok-moves.ensures.only moves given

pub returns-clause-fault : goal.returns-clause-fault
returns-clause-fault c = λ at code r.
    let given = subst (λ (st : List Move). IsRefused (with_moves c.args.spec.now) st text_kind.Moves c.args.text.now at code) (sym c.new.ensures) r in
    c.in_ok-moves.ensures.fault at code given

pub returns-clause-of_spec : goal.returns-clause-of_spec
returns-clause-of_spec c =
    let P : List Move → Type 0 = All (IsMoveOf c.args.spec.now) in
    let t = subst (λ (st : List Move). Tells (with_moves c.args.spec.now) st text_kind.Moves c.args.text.now c.in_ok-moves.moves) c.new.ensures c.in_ok-moves.ensures.found in
    subst P (sym c.into_vec.ensures) (moves_told c.args.spec.now t.lines c.in_ok-moves.moves t.told)
