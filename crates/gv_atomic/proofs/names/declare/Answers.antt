use Rattle.std.proofs.Common.{◌≡◌, true, false, not, is_some, is_none, ◌++◌, sym, ap, ◌∙◌}
use Rattle.std.specs.List.{find}
use Rattle.std.specs.Str.{bytes_eq}
use Rattle.std.proofs.lemmas.Result.{IfOk-weaker}
use Rattle.gv_terms.specs.Scopes.{sort_under}
use Rattle.gv_atomic.specs.Typed.{is_free, names_of}
use Rattle.gv_atomic.specs.Marks.{is_new}
use Rattle.gv_atomic.proofs.Vars.{named}
use Rattle.gv_atomic.proofs.DistinctNames.{both, first_false, second_false}
use Rattle.gv_atomic.proofs.OneByOne.{none_both}
use Rattle.gv_atomic.proofs.names.declare.Goals.{then-not-is_free-via-then-not-is_free, then-not-is_free-via-else-not-is_free+then-is_some}
use Rattle.gv_atomic.proofs.names.declare.Goals as goal

pub returns-then-not-is_free-clause-told : goal.returns-then-not-is_free-clause-told
returns-then-not-is_free-clause-told c =
    let vars = c.args.fields.now ++ c.args.own.now in
    let n = c.args.name.now in
    elim c.then-not-is_free.branch [
      | then-not-is_free-via-then-not-is_free w ↦ sym (first_false (is_free n) (not (is_some (find (bytes_eq n) (names_of vars)))) (sym (c.is_free.ensures ∙ ap is_free c.as_slice.ensures) ∙ w.if-not-is_free.true))
      | then-not-is_free-via-else-not-is_free+then-is_some w ↦ sym (second_false (is_free n) (not (is_some (find (bytes_eq n) (names_of vars)))) (ap not (named vars n ∙ ap is_some (sym w.sort_in.ensures) ∙ sym w.is_some.ensures ∙ w.if-is_some.true)))
    ]

pub returns-clause-told : goal.returns-clause-told
returns-clause-told c =
    let fields = c.args.fields.now in
    let own = c.args.own.now in
    let vars = fields ++ own in
    let n = c.args.name.now in
    let free : is_free n ≡ true = sym (c.is_free.ensures ∙ ap is_free c.as_slice.ensures) ∙ c.if-not-is_free.false in
    let unnamed : is_some (sort_under vars n) ≡ false = ap is_some (sym c.sort_in.ensures) ∙ sym c.is_some.ensures ∙ c.if-is_some.false in
    let new : is_new (names_of vars) n ≡ true = both (is_free n) (not (is_some (find (bytes_eq n) (names_of vars)))) free (ap not (named vars n ∙ unnamed)) in
    let none : is_none (sort_under own c.in_ok-copy.field-0) ≡ true = ap (λ m. is_none (sort_under own m)) c.in_ok-copy.ensures ∙ none_both fields own n unnamed in
    IfOk-weaker c.declare.result (λ b. b ≡ is_none (sort_under own c.in_ok-copy.field-0)) (λ b. b ≡ is_new (names_of vars) n) (λ b h. h ∙ none ∙ sym new) c.declare.ensures.told
