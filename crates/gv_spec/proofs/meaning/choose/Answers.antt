use Rattle.std.proofs.Common.{◌≡◌, ℕ, List, [], ◌∷◌, ◌++◌, length, take, drop, get_or, ◌-◌, sym, ap, ◌∙◌}
use Rattle.gv_terms.specs.declared.value.Value.TheVariants as val
use Rattle.gv_terms.specs.declared.value.Binding.{Binding}
use Rattle.gv_atomic.specs.declared.spec.Pick.{Pick}
use Rattle.gv_atomic.specs.Choices.{picked}
use Rattle.gv_atomic.proofs.OneByOne.{split_first, split_head}
use Rattle.gv_spec.proofs.Choosing.{refused, accepted, bound_next, within_rest}
use Rattle.gv_spec.proofs.meaning.choose.Goals as goal

pub returns-then-not-branch-clause-allowed : goal.returns-then-not-branch-clause-allowed
returns-then-not-branch-clause-allowed c =
    let picks = c.loop-picks.picks.now in
    let choices = c.loop-picks.choices.now in
    let p = c.pick-item.result in
    let n = get_or choices 0 0 in
    let is : picks ≡ p ∷ take (length picks - 1) (drop 1 picks) = split_first picks p c.in-len1-up.len_at_least c.pick-item.is in
    let has : choices ≡ n ∷ take (length choices - 1) (drop 1 choices) = split_head choices 0 c.in-len1-up-choices.len_at_least in
    sym (sym c.loop-picks.invariant.allowed
    ∙ refused c.args.store.now c.loop-picks.env.bindings picks choices p n (take (length picks - 1) (drop 1 picks)) (take (length choices - 1) (drop 1 choices)) is has
    (sym c.in_ok-may_be.ensures ∙ c.if-not-branch.true))

pub loop-picks-preserved : goal.loop-picks-preserved
loop-picks-preserved c =
    let ts = c.args.store.now in
    let before = c.loop-picks.env.bindings in
    let picks = c.loop-picks.picks.now in
    let choices = c.loop-picks.choices.now in
    let p = c.pick-item.result in
    let n = get_or choices 0 0 in
    let ps = take (length picks - 1) (drop 1 picks) in
    let cs = take (length choices - 1) (drop 1 choices) in
    let is : picks ≡ p ∷ take (length picks - 1) (drop 1 picks) = split_first picks p c.in-len1-up.len_at_least c.pick-item.is in
    let has : choices ≡ n ∷ take (length choices - 1) (drop 1 choices) = split_head choices 0 c.in-len1-up-choices.len_at_least in
    let bind : List ℕ → List Binding = λ m. before ++ (record { name = m; value = val.Word n }) ∷ [] in
    let to : c.push.new.self ≡ before ++ picked p n ∷ [] = c.in_ok-push.ensures.ok ∙ ap bind c.in_ok-copy.ensures in
    record {
      within = within_rest ts picks p ps is c.loop-picks.invariant.within;
      allowed = accepted ts before picks choices p n ps cs is has c.push.new.self (sym c.in_ok-may_be.ensures ∙ c.if-not-branch.false) to ∙ c.loop-picks.invariant.allowed;
      bound = bound_next ts before picks choices p n ps cs is has c.push.new.self to ∙ c.loop-picks.invariant.bound;
    }
