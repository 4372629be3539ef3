use Rattle.std.proofs.Common.{◌≡◌, ℕ, ◌+◌, ◌-◌, List, [], ◌∷◌, ◌++◌, length, take, drop, get_or, sym, ap, subst, ◌∙◌}
use Rattle.gv_terms.specs.declared.value.Value.TheVariants as val
use Rattle.gv_terms.specs.declared.value.Binding.{Binding}
use Rattle.gv_atomic.specs.Choices.{picked, limit_of}
use Rattle.gv_atomic.proofs.OneByOne.{split_first, split_head}
use Rattle.gv_spec.proofs.Choosing.{within_rest}
use Rattle.gv_judge.specs.Choosing.{how_many}
use Rattle.gv_judge.proofs.LastRaised.{HasCome, begun, ended, no_choices, no_picks, went_on, went_on_higher, told_true, told_false, not_below}
use Rattle.gv_judge.proofs.choices.last_raised.Goals.{then-branch, else-branch}
use Rattle.gv_judge.proofs.choices.last_raised.Goals as goal

pub loop-left-init : goal.loop-left-init
loop-left-init c = begun c.args.store.now c.args.before.bindings c.args.picks.now c.args.choices.now c.requires

pub returns-in_default-others-clause-lists : goal.returns-in_default-others-clause-lists
returns-in_default-others-clause-lists c =
    let ts = c.args.store.now in
    let now = c.loop-left.env.bindings in
    let left = c.loop-left.left.now in
    let others = c.loop-left.others.now in
    ended ts c.args.before.bindings c.args.picks.now c.args.choices.now now left others c.loop-left.at c.loop-left.last c.loop-left.invariant (no_choices ts now left others c.in_default-others.len_below)

pub returns-clause-lists : goal.returns-clause-lists
returns-clause-lists c =
    let ts = c.args.store.now in
    let now = c.loop-left.env.bindings in
    let left = c.loop-left.left.now in
    let others = c.loop-left.others.now in
    ended ts c.args.before.bindings c.args.picks.now c.args.choices.now now left others c.loop-left.at c.loop-left.last c.loop-left.invariant (no_picks ts now left others c.in_default.len_below)

pub loop-left-preserved : goal.loop-left-preserved
loop-left-preserved c =
    let ts = c.args.store.now in
    let before = c.args.before.bindings in
    let all = c.args.picks.now in
    let choices = c.args.choices.now in
    let now = c.loop-left.env.bindings in
    let left = c.loop-left.left.now in
    let others = c.loop-left.others.now in
    let p = c.pick-item.result in
    let n = get_or others 0 0 in
    let ps = take (length left - 1) (drop 1 left) in
    let cs = take (length others - 1) (drop 1 others) in
    let is : left ≡ p ∷ take (length left - 1) (drop 1 left) = split_first left p c.in-len1-up.len_at_least c.pick-item.is in
    let has : others ≡ n ∷ take (length others - 1) (drop 1 others) = split_head others 0 c.in-len1-up-others.len_at_least in
    let bind : List ℕ → List Binding = λ m. now ++ (record { name = m; value = val.Word n }) ∷ [] in
    let to : c.push.new.self ≡ now ++ picked p n ∷ [] = c.in_ok-push.ensures.ok ∙ ap bind c.in_ok-copy.ensures in
    let within = within_rest ts left p ps is c.loop-left.invariant.within in
    let at = c.loop-left.at in
    let last = c.loop-left.last in
    let rises = c.in_ok-can_rise.ensures.rises in
    elim c.if-branch.branch [
      | then-branch w ↦ subst (HasCome ts before all choices c.push.new.self ps cs (at + 1)) (sym w.last-is)
          (went_on_higher ts before all choices now c.push.new.self left ps others cs at last p n c.loop-left.invariant is has to within
          (rises.0 (told_true _ w.if-branch.true)) (c.in_ok-can_rise.ensures.word (told_true _ w.if-branch.true)))
      | else-branch w ↦ subst (HasCome ts before all choices c.push.new.self ps cs (at + 1)) (sym w.last-is)
          (went_on ts before all choices now c.push.new.self left ps others cs at last p n c.loop-left.invariant is has to within
          (not_below (n + 1) (how_many (limit_of ts now p)) (λ lt. told_false _ w.if-branch.false (rises.1 lt))))
    ]
