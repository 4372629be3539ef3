use Rattle.std.proofs.Common.{◌≡◌, ◌<◌, ◌+◌, ℕ, length, sym, subst, arith}
use Rattle.gv_scriptnames.specs.Mentions.{Mentions}
use Rattle.gv_scriptnodes.specs.Gathered.{IsGathered}
use Rattle.gv_scriptnodes.proofs.Steps.{none_gathered, from_below, one_gathered, all_gathered}
use Rattle.gv_scriptnodes.proofs.mentions.mentions_of.Goals as goal

pub loop-place-init : goal.loop-place-init
loop-place-init c =
    let text = c.args.text.now in
    let nodes = c.args.nodes.now in
    subst (λ (ms : Mentions). IsGathered text nodes c.first_of-from.result c.first_of-from.result ms) (sym c.new-mentions.ensures.items)
    (none_gathered text nodes c.requires.formed c.args.at c.first_of-from.result c.requires.within c.first_of-from.ensures)

pub loop-place-preserved : goal.loop-place-preserved
loop-place-preserved c =
    let less = c.loop-place-test.true in
    let within = c.requires.within in
    let place : c.loop-place.place < length c.args.nodes.now = omega (arith, less, within) in
    let text = c.args.text.now in
    let nodes = c.args.nodes.now in
    subst (λ (ms : Mentions). IsGathered text nodes c.first_of-from.result (c.loop-place.place + 1) ms) (sym c.in_ok-add_named.ensures)
    (one_gathered text nodes c.requires.formed c.first_of-from.result c.loop-place.place c.loop-place.mentions.items place c.loop-place.invariant)

pub returns : goal.returns
returns c = λ part is.
    let past = c.loop-place-test.false in
    let below = from_below c.args.text.now c.args.nodes.now c.requires.formed c.args.at c.first_of-from.result c.requires.within c.first_of-from.ensures in
    let end = c.loop-place.auto.place-end (omega (arith, below)) in
    let q : c.loop-place.place ≡ c.args.at + 1 = omega (arith, past, end) in
    let text = c.args.text.now in
    let nodes = c.args.nodes.now in
    all_gathered text nodes c.requires.formed c.args.at c.first_of-from.result c.loop-place.mentions.items c.requires.within c.first_of-from.ensures
    (subst (λ (n : ℕ). IsGathered text nodes c.first_of-from.result n c.loop-place.mentions.items) q c.loop-place.invariant) part is
