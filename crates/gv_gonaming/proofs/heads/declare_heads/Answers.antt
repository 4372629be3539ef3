use Rattle.std.proofs.Common.{ℕ, ◌+◌, List, [], ◌∷◌, drop, ap, sym, subst}
use Rattle.std.proofs.lemmas.List.{drop_all}
use Rattle.gv_gotypes.specs.Scopes.{Source, Named}
use Rattle.gv_gotyped.specs.declared.fault.Fault.{Fault}
use Rattle.std.specs.Prelude.{Option}
use Rattle.gv_gonames.specs.Named.{NamesOf}
use Rattle.gv_goheads.specs.declared.head.Head.{Head}
use Rattle.gv_goheads.specs.Heads.{bare, bares}
use Rattle.gv_goheads.specs.Naming.{counts_of}
use Rattle.gv_goseen.specs.Naming.{source_with}
use Rattle.gv_gonaming.proofs.Rests.{AreStill, still_first, still_more, still_none, one_text, drop_item}
use Rattle.gv_gonaming.proofs.heads.declare_heads.Goals as goal

pub loop-head-init : goal.loop-head-init
loop-head-init c = record {
  text = c.requires;
  left = λ tokens. still_first (source_with c.args.text.now tokens) c.args.names.now.names (bares c.args.heads.now) (counts_of c.none-counted.result) c.none-counted.ensures;
}

pub loop-head-preserved : goal.loop-head-preserved
loop-head-preserved c =
    let heads : List Head = c.args.heads.now in
    let i : ℕ = c.loop-head.head-index in
    let d : Head = c.head-item.result in
    let old : List Named = c.args.names.now.names in
    record {
      text = ap (λ (g : NamesOf). g.text) (c.in_ok-own.ensures.declared []);
      left = λ tokens.
          let s : Source = source_with c.args.text.now tokens in
          let h : AreStill s old c.loop-head.names.names c.loop-head.first (counts_of c.loop-head.counted) (bares heads) (bare d ∷ bares (drop (i + 1) heads))
          = subst (λ (hs : List Head). AreStill s old c.loop-head.names.names c.loop-head.first (counts_of c.loop-head.counted) (bares heads) (bares hs))
          (drop_item heads i d c.loop-head-test.true c.head-item.is) (c.loop-head.invariant.left tokens) in
          subst (λ (f : Option Fault). AreStill s old c.declare_head.new.names.names f (counts_of c.in_ok-counted.counted) (bares heads) (bares (drop (i + 1) heads))) (sym c.earliest-first.ensures)
          (still_more s old c.loop-head.names.names c.declare_head.new.names.names c.loop-head.first c.in_ok-own.own (counts_of c.loop-head.counted) (counts_of c.in_ok-counted.counted)
          (bares heads) (bares (drop (i + 1) heads)) (bare d) h
          (c.in_ok-own.ensures.told tokens) (ap (λ (g : NamesOf). g.names) (c.in_ok-own.ensures.declared tokens)) c.in_ok-counted.ensures);
    }

pub returns-clause-told : goal.returns-clause-told
returns-clause-told c = λ tokens.
    let s : Source = source_with c.args.text.now tokens in
    (still_none s c.args.names.now.names c.loop-head.names.names c.loop-head.first (counts_of c.loop-head.counted) (bares c.args.heads.now)
    (subst (λ (hs : List Head). AreStill s c.args.names.now.names c.loop-head.names.names c.loop-head.first (counts_of c.loop-head.counted) (bares c.args.heads.now) (bares hs))
    (drop_all c.loop-head.head-index c.args.heads.now c.loop-head-test.false) (c.loop-head.invariant.left tokens))).0

pub returns-clause-declared : goal.returns-clause-declared
returns-clause-declared c = λ tokens.
    let s : Source = source_with c.args.text.now tokens in
    one_text c.loop-head.names c.args.text.now _ c.loop-head.invariant.text
    (still_none s c.args.names.now.names c.loop-head.names.names c.loop-head.first (counts_of c.loop-head.counted) (bares c.args.heads.now)
    (subst (λ (hs : List Head). AreStill s c.args.names.now.names c.loop-head.names.names c.loop-head.first (counts_of c.loop-head.counted) (bares c.args.heads.now) (bares hs))
    (drop_all c.loop-head.head-index c.args.heads.now c.loop-head-test.false) (c.loop-head.invariant.left tokens))).1
