use Rattle.std.proofs.Common.{ℕ, ◌+◌, List, [], ◌∷◌, drop, get_or, ap, sym, subst}
use Rattle.std.proofs.lemmas.List.{drop_more, drop_all}
use Rattle.gv_gosyntax.specs.declared.lexeme.Lexeme.{Lexeme}
use Rattle.gv_gotypes.specs.Scopes.{Source}
use Rattle.gv_gotyped.specs.declared.fault.Fault.{Fault}
use Rattle.std.specs.Prelude.{Option}
use Rattle.gv_gonames.specs.Named.{NamesOf}
use Rattle.gv_goseen.specs.Naming.{source_with}
use Rattle.gv_gonaming.proofs.Rests.{AreLeft, left_first, left_more, left_none, one_text}
use Rattle.gv_gonaming.proofs.imports.declare_imports.Goals as goal

pub loop-path-init : goal.loop-path-init
loop-path-init c = record { text = c.requires; left = λ tokens. left_first (source_with c.args.text.now tokens) c.args.names.now.names c.args.paths.now }

pub loop-path-preserved : goal.loop-path-preserved
loop-path-preserved c =
    let paths : List Lexeme = c.args.paths.now in
    let i : ℕ = c.loop-path.path-index in
    let t : Lexeme = get_or paths i (record { class = 0; start = 0; end = 0 }) in
    record {
      text = ap (λ (g : NamesOf). g.text) (c.in_ok-own.ensures.declared []);
      left = λ tokens.
          let s : Source = source_with c.args.text.now tokens in
          let h : AreLeft s c.args.names.now.names c.loop-path.names.names c.loop-path.first paths (t ∷ drop (i + 1) paths)
          = subst (λ (ts : List Lexeme). AreLeft s c.args.names.now.names c.loop-path.names.names c.loop-path.first paths ts)
          (drop_more paths i (record { class = 0; start = 0; end = 0 }) c.loop-path-test.true) (c.loop-path.invariant.left tokens) in
          subst (λ (f : Option Fault). AreLeft s c.args.names.now.names c.declare_import.new.names.names f paths (drop (i + 1) paths)) (sym c.earliest-first.ensures)
          (left_more s c.args.names.now.names c.loop-path.names.names c.declare_import.new.names.names c.loop-path.first c.in_ok-own.own paths (drop (i + 1) paths) t h
          (c.in_ok-own.ensures.told tokens) (ap (λ (g : NamesOf). g.names) (c.in_ok-own.ensures.declared tokens)));
    }

pub returns-clause-told : goal.returns-clause-told
returns-clause-told c tokens =
    let s : Source = source_with c.args.text.now tokens in
    (left_none s c.args.names.now.names c.loop-path.names.names c.loop-path.first c.args.paths.now
    (subst (λ (ts : List Lexeme). AreLeft s c.args.names.now.names c.loop-path.names.names c.loop-path.first c.args.paths.now ts)
    (drop_all c.loop-path.path-index c.args.paths.now c.loop-path-test.false) (c.loop-path.invariant.left tokens))).0

pub returns-clause-declared : goal.returns-clause-declared
returns-clause-declared c tokens =
    let s : Source = source_with c.args.text.now tokens in
    one_text c.loop-path.names c.args.text.now _ c.loop-path.invariant.text
    (left_none s c.args.names.now.names c.loop-path.names.names c.loop-path.first c.args.paths.now
    (subst (λ (ts : List Lexeme). AreLeft s c.args.names.now.names c.loop-path.names.names c.loop-path.first c.args.paths.now ts)
    (drop_all c.loop-path.path-index c.args.paths.now c.loop-path-test.false) (c.loop-path.invariant.left tokens))).1
