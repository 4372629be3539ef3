use Rattle.std.proofs.Common.{ℕ, ◌+◌, Option, None, List, ◌∷◌, drop, get_or, ap, ◌∙◌, subst}
use Rattle.std.proofs.lemmas.List.{drop_more}
use Rattle.gv_gosyntax.specs.declared.lexeme.Lexeme.{Lexeme}
use Rattle.gv_gotypes.specs.declared.names.Entity.TheVariants.{Variable}
use Rattle.gv_gotypes.specs.Scopes.{Source}
use Rattle.gv_gotyped.specs.declared.fault.Fault.{Fault}
use Rattle.gv_gotyped.specs.First.{earliest}
use Rattle.gv_gonames.specs.Named.{NamesOf}
use Rattle.gv_goseen.specs.Seen.{source_of}
use Rattle.gv_goseen.proofs.AgainLemmas.{IsAgain, again_step}
use Rattle.gv_goseen.proofs.seen.Seen.first_again.Goals as goal

pub loop-name-preserved : goal.loop-name-preserved
loop-name-preserved c =
    let s : Source = source_of c.args.self.now in
    let names : List Lexeme = c.args.names.now in
    let i : ℕ = c.loop-name.name-index in
    let t : Lexeme = get_or names i (record { class = 0; start = 0; end = 0 }) in
    let known : NamesOf = c.loop-name.known in
    let h : IsAgain s known.names c.loop-name.first (t ∷ drop (i + 1) names) names
    = subst (λ (ts : List Lexeme). IsAgain s known.names c.loop-name.first ts names) (drop_more names i (record { class = 0; start = 0; end = 0 }) c.loop-name-test.true) c.loop-name.invariant.again in
    record {
      text = ap (λ (g : NamesOf). g.text) c.in_ok-new.ensures.added ∙ c.loop-name.invariant.text;
      again = again_step s known c.add.new.self c.loop-name.first c.earliest-first.result t (drop (i + 1) names) names c.in_ok-new.new (Variable t.start None) c.span_of.result
          c.loop-name.invariant.text c.span_of.ensures h c.in_ok-new.ensures.told c.in_ok-new.ensures.added
          (c.earliest-first.ensures ∙ ap (λ (f : Option Fault). earliest c.loop-name.first f) c.again_unless.ensures);
    }
