use Rattle.std.proofs.Common.{◌≡◌, ℕ, List, [], map, ap, ◌∙◌}
use Rattle.gv_gosyntax.specs.declared.lexeme.Lexeme.{Lexeme}
use Rattle.gv_gotypes.specs.Scopes.{Source, Env, Named}
use Rattle.gv_gotypes.specs.Declarations.{no_counts}
use Rattle.gv_gotyped.specs.First.{first_of}
use Rattle.gv_goheads.specs.declared.head.Head.{Head}
use Rattle.gv_goheads.specs.Heads.{bares}
use Rattle.gv_goparts.specs.Parts.{structs_findings, methods_findings}
use Rattle.gv_goseen.specs.Naming.{source_with}
use Rattle.gv_goseen.specs.Seen.{env_of, signature_of}
use Rattle.gv_gonames.specs.Named.{NamesOf}
use Rattle.gv_gomethods.specs.Methods.{with_structs}
use Rattle.gv_godeclared.proofs.Whole.{place_of, names_by, structs_by, names_told, structs_told, methods_told, env_is, no_outer}
use Rattle.gv_godeclared.proofs.known.known_of.Goals as goal

pub returns : goal.returns
returns c = λ f p q.
    let s : Source = source_with c.args.text.now c.args.tokens in
    let paths : List Lexeme = c.args.paths.now in
    let heads : List Head = c.args.heads.now in
    let env : Env = env_of c.seen_with-seen.result in
    let alone : env ≡ place_of s (names_by s paths heads)
    = c.seen_with-seen.ensures.env ∙ ap (λ (t : NamesOf). place_of s t.names) (c.in_ok-first.ensures.declared c.args.tokens) in
    record {
      env = c.filled.ensures.env ∙ env_is s f paths heads c.seen_with-seen.result.text.now env c.declare_methods.new.structs.items (map signature_of c.in_ok-procedures.procedures.items) p q alone
          c.in_ok-methods.ensures.declared c.in_ok-procedures.ensures;
      outer = no_outer c.filled.result (c.filled.ensures.outer ∙ c.seen_with-seen.ensures.outer);
      names = c.in_ok-first.ensures.told c.args.tokens ∙ ap first_of (names_told s f paths heads p q);
      structs = c.in_ok-made.ensures.told ∙ ap (λ (e : Env). first_of (structs_findings e (bares heads))) alone ∙ ap first_of (structs_told s f paths heads p q);
      methods = c.in_ok-methods.ensures.told
          ∙ ap (λ (e : Env). first_of (methods_findings (with_structs e (structs_by e heads)) no_counts (bares heads))) alone
          ∙ ap first_of (methods_told s f paths heads p q);
    }
