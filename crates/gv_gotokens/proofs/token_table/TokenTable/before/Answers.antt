use Rattle.std.proofs.Common.{◌≡◌, ℕ, suc, ◌-◌, List, sym, ap, ◌∙◌, arith}
use Rattle.gv_gosyntax.specs.declared.lexeme.Lexeme.{Lexeme}
use Rattle.gv_gotypes.specs.Scopes.{token_before}
use Rattle.gv_gotokens.proofs.Places.{before_by, last_or}
use Rattle.gv_gotokens.proofs.token_table.TokenTable.before.Goals as goal

abbrev none : Lexeme
none = record { class = 0; start = 0; end = 0 }

pub returns-then-count-eq0 : goal.returns-then-count-eq0
returns-then-count-eq0 c =
    let ts : List Lexeme = c.self.inside.tokens.now in
    ap (λ (n : ℕ). last_or c.args.at ts n none) (sym c.if-count-eq0.true)
    ∙ sym (before_by c.args.at c.args.at ts c.count_before-count.result none c.count_before-count.ensures.within c.count_before-count.ensures.parted)
    ∙ ap (λ (xs : List Lexeme). token_before c.args.at xs c.args.at) c.self.view_is

pub returns-else-count-eq0 : goal.returns-else-count-eq0
returns-else-count-eq0 c =
    let ts : List Lexeme = c.self.inside.tokens.now in
    let n : ℕ = c.count_before-count.result in
    let more : n ≡ suc (n - 1) = omega (arith, c.if-count-eq0.false) in
    ap (λ (k : ℕ). last_or c.args.at ts k none) (sym more)
    ∙ sym (before_by c.args.at c.args.at ts n none c.count_before-count.ensures.within c.count_before-count.ensures.parted)
    ∙ ap (λ (xs : List Lexeme). token_before c.args.at xs c.args.at) c.self.view_is
