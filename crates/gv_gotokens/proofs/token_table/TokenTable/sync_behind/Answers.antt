use Rattle.std.proofs.Common.{◌≡◌, ℕ, List, sym, ap, ◌∙◌, subst}
use Rattle.std.specs.Prelude.{nat_le, unwrap_or, slice_get, true, false}
use Rattle.std.specs.List.Sorted.{IsNonDecreasingBy, IsPartitionPoint}
use Rattle.gv_gosyntax.specs.declared.lexeme.Lexeme.{Lexeme}
use Rattle.gv_gosyntax.specs.declared.generated.gosyntax_table.TheConstants.{CLASS_SYNC}
use Rattle.gv_gotypes.specs.Scopes.{next_of}
use Rattle.gv_gotokens.specs.Indexed.{starts_of}
use Rattle.gv_gotokens.proofs.Places.{next_by, starts_ordered}
use Rattle.gv_gotokens.proofs.token_table.TokenTable.sync_behind.Goals as goal

pub count_until-requires : goal.count_until-requires
count_until-requires c = subst (λ (ss : List ℕ). IsNonDecreasingBy (λ (s : ℕ). s) ss) (sym (c.as_slice-starts.ensures.value ∙ c.self.invariant.listed)) (starts_ordered CLASS_SYNC c.self.inside.tokens.now c.self.invariant.ordered)

pub returns : goal.returns
returns c =
    let at : ℕ = c.args.at in
    let same : c.as_slice-starts.result.now ≡ starts_of CLASS_SYNC c.self.inside.tokens.now = c.as_slice-starts.ensures.value ∙ c.self.invariant.listed in
    c.start_or.ensures
    ∙ ap (λ (ss : List ℕ). unwrap_or (slice_get ss c.count_until.result) at) same
    ∙ sym (next_by CLASS_SYNC at c.self.inside.tokens.now c.count_until.result
    (subst (λ (ss : List ℕ). IsPartitionPoint (λ s. nat_le s at ≡ true) (λ s. nat_le s at ≡ false) ss c.count_until.result) same c.count_until.ensures))
    ∙ ap (λ (ts : List Lexeme). next_of CLASS_SYNC ts at) c.self.view_is
