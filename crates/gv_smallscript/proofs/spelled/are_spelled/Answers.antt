use Rattle.std.proofs.Common.{ℕ, List, Bor, sym, ◌∙◌}
use Rattle.gv_lex.specs.Reading.{bytes_of}
use Rattle.gv_smallscript.proofs.Texts.{same_items, more_items}
use Rattle.gv_smallscript.proofs.spelled.are_spelled.Goals as goal

pub returns-then-not-same_bytes-clause-no : goal.returns-then-not-same_bytes-clause-no
returns-then-not-same_bytes-clause-no c = λ f e.
    c.same_bytes.ensures.no c.if-not-same_bytes.true
    (c.text_of.ensures ∙ same_items (bytes_of c.args.text.now) (λ (w : Bor (List ℕ)). w.now) c.args.tokens.now c.args.words.now c.loop-at.at c.token_at.result c.word_at.result c.token_at.ensures c.word_at.ensures e)

pub loop-at-preserved : goal.loop-at-preserved
loop-at-preserved c =
    more_items (bytes_of c.args.text.now) (λ (w : Bor (List ℕ)). w.now) c.args.tokens.now c.args.words.now c.loop-at.at c.token_at.result c.word_at.result c.token_at.ensures c.word_at.ensures
    (sym c.text_of.ensures ∙ c.same_bytes.ensures.yes c.if-not-same_bytes.false) c.loop-at.invariant
