use Rattle.std.proofs.Common.{◌≡◌, ◌≤◌, ℕ, List, [], ◌∷◌, ◌++◌, false, Some, ap, sym, subst, ◌∙◌}
use Rattle.serde_json.specs.Data.{Data, depth}
use Rattle.serde_json.specs.Written.{has_float, compact_text}
use Rattle.serde_json.specs.Read.{read, max_depth}
use Rattle.gv_json.specs.Line.{object_of, value_of}
use Rattle.gv_json.proofs.LineLemmas.{no_float, shallow, object_text}
use Rattle.gv_json.proofs.SingleLemmas.{object_is_one_line}
use Rattle.gv_json.proofs.line.json_line.Goals as goal

-- what was written of the object
the_text : (text : List ℕ) (seen : Data) (digests lines : List (List ℕ)) (status : ℕ) → seen ≡ value_of digests lines status
    → (has_float seen ≡ false → text ≡ compact_text seen) → text ≡ object_of digests lines status
the_text text seen digests lines status is written =
    written (ap has_float is ∙ no_float digests lines status) ∙ ap compact_text is ∙ object_text digests lines status

back : (text : List ℕ) (seen : Data) (digests lines : List (List ℕ)) (status : ℕ) → seen ≡ value_of digests lines status
    → (has_float seen ≡ false → text ≡ compact_text seen) → (depth seen ≤ max_depth → read text ≡ Some seen)
    → read (object_of digests lines status) ≡ Some (value_of digests lines status)
back text seen digests lines status is written reads =
    let low : depth seen ≤ max_depth = subst (λ (d : Data). depth d ≤ max_depth) (sym is) (shallow digests lines status) in
    ap read (sym (the_text text seen digests lines status is written)) ∙ reads low ∙ ap (λ (d : Data). Some d) is

pub returns-clause-line : goal.returns-clause-line
returns-clause-line c =
    c.in_ok-push.ensures.items ∙ ap (λ (v : List ℕ). v ++ 10 ∷ [])
    (the_text c.in_ok-text.text.items _ c.args.digests.now c.args.lines.now c.args.status c.in_ok-object.ensures c.in_ok-text.ensures.text)

pub returns-clause-reads : goal.returns-clause-reads
returns-clause-reads c = record {
  json = object_of c.args.digests.now c.args.lines.now c.args.status;
  whole = returns-clause-line c;
  single = object_is_one_line c.args.digests.now c.args.lines.now c.args.status;
  reads = back c.in_ok-text.text.items _ c.args.digests.now c.args.lines.now c.args.status c.in_ok-object.ensures c.in_ok-text.ensures.text c.in_ok-text.ensures.reads_back;
}
