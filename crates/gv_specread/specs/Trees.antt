-- What tokens give a tree: spans, numbers and sorts.
use Rattle.std.specs.Prelude.{ℕ, ◌==◌, if◌then◌else◌}
use Rattle.gv_terms.specs.declared.sort.Sort.{Sort}
use Rattle.gv_terms.specs.declared.sort.Sort.TheVariants as sort
use Rattle.gv_specread.specs.declared.generated.spec_table.TheConstants.{CLASS_BLOCKS_SORT, CLASS_BOOL_SORT, CLASS_BYTES_SORT, CLASS_CALL_SORT, CLASS_MAP_WB_SORT, CLASS_MAP_WW_SORT, CLASS_REFS_SORT, CLASS_REF_SORT, CLASS_SLICE_S_SORT, CLASS_WORDS_SORT, CLASS_WORD_SORT}
use Rattle.gv_termread.specs.declared.token.SeenToken.{SeenToken}
use Rattle.gv_specread.specs.declared.tree.Span.{Span}
use Rattle.gv_specread.specs.declared.tree.PlacedSort.{PlacedSort}
use Rattle.gv_specread.specs.declared.tree.PlacedNumber.{PlacedNumber}

abbrev pub span_of : SeenToken → Span
span_of t = record { start = t.start; end = t.end }

abbrev pub number_of : SeenToken → PlacedNumber
number_of t = record { start = t.start; value = t.value }

-- the last one of the table stands for itself alone

abbrev pub sort_by : ℕ → Sort
sort_by class =
    if class == CLASS_WORD_SORT then sort.Word else (if class == CLASS_BOOL_SORT then sort.Bool else (
    if class == CLASS_BYTES_SORT then sort.Bytes else (if class == CLASS_WORDS_SORT then sort.Words else (
    if class == CLASS_REFS_SORT then sort.Refs else (if class == CLASS_BLOCKS_SORT then sort.Blocks else (
    if class == CLASS_MAP_WW_SORT then sort.MapWW else (if class == CLASS_MAP_WB_SORT then sort.MapWB else (
    if class == CLASS_REF_SORT then sort.Ref else (if class == CLASS_SLICE_S_SORT then sort.SliceS else (
    if class == CLASS_CALL_SORT then sort.Call else sort.Name))))))))))

abbrev pub sort_of : SeenToken → PlacedSort
sort_of t = record { start = t.start; sort = sort_by t.class }
