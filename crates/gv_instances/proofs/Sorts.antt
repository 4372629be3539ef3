-- Sorts are told apart.
use Rattle.std.proofs.Common.{◌≡◌, ℕ, true, nat_eq, if◌then◌else◌, eqb-true, refl, sym, ap, ◌∙◌}
use Rattle.gv_terms.specs.declared.sort.Sort.{Sort}
use Rattle.gv_terms.specs.declared.sort.Sort.TheVariants as sort
use Rattle.gv_terms.specs.Sorts.{sort_number, sort_eq}

sort_at : ℕ → Sort
sort_at n =
    if nat_eq n 0 then sort.Word else
    if nat_eq n 1 then sort.Bool else
    if nat_eq n 2 then sort.Bytes else
    if nat_eq n 3 then sort.Words else
    if nat_eq n 4 then sort.Refs else
    if nat_eq n 5 then sort.Blocks else
    if nat_eq n 6 then sort.MapWW else
    if nat_eq n 7 then sort.MapWB else
    if nat_eq n 8 then sort.Ref else
    if nat_eq n 9 then sort.SliceS else
    if nat_eq n 10 then sort.Call else
    sort.Name

sort_again : (s : Sort) → sort_at (sort_number s) ≡ s
unfolding sort_at
sort_again sort.Word = refl
sort_again sort.Bool = refl
sort_again sort.Bytes = refl
sort_again sort.Words = refl
sort_again sort.Refs = refl
sort_again sort.Blocks = refl
sort_again sort.MapWW = refl
sort_again sort.MapWB = refl
sort_again sort.Ref = refl
sort_again sort.SliceS = refl
sort_again sort.Call = refl
sort_again sort.Name = refl

pub same_sort : (r s : Sort) → sort_eq r s ≡ true → s ≡ r
same_sort r s e = sym (sort_again s) ∙ ap sort_at (sym (eqb-true (sort_number r) (sort_number s) e)) ∙ sort_again r

pub sort_itself : (s : Sort) → sort_eq s s ≡ true
sort_itself sort.Word = refl
sort_itself sort.Bool = refl
sort_itself sort.Bytes = refl
sort_itself sort.Words = refl
sort_itself sort.Refs = refl
sort_itself sort.Blocks = refl
sort_itself sort.MapWW = refl
sort_itself sort.MapWB = refl
sort_itself sort.Ref = refl
sort_itself sort.SliceS = refl
sort_itself sort.Call = refl
sort_itself sort.Name = refl
