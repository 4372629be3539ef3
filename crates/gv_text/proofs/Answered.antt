-- What an answer that is right says of every value and of every fault of a text.
use Rattle.std.proofs.Common.{◌≡◌, ℕ, Result, Ok, Err, ap, ◌∙◌, IfOk, IfErr}
use Rattle.std.specs.Prelude.{List}
use Rattle.gv_base.specs.Places.{place_at}
use Rattle.gv_base.specs.declared.answers.Code.{Code}
use Rattle.gv_base.specs.declared.answers.Refusal.{Refusal}
use Rattle.gv_base.specs.declared.answers.Refusal.TheVariants as refusal
use Rattle.gv_text.specs.Answers.{IsReadSo, IsRefusedAs, Refuses, IsDecided}

-- what is so is read, by what is shown of an answer
pub only_so : {R V : Type 0} (shown : R → V) (text : List ℕ) (Reads : V → Type 0) (IsRefused : ℕ → Code → Type 0) → IsDecided Reads IsRefused → (result : Result R Refusal)
    → IfOk result (λ read. Reads (shown read)) → IfErr result (Refuses text IsRefused) → (value : V) → Reads value → IsReadSo (λ read. shown read ≡ value) result
only_so shown text Reads IsRefused one (Ok read) h g value r = one.one_value (shown read) value h r
only_so shown text Reads IsRefused one (Err refusal.NoMemory) h g value r = tt
only_so shown text Reads IsRefused one (Err (refusal.At place code)) h g value r = absurd (one.not_both value g.0 code r g.2)

-- where there is a fault, it is refused
pub fault_so : {R V : Type 0} (shown : R → V) (text : List ℕ) (Reads : V → Type 0) (IsRefused : ℕ → Code → Type 0) → IsDecided Reads IsRefused → (result : Result R Refusal)
    → IfOk result (λ read. Reads (shown read)) → IfErr result (Refuses text IsRefused) → (at : ℕ) (code : Code) → IsRefused at code → IsRefusedAs (place_at text at) code result
fault_so shown text Reads IsRefused one (Ok read) h g at code r = absurd (one.not_both (shown read) at code h r)
fault_so shown text Reads IsRefused one (Err refusal.NoMemory) h g at code r = tt
fault_so shown text Reads IsRefused one (Err (refusal.At place other)) h g at code r =
    let same = one.one_refusal g.0 at other code g.2 r in
    (g.1 ∙ ap (place_at text) same.0, same.1)
