use Rattle.std.proofs.Common.{◌≡◌, ℕ, suc, ◌<◌, true, List, [], ◌∷◌, get_or, refl, sym, ap, ◌∙◌, arith}
use Rattle.std.specs.Prelude.{◌&&◌, nat_lt, length}
use Rattle.std.specs.List.{list_all}
use Rattle.std.proofs.lemmas.Bool.{lt-ltb}
use Rattle.gv_machine.proofs.arguments.is_buffer.Goals as goal

are_bytes : (xs : List ℕ) → ((k : ℕ) → get_or xs k 0 < 256) → list_all (λ b. nat_lt b 256) xs ≡ true
are_bytes [] h = refl
are_bytes (x ∷ xs) h = ap (λ b. b && list_all (λ b. nat_lt b 256) xs) (lt-ltb x 256 (h 0)) ∙ are_bytes xs (λ k. h (suc k))

pub returns : goal.returns
returns c =
    let all : list_all (λ b. nat_lt b 256) c.args.bytes.now ≡ true = are_bytes c.args.bytes.now (λ k. omega (arith, c.type_inv.bytes k)) in
    ap (λ b. b && nat_lt (length c.args.bytes.now) 9223372036854775808) (sym all)
