-- Worked examples of B9 and its number.
-- Assumes nothing.
use mathlib.Core.Path.{◌≡◌, refl}
use mathlib.Core.List.{[]}
use lib.ListN.{replicate}
use Rattle.tx_cut_spec.specs.Cutting.{cut_refusal_number, cut_refusal}

over-72_bytes : cut_refusal_number (cut_refusal (replicate 73 0) 1 1) ≡ 9
over-72_bytes = refl

alias-over-4095 : cut_refusal_number (cut_refusal [] 4096 1) ≡ 9
alias-over-4095 = refl

not-refused : cut_refusal_number (cut_refusal (replicate 72 0) 4095 0) ≡ 0
not-refused = refl

none-included : cut_refusal_number (cut_refusal [] 0 0) ≡ 0
none-included = refl
