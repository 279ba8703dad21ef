-- Numbers of 32 bits, which keys and values of a load are.
use Rattle.std.proofs.Common.{◌≡◌, ℕ, ◌^◌, ◌<◌, ◌≤◌, pos, true, false, Ok, refl, ◌∙◌, arith, decimal}
use Rattle.std.specs.Prelude.{nat_lt}
use Rattle.std.proofs.lemmas.Bool.Decides.{nat_tests}
use Rattle.std.proofs.lemmas.Int.{ints}
use Rattle.sal_types.specs.declared.value.Atom.TheVariants.{Unsigned}
use Rattle.sal_restrict.specs.Ranges.{holds}
use Rattle.sal_schema.specs.Examples.{part}
use Rattle.sal_json.specs.Numerals.{int_atom, whole_atom}
use Rattle.sal_json.proofs.WholeTexts.{int_readable, unsigned-IsSmall}

pub below_64 : (n : ℕ) → n ≤ 4294967295 → n < 2 ^ 64
below_64 n small = omega arith

in_64 : (n : ℕ) → n ≤ 4294967295 → nat_lt n 18446744073709551616 ≡ true
in_64 n small = grind (arith, nat_tests)

pub in_range : (n : ℕ) → n ≤ 4294967295 → holds (part 0 4294967295) (pos n) ≡ true
in_range n small = grind (arith, ints, nat_tests)

pub whole : (n : ℕ) → n ≤ 4294967295 → whole_atom false (part 0 4294967295) (pos n) ≡ Ok (Unsigned n)
whole n small = rw (in_64 n small, in_range n small) refl

pub as_text : (n : ℕ) → n ≤ 4294967295 → int_atom 32 false (part 0 4294967295) (decimal n) ≡ Ok (Unsigned n)
as_text n small = int_readable 32 false (part 0 4294967295) (pos n) (unsigned-IsSmall n (below_64 n small)) ∙ whole n small
