-- The path of a round, of which a script has the text, is read as that of its put.
use Rattle.std.proofs.Common.{◌≡◌, ℕ, ◌≤◌, ◌==◌, true, false, not, List, [], ◌∷◌, ◌++◌, append_assoc, append-nil, length, refl, ap, sym, ◌∙◌, arith, codes, decimal}
use Rattle.std.specs.Char.{is_ascii_digit}
use Rattle.std.specs.List.{list_all, list_any}
use Rattle.std.proofs.lemmas.Bool.{and_parts}
use Rattle.std.proofs.lemmas.Bool.Decides.{nat_tests}
use Rattle.sal_restrict.specs.declared.yang_type.YangType.TheViews.{out-roll-YangType}
use Rattle.sal_schema.specs.Paths.{fits_path}
use Rattle.sal_schema.specs.Table.{closest}
use Rattle.sal_schema.specs.Valid.{IsTable}
use Rattle.sal_schema.proofs.ShownTables.{shown}
use Rattle.sal_json.specs.Read.{type_text_scalar}
use Rattle.sal_json.proofs.WholeTexts.{digits_of-digits}
use Rattle.sal_pathtext.specs.Laws.{IsDataPath, IsReadable}
use Rattle.sal_pathtext.specs.Nodes.{value_of, value_text}
use Rattle.sal_pathtext.specs.Read.{read_path}
use Rattle.sal_pathtext.specs.Written.{in_quotes, is_quote, written}
use Rattle.sal_pathtext.proofs.WrittenSteps.{written-reads}
use Rattle.sal_script.specs.Load.{entry_path}
use Rattle.sal_script.specs.LoadExamples.{entry, number, table}
use Rattle.sal_script_laws.specs.Rounds.{PathIsRead}
use Rattle.sal_script_laws.proofs.ReadNumbers.{as_text, below_64, in_range}

table_is : IsTable table
unfolding closest
table_is = shown table (record { nodes = omega arith; types = omega arith; modules = omega arith; identities = omega arith }) refl (simp out-roll-YangType)

key_text-is : (n : ℕ) → value_text table 1 (number n) ≡ decimal n
key_text-is n = simp out-roll-YangType refl

key_readable : (n : ℕ) → n ≤ 4294967295 → IsReadable table 1 (number n)
key_readable n small = ap (value_of table 1) (key_text-is n) ∙ simp (type_text_scalar, out-roll-YangType, as_text n small) refl

key_fits : (n : ℕ) → n ≤ 4294967295 → fits_path table (entry n) ≡ true
unfolding closest
key_fits n small = simp (out-roll-YangType, in_range n small) refl

is_data : (n : ℕ) → n ≤ 4294967295 → IsDataPath table (entry n)
is_data n small = record { fits = key_fits n small; of_data = refl; short = omega arith }

no_quote : (t : List ℕ) → list_all is_ascii_digit t ≡ true → list_any is_quote t ≡ false
no_quote [] digits = refl
no_quote (c ∷ t) digits =
    let parts = and_parts (is_ascii_digit c) (list_all is_ascii_digit t) digits in
    let digit = parts.0 in
    let other : (c == 39) ≡ false = grind (arith, nat_tests) in
    rw other (no_quote t parts.1)

quoted : (n : ℕ) → n ≤ 4294967295 → in_quotes (decimal n) ≡ 39 ∷ decimal n ++ 39 ∷ []
quoted n small =
    rw (no_quote (decimal n) (and_parts (not (length (decimal n) == 0)) (list_all is_ascii_digit (decimal n)) (digits_of-digits n (below_64 n small))).1) refl

-- the quotes and the bracket after a key
ended : (t : List ℕ) → (((39 ∷ t ++ 39 ∷ []) ++ 93 ∷ []) ++ []) ++ [] ≡ 39 ∷ (t ++ 39 ∷ 93 ∷ [])
ended t = append-nil _ ∙ append-nil _ ∙ append_assoc (39 ∷ t) (39 ∷ []) (93 ∷ [])

written-is : (n : ℕ) → n ≤ 4294967295 → written table (entry n) ≡ entry_path n
written-is n small = rw (key_text-is n, quoted n small) (ap (λ t. codes "/load:cell[k=" ++ t) (ended (decimal n)))

pub path_is_read : PathIsRead
path_is_read n small = ap (read_path table) (sym (written-is n small)) ∙ written-reads table table_is (entry n) (is_data n small) (tt, ((key_readable n small, tt), tt))
