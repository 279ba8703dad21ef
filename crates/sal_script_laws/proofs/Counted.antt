-- Rounds that put different entries leave three rows each, and their numbers.
use Rattle.std.proofs.Common.{◌≡◌, ℕ, ◌+◌, ◌*◌, true, false, List, [], ◌∷◌, ◌++◌, length, drop, Option, Some, None, refl, ap, sym, ◌∙◌, arith, if◌then◌else◌}
use Rattle.std.specs.Prelude.{not, nat_eq, sum_by}
use Rattle.std.specs.Option.{option_or}
use Rattle.std.proofs.lemmas.Bool.{and_parts, both_ways, eq-eqb, eqb-true, false_from_ne_true, not-true, or_from, or_left, or_right}
use Rattle.std.proofs.lemmas.List.Sums.{sum_by-cons}
use Rattle.sal_types.specs.declared.value.Cell.{Cell}
use Rattle.sal_types.specs.declared.value.Store.TheVariants.{Config, Oper}
use Rattle.sal_types.specs.declared.value.Step.{Step}
use Rattle.sal_types.specs.declared.value.Step.TheVariants.{Node}
use Rattle.sal_types.specs.declared.row.Row.{Row}
use Rattle.sal_types.specs.Prefix.{is_prefix}
use Rattle.sal_types.specs.Tree.{cell, has, IsAscending}
use Rattle.sal_types.proofs.Prefixes.{is_prefix-append}
use Rattle.sal_rows.specs.Apply.{apply_ops, cell_after, cell_by}
use Rattle.sal_rows.specs.Commits.{tree_after}
use Rattle.sal_rows.proofs.Applied.{IsAscending-apply_ops, apply_ops-unique}
use Rattle.sal_rows.proofs.Untouched.{no_cell}
use Rattle.sal_script.specs.Load.{number_of}
use Rattle.sal_script.specs.LoadExamples.{entry, rows}
use Rattle.sal_script_laws.specs.Rounds.{Round, RoundsAreCounted, are_distinct, commit_of, commits_of, has_key, put_of, sum_of}
use Rattle.sal_script_laws.proofs.Behind.{absent-behind}
use Rattle.sal_script_laws.proofs.Entries.{at_entry, differ}
use Rattle.sal_script_laws.proofs.Placing.{AreNew, IsAscending-with_rows, cell-with_rows, length-with_rows, sum-with_rows, with_rows}

-- ---- one put

or_none : (c : Option Cell) → option_or c None ≡ c
or_none None = refl
or_none (Some x) = refl

-- without a row at the entry or below it, a put sets the rows of the entry
cell-put : (tree : List Row) (key value : ℕ) → has tree (entry key) ≡ false → (r : List Step) → cell (with_rows tree (rows key value)) r ≡ cell_after tree Config (put_of key value ∷ []) r
cell-put tree key value new r =
    cell-with_rows tree (rows key value) r
    ∙ elim (is_prefix (entry key) r) as (λ b. is_prefix (entry key) r ≡ b → option_or (cell (rows key value) r) (cell tree r) ≡ cell_by (if b then Some (cell (rows key value) r) else None) (cell tree r)) [
      | true ↦ λ e. ap (option_or (cell (rows key value) r)) (no_cell (is_prefix (entry key)) tree r new e) ∙ or_none (cell (rows key value) r)
      | false ↦ λ e. ap (λ c. option_or c (cell tree r)) (no_cell (λ p. not (is_prefix (entry key) p)) (rows key value) r (at_entry key value) (ap not e))
    ] refl

pub put-rows : (tree : List Row) (key value : ℕ) → IsAscending tree → has tree (entry key) ≡ false → with_rows tree (rows key value) ≡ apply_ops tree Config (put_of key value ∷ [])
put-rows tree key value rising new =
    apply_ops-unique tree Config (put_of key value ∷ []) (with_rows tree (rows key value)) (IsAscending-with_rows tree (rows key value) rising) (cell-put tree key value new)

-- the three rows are at different places
are_new : (tree : List Row) (key value : ℕ) → has tree (entry key) ≡ false → AreNew tree (rows key value)
are_new tree key value new = (first, (second, (none (entry key ++ Node 2 ∷ []) (is_prefix-append (entry key) (Node 2 ∷ [])), tt)))
  where
    none : (r : List Step) → is_prefix (entry key) r ≡ true → cell tree r ≡ None
    none r e = no_cell (is_prefix (entry key)) tree r new e

    first : option_or (cell (drop 1 (rows key value)) (entry key)) (cell tree (entry key)) ≡ None
    first = rw (differ (entry key) (entry key ++ Node 1 ∷ []) (λ h. omega arith)) (none (entry key) (is_prefix-append (entry key) []))

    second : option_or (cell (drop 2 (rows key value)) (entry key ++ Node 1 ∷ [])) (cell tree (entry key ++ Node 1 ∷ [])) ≡ None
    second = rw (differ (entry key ++ Node 1 ∷ []) (entry key ++ Node 2 ∷ []) (λ h. omega arith)) (none (entry key ++ Node 1 ∷ []) (is_prefix-append (entry key) (Node 1 ∷ [])))

-- ---- rounds after a tree

-- none of the rounds' entries is there yet
abbrev AreFresh : List Row → List Round → Type 0
AreFresh tree rounds = (key : ℕ) → has_key rounds key ≡ true → has tree (entry key) ≡ false

-- how many rows there are, and the sum of their numbers
record Counts (tree after : List Row) (rounds : List Round) : Type 0 where
  rows : length after ≡ 3 * length rounds + length tree
  numbers : sum_by number_of after ≡ sum_of rounds + sum_by number_of tree

abbrev after : List Row → Round → List Row
after tree round = apply_ops tree Config (commit_of round)

fresh-after : (tree : List Row) (round : Round) (rounds : List Round) → not (has_key rounds round.key) ≡ true → AreFresh tree (round ∷ rounds) → AreFresh (after tree round) rounds
fresh-after tree round rounds new fresh key has_it =
    absent-behind tree (round ∷ []) key (fresh key (or_right (nat_eq round.key key) (has_key rounds key) has_it)) (or_from (nat_eq round.key key) false other refl)
  where
    other : nat_eq round.key key ≡ false
    other = false_from_ne_true _ (λ e. both_ways (has_key rounds round.key) (not-true _ new) (ap (has_key rounds) (eqb-true round.key key e) ∙ has_it))

counts-one : (tree : List Row) (round : Round) → IsAscending tree → has tree (entry round.key) ≡ false → (length (after tree round) ≡ 3 + length tree) × (sum_by number_of (after tree round) ≡ round.value + sum_by number_of tree)
counts-one tree round rising new =
    let same : with_rows tree (rows round.key round.value) ≡ after tree round = put-rows tree round.key round.value rising new in
    let places : AreNew tree (rows round.key round.value) = are_new tree round.key round.value new in
    let sum : sum_by number_of (with_rows tree (rows round.key round.value)) ≡ (((0 + 0) + 0) + round.value) + sum_by number_of tree = sum-with_rows number_of tree (rows round.key round.value) places in
    (ap length (sym same) ∙ length-with_rows tree (rows round.key round.value) places, ap (sum_by number_of) (sym same) ∙ sum ∙ omega arith)

counts : (tree : List Row) (rounds : List Round) → IsAscending tree → are_distinct rounds ≡ true → AreFresh tree rounds → Counts tree (tree_after Config tree (commits_of rounds)) rounds
counts tree [] rising distinct fresh = record { rows = omega arith; numbers = omega arith }
counts tree (round ∷ rounds) rising distinct fresh =
    let parts = and_parts (not (has_key rounds round.key)) (are_distinct rounds) distinct in
    let one = counts-one tree round rising (fresh round.key (or_left (nat_eq round.key round.key) (has_key rounds round.key) (eq-eqb round.key round.key refl))) in
    let rest = counts (after tree round) rounds (IsAscending-apply_ops tree Config (commit_of round)) parts.1 (fresh-after tree round rounds parts.0 fresh) in
    let more = one.0 in
    let sum = one.1 in
    let rows_more = rest.rows in
    let sum_more = rest.numbers in
    let all = sum_by-cons (λ one. one.value) round rounds in
    record { rows = omega arith; numbers = omega arith }

no_oper : (rounds : List Round) → tree_after Oper [] (commits_of rounds) ≡ []
no_oper [] = refl
no_oper (round ∷ rounds) = no_oper rounds

pub counted : RoundsAreCounted
counted rounds distinct =
    let all : Counts [] (tree_after Config [] (commits_of rounds)) rounds = counts [] rounds refl distinct (λ key has_it. refl) in
    let rows_are = all.rows in
    let numbers_are = all.numbers in
    record { rows = rows_are ∙ omega arith; numbers = numbers_are ∙ omega arith; operational = no_oper rounds }
