-- The tree after rounds: exactly the entries that they put.
use Rattle.std.proofs.Common.{◌≡◌, ℕ, suc, zero, Bool, false, List, [], ◌∷◌, ◌++◌, length, take, refl, ap, ◌∙◌}
use Rattle.std.specs.Prelude.{nat_eq}
use Rattle.std.specs.List.{list_any}
use Rattle.std.proofs.lemmas.List.Folds.{list_any-append}
use Rattle.std.proofs.lemmas.Bool.{or_from, or_parts}
use Rattle.sal_types.specs.declared.value.Store.TheVariants.{Config}
use Rattle.sal_types.specs.declared.value.Step.{Step}
use Rattle.sal_types.specs.declared.value.Step.TheVariants.{Node}
use Rattle.sal_types.specs.declared.row.Row.{Row}
use Rattle.sal_types.specs.Order.{path_eq}
use Rattle.sal_types.specs.Prefix.{is_prefix}
use Rattle.sal_types.specs.Tree.{has}
use Rattle.sal_rows.specs.Apply.{apply_ops, cell_after}
use Rattle.sal_rows.specs.Commits.{tree_after}
use Rattle.sal_rows.proofs.Applied.{cell-none}
use Rattle.sal_script.specs.LoadExamples.{entry, rows}
use Rattle.sal_script_laws.specs.Rounds.{HasNoList, IsAbsent, Round, commit_of, commits_of, has_key, put_of}
use Rattle.sal_script_laws.proofs.Entries.{apart, not_list}
use Rattle.sal_script_laws.proofs.Placing.{none-tree_of}

-- if no row of the tree and none of the put passes a test, none passes it after the put
one-none : (q : List Step → Bool) (tree : List Row) (key value : ℕ)
    → list_any (λ row. q row.path) tree ≡ false → list_any (λ row. q row.path) (rows key value) ≡ false
    → list_any (λ row. q row.path) (apply_ops tree Config (put_of key value ∷ [])) ≡ false
one-none q tree key value before put =
    none-tree_of q (cell_after tree Config (put_of key value ∷ [])) (tree ++ rows key value)
    (list_any-append (λ row. q row.path) tree (rows key value) ∙ or_from _ _ before put)

-- nor after rounds whose puts it passes none of
none-behind : (q : List Step → Bool) (t : Round → Bool) → ((round : Round) → t round ≡ false → list_any (λ row. q row.path) (rows round.key round.value) ≡ false)
    → (tree : List Row) (rounds : List Round) → list_any (λ row. q row.path) tree ≡ false → list_any t rounds ≡ false
    → list_any (λ row. q row.path) (tree_after Config tree (commits_of rounds)) ≡ false
none-behind q t puts tree [] before none = before
none-behind q t puts tree (round ∷ rounds) before none =
    none-behind q t puts (apply_ops tree Config (commit_of round)) rounds
    (one-none q tree round.key round.value before (puts round (or_parts (t round) (list_any t rounds) none).0))
    (or_parts (t round) (list_any t rounds) none).1

pub absent-behind : (tree : List Row) (rounds : List Round) (key : ℕ) → has tree (entry key) ≡ false → has_key rounds key ≡ false → has (tree_after Config tree (commits_of rounds)) (entry key) ≡ false
absent-behind tree rounds key before none =
    none-behind (is_prefix (entry key)) (λ round. nat_eq round.key key) (λ round e. apart key round.key round.value e) tree rounds before none

never : (rounds : List Round) → list_any (λ round. false) rounds ≡ false
never [] = refl
never (round ∷ rounds) = never rounds

pub absent : IsAbsent
absent rounds key none = absent-behind [] rounds key refl none

pub no_list : HasNoList
no_list rounds =
    cell-none (tree_after Config [] (commits_of rounds)) (Node 0 ∷ [])
    (none-behind (path_eq (Node 0 ∷ [])) (λ round. false) (λ round e. not_list round.key round.value) [] rounds refl (never rounds))

-- ---- the first rounds

pub take-commits : (k : ℕ) (rounds : List Round) → take k (commits_of rounds) ≡ commits_of (take k rounds)
take-commits zero rounds = refl
take-commits (suc k) [] = refl
take-commits (suc k) (round ∷ rounds) = ap (λ commits. commit_of round ∷ commits) (take-commits k rounds)

pub has_key-take : (k : ℕ) (rounds : List Round) (key : ℕ) → has_key rounds key ≡ false → has_key (take k rounds) key ≡ false
has_key-take zero rounds key none = refl
has_key-take (suc k) [] key none = refl
has_key-take (suc k) (round ∷ rounds) key none =
    or_from (nat_eq round.key key) (has_key (take k rounds) key) (or_parts (nat_eq round.key key) (has_key rounds key) none).0
    (has_key-take k rounds key (or_parts (nat_eq round.key key) (has_key rounds key) none).1)

pub length-commits : (rounds : List Round) → length (commits_of rounds) ≡ length rounds
length-commits [] = refl
length-commits (round ∷ rounds) = ap suc (length-commits rounds)
