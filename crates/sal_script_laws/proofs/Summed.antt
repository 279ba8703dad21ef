-- Keys and numbers of rounds, and their sums.
use Rattle.std.proofs.Common.{◌≡◌, ℕ, zero, suc, ◌+◌, ◌*◌, false, List, [], ◌∷◌, ◌++◌, refl, ap, sym, ◌∙◌, arith}
use Rattle.std.specs.Prelude.{not, nat_eq, sum_by}
use Rattle.std.proofs.lemmas.Bool.{and_from, and_parts, eqb-false, ne_eqb, not_from_false, not-true, or_from, or_parts}
use Rattle.std.proofs.lemmas.List.Folds.{list_any-append}
use Rattle.std.proofs.lemmas.List.Sums.{sum_by_push}
use Rattle.sal_rows.specs.Commits.{numbers_after}
use Rattle.sal_rows.proofs.Numbers.{numbers_after-suc}
use Rattle.sal_script_laws.specs.Rounds.{AreShort, KeysDiffer, Round, StayDistinct, SumGrows, SumsAreAll, are_distinct, has_key, sum_after}

pub keys_differ : KeysDiffer
keys_differ client round other next small short same = (omega arith, omega arith)

pub short : AreShort
short start client round low four few = (omega arith, omega arith)

-- ---- one round more

pub has_key-push : (rounds : List Round) (round : Round) (key : ℕ) → has_key rounds key ≡ false → nat_eq round.key key ≡ false → has_key (rounds ++ round ∷ []) key ≡ false
has_key-push rounds round key none other =
    list_any-append (λ one. nat_eq one.key key) rounds (round ∷ []) ∙ or_from (has_key rounds key) (has_key (round ∷ []) key) none (or_from (nat_eq round.key key) false other refl)

pub stay_distinct : StayDistinct
stay_distinct [] round distinct new = refl
stay_distinct (first ∷ rounds) round distinct new =
    let parts = and_parts (not (has_key rounds first.key)) (are_distinct rounds) distinct in
    let other : nat_eq round.key first.key ≡ false = ne_eqb _ _ (λ same. eqb-false first.key round.key (or_parts (nat_eq first.key round.key) (has_key rounds round.key) new).0 (sym same)) in
    and_from (not (has_key (rounds ++ round ∷ []) first.key)) (are_distinct (rounds ++ round ∷ []))
    (not_from_false _ (has_key-push rounds round first.key (not-true _ parts.0) other))
    (stay_distinct rounds round parts.1 (or_parts (nat_eq first.key round.key) (has_key rounds round.key) new).1)

pub sum_grows : SumGrows
sum_grows rounds round = sum_by_push (λ one. one.value) rounds round

-- ---- all rounds

sum_after-suc : (start count : ℕ) → sum_after start (suc count) ≡ sum_after start count + (start + suc count)
sum_after-suc start count = ap (sum_by (λ n. n)) (numbers_after-suc start count) ∙ sum_by_push (λ n. n) (numbers_after start count) (start + suc count)

four_more : (start count : ℕ) → sum_after start (suc (suc (suc (suc count)))) ≡ sum_after start count + (4 * start + (4 * count + 10))
four_more start count =
    let one = sum_after-suc start count in
    let two = sum_after-suc start (suc count) in
    let three = sum_after-suc start (suc (suc count)) in
    let four = sum_after-suc start (suc (suc (suc count))) in
    omega arith

pub all_sums : SumsAreAll
all_sums start zero = refl
all_sums start (suc rounds) =
    let before = all_sums start rounds in
    let next : 4 * suc rounds ≡ suc (suc (suc (suc (4 * rounds)))) = omega arith in
    let more : sum_after start (4 * suc rounds) ≡ sum_after start (4 * rounds) + (4 * start + (4 * (4 * rounds) + 10)) = ap (sum_after start) next ∙ four_more start (4 * rounds) in
    omega arith
