-- Texts that are read, and then counted.
use Rattle.std.proofs.Common.{◌≡◌, ℕ, ◌+◌, ◌-◌, ◌≤◌, ◌<◌, ◌^◌, List, [], ◌∷◌, ◌++◌, length, take, drop, get_or, true, false, nat_lt, Option, Some, None, Ok, IsTrue, append-nil, ap, sym, ◌∙◌, arith}
use Rattle.std.specs.Prelude.{option_and_then}
use Rattle.std.specs.List.{flat_map, sum_by}
use Rattle.std.proofs.lemmas.Bool.Decides.{nat_tests}
use Rattle.std.proofs.lemmas.List.{take_all, take_more, take-append-drop}
use Rattle.std.proofs.lemmas.List.Concat.{flat_map-append}
use Rattle.std.proofs.lemmas.List.Sums.{sum_by-append, sum_by_more_le}
use Rattle.sal_script.specs.declared.fault.ScriptFault.{ScriptFault}
use Rattle.sal_script.specs.declared.fault.ScriptFault.TheVariants.{BadScript, NoMemory}
use Rattle.sal_script.specs.Limits.{all_texts, are_short}
use Rattle.sal_script.specs.Reading.{IsFaultOf}
use Rattle.sal_script.specs.Script.{or_bad, if_short}

abbrev pub Texts : Type 0
Texts = List (List ℕ)

-- a fault of reading is one of both
pub short_fault : (place : List ℕ) (read : Option Texts) (e : ScriptFault) → IsFaultOf (or_bad place read) e → IsFaultOf (or_bad place (option_and_then if_short read)) e
short_fault place None e fault = fault
short_fault place (Some texts) NoMemory fault = tt
short_fault place (Some texts) (BadScript at) fault = cc

-- what was read is tested
pub short_read : (place : List ℕ) (read : Option Texts) (texts : Texts) → or_bad place read ≡ Ok texts → or_bad place (option_and_then if_short read) ≡ or_bad place (if_short texts)
short_read place None texts e = cc
short_read place (Some some) texts e = let same : some ≡ texts = cc in ap (λ xs. or_bad place (if_short xs)) same

-- ---- counting

small : (a b : ℕ) → a < b → true ≡ nat_lt a b
small a b h = grind (arith, nat_tests)

large : (a b : ℕ) → b ≤ a → false ≡ nat_lt a b
large a b h = grind (arith, nat_tests)

-- all texts were counted
pub counted : (texts : Texts) (i left room : ℕ) → length texts ≤ i → sum_by length (take i texts) + left ≡ room → sum_by length texts + left ≡ room
counted texts i left room past so_far = let whole = ap (sum_by length) (take_all i texts past) in omega (arith, whole, so_far)

-- one text is longer than what the texts before it leave
pub too_long : (texts : Texts) (i left room : ℕ) (text : List ℕ) → i < length texts → text ≡ get_or texts i text → sum_by length (take i texts) + left ≡ room → left < length text → room < sum_by length texts
too_long texts i left room text inside is so_far long =
    let more = sum_by_more_le length texts i text inside in
    let here = ap length is in
    omega (arith, more, here, so_far, long)

-- texts are short where they leave something of the room, or nothing of it
pub is_short : (texts : Texts) (left : ℕ) → sum_by length texts + left ≡ 2 ^ 32 - 1 → are_short texts ≡ true
is_short texts left sum = sym (small (sum_by length texts) (2 ^ 32) (omega (arith, sum)))

pub not_short : (texts : Texts) → 2 ^ 32 - 1 < sum_by length texts → are_short texts ≡ false
not_short texts long = sym (large (sum_by length texts) (2 ^ 32) (omega (arith, long)))

-- ---- upgrades

sum_of_all : (modules : Texts) (upgrades : List Texts) → sum_by length (all_texts modules upgrades) ≡ sum_by length modules + sum_by length (flat_map (λ texts. texts) upgrades)
sum_of_all modules upgrades = sum_by-append length modules (flat_map (λ texts. texts) upgrades)

-- the texts of one upgrade more
pub with_upgrade : (modules : Texts) (upgrades : List Texts) (i : ℕ) (texts : Texts) → i < length upgrades → texts ≡ get_or upgrades i texts
    → sum_by length (all_texts modules (take (i + 1) upgrades)) ≡ sum_by length (all_texts modules (take i upgrades)) + sum_by length texts
with_upgrade modules upgrades i texts inside is =
    let front = take i upgrades in
    ap (λ us. sum_by length (all_texts modules us)) (take_more upgrades i texts inside ∙ ap (λ t. front ++ t ∷ []) (sym is))
    ∙ sum_of_all modules (front ++ texts ∷ [])
    ∙ ap (λ n. sum_by length modules + n)
    (ap (sum_by length) (flat_map-append (λ (t : Texts). t) front (texts ∷ []) ∙ ap (λ t. flat_map (λ (t : Texts). t) front ++ t) (append-nil texts))
    ∙ sum_by-append length (flat_map (λ (t : Texts). t) front) texts)
    ∙ omega (arith, sum_of_all modules front)

-- the texts of the first upgrades are no more than those of all
pub fewer : (modules : Texts) (upgrades : List Texts) (i : ℕ) → sum_by length (all_texts modules (take i upgrades)) ≤ sum_by length (all_texts modules upgrades)
fewer modules upgrades i =
    let split = ap (λ us. sum_by length (flat_map (λ (t : Texts). t) us)) (sym (take-append-drop i upgrades))
    ∙ ap (sum_by length) (flat_map-append (λ (t : Texts). t) (take i upgrades) (drop i upgrades))
    ∙ sum_by-append length (flat_map (λ (t : Texts). t) (take i upgrades)) (flat_map (λ (t : Texts). t) (drop i upgrades)) in
    omega (arith, split, sum_of_all modules upgrades, sum_of_all modules (take i upgrades))

-- one upgrade has longer texts than what those before it leave
pub too_much : (modules : Texts) (upgrades : List Texts) (i room : ℕ) (texts : Texts) → i < length upgrades → texts ≡ get_or upgrades i texts → sum_by length (all_texts modules (take i upgrades)) + room ≡ 2 ^ 32 - 1
    → room < sum_by length texts → false ≡ are_short (all_texts modules upgrades)
too_much modules upgrades i room texts inside is so_far long =
    let more = with_upgrade modules upgrades i texts inside is in
    let less = fewer modules upgrades (i + 1) in
    large (sum_by length (all_texts modules upgrades)) (2 ^ 32) (omega (arith, more, less, so_far, long))

-- so the texts of each version are short where all are
pub version_short : (modules : Texts) (upgrades : List Texts) (i : ℕ) → IsTrue (are_short (all_texts modules upgrades)) → IsTrue (are_short (all_texts modules (take i upgrades)))
version_short modules upgrades i short =
    let less = fewer modules upgrades i in
    let all : sum_by length (all_texts modules upgrades) < 2 ^ 32 = grind (arith, nat_tests, short) in
    sym (small (sum_by length (all_texts modules (take i upgrades))) (2 ^ 32) (omega (arith, less, all)))
