-- Tables: lists whose element at each place is a function of the place.
use Rattle.std.proofs.Common.{◌≡◌, ℕ, ◌+◌, ◌<◌, List, ◌++◌, length, take, get_or, Bool, Option, Some, None, is_some, if◌then◌else◌, refl, ◌∙◌, sym, ap, arith}
use Rattle.std.specs.List.{position_from}
use Rattle.std.proofs.lemmas.List.Sums.{fold-append}
use Rattle.sal_module.specs.declared.fault.Found.{Found}
use Rattle.sal_module.specs.Faults.{least, better}
use Rattle.sal_types.proofs.Lists.{position_from-last}
pub use Rattle.sal_types.proofs.Lists.{table-holds, table-last}
pub use Rattle.sal_module.proofs.Numbered.{numbered, numbered-take, least_more}
use Rattle.std.proofs.lemmas.List.{take_more, length-take}

-- ---- first places

pub position_from-take : {X : Type 0} (p : X → Bool) (xs : List X) (i : ℕ) (d : X) → i < length xs
    → position_from p 0 (take (i + 1) xs) ≡ (if is_some (position_from p 0 (take i xs)) then position_from p 0 (take i xs) else if p (get_or xs i d) then Some i else None)
position_from-take p xs i d h =
    let here : 0 + length (take i xs) ≡ i = omega (arith, length-take i xs) in
    ap (position_from p 0) (take_more xs i d h) ∙ position_from-last p 0 (take i xs) (get_or xs i d) ∙ rw here refl

-- ---- the least fault

pub least-two : (best : Option Found) (xs ys : List Found) → least (least best xs) ys ≡ least best (xs ++ ys)
least-two best xs ys = sym (fold-append better best xs ys)
