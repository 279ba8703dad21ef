-- The bounds of a range's text (RFC 7950 section 14, range-boundary and length-boundary).
use Rattle.std.specs.Prelude.{ℕ, ◌+◌, ◌-◌, ◌*◌, ◌^◌, ℤ, pos, neg_ℤ, Bool, true, false, not, ◌&&◌, ◌==◌, nat_lt, nat_le, List, fold, length, take, drop, slice_index, Option, Some, None, option_map, if◌then◌else◌, codes}
use Rattle.std.specs.List.{list_all}
use Rattle.std.specs.Char.{is_ascii_digit}
use Rattle.sal_restrict.specs.declared.ranges.Part.{Part}
use Rattle.sal_restrict.specs.Words.{same, place_of}

-- one or more decimal digits
abbrev pub is_digits : List ℕ → Bool
is_digits t = not (length t == 0) && list_all is_ascii_digit t

-- the value of digits
abbrev pub decimal : List ℕ → ℕ
decimal t = fold (λ n c. 10 * n + (c - 48)) 0 t

-- the number with these digits before its point and those after it, times 10 to the power of `digits`
abbrev pub units : ℕ → List ℕ → List ℕ → ℕ
units digits whole further = decimal whole * 10 ^ digits + decimal further * 10 ^ (digits - length further)

abbrev pub with_point : ℕ → List ℕ → List ℕ → Option ℕ
with_point digits whole further =
    if (is_digits whole && is_digits further) && nat_le (length further) digits then Some (units digits whole further) else None

abbrev pub without_point : ℕ → List ℕ → Option ℕ
without_point digits whole = if is_digits whole then Some (decimal whole * 10 ^ digits) else None

-- a number without a sign, times 10 to the power of `digits`
abbrev pub magnitude : ℕ → List ℕ → Option ℕ
magnitude digits t =
    if nat_lt (place_of (codes ".") t) (length t)
    then with_point digits (take (place_of (codes ".") t) t) (drop (place_of (codes ".") t + 1) t)
    else without_point digits t

abbrev pub signed : Bool → ℕ → ℤ
signed true n = neg_ℤ (pos n)
signed false n = pos n

-- a `-` before the digits, or none
abbrev pub written : ℕ → List ℕ → Option ℤ
written digits t =
    if slice_index t 0 == 45 then option_map (signed true) (magnitude digits (drop 1 t)) else option_map (signed false) (magnitude digits t)

-- the number of a bound; `min` and `max` are the ends of `outer`
abbrev pub bound : ℕ → Part → List ℕ → Option ℤ
bound digits outer t =
    if same t (codes "min") then Some outer.low else if same t (codes "max") then Some outer.high else written digits t
