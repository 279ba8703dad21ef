-- Numbers as texts (RFC 7951 section 6.1, RFC 7950 sections 9.2.1 and 9.3.1).
use Rattle.std.specs.Prelude.{ℕ, zero, suc, ◌+◌, ◌/◌, ◌%◌, ℤ, pos, negsuc, int_le, Bool, true, false, not, ◌&&◌, ◌||◌, ◌==◌, nat_lt, List, [], ◌∷◌, ◌++◌, length, take, drop, slice_index, Result, Ok, Err, if◌then◌else◌, decimal as digits_of}
use Rattle.std.specs.List.{list_all, list_any, before_first, after_first}
use Rattle.sal_types.specs.declared.value.Atom.{Atom}
use Rattle.sal_types.specs.declared.value.Atom.TheVariants.{Signed, Unsigned, Dec}
use Rattle.sal_restrict.specs.declared.ranges.Part.{Part}
use Rattle.sal_restrict.specs.Bounds.{is_digits, decimal, units, signed}
use Rattle.sal_restrict.specs.Ranges.{holds}
use Rattle.sal_json.specs.declared.fault.ScalarFault.{ScalarFault}
use Rattle.sal_json.specs.declared.fault.ScalarFault.TheVariants.{WrongKind, OutOfRange}

-- ---- signs

abbrev pub has_minus : List ℕ → Bool
has_minus t = slice_index t 0 == 45

abbrev pub has_plus : List ℕ → Bool
has_plus t = slice_index t 0 == 43

-- without the sign in front, if there is one
abbrev pub without_sign : List ℕ → List ℕ
without_sign t = if has_minus t || has_plus t then drop 1 t else t

-- without the minus in front, if there is one
abbrev pub without_minus : List ℕ → List ℕ
without_minus t = if has_minus t then drop 1 t else t

-- ---- whole numbers

-- the number in a type of 64 bits, with a sign or without
abbrev pub is_in_64 : ℤ → Bool
is_in_64 z = int_le (negsuc 9223372036854775807) z && int_le z (pos 9223372036854775807)

-- the value of a whole number in an integer type
abbrev pub whole_atom : Bool → List Part → ℤ → Result Atom ScalarFault
whole_atom true range z = if is_in_64 z && holds range z then Ok (Signed z) else Err OutOfRange
whole_atom false range (pos n) = if nat_lt n 18446744073709551616 && holds range (pos n) then Ok (Unsigned n) else Err OutOfRange
whole_atom false range (negsuc n) = Err OutOfRange

-- a sign or none, and digits
abbrev pub is_whole : List ℕ → Bool
is_whole t = is_digits (without_sign t)

abbrev pub number_of : List ℕ → ℤ
number_of t = signed (has_minus t) (decimal (without_sign t))

abbrev pub begins_with_zero : List ℕ → Bool
begins_with_zero t = slice_index t 0 == 48

-- `0`, or digits that begin with another one; a minus may precede them
abbrev pub is_strict : List ℕ → Bool
is_strict t = (length t == 1 && begins_with_zero t) || (is_digits (without_minus t) && not (begins_with_zero (without_minus t)))

-- types of 64 bits take any sign and any leading zeros, the others only the one spelling of a number
abbrev pub is_number : ℕ → List ℕ → Bool
is_number bits t = if bits == 64 then is_whole t else is_strict t

-- the value of a text in an integer type
abbrev pub int_atom : ℕ → Bool → List Part → List ℕ → Result Atom ScalarFault
int_atom bits sign range t = if is_number bits t then whole_atom sign range (number_of t) else Err WrongKind

-- ---- decimal numbers

abbrev pub is_point : ℕ → Bool
is_point c = c == 46

abbrev pub has_point : List ℕ → Bool
has_point t = list_any is_point t

-- the digits before the point, and those after it: none without a point
abbrev pub whole_digits : List ℕ → List ℕ
whole_digits t = before_first is_point t

abbrev pub further_digits : List ℕ → List ℕ
further_digits t = after_first is_point t

-- digits, and a point with further ones
abbrev pub is_decimal : List ℕ → Bool
is_decimal t = is_digits (whole_digits t) && (not (has_point t) || is_digits (further_digits t))

-- the first `digits` digits, and the rest
abbrev pub first_of : ℕ → List ℕ → List ℕ
first_of digits t = take digits t

abbrev pub rest_of : ℕ → List ℕ → List ℕ
rest_of digits t = drop digits t

-- the digits after the point beyond the first `digits` are zeros
abbrev pub is_exact : ℕ → List ℕ → Bool
is_exact digits t = list_all (λ c. c == 48) (rest_of digits (further_digits t))

-- the number times 10 to the power of `digits`
abbrev pub units_of : ℕ → List ℕ → ℕ
units_of digits t = units digits (whole_digits t) (first_of digits (further_digits t))

abbrev pub units_atom : ℕ → List Part → ℤ → Result Atom ScalarFault
units_atom digits range z = if is_in_64 z && holds range z then Ok (Dec z digits) else Err OutOfRange

-- the value of a text in a type of decimal numbers: the form, then the further digits, then the range
abbrev pub dec_atom : ℕ → List Part → List ℕ → Result Atom ScalarFault
dec_atom digits range t =
    if not (is_decimal (without_sign t)) then Err WrongKind
    else if is_exact digits (without_sign t) then units_atom digits range (signed (has_minus t) (units_of digits (without_sign t)))
    else Err OutOfRange

-- ---- written

-- the digits of a number with a point before the last `digits`
abbrev pub with_point : ℕ → ℕ → List ℕ
with_point zero n = digits_of n ++ 46 ∷ []
with_point (suc digits) n = with_point digits (n / 10) ++ (48 + n % 10) ∷ []

-- a number of units: a zero at the end is left out, unless it is the only digit after the point
abbrev pub point_text : ℕ → ℕ → List ℕ
point_text zero n = with_point 0 n
point_text (suc zero) n = with_point 1 n
point_text (suc (suc digits)) n = if n % 10 == 0 then point_text (suc digits) (n / 10) else with_point (suc (suc digits)) n

abbrev pub dec_text : ℕ → ℤ → List ℕ
dec_text digits (pos n) = point_text digits n
dec_text digits (negsuc n) = 45 ∷ point_text digits (suc n)
