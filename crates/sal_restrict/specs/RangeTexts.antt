-- The meaning of the text of a range or a length (RFC 7950 sections 9.2.4 and 9.4.4).
use Rattle.std.specs.Prelude.{ℕ, ◌+◌, ℤ, not, ◌==◌, nat_lt, List, [], ◌∷◌, length, take, drop, Option, Some, None, Result, Ok, Err, if◌then◌else◌, codes}
use Rattle.std.specs.List.{list_all, slice_split}
use Rattle.sal_restrict.specs.declared.ranges.Part.{Part}
use Rattle.sal_restrict.specs.declared.fault.RangeFault.{RangeFault}
use Rattle.sal_restrict.specs.declared.fault.RangeFault.TheVariants.{BadText, Wider}
use Rattle.sal_restrict.specs.Ranges.{is_ascending, covers, outer}
use Rattle.sal_restrict.specs.Words.{trim, is_trimmed, place_of}
use Rattle.sal_restrict.specs.Bounds.{bound}

-- the part between two bounds
abbrev pub between : Option ℤ → Option ℤ → Option Part
between (Some low) (Some high) = Some (record { low = low; high = high })
between low high = None

-- a bound, or two with `..` between them, which may have white space around it
abbrev pub part : ℕ → Part → List ℕ → Option Part
part digits outer t =
    if nat_lt (place_of (codes "..") t) (length t)
    then between (bound digits outer (trim (take (place_of (codes "..") t) t))) (bound digits outer (trim (drop (place_of (codes "..") t + 2) t)))
    else between (bound digits outer (trim t)) (bound digits outer (trim t))

abbrev pub onto : Option Part → Option (List Part) → Option (List Part)
onto (Some one) (Some more) = Some (one ∷ more)
onto one more = None

abbrev pub parts : ℕ → Part → List (List ℕ) → Option (List Part)
parts digits outer [] = Some []
parts digits outer (t ∷ ts) = onto (part digits outer t) (parts digits outer ts)

-- Parts out of order have no meaning. Those in order must be within `within`.
abbrev pub judged : List Part → Option (List Part) → Result (List Part) RangeFault
judged within None = Err BadText
judged within (Some parts) =
    if not (is_ascending parts) then Err BadText else if list_all (covers within) parts then Ok parts else Err Wider

-- White space may be around `|` too, but not at the ends of the text.
abbrev pub read_ranges : List ℕ → List Part → ℕ → Result (List Part) RangeFault
read_ranges t within digits =
    if is_trimmed t then judged within (parts digits (outer within) (slice_split (λ c. c == 124) t)) else Err BadText
