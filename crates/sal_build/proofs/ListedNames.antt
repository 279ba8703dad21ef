-- The names of enumerations and bits where no statement is faulty: no two are the same, and those of bits have numbers of their own below 64.
use Rattle.std.proofs.Common.{◌≡◌, ℕ, ◌<◌, ℤ, pos, negsuc, ◌≤ℤ◌, int_le, Bool, true, false, not, ◌&&◌, ◌==◌, nat_eq, nat_lt, nat_le, IsTrue, List, [], ◌∷◌, ◌++◌, fold, map, length, Option, Some, None, refl, sym, ap, ◌∙◌, inl, inr, arith}
use Rattle.std.specs.Prelude.{◌||◌, int_lt, unsigned_abs, unwrap_or, if◌then◌else◌}
use Rattle.std.specs.Int.{int_max}
use Rattle.std.specs.List.{list_all}
use Rattle.std.specs.Option.{option_map_or}
use Rattle.std.specs.Ordering.{int_eq}
use Rattle.std.specs.Char.{is_ascii_digit}
use Rattle.std.proofs.lemmas.Bool.{cases_Bool}
use Rattle.std.proofs.lemmas.Bool.Decides.{nat_tests}
use Rattle.std.proofs.lemmas.Cmp.{nat_eq_equiv, int_eq_equiv}
use Rattle.std.proofs.lemmas.Int.{ints}
use Rattle.sal_stmt.specs.declared.stmt.Stmt.{Stmt}
use Rattle.sal_stmt.specs.Words.{first, is_empty}
use Rattle.sal_module.specs.declared.fault.Cause.TheVariants.{BadRestriction}
use Rattle.sal_module.specs.Arguments.{decimal, is_whole}
use Rattle.sal_module.specs.Keywords.{same}
use Rattle.sal_module.specs.Profile.{at_stmt}
use Rattle.sal_module.specs.Statements.{argument_of}
use Rattle.sal_restrict.proofs.Numbers.{le_test, le_passes}
use Rattle.sal_schema.specs.Valid.{all_differ}
use Rattle.sal_schema.proofs.Conjuncts.{and_first, and_second, or_first, or_second}
use Rattle.sal_typedefs.specs.Entries.{has_form, text_of, stated, is_malformed, has_name, has_number, next, number_of, is_bad, named, entry_of, is_faulty, entries_of, entry_faults, greatest, differs_from}
use Rattle.sal_module.proofs.Initials.{same-text}
use Rattle.sal_build.proofs.Entries.{TypeEntry, TypeNumbering, bits, wrong}
use Rattle.sal_build.proofs.Differing.{differ-last, differ-more, found-passes, found-good, found-same}
use Rattle.sal_build.proofs.Distinct.{same-itself}
use Rattle.sal_build.proofs.Quiet.{both, front-nil, all-joined}

abbrev pub same_names : TypeEntry → TypeEntry → Bool
same_names a b = same a.name b.name

abbrev pub size : TypeEntry → ℕ
size e = unsigned_abs e.number

abbrev pub same_sizes : TypeEntry → TypeEntry → Bool
same_sizes a b = nat_eq (size a) (size b)

abbrev pub is_small : TypeEntry → Bool
is_small e = nat_lt (size e) 64

-- ---- one statement

quiet-here : (n : TypeNumbering) (from : Option (List TypeEntry)) (m : ℕ) (before : List TypeEntry) (stmt : Stmt) → (if is_faulty n from before stmt then at_stmt BadRestriction m stmt else []) ≡ [] → is_faulty n from before stmt ≡ false
quiet-here n from m before stmt e = elim (cases_Bool (is_faulty n from before stmt)) [ inl t ↦ (let no = rw t at e in cc) | inr f ↦ f ]

new-name : (n : TypeNumbering) (from : Option (List TypeEntry)) (before : List TypeEntry) (stmt : Stmt) → is_faulty n from before stmt ≡ false → has_name (argument_of stmt) before ≡ false
new-name n None before stmt e =
    let first_two = or_first ((has_name (argument_of stmt) before || has_number (number_of n before stmt) before) || int_lt (greatest n) (number_of n before stmt)) (is_malformed n (text_of n stmt)) e in
    let one = or_first (has_name (argument_of stmt) before || has_number (number_of n before stmt) before) (int_lt (greatest n) (number_of n before stmt)) first_two in
    or_first (has_name (argument_of stmt) before) (has_number (number_of n before stmt) before) one
new-name n (Some entries) before stmt e = or_first (has_name (argument_of stmt) before) (differs_from n (text_of n stmt) (named (argument_of stmt) entries)) e

chosen-name : (entries : List TypeEntry) (name : List ℕ) (found : Option TypeEntry) → named name entries ≡ found → (unwrap_or found (record { name = name; number = pos 0 })).name ≡ name
chosen-name entries name None e = refl
chosen-name entries name (Some entry) e = same-text entry.name name (found-passes (λ (e : TypeEntry). same e.name name) entries entry e)

pub entry-name : (n : TypeNumbering) (from : Option (List TypeEntry)) (before : List TypeEntry) (stmt : Stmt) → (entry_of n from before stmt).name ≡ argument_of stmt
entry-name n None before stmt = refl
entry-name n (Some entries) before stmt = chosen-name entries (argument_of stmt) (named (argument_of stmt) entries) refl

-- ---- their names

pub names-apart : (n : TypeNumbering) (from : Option (List TypeEntry)) (m : ℕ) (before : List TypeEntry) (stmts : List Stmt) → IsTrue (all_differ same_names before) → entry_faults n from m before stmts ≡ []
    → IsTrue (all_differ same_names (entries_of n from before stmts))
names-apart n from m before [] h e = h
names-apart n from m before (stmt ∷ stmts) h e =
    let (here, rest) = front-nil (if is_faulty n from before stmt then at_stmt BadRestriction m stmt else []) (entry_faults n from m (before ++ entry_of n from before stmt ∷ []) stmts) e in
    let fresh = ap (λ name. has_name name before) (entry-name n from before stmt) ∙ new-name n from before stmt (quiet-here n from m before stmt here) in
    names-apart n from m (before ++ entry_of n from before stmt ∷ []) stmts (differ-last same_names before (entry_of n from before stmt) h fresh) rest

-- ---- the numbers of bits of their own

abbrev is_low : TypeEntry → Bool
is_low e = int_le (pos 0) e.number && int_le e.number (pos 63)

abbrev same_numbers : TypeEntry → TypeEntry → Bool
same_numbers a b = int_eq a.number b.number

max-above : (x : ℤ) (ys : List ℤ) → pos 0 ≤ℤ x → pos 0 ≤ℤ fold int_max x ys
max-above x [] h = h
max-above x (y ∷ ys) h = elim (cases_Bool (int_lt y x)) [
  | inl t ↦ rw t (max-above x ys h)
  | inr f ↦ rw f (max-above y ys (let more : x ≤ℤ y = grind (arith, ints) in omega (arith, ints)))
]

next-low : (before : List TypeEntry) → IsTrue (list_all is_low before) → pos 0 ≤ℤ next before
next-low [] h = omega (arith, ints)
next-low (e ∷ before) h =
    let first = and_first (int_le (pos 0) e.number) (int_le e.number (pos 63)) (and_first (is_low e) (list_all is_low before) h) in
    let low = le_test (pos 0) e.number first in
    let most = max-above e.number (map (λ (e : TypeEntry). e.number) before) low in
    omega (arith, ints)

no-sign : (t : List ℕ) → is_whole t ≡ true → (first t == 45) ≡ false
no-sign [] e = cc
no-sign (c ∷ t) e =
    let digits = and_first (not (is_empty (c ∷ t)) && list_all is_ascii_digit (c ∷ t)) (length (c ∷ t) == 1 || not (first (c ∷ t) == 48)) e in
    let all = and_second (not (is_empty (c ∷ t))) (list_all is_ascii_digit (c ∷ t)) digits in
    let one = and_first (is_ascii_digit c) (list_all is_ascii_digit t) all in
    let low : IsTrue (nat_le 48 c) = and_first (nat_le 48 c) (nat_le c 57) one in
    grind (arith, nat_tests)

stated-low : (text : Option (List ℕ)) (other : ℤ) → is_malformed bits text ≡ false → pos 0 ≤ℤ other → pos 0 ≤ℤ unwrap_or (stated bits text) other
stated-low None other e h = h
stated-low (Some t) other e h = elim (cases_Bool (has_form bits t)) [
  | inl good ↦
      let sign = no-sign t (and_first (is_whole t) (nat_le (decimal t) 63) good) in
      rw (good, sign) (omega (arith, ints))
  | inr bad ↦ let no = rw bad at e in cc
]

module _ (m : ℕ) where
  own-low : (before : List TypeEntry) (stmt : Stmt) → IsTrue (list_all is_low before) → is_bad bits before stmt ≡ false → IsTrue (is_low (entry_of bits None before stmt))
  own-low before stmt h e =
      let number = number_of bits before stmt in
      let bad = or_first ((has_name (argument_of stmt) before || has_number number before) || int_lt (greatest bits) number) (is_malformed bits (text_of bits stmt)) e in
      let formed = or_second ((has_name (argument_of stmt) before || has_number number before) || int_lt (greatest bits) number) (is_malformed bits (text_of bits stmt)) e in
      let past : int_lt (pos 63) number ≡ false = or_second (has_name (argument_of stmt) before || has_number number before) (int_lt (greatest bits) number) bad in
      let low : pos 0 ≤ℤ number = stated-low (text_of bits stmt) (next before) formed (next-low before h) in
      let high : number ≤ℤ pos 63 = grind (arith, ints) in
      both (int_le (pos 0) number) (int_le number (pos 63)) (le_passes (pos 0) number low) (le_passes number (pos 63) high)

  own-new : (before : List TypeEntry) (stmt : Stmt) → is_bad bits before stmt ≡ false → has_number (number_of bits before stmt) before ≡ false
  own-new before stmt e =
      let number = number_of bits before stmt in
      let bad = or_first ((has_name (argument_of stmt) before || has_number number before) || int_lt (greatest bits) number) (is_malformed bits (text_of bits stmt)) e in
      or_second (has_name (argument_of stmt) before) (has_number number before) (or_first (has_name (argument_of stmt) before || has_number number before) (int_lt (greatest bits) number) bad)

  own-numbers : (before : List TypeEntry) (stmts : List Stmt) → IsTrue (list_all is_low before) → IsTrue (all_differ same_numbers before) → entry_faults bits None m before stmts ≡ []
      → IsTrue (list_all is_low (entries_of bits None before stmts)) × IsTrue (all_differ same_numbers (entries_of bits None before stmts))
  own-numbers before [] low h e = (low, h)
  own-numbers before (stmt ∷ stmts) low h e =
      let entry = entry_of bits None before stmt in
      let (here, rest) = front-nil (if is_faulty bits None before stmt then at_stmt BadRestriction m stmt else []) (entry_faults bits None m (before ++ entry ∷ []) stmts) e in
      let good = quiet-here bits None m before stmt here in
      own-numbers (before ++ entry ∷ []) stmts (all-joined is_low before (entry ∷ []) low (both (is_low entry) true (own-low before stmt low good) refl)) (differ-last same_numbers before entry h (own-new before stmt good)) rest

low-sizes : (a b : TypeEntry) → IsTrue (is_low a) → IsTrue (is_low b) → same_sizes a b ≡ true → same_numbers a b ≡ true
low-sizes a b h k e =
    let la = and_first (int_le (pos 0) a.number) (int_le a.number (pos 63)) h in
    let lb = and_first (int_le (pos 0) b.number) (int_le b.number (pos 63)) k in
    let is : a.number ≡ b.number = sizes a.number b.number la lb e in
    ap (λ n. int_eq n b.number) is ∙ int_eq_equiv.refl b.number
  where
    sizes : (x y : ℤ) → IsTrue (int_le (pos 0) x) → IsTrue (int_le (pos 0) y) → nat_eq (unsigned_abs x) (unsigned_abs y) ≡ true → x ≡ y
    sizes (pos x) (pos y) h k e = let alike : nat_eq x y ≡ true = e in let is : x ≡ y = grind (arith, nat_tests) in ap pos is
    sizes (pos x) (negsuc y) h k e = absurd (wrong k)
    sizes (negsuc x) y h k e = absurd (wrong h)

low-small : (entries : List TypeEntry) → IsTrue (list_all is_low entries) → IsTrue (list_all is_small entries)
low-small [] h = refl
low-small (e ∷ entries) h =
    let here = and_first (is_low e) (list_all is_low entries) h in
    both (is_small e) (list_all is_small entries) (small e.number (and_first (int_le (pos 0) e.number) (int_le e.number (pos 63)) here) (and_second (int_le (pos 0) e.number) (int_le e.number (pos 63)) here))
    (low-small entries (and_second (is_low e) (list_all is_low entries) h))
  where
    small : (x : ℤ) → IsTrue (int_le (pos 0) x) → IsTrue (int_le x (pos 63)) → IsTrue (nat_lt (unsigned_abs x) 64)
    small (pos x) h k = let few = le_test (pos x) (pos 63) k in let less : x < 64 = omega (arith, ints) in grind (arith, nat_tests)
    small (negsuc x) h k = absurd (wrong h)

-- bits of their own
pub own-bits : (m : ℕ) (stmts : List Stmt) → entry_faults bits None m [] stmts ≡ [] → IsTrue (list_all is_small (entries_of bits None [] stmts)) × IsTrue (all_differ same_sizes (entries_of bits None [] stmts))
own-bits m stmts e =
    let (low, apart) = own-numbers m [] stmts refl refl e in
    (low-small (entries_of bits None [] stmts) low, differ-more same_sizes same_numbers is_low low-sizes (entries_of bits None [] stmts) low apart)

-- ---- names that another type has

-- the other type has its name, with a number of the same size
abbrev pub is_of : List TypeEntry → TypeEntry → Bool
is_of entries e = option_map_or (λ (f : TypeEntry). same_sizes f e) (named e.name entries) false

pub of-found : (entries : List TypeEntry) (e : TypeEntry) → IsTrue (is_of entries e) → (f : TypeEntry) × (named e.name entries ≡ Some f) × (nat_eq (size f) (size e) ≡ true)
of-found entries e h =
    elim (named e.name entries) as (λ o. named e.name entries ≡ o → IsTrue (option_map_or (λ (f : TypeEntry). same_sizes f e) o false) → (f : TypeEntry) × (named e.name entries ≡ Some f) × (nat_eq (size f) (size e) ≡ true)) [
      | None ↦ λ at h. absurd (let wrong : false ≡ true = h in cc)
      | Some f ↦ λ at h. (f, at, h)
    ] refl h

chosen-of : (n : TypeNumbering) (entries : List TypeEntry) (name : List ℕ) (text : Option (List ℕ)) (found : Option TypeEntry) → named name entries ≡ found → differs_from n text found ≡ false
    → IsTrue (is_of entries (unwrap_or found (record { name = name; number = pos 0 })))
chosen-of n entries name text None at e = absurd (let no : true ≡ false = e in cc)
chosen-of n entries name text (Some entry) at e =
    let is : entry.name ≡ name = same-text entry.name name (found-passes (λ (e : TypeEntry). same e.name name) entries entry at) in
    let found : named entry.name entries ≡ Some entry = ap (λ t. named t entries) is ∙ at in
    let itself : same_sizes entry entry ≡ true = grind (arith, nat_tests) in
    rw found itself

pub chosen-all : (n : TypeNumbering) (entries : List TypeEntry) (m : ℕ) (before : List TypeEntry) (stmts : List Stmt) → IsTrue (list_all (is_of entries) before) → entry_faults n (Some entries) m before stmts ≡ []
    → IsTrue (list_all (is_of entries) (entries_of n (Some entries) before stmts))
chosen-all n entries m before [] h e = h
chosen-all n entries m before (stmt ∷ stmts) h e =
    let entry = entry_of n (Some entries) before stmt in
    let (here, rest) = front-nil (if is_faulty n (Some entries) before stmt then at_stmt BadRestriction m stmt else []) (entry_faults n (Some entries) m (before ++ entry ∷ []) stmts) e in
    let good = or_second (has_name (argument_of stmt) before) (differs_from n (text_of n stmt) (named (argument_of stmt) entries)) (quiet-here n (Some entries) m before stmt here) in
    chosen-all n entries m (before ++ entry ∷ []) stmts
    (all-joined (is_of entries) before (entry ∷ []) h (both (is_of entries entry) true (chosen-of n entries (argument_of stmt) (text_of n stmt) (named (argument_of stmt) entries) refl good) refl)) rest

of-small : (entries : List TypeEntry) → IsTrue (list_all is_small entries) → (chosen : List TypeEntry) → IsTrue (list_all (is_of entries) chosen) → IsTrue (list_all is_small chosen)
of-small entries all [] h = refl
of-small entries all (e ∷ chosen) h =
    let (f, at, alike) = of-found entries e (and_first (is_of entries e) (list_all (is_of entries) chosen) h) in
    let small = found-good (λ (g : TypeEntry). same g.name e.name) is_small entries f all at in
    let here : IsTrue (is_small e) = grind (arith, nat_tests) in
    both (is_small e) (list_all is_small chosen) here (of-small entries all chosen (and_second (is_of entries e) (list_all (is_of entries) chosen) h))

of-sizes : (entries : List TypeEntry) → IsTrue (all_differ same_sizes entries) → (a b : TypeEntry) → IsTrue (is_of entries a) → IsTrue (is_of entries b) → same_sizes a b ≡ true → same_names a b ≡ true
of-sizes entries apart a b h k e =
    let (f, at_a, alike_a) = of-found entries a h in
    let (g, at_b, alike_b) = of-found entries b k in
    let alike : same_sizes f g ≡ true = grind (arith, nat_tests) in
    let is = found-same same_sizes turn (λ (x : TypeEntry). same x.name a.name) (λ (x : TypeEntry). same x.name b.name) entries f g apart at_a at_b alike in
    let name_a = same-text f.name a.name (found-passes (λ (x : TypeEntry). same x.name a.name) entries f at_a) in
    let name_b = same-text g.name b.name (found-passes (λ (x : TypeEntry). same x.name b.name) entries g at_b) in
    let one : a.name ≡ b.name = sym name_a ∙ ap (λ (x : TypeEntry). x.name) is ∙ name_b in
    ap (λ t. same t b.name) one ∙ same-itself b.name
  where
    turn : (x y : TypeEntry) → same_sizes x y ≡ same_sizes y x
    turn x y = nat_eq_equiv.symm (size x) (size y)

-- bits of another type
pub chosen-bits : (m : ℕ) (entries : List TypeEntry) (stmts : List Stmt) → IsTrue (list_all is_small entries) → IsTrue (all_differ same_sizes entries) → entry_faults bits (Some entries) m [] stmts ≡ []
    → IsTrue (list_all is_small (entries_of bits (Some entries) [] stmts)) × IsTrue (all_differ same_sizes (entries_of bits (Some entries) [] stmts))
chosen-bits m entries stmts small apart e =
    let chosen = entries_of bits (Some entries) [] stmts in
    let of = chosen-all bits entries m [] stmts refl e in
    (of-small entries small chosen of, differ-more same_sizes same_names (is_of entries) (of-sizes entries apart) chosen of (names-apart bits (Some entries) m [] stmts refl e))
