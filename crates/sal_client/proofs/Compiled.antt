-- Readers of the schemas up to one, which may be the first that has none.
use Rattle.std.proofs.Common.{◌≡◌, ℕ, zero, suc, ◌+◌, ◌-◌, ◌<◌, ◌≤◌, Bool, true, false, ◌||◌, List, [], ◌∷◌, ◌++◌, length, map, take, get_or, Option, None, Some, refl, ap, sym, ◌∙◌, subst, arith}
use Rattle.std.specs.Borrow.{Bor}
use Rattle.std.specs.Prelude.{slice_get, unwrap_or, nat_lt, is_some, IfSome}
use Rattle.std.specs.declared.alloc.Global.{Global}
use Rattle.std.specs.declared.sync.Arc.{Arc}
use Rattle.std.specs.List.{list_any}
use Rattle.std.specs.Option.{option_map_or}
use Rattle.std.proofs.lemmas.Bool.{or_from, or_left, or_parts, or_right, ltb-true, ltb-false, lt-ltb, le-ltb}
use Rattle.std.proofs.lemmas.List.{length-map, take_more}
use Rattle.sal_schema.specs.declared.table.SchemaTable.{SchemaTable}
use Rattle.sal_schema.specs.Versions.{BeginsWith, Extends}
use Rattle.sal_json.specs.Patterns.{has_malformed}
use Rattle.sal_client.specs.declared.readers.ListFault.{ListFault}
use Rattle.sal_client.specs.declared.readers.ListFault.TheVariants.{Pattern, NoMemory}
use Rattle.sal_history.specs.World.{version_from}
use Rattle.sal_script.specs.Tables.{first_among, first_in, has_domain, last_among, last_in, table_at, version_among}
use Rattle.sal_client.specs.declared.readers.ReadersFault.TheVariants as whole
use Rattle.sal_client.specs.Lists.{alone, versions_by}
use Rattle.sal_client.specs.Malformed.{are_malformed, is_malformed, shared_tables, IsFirstMalformed, IsMalformedAt, IsUnreadable}

-- one that a number names is one of all
pub any_named : {X : Type 0} (test : X → Bool) (xs : List X) (k : ℕ) → option_map_or test (slice_get xs k) false ≡ true → list_any test xs ≡ true
any_named test [] k e = cc
any_named test (x ∷ xs) zero e = or_left (test x) (list_any test xs) e
any_named test (x ∷ xs) (suc k) e = or_right (test x) (list_any test xs) (any_named test xs k e)

-- one schema more
table_here : (schemas : List (Arc SchemaTable Global)) (i : ℕ) (s : Arc SchemaTable Global) → i < length schemas → s ≡ get_or schemas i s → (i < length (shared_tables schemas)) × (get_or (shared_tables schemas) i s.value ≡ s.value)
table_here [] i s h at = absurd (omega arith)
table_here (x ∷ schemas) zero s h at = (omega arith, sym (ap (λ (y : Arc SchemaTable Global). y.value) at))
table_here (x ∷ schemas) (suc i) s h at = let rest = table_here schemas i s (omega arith) at in (omega (arith, rest.0), rest.1)

pub next_table : (schemas : List (Arc SchemaTable Global)) (i : ℕ) (s : Arc SchemaTable Global) → i < length schemas → s ≡ get_or schemas i s → take (i + 1) (shared_tables schemas) ≡ take i (shared_tables schemas) ++ s.value ∷ []
next_table schemas i s h at =
    let found = table_here schemas i s h at in
    take_more (shared_tables schemas) i s.value found.0 ∙ ap (λ (t : SchemaTable). take i (shared_tables schemas) ++ t ∷ []) found.1

pub none_more : {X : Type 0} (test : X → Bool) (xs : List X) (x : X) → list_any test xs ≡ false → test x ≡ false → list_any test (xs ++ x ∷ []) ≡ false
none_more test [] x none one = ap (λ b. b || false) one
none_more test (y ∷ xs) x none one = by (test y) (λ e. none_more test xs x e one) none
  where
    by : (b : Bool) → (list_any test xs ≡ false → list_any test (xs ++ x ∷ []) ≡ false) → (b || list_any test xs) ≡ false → (b || list_any test (xs ++ x ∷ [])) ≡ false
    by true rest e = e
    by false rest e = rest e

-- the first schema that has no reader
table_got : (schemas : List (Arc SchemaTable Global)) (i : ℕ) (s : Arc SchemaTable Global) → i < length schemas → s ≡ get_or schemas i s → slice_get (shared_tables schemas) i ≡ Some s.value
table_got [] i s h at = absurd (omega arith)
table_got (x ∷ schemas) zero s h at = ap (λ (y : Arc SchemaTable Global). Some y.value) (sym at)
table_got (x ∷ schemas) (suc i) s h at = table_got schemas i s (omega arith) at

pub first_malformed : (schemas : List (Arc SchemaTable Global)) (i : ℕ) (s : Arc SchemaTable Global) (fault : ListFault) → i < length schemas → s ≡ get_or schemas i s → IsUnreadable i s.value fault → list_any is_malformed (take i (shared_tables schemas)) ≡ false → IsFirstMalformed (shared_tables schemas) fault
first_malformed schemas i s (Pattern device) h at is none =
    let there : slice_get (shared_tables schemas) device ≡ Some s.value = ap (slice_get (shared_tables schemas)) is.0 ∙ table_got schemas i s h at in
    (ap (λ o. option_map_or is_malformed o false) there ∙ is.1, ap (λ k. list_any is_malformed (take k (shared_tables schemas))) is.0 ∙ none)
first_malformed schemas i s NoMemory h at is none = tt

-- ---- an older version

none_in_front : {X : Type 0} (test : X → Bool) (xs front : List X) → BeginsWith xs front → list_any test xs ≡ false → list_any test front ≡ false
none_in_front test xs [] e none = refl
none_in_front test [] (y ∷ front) e none = cc
none_in_front test (x ∷ xs) (y ∷ front) e none =
    let first : x ≡ y = cc in
    let rest : take (length front) xs ≡ front = cc in
    let (here, there) = or_parts (test x) (list_any test xs) none in
    or_from (test y) (list_any test front) (ap test (sym first) ∙ here) (none_in_front test xs front rest there)

-- no pattern of an older version is malformed where none of a later one is
pub older_formed : (newer older : SchemaTable) → Extends newer older → is_malformed newer ≡ false → is_malformed older ≡ false
older_formed newer older extends none = none_in_front has_malformed newer.types older.types extends.types none

-- ---- the readers of all domains

-- the devices before one
any_alone : (tables : List SchemaTable) (n : ℕ) → list_any are_malformed (take n (map alone tables)) ≡ list_any is_malformed (take n tables)
any_alone [] zero = refl
any_alone [] (suc n) = refl
any_alone (t ∷ tables) zero = refl
any_alone (t ∷ tables) (suc n) = ap (λ b. b || list_any are_malformed (take n (map alone tables))) (alone_one (is_malformed t)) ∙ ap (λ b. is_malformed t || b) (any_alone tables n)
  where
    alone_one : (b : Bool) → (b || false) ≡ b
    alone_one true = refl
    alone_one false = refl

all_alone : (tables : List SchemaTable) → list_any are_malformed (map alone tables) ≡ list_any is_malformed tables
all_alone [] = refl
all_alone (t ∷ tables) = ap (λ b. b || list_any are_malformed (map alone tables)) (alone_one (is_malformed t)) ∙ ap (λ b. is_malformed t || b) (all_alone tables)
  where
    alone_one : (b : Bool) → (b || false) ≡ b
    alone_one true = refl
    alone_one false = refl

-- no version of all is malformed
pub none_malformed : (own devices : List SchemaTable) → list_any is_malformed own ≡ false → list_any is_malformed devices ≡ false → list_any are_malformed (versions_by own devices) ≡ false
none_malformed own devices none others = ap (λ b. b || list_any are_malformed (map alone devices)) none ∙ all_alone devices ∙ others

-- a version of the controller's own domain is
pub own_malformed : (own devices : List SchemaTable) (index : ℕ) → IsFirstMalformed own (Pattern index) → IsMalformedAt (versions_by own devices) (whole.Pattern 0 index)
own_malformed own devices index first = (first, refl)

-- the schema of a device is
device_found : (devices : List SchemaTable) (index : ℕ) → option_map_or is_malformed (slice_get devices index) false ≡ true → option_map_or is_malformed (slice_get (unwrap_or (slice_get (map alone devices) index) []) 0) false ≡ true
device_found [] index e = cc
device_found (t ∷ devices) zero e = e
device_found (t ∷ devices) (suc index) e = device_found devices index e

pub device_malformed : (own devices : List SchemaTable) (index : ℕ) → list_any is_malformed own ≡ false → IsFirstMalformed devices (Pattern index) → IsMalformedAt (versions_by own devices) (whole.Pattern (index + 1) 0)
device_malformed own devices index none first =
    let next : suc index ≡ index + 1 = omega arith in
    subst (λ k. IsMalformedAt (versions_by own devices) (whole.Pattern k 0)) next
    ((device_found devices index first.0, refl), ap (λ b. b || list_any are_malformed (take index (map alone devices))) none ∙ any_alone devices index ∙ first.1)

-- ---- one reader

-- a device's
device_got : (devices : List SchemaTable) (n : ℕ) (t : SchemaTable) → n < length devices → t ≡ get_or devices n t → unwrap_or (slice_get (map alone devices) n) [] ≡ t ∷ []
device_got [] n t within is = absurd (omega (arith, within))
device_got (x ∷ devices) zero t within is = ap alone (sym is)
device_got (x ∷ devices) (suc n) t within is = device_got devices n t (omega (arith, within)) is

pub device_at : (own devices : List SchemaTable) (domain : ℕ) (t : SchemaTable) (version : ℕ) → 0 < domain → domain - 1 < length devices → t ≡ get_or devices (domain - 1) t → t ≡ table_at (versions_by own devices) version domain
device_at own devices zero t version some within is = absurd (omega (arith, some))
device_at own devices (suc n) t version some within is =
    let same : suc n - 1 ≡ n = omega arith in
    sym (ap (λ (vs : List SchemaTable). version_among vs version) (device_got devices n t (subst (λ k. k < length devices) same within) (is ∙ ap (λ (k : ℕ). get_or devices k t) same)))

pub device_last : (own devices : List SchemaTable) (domain : ℕ) (t : SchemaTable) → 0 < domain → domain - 1 < length devices → t ≡ get_or devices (domain - 1) t → t ≡ last_in (versions_by own devices) domain
device_last own devices zero t some within is = absurd (omega (arith, some))
device_last own devices (suc n) t some within is =
    let same : suc n - 1 ≡ n = omega arith in
    sym (ap last_among (device_got devices n t (subst (λ k. k < length devices) same within) (is ∙ ap (λ (k : ℕ). get_or devices k t) same)))

-- of the controller's own domain by a version
pub own_at : (t : SchemaTable) (ts : List SchemaTable) (v : ℕ) (x : SchemaTable) → v < suc (length ts) → x ≡ get_or (t ∷ ts) v x → x ≡ version_from t ts v
own_at t [] zero x within is = is
own_at t [] (suc v) x within is = absurd (omega (arith, within))
own_at t (next ∷ ts) zero x within is = is
own_at t (next ∷ ts) (suc v) x within is = own_at next ts v x (omega (arith, within)) is

own_past : (t : SchemaTable) (ts : List SchemaTable) (v : ℕ) → length ts ≤ v → version_from t ts v ≡ version_from t ts (length ts)
own_past t [] v past = refl
own_past t (next ∷ ts) zero past = absurd (omega (arith, past))
own_past t (next ∷ ts) (suc v) past = own_past next ts v (omega (arith, past))

pub version_here : (versions : List SchemaTable) (v : ℕ) (x : SchemaTable) → v < length versions → x ≡ get_or versions v x → x ≡ version_among versions v
version_here [] v x within is = absurd (omega (arith, within))
version_here (t ∷ ts) v x within is = own_at t ts v x within is

pub last_here : (versions : List SchemaTable) (x : SchemaTable) → 0 < length versions → x ≡ get_or versions (length versions - 1) x → x ≡ last_among versions
last_here [] x some is = absurd (omega (arith, some))
last_here (t ∷ ts) x some is =
    let same : length (t ∷ ts) - 1 ≡ length ts = omega arith in
    own_at t ts (length ts) x (omega arith) (is ∙ ap (λ (k : ℕ). get_or (t ∷ ts) k x) same)

pub version_past : (versions : List SchemaTable) (v : ℕ) (x : SchemaTable) → length versions ≤ v → 0 < length versions → x ≡ get_or versions (length versions - 1) x → x ≡ version_among versions v
version_past [] v x past some is = absurd (omega (arith, some))
version_past (t ∷ ts) v x past some is = last_here (t ∷ ts) x some is ∙ sym (own_past t ts v (omega (arith, past)))

pub device_first : (own devices : List SchemaTable) (domain : ℕ) (t : SchemaTable) → 0 < domain → domain - 1 < length devices → t ≡ get_or devices (domain - 1) t → t ≡ first_in (versions_by own devices) domain
device_first own devices zero t some within is = absurd (omega (arith, some))
device_first own devices (suc n) t some within is =
    let same : suc n - 1 ≡ n = omega arith in
    sym (ap first_among (device_got devices n t (subst (λ k. k < length devices) same within) (is ∙ ap (λ (k : ℕ). get_or devices k t) same)))

-- a malformed schema is one of the list
pub malformed_within : (tables : List SchemaTable) (index : ℕ) → option_map_or is_malformed (slice_get tables index) false ≡ true → index < length tables
malformed_within [] index e = cc
malformed_within (t ∷ tables) zero e = omega arith
malformed_within (t ∷ tables) (suc index) e = let less = malformed_within tables index e in omega (arith, less)

-- ---- a reader that is asked for by its domain

-- a domain that is not the controller's own is one if there are that many devices
pub has_device : (own devices : List SchemaTable) (domain : ℕ) → 0 < domain → nat_lt (domain - 1) (length devices) ≡ has_domain (versions_by own devices) domain
has_device own devices domain some = by (nat_lt (domain - 1) (length devices)) refl
  where
    same : length (map alone devices) ≡ length devices
    same = length-map devices alone

    by : (b : Bool) → nat_lt (domain - 1) (length devices) ≡ b → b ≡ has_domain (versions_by own devices) domain
    by true e = let less = ltb-true (domain - 1) (length devices) e in sym (lt-ltb domain (length (versions_by own devices)) (omega (arith, some, less, same)))
    by false e = let more = ltb-false (domain - 1) (length devices) e in sym (le-ltb domain (length (versions_by own devices)) (omega (arith, some, more, same)))

module _ (own devices : List SchemaTable) (domain : ℕ) (some : 0 < domain) where
  pub if_first : (r : Option (Bor SchemaTable)) → is_some r ≡ nat_lt (domain - 1) (length devices) → IfSome r (λ x. x.now ≡ get_or devices (domain - 1) x.now) → IfSome r (λ x. x.now ≡ first_in (versions_by own devices) domain)
  if_first None has is = tt
  if_first (Some x) has is = device_first own devices domain x.now some (ltb-true (domain - 1) (length devices) (sym has)) is

  pub if_last : (r : Option (Bor SchemaTable)) → is_some r ≡ nat_lt (domain - 1) (length devices) → IfSome r (λ x. x.now ≡ get_or devices (domain - 1) x.now) → IfSome r (λ x. x.now ≡ last_in (versions_by own devices) domain)
  if_last None has is = tt
  if_last (Some x) has is = device_last own devices domain x.now some (ltb-true (domain - 1) (length devices) (sym has)) is
