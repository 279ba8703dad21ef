-- Domains with trees that are given for them.
use Rattle.std.proofs.Common.{◌≡◌, ◌&&◌, ℕ, ◌+◌, ◌<◌, ◌≤◌, zero, suc, true, List, [], ◌∷◌, drop, take, length, map, get_or, Option, None, Some, Result, Ok, Err, refl, ap, sym, ◌∙◌, subst, arith, IsTrue}
use Rattle.std.specs.Prelude.{slice_get, slice_set}
use Rattle.std.proofs.lemmas.Bool.{and_parts}
use Rattle.std.proofs.lemmas.Option.{none-some, same_Some}
use Rattle.sal_rows.specs.declared.clash.Rules.{Rules}
use Rattle.sal_schema.specs.declared.table.SchemaTable.{SchemaTable}
use Rattle.sal_schema.specs.Fitting.{is_closed}
use Rattle.sal_history.specs.declared.opening.Device.{Device}
use Rattle.sal_history.specs.declared.opening.Opening.{Opening}
use Rattle.sal_history.specs.World.{AreVersions, Domain, IsChain}
use Rattle.sal_history_laws.specs.Logs.{AreSound, IsSound}
use Rattle.sal_hub.specs.Openings.{domain_of, world_of}
use Rattle.sal_script.specs.Tables.{first_among, versions_of}
use Rattle.sal_client.specs.Lists.{begun_with}
use Rattle.sal_prepare.specs.Resumed.{are_fitting, is_fitting, with_opening, with_opening_at, with_openings, with_own}
use Rattle.sal_prepare.specs.Scripted.{IsStatusOf}
use Rattle.sal_prepare.specs.declared.status.Status.{Status}
use Rattle.sal_prepare.specs.declared.status.Status.TheVariants.{BadOpening, BadSchema, BadScript, NoMemory}
use Rattle.sal_versions.proofs.Bound.{same_ok}
use Rattle.sal_prepare.proofs.SoundWorlds.{both_closed}

-- ---- what is given

pub none_given : (ds : List Domain) → with_openings ds (None ∷ []) ≡ ds
none_given [] = refl
none_given (d ∷ ds) = refl

-- one more is given
pub next_given : (ds : List Domain) (given : List (Option Opening)) (i : ℕ) (o : Option Opening) → slice_get given i ≡ Some o → with_opening_at (with_openings ds (take i given)) i o ≡ with_openings ds (take (suc i) given)
next_given ds [] i o at = absurd (none-some o at)
next_given [] (x ∷ given) zero o at = refl
next_given [] (x ∷ given) (suc i) o at = refl
next_given (d ∷ ds) (x ∷ given) zero o at = ap (λ (p : Option Opening). with_opening d p ∷ ds) (sym (same_Some x o at))
next_given (d ∷ ds) (x ∷ given) (suc i) o at = ap (λ (rest : List Domain). with_opening d x ∷ rest) (next_given ds given i o at)

-- the same behind a first domain, for which nothing is given
pub next_device : (ds : List Domain) (given : List (Option Opening)) (i : ℕ) (o : Option Opening) → slice_get given i ≡ Some o
    → with_opening_at (with_openings ds (None ∷ take i given)) (i + 1) o ≡ with_openings ds (None ∷ take (i + 1) given)
next_device ds given i o at =
    let same : suc i ≡ i + 1 = omega (arith) in
    subst (λ j. with_opening_at (with_openings ds (None ∷ take i given)) j o ≡ with_openings ds (None ∷ take j given)) same (next_given ds (None ∷ given) (suc i) o at)

-- what is behind an element stays when that is set
pub behind_set : {A : Type 0} (xs : List A) (i k : ℕ) (y : A) → i < k → slice_get (slice_set xs i y) k ≡ slice_get xs k
behind_set [] i k y past = refl
behind_set (x ∷ xs) zero zero y past = absurd (omega (arith, past))
behind_set (x ∷ xs) zero (suc k) y past = refl
behind_set (x ∷ xs) (suc i) zero y past = absurd (omega (arith, past))
behind_set (x ∷ xs) (suc i) (suc k) y past = behind_set xs i k y (omega (arith, past))

pub nothing_at : (ds : List Domain) (n : ℕ) → ds ≡ with_opening_at ds n None
nothing_at [] n = refl
nothing_at (d ∷ ds) zero = refl
nothing_at (d ∷ ds) (suc n) = ap (λ (rest : List Domain). d ∷ rest) (nothing_at ds n)

pub past_all : (ds : List Domain) (n : ℕ) (o : Option Opening) → length ds ≤ n → ds ≡ with_opening_at ds n o
past_all [] n o past = refl
past_all (d ∷ ds) zero o past = absurd (omega (arith, past))
past_all (d ∷ ds) (suc n) o past = ap (λ (rest : List Domain). d ∷ rest) (past_all ds n o (omega (arith, past)))

pub put_at : (rules : Rules) (devices : List Device) (n : ℕ) (device : Device) (o : Opening) → n < length devices → device ≡ get_or devices n device
    → world_of rules (slice_set devices n (record device { opening = o })) ≡ with_opening_at (world_of rules devices) n (Some o)
put_at rules [] n device o within is = absurd (omega (arith, within))
put_at rules (x ∷ devices) zero device o within is = ap (λ (y : Device). domain_of rules (record y { opening = o }) ∷ world_of rules devices) is
put_at rules (x ∷ devices) (suc n) device o within is = ap (λ (rest : List Domain). domain_of rules x ∷ rest) (put_at rules devices n device o (omega (arith, within)) is)

-- ---- the own domain before those that are made

pub given_after : (own : Domain) (given : List (Option Opening)) (others : Result (List Domain) Status) (ds : List Domain) → with_own own [] others ≡ Ok ds
    → with_own own given others ≡ Ok (with_openings ds (None ∷ given))
given_after own given (Ok more) ds made = ap (λ (w : List Domain). let r : Result (List Domain) Status = Ok (with_openings w (None ∷ given)) in r) (same_ok made)
given_after own given (Err e) ds made = cc

pub given_fault : (own : Domain) (given : List (Option Opening)) (others : Result (List Domain) Status) (status : Status) → IsStatusOf (with_own own [] others) status
    → IsStatusOf (with_own own given others) status
given_fault own given (Err e) status is = is
given_fault own given (Ok more) NoMemory is = tt
given_fault own given (Ok more) (BadScript place) is = cc
given_fault own given (Ok more) (BadSchema n text) is = cc
given_fault own given (Ok more) (BadOpening text) is = cc
given_fault own given (Ok more) status is = absurd is

-- ---- what stays of the domains

pub as_many : (ds : List Domain) (given : List (Option Opening)) → length (with_openings ds given) ≡ length ds
as_many ds [] = refl
as_many [] (o ∷ given) = refl
as_many (d ∷ ds) (o ∷ given) = ap suc (as_many ds given)

same_table : (d : Domain) (o : Option Opening) → (with_opening d o).table ≡ d.table
same_table d None = refl
same_table d (Some o) = refl

same_upgrades : (d : Domain) (o : Option Opening) → (with_opening d o).upgrades ≡ d.upgrades
same_upgrades d None = refl
same_upgrades d (Some o) = refl

pub same_versions : (ds : List Domain) (given : List (Option Opening)) → versions_of (with_openings ds given) ≡ versions_of ds
same_versions ds [] = refl
same_versions [] (o ∷ given) = refl
same_versions (d ∷ ds) (o ∷ given) = λ i. (same_table d o i ∷ same_upgrades d o i) ∷ same_versions ds given i

-- the domain of a number has the versions that it had
was_at : (ds : List Domain) (given : List (Option Opening)) (k : ℕ) (now : Domain) → slice_get (with_openings ds given) k ≡ Some now
    → (d : Domain) × (slice_get ds k ≡ Some d) × (now.table ≡ d.table) × (now.upgrades ≡ d.upgrades)
was_at ds [] k now at = (now, at, refl, refl)
was_at [] (o ∷ given) k now at = absurd (none-some now at)
was_at (d ∷ ds) (o ∷ given) zero now at =
    let is = same_Some (with_opening d o) now at in
    (d, refl, sym (ap (λ (x : Domain). x.table) is) ∙ same_table d o, sym (ap (λ (x : Domain). x.upgrades) is) ∙ same_upgrades d o)
was_at (d ∷ ds) (o ∷ given) (suc k) now at = was_at ds given k now at

pub versions_stay : (ds : List Domain) (given : List (Option Opening)) → AreVersions ds → AreVersions (with_openings ds given)
versions_stay ds given is = record {
  chain = λ k now at.
      let (d, before, table, upgrades) = was_at ds given k now at in
      subst (λ (t : SchemaTable). IsChain t now.upgrades) (sym table) (subst (λ (us : List SchemaTable). IsChain d.table us) (sym upgrades) (is.chain k d before));
  only = λ k now at.
      let (d, before, table, upgrades) = was_at ds given (suc k) now at in
      upgrades ∙ is.only k d before;
}

-- ---- trees that fit

one_sound : (d : Domain) (o : Option Opening) → IsSound d → is_fitting d.table o ≡ true → IsSound (with_opening d o)
one_sound d None is fits = is
one_sound d (Some o) is fits =
    let both = and_parts (is_closed d.table o.config) (is_closed d.table o.oper) fits in
    record { tables = is.tables; chain = is.chain; opening = both_closed d.table o both.0 both.1 }

one_more : (d : Domain) (ds : List Domain) → IsSound d → AreSound ds → AreSound (d ∷ ds)
one_more d ds first others zero x at = subst IsSound (same_Some d x at) first
one_more d ds first others (suc k) x at = others k x at

pub all_sound : (ds : List Domain) (given : List (Option Opening)) → AreSound ds → are_fitting (versions_of ds) given ≡ true → AreSound (with_openings ds given)
all_sound ds [] sound fit = sound
all_sound [] (o ∷ given) sound fit = λ k d at. absurd (none-some d at)
all_sound (d ∷ ds) (o ∷ given) sound fit =
    let both = and_parts (is_fitting d.table o) (are_fitting (versions_of ds) given) fit in
    one_more (with_opening d o) (with_openings ds given) (one_sound d o (sound 0 d refl) both.0) (all_sound ds given (λ j x there. sound (suc j) x there) both.1)

-- the devices of later versions of the controller's own domain are the same
pub same_devices : (version : ℕ) (tables : List (List SchemaTable)) → drop 1 (begun_with version tables) ≡ drop 1 tables
same_devices version [] = refl
same_devices version (own ∷ devices) = refl
