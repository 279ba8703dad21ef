-- Which domains are live, as calls on mounts are made.
use Rattle.std.proofs.Common.{◌≡◌, ℕ, ◌<◌, Bool, true, false, not, ◌&&◌, ◌||◌, List, [], ◌∷◌, ◌++◌, length, Option, None, refl, ap, sym, ◌∙◌, arith, if◌then◌else◌, inl, inr, nat_eq}
use Rattle.std.proofs.lemmas.Bool.{or_cases, and_parts}
use Rattle.std.specs.List.{fold, list_any}
use Rattle.std.specs.Option.{option_map, option_or}
use Rattle.std.proofs.lemmas.Bool.Decides.{nat_tests}
use Rattle.sal_types.specs.declared.value.Step.{Step}
use Rattle.sal_mount.specs.declared.call.MountCall.{MountCall}
use Rattle.sal_mount.specs.declared.call.MountCall.TheVariants.{Mount, Unmount, MountAt}
use Rattle.sal_mount.specs.declared.call.MountFault.{MountFault}
use Rattle.sal_mount.specs.declared.call.MountFault.TheVariants.{DeviceUsed, MountTaken, NoDomain}
use Rattle.sal_mount.specs.declared.call.MountReply.{MountReply}
use Rattle.sal_mount.specs.declared.call.MountReply.TheVariants.{Accepted, MountAt as Told, Refused}
use Rattle.sal_mount.specs.Mounts.{Made, Mounted, fault_if, is_device, is_live as is_up, is_unmounted, make, made_of, mount_at, mounted, mounts, refused_or, reply_to, unmounts, was_mounted}
use Rattle.sal_mount.proofs.Made.{gone-one, gone-same, mounted-one, mounted-same, was-one}
use Rattle.sal_history.specs.World.{Domain}
use Rattle.sal_history.specs.History.{Answered, is_live}
use Rattle.sal_history.specs.Services.{mounting}

-- ---- only devices are mounted

abbrev AreDevices : ℕ → List Made → Type 0
AreDevices devices made = (n : ℕ) → was_mounted made n ≡ true → n < devices

pub is_device_low : (devices n : ℕ) → is_device devices n ≡ true → n < devices
is_device_low devices n is = grind (arith, nat_tests)

-- only devices are mounted
pub accepted_device : (b : Bool) (f : MountFault) (o : Option MountFault) → refused_or (option_or (fault_if (not b) f) o) ≡ Accepted → b ≡ true
accepted_device true f o e = refl
accepted_device false f o e = cc

module _ (devices : ℕ) (made : List Made) (was : AreDevices devices made) where
  stays : (m : Made) → mounts m.call m.reply ≡ None → AreDevices devices (made ++ m ∷ [])
  stays m none n there = was n (ap (list_any (λ (x : Mounted). nat_eq x.device n)) (sym (mounted-same made m none)) ∙ there)

  joins : (path : List Step) (device : ℕ) → device < devices → AreDevices devices (made ++ record { call = Mount path device; reply = Accepted } ∷ [])
  joins path device low n there =
      let m : Made = record { call = Mount path device; reply = Accepted } in
      let x : Mounted = record { device = device; path = path } in
      let either : (was_mounted made n || nat_eq device n) ≡ true = sym (was-one (mounted made) x n) ∙ ap (list_any (λ (y : Mounted). nat_eq y.device n)) (sym (mounted-one made m x refl)) ∙ there in
      elim (or_cases (was_mounted made n) (nat_eq device n) either) [
        | inl old ↦ was n old
        | inr new ↦ (let same : device ≡ n = grind (arith, nat_tests) in omega (arith, same, low))
      ]

  mounts_next : (path : List Step) (device : ℕ) (reply : MountReply) → reply_to devices made (Mount path device) ≡ reply → AreDevices devices (made ++ record { call = Mount path device; reply = reply } ∷ [])
  mounts_next path device Accepted is = joins path device (is_device_low devices device (accepted_device (is_device devices device) (NoDomain device) (option_or (fault_if (was_mounted made device) (DeviceUsed device)) (option_map MountTaken (mount_at made path))) is))
  mounts_next path device (Told at) is = stays (record { call = Mount path device; reply = Told at }) refl
  mounts_next path device (Refused fault) is = stays (record { call = Mount path device; reply = Refused fault }) refl

  next_devices : (call : MountCall) → AreDevices devices (make devices made call)
  next_devices (Mount path device) = mounts_next path device (reply_to devices made (Mount path device)) refl
  next_devices (Unmount domain) = stays (record { call = Unmount domain; reply = reply_to devices made (Unmount domain) }) refl
  next_devices (MountAt path) = stays (record { call = MountAt path; reply = reply_to devices made (MountAt path) }) refl

all_devices : (devices : ℕ) (made : List Made) (calls : List MountCall) → AreDevices devices made → AreDevices devices (fold (make devices) made calls)
all_devices devices made [] was = was
all_devices devices made (call ∷ calls) was = all_devices devices (make devices made call) calls (next_devices devices made was call)

own_number : (n : ℕ) → nat_eq n 0 ≡ true → n ≡ 0
own_number n e = grind (arith, nat_tests)

-- a domain that is live is one that there is
pub live_there : (world : List Domain) → 0 < length world → (answered : List Answered) (n : ℕ) → is_live world answered n ≡ true → n < length world
live_there world some answered n live =
    let made : List Made = made_of (length world) (mounting answered) in
    elim (or_cases (nat_eq n 0) (was_mounted made n && not (is_unmounted made n)) live) [
      | inl own ↦ omega (arith, own_number n own, some)
      | inr up ↦ all_devices (length world) [] (mounting answered) (λ k none. cc) n (and_parts (was_mounted made n) (not (is_unmounted made n)) up).0
    ]

-- ---- one call more

-- no mount and no unmount
pub live-same : (made : List Made) (m : Made) → mounts m.call m.reply ≡ None → ((n : ℕ) → unmounts m.call m.reply n ≡ false) → (n : ℕ) → is_up (made ++ m ∷ []) n ≡ is_up made n
live-same made m no_mount no_unmount n =
    λ i. nat_eq n 0 || (list_any (λ (x : Mounted). nat_eq x.device n) (mounted-same made m no_mount i) && not (gone-same made m n (no_unmount n) i))

mounted_bit : (zeroth was gone new : Bool) → (new ≡ true → gone ≡ false) → (zeroth || ((was || new) && not gone)) ≡ (if new then true else (zeroth || (was && not gone)))
mounted_bit true was gone true h = refl
mounted_bit true was gone false h = refl
mounted_bit false true true true h = let e : true ≡ false = h refl in cc
mounted_bit false true false true h = refl
mounted_bit false false true true h = let e : true ≡ false = h refl in cc
mounted_bit false false false true h = refl
mounted_bit false true true false h = refl
mounted_bit false true false false h = refl
mounted_bit false false true false h = refl
mounted_bit false false false false h = refl

same_number : (k n : ℕ) → nat_eq k n ≡ true → k ≡ n
same_number k n e = grind (arith, nat_tests)

-- a device is mounted, and was not unmounted before
pub live-mounted : (made : List Made) (path : List Step) (device : ℕ) → is_unmounted made device ≡ false → (n : ℕ) → is_up (made ++ record { call = Mount path device; reply = Accepted } ∷ []) n ≡ (if nat_eq device n then true else is_up made n)
live-mounted made path device fresh n =
    let m : Made = record { call = Mount path device; reply = Accepted } in
    let x : Mounted = record { device = device; path = path } in
    let was : was_mounted (made ++ m ∷ []) n ≡ (was_mounted made n || nat_eq device n) = ap (list_any (λ (y : Mounted). nat_eq y.device n)) (mounted-one made m x refl) ∙ was-one (mounted made) x n in
    let gone : is_unmounted (made ++ m ∷ []) n ≡ is_unmounted made n = gone-same made m n refl in
    (λ i. nat_eq n 0 || (was i && not (gone i)))
    ∙ mounted_bit (nat_eq n 0) (was_mounted made n) (is_unmounted made n) (nat_eq device n) (λ e. ap (is_unmounted made) (sym (same_number device n e)) ∙ fresh)

unmounted_bit : (zeroth was gone new : Bool) → (new ≡ true → zeroth ≡ false) → (zeroth || (was && not (gone || new))) ≡ (if new then false else (zeroth || (was && not gone)))
unmounted_bit true was gone true h = let e : true ≡ false = h refl in cc
unmounted_bit true was gone false h = refl
unmounted_bit false true true true h = refl
unmounted_bit false true false true h = refl
unmounted_bit false false true true h = refl
unmounted_bit false false false true h = refl
unmounted_bit false true true false h = refl
unmounted_bit false true false false h = refl
unmounted_bit false false true false h = refl
unmounted_bit false false false false h = refl

-- the domain of a device is unmounted
pub live-unmounted : (made : List Made) (domain : ℕ) → nat_eq domain 0 ≡ false → (n : ℕ) → is_up (made ++ record { call = Unmount domain; reply = Accepted } ∷ []) n ≡ (if nat_eq domain n then false else is_up made n)
live-unmounted made domain device n =
    let m : Made = record { call = Unmount domain; reply = Accepted } in
    let was : was_mounted (made ++ m ∷ []) n ≡ was_mounted made n = ap (list_any (λ (y : Mounted). nat_eq y.device n)) (mounted-same made m refl) in
    let gone : is_unmounted (made ++ m ∷ []) n ≡ (is_unmounted made n || nat_eq domain n) = gone-one made m domain n refl in
    (λ i. nat_eq n 0 || (was i && not (gone i)))
    ∙ unmounted_bit (nat_eq n 0) (was_mounted made n) (is_unmounted made n) (nat_eq domain n) (λ e. ap (λ k. nat_eq k 0) (sym (same_number domain n e)) ∙ device)
