-- The schemas of the domains of a world, and the domains in which transactions begin.
use Rattle.std.proofs.Common.{◌≡◌, ℕ, zero, suc, ◌-◌, ◌<◌, ◌≤◌, Bool, true, false, not, ◌&&◌, ◌||◌, List, [], ◌∷◌, ◌++◌, length, map, Option, None, Some, if◌then◌else◌, refl, ap, sym, ◌∙◌, subst, inl, inr, nat_eq, arith}
use Rattle.std.specs.Prelude.{nat_lt, unwrap_or}
use Rattle.std.specs.List.{fold, list_any}
use Rattle.std.specs.Option.{option_map, option_or}
use Rattle.std.proofs.lemmas.Bool.{and_parts, eqb-true, ltb-true}
use Rattle.std.proofs.lemmas.Option.{same_Some}
use Rattle.sal_types.specs.declared.value.Step.{Step}
use Rattle.sal_rows.specs.declared.outcome.CallFault.{CallFault}
use Rattle.sal_rows.specs.declared.outcome.CallFault.TheVariants.{ChainClosed, ChainFailed, NoDomain, PreviousOpen}
use Rattle.sal_mount.specs.declared.call.MountCall.{MountCall}
use Rattle.sal_mount.specs.declared.call.MountCall.TheVariants.{Mount, Unmount, MountAt}
use Rattle.sal_mount.specs.declared.call.MountFault.{MountFault}
use Rattle.sal_mount.specs.declared.call.MountFault.TheVariants as mount_faults
use Rattle.sal_mount.specs.Mounts.{Made, Mounted, fault_if, is_device, is_unmounted, make, mount_at, mount_refusal, mounted, mounts, refused_or, reply_to, was_mounted}
use Rattle.sal_mount.proofs.Made.{mounted-one, mounted-same, was-one}
use Rattle.sal_history.specs.declared.reply.Reply.{Reply}
use Rattle.sal_history.specs.declared.reply.Reply.TheVariants.{Begun as BegunReply, Refused}
use Rattle.sal_history.specs.History.{Answered, chain_domains, chain_refusal, domain_of, failed_by, fault_if as call_fault_if, has_open, history, is_closed, is_live, refused_or as call_refused_or}
use Rattle.sal_history.specs.Services.{mounted as all_mounts, mounting}
use Rattle.sal_history.specs.World.{Domain, table_of}
use Rattle.sal_history.proofs.Numbered.{numbered-at}
use Rattle.sal_script.specs.Tables.{has_upgrade, table_at, versions_of}
use Rattle.sal_hub.specs.declared.chain.Chain.{Chain}
use Rattle.sal_hub.specs.HubHistory.{HubHistory}
use Rattle.sal_hub.specs.Tokens.{IsChain}
use Rattle.sal_hub.specs.Upgrades.{upgrades_of}
use Rattle.sal_client.specs.Clients.{IsWithin}

-- ---- schemas

pub table_at-of : (world : List Domain) (version domain : ℕ) → table_at (versions_of world) version domain ≡ table_of world version domain
table_at-of [] version domain = refl
table_at-of (d ∷ world) version zero = refl
table_at-of (d ∷ world) version (suc domain) = table_at-of world version domain

pub length-tables : (world : List Domain) → length (versions_of world) ≡ length world
length-tables [] = refl
length-tables (d ∷ world) = ap suc (length-tables world)

-- a version that the script has is one of the world's
pub upgrade_within : (world : List Domain) (version : ℕ) → has_upgrade (versions_of world) version ≡ true → (1 ≤ version) × (version ≤ upgrades_of world)
upgrade_within [] version has = let parts = and_parts (nat_lt 0 version) (nat_lt version 0) has in absurd (omega (arith, ltb-true version 0 parts.1))
upgrade_within (d ∷ world) version has =
    let count : ℕ = length (d.table ∷ d.upgrades) in
    let parts = and_parts (nat_lt 0 version) (nat_lt version count) has in
    let low : 0 < version = ltb-true 0 version parts.0 in
    let high : version < count = ltb-true version count parts.1 in
    (omega (arith, low), omega (arith, high))

-- ---- each device that was mounted is one of so many domains

passed : (b : Bool) (fault : MountFault) (rest : Option MountFault) → option_or (fault_if (not b) fault) rest ≡ None → b ≡ true
passed true fault rest e = refl
passed false fault rest e = cc

abbrev is_of : ℕ → Mounted → Bool
is_of d m = nat_eq m.device d

module _ (domains : ℕ) where
  abbrev AllWithin : List Made → Type 0
  AllWithin made = (d : ℕ) → was_mounted made d ≡ true → d < domains

  device_within : (made : List Made) (call : MountCall) (x : Mounted) → mounts call (reply_to domains made call) ≡ Some x → x.device < domains
  device_within made (Mount path device) x e = by (mount_refusal domains made path device) refl e
    where
      by : (o : Option MountFault) → mount_refusal domains made path device ≡ o → mounts (Mount path device) (refused_or o) ≡ Some x → x.device < domains
      by None none is =
          let there : is_device domains device ≡ true =
          passed (is_device domains device) (mount_faults.NoDomain device) (option_or (fault_if (was_mounted made device) (mount_faults.DeviceUsed device)) (option_map mount_faults.MountTaken (mount_at made path))) none in
          let same : device ≡ x.device = ap (λ (m : Mounted). m.device) (same_Some (record { device = device; path = path }) x is) in
          subst (λ n. n < domains) same (ltb-true device domains (and_parts (nat_lt 0 device) (nat_lt device domains) there).1)
      by (Some fault) some is = cc
  device_within made (Unmount d) x e = cc
  device_within made (MountAt path) x e = cc

  one_more : (made : List Made) (m : Made) (o : Option Mounted) → mounts m.call m.reply ≡ o → ((x : Mounted) → o ≡ Some x → x.device < domains) → AllWithin made → AllWithin (made ++ m ∷ [])
  one_more made m None none within was d e = was d (sym (ap (list_any (is_of d)) (mounted-same made m none)) ∙ e)
  one_more made m (Some x) some within was d e =
      by (was_mounted made d) refl (nat_eq x.device d) refl (sym (was-one (mounted made) x d) ∙ sym (ap (list_any (is_of d)) (mounted-one made m x some)) ∙ e)
    where
      by : (a : Bool) → was_mounted made d ≡ a → (b : Bool) → nat_eq x.device d ≡ b → (a || b) ≡ true → d < domains
      by true before b here is = was d before
      by false before true here is = subst (λ n. n < domains) (eqb-true x.device d here) (within x refl)
      by false before false here is = cc

  all_within : (made : List Made) (calls : List MountCall) → AllWithin made → AllWithin (fold (make domains) made calls)
  all_within made [] was = was
  all_within made (call ∷ calls) was =
      all_within (make domains made call) calls
      (one_more made (record { call = call; reply = reply_to domains made call }) (mounts call (reply_to domains made call)) refl (device_within made call) was)

  pub mounted_within : (calls : List MountCall) → AllWithin (fold (make domains) [] calls)
  mounted_within calls = all_within [] calls (λ d e. cc)

-- ---- live domains

-- a live domain is the controller's own, or one of the world
pub live_within : (world : List Domain) (answered : List Answered) (domain : ℕ) → is_live world answered domain ≡ true → IsWithin (length world) domain
live_within world answered domain = by (nat_eq domain 0) refl
  where
    by : (b : Bool) → nat_eq domain 0 ≡ b → (b || (was_mounted (all_mounts (length world) answered) domain && not (is_unmounted (all_mounts (length world) answered) domain))) ≡ true → IsWithin (length world) domain
    by true own e = inl (eqb-true domain 0 own)
    by false other e = inr (mounted_within (length world) (mounting answered) domain (and_parts (was_mounted (all_mounts (length world) answered) domain) (not (is_unmounted (all_mounts (length world) answered) domain)) e).0)

-- a begin that is good is of a live domain
pub begun_live : (b : Bool) (newest commit : ℕ) (on : Option ℕ) (fault : CallFault) → (if b then BegunReply newest None else Refused fault) ≡ BegunReply commit on → b ≡ true
begun_live true newest commit on fault e = refl
begun_live false newest commit on fault e = cc

-- and so is one of a chain
chained : (o : Option CallFault) (newest commit : ℕ) (before on : Option ℕ) → call_refused_or o (BegunReply newest before) ≡ BegunReply commit on → o ≡ None
chained None newest commit before on e = refl
chained (Some fault) newest commit before on e = cc

or_none : {X : Type 0} (a b : Option X) → option_or a b ≡ None → b ≡ None
or_none None b e = e
or_none (Some x) b e = cc

not_refused : (b : Bool) (fault : CallFault) → call_fault_if (not b) fault ≡ None → b ≡ true
not_refused true fault e = refl
not_refused false fault e = cc

pub chained_live : (world : List Domain) (answered : List Answered) (chain newest commit : ℕ) (before on : Option ℕ) → call_refused_or (chain_refusal world answered chain) (BegunReply newest before) ≡ BegunReply commit on
    → is_live world answered (domain_of answered chain) ≡ true
chained_live world answered chain newest commit before on e =
    let none : chain_refusal world answered chain ≡ None = chained (chain_refusal world answered chain) newest commit before on e in
    let gone : Option CallFault = call_fault_if (not (is_live world answered (domain_of answered chain))) (NoDomain (domain_of answered chain)) in
    let open_or_gone : Option CallFault = option_or (call_fault_if (has_open answered chain) PreviousOpen) gone in
    let failed_or : Option CallFault = option_or (option_map ChainFailed (failed_by answered chain)) open_or_gone in
    not_refused (is_live world answered (domain_of answered chain)) (NoDomain (domain_of answered chain))
    (or_none (call_fault_if (has_open answered chain) PreviousOpen) gone
    (or_none (option_map ChainFailed (failed_by answered chain)) open_or_gone
    (or_none (call_fault_if (is_closed answered chain) ChainClosed) failed_or none)))

-- the domain of a chain that was opened
pub domain-chain : (known : HubHistory) (chain : Chain) → IsChain known chain → domain_of (history known.world known.log) chain.id ≡ chain.domain
domain-chain known chain is = ap (λ (o : Option ℕ). unwrap_or o 0) (numbered-at (chain_domains (history known.world known.log)) chain.id chain.domain is.0 is.1)
