-- Lists of mounts follow the calls, and the calls on mounts of a log are those of its history.
use Rattle.std.proofs.Common.{◌≡◌, ℕ, ◌+◌, ◌<◌, Bool, cond, true, false, List, [], ◌∷◌, ◌++◌, length, map, None, refl, ap, sym, ◌∙◌, subst, append-nil, append_assoc, take}
use Rattle.std.proofs.lemmas.List.Sums.{fold_more}
use Rattle.std.specs.Prelude.{Result, Ok, Err, IfOk, OnOk, slice_index_or}
use Rattle.std.specs.declared.alloc.Global.{Global}
use Rattle.std.specs.declared.vec.Vec.{Vec}
use Rattle.sal_types.specs.declared.memory.NoMemory.{NoMemory as Wanting}
use Rattle.std.specs.List.{filter, fold}
use Rattle.sal_mount.specs.declared.call.MountCall.{MountCall}
use Rattle.sal_mount.specs.declared.call.MountCall.TheVariants.{Mount as Mounting}
use Rattle.sal_mount.specs.declared.call.MountFault.{MountFault}
use Rattle.sal_mount.specs.declared.call.MountReply.{MountReply}
use Rattle.sal_mount.specs.declared.call.MountReply.TheVariants.{Accepted}
use Rattle.sal_mount.specs.Answers.{Fails, Makes}
use Rattle.sal_mount.specs.Mounts.{Mounted, is_live, made_of, mounted, mounts}
use Rattle.sal_mount.specs.Register.{IsOf, Register}
use Rattle.sal_mount.proofs.Made.{mounted-one, mounted-same}
use Rattle.sal_history.specs.declared.call.Entry.{Entry}
use Rattle.sal_history.specs.History.{answer, history}
use Rattle.sal_history.specs.MountCalls.{mounts_in, with_call}
use Rattle.sal_history.specs.Services.{mount_call, mounting}
use Rattle.sal_history.proofs.MountCalls.{calls-more, made-more, mounting-is}
use Rattle.sal_hub.specs.HubHistory.{HubHistory}
use Rattle.sal_epoch.specs.declared.mounts.Mount.{Mount}
use Rattle.sal_epoch.specs.Mounts.{Follows, live_after, live_among, mount_of, mounted_at, mounts_left, with_live}

-- ---- one call

module _ {calls : List MountCall} {old new : Register} {made : List Mount} (was : Follows calls old made) where
  -- the mounts after the call
  told : (call : MountCall) (reply : MountReply) → Makes old new call reply → mounted (made_of old.devices calls ++ record { call = call; reply = reply } ∷ []) ≡ mounted (made_of new.devices (calls ++ call ∷ []))
  told call reply makes =
      ap mounted (sym (made-more old.devices calls call reply (makes.answer calls was.register)))
      ∙ ap (λ n. mounted (made_of n (calls ++ call ∷ []))) (sym makes.devices)

  -- a call that mounts no device
  pub unmoved : (call : MountCall) (reply : MountReply) → Makes old new call reply → mounts call reply ≡ None → Follows (calls ++ call ∷ []) new made
  unmoved call reply makes none = record {
    register = makes.longer calls was.register;
    all = was.all ∙ sym (mounted-same (made_of old.devices calls) (record { call = call; reply = reply }) none) ∙ told call reply makes;
  }

  -- a device that was mounted and listed
  pub mounted_listed : (path : _) (device : ℕ) (more : List Mount) → Makes old new (Mounting path device) Accepted → map mount_of more ≡ map mount_of made ++ mounted_at device path ∷ []
      → Follows (calls ++ Mounting path device ∷ []) new more
  mounted_listed path device more makes listed = record {
    register = makes.longer calls was.register;
    all =
        listed ∙ ap (λ (ms : List Mounted). ms ++ mounted_at device path ∷ []) was.all
        ∙ sym (mounted-one (made_of old.devices calls) (record { call = Mounting path device; reply = Accepted }) (mounted_at device path) refl) ∙ told (Mounting path device) Accepted makes;
  }

-- ---- a log

-- before the first call no device is mounted
pub nothing_listed : (r : Register) (made : List Mount) → IsOf [] r → made ≡ [] → Follows [] r made
nothing_listed r made register none = record { register = register; all = ap (map mount_of) none }

-- ---- the live ones

cond_on : (b : Bool) (m : Mounted) (ms : List Mounted) → cond b (m ∷ []) [] ++ ms ≡ cond b (m ∷ ms) ms
cond_on true m ms = refl
cond_on false m ms = refl

live_from : (live : ℕ → Bool) (before : List Mounted) (made : List Mount) → fold (with_live live) before made ≡ before ++ filter (λ (m : Mounted). live m.device) (map mount_of made)
live_from live before [] = sym (append-nil before)
live_from live before (m ∷ made) =
    let rest : List Mounted = filter (λ (x : Mounted). live x.device) (map mount_of made) in
    live_from live (with_live live before m) made ∙ append_assoc before (cond (live m.device) (mount_of m ∷ []) []) rest ∙ ap (λ (ms : List Mounted). before ++ ms) (cond_on (live m.device) (mount_of m) rest)

pub left_is : (known : HubHistory) (r : Register) (made list : List Mount) → r.devices ≡ length known.world → Follows (mounts_in known.log) r made
    → map mount_of list ≡ live_among (live_after r (mounts_in known.log)) made → map mount_of list ≡ mounts_left known
left_is known r made list many follows found =
    found ∙ live_from (live_after r (mounts_in known.log)) [] made
    ∙ ap (filter (λ (m : Mounted). live_after r (mounts_in known.log) m.device)) follows.all
    ∙ ap (λ (calls : List MountCall). filter (λ (m : Mounted). live_after r calls m.device) (mounted (made_of r.devices calls))) (sym (mounting-is known.world known.log))
    ∙ ap (λ n. filter (λ (m : Mounted). is_live (made_of n (mounting (history known.world known.log))) m.device) (mounted (made_of n (mounting (history known.world known.log))))) many

pub left-so : (known : HubHistory) (r : Register) (made : List Mount) (result : Result (Vec Mount Global) Wanting) → r.devices ≡ length known.world → Follows (mounts_in known.log) r made
    → IfOk result (λ (list : Vec Mount Global). (calls : List MountCall) → IsOf calls r → map mount_of list.items ≡ live_among (live_after r calls) made)
    → IfOk result (λ (list : Vec Mount Global). map mount_of list.items ≡ mounts_left known)
left-so known r made (Ok list) many follows found = left_is known r made list.items many follows (found (mounts_in known.log) follows.register)
left-so known r made (Err e) many follows found = tt

-- one mount more
pub live_more : (live : ℕ → Bool) (made : List Mount) (i : ℕ) (m : Mount) → i < length made → m ≡ slice_index_or made i m → with_live live (live_among live (take i made)) m ≡ live_among live (take (i + 1) made)
live_more live made i m inside here = ap (λ x. with_live live (live_among live (take i made)) x) here ∙ sym (fold_more (with_live live) [] made i m inside)

-- a property that holds if a call is accepted
pub on_ok : {T E P Q : Type 0} (result : Result T E) → (P → Q) → OnOk result P → OnOk result Q
on_ok (Ok x) f p = f p
on_ok (Err e) f p = tt

-- one entry more
pub one_entry : (log : List Entry) (i : ℕ) (e : Entry) (r : Register) (made : List Mount) → i < length log → e ≡ slice_index_or log i e
    → Follows (with_call (mounts_in (take i log)) (mount_call e.call)) r made → Follows (mounts_in (take (i + 1) log)) r made
one_entry log i e r made inside here follows = subst (λ (calls : List MountCall). Follows calls r made) (sym (calls-more log i e inside here)) follows

-- a failure by the fault that it is
pub fails_as : (old new : Register) (call : MountCall) (fault found : MountFault) → fault ≡ found → Fails old new call fault → Fails old new call found
fails_as old new call fault found is it = subst (λ (f : MountFault). Fails old new call f) is it
