-- Marks of what was mounted follow the calls, and the calls on mounts of a log are those of its history.
use Rattle.std.proofs.Common.{◌≡◌, ℕ, zero, suc, ◌+◌, ◌<◌, ◌≤◌, Bool, cond, false, ◌||◌, List, [], ◌∷◌, ◌++◌, length, None, refl, ap, sym, ◌∙◌, subst, take, arith}
use Rattle.std.proofs.lemmas.List.Elements.{All-cons, All-filter, All-nil}
use Rattle.std.proofs.lemmas.List.{map-id}
use Rattle.std.proofs.lemmas.List.FromFn.{filter_of_map_range_with_len_more}
use Rattle.std.specs.Prelude.{nat_eq, slice_index_or}
use Rattle.std.specs.List.{All, filter, list_any, range_with_len}
use Rattle.sal_mount.specs.declared.call.MountCall.{MountCall}
use Rattle.sal_mount.specs.declared.call.MountCall.TheVariants.{Mount}
use Rattle.sal_mount.specs.declared.call.MountReply.{MountReply}
use Rattle.sal_mount.specs.declared.call.MountReply.TheVariants.{Accepted}
use Rattle.sal_mount.specs.Answers.{Makes}
use Rattle.sal_mount.specs.Mounts.{Made, Mounted, made_of, mounted, mounts, was_mounted}
use Rattle.sal_mount.specs.Register.{IsOf, Register}
use Rattle.sal_mount.proofs.Made.{mounted-one, mounted-same, was-one}
use Rattle.sal_history.specs.declared.call.Entry.{Entry}
use Rattle.sal_history.specs.History.{answer, history}
use Rattle.sal_history.specs.MountCalls.{mounts_in, with_call}
use Rattle.sal_history.specs.Services.{mount_call, mounting}
use Rattle.sal_history.proofs.MountCalls.{calls-more, made-more, mounting-is}
use Rattle.sal_history.specs.World.{Domain}
use Rattle.sal_script.specs.Report.{told_domains}
use Rattle.sal_report.specs.Replayed.{Follows}

-- ---- one call

-- a good mount is of its device, and any other call of none
was-more : (made : List Made) (path : _) (device d : ℕ) → was_mounted (made ++ record { call = Mount path device; reply = Accepted } ∷ []) d ≡ (was_mounted made d || nat_eq device d)
was-more made path device d =
    let one : Mounted = record { device = device; path = path } in
    ap (λ (ms : List Mounted). list_any (λ (m : Mounted). nat_eq m.device d) ms) (mounted-one made (record { call = Mount path device; reply = Accepted }) one refl)
    ∙ was-one (mounted made) one d

was-same : (made : List Made) (m : Made) (d : ℕ) → mounts m.call m.reply ≡ None → was_mounted (made ++ m ∷ []) d ≡ was_mounted made d
was-same made m d none = ap (λ (ms : List Mounted). list_any (λ (x : Mounted). nat_eq x.device d) ms) (mounted-same made m none)

module _ {calls : List MountCall} {old new : Register} {marks : List Bool} (was : Follows calls old marks) where
  -- a call that mounts no device
  pub unmoved : (call : MountCall) (reply : MountReply) → Makes old new call reply → mounts call reply ≡ None → Follows (calls ++ call ∷ []) new marks
  unmoved call reply makes none = record {
    register = makes.longer calls was.register;
    long = was.long ∙ sym makes.devices;
    each = λ d inside.
        was.each d inside
        ∙ sym (was-same (made_of old.devices calls) (record { call = call; reply = reply }) d none)
        ∙ ap (λ (made : List Made). was_mounted made d) (sym (made-more old.devices calls call reply (makes.answer calls was.register)))
        ∙ ap (λ n. was_mounted (made_of n (calls ++ call ∷ [])) d) (sym makes.devices);
  }

  -- a device that was mounted and marked
  pub mounted_marked : (path : _) (device : ℕ) (marks' : List Bool) → Makes old new (Mount path device) Accepted → length marks' ≡ length marks
      → ((d : ℕ) → d < length marks → slice_index_or marks' d false ≡ (slice_index_or marks d false || nat_eq device d))
      → Follows (calls ++ Mount path device ∷ []) new marks'
  mounted_marked path device marks' makes long marked = record {
    register = makes.longer calls was.register;
    long = long ∙ was.long ∙ sym makes.devices;
    each = λ d inside.
        let within : d < length marks = subst (λ n. d < n) long inside in
        marked d within
        ∙ ap (λ b. b || nat_eq device d) (was.each d within)
        ∙ sym (was-more (made_of old.devices calls) path device d)
        ∙ ap (λ (made : List Made). was_mounted made d) (sym (made-more old.devices calls (Mount path device) Accepted (makes.answer calls was.register)))
        ∙ ap (λ n. was_mounted (made_of n (calls ++ Mount path device ∷ [])) d) (sym makes.devices);
  }

-- ---- a log

-- before the first call no device is marked
pub nothing_marked : (r : Register) (marks : List Bool) → IsOf [] r → length marks ≡ r.devices → ((d : ℕ) → d < length marks → slice_index_or marks d false ≡ false) → Follows [] r marks
nothing_marked r marks register long none = record { register = register; long = long; each = none }

-- one entry more
pub one_entry : (log : List Entry) (i : ℕ) (e : Entry) (r : Register) (marks : List Bool) → i < length log → e ≡ slice_index_or log i e
    → Follows (with_call (mounts_in (take i log)) (mount_call e.call)) r marks → Follows (mounts_in (take (i + 1) log)) r marks
one_entry log i e r marks inside here follows = subst (λ (calls : List MountCall). Follows calls r marks) (sym (calls-more log i e inside here)) follows

-- ---- the numbers of domains

-- tests that agree on the numbers filter the same ones
pub same_numbers : (p q : ℕ → Bool) (a n : ℕ) → ((d : ℕ) → d < a + n → p d ≡ q d) → filter p (range_with_len a n) ≡ filter q (range_with_len a n)
same_numbers p q a zero agree = refl
same_numbers p q a (suc n) agree =
    let rest : filter p (range_with_len (a + 1) n) ≡ filter q (range_with_len (a + 1) n) = same_numbers p q (a + 1) n (λ d less. agree d (omega (arith, less))) in
    ap (λ b. cond b (a ∷ filter p (range_with_len (a + 1) n)) (filter p (range_with_len (a + 1) n))) (agree a (omega arith))
    ∙ ap (λ (ns : List ℕ). cond (q a) (a ∷ ns) ns) rest

-- one number more
pub next_number : (p : ℕ → Bool) (n : ℕ) → filter p (range_with_len 0 (n + 1)) ≡ filter p (range_with_len 0 n) ++ cond (p n) (n ∷ []) []
next_number p n =
    ap (filter p) (sym (map-id (range_with_len 0 (n + 1))))
    ∙ filter_of_map_range_with_len_more p (λ k. k) 0 n n (omega arith)
    ∙ ap (λ (ns : List ℕ). filter p ns ++ cond (p n) (n ∷ []) []) (map-id (range_with_len 0 n))

-- numbers from a on that end by m are below it
numbers_below : (m a n : ℕ) → a + n ≤ m → All (λ d. d < m) (range_with_len a n)
numbers_below m a zero ends = All-nil (λ d. d < m)
numbers_below m a (suc n) ends = All-cons (λ d. d < m) a (range_with_len (a + 1) n) (omega (arith, ends)) (numbers_below m (a + 1) n (omega (arith, ends)))

pub all_below : (p : ℕ → Bool) (n : ℕ) → All (λ d. d < n) (filter p (range_with_len 0 n))
all_below p n = All-filter p (λ d. d < n) (range_with_len 0 n) (numbers_below n 0 n (omega arith))

-- the numbers by their marks are the domains that a report shows
pub told-is : (world : List Domain) (log : List Entry) (n : ℕ) (marks : List Bool) → length world ≡ n → length marks ≡ n
    → ((d : ℕ) → d < n → slice_index_or marks d false ≡ was_mounted (made_of n (mounts_in log)) d)
    → filter (λ d. nat_eq d 0 || slice_index_or marks d false) (range_with_len 0 (length marks)) ≡ told_domains world log
told-is world log n marks many long each =
    ap (λ k. filter (λ d. nat_eq d 0 || slice_index_or marks d false) (range_with_len 0 k)) (long ∙ sym many)
    ∙ same_numbers _ _ 0 (length world) (λ d less. ap (λ b. nat_eq d 0 || b) (each d (omega (arith, many, less)) ∙ marked d))
  where
    marked : (d : ℕ) → was_mounted (made_of n (mounts_in log)) d ≡ was_mounted (made_of (length world) (mounting (history world log))) d
    marked d = ap (λ k. was_mounted (made_of k (mounts_in log)) d) (sym many) ∙ ap (λ (calls : List MountCall). was_mounted (made_of (length world) calls) d) (sym (mounting-is world log))
