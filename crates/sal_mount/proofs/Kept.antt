-- A register stays that of the calls when one more is made.
use Rattle.std.proofs.Common.{◌≡◌, ℕ, Bool, true, false, not, ◌&&◌, ◌||◌, List, [], ◌∷◌, ◌++◌, Option, Some, None, refl, ap, sym, ◌∙◌, subst, cond, arith, append-nil, if◌then◌else◌, nat_eq, ◌⊎◌, inl, inr}
use Rattle.std.proofs.lemmas.Bool.{and_parts, or_left, or_parts}
use Rattle.std.specs.List.{cons_option, filter, filter_map, list_any, slice_get}
use Rattle.std.specs.Option.{IfSome, is_some, option_map, option_or, unwrap_or}
use Rattle.std.proofs.lemmas.Bool.Decides.{nat_tests}
use Rattle.std.proofs.lemmas.List.Elements.{filter_map-append}
use Rattle.std.proofs.lemmas.List.Sums.{fold-append}
use Rattle.sal_types.specs.declared.value.Step.{Step}
use Rattle.sal_types.specs.Order.{path_eq, path_eq-IsEquivalence}
use Rattle.sal_mount.specs.declared.call.MountCall.{MountCall}
use Rattle.sal_mount.specs.declared.call.MountCall.TheVariants.{Mount, Unmount, MountAt as Asks}
use Rattle.sal_mount.specs.declared.call.MountFault.{MountFault}
use Rattle.sal_mount.specs.declared.call.MountFault.TheVariants.{NoDomain, DeviceUsed, MountTaken, NoMemory}
use Rattle.sal_mount.specs.declared.call.MountReply.{MountReply}
use Rattle.sal_mount.specs.declared.call.MountReply.TheVariants.{Accepted, MountAt, Refused}
use Rattle.sal_mount.specs.Answers.{Fails, Makes}
use Rattle.sal_mount.specs.Mounts.{Made, Mounted, fault_if, is_device, is_live, is_unmounted, made_of, make, mount_at, mount_refusal, mounted, mounts, refused_or, reply_to, standing, stands_at, unmounts, was_mounted}
use Rattle.sal_mount.specs.Register.{IsKept, Register, is_up, last_at, listed, live_at, live_of, refusal_by, state_at, state_of}
use Rattle.sal_mount.proofs.Made.{gone-one, gone-same, mounted-one, mounted-same, standing-without, was-one}
use Rattle.sal_types.proofs.Handy.{and-true, same_path}

-- ---- what a register shows of the calls

was-of : (w g : Bool) → is_some (state_of w g) ≡ w
was-of true g = refl
was-of false g = refl

up-of : (w g : Bool) → unwrap_or (state_of w g) false ≡ (w && not g)
up-of true g = refl
up-of false g = refl

first-of : (o : Option ℕ) → slice_get (listed o) 0 ≡ o
first-of None = refl
first-of (Some d) = refl

module _ (made : List Made) (r : Register) (kept : IsKept made r) where
  pub was-is : (d : ℕ) → is_some (state_at r.states d) ≡ was_mounted made d
  was-is d = ap is_some (kept.states d) ∙ was-of (was_mounted made d) (is_unmounted made d)

  pub up-is : (d : ℕ) → is_up r.states d ≡ (was_mounted made d && not (is_unmounted made d))
  up-is d = ap (λ s. unwrap_or s false) (kept.states d) ∙ up-of (was_mounted made d) (is_unmounted made d)

  pub mount_at-is : (p : List Step) → mount_at made p ≡ live_at r p
  mount_at-is p = ap (λ ds. slice_get ds 0) (kept.standing_at p) ∙ first-of (live_at r p)

  pub refusal-is : (p : List Step) (d : ℕ) → mount_refusal r.devices made p d ≡ refusal_by r p d
  refusal-is p d = λ i. option_or (fault_if (not (is_device r.devices d)) (NoDomain d)) (option_or (fault_if (sym (was-is d) i) (DeviceUsed d)) (option_map MountTaken (mount_at-is p i)))

  pub live_is : (d : ℕ) → nat_eq d 0 ≡ false → (not (nat_eq d 0) && is_live made d) ≡ is_up r.states d
  live_is d device = ap (λ b. not b && (b || (was_mounted made d && not (is_unmounted made d)))) device ∙ sym (up-is d)

-- ---- a call that mounts and unmounts nothing

pub quiet : (made : List Made) (r : Register) (call : MountCall) (reply : MountReply) → mounts call reply ≡ None → ((d : ℕ) → unmounts call reply d ≡ false) → IsKept made r → IsKept (made ++ record { call = call; reply = reply } ∷ []) r
quiet made r call reply no_mount no_unmount kept =
    let m : Made = record { call = call; reply = reply } in
    let same : mounted (made ++ m ∷ []) ≡ mounted made = mounted-same made m no_mount in
    let gone : (d : ℕ) → is_unmounted (made ++ m ∷ []) d ≡ is_unmounted made d = λ d. gone-same made m d (no_unmount d) in
    let was : (d : ℕ) → was_mounted (made ++ m ∷ []) d ≡ was_mounted made d = λ d. ap (list_any (λ (x : Mounted). nat_eq x.device d)) same in
    record {
      states = λ d. kept.states d ∙ (λ i. state_of (sym (was d) i) (sym (gone d) i));
      standing_at = λ p. (λ i. filter_map (stands_at (λ d. gone d i) p) (same i)) ∙ kept.standing_at p;
      named = λ p. subst (λ (ms : List Mounted). IfSome (last_at r.places p) (λ d. list_any (λ (x : Mounted). nat_eq x.device d) ms ≡ true)) (sym same) (kept.named p);
      mounted_first = λ d none. gone d ∙ kept.mounted_first d (sym (was d) ∙ none);
    }

-- ---- a device is unmounted

down_state : (w g b : Bool) → (b ≡ true → w ≡ true) → (if b then Some false else state_of w g) ≡ state_of w (g || b)
down_state true true true h = refl
down_state true true false h = refl
down_state true false true h = refl
down_state true false false h = refl
down_state false g true h = let e : false ≡ true = h refl in cc
down_state false g false h = refl

same_number : (k d : ℕ) → nat_eq k d ≡ true → k ≡ d
same_number k d e = grind (arith, nat_tests)

down_up : (b : Bool) (s : Option Bool) → unwrap_or (if b then Some false else s) false ≡ (not b && unwrap_or s false)
down_up true s = refl
down_up false s = refl

module _ (old new : Register) (k : ℕ) (sets : (d : ℕ) → state_at new.states d ≡ (if nat_eq k d then Some false else state_at old.states d)) where
  down_live : (o : Option ℕ) → listed (live_of new.states o) ≡ filter (λ d. not (nat_eq k d)) (listed (live_of old.states o))
  down_live None = refl
  down_live (Some d) =
      ap (λ s. listed (if unwrap_or s false then Some d else None)) (sets d)
      ∙ ap (λ b. listed (if b then Some d else None)) (down_up (nat_eq k d) (state_at old.states d))
      ∙ elim (is_up old.states d) as (λ u. listed (if not (nat_eq k d) && u then Some d else None) ≡ filter (λ e. not (nat_eq k e)) (listed (if u then Some d else None))) [
        | true ↦ elim (nat_eq k d) as (λ b. listed (if not b && true then Some d else None) ≡ cond (not b) (d ∷ []) []) [ true ↦ refl | false ↦ refl ]
        | false ↦ elim (nat_eq k d) as (λ b. listed (if not b && false then Some d else None) ≡ []) [ true ↦ refl | false ↦ refl ]
      ]

  pub down : (made : List Made) → new.places ≡ old.places → was_mounted made k ≡ true → IsKept made old → IsKept (made ++ record { call = Unmount k; reply = Accepted } ∷ []) new
  down made places there kept =
      let m : Made = record { call = Unmount k; reply = Accepted } in
      let same : mounted (made ++ m ∷ []) ≡ mounted made = mounted-same made m refl in
      let gone : (d : ℕ) → is_unmounted (made ++ m ∷ []) d ≡ (is_unmounted made d || nat_eq k d) = λ d. gone-one made m k d refl in
      let was : (d : ℕ) → was_mounted (made ++ m ∷ []) d ≡ was_mounted made d = λ d. ap (list_any (λ (x : Mounted). nat_eq x.device d)) same in
      let own : (d : ℕ) → nat_eq k d ≡ true → was_mounted made d ≡ true = λ d e. ap (was_mounted made) (sym (same_number k d e)) ∙ there in
      record {
        states = λ d. sets d ∙ ap (λ s. if nat_eq k d then Some false else s) (kept.states d) ∙ down_state (was_mounted made d) (is_unmounted made d) (nat_eq k d) (own d) ∙ (λ i. state_of (sym (was d) i) (sym (gone d) i));
        standing_at = λ p. (λ i. filter_map (stands_at (λ d. gone d i) p) (same i)) ∙ standing-without (is_unmounted made) k p (mounted made) ∙ ap (filter (λ d. not (nat_eq k d))) (kept.standing_at p) ∙ sym (down_live (last_at old.places p)) ∙ (λ i. listed (live_of new.states (last_at (sym places i) p)));
        named = λ p. subst (λ (ms : List Mounted). IfSome (last_at new.places p) (λ d. list_any (λ (x : Mounted). nat_eq x.device d) ms ≡ true)) (sym same) (subst (λ (es : List (List Step × ℕ)). IfSome (last_at es p) (λ d. was_mounted made d ≡ true)) (sym places) (kept.named p));
        mounted_first = λ d none. gone d ∙ first d (sym (was d) ∙ none) (kept.mounted_first d (sym (was d) ∙ none)) (own d);
      }
    where
      first : (d : ℕ) → was_mounted made d ≡ false → is_unmounted made d ≡ false → (nat_eq k d ≡ true → was_mounted made d ≡ true) → (is_unmounted made d || nat_eq k d) ≡ false
      first d none stays owned =
          ap (λ b. b || nat_eq k d) stays
          ∙ elim (nat_eq k d) as (λ b. (b ≡ true → was_mounted made d ≡ true) → b ≡ false) [ true ↦ λ h. let e : was_mounted made d ≡ true = h refl in cc | false ↦ λ h. refl ] owned

-- ---- a device is mounted

or-true : (b : Bool) → (b || true) ≡ true
or-true true = refl
or-true false = refl

unused : (r : Register) (t : List Step) (k : ℕ) → refusal_by r t k ≡ None → is_some (state_at r.states k) ≡ false
unused r t k good = elim (not (is_device r.devices k)) as (λ a. option_or (fault_if a (NoDomain k)) (option_or (fault_if (is_some (state_at r.states k)) (DeviceUsed k)) (option_map MountTaken (live_at r t))) ≡ None → is_some (state_at r.states k) ≡ false) [
  | true ↦ λ e. cc
  | false ↦ elim (is_some (state_at r.states k)) as (λ b. option_or (fault_if b (DeviceUsed k)) (option_map MountTaken (live_at r t)) ≡ None → b ≡ false) [ true ↦ λ e. cc | false ↦ λ e. refl ]
] good

free : (r : Register) (t : List Step) (k : ℕ) → refusal_by r t k ≡ None → live_at r t ≡ None
free r t k good = elim (not (is_device r.devices k)) as (λ a. option_or (fault_if a (NoDomain k)) (option_or (fault_if (is_some (state_at r.states k)) (DeviceUsed k)) (option_map MountTaken (live_at r t))) ≡ None → live_at r t ≡ None) [
  | true ↦ λ e. cc
  | false ↦ elim (is_some (state_at r.states k)) as (λ b. option_or (fault_if b (DeviceUsed k)) (option_map MountTaken (live_at r t)) ≡ None → live_at r t ≡ None) [ true ↦ λ e. cc | false ↦ elim (live_at r t) as (λ (o : Option ℕ). option_map MountTaken o ≡ None → o ≡ None) [ None ↦ λ e. refl | Some d ↦ λ e. cc ] ]
] good

up_state : (w g b : Bool) → (b ≡ true → g ≡ false) → (if b then Some true else state_of w g) ≡ state_of (w || b) g
up_state true true true h = let e : true ≡ false = h refl in cc
up_state true true false h = refl
up_state true false true h = refl
up_state true false false h = refl
up_state false true true h = let e : true ≡ false = h refl in cc
up_state false true false h = refl
up_state false false true h = refl
up_state false false false h = refl

own_number : (k : ℕ) → nat_eq k k ≡ true
own_number k = grind (arith, nat_tests)

-- the last device at a path, after another one was mounted
up_live : (old new : Register) (k : ℕ) → ((d : ℕ) → state_at new.states d ≡ (if nat_eq k d then Some true else state_at old.states d)) → (made : List Made) → was_mounted made k ≡ false → (o : Option ℕ) → IfSome o (λ d. was_mounted made d ≡ true) → live_of new.states o ≡ live_of old.states o
up_live old new k sets made unused None was = refl
up_live old new k sets made unused (Some d) was =
    ap (λ s. if unwrap_or s false then Some d else None) (sets d)
    ∙ elim (nat_eq k d) as (λ b. nat_eq k d ≡ b → (if unwrap_or (if b then Some true else state_at old.states d) false then Some d else None) ≡ (if is_up old.states d then Some d else None)) [
      | true ↦ λ e. let there : was_mounted made k ≡ true = ap (was_mounted made) (same_number k d e) ∙ was in cc
      | false ↦ λ _. refl
    ] refl

up_here : (old new : Register) (k : ℕ) → ((d : ℕ) → state_at new.states d ≡ (if nat_eq k d then Some true else state_at old.states d)) → live_of new.states (Some k) ≡ Some k
up_here old new k sets = ap (λ s. if unwrap_or s false then Some k else None) (sets k) ∙ ap (λ b. if unwrap_or (if b then Some true else state_at old.states k) false then Some k else None) (own_number k)

up_standing : (old new : Register) (t : List Step) (k : ℕ) → ((d : ℕ) → state_at new.states d ≡ (if nat_eq k d then Some true else state_at old.states d)) → ((p : List Step) → last_at new.places p ≡ (if path_eq t p then Some k else last_at old.places p))
    → (made : List Made) → was_mounted made k ≡ false → live_at old t ≡ None → IsKept made old → (p : List Step) → standing made p ++ cons_option (if path_eq p t then Some k else None) [] ≡ listed (live_at new p)
up_standing old new t k sets puts made unused free kept p =
    ap (λ b. standing made p ++ cons_option (if b then Some k else None) []) (path_eq-IsEquivalence.symm p t)
    ∙ elim (path_eq t p) as (λ b. path_eq t p ≡ b → standing made p ++ cons_option (if b then Some k else None) [] ≡ listed (live_of new.states (if b then Some k else last_at old.places p))) [
      | true ↦ λ e. ap (λ ds. ds ++ k ∷ []) (kept.standing_at p ∙ ap (λ q. listed (live_at old q)) (sym (same_path t p e)) ∙ ap listed free) ∙ ap listed (sym (up_here old new k sets))
      | false ↦ λ _. append-nil (standing made p) ∙ kept.standing_at p ∙ ap listed (sym (up_live old new k sets made unused (last_at old.places p) (kept.named p)))
    ] refl
    ∙ ap (λ o. listed (live_of new.states o)) (sym (puts p))

stands : (gone : ℕ → Bool) (p t : List Step) (k : ℕ) → gone k ≡ false → stands_at gone p (record { device = k; path = t }) ≡ (if path_eq p t then Some k else None)
stands gone p t k up = ap (λ g. if path_eq p t && not g then Some k else None) up ∙ ap (λ b. if b then Some k else None) (and-true (path_eq p t))

up_named : (t : List Step) (k : ℕ) (p : List Step) (o : Option ℕ) (made more : List Made) → ((d : ℕ) → was_mounted more d ≡ (was_mounted made d || nat_eq k d)) → IfSome o (λ d. was_mounted made d ≡ true) → IfSome (if path_eq t p then Some k else o) (λ d. was_mounted more d ≡ true)
up_named t k p o made more was named = elim (path_eq t p) as (λ b. IfSome (if b then Some k else o) (λ d. was_mounted more d ≡ true)) [
  | true ↦ was k ∙ ap (λ b. was_mounted made k || b) (own_number k) ∙ or-true (was_mounted made k)
  | false ↦ others o named
]
  where
    others : (o : Option ℕ) → IfSome o (λ d. was_mounted made d ≡ true) → IfSome o (λ d. was_mounted more d ≡ true)
    others None h = tt
    others (Some d) h = was d ∙ or_left (was_mounted made d) (nat_eq k d) h

pub up : (old new : Register) (t : List Step) (k : ℕ) → ((d : ℕ) → state_at new.states d ≡ (if nat_eq k d then Some true else state_at old.states d)) → ((p : List Step) → last_at new.places p ≡ (if path_eq t p then Some k else last_at old.places p))
    → (made : List Made) → was_mounted made k ≡ false → live_at old t ≡ None → IsKept made old → IsKept (made ++ record { call = Mount t k; reply = Accepted } ∷ []) new
up old new t k sets puts made unused free kept =
    let m : Made = record { call = Mount t k; reply = Accepted } in
    let x : Mounted = record { device = k; path = t } in
    let more : mounted (made ++ m ∷ []) ≡ mounted made ++ x ∷ [] = mounted-one made m x refl in
    let gone : (d : ℕ) → is_unmounted (made ++ m ∷ []) d ≡ is_unmounted made d = λ d. gone-same made m d refl in
    let was : (d : ℕ) → was_mounted (made ++ m ∷ []) d ≡ (was_mounted made d || nat_eq k d) = λ d. ap (list_any (λ (y : Mounted). nat_eq y.device d)) more ∙ was-one (mounted made) x d in
    let fresh : is_unmounted made k ≡ false = kept.mounted_first k unused in
    let own : (d : ℕ) → nat_eq k d ≡ true → is_unmounted made d ≡ false = λ d e. ap (is_unmounted made) (sym (same_number k d e)) ∙ fresh in
    record {
      states = λ d. sets d ∙ ap (λ s. if nat_eq k d then Some true else s) (kept.states d) ∙ up_state (was_mounted made d) (is_unmounted made d) (nat_eq k d) (own d) ∙ (λ i. state_of (sym (was d) i) (sym (gone d) i));
      standing_at = λ p. (λ i. filter_map (stands_at (λ d. gone d i) p) (more i)) ∙ filter_map-append (stands_at (is_unmounted made) p) (mounted made) (x ∷ []) ∙ ap (λ o. standing made p ++ cons_option o []) (stands (is_unmounted made) p t k fresh) ∙ up_standing old new t k sets puts made unused free kept p;
      named = λ p. subst (λ (o : Option ℕ). IfSome o (λ d. was_mounted (made ++ m ∷ []) d ≡ true)) (sym (puts p)) (up_named t k p (last_at old.places p) made (made ++ m ∷ []) was (kept.named p));
      mounted_first = λ d none. gone d ∙ kept.mounted_first d (or_parts (was_mounted made d) (nat_eq k d) (sym (was d) ∙ none)).0;
    }

-- ---- the calls

pub makes : (old new : Register) (call : MountCall) (reply : MountReply) → new.devices ≡ old.devices → ((made : List Made) → IsKept made old → reply_to old.devices made call ≡ reply) → ((made : List Made) → IsKept made old → IsKept (made ++ record { call = call; reply = reply } ∷ []) new) → Makes old new call reply
makes old new call reply devices answer longer = record {
  devices = devices;
  longer = λ calls kept. subst (λ (made : List Made). IsKept made new) (sym (one_more calls kept)) (longer (made_of old.devices calls) kept);
  answer = λ calls kept. answer (made_of old.devices calls) kept;
}
  where
    one_more : (calls : List MountCall) → IsKept (made_of old.devices calls) old → made_of new.devices (calls ++ call ∷ []) ≡ made_of old.devices calls ++ record { call = call; reply = reply } ∷ []
    one_more calls kept =
        ap (λ n. made_of n (calls ++ call ∷ [])) devices
        ∙ fold-append (make old.devices) [] calls (call ∷ [])
        ∙ ap (λ (r : MountReply). made_of old.devices calls ++ record { call = call; reply = r } ∷ []) (answer (made_of old.devices calls) kept)

-- a refused mount
mount_refused : (r : Register) (p : List Step) (d : ℕ) (fault : MountFault) → refusal_by r p d ≡ Some fault → Makes r r (Mount p d) (Refused fault)
mount_refused r p d fault e = makes r r (Mount p d) (Refused fault) refl
    (λ made kept. ap refused_or (refusal-is made r kept p d ∙ e))
    (λ made kept. quiet made r (Mount p d) (Refused fault) refl (λ _. refl) kept)

pub asked : (r : Register) (p : List Step) (at : Option ℕ) → at ≡ live_at r p → Makes r r (Asks p) (MountAt at)
asked r p at e = makes r r (Asks p) (MountAt at) refl
    (λ made kept. ap MountAt (mount_at-is made r kept p ∙ sym e))
    (λ made kept. quiet made r (Asks p) (MountAt at) refl (λ _. refl) kept)

pub mount_made : (old new : Register) (t : List Step) (k : ℕ) → new.devices ≡ old.devices → refusal_by old t k ≡ None
    → ((d : ℕ) → state_at new.states d ≡ (if nat_eq k d then Some true else state_at old.states d)) → ((p : List Step) → last_at new.places p ≡ (if path_eq t p then Some k else last_at old.places p)) → Makes old new (Mount t k) Accepted
mount_made old new t k devices good sets puts = makes old new (Mount t k) Accepted devices
    (λ made kept. ap refused_or (refusal-is made old kept t k ∙ good))
    (λ made kept. up old new t k sets puts made (sym (was-is made old kept k) ∙ unused old t k good) (free old t k good) kept)

pub unmount_made : (old new : Register) (k : ℕ) → new.devices ≡ old.devices → new.places ≡ old.places → nat_eq k 0 ≡ false → is_up old.states k ≡ true → ((d : ℕ) → state_at new.states d ≡ (if nat_eq k d then Some false else state_at old.states d)) → Makes old new (Unmount k) Accepted
unmount_made old new k devices places device here sets = makes old new (Unmount k) Accepted devices
    (λ made kept. ap (λ b. if b then Accepted else Refused (NoDomain k)) (live_is made old kept k device ∙ here))
    (λ made kept. down old new k sets made places (and_parts (was_mounted made k) (not (is_unmounted made k)) (sym (up-is made old kept k) ∙ here)).0 kept)

pub unmount_refused : (r : Register) (k : ℕ) → (nat_eq k 0 ≡ true) ⊎ (is_up r.states k ≡ false) → Makes r r (Unmount k) (Refused (NoDomain k))
unmount_refused r k why = makes r r (Unmount k) (Refused (NoDomain k)) refl
    (λ made kept. ap (λ b. if b then Accepted else Refused (NoDomain k)) (never made kept why))
    (λ made kept. quiet made r (Unmount k) (Refused (NoDomain k)) refl (λ _. refl) kept)
  where
    never : (made : List Made) → IsKept made r → (nat_eq k 0 ≡ true) ⊎ (is_up r.states k ≡ false) → (not (nat_eq k 0) && is_live made k) ≡ false
    never made kept (inl own) = ap (λ b. not b && is_live made k) own
    never made kept (inr off) = elim (nat_eq k 0) as (λ b. (not b && (b || (was_mounted made k && not (is_unmounted made k)))) ≡ false) [ true ↦ refl | false ↦ sym (up-is made r kept k) ∙ off ]

pub mount_fails : (r : Register) (p : List Step) (d : ℕ) (fault : MountFault) → refusal_by r p d ≡ Some fault → Fails r r (Mount p d) fault
mount_fails r p d (NoDomain id) e = record { made = mount_refused r p d (NoDomain id) e; same = refl }
mount_fails r p d (DeviceUsed id) e = record { made = mount_refused r p d (DeviceUsed id) e; same = refl }
mount_fails r p d (MountTaken id) e = record { made = mount_refused r p d (MountTaken id) e; same = refl }
mount_fails r p d NoMemory e = refl
