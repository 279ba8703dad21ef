-- The effect of one more call on the mounted and the unmounted devices.
use Rattle.std.proofs.Common.{◌≡◌, ℕ, Bool, true, false, not, ◌&&◌, ◌||◌, List, [], ◌∷◌, ◌++◌, Some, None, refl, ap, ◌∙◌, cond, append-nil, if◌then◌else◌, nat_eq}
use Rattle.std.specs.List.{cons_option, filter, filter_map, list_any}
use Rattle.std.proofs.lemmas.List.Elements.{filter_map-append}
use Rattle.std.proofs.lemmas.List.Folds.{list_any-append}
use Rattle.sal_types.specs.declared.value.Step.{Step}
use Rattle.sal_types.specs.Order.{path_eq}
use Rattle.sal_mount.specs.Mounts.{Made, Mounted, is_unmounted, mounted, mounts, stands_at, unmounts}
use Rattle.sal_types.proofs.Handy.{or-false}

module _ (made : List Made) (m : Made) where
  mounted-more : mounted (made ++ m ∷ []) ≡ mounted made ++ cons_option (mounts m.call m.reply) []
  mounted-more = filter_map-append (λ (a : Made). mounts a.call a.reply) made (m ∷ [])

  gone-more : (d : ℕ) → is_unmounted (made ++ m ∷ []) d ≡ (is_unmounted made d || unmounts m.call m.reply d)
  gone-more d = list_any-append (λ (a : Made). unmounts a.call a.reply d) made (m ∷ []) ∙ ap (λ b. is_unmounted made d || b) (or-false (unmounts m.call m.reply d))

  pub mounted-same : mounts m.call m.reply ≡ None → mounted (made ++ m ∷ []) ≡ mounted made
  mounted-same none = mounted-more ∙ ap (λ o. mounted made ++ cons_option o []) none ∙ append-nil (mounted made)

  pub mounted-one : (x : Mounted) → mounts m.call m.reply ≡ Some x → mounted (made ++ m ∷ []) ≡ mounted made ++ x ∷ []
  mounted-one x some = mounted-more ∙ ap (λ o. mounted made ++ cons_option o []) some

  pub gone-same : (d : ℕ) → unmounts m.call m.reply d ≡ false → is_unmounted (made ++ m ∷ []) d ≡ is_unmounted made d
  gone-same d none = gone-more d ∙ ap (λ b. is_unmounted made d || b) none ∙ or-false (is_unmounted made d)

  pub gone-one : (k d : ℕ) → unmounts m.call m.reply d ≡ nat_eq k d → is_unmounted (made ++ m ∷ []) d ≡ (is_unmounted made d || nat_eq k d)
  gone-one k d one = gone-more d ∙ ap (λ b. is_unmounted made d || b) one

pub was-one : (ms : List Mounted) (x : Mounted) (d : ℕ) → list_any (λ (m : Mounted). nat_eq m.device d) (ms ++ x ∷ []) ≡ (list_any (λ (m : Mounted). nat_eq m.device d) ms || nat_eq x.device d)
was-one ms x d = list_any-append (λ (m : Mounted). nat_eq m.device d) ms (x ∷ []) ∙ ap (λ b. list_any (λ (m : Mounted). nat_eq m.device d) ms || b) (or-false (nat_eq x.device d))

-- when one more device is unmounted it has no place, and all others keep theirs
pub standing-without : (gone : ℕ → Bool) (k : ℕ) (p : List Step) (ms : List Mounted) → filter_map (stands_at (λ d. gone d || nat_eq k d) p) ms ≡ filter (λ d. not (nat_eq k d)) (filter_map (stands_at gone p) ms)
standing-without gone k p [] = refl
standing-without gone k p (m ∷ ms) =
    let L : List ℕ = filter_map (stands_at (λ d. gone d || nat_eq k d) p) ms in
    let R : List ℕ = filter_map (stands_at gone p) ms in
    let others : L ≡ filter (λ d. not (nat_eq k d)) R = standing-without gone k p ms in
    elim (path_eq p m.path) as (λ a. cons_option (if a && not (gone m.device || nat_eq k m.device) then Some m.device else None) L ≡ filter (λ d. not (nat_eq k d)) (cons_option (if a && not (gone m.device) then Some m.device else None) R)) [
      | false ↦ others
      | true ↦ elim (gone m.device) as (λ g. cons_option (if not (g || nat_eq k m.device) then Some m.device else None) L ≡ filter (λ d. not (nat_eq k d)) (cons_option (if not g then Some m.device else None) R)) [
        | true ↦ others
        | false ↦ elim (nat_eq k m.device) as (λ b. cons_option (if not b then Some m.device else None) L ≡ cond (not b) (m.device ∷ filter (λ d. not (nat_eq k d)) R) (filter (λ d. not (nat_eq k d)) R)) [
          | true ↦ others
          | false ↦ ap (λ l. m.device ∷ l) others
        ]
      ]
    ]
