-- The effect of one more call on requests, on delivered ones and on answers.
use Rattle.std.proofs.Common.{◌≡◌, ℕ, false, ◌||◌, List, [], ◌∷◌, ◌++◌, Option, Some, None, refl, ap, ◌∙◌}
use Rattle.std.specs.Prelude.{slice_get}
use Rattle.std.specs.List.{cons_option, filter_map}
use Rattle.std.specs.Option.{option_or}
use Rattle.std.proofs.lemmas.List.Elements.{filter_map-append}
use Rattle.std.proofs.lemmas.List.Folds.{list_any-append}
use Rattle.std.proofs.lemmas.List.Sums.{fold-append}
use Rattle.sal_types.specs.declared.row.Row.{Row}
use Rattle.sal_rpc.specs.Routing.{Made, Registration, answer_to, answers, hands, is_handed, live, live_after, requested, requests}
pub use Rattle.sal_types.proofs.Handy.{on_err, or-false}

first-rows : (xs : List (List Row)) (o : Option (List Row)) → slice_get (xs ++ cons_option o []) 0 ≡ option_or (slice_get xs 0) o
first-rows [] None = refl
first-rows [] (Some r) = refl
first-rows (x ∷ xs) o = refl

module _ (made : List Made) (m : Made) where
  pub live-more : live (made ++ m ∷ []) ≡ live_after (live made) m.client m.call m.reply
  live-more = fold-append (λ (rs : List Registration) (a : Made). live_after rs a.client a.call a.reply) [] made (m ∷ [])

  pub requests-more : requests (made ++ m ∷ []) ≡ requests made ++ cons_option (requested m.client m.owner m.call) []
  requests-more = filter_map-append (λ (a : Made). requested a.client a.owner a.call) made (m ∷ [])

  pub handed-more : (id : ℕ) → is_handed (made ++ m ∷ []) id ≡ (is_handed made id || hands m.reply id)
  handed-more id = list_any-append (λ (a : Made). hands a.reply id) made (m ∷ []) ∙ ap (λ b. is_handed made id || b) (or-false (hands m.reply id))

  pub answer-more : (id : ℕ) → answer_to (made ++ m ∷ []) id ≡ option_or (answer_to made id) (answers m.call m.reply id)
  answer-more id =
      ap (λ (l : List (List Row)). slice_get l 0) (filter_map-append (λ (a : Made). answers a.call a.reply id) made (m ∷ []))
      ∙ first-rows (filter_map (λ (a : Made). answers a.call a.reply id) made) (answers m.call m.reply id)
