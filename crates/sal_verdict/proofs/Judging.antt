-- The verdict is the one that is meant.
use Rattle.std.proofs.Common.{◌≡◌, ℕ, suc, ◌^◌, ◌<◌, List, [], ◌∷◌, length, slice_get, Option, None, Some, Result, Ok, Err, IsOk, is_some, inl, inr, refl, ap, sym, ◌∙◌, subst, arith}
use Rattle.std.specs.List.{All}
use Rattle.std.specs.Prelude.{unwrap_or}
use Rattle.std.proofs.lemmas.Bool.{true≢false}
use Rattle.std.proofs.lemmas.List.Elements.{All-cons, All-nil}
use Rattle.sal_history.specs.World.{Domain}
use Rattle.sal_script.specs.Moves.{Move}
use Rattle.sal_script.specs.Orders.{PlaysFollow}
use Rattle.sal_script.specs.Play.{Played, play}
use Rattle.sal_script.specs.Report.{report}
use Rattle.sal_script.specs.SomeOrder.{IsReportInSomeOrder}
use Rattle.sal_order.specs.Differences.{DifferencesEndLines, difference}
use Rattle.sal_order.specs.FirstLines.{OrdersAreTold, told_order}
use Rattle.sal_verdict.specs.declared.verdict.Verdict.{Verdict}
use Rattle.sal_verdict.specs.declared.verdict.Verdict.TheVariants.{Yes, No}
use Rattle.sal_verdict.specs.Laws.{VerdictsAreJudged}
use Rattle.sal_verdict.specs.Verdicts.{Differs, IsOrder, Judged, TellsNone, by_difference, by_order, by_play, verdict}

-- numbers of clients are small, if there are few clients
all-known : (m : ℕ) (order : List ℕ) → m < 2 ^ 32 → ((i client : ℕ) → slice_get order i ≡ Some client → client < m) → All (λ n. n < 2 ^ 32) order
all-known m [] small known = All-nil (λ n. n < 2 ^ 32)
all-known m (x ∷ xs) small known =
    let first : x < m = known 0 x refl in
    All-cons (λ n. n < 2 ^ 32) x xs (omega (arith, first, small)) (all-known m xs small (λ i client is. known (suc i) client is))

no-order : {X : Type 0} (order : List ℕ) (o : Option (List ℕ)) → o ≡ None → o ≡ Some order → X
no-order order o none some = absurd (true≢false (sym (ap is_some some) ∙ ap is_some none))

module _ (told : OrdersAreTold) (ends : DifferencesEndLines) (follows : PlaysFollow) (world : List Domain) (clients : List (List Move)) (text : List ℕ) where
  order-is : (order : List ℕ) → IsOrder world clients text order → told_order text ≡ Some order
  order-is order is = (told text order).1 (is.told, is.below)

  is-order : (order : List ℕ) (played : Played) → told_order text ≡ Some order → play world clients order ≡ Ok played → IsOrder world clients text order
  is-order order played is plays =
      let read = (told text order).0 is in
      record { below = read.1; told = read.0; legal = subst (λ (r : Result Played ℕ). IsOk r) (sym plays) refl }

  -- ---- to the verdict

  by-played : (order : List ℕ) (played : Played) (found : Option ℕ) → told_order text ≡ Some order → play world clients order ≡ Ok played → difference 0 text (report world played) ≡ found
      → by_difference found ≡ verdict world clients text
  by-played order played found is plays at = sym (ap (by_order world clients text) is ∙ ap (by_play world text) plays ∙ ap by_difference at)

  to-yes : length clients < 2 ^ 32 → IsReportInSomeOrder world clients text → Yes ≡ verdict world clients text
  to-yes few r =
      let small = all-known (length clients) r.order few (follows world clients r.order r.played r.plays).known in
      by-played r.order r.played None ((told text r.order).1 (r.told, small)) r.plays ((ends text (report world r.played)).0.1 r.written)

  to-no : (line : ℕ) → Differs world clients text line → No line ≡ verdict world clients text
  to-no line d = by-played d.order d.played (Some line) (order-is d.order d.is) d.plays (((ends text (report world d.played)).1 line).1 d.parts)

  none-played : TellsNone world clients text → (order : List ℕ) (r : Result Played ℕ) → told_order text ≡ Some order → play world clients order ≡ r → No 0 ≡ by_play world text r
  none-played none order (Ok played) is plays = absurd (none order (is-order order played is plays))
  none-played none order (Err index) is plays = refl

  none-told : TellsNone world clients text → (o : Option (List ℕ)) → told_order text ≡ o → No 0 ≡ by_order world clients text o
  none-told none None is = refl
  none-told none (Some order) is = none-played none order (play world clients order) is refl

  to-verdict : (it : Verdict) → length clients < 2 ^ 32 → Judged world clients text it → it ≡ verdict world clients text
  to-verdict Yes few r = to-yes few r
  to-verdict (No line) few (inl none) = ap (λ n. No n) none.1 ∙ none-told none.0 (told_order text) refl
  to-verdict (No line) few (inr d) = to-no line d

  -- ---- from it

  from-difference : (order : List ℕ) (played : Played) (found : Option ℕ) → told_order text ≡ Some order → play world clients order ≡ Ok played → difference 0 text (report world played) ≡ found
      → Judged world clients text (by_difference found)
  from-difference order played None is plays at =
      let it = is-order order played is plays in
      record { order = order; told = it.told; legal = it.legal; played = played; plays = plays; written = (ends text (report world played)).0.0 at }
  from-difference order played (Some line) is plays at =
      inr (record { order = order; is = is-order order played is plays; played = played; plays = plays; parts = ((ends text (report world played)).1 line).0 at })

  -- an order that fails is the only one that is stated
  fails-alone : (order : List ℕ) (index : ℕ) → told_order text ≡ Some order → play world clients order ≡ Err index → TellsNone world clients text
  fails-alone order index is fails = λ other it.
      let same : other ≡ order = ap (λ o. unwrap_or o []) (sym (order-is other it) ∙ is) in
      let failed : play world clients other ≡ Err index = ap (play world clients) same ∙ fails in
      true≢false (sym (subst (λ (r : Result Played ℕ). IsOk r) failed it.legal))

  from-play : (order : List ℕ) (r : Result Played ℕ) → told_order text ≡ Some order → play world clients order ≡ r → Judged world clients text (by_play world text r)
  from-play order (Ok played) is plays = from-difference order played (difference 0 text (report world played)) is plays refl
  from-play order (Err index) is fails = inl (fails-alone order index is fails, refl)

  from-order : (o : Option (List ℕ)) → told_order text ≡ o → Judged world clients text (by_order world clients text o)
  from-order None is = inl ((λ order it. no-order order (told_order text) is (order-is order it)), refl)
  from-order (Some order) is = from-play order (play world clients order) is refl

  from-verdict : (it : Verdict) → it ≡ verdict world clients text → Judged world clients text it
  from-verdict it is = subst (λ (v : Verdict). Judged world clients text v) (sym is) (from-order (told_order text) refl)

pub verdicts-are-judged : OrdersAreTold → DifferencesEndLines → PlaysFollow → VerdictsAreJudged
verdicts-are-judged told ends follows world clients text it few = (to-verdict told ends follows world clients text it few, from-verdict told ends follows world clients text it)
