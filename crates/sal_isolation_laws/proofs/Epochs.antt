-- The done transactions of all epochs are one serial history.
use Rattle.std.proofs.Common.{◌≡◌, ℕ, List, [], ◌∷◌, ◌++◌, refl, ap, sym, ◌∙◌, subst, append-nil}
use Rattle.std.specs.Prelude.{map}
use Rattle.std.specs.List.{fold}
use Rattle.std.proofs.lemmas.List.{map-append}
use Rattle.std.proofs.lemmas.List.Sums.{fold-append}
use Rattle.sal_types.specs.declared.value.Store.{Store}
use Rattle.sal_types.specs.declared.row.Row.{Row}
use Rattle.sal_rows.specs.Commits.{tree_after}
use Rattle.sal_history.specs.Answered.{Answered}
use Rattle.sal_history.specs.History.{history, newest_tree, outcomes, sents}
use Rattle.sal_history.specs.Submissions.{Sent, done}
use Rattle.sal_history.specs.World.{opening_of}
use Rattle.sal_history_laws.specs.Serial.{AreSerial, IsOfBegun, played}
use Rattle.sal_history_laws.proofs.Plays.{serialisable}
use Rattle.sal_isolation_laws.specs.Epochs.{AreEpochs, AreSerialOver, Epoch, EpochsAreOneHistory, Told, done_in, done_over, last_epoch, told_in, transactions}

-- the trees after the play are those after the commits
played-trees : (trees : Store → List Row) (ts : List Sent) (s : Store) → fold played trees ts s ≡ tree_after s (trees s) (map (λ (x : Sent). x.ops) ts)
played-trees trees [] s = refl
played-trees trees (t ∷ ts) s = played-trees (played trees t) ts s

-- the transactions of one log, with that log
told : (h : List Answered) (trees : Store → List Row) (ts : List Sent) → AreSerial (IsOfBegun h) trees ts → AreSerialOver trees (map (told_in h) ts)
told h trees [] serial = tt
told h trees (t ∷ ts) serial = (serial.0, told h (played trees t) ts serial.1)

same_transactions : (h : List Answered) (ts : List Sent) → transactions (map (told_in h) ts) ≡ ts
same_transactions h [] = refl
same_transactions h (t ∷ ts) = ap (λ (l : List Sent). t ∷ l) (same_transactions h ts)

-- one list after another
joined : (trees : Store → List Row) (xs ys : List Told) → AreSerialOver trees xs → AreSerialOver (fold played trees (transactions xs)) ys → AreSerialOver trees (xs ++ ys)
joined trees [] ys first second = second
joined trees (x ∷ xs) ys first second = (first.0, joined (played trees x.transaction) xs ys first.1 second)

module _ (domain : ℕ) where
  abbrev own : Epoch → List Sent
  own e = done domain (sents (history e.world e.log)) (outcomes (history e.world e.log))

  -- one epoch
  in_one : (e : Epoch) → AreSerialOver (opening_of e.world domain) (done_in domain e)
  in_one e = told (history e.world e.log) (opening_of e.world domain) (own e) ((serialisable e.world e.log).reads domain)

  newest_played : (e : Epoch) (s : Store) → newest_tree e.world e.log domain s ≡ fold played (opening_of e.world domain) (transactions (done_in domain e)) s
  newest_played e s =
      sym (played-trees (opening_of e.world domain) (own e) s)
      ∙ ap (λ (ts : List Sent). fold played (opening_of e.world domain) ts s) (sym (same_transactions (history e.world e.log) (own e)))

  over : (e : Epoch) (es : List Epoch) → AreEpochs domain e es
      → AreSerialOver (opening_of e.world domain) (done_over domain (e ∷ es))
      × ((s : Store) → newest_tree (last_epoch e es).world (last_epoch e es).log domain s ≡ fold played (opening_of e.world domain) (transactions (done_over domain (e ∷ es))) s)
  over e [] are = (
    subst (AreSerialOver (opening_of e.world domain)) (sym (append-nil (done_in domain e))) (in_one e),
    λ s. newest_played e s ∙ ap (λ (xs : List Told). fold played (opening_of e.world domain) (transactions xs) s) (sym (append-nil (done_in domain e))),
  )
  over e (next ∷ es) are =
      let rest = over next es are.1 in
      let start : Store → List Row = opening_of e.world domain in
      let here : opening_of next.world domain ≡ fold played start (transactions (done_in domain e)) = λ i s. (are.0 s ∙ newest_played e s) i in
      let all : transactions (done_over domain (e ∷ next ∷ es)) ≡ transactions (done_in domain e) ++ transactions (done_over domain (next ∷ es)) =
      map-append (λ (x : Told). x.transaction) (done_in domain e) (done_over domain (next ∷ es)) in (
        joined start (done_in domain e) (done_over domain (next ∷ es)) (in_one e)
            (subst (λ (trees : Store → List Row). AreSerialOver trees (done_over domain (next ∷ es))) here rest.0),
        λ s.
            rest.1 s
            ∙ ap (λ (trees : Store → List Row). fold played trees (transactions (done_over domain (next ∷ es))) s) here
            ∙ sym (ap (λ (f : Store → List Row). f s) (fold-append played start (transactions (done_in domain e)) (transactions (done_over domain (next ∷ es)))))
            ∙ ap (λ (ts : List Sent). fold played start ts s) (sym all),
      )

pub epochs_are_one_history : EpochsAreOneHistory
epochs_are_one_history domain e es are = over domain e es are
