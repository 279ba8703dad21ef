-- The follower's state after bytes, frame by frame.
use Rattle.std.proofs.Common.{◌≡◌, ℕ, List, [], ◌∷◌, ◌++◌, length, drop, Option, None, if◌then◌else◌, refl, ap, sym, subst, ◌∙◌, append_assoc}
use Rattle.std.specs.Prelude.{is_some}
use Rattle.std.specs.List.{fold, concat}
use Rattle.std.proofs.lemmas.List.{append-nil}
use Rattle.std.proofs.lemmas.List.Sums.{fold-append}
use Rattle.sal_schema.specs.declared.table.SchemaTable.{SchemaTable}
use Rattle.sal_follow.specs.declared.fault.FollowFault.{FollowFault}
use Rattle.sal_follow.specs.declared.fault.FollowFault.TheVariants.{BadFrame}
use Rattle.sal_follow.specs.declared.front.Front.{Front}
use Rattle.sal_follow.specs.declared.front.Front.TheVariants.{Part, Broken, Whole}
use Rattle.sal_follow.specs.Front.{front, text_in, size_of}
use Rattle.sal_follow.specs.Stream.{Held, failed, taken, judged, after_byte, followed}
use Rattle.sal_follow.proofs.Fronts.{stays, text-stays, at_last_byte}

-- after a fault nothing changes
pub stays_failed : (table : SchemaTable) (h : Held) (fault : FollowFault) (bytes : List ℕ) → followed table (failed h fault) bytes ≡ failed h fault
unfolding followed
stays_failed table h fault [] = refl
stays_failed table h fault (b ∷ bytes) = stays_failed table h fault bytes

no_part-broken : (f : Front) → f ≡ Broken → f ≡ Part → ⊥
no_part-broken f e part = cc

no_part-whole : (f : Front) (n : ℕ) → f ≡ Whole n → f ≡ Part → ⊥
no_part-whole f n e part = cc

drop-all : (x y : List ℕ) (n : ℕ) → length x ≡ n → drop n (x ++ y) ≡ y
drop-all [] y n e = ap (λ k. drop k y) (sym e)
drop-all (c ∷ x) y n e = ap (λ k. drop k (c ∷ (x ++ y))) (sym e) ∙ drop-all x y (length x) refl

module _ (table : SchemaTable) (h : Held) (going : h.fault ≡ None) where
  -- the same with these bytes of an unfinished frame
  abbrev pub at_rest : List ℕ → Held
  at_rest r = record h { rest = r }

  -- the state after more bytes, if `all` has all bytes from the unfinished frame on, and what they begin with
  abbrev Said : List ℕ → List ℕ → List ℕ → Front → Type 0
  Said r bytes all Part = followed table (at_rest r) bytes ≡ at_rest all
  Said r bytes all Broken = followed table (at_rest r) bytes ≡ failed h (BadFrame h.at)
  Said r bytes all (Whole n) = followed table (at_rest r) bytes ≡ followed table (taken table h (size_of n) (text_in all n)) (drop (size_of n) all)

  one_byte : (r : List ℕ) (b : ℕ) (f : Front) → front (r ++ b ∷ []) ≡ f → after_byte table (at_rest r) b ≡ judged table (at_rest (r ++ b ∷ [])) f
  one_byte r b f e =
      ap (λ (o : Option FollowFault). if is_some o then at_rest r else judged table (at_rest (r ++ b ∷ [])) (front (r ++ b ∷ []))) going ∙ ap (judged table (at_rest (r ++ b ∷ []))) e

  said_more : (r r' bytes bytes' all : List ℕ) (f : Front) → followed table (at_rest r) bytes ≡ followed table (at_rest r') bytes' → Said r' bytes' all f → Said r bytes all f
  said_more r r' bytes bytes' all Part same said = same ∙ said
  said_more r r' bytes bytes' all Broken same said = same ∙ said
  said_more r r' bytes bytes' all (Whole n) same said = same ∙ said

  pub said : (bytes r : List ℕ) → front r ≡ Part → Said r bytes (r ++ bytes) (front (r ++ bytes))
  unfolding followed
  said [] r part = subst (λ (all : List ℕ). Said r [] all (front all)) (sym (append-nil r)) (subst (Said r [] r) (sym part) refl)
  said (b ∷ bytes) r part =
      let now : List ℕ = r ++ b ∷ [] in
      let Goal : Type 0 = Said r (b ∷ bytes) (now ++ bytes) (front (now ++ bytes)) in
      subst (λ (all : List ℕ). Said r (b ∷ bytes) all (front all)) (append_assoc r (b ∷ []) bytes)
      (elim (front now) as (λ f. front now ≡ f → Goal) [
        | Part ↦ λ e. said_more r now (b ∷ bytes) bytes (now ++ bytes) (front (now ++ bytes)) (ap (λ s. followed table s bytes) (one_byte r b Part e)) (said bytes now e)
        | Broken ↦ λ e. subst (Said r (b ∷ bytes) (now ++ bytes)) (sym (stays now bytes (no_part-broken (front now) e) ∙ e))
            (ap (λ s. followed table s bytes) (one_byte r b Broken e) ∙ stays_failed table h (BadFrame h.at) bytes)
        | Whole n ↦ λ e. subst (Said r (b ∷ bytes) (now ++ bytes)) (sym (stays now bytes (no_part-whole (front now) n e) ∙ e))
            (ap (λ s. followed table s bytes) (one_byte r b (Whole n) e)
            ∙ (λ i. followed table (taken table h (size_of n) (sym (text-stays now bytes n e) i)) (sym (drop-all now bytes (size_of n) (at_last_byte r b n part e)) i)))
      ] refl)

  -- from the first byte of a frame on
  pub part-held : (bytes : List ℕ) → front bytes ≡ Part → followed table (at_rest []) bytes ≡ at_rest bytes
  part-held bytes e = subst (Said [] bytes bytes) e (said bytes [] refl)

  pub broken-held : (bytes : List ℕ) → front bytes ≡ Broken → followed table (at_rest []) bytes ≡ failed h (BadFrame h.at)
  broken-held bytes e = subst (Said [] bytes bytes) e (said bytes [] refl)

  pub whole-held : (bytes : List ℕ) (n : ℕ) → front bytes ≡ Whole n → followed table (at_rest []) bytes ≡ followed table (taken table h (size_of n) (text_in bytes n)) (drop (size_of n) bytes)
  whole-held bytes n e = subst (Said [] bytes bytes) e (said bytes [] refl)

-- pieces one after another are their bytes one after another
pub pieces : (table : SchemaTable) (h : Held) (ps : List (List ℕ)) → fold (followed table) h ps ≡ followed table h (concat ps)
unfolding followed
pieces table h [] = refl
pieces table h (p ∷ ps) = pieces table (followed table h p) ps ∙ sym (fold-append (after_byte table) h p (concat ps))

-- with no byte of a frame so far
same_rest : (h : Held) → h.rest ≡ [] → record h { rest = [] } ≡ h
same_rest h none = λ i. record h { rest = sym none i }

pub whole-taken : (table : SchemaTable) (h : Held) (bytes : List ℕ) (n : ℕ) → h.fault ≡ None → h.rest ≡ [] → front bytes ≡ Whole n
    → followed table h bytes ≡ followed table (taken table h (size_of n) (text_in bytes n)) (drop (size_of n) bytes)
whole-taken table h bytes n going none e = ap (λ s. followed table s bytes) (sym (same_rest h none)) ∙ whole-held table h going bytes n e
