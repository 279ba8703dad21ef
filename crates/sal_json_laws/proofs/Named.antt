-- An object that members were put into one by one has its names in order, so each once.
use Rattle.std.proofs.Common.{◌≡◌, ℕ, List, [], Some, None, Ordering, Less, Equal, Greater, nat_cmp, unwrap_or, refl, ap, ◌∙◌, subst}
use Rattle.std.proofs.lemmas.Cmp.{nat_list_cmp_total}
use Rattle.std.specs.Prelude.{⊤}
use Rattle.std.specs.Ordering.{match_ordering, ordering_reverse}
use Rattle.std.specs.Cmp.Lexicographic.{slice_cmp}
use Rattle.serde_json.specs.Data.{Data, null, boolean, number, string, array, object, Items, no_items, item, Members, no_members, member, put}
use Rattle.serde_json.specs.Find.{get_member}
use Rattle.sal_json_laws.specs.Json.{HasBytes, IsJson, AreJson, HasJson}
use Rattle.sal_json_laws.proofs.Bytes.{Bytes, bytes-to}

-- the name comes before all of these
abbrev pub IsBefore : List ℕ → Members → Type 0
IsBefore k no_members = ⊤
IsBefore k (member l d ms) = (slice_cmp nat_cmp k l ≡ Less) × IsBefore k ms

abbrev mutual
  pub IsSound : Data → Type 0
  IsSound null = ⊤
  IsSound (boolean b) = ⊤
  IsSound (number x) = ⊤
  IsSound (string t) = Bytes t
  IsSound (array items) = AreSound items
  IsSound (object ms) = HasSound ms

  pub AreSound : Items → Type 0
  AreSound no_items = ⊤
  AreSound (item json items) = IsSound json × AreSound items

  pub HasSound : Members → Type 0
  HasSound no_members = ⊤
  HasSound (member name json ms) = IsBefore name ms × (IsSound json × HasSound ms)

-- ---- a member is put in

before_more : (j k : List ℕ) (ms : Members) → slice_cmp nat_cmp j k ≡ Less → IsBefore k ms → IsBefore j ms
before_more j k no_members e is = tt
before_more j k (member l d ms) e is = (nat_list_cmp_total.trans j k l e is.0, before_more j k ms e is.1)

before_put_at : (o : Ordering) (j k l : List ℕ) (d e : Data) (ms : Members) → slice_cmp nat_cmp j k ≡ Less → IsBefore j (member l e ms) → IsBefore j (put k d ms)
    → IsBefore j (match_ordering o (member k d (member l e ms)) (member l d ms) (member l e (put k d ms)))
before_put_at Less j k l d e ms first is later = (first, is)
before_put_at Equal j k l d e ms first is later = is
before_put_at Greater j k l d e ms first is later = (is.0, later)

before_put : (j k : List ℕ) (d : Data) (ms : Members) → slice_cmp nat_cmp j k ≡ Less → IsBefore j ms → IsBefore j (put k d ms)
before_put j k d no_members first is = (first, tt)
before_put j k d (member l e ms) first is = before_put_at (slice_cmp nat_cmp k l) j k l d e ms first is (before_put j k d ms first is.1)

sound_put_at : (o : Ordering) (k l : List ℕ) (d e : Data) (ms : Members) → slice_cmp nat_cmp k l ≡ o → IsSound d → HasSound (member l e ms) → HasSound (put k d ms)
    → HasSound (match_ordering o (member k d (member l e ms)) (member l d ms) (member l e (put k d ms)))
sound_put_at Less k l d e ms at one is later = ((at, before_more k l ms at is.0), (one, is))
sound_put_at Equal k l d e ms at one is later = (is.0, (one, is.1.1))
sound_put_at Greater k l d e ms at one is later =
    let turned : slice_cmp nat_cmp l k ≡ Less = nat_list_cmp_total.antisymm l k ∙ ap ordering_reverse at in
    (before_put l k d ms turned is.0, (is.1.0, later))

pub sound_put : (k : List ℕ) (d : Data) (ms : Members) → IsSound d → HasSound ms → HasSound (put k d ms)
sound_put k d no_members one is = (tt, (one, tt))
sound_put k d (member l e ms) one is = sound_put_at (slice_cmp nat_cmp k l) k l d e ms refl one is (sound_put k d ms one is.1.1)

-- ---- in order, so apart

before_apart : (k : List ℕ) (ms : Members) → IsBefore k ms → get_member k ms ≡ None
before_apart k no_members is = refl
before_apart k (member l d ms) is = ap (λ o. match_ordering o (get_member k ms) (Some d) (get_member k ms)) is.0 ∙ before_apart k ms is.1

pub has_bytes : (t : List ℕ) → Bytes t → HasBytes (string t)
has_bytes t is = λ u e. bytes-to u (subst Bytes (ap (λ o. unwrap_or o []) e) is)

mutual
  pub sound_json : (json : Data) → IsSound json → IsJson json
  sound_json null is = tt
  sound_json (boolean b) is = tt
  sound_json (number x) is = tt
  sound_json (string t) is = has_bytes t is
  sound_json (array items) is = sound_items items is
  sound_json (object ms) is = sound_members ms is

  sound_items : (items : Items) → AreSound items → AreJson items
  sound_items no_items is = tt
  sound_items (item json items) is = (sound_json json is.0, sound_items items is.1)

  sound_members : (ms : Members) → HasSound ms → HasJson ms
  sound_members no_members is = tt
  sound_members (member name json ms) is = (before_apart name ms is.0, (sound_json json is.1.0, sound_members ms is.1.1))
