-- A member that is taken out of an object: the others stay.
use Rattle.std.proofs.Common.{◌≡◌, ℕ, Bool, true, false, List, [], ◌∷◌, Some, string_bytes, nat_cmp, cond, is_eq, refl, ap, sym, ◌∙◌}
use Rattle.std.proofs.lemmas.Map.Text.{is_eq-slice_cmp}
use Rattle.std.proofs.lemmas.Slice.Eq.{bytes_eq-Decides}
use Rattle.std.specs.Cmp.Lexicographic.{slice_cmp}
use Rattle.std.specs.Ordering.{match_ordering}
use Rattle.std.specs.BTreeMap.{is_at}
use Rattle.std.specs.Map.{remove_entry}
use Rattle.serde_json.specs.Find.{get_member}
use Rattle.serde_json.specs.View.{view, members_view}
use Rattle.serde_json.proofs.Views.{Entry, member_later}

-- a name that is found is the one that was looked for
same_name : (name : List ℕ) (e : Entry) → is_eq (slice_cmp nat_cmp name (string_bytes e.0)) ≡ true → name ≡ string_bytes e.0
same_name name e is = (bytes_eq-Decides name (string_bytes e.0)).0 (sym (is_eq-slice_cmp name (string_bytes e.0)) ∙ is)

others_by : (other : List ℕ) (e : Entry) (es rest : List Entry) (b : Bool) → (b ≡ true → other ≡ string_bytes e.0 → ⊥) → get_member other (members_view rest) ≡ get_member other (members_view es)
    → get_member other (members_view (cond b es (e ∷ rest))) ≡ get_member other (members_view (e ∷ es))
others_by other e es rest true apart later = sym (member_later other e es (apart refl))
others_by other e es rest false apart later = ap (λ r. match_ordering (slice_cmp nat_cmp other (string_bytes e.0)) r (Some (view e.1)) r) later

-- what is under the other names stays
pub others_stay : (name other : List ℕ) (es : List Entry) → (other ≡ name → ⊥) → get_member other (members_view (remove_entry (is_at (λ k. slice_cmp nat_cmp name (string_bytes k))) es)) ≡ get_member other (members_view es)
others_stay name other [] apart = refl
others_stay name other (e ∷ es) apart =
    others_by other e es (remove_entry (is_at (λ k. slice_cmp nat_cmp name (string_bytes k))) es) (is_eq (slice_cmp nat_cmp name (string_bytes e.0))) (λ is h. apart (h ∙ sym (same_name name e is))) (others_stay name other es apart)
