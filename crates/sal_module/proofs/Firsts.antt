-- Numbers by name, from one name to the next.
use Rattle.std.proofs.Common.{◌≡◌, ℕ, List, false, Option, Some, None, is_some, if◌then◌else◌, refl, ◌∙◌, sym, ap, inl, inr}
use Rattle.std.specs.Prelude.{String}
use Rattle.std.specs.declared.alloc.Global.{Global}
use Rattle.std.specs.BTreeMap.{UpdatesBy, get_by_text}
use Rattle.std.specs.String.{string_bytes, string_cmp}
use Rattle.std.specs.Str.{bytes_eq}
use Rattle.std.specs.Cmp.Lexicographic.{slice_cmp}
use Rattle.std.specs.Ordering.{nat_cmp}
use Rattle.std.proofs.lemmas.Bool.{cases_Bool}
use Rattle.std.proofs.lemmas.Slice.Eq.{bytes_eq-Decides}
use Rattle.std.proofs.lemmas.Map.Text.{btree_map_updates_text}
use Rattle.sal_module.specs.Keywords.{same}
use Rattle.sal_module.specs.Firsts.{Numbers, with_first}

pub with_first-miss : (found : Option ℕ) (k : ℕ) → with_first found false k ≡ found
with_first-miss (Some j) k = refl
with_first-miss None k = refl

pub first-put : (old new : Numbers) (key : String Global) (k : ℕ) → UpdatesBy string_cmp (λ s. slice_cmp nat_cmp (string_bytes key) (string_bytes s)) old new (Some k)
    → (name : List ℕ) → string_bytes key ≡ name → is_some (get_by_text old name) ≡ false → (q : List ℕ) → get_by_text new q ≡ with_first (get_by_text old q) (same name q) k
first-put old new key k updates name is unknown q =
    let here : get_by_text new q ≡ (if bytes_eq name q then Some k else get_by_text old q) =
    btree_map_updates_text (string_bytes key) old new (Some k) updates q ∙ ap (λ n. if bytes_eq n q then Some k else get_by_text old q) is in
    elim (cases_Bool (same name q)) [
      | inl e ↦
          let that : name ≡ q = (bytes_eq-Decides name q).0 e in
          let none : is_some (get_by_text old q) ≡ false = ap (λ n. is_some (get_by_text old n)) (sym that) ∙ unknown in
          here ∙ rw (e, none) refl
      | inr e ↦ here ∙ rw e (sym (with_first-miss (get_by_text old q) k))
    ]
