-- Members and items that are written one after another, and the cells that are counted so.
use Rattle.std.proofs.Common.{◌≡◌, ℕ, zero, suc, ◌+◌, ◌<◌, ◌≤◌, Bool, true, false, List, [], ◌∷◌, ◌++◌, length, drop, take, get_or, Some, refl, ap, sym, ◌∙◌, append_assoc, append-nil, arith, Bor, Result, Ok, Err, IfOk, OnOk}
use Rattle.serde_json.specs.Data.{Data, Members, no_members}
use Rattle.serde_json.specs.View.{items_of}
use Rattle.serde_json.specs.Written.{items_text, members_text}
use Rattle.sal_node.specs.declared.node.Child.{Child}
use Rattle.sal_node.specs.Shape.{seen}
use Rattle.sal_tree_text.specs.Trees.{Children}

-- ---- pieces of text

-- a member after a text, before others
pub member_text : (old comma name value rest one two three four : List ℕ) → one ≡ old ++ comma → two ≡ one ++ name → three ≡ two ++ 58 ∷ [] → four ≡ three ++ value
    → four ++ rest ≡ old ++ (comma ++ (name ++ 58 ∷ (value ++ rest)))
member_text old comma name value rest one two three four a b c d =
    ap (λ t. t ++ rest) (d ∙ ap (λ t. t ++ value) (c ∙ ap (λ t. t ++ 58 ∷ []) (b ∙ ap (λ t. t ++ name) a)))
    ∙ append_assoc (((old ++ comma) ++ name) ++ 58 ∷ []) value rest ∙ append_assoc ((old ++ comma) ++ name) (58 ∷ []) (value ++ rest)
    ∙ append_assoc (old ++ comma) name (58 ∷ (value ++ rest)) ∙ append_assoc old comma (name ++ 58 ∷ (value ++ rest))

-- an item after a text, before others
pub item_text : (old comma value rest one two : List ℕ) → one ≡ old ++ comma → two ≡ one ++ value → two ++ rest ≡ old ++ (comma ++ (value ++ rest))
item_text old comma value rest one two a b =
    ap (λ t. t ++ rest) (b ∙ ap (λ t. t ++ value) a) ∙ append_assoc (old ++ comma) value rest ∙ append_assoc old comma (value ++ rest)

-- brackets round what was written
pub in_brackets : (old inner opened closed : List ℕ) (open_byte : ℕ) → opened ≡ old ++ open_byte ∷ [] → closed ≡ opened ++ inner → closed ≡ old ++ open_byte ∷ inner
in_brackets old inner opened closed b a c = c ∙ ap (λ t. t ++ inner) a ∙ append_assoc old (b ∷ []) inner

-- ---- children one after another

pub seen-drop : (cs : List (Bor Child)) (i : ℕ) (c : Bor Child) → i < length cs → c ≡ get_or cs i c → drop i (seen cs) ≡ (c.now.step, c.now.node.value) ∷ drop (i + 1) (seen cs)
seen-drop [] i c l at = absurd (omega arith)
seen-drop (d ∷ cs) zero c l at = ap (λ (e : Bor Child). (e.now.step, e.now.node.value) ∷ seen cs) (sym at)
seen-drop (d ∷ cs) (suc i) c l at = seen-drop cs i c (omega arith) at ∙ ap (λ n. (c.now.step, c.now.node.value) ∷ drop n (seen (d ∷ cs))) (let q : suc (i + 1) ≡ suc i + 1 = omega arith in q)

pub seen-past : (cs : List (Bor Child)) (i : ℕ) → length cs ≤ i → drop i (seen cs) ≡ []
seen-past [] zero l = refl
seen-past [] (suc i) l = refl
seen-past (d ∷ cs) zero l = absurd (omega arith)
seen-past (d ∷ cs) (suc i) l = seen-past cs i (omega arith)

-- ---- what holds of a result

pub if_ok : {A E : Type 0} (P Q : A → Type 0) (r : Result A E) → ((a : A) → P a → Q a) → IfOk r P → IfOk r Q
if_ok P Q (Ok a) f h = f a h
if_ok P Q (Err e) f h = h

pub on_ok : {A E : Type 0} (P Q : Type 0) (r : Result A E) → (P → Q) → OnOk r P → OnOk r Q
on_ok P Q (Ok a) f h = f h
on_ok P Q (Err e) f h = h
