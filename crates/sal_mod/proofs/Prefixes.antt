-- Tests on the prefixes of a path, and the operations at prefixes of it.
use Rattle.std.proofs.Common.{◌≡◌, ℕ, suc, zero, ◌+◌, ◌<◌, ◌≤◌, Bool, true, false, List, [], ◌∷◌, ◌++◌, ◌&&◌, ◌||◌, length, take, drop, Option, Some, None, refl, ap, ◌∙◌, if◌then◌else◌, arith}
use Rattle.std.proofs.lemmas.Bool.{or_parts}
use Rattle.std.proofs.lemmas.Bool.Decides.{nat_tests}
use lib.Dec.{ltb}
use Rattle.std.specs.List.{list_any}
use Rattle.std.specs.Option.{option_map}
use Rattle.std.specs.Ordering.{is_eq, ordering_reverse}
use Rattle.std.specs.declared.cmp.Ordering.{Ordering}
use Rattle.std.specs.declared.cmp.Ordering.TheVariants.{Less, Equal, Greater}
use Rattle.std.specs.FinMap.{find}
use Rattle.sal_types.specs.declared.value.Step.{Step}
use Rattle.sal_types.specs.declared.value.Store.{Store}
use Rattle.sal_types.specs.Order.{step_cmp, path_cmp, path_eq, step_cmp-IsTotalOrder}
use Rattle.sal_types.specs.Prefix.{is_prefix}
use Rattle.sal_rows.specs.declared.op.Act.{Act}
use Rattle.sal_rows.specs.declared.op.Op.{Op}
use Rattle.sal_rows.specs.Apply.{same_store}
use Rattle.sal_rows.proofs.Rising.{and_assoc}
use Rattle.sal_mod.specs.declared.firsts.Firsts.{Firsts}
use Rattle.sal_mod.specs.Covers.{stands_over, stands_at, first_at}
use Rattle.sal_mod.specs.Firsts.{AreFirstBy, places_in}
use Rattle.sal_mod.proofs.Noted.{and_false}
use Rattle.sal_mod.specs.Early.{any_prefix, is_early}
use Rattle.sal_types.proofs.Handy.{then_eq}

pub any_prefix-alike : (f g : List Step → Bool) (p : List Step) → ((q : List Step) → f q ≡ g q) → any_prefix f p ≡ any_prefix g p
any_prefix-alike f g [] h = h []
any_prefix-alike f g (x ∷ p) h = λ i. h [] i || any_prefix-alike (λ q. f (x ∷ q)) (λ q. g (x ∷ q)) p (λ q. h (x ∷ q)) i

or_both : (a b c d : Bool) → ((a || b) || (c || d)) ≡ ((a || c) || (b || d))
or_both true b c d = refl
or_both false true c d = elim c as (λ c. true ≡ (c || true)) [ true ↦ refl | false ↦ refl ]
or_both false false c d = refl

any_prefix-or : (f g : List Step → Bool) (p : List Step) → any_prefix (λ q. f q || g q) p ≡ (any_prefix f p || any_prefix g p)
any_prefix-or f g [] = refl
any_prefix-or f g (x ∷ p) = ap (λ b. (f [] || g []) || b) (any_prefix-or (λ q. f (x ∷ q)) (λ q. g (x ∷ q)) p) ∙ or_both (f []) (g []) (any_prefix (λ q. f (x ∷ q)) p) (any_prefix (λ q. g (x ∷ q)) p)

any_prefix-and : (b : Bool) (f : List Step → Bool) (p : List Step) → any_prefix (λ q. b && f q) p ≡ (b && any_prefix f p)
any_prefix-and true f p = refl
any_prefix-and false f p = none p
  where
    none : (p : List Step) → any_prefix (λ q. false) p ≡ false
    none [] = refl
    none (x ∷ p) = none p

pub any_prefix-none : (p : List Step) → any_prefix (λ q. false) p ≡ false
any_prefix-none [] = refl
any_prefix-none (x ∷ p) = any_prefix-none p

eq_swap : (x y : Step) → is_eq (step_cmp x y) ≡ is_eq (step_cmp y x)
eq_swap x y = ap is_eq (step_cmp-IsTotalOrder.antisymm x y) ∙ turned (step_cmp y x)
  where
    turned : (o : Ordering) → is_eq (ordering_reverse o) ≡ is_eq o
    turned Less = refl
    turned Equal = refl
    turned Greater = refl

-- a path is a prefix exactly if it is one of the other path's prefixes
any-equal : (w p : List Step) → any_prefix (λ q. path_eq q w) p ≡ is_prefix w p
any-equal [] [] = refl
any-equal [] (x ∷ p) = refl
any-equal (y ∷ w) [] = refl
any-equal (y ∷ w) (x ∷ p) =
    any_prefix-alike (λ q. path_eq (x ∷ q) (y ∷ w)) (λ q. is_eq (step_cmp x y) && path_eq q w) p (λ q. then_eq (step_cmp x y) (path_cmp q w))
    ∙ any_prefix-and (is_eq (step_cmp x y)) (λ q. path_eq q w) p
    ∙ (λ i. eq_swap x y i && any-equal w p i)

pub any-over : (t : Act → Bool) (s : Store) (op : Op) (p : List Step) → any_prefix (λ q. stands_at t s q op) p ≡ stands_over t s p op
any-over t s op p =
    any_prefix-and (same_store op.store s) (λ q. t op.act && path_eq q op.path) p
    ∙ ap (λ b. same_store op.store s && b) (any_prefix-and (t op.act) (λ q. path_eq q op.path) p ∙ ap (λ b. t op.act && b) (any-equal op.path p))

early_zero : (o : Option ℕ) → is_early 0 o ≡ false
early_zero None = refl
early_zero (Some n) = grind (arith, nat_tests)

early_suc : (b : ℕ) (c : Bool) (o : Option ℕ) → is_early (suc b) (if c then Some 0 else option_map (λ n. 1 + n) o) ≡ (c || is_early b o)
early_suc b true o = first b
  where
    first : (b : ℕ) → ltb 0 (suc b) ≡ true
    first b = grind (arith, nat_tests)
early_suc b false None = refl
early_suc b false (Some n) = shift n b
  where
    shift : (n b : ℕ) → ltb (1 + n) (suc b) ≡ ltb n b
    shift n b = elim (ltb n b) as (λ c. ltb n b ≡ c → ltb (1 + n) (suc b) ≡ c) [ true ↦ λ e. grind (arith, nat_tests) | false ↦ λ e. grind (arith, nat_tests) ] refl

early-over : (t : Act → Bool) (s : Store) (ops : List Op) (p : List Step) (before : ℕ) → any_prefix (λ q. is_early before (first_at t s ops q)) p ≡ list_any (stands_over t s p) (take before ops)
early-over t s [] p zero = any_prefix-none p
early-over t s [] p (suc b) = any_prefix-none p
early-over t s (op ∷ ops) p zero = any_prefix-alike (λ q. is_early 0 (first_at t s (op ∷ ops) q)) (λ q. false) p (λ q. early_zero (first_at t s (op ∷ ops) q)) ∙ any_prefix-none p
early-over t s (op ∷ ops) p (suc b) =
    any_prefix-alike (λ q. is_early (suc b) (first_at t s (op ∷ ops) q)) (λ q. stands_at t s q op || is_early b (first_at t s ops q)) p (λ q. early_suc b (stands_at t s q op) (first_at t s ops q))
    ∙ any_prefix-or (λ q. stands_at t s q op) (λ q. is_early b (first_at t s ops q)) p
    ∙ (λ i. any-over t s op p i || early-over t s ops p b i)

-- the test by places along the path is the test of the operations
pub early-first : (t : Act → Bool) (s : Store) (ops : List Op) (places : Firsts) (p : List Step) (before : ℕ) → AreFirstBy t ops places
    → any_prefix (λ q. is_early before (find path_cmp q (places_in places s))) p ≡ list_any (stands_over t s p) (take before ops)
early-first t s ops places p before h =
    any_prefix-alike (λ q. is_early before (find path_cmp q (places_in places s))) (λ q. is_early before (first_at t s ops q)) p (λ q. ap (is_early before) (h s q)) ∙ early-over t s ops p before

-- the test of one operation, with store and act first
pub over-paired : (t : Act → Bool) (s : Store) (ops : List Op) (p : List Step) → list_any (stands_over t s p) ops ≡ list_any (λ op. (same_store op.store s && t op.act) && is_prefix op.path p) ops
over-paired t s [] p = refl
over-paired t s (op ∷ ops) p = λ i. and_assoc (same_store op.store s) (t op.act) (is_prefix op.path p) i || over-paired t s ops p i

-- without an operation that passes the test there is none
pub none-over : (t : Act → Bool) (s : Store) (ops : List Op) (p : List Step) → list_any (λ op. t op.act) ops ≡ false → list_any (stands_over t s p) ops ≡ false
none-over t s [] p h = refl
none-over t s (op ∷ ops) p h = λ i.
    and_false (same_store op.store s) (t op.act) (is_prefix op.path p) (or_parts (t op.act) (list_any (λ op. t op.act) ops) h).0 i || none-over t s ops p (or_parts (t op.act) (list_any (λ op. t op.act) ops) h).1 i

-- from one depth to the next
pub any_prefix-next : (f : List Step → Bool) (p : List Step) (d : ℕ) → d < length p → f (take d p) ≡ false → any_prefix (λ q. f (take d p ++ q)) (drop d p) ≡ any_prefix (λ q. f (take (d + 1) p ++ q)) (drop (d + 1) p)
any_prefix-next f [] d l e = absurd (omega arith)
any_prefix-next f (x ∷ p) zero l e = ap (λ b. b || any_prefix (λ q. f (x ∷ q)) p) e
any_prefix-next f (x ∷ p) (suc d) l e =
    any_prefix-next (λ q. f (x ∷ q)) p d (omega arith) e
    ∙ ap (λ n. any_prefix (λ q. f (take n (x ∷ p) ++ q)) (drop n (x ∷ p))) (let q : suc (d + 1) ≡ suc d + 1 = omega arith in q)

pub any_prefix-here : (f : List Step → Bool) (p : List Step) (d : ℕ) → f (take d p) ≡ true → d ≤ length p → any_prefix f p ≡ true
any_prefix-here f [] zero e l = e
any_prefix-here f [] (suc d) e l = absurd (omega arith)
any_prefix-here f (x ∷ p) zero e l = ap (λ b. b || any_prefix (λ q. f (x ∷ q)) p) e
any_prefix-here f (x ∷ p) (suc d) e l = ap (λ b. f [] || b) (any_prefix-here (λ q. f (x ∷ q)) p d e (omega arith)) ∙ or_true (f [])
  where
    or_true : (b : Bool) → (b || true) ≡ true
    or_true true = refl
    or_true false = refl

pub any_prefix-end : (f : List Step → Bool) (p : List Step) (d : ℕ) → length p ≤ d → any_prefix (λ q. f (take d p ++ q)) (drop d p) ≡ f p
any_prefix-end f [] zero l = refl
any_prefix-end f [] (suc d) l = refl
any_prefix-end f (x ∷ p) zero l = absurd (omega arith)
any_prefix-end f (x ∷ p) (suc d) l = any_prefix-end (λ q. f (x ∷ q)) p d (omega arith)
