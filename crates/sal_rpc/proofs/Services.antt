-- Who provides what, once one more registers or one withdraws.
use Rattle.std.proofs.Common.{◌≡◌, ℕ, Bool, true, false, not, ◌&&◌, List, [], ◌∷◌, ◌++◌, Option, Some, None, refl, ap, sym, ◌∙◌, cond, arith, if◌then◌else◌, nat_eq}
use Rattle.std.proofs.lemmas.Bool.{and_parts}
use Rattle.std.specs.Prelude.{slice_get}
use Rattle.std.specs.List.{cons_option, filter, filter_map}
use Rattle.std.specs.Option.{is_some, option_cmp, option_map_or, option_or}
use Rattle.std.specs.BTreeMap.{is_at}
use Rattle.std.specs.Cmp.{Equal-is, tied_itself}
use Rattle.std.specs.FinMap.{nat_cmp-IsAntisymmetric}
use Rattle.std.specs.Ordering.{is_eq, nat_cmp}
use Rattle.std.specs.declared.cmp.Ordering.TheVariants.{Equal}
use Rattle.std.proofs.lemmas.Bool.Decides.{nat_tests}
use Rattle.std.proofs.lemmas.List.Elements.{filter_map-append}
use Rattle.sal_types.specs.declared.value.Step.{Step}
use Rattle.sal_types.specs.Order.{path_cmp, path_cmp-IsAntisymmetric, path_eq-IsEquivalence, then-first, then-second}
use Rattle.sal_rpc.specs.declared.routes.Service.{Service}
use Rattle.sal_rpc.specs.contracts.routes.ServiceOrd.TheImpl.Laws as service_ord_laws
use Rattle.sal_rpc.specs.Routes.{service, service_cmp}
use Rattle.sal_rpc.specs.Routing.{Registration, is_for, same_context}
use Rattle.sal_rows.proofs.Cells.{same_path}

option_cmp-IsAntisymmetric : (a b : Option (List Step)) → option_cmp path_cmp a b ≡ Equal → a ≡ b
option_cmp-IsAntisymmetric None None e = refl
option_cmp-IsAntisymmetric None (Some q) e = cc
option_cmp-IsAntisymmetric (Some p) None e = cc
option_cmp-IsAntisymmetric (Some p) (Some q) e = ap Some (path_cmp-IsAntisymmetric p q e)

pub same_service : (s t : Service) → is_at (service_cmp s) t ≡ true → s ≡ t
same_service s t e =
    let equal : service_cmp s t ≡ Equal = (Equal-is (service_cmp s t)).0 e in
    let rpc : s.rpc ≡ t.rpc = nat_cmp-IsAntisymmetric _ _ (then-first _ _ equal) in
    let context : s.context ≡ t.context = option_cmp-IsAntisymmetric _ _ (then-second (nat_cmp s.rpc t.rpc) _ equal) in
    λ i. record { rpc = rpc i; context = context i }

pub own_service : (s : Service) → is_at (service_cmp s) s ≡ true
own_service s = ap is_eq (tied_itself service_ord_laws.total-law s)

context-is : (a b : Option (List Step)) → same_context a b ≡ true → a ≡ b
context-is None None e = refl
context-is None (Some q) e = cc
context-is (Some p) None e = cc
context-is (Some p) (Some q) e = ap Some (same_path p q e)

context-own : (a : Option (List Step)) → same_context a a ≡ true
context-own None = refl
context-own (Some p) = path_eq-IsEquivalence.refl p

-- the registration is for a service where it has this RPC and this context
for-is : (s : Service) (r : Registration) → is_for s.rpc s.context r ≡ true → service r.rpc r.context ≡ s
for-is s r e =
    let parts = and_parts (nat_eq r.rpc s.rpc) (same_context r.context s.context) e in
    let number : nat_eq r.rpc s.rpc ≡ true = parts.0 in
    let rpc : r.rpc ≡ s.rpc = grind (arith, nat_tests) in
    let context : r.context ≡ s.context = context-is r.context s.context parts.1 in
    λ i. record { rpc = rpc i; context = context i }

for-own : (r : Registration) → is_for r.rpc r.context r ≡ true
for-own r = let own : nat_eq r.rpc r.rpc ≡ true = grind (arith, nat_tests) in ap (λ b. b && same_context r.context r.context) own ∙ context-own r.context

no_yes : (b : Bool) → (b ≡ true → ⊥) → b ≡ false
no_yes true h = absurd (h refl)
no_yes false h = refl

-- whether the registration is for the service, by the order of services
pub for-test : (s : Service) (r : Registration) → is_for s.rpc s.context r ≡ is_at (service_cmp (service r.rpc r.context)) s
for-test s r = elim (is_at (service_cmp (service r.rpc r.context)) s) as (λ b. is_at (service_cmp (service r.rpc r.context)) s ≡ b → is_for s.rpc s.context r ≡ b) [
  | true ↦ λ e. let same : service r.rpc r.context ≡ s = same_service (service r.rpc r.context) s e in ap (λ (t : Service). is_for t.rpc t.context r) (sym same) ∙ for-own r
  | false ↦ λ e. no_yes (is_for s.rpc s.context r) (λ yes. let own : is_at (service_cmp (service r.rpc r.context)) s ≡ true = ap (is_at (service_cmp (service r.rpc r.context))) (sym (for-is s r yes)) ∙ own_service (service r.rpc r.context) in let no : true ≡ false = sym own ∙ e in cc)
] refl

-- the client of the first of these registrations that is for the service
abbrev pub picked : Service → List Registration → Option ℕ
picked s rs = slice_get (filter_map (λ (r : Registration). if is_for s.rpc s.context r then Some r.client else None) rs) 0

first-of : (xs ys : List ℕ) → slice_get (xs ++ ys) 0 ≡ option_or (slice_get xs 0) (slice_get ys 0)
first-of [] ys = refl
first-of (x ∷ xs) ys = refl

-- one more client registers, for a service without a provider
pub picked-more : (s : Service) (rs : List Registration) (r : Registration) → picked (service r.rpc r.context) rs ≡ None → picked s (rs ++ r ∷ []) ≡ (if is_at (service_cmp (service r.rpc r.context)) s then Some r.client else picked s rs)
picked-more s rs r free =
    ap (λ (l : List ℕ). slice_get l 0) (filter_map-append (λ (q : Registration). if is_for s.rpc s.context q then Some q.client else None) rs (r ∷ []))
    ∙ first-of (filter_map (λ (q : Registration). if is_for s.rpc s.context q then Some q.client else None) rs) _
    ∙ ap (λ b. option_or (picked s rs) (slice_get (cons_option (if b then Some r.client else None) []) 0)) (for-test s r)
    ∙ elim (is_at (service_cmp (service r.rpc r.context)) s) as (λ b. is_at (service_cmp (service r.rpc r.context)) s ≡ b → option_or (picked s rs) (slice_get (cons_option (if b then Some r.client else None) []) 0) ≡ (if b then Some r.client else picked s rs)) [
      | true ↦ λ e. ap (λ o. option_or o (Some r.client)) (ap (λ (t : Service). picked t rs) (sym (same_service (service r.rpc r.context) s e)) ∙ free)
      | false ↦ λ e. or-none (picked s rs)
    ] refl
  where
    or-none : (o : Option ℕ) → option_or o None ≡ o
    or-none None = refl
    or-none (Some x) = refl

either_none : (b : Bool) (o : Option ℕ) → o ≡ None → o ≡ (if b then None else o)
either_none true o e = e
either_none false o e = refl

-- the registration for a service ends
pub picked-without : (s t : Service) (rs : List Registration) → picked s (filter (λ (r : Registration). not (is_for t.rpc t.context r)) rs) ≡ (if is_at (service_cmp t) s then None else picked s rs)
picked-without s t [] = either_none (is_at (service_cmp t) s) None refl
picked-without s t (r ∷ rs) =
    let F : List Registration = filter (λ (q : Registration). not (is_for t.rpc t.context q)) rs in
    let rest : picked s F ≡ (if is_at (service_cmp t) s then None else picked s rs) = picked-without s t rs in
    let pick : Registration → Option ℕ = λ q. if is_for s.rpc s.context q then Some q.client else None in
    elim (is_for t.rpc t.context r) as (λ b. is_for t.rpc t.context r ≡ b → picked s (cond (not b) (r ∷ F) F) ≡ (if is_at (service_cmp t) s then None else slice_get (cons_option (pick r) (filter_map pick rs)) 0)) [
      | true ↦ λ e. rest ∙ elim (is_at (service_cmp t) s) as (λ b. is_at (service_cmp t) s ≡ b → (if b then None else picked s rs) ≡ (if b then None else slice_get (cons_option (pick r) (filter_map pick rs)) 0)) [
        | true ↦ λ _. refl
        | false ↦ λ apart. let of_t : service r.rpc r.context ≡ t = for-is t r e in
            let other : is_for s.rpc s.context r ≡ false = for-test s r ∙ ap (λ (u : Service). is_at (service_cmp u) s) of_t ∙ apart in
            sym (ap (λ b. slice_get (cons_option (if b then Some r.client else None) (filter_map pick rs)) 0) other)
      ] refl
      | false ↦ λ e. elim (is_for s.rpc s.context r) as (λ b. is_for s.rpc s.context r ≡ b → slice_get (cons_option (if b then Some r.client else None) (filter_map pick F)) 0 ≡ (if is_at (service_cmp t) s then None else slice_get (cons_option (if b then Some r.client else None) (filter_map pick rs)) 0)) [
        | true ↦ λ yes. let apart : is_at (service_cmp t) s ≡ false = ap (λ (u : Service). is_at (service_cmp t) u) (sym (for-is s r yes)) ∙ turned t (service r.rpc r.context) ∙ sym (for-test t r) ∙ e in
            sym (ap (λ b. if b then None else Some r.client) apart)
        | false ↦ λ _. rest
      ] refl
    ] refl
  where
    turned : (a b : Service) → is_at (service_cmp a) b ≡ is_at (service_cmp b) a
    turned a b = elim (is_at (service_cmp b) a) as (λ z. is_at (service_cmp b) a ≡ z → is_at (service_cmp a) b ≡ z) [
      | true ↦ λ e. ap (λ (u : Service). is_at (service_cmp a) u) (same_service b a e) ∙ own_service a
      | false ↦ λ e. no_yes (is_at (service_cmp a) b) (λ yes. let back : is_at (service_cmp b) a ≡ true = ap (λ (u : Service). is_at (service_cmp b) u) (same_service a b yes) ∙ own_service b in let no : true ≡ false = sym back ∙ e in cc)
    ] refl

pub none-of : (o : Option ℕ) → is_some o ≡ false → o ≡ None
none-of None e = refl
none-of (Some x) e = cc

pub own-of : (o : Option ℕ) (client : ℕ) → option_map_or (λ (c : ℕ). nat_eq c client) o false ≡ true → o ≡ Some client
own-of None client e = cc
own-of (Some c) client e = let same : c ≡ client = grind (arith, nat_tests) in ap Some same
