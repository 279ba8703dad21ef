-- The followers of a stand-by.
use Rattle.std.proofs.Common.{◌≡◌, ◌&&◌, ℕ, zero, suc, ◌+◌, ◌<◌, ◌≤◌, Bool, true, false, List, [], ◌∷◌, ◌++◌, append_assoc, drop, length, map, get_or, Option, None, Some, Result, Ok, Err, refl, ap, sym, ◌∙◌, subst, arith}
use Rattle.std.proofs.lemmas.List.{at_drop_more, append-nil, drop_all, get_or-set_other, get_or-set_same, length-map, length-set}
use Rattle.std.specs.Prelude.{⊤, IfOk, nat_lt, slice_set, unwrap_or}
use Rattle.std.specs.Option.{is_some}
use Rattle.std.proofs.lemmas.Bool.Decides.{nat_tests}
use Rattle.std.specs.declared.alloc.Global.{Global}
use Rattle.std.specs.declared.sync.Arc.{Arc}
use Rattle.sal_schema.specs.declared.table.SchemaTable.{SchemaTable}
use Rattle.sal_prepare.specs.Scripted.{tables_in}
use Rattle.sal_script.specs.Tables.{last_among}
use Rattle.sal_cluster.specs.declared.bases.Bases.{Bases}
use Rattle.sal_cluster.specs.declared.standby.Standing.{Standing}
use Rattle.sal_cluster.specs.Numbers.{base_of}
use Rattle.sal_history.specs.declared.opening.Opening.{Opening}
use Rattle.sal_follow.specs.declared.fault.FollowFault.{FollowFault}
use Rattle.sal_follow.specs.States.{Following}
use Rattle.sal_follow.specs.Stream.{fresh_at}
use Rattle.sal_cluster.specs.StandBys.{FeedsAt, KeepsUp, Takes, before_from, first_of, follower_at, nobody, number_held, opening_held, trees_by, trees_given}

-- as many as there are schemas
pub as_many : (firsts : List ℕ) (n : ℕ) (tables : List SchemaTable) → length (before_from firsts n tables) ≡ length tables
as_many firsts n [] = refl
as_many firsts n (t ∷ tables) = ap suc (as_many firsts (n + 1) tables)

pub at_index : (fs : List Following) (n : ℕ) (f : Following) → n < length fs → f ≡ get_or fs n f → f ≡ follower_at fs n
at_index [] n f inside is = absurd (omega (arith, inside))
at_index (x ∷ fs) zero f inside is = is
at_index (x ∷ fs) (suc n) f inside is = at_index fs n f (omega (arith, inside)) is

pub past_all : (fs : List Following) (n : ℕ) → length fs ≤ n → follower_at fs n ≡ nobody
past_all [] n past = refl
past_all (x ∷ fs) zero past = absurd (omega (arith, past))
past_all (x ∷ fs) (suc n) past = past_all fs n (omega (arith, past))

-- ---- as many followers as domains

module _ (it : Standing) (many : length it.followers.items ≡ length it.ground.readers) where
  as_schemas : length it.followers.items ≡ length it.ground.schemas.items
  as_schemas =
      many ∙ sym (length-map it.ground.readers last_among) ∙ sym (ap length it.ground.tables) ∙ length-map it.ground.schemas.items (λ (s : Arc SchemaTable Global). s.value)

  pub some_followed : 1 ≤ length it.followers.items
  some_followed = let same = as_schemas in let some = it.ground.some in omega (arith, same, some)

  pub few_followed : length it.followers.items ≤ 64
  few_followed = let same = as_schemas in let short = it.ground.short in omega (arith, same, short)

-- ---- one follower after another

module _ (firsts : List ℕ) (schemas : List (Arc SchemaTable Global)) (n : ℕ) where
  pub next_before : (s : Arc SchemaTable Global) (done : List Following) (first : ℕ) (f : Following) {total : List Following} → n < length schemas → s ≡ get_or schemas n s → first ≡ first_of firsts n
      → f ≡ record { schema = s.value; held = fresh_at first } → done ++ before_from firsts n (tables_in (drop n schemas)) ≡ total
      → (done ++ f ∷ []) ++ before_from firsts (n + 1) (tables_in (drop (n + 1) schemas)) ≡ total
  next_before s done first f inside at given is so_far =
      let rest = before_from firsts (n + 1) (tables_in (drop (n + 1) schemas)) in
      let by : Arc SchemaTable Global → ℕ → Following = λ a m. record { schema = a.value; held = fresh_at m } in
      let one : f ≡ by (get_or schemas n s) (first_of firsts n) = is ∙ (λ i. by (at i) (given i)) in
      append_assoc done (f ∷ []) rest ∙ ap (λ (g : Following). done ++ g ∷ rest) one
      ∙ ap (λ (gs : List Following). done ++ gs) (sym (at_drop_more (λ ss. before_from firsts n (tables_in ss)) schemas n s inside)) ∙ so_far

  pub all_before : (done total : List Following) → length schemas ≤ n → done ++ before_from firsts n (tables_in (drop n schemas)) ≡ total → done ≡ total
  all_before done total past so_far =
      sym (append-nil done) ∙ sym (ap (λ ss. done ++ before_from firsts n (tables_in ss)) (drop_all n schemas past)) ∙ so_far

-- ---- one takes a piece

pub one_fed : (fs : List Following) (n : ℕ) (f g : Following) (piece : List ℕ) (result : Result ⊤ FollowFault) → n < length fs → f ≡ get_or fs n f → Takes piece f g result → KeepsUp piece f g result
    → FeedsAt fs (slice_set fs n g) n piece result
one_fed fs n f g piece result inside is taken leader =
    let old = at_index fs n f inside is in
    let new = sym (get_or-set_same fs n g nobody inside) in
    record {
      taken = subst (λ x. Takes piece x (follower_at (slice_set fs n g) n) result) old (subst (λ x. Takes piece f x result) new taken);
      leader = subst (λ x. KeepsUp piece x (follower_at (slice_set fs n g) n) result) old (subst (λ x. KeepsUp piece f x result) new leader);
      others = λ k other. get_or-set_other fs n k g nobody other;
      many = length-set fs n g;
    }

-- ---- how it leads

pub none_of : (o : Option ℕ) (n : ℕ) → is_some o ≡ true → n ≡ unwrap_or o 0 → o ≡ Some n
none_of None n some is = cc
none_of (Some m) n some is = ap Some (sym is)

pub given_some : (f : Following) (v : Option ℕ) (n : ℕ) (o : Option Opening) → v ≡ f.held.version → v ≡ Some n → o ≡ Some (opening_held f) → o ≡ trees_given f
given_some f v n o held some is = is ∙ sym (ap (λ (w : Option ℕ). trees_by w f) (sym held ∙ some))

pub some_given : {E : Type 0} (f g : Following) (v : Option ℕ) (n : ℕ) (result : Result (Option Opening) E) → v ≡ f.held.version → v ≡ Some n → f ≡ g
    → IfOk result (λ o. o ≡ Some (opening_held f)) → IfOk result (λ o. o ≡ trees_given g)
some_given f g v n (Ok o) held some same is = given_some f v n o held some is ∙ ap trees_given same
some_given f g v n (Err e) held some same is = tt

pub given_none : (f : Following) (v : Option ℕ) → v ≡ f.held.version → v ≡ None → None ≡ trees_given f
given_none f v held none = sym (ap (λ (w : Option ℕ). trees_by w f) (sym held ∙ none))

-- those of all, once each has its number
pub all_set : (fs : List Following) (bases : Bases) (k : ℕ) → length fs ≤ k → k ≤ length fs → ((n : ℕ) → n < k → base_of bases n ≡ number_held (follower_at fs n))
    → ((n : ℕ) → k ≤ n → base_of bases n ≡ 0) → (n : ℕ) → base_of bases n ≡ number_held (follower_at fs n)
all_set fs bases k all most done zeros n = by (nat_lt n k) refl
  where
    by : (b : Bool) → nat_lt n k ≡ b → base_of bases n ≡ number_held (follower_at fs n)
    by true test = let inside : n < k = grind (arith, nat_tests, test) in done n inside
    by false test =
        let past : k ≤ n = grind (arith, nat_tests, test) in
        zeros n past ∙ ap number_held (sym (past_all fs n (omega (arith, all, past))))
