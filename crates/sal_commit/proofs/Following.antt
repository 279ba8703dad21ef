-- Commits that follow one another, and so agree, by the stamps that they give.
use Rattle.std.proofs.Common.{◌≡◌, ℕ, ◌+◌, ◌-◌, ◌<◌, ◌≤◌, Bool, true, false, List, [], ◌∷◌, ◌++◌, ◌||◌, ◌&&◌, length, get_or, take, if◌then◌else◌, refl, ap, sym, ◌∙◌, subst, inl, inr, arith, length-append}
use Rattle.std.proofs.lemmas.Bool.{cases_lt}
use Rattle.std.proofs.lemmas.List.{get_or-take, get_or_append_left, get_or_default, length-take, take_more}
use Rattle.std.proofs.lemmas.List.Elements.{All-push, All-take, All-cons, All-nil}
use Rattle.std.proofs.Math.Seq.{get_or-append_seam}
use Rattle.sal_types.specs.declared.value.Step.{Step}
use Rattle.sal_types.specs.declared.value.Store.{Store}
use Rattle.sal_types.specs.declared.value.Store.TheVariants.{Config, Oper}
use Rattle.sal_types.specs.declared.row.Row.{Row}
use Rattle.sal_rows.specs.declared.op.Op.{Op}
use Rattle.sal_rows.specs.Apply.{same_store}
use Rattle.sal_rows.specs.Touch.{op_touches, touches}
use Rattle.sal_node.specs.Tree.{Tree, IsGrove}
use Rattle.sal_tree.specs.Rows.{rows_of}
use Rattle.sal_tree.specs.declared.commit.Commit.{Commit}
use Rattle.sal_tree.specs.declared.commit.Pair.{Pair}
use Rattle.sal_tree.specs.Follows.{Agree, Follows, IsStamped, exactly}
use Rattle.sal_tree.specs.Touched.{act_touches}
use Rattle.sal_tree.proofs.Commits.{touches-same}
use Rattle.sal_tree.proofs.Follows.{Follows-by, Follows-same, Follows-then, some_same}
use Rattle.sal_delta.specs.Agreed.{AreAgreed}
use Rattle.sal_graft.specs.Following.{AreFollowing, AreStamped, BothUpTo, IsMadeOf, StampsUpTo, stamp_of}
use Rattle.sal_graft.specs.Kept.{rows_in, tree_in}
use Rattle.sal_graft.proofs.Following.{stamped-at}
use Rattle.sal_commit.specs.Stamps.{CanFollow, FollowNewest, IsNewStamp}

-- ---- one operation

-- an operation of the other store
pub Follows-other : (fresh : ℕ) (s : Store) (op : Op) (t : Tree) → same_store op.store s ≡ false → Follows (exactly fresh) (touches (rows_of t) s (op ∷ [])) t t
Follows-other fresh s op t other = Follows-by (exactly fresh) (λ q. false) (touches (rows_of t) s (op ∷ [])) t t (λ q. sym (ap (λ b. (b && op_touches (rows_of t) op q) || false) other)) (Follows-same (exactly fresh) t)

-- an operation of this store
pub Follows-own : (fresh : ℕ) (s : Store) (op : Op) (t u : Tree) → same_store op.store s ≡ true → Follows (exactly fresh) (act_touches (rows_of t) op.path op.act) t u
    → Follows (exactly fresh) (touches (rows_of t) s (op ∷ [])) t u
Follows-own fresh s op t u own follows =
    Follows-by (exactly fresh) (act_touches (rows_of t) op.path op.act) (touches (rows_of t) s (op ∷ [])) t u (λ q.
    sym (or_none (op_touches (rows_of t) op q)) ∙ sym (ap (λ b. (b && op_touches (rows_of t) op q) || false) own)) follows
  where
    or_none : (b : Bool) → (b || false) ≡ b
    or_none true = refl
    or_none false = refl

or_assoc : (a b c : Bool) → (a || (b || c)) ≡ ((a || b) || c)
or_assoc true b c = refl
or_assoc false b c = refl

touches-more : (rows : List Row) (s : Store) (ops : List Op) (op : Op) (q : List Step) → touches rows s (ops ++ op ∷ []) q ≡ (touches rows s ops q || touches rows s (op ∷ []) q)
touches-more rows s [] op q = refl
touches-more rows s (o ∷ ops) op q =
    ap (λ b. (same_store o.store s && op_touches rows o q) || b) (touches-more rows s ops op q)
    ∙ or_assoc (same_store o.store s && op_touches rows o q) (touches rows s ops q) (touches rows s (op ∷ []) q)

-- a tree that follows the one before some operations, and one that follows it by one more
Follows-more : (fresh : ℕ) (s : Store) (ops : List Op) (op : Op) (t u v : Tree) → IsGrove t.kids → IsGrove u.kids
    → Follows (exactly fresh) (touches (rows_of t) s ops) t u → Follows (exactly fresh) (touches (rows_of u) s (op ∷ [])) u v → Follows (exactly fresh) (touches (rows_of t) s (ops ++ op ∷ [])) t v
Follows-more fresh s ops op t u v g h before next =
    Follows-by (exactly fresh) (λ q. touches (rows_of t) s ops q || touches (rows_of u) s (op ∷ []) q) (touches (rows_of t) s (ops ++ op ∷ [])) t v (λ q.
    elim (touches (rows_of t) s ops q) as (λ b. touches (rows_of t) s ops q ≡ b → (b || touches (rows_of u) s (op ∷ []) q) ≡ (b || touches (rows_of t) s (op ∷ []) q)) [
      | true ↦ λ e. refl
      | false ↦ λ e. touches-same t u s (op ∷ []) q g h (before.kept q e)
    ] refl
    ∙ sym (touches-more (rows_of t) s ops op q))
    (Follows-then (exactly fresh) (touches (rows_of t) s ops) (touches (rows_of u) s (op ∷ [])) t u v before next)

-- a step of a loop over the operations
pub Follows-step : (fresh : ℕ) (s : Store) (ops : List Op) (i : ℕ) (op : Op) (t u v : Tree) → i < length ops → op ≡ get_or ops i op → IsGrove t.kids → IsGrove u.kids
    → Follows (exactly fresh) (touches (rows_of t) s (take i ops)) t u → Follows (exactly fresh) (touches (rows_of u) s (op ∷ [])) u v → Follows (exactly fresh) (touches (rows_of t) s (take (i + 1) ops)) t v
Follows-step fresh s ops i op t u v short at g h before next =
    subst (λ (os : List Op). Follows (exactly fresh) (touches (rows_of t) s os) t v) (ap (λ (o : Op). take i ops ++ o ∷ []) at ∙ sym (take_more ops i op short))
    (Follows-more fresh s (take i ops) op t u v g h before next)

-- ---- two trees

-- a tree that follows another one by a stamp that is greater than all of its own
module _ (stamp bound : ℕ) (touched : List Step → Bool) (t u : Tree) (follows : Follows (exactly stamp) touched t u) (up : StampsUpTo bound t) (less : bound < stamp) where
  pub agree-follows : Agree t u
  agree-follows p n m a b same =
      elim (touched p) as (λ c. touched p ≡ c → n ≡ m) [
        | true ↦ λ e. absurd (omega (arith, follows.stamped p m e b, same, up p n a, less))
        | false ↦ λ e. some_same n m (sym a ∙ sym (follows.kept p e) ∙ b)
      ] refl

  pub up_to-follows : StampsUpTo stamp u
  up_to-follows p m b =
      elim (touched p) as (λ c. touched p ≡ c → m.stamp ≤ stamp) [
        | true ↦ λ e. omega (arith, follows.stamped p m e b)
        | false ↦ λ e. omega (arith, up p m (sym (follows.kept p e) ∙ b), less)
      ] refl

-- one stamp at every node
pub up_to-stamped : (s bound : ℕ) (t : Tree) → s ≤ bound → IsStamped s t → StampsUpTo bound t
up_to-stamped s bound t h is p n at_n = omega (arith, is p n at_n, h)

-- ---- the next commit

module _ (commits : List Commit) (receipt stamp : ℕ) (ops : List Op) (trees : Pair) (some : 1 ≤ length commits) (following : AreFollowing commits) (new : IsNewStamp commits receipt stamp) (follow : FollowNewest stamp ops commits trees) where
  less : (c : Commit) → c ≡ get_or commits (length commits - 1) c → stamp_of c.receipt < stamp
  less c at_c = omega (arith, new.own, new.later c at_c)

  within : (c : Commit) (s : Store) → c ≡ get_or commits (length commits - 1) c → StampsUpTo (stamp_of c.receipt) (tree_in c.trees s)
  within c s at_c = stamped-at commits (length commits - 1) c s following (omega (arith, some)) at_c

  up_to : (c : Commit) → c ≡ get_or commits (length commits - 1) c → BothUpTo stamp trees
  up_to c at_c = (
    up_to-follows stamp (stamp_of c.receipt) (touches (rows_in c.trees Config) Config ops) c.trees.config trees.config (follow c Config at_c) (within c Config at_c) (less c at_c),
    up_to-follows stamp (stamp_of c.receipt) (touches (rows_in c.trees Oper) Oper ops) c.trees.oper trees.oper (follow c Oper at_c) (within c Oper at_c) (less c at_c),
  )

  pub can-follow : (next : Commit) → next.trees ≡ trees → next.receipt ≡ receipt → next.ops.value ≡ ops → CanFollow commits next
  can-follow next same its done =
      let last : Commit = get_or commits (length commits - 1) next in
      let at_last : last ≡ get_or commits (length commits - 1) last = get_or_default commits (length commits - 1) next last (omega (arith, some)) in
      let own : stamp ≡ stamp_of next.receipt = new.own ∙ ap stamp_of (sym its) in
      record {
        made = λ c at_c. record {
          later = subst (λ r. c.receipt < r) (sym its) (new.later c at_c);
          follows = λ s.
              subst (λ k. Follows (exactly k) (touches (rows_in c.trees s) s next.ops.value) (tree_in c.trees s) (tree_in next.trees s)) own
              (subst (λ (os : List Op). Follows (exactly stamp) (touches (rows_in c.trees s) s os) (tree_in c.trees s) (tree_in next.trees s)) (sym done)
              (subst (λ (pair : Pair). Follows (exactly stamp) (touches (rows_in c.trees s) s ops) (tree_in c.trees s) (tree_in pair s)) (sym same) (follow c s at_c)));
        };
        stamped = subst (λ s. BothUpTo s next.trees) own (subst (BothUpTo stamp) (sym same) (up_to last at_last));
      }

-- ---- lists of commits

-- commits that follow one another agree
pub AreAgreed-following : (commits : List Commit) → AreFollowing commits → AreAgreed commits
AreAgreed-following commits following k c d short at_c at_d = (both Config, both Oper)
  where
    both : (s : Store) → Agree (tree_in c.trees s) (tree_in d.trees s)
    both s =
        let made : IsMadeOf c d = following.made k c d short at_c at_d in
        agree-follows (stamp_of d.receipt) (stamp_of c.receipt) (touches (rows_in c.trees s) s d.ops.value) (tree_in c.trees s) (tree_in d.trees s) (made.follows s)
        (stamped-at commits k c s following (omega (arith, short)) at_c) (omega (arith, made.later))

pub AreFollowing-one : (commits : List Commit) (c : Commit) → commits ≡ c ∷ [] → BothUpTo (stamp_of c.receipt) c.trees → AreFollowing commits
AreFollowing-one commits c one up = record {
  made = λ k x y short at_x at_y. absurd (omega (arith, short, ap length one));
  stamped = subst AreStamped (sym one) (All-cons (λ (x : Commit). BothUpTo (stamp_of x.receipt) x.trees) c [] up (All-nil (λ (x : Commit). BothUpTo (stamp_of x.receipt) x.trees)));
}

pub AreFollowing-take : (n : ℕ) (commits : List Commit) → AreFollowing commits → AreFollowing (take n commits)
AreFollowing-take n commits following = record {
  made = λ k c d short at_c at_d.
      let inside : k + 1 < n = omega (arith, short, length-take n commits) in
      let before : k < n = omega (arith, inside) in
      following.made k c d (omega (arith, short, length-take n commits)) (at_c ∙ get_or-take n commits k c before) (at_d ∙ get_or-take n commits (k + 1) d inside);
  stamped = All-take (λ (x : Commit). BothUpTo (stamp_of x.receipt) x.trees) n commits following.stamped;
}

made-more : (commits : List Commit) (next : Commit) → AreFollowing commits → CanFollow commits next
    → (k : ℕ) (c d : Commit) → k + 1 < length (commits ++ next ∷ []) → c ≡ get_or (commits ++ next ∷ []) k c → d ≡ get_or (commits ++ next ∷ []) (k + 1) d → IsMadeOf c d
made-more commits next following can k c d short at_c at_d =
    let longer : length (commits ++ next ∷ []) ≡ length commits + 1 = length-append commits (next ∷ []) in
    let before : k < length commits = omega (arith, short, longer) in
    let here : c ≡ get_or commits k c = at_c ∙ get_or_append_left commits (next ∷ []) c k before in
    elim (cases_lt (k + 1) (length commits)) [
      | inl less ↦ following.made k c d less here (at_d ∙ get_or_append_left commits (next ∷ []) d (k + 1) less)
      | inr more ↦
          let last : k ≡ length commits - 1 = omega (arith, more, short, longer) in
          let end : k + 1 ≡ length commits = omega (arith, more, short, longer) in
          let is : d ≡ next = at_d ∙ ap (λ i. get_or (commits ++ next ∷ []) i d) end ∙ get_or-append_seam commits next [] d in
          subst (λ (x : Commit). IsMadeOf c x) (sym is) (can.made c (here ∙ ap (λ i. get_or commits i c) last))
    ]

-- one commit more, or none
pub AreFollowing-push : (commits : List Commit) (next : Commit) (pushed : Bool) → AreFollowing commits → CanFollow commits next → AreFollowing (if pushed then commits ++ next ∷ [] else commits)
AreFollowing-push commits next true following can = record {
  made = made-more commits next following can;
  stamped = All-push (λ (x : Commit). BothUpTo (stamp_of x.receipt) x.trees) commits next following.stamped can.stamped;
}
AreFollowing-push commits next false following can = following
