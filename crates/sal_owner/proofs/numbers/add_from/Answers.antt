use Rattle.std.proofs.Common.{rules, ◌≡◌, ◌||◌, ◌&&◌, ℕ, ◌-◌, take, drop, length, length-drop, le_of_eq, subst, fold, nat_eq, nat_le, ltb, ltb-true, ltb-false, ap, ◌∙◌, arith, OnOk}
use Rattle.std.specs.List.{list_any}
use Rattle.std.proofs.lemmas.List.{take_all}
use Rattle.std.proofs.lemmas.List.Sorted.{IsPartitionPoint-from_clause, IsPartitionedBy-ltb}
use Rattle.sal_owner.specs.Shifts.{is_due}
use Rattle.sal_owner.proofs.Maps.{on_ok}
use Rattle.sal_owner.proofs.Numbered.{any-from, fold-any}
use Rattle.sal_owner.proofs.numbers.add_from.Goals as goal

pub returns : goal.returns
returns c =
    let xs = c.args.numbers.now in
    let parted = IsPartitionedBy-ltb (λ x. x) xs c.args.from c.requires in
    let point = IsPartitionPoint-from_clause (λ x. ltb x c.args.from) xs c.partition_point-first.result c.partition_point-first.ensures.partitioned parted (λ a r q k. search rules) in
    let whole : take (length xs - c.partition_point-first.result) (drop c.partition_point-first.result xs) ≡ drop c.partition_point-first.result xs =
    take_all (length xs - c.partition_point-first.result) (drop c.partition_point-first.result xs) (le_of_eq (length-drop c.partition_point-first.result xs)) in
    on_ok ((n : ℕ) → is_due c.add_all.new.due.entries n ≡ fold (λ b x. nat_eq x n || b) (is_due c.args.due.now.entries n) (drop c.partition_point-first.result xs))
    ((n : ℕ) → is_due c.add_all.new.due.entries n ≡ (is_due c.args.due.now.entries n || (nat_le c.args.from n && list_any (nat_eq n) xs))) c.add_all.result
    (λ all n. all n ∙ fold-any n (drop c.partition_point-first.result xs) (is_due c.args.due.now.entries n)
    ∙ ap (λ b. is_due c.args.due.now.entries n || b) (any-from xs c.partition_point-first.result n c.args.from (λ k d w. ltb-true _ _ (point.0 k d (omega arith) w)) (λ k d v w. ltb-false _ _ (point.1 k d v w)) c.partition_point-first.ensures.bound))
    (subst (λ ys. OnOk c.add_all.result ((n : ℕ) → is_due c.add_all.new.due.entries n ≡ fold (λ b x. nat_eq x n || b) (is_due c.args.due.now.entries n) ys)) whole c.add_all.ensures)
