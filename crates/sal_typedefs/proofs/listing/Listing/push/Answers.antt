use Rattle.std.proofs.Common.{List, [], ◌∷◌, ◌≡◌, ◌∙◌, ◌+◌, ◌≤ℤ◌, length, true, cond, FitsSigned, sym, ap, subst, rules}
use Rattle.std.specs.BTreeSet.{contains}
use Rattle.std.specs.Int.{w128}
use Rattle.std.specs.Ordering.{int_cmp, is_eq}
use Rattle.std.proofs.lemmas.Int.{to_z-of_z}
use Rattle.std.proofs.lemmas.List.{length-append}
use Rattle.sal_typedefs.specs.declared.entry.Entry.{Entry}
use Rattle.sal_typedefs.specs.Entries.{bound}
use Rattle.sal_typedefs.specs.Listings.{AreValues}
use Rattle.sal_typedefs.proofs.Listings.{values-put}
use Rattle.sal_typedefs.proofs.listing.Listing.push.Goals as goal

pub returns-clause-listing : goal.returns-clause-listing
returns-clause-listing c =
    let old = c.args.self.now in
    let es = old.named.entries.items in
    let e = c.args.entry in
    let fits : FitsSigned w128 e.number = search rules in
    let after = c.next_after-next.result in
    let longer : length c.push.new.self.entries.items ≡ length es + 1 = ap length c.in_ok-push.ensures.entries ∙ length-append es (e ∷ []) in
    let low : after ≤ℤ bound (length es + 1) = search rules in
    let small : after ≤ℤ bound (length c.push.new.self.entries.items) = subst (λ k. after ≤ℤ bound k) (sym longer) low in
    record {
      names = c.in_ok-push.ensures.names;
      values = subst (λ (all : List Entry). AreValues all c.insert.new.self) (sym c.in_ok-push.ensures.entries)
          (values-put es e old.numbers c.insert.new.self c.requires.listing.values
          (λ q. c.in_ok-insert.ensures.updates.0 q ∙ ap (λ n. cond (is_eq (int_cmp n q)) true (contains int_cmp old.numbers q)) (to_z-of_z w128 e.number fits)));
      next = search rules;
      small = search (rules, small);
    }
