-- Names of enumerations and bits, from one to the next.
use Rattle.std.proofs.Common.{◌≡◌, ℕ, List, [], ◌∷◌, ◌++◌, take, get_or, filter, ◌<◌, ◌+◌, length, Bool, true, false, Option, if◌then◌else◌, refl, ◌∙◌, sym, ap, append_assoc, append-nil}
use Rattle.std.proofs.lemmas.List.{take_more}
use Rattle.std.proofs.lemmas.List.Sums.{fold-append}
use Rattle.sal_stmt.specs.declared.stmt.Stmt.{Stmt}
use Rattle.sal_module.specs.declared.fault.Cause.TheVariants.{BadRestriction}
use Rattle.sal_module.specs.declared.fault.Found.{Found}
use Rattle.sal_module.specs.Faults.{least, better}
use Rattle.sal_module.specs.Profile.{at_stmt}
use Rattle.sal_typedefs.specs.declared.entry.Entry.{Entry}
use Rattle.sal_typedefs.specs.declared.entry.Numbering.{Numbering}
use Rattle.sal_typedefs.specs.Entries.{entry_of, is_faulty, entries_of, entry_faults}
use Rattle.sal_typedefs.proofs.IdentityLists.{filter-last}

pub least-two : (best : Option Found) (xs ys : List Found) → least (least best xs) ys ≡ least best (xs ++ ys)
least-two best xs ys = sym (fold-append better best xs ys)

entries-two : (n : Numbering) (from : Option (List Entry)) (before : List Entry) (xs ys : List Stmt) → entries_of n from before (xs ++ ys) ≡ entries_of n from (entries_of n from before xs) ys
entries-two n from before [] ys = refl
entries-two n from before (x ∷ xs) ys = entries-two n from (before ++ entry_of n from before x ∷ []) xs ys

faults-two : (n : Numbering) (from : Option (List Entry)) (m : ℕ) (before : List Entry) (xs ys : List Stmt)
    → entry_faults n from m before (xs ++ ys) ≡ entry_faults n from m before xs ++ entry_faults n from m (entries_of n from before xs) ys
faults-two n from m before [] ys = refl
faults-two n from m before (x ∷ xs) ys =
    let here = if is_faulty n from before x then at_stmt BadRestriction m x else [] in
    let next = before ++ entry_of n from before x ∷ [] in
    ap (λ rest. here ++ rest) (faults-two n from m next xs ys)
    ∙ sym (append_assoc here (entry_faults n from m next xs) (entry_faults n from m (entries_of n from next xs) ys))

module _ (n : Numbering) (from : Option (List Entry)) (m : ℕ) (p : Stmt → Bool) (subs : List Stmt) (i : ℕ) (x : Stmt) (h : i < length subs) (is : x ≡ get_or subs i x) where
  more : filter p (take (i + 1) subs) ≡ filter p (take i subs) ++ filter p (x ∷ [])
  more = ap (filter p) (take_more subs i x h ∙ ap (λ y. take i subs ++ y ∷ []) (sym is)) ∙ filter-last p (take i subs) x

  pub more-here : p x ≡ true → filter p (take (i + 1) subs) ≡ filter p (take i subs) ++ x ∷ []
  more-here e = more ∙ rw e refl

  pub more-later : p x ≡ false → filter p (take (i + 1) subs) ≡ filter p (take i subs)
  more-later e = more ∙ rw e (append-nil (filter p (take i subs)))

  pub entries-more : (old new : List Entry) → p x ≡ true → old ≡ entries_of n from [] (filter p (take i subs)) → new ≡ old ++ entry_of n from old x ∷ []
      → new ≡ entries_of n from [] (filter p (take (i + 1) subs))
  entries-more old new e so_far put =
      put ∙ ap (λ es. es ++ entry_of n from es x ∷ []) so_far ∙ sym (ap (entries_of n from []) (more-here e) ∙ entries-two n from [] (filter p (take i subs)) (x ∷ []))

  pub faults-more : (old : List Entry) (start best next : Option Found) → p x ≡ true → old ≡ entries_of n from [] (filter p (take i subs))
      → best ≡ least start (entry_faults n from m [] (filter p (take i subs))) → next ≡ least best (if is_faulty n from old x then at_stmt BadRestriction m x else [])
      → next ≡ least start (entry_faults n from m [] (filter p (take (i + 1) subs)))
  faults-more old start best next e are so_far put =
      let all = ap (entry_faults n from m []) (more-here e) ∙ faults-two n from m [] (filter p (take i subs)) (x ∷ []) in
      let last : (es : List Entry) → entry_faults n from m es (x ∷ []) ≡ (if is_faulty n from es x then at_stmt BadRestriction m x else []) =
      λ es. append-nil (if is_faulty n from es x then at_stmt BadRestriction m x else []) in
      put ∙ ap (λ b. least b (if is_faulty n from old x then at_stmt BadRestriction m x else [])) so_far
      ∙ ap (λ es. least (least start (entry_faults n from m [] (filter p (take i subs)))) (if is_faulty n from es x then at_stmt BadRestriction m x else [])) are
      ∙ least-two start (entry_faults n from m [] (filter p (take i subs))) _
      ∙ ap (λ l. least start (entry_faults n from m [] (filter p (take i subs)) ++ l)) (sym (last (entries_of n from [] (filter p (take i subs)))))
      ∙ ap (least start) (sym all)
