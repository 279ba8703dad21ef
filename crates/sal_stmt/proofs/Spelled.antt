-- What is read is spelled by the text, piece by piece.
use Rattle.std.proofs.Common.{◌≡◌, ℕ, zero, suc, ◌<◌, Bool, true, false, not, ◌==◌, List, [], ◌∷◌, ◌++◌, length, drop, Some, None, Result, Ok, Err, ◌⊎◌, inl, inr, refl, sym, ap, ◌∙◌, subst, arith, append-nil, if◌then◌else◌}
use Rattle.std.specs.Prelude.{codes}
use Rattle.std.proofs.lemmas.Bool.{cases_Bool, and_parts, and_from, and_right, or_right, or_from, not-false, both_ways, or_cases, not_from_false, eqb-true}
use Rattle.std.proofs.lemmas.Bool.Decides.{nat_tests}
use Rattle.std.proofs.lemmas.List.{take-append-drop, nil_from_length}
use Rattle.sal_stmt.specs.declared.fault.StmtFault.{StmtFault}
use Rattle.sal_stmt.specs.declared.fault.StmtFault.TheVariants.{BadToken, BadEscape, Unclosed, TooDeep, TextAfter}
use Rattle.sal_stmt.specs.declared.stmt.Stmt.{Stmt}
use Rattle.sal_types.specs.Reading.{◌>>=◌, with_front}
use Rattle.sal_stmt.specs.Words.{Text, first, is_empty, is_blank, is_control, starts_with, starts_line_comment, starts_block_comment, ends_block_comment, ends_word, word_len, word, after_word, is_keyword}
use Rattle.sal_stmt.specs.Quoted.{is_escape}
use Rattle.sal_stmt.specs.Text.{Read, is_quote, is_end, starts_token, turns, Head, made, place, line_comment, block_comment, separators, skip, within, single, double, quoted, joined, argument, header, statements, statement, read}
use Rattle.sal_stmt.specs.Spelling.{IsLine, ends_line, IsComment, Separator.blank, Separator.line, Separator.comment, Gap, no_gap, wider, IsWord, IsSingle, is_plain, IsDouble, IsString, AreStrings, last_string, IsArgument, IsHead, IsPlain, AreStatements, no_statement, one_statement, IsBlock, IsStatement, Spells}

-- ---- steps that went well

abbrev pub Good : {A : Type 0} → A → Result A StmtFault
Good x = Ok x

ok_value : {A : Type 0} {x y : A} → Good x ≡ Good y → x ≡ y
ok_value h = cc

pub failed : {A : Type 0} (C : Type 0) {e : StmtFault} {x : A} → Err e ≡ Good x → C
failed C h = cc

bind_ok : {A B F : Type 0} (r : Result A F) (f : A → Result B F) {y : B} → (r >>= f) ≡ Ok y → (x : A) × (r ≡ Ok x) × (f x ≡ Ok y)
bind_ok (Ok x) f h = (x, refl, h)
bind_ok (Err e) f h = cc

chosen : {A : Type 0} (b : Bool) (x y : A) {z : A} → (if b then x else y) ≡ z → ((b ≡ true) × (x ≡ z)) ⊎ ((b ≡ false) × (y ≡ z))
chosen true x y h = inl (refl, h)
chosen false x y h = inr (refl, h)

no_fault : {A F : Type 0} (b : Bool) (e : F) (r : Result A F) {y : A} → (if b then Err e else r) ≡ Ok y → (b ≡ false) × (r ≡ Ok y)
no_fault true e r h = cc
no_fault false e r h = (refl, h)

-- ---- bytes

starts_with_byte : (c : ℕ) (t : Text) → (0 == c) ≡ false → (first t == c) ≡ true → t ≡ c ∷ drop 1 t
starts_with_byte c [] some h = absurd (both_ways (0 == c) some h)
starts_with_byte c (d ∷ t) some h = ap (λ x. x ∷ t) (eqb-true d c h)

starts_with_two : (c d : ℕ) (t : Text) → (0 == c) ≡ false → (0 == d) ≡ false → starts_with c d t ≡ true → t ≡ c ∷ d ∷ drop 2 t
starts_with_two c d [] c_some d_some h = absurd (both_ways (0 == c) c_some (and_parts (0 == c) (0 == d) h).0)
starts_with_two c d (x ∷ []) c_some d_some h = absurd (both_ways (0 == d) d_some (and_parts (x == c) (0 == d) h).1)
starts_with_two c d (x ∷ y ∷ t) c_some d_some h =
    let one = eqb-true x c (and_parts (x == c) (y == d) h).0 in
    let two = eqb-true y d (and_parts (x == c) (y == d) h).1 in
    rw (one, two) refl

starts_blank : (t : Text) → is_blank (first t) ≡ true → t ≡ first t ∷ drop 1 t
starts_blank [] h = cc
starts_blank (c ∷ t) h = refl

-- ---- gaps

line_spelled : (whole t rest : Text) → line_comment whole t ≡ Ok rest → (text : List ℕ) × IsLine text × (ends_line rest ≡ true) × (t ≡ text ++ rest)
unfolding line_comment
line_spelled whole [] rest h = let same = ok_value h in ([], refl, subst (λ r. ends_line r ≡ true) same refl, same)
line_spelled whole (c ∷ t) rest h = elim (chosen (c == 10) _ _ h) [
  | inl w ↦ let same = ok_value w.1 in ([], refl, subst (λ r. ends_line r ≡ true) same (or_right _ _ w.0), same)
  | inr w ↦
      let (known, tail) = no_fault _ _ _ w.1 in
      let (text, bytes, ended, same) = line_spelled whole t rest tail in
      (c ∷ text, and_from _ _ (and_from _ _ (not_from_false _ known) (not_from_false _ w.0)) bytes, ended, ap (λ u. c ∷ u) same)
]

no_end_in_front : (c : ℕ) (t text more : List ℕ) → t ≡ text ++ more → ends_block_comment (c ∷ t) ≡ false → ends_block_comment (c ∷ text) ≡ false
no_end_in_front c t [] more same h = and_right _ _ refl
no_end_in_front c t (d ∷ text) more same h = subst (λ r. ends_block_comment (c ∷ r) ≡ false) same h

comment_spelled : (whole : Text) (opening : ℕ) (t rest : Text) → block_comment whole opening t ≡ Ok rest → (text : List ℕ) × IsComment text × (t ≡ text ++ (codes "*/" ++ rest))
unfolding block_comment
comment_spelled whole opening [] rest h = cc
comment_spelled whole opening (c ∷ t) rest h = elim (chosen (ends_block_comment (c ∷ t)) _ _ h) [
  | inl w ↦ ([], (refl, refl), starts_with_two 42 47 (c ∷ t) refl refl w.0 ∙ ap (λ r. 42 ∷ 47 ∷ r) (ok_value w.1))
  | inr w ↦
      let (known, tail) = no_fault _ _ _ w.1 in
      let (text, (bytes, no_end), same) = comment_spelled whole opening t rest tail in
      (c ∷ text, (and_from _ _ (not_from_false _ known) bytes, or_from _ _ (no_end_in_front c t text _ same w.0) no_end), ap (λ u. c ∷ u) same)
]

gap_spelled : (whole : Text) (n : ℕ) (t rest : Text) → separators whole n t ≡ Ok rest → Gap t rest
unfolding separators
gap_spelled whole zero t rest h = subst (Gap t) (ok_value h) (no_gap t)
gap_spelled whole (suc n) t rest h = elim (chosen (is_blank (first t)) _ _ h) [
  | inl w ↦ wider t (drop 1 t) rest (blank (first t) w.0 (starts_blank t w.0)) (gap_spelled whole n (drop 1 t) rest w.1)
  | inr w ↦ elim (chosen (starts_line_comment t) _ _ w.1) [
    | inl v ↦
        let (next, read, tail) = bind_ok _ _ v.1 in
        let (text, is_line, ended, same) = line_spelled whole (drop 2 t) next read in
        wider t next rest (line text is_line ended (starts_with_two 47 47 t refl refl v.0 ∙ ap (λ r. 47 ∷ 47 ∷ r) same)) (gap_spelled whole n next rest tail)
    | inr v ↦ elim (chosen (starts_block_comment t) _ _ v.1) [
      | inl u ↦
          let (next, read, tail) = bind_ok _ _ u.1 in
          let (text, is_comment, same) = comment_spelled whole _ (drop 2 t) next read in
          wider t next rest (comment text is_comment (starts_with_two 47 42 t refl refl u.0 ∙ ap (λ r. 47 ∷ 42 ∷ r) same)) (gap_spelled whole n next rest tail)
      | inr u ↦ subst (Gap t) (ok_value u.1) (no_gap t)
    ]
  ]
]

within_spelled : (whole : Text) (at : ℕ) (t rest : Text) → within whole at t ≡ Ok rest → Gap t rest
unfolding within
within_spelled whole at t rest h =
    let (here, read, tail) = bind_ok _ _ h in
    let (some, same) = no_fault _ _ _ tail in
    subst (Gap t) (ok_value same) (gap_spelled whole (length t) t here read)

-- ---- words

word_stands : (t : Text) → t ≡ word t ++ after_word t
word_stands t = sym (take-append-drop (word_len t) t)

word_spelled : (t : Text) → IsWord (word t) (after_word t)
unfolding word_len
word_spelled [] = refl
word_spelled (c ∷ t) = elim (cases_Bool (ends_word (c ∷ t))) [
  | inl e ↦ rw e e
  | inr e ↦ rw e (subst (λ r. ends_word (c ∷ r) ≡ false) (word_stands t) e, word_spelled t)
]

-- ---- strings

single_spelled : (whole : Text) (opening : ℕ) (t : Text) (p : List ℕ × Text) → single whole opening t ≡ Ok p → IsSingle p.0 × (t ≡ p.0 ++ (codes "'" ++ p.1))
unfolding single
single_spelled whole opening [] p h = cc
single_spelled whole opening (c ∷ t) p h = elim (chosen (c == 39) _ _ h) [
  | inl w ↦ subst (λ (q : List ℕ × Text). IsSingle q.0 × (c ∷ t ≡ q.0 ++ (codes "'" ++ q.1))) (ok_value w.1) (refl, ap (λ x. x ∷ t) (eqb-true c 39 w.0))
  | inr w ↦
      let (known, tail) = no_fault _ _ _ w.1 in
      let (x, read, made) = bind_ok _ _ tail in
      let (bytes, same) = single_spelled whole opening t x read in
      subst (λ (q : List ℕ × Text). IsSingle q.0 × (c ∷ t ≡ q.0 ++ (codes "'" ++ q.1))) (ok_value made)
      (and_from _ _ (and_from _ _ (not_from_false _ known) (not_from_false _ w.0)) bytes, ap (λ u. c ∷ u) same)
]

IsDouble-plain : (c : ℕ) (raw : List ℕ) → is_plain c ≡ true → IsDouble raw → IsDouble (c ∷ raw)
IsDouble-plain c [] plain all = plain
IsDouble-plain c (d ∷ raw) plain all = inl (plain, all)

abbrev behind_backslash : (whole : Text) (opening c d : ℕ) (t : Text) → Read (List ℕ)
behind_backslash whole opening c d t = if is_escape d then with_front (c ∷ d ∷ []) (double whole opening t) else Err (BadEscape (place whole (c ∷ d ∷ t)))

abbrev behind_plain : (whole : Text) (opening c d : ℕ) (t : Text) → Read (List ℕ)
behind_plain whole opening c d t = if not (c == 92) then with_front (c ∷ []) (double whole opening (d ∷ t)) else behind_backslash whole opening c d t

double_spelled : (whole : Text) (opening : ℕ) (t : Text) (p : List ℕ × Text) → double whole opening t ≡ Ok p → IsDouble p.0 × (t ≡ p.0 ++ (codes "\"" ++ p.1))
unfolding double
double_spelled whole opening [] p h = cc
double_spelled whole opening (c ∷ []) p h = elim (chosen (c == 34) _ _ h) [
  | inl w ↦ subst (λ (q : List ℕ × Text). IsDouble q.0 × (c ∷ [] ≡ q.0 ++ (codes "\"" ++ q.1))) (ok_value w.1) (tt, ap (λ x. x ∷ []) (eqb-true c 34 w.0))
  | inr w ↦ failed _ (no_fault _ _ _ w.1).1
]
double_spelled whole opening (c ∷ d ∷ t) p h = elim (chosen (c == 34) _ _ h) [
  | inl w ↦ subst (λ (q : List ℕ × Text). IsDouble q.0 × (c ∷ d ∷ t ≡ q.0 ++ (codes "\"" ++ q.1))) (ok_value w.1) (tt, ap (λ x. x ∷ d ∷ t) (eqb-true c 34 w.0))
  | inr w ↦
      let (known, tail) = no_fault (is_control c) (BadToken (place whole (c ∷ d ∷ t))) (behind_plain whole opening c d t) w.1 in
      elim (chosen (not (c == 92)) (with_front (c ∷ []) (double whole opening (d ∷ t))) (behind_backslash whole opening c d t) tail) [
        | inl v ↦
            let (x, read, made) = bind_ok _ _ v.1 in
            let (all, same) = double_spelled whole opening (d ∷ t) x read in
            let plain = and_from _ _ (and_from _ _ (not_from_false _ known) (not_from_false _ w.0)) v.0 in
            subst (λ (q : List ℕ × Text). IsDouble q.0 × (c ∷ d ∷ t ≡ q.0 ++ (codes "\"" ++ q.1))) (ok_value made) (IsDouble-plain c x.0 plain all, ap (λ u. c ∷ u) same)
        | inr v ↦ elim (chosen (is_escape d) (with_front (c ∷ d ∷ []) (double whole opening t)) (Err (BadEscape (place whole (c ∷ d ∷ t)))) v.1) [
          | inl u ↦
              let (x, read, made) = bind_ok _ _ u.1 in
              let (all, same) = double_spelled whole opening t x read in
              subst (λ (q : List ℕ × Text). IsDouble q.0 × (c ∷ d ∷ t ≡ q.0 ++ (codes "\"" ++ q.1))) (ok_value made)
              (inr (eqb-true c 92 (not-false _ v.0), u.0, all), ap (λ r. c ∷ d ∷ r) same)
          | inr u ↦ failed _ u.1
        ]
      ]
]

quote_cases : (t : Text) → is_quote t ≡ true → (first t == 39) ≡ false → t ≡ 34 ∷ drop 1 t
quote_cases t h other = elim (or_cases (first t == 39) (first t == 34) h) [
  | inl e ↦ absurd (both_ways (first t == 39) other e)
  | inr e ↦ starts_with_byte 34 t refl e
]

string_spelled : (whole t : Text) (p : List ℕ × Text) → is_quote t ≡ true → quoted whole t ≡ Ok p → IsString whole t p.0 p.1
unfolding quoted
string_spelled whole t p quote h = elim (chosen (first t == 39) _ _ h) [
  | inl w ↦
      let (bytes, same) = single_spelled whole (place whole t) (drop 1 t) p w.1 in
      IsString.single bytes (starts_with_byte 39 t refl w.0 ∙ ap (λ u. 39 ∷ u) same)
  | inr w ↦
      let (x, read, made) = bind_ok _ _ w.1 in
      let (all, same) = double_spelled whole (place whole t) (drop 1 t) x read in
      subst (λ (q : List ℕ × Text). IsString whole t q.0 q.1) (ok_value made)
      (IsString.double x.0 all (quote_cases t quote w.0 ∙ ap (λ u. 34 ∷ u) same) refl)
]

strings_spelled : (whole : Text) (at n : ℕ) (t : Text) (text : List ℕ) (after : Text) (p : List ℕ × Text) → IsString whole t text after → joined whole at n after ≡ Ok p
    → (end : Text) × AreStrings whole t (text ++ p.0) end × Gap end p.1
unfolding joined
strings_spelled whole at zero t text after p one h = cc
strings_spelled whole at (suc n) t text after p one h =
    let (here, gap, tail) = bind_ok _ _ h in
    let wide = within_spelled whole at after here gap in
    elim (chosen (not (first here == 43)) _ _ tail) [
      | inl w ↦
          subst (λ (q : List ℕ × Text). (end : Text) × AreStrings whole t (text ++ q.0) end × Gap end q.1) (ok_value w.1)
          (after, subst (λ x. AreStrings whole t x after) (sym (append-nil text)) (last_string t text after one), wide)
      | inr w ↦
          let (next, skipped, step) = bind_ok _ _ w.1 in
          let (is_quoted, last) = no_fault _ _ _ step in
          let (x, read, more) = bind_ok _ _ last in
          let (y, others, made) = bind_ok _ _ more in
          let (end, strings, behind) = strings_spelled whole at n next x.0 x.1 y (string_spelled whole next x (not-false _ is_quoted) read) others in
          let plus = starts_with_byte 43 here refl (not-false _ w.0) in
          subst (λ (q : List ℕ × Text). (end : Text) × AreStrings whole t (text ++ q.0) end × Gap end q.1) (ok_value made)
          (end, AreStrings.joined t text after (drop 1 here) next (x.0 ++ y.0) end one (subst (Gap after) plus wide) (within_spelled whole at (drop 1 here) next skipped) strings, behind)
    ]

word_some : (t : Text) → is_empty (word t) ≡ false → 0 < length (word t)
word_some t h = grind (arith, nat_tests)

argument_spelled : (whole : Text) (at : ℕ) (t : Text) (p : List ℕ × Text) → argument whole at t ≡ Ok p → (end : Text) × IsArgument whole t p.0 end × Gap end p.1
unfolding argument
argument_spelled whole at t p h = elim (chosen (is_quote t) _ _ h) [
  | inl w ↦
      let (x, read, tail) = bind_ok _ _ w.1 in
      let (y, others, made) = bind_ok _ _ tail in
      let (end, all, behind) = strings_spelled whole at (turns x.1) t x.0 x.1 y (string_spelled whole t x w.0 read) others in
      subst (λ (q : List ℕ × Text). (end : Text) × IsArgument whole t q.0 end × Gap end q.1) (ok_value made) (end, IsArgument.strings all, behind)
  | inr w ↦
      let (some, tail) = no_fault _ _ _ w.1 in
      let (here, gap, made) = bind_ok _ _ tail in
      subst (λ (q : List ℕ × Text). (end : Text) × IsArgument whole t q.0 end × Gap end q.1) (ok_value made)
      (after_word t, IsArgument.word (word_some t some) (word_spelled t) (word_stands t), within_spelled whole at (after_word t) here gap)
]

-- ---- statements

abbrev with_argument : (whole t : Text) → List ℕ × Text → Read Head
with_argument whole t x = if is_end x.1 then Ok ((word t, Some x.0), x.1) else Err (BadToken (place whole x.1))

abbrev after_keyword : (whole t here : Text) → Read Head
after_keyword whole t here = if is_end here then Ok ((word t, None), here) else (argument whole (place whole t) here >>= with_argument whole t)

head_spelled : (whole t : Text) (p : Head × Text) → header whole t ≡ Ok p → IsHead whole t p.0 p.1 × (is_end p.1 ≡ true)
unfolding header
head_spelled whole t p h =
    let (named, tail) = no_fault (not (is_keyword (word t))) (BadToken (place whole t)) (within whole (place whole t) (after_word t) >>= after_keyword whole t) h in
    let (here, gap, step) = bind_ok (within whole (place whole t) (after_word t)) (after_keyword whole t) tail in
    let wide = within_spelled whole (place whole t) (after_word t) here gap in
    elim (chosen (is_end here) (Ok ((word t, None), here)) (argument whole (place whole t) here >>= with_argument whole t) step) [
      | inl w ↦ subst (λ (q : Head × Text). IsHead whole t q.0 q.1 × (is_end q.1 ≡ true)) (ok_value w.1)
          (record { after = after_word t; keyword = word_stands t; is_word = word_spelled t; is_name = not-false _ named; argument = wide }, w.0)
      | inr w ↦
          let (x, read, last) = bind_ok (argument whole (place whole t) here) (with_argument whole t) w.1 in
          let (end, arg, behind) = argument_spelled whole (place whole t) here x read in
          elim (chosen (is_end x.1) (Ok ((word t, Some x.0), x.1)) (Err (BadToken (place whole x.1))) last) [
            | inl v ↦ subst (λ (q : Head × Text). IsHead whole t q.0 q.1 × (is_end q.1 ≡ true)) (ok_value v.1)
                (record { after = after_word t; keyword = word_stands t; is_word = word_spelled t; is_name = not-false _ named; argument = (here, end, wide, arg, behind) }, v.0)
            | inr v ↦ failed _ v.1
          ]
    ]

end_cases : (t : Text) → is_end t ≡ true → (first t == 59) ≡ false → t ≡ 123 ∷ drop 1 t
end_cases t h other = elim (or_cases (first t == 59) (first t == 123) h) [
  | inl e ↦ absurd (both_ways (first t == 59) other e)
  | inr e ↦ starts_with_byte 123 t refl e
]

-- a reader of statements of one kind, and what it reads
module _ (whole : Text) (inner : Text → Read Stmt) (IsOne : Text → Stmt → Text → Type 0) (one : (t : Text) (p : Stmt × Text) → inner t ≡ Ok p → IsOne t p.0 p.1) where
  abbrev block_from : (opening n : ℕ) (here : Text) → Read (List Stmt)
  block_from opening n here = inner here >>= λ x. statements whole inner opening n x.1 >>= λ y. Ok (x.0 ∷ y.0, y.1)

  statements_spelled : (opening n : ℕ) (t : Text) (p : List Stmt × Text) → statements whole inner opening n t ≡ Ok p → AreStatements whole IsOne t p.0 p.1
  unfolding statements
  statements_spelled opening zero t p h = failed _ h
  statements_spelled opening (suc n) t p h =
      let (here, gap, step) = bind_ok (skip whole t) _ h in
      let wide = gap_spelled whole (length t) t here gap in
      let (some, tail) = no_fault (is_empty here) (Unclosed opening) (if first here == 125 then Ok ([], drop 1 here) else block_from opening n here) step in
      elim (chosen (first here == 125) (Ok ([], drop 1 here)) (block_from opening n here) tail) [
        | inl w ↦ subst (λ (q : List Stmt × Text). AreStatements whole IsOne t q.0 q.1) (ok_value w.1)
            (no_statement t (drop 1 here) (subst (Gap t) (starts_with_byte 125 here refl w.0) wide))
        | inr w ↦
            let (x, first_read, last) = bind_ok (inner here) _ w.1 in
            let (y, others, made) = bind_ok (statements whole inner opening n x.1) _ last in
            subst (λ (q : List Stmt × Text). AreStatements whole IsOne t q.0 q.1) (ok_value made)
            (one_statement t here x.0 x.1 y.0 y.1 wide (one here x first_read) (statements_spelled opening n x.1 y others))
      ]

plain_spelled : (whole t : Text) (x : Head × Text) → IsHead whole t x.0 x.1 → (first x.1 == 59) ≡ true → IsPlain whole t (made (place whole t) x.0 []) (drop 1 x.1)
plain_spelled whole t x head e = record { head = x.0; is_head = subst (IsHead whole t x.0) (starts_with_byte 59 x.1 refl e) head; same = refl }

abbrev with_block : (whole : Text) (levels : ℕ) (t : Text) → Head × Text → Read Stmt
with_block whole levels t x = statements whole (statement whole levels) (place whole x.1) (turns (drop 1 x.1)) (drop 1 x.1) >>= λ y. Ok (made (place whole t) x.0 y.0, y.1)

statement_spelled : (whole : Text) (levels : ℕ) (t : Text) (p : Stmt × Text) → statement whole levels t ≡ Ok p → IsStatement whole levels t p.0 p.1
unfolding statement
statement_spelled whole zero t p h =
    let (x, read, step) = bind_ok (header whole t) _ h in
    let (head, ends) = head_spelled whole t x read in
    elim (chosen (first x.1 == 59) (Ok (made (place whole t) x.0 [], drop 1 x.1)) (Err (TooDeep (place whole x.1))) step) [
      | inl w ↦ subst (λ (q : Stmt × Text). IsPlain whole t q.0 q.1) (ok_value w.1) (plain_spelled whole t x head w.0)
      | inr w ↦ failed _ w.1
    ]
statement_spelled whole (suc levels) t p h =
    let (x, read, step) = bind_ok (header whole t) _ h in
    let (head, ends) = head_spelled whole t x read in
    elim (chosen (first x.1 == 59) (Ok (made (place whole t) x.0 [], drop 1 x.1)) (with_block whole levels t x) step) [
      | inl w ↦ inl (subst (λ (q : Stmt × Text). IsPlain whole t q.0 q.1) (ok_value w.1) (plain_spelled whole t x head w.0))
      | inr w ↦
          let (y, block, last) = bind_ok (statements whole (statement whole levels) (place whole x.1) (turns (drop 1 x.1)) (drop 1 x.1)) _ w.1 in
          let subs = statements_spelled whole (statement whole levels) (IsStatement whole levels) (statement_spelled whole levels) (place whole x.1) (turns (drop 1 x.1)) (drop 1 x.1) y block in
          inr (subst (λ (q : Stmt × Text). IsBlock whole (IsStatement whole levels) t q.0 q.1) (ok_value last)
          (record { head = x.0; block = drop 1 x.1; subs = y.0; is_head = subst (IsHead whole t x.0) (end_cases x.1 ends w.0) head; are_subs = subs; same = refl }))
    ]

pub read_is_spelled : (text : Text) (stmt : Stmt) → read text ≡ Ok stmt → Spells text stmt
unfolding read
read_is_spelled text stmt h =
    let (here, before, step) = bind_ok (skip text text) _ h in
    let (some, tail) = no_fault (is_empty here) (BadToken 0) _ step in
    let (x, one, last) = bind_ok (statement text 64 here) _ tail in
    let (rest, behind, end) = bind_ok (skip text x.1) _ last in
    elim (chosen (is_empty rest) (Ok x.0) (if starts_token rest then Err (TextAfter (place text rest)) else Err (BadToken (place text rest))) end) [
      | inl w ↦
          let none : length rest ≡ 0 = eqb-true (length rest) 0 w.0 in
          record {
            here = here;
            after = x.1;
            before = gap_spelled text (length text) text here before;
            statement = subst (λ s. IsStatement text 64 here s x.1) (ok_value w.1) (statement_spelled text 64 here x one);
            behind = subst (Gap x.1) (nil_from_length rest none) (gap_spelled text (length x.1) x.1 rest behind);
          }
      | inr w ↦ elim (chosen (starts_token rest) (Err (TextAfter (place text rest))) (Err (BadToken (place text rest))) w.1) [ inl v ↦ failed _ v.1 | inr v ↦ failed _ v.1 ]
    ]
