-- Steps that are played one after another, and the lines of their replies.
use Rattle.std.proofs.Common.{◌≡◌, ℕ, ◌+◌, ◌<◌, ◌≤◌, List, [], ◌∷◌, ◌++◌, length, map, append_assoc, append-nil, ap, sym, ◌∙◌, arith}
use Rattle.std.specs.List.{fold}
use Rattle.std.proofs.lemmas.List.{map-append, map-id, length-append, length-map}
use Rattle.std.proofs.lemmas.List.Sums.{fold-append}
use Rattle.sal_owner.specs.declared.call.OwnerEntry.{OwnerEntry}
use Rattle.sal_owner.specs.declared.call.OwnerReply.{OwnerReply}
use Rattle.sal_owner.specs.Ownership.{Made, make, made_of, reply, reply_to}
use Rattle.sal_owner_script.specs.declared.step.OwnerStep.{OwnerStep}
use Rattle.sal_owner_script.specs.Replies.{entry_of, lines_from, replies_to, reply_line, steps_text}

-- ---- the lines

lines-more : (i : ℕ) (replies : List OwnerReply) (answer : OwnerReply) → lines_from i (replies ++ answer ∷ []) ≡ lines_from i replies ++ reply_line (i + length replies) answer
lines-more i [] answer = append-nil (reply_line i answer) ∙ ap (λ n. reply_line n answer) (omega arith)
lines-more i (r ∷ rs) answer =
    ap (λ (rest : List ℕ). reply_line i r ++ rest) (lines-more (i + 1) rs answer)
    ∙ sym (append_assoc (reply_line i r) (lines_from (i + 1) rs) (reply_line (i + 1 + length rs) answer))
    ∙ ap (λ n. (reply_line i r ++ lines_from (i + 1) rs) ++ reply_line n answer) (omega arith)

-- ---- the steps so far

-- as many calls as steps, with the same replies, and the lines of these
pub record IsPlayed (done : List OwnerStep) (log : List OwnerEntry) (written : List ℕ) : Type 0 where
  pub made : made_of log ≡ made_of (map entry_of done)
  pub count : length log ≡ length done
  pub text : written ≡ steps_text done

length-made : (made : List Made) (log : List OwnerEntry) → length (fold make made log) ≡ length made + length log
length-made made [] = omega arith
length-made made (e ∷ log) =
    let last : Made = record { client = e.client; call = e.call; reply = reply_to made e.client e.call } in
    let grown : length (make made e) ≡ length made + 1 = length-append made (last ∷ []) in
    omega (arith, length-made (make made e) log, grown)

abbrev replies_of : List Made → List OwnerReply
replies_of made = map (λ (m : Made). m.reply) made

module _ (done : List OwnerStep) (step : OwnerStep) where
  abbrev before : List Made
  before = made_of (map entry_of done)

  abbrev answer : OwnerReply
  answer = reply_to before step.client step.call

  made-more : made_of (map entry_of (done ++ step ∷ [])) ≡ make before (entry_of step)
  made-more = ap made_of (map-append entry_of done (step ∷ [])) ∙ fold-append make [] (map entry_of done) (entry_of step ∷ [])

  replies-more : replies_to (done ++ step ∷ []) ≡ replies_to done ++ answer ∷ []
  replies-more = ap replies_of made-more ∙ map-append (λ (m : Made). m.reply) before (record { client = step.client; call = step.call; reply = answer } ∷ [])

  count : length (replies_to done) ≡ length done
  count = omega (arith, length-map before (λ (m : Made). m.reply), length-made [] (map entry_of done), length-map done entry_of)

  pub played_more : (old new : List OwnerEntry) (text text' : List ℕ) → IsPlayed done old text → made_of new ≡ make (made_of old) (entry_of step) → length new ≡ length old + 1 → text' ≡ text ++ reply_line (length old) (reply old step.client step.call)
      → IsPlayed (done ++ step ∷ []) new text'
  played_more old new text text' was made longer line =
      let number : length old ≡ 0 + length (replies_to done) = omega (arith, was.count, count) in
      record {
        made = made ∙ ap (λ (ms : List Made). make ms (entry_of step)) was.made ∙ sym made-more;
        count = longer ∙ ap (λ n. n + 1) was.count ∙ sym (length-append done (step ∷ []));
        text =
            line
            ∙ ap (λ (t : List ℕ). t ++ reply_line (length old) (reply old step.client step.call)) was.text
            ∙ ap (λ (ms : List Made). steps_text done ++ reply_line (length old) (reply_to ms step.client step.call)) was.made
            ∙ ap (λ n. steps_text done ++ reply_line n answer) number
            ∙ sym (lines-more 0 (replies_to done) answer)
            ∙ ap (lines_from 0) (sym replies-more);
      }

-- the log has room for one more of the steps
pub has_room : (steps done : List OwnerStep) (log : List OwnerEntry) (written : List ℕ) → length steps ≤ 60000 → length done < length steps → IsPlayed done log written → length log < 1000000
has_room steps done log written few within was = omega (arith, few, within, was.count)

pub all_played : (steps done : List OwnerStep) (log : List OwnerEntry) (written : List ℕ) → map (λ (s : OwnerStep). s) done ≡ steps → IsPlayed done log written → written ≡ steps_text steps
all_played steps done log written all was = was.text ∙ ap steps_text (sym (map-id done) ∙ all)
