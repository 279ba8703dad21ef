-- How the bytes of one call are added to those of the calls before it.
use Rattle.std.proofs.Common.{None, Some, IfSome, Ok, Err, Vec, ◌≡◌, ℕ, ◌+◌, ◌-◌, ◌<◌, ◌≤◌, min, List, [], ◌++◌, length, take, drop, refl, sym, ap, subst, ◌∙◌, append_assoc, append-nil, take-append-drop, take-add, take_at, drop-drop, take_all, length-drop, length-append, drop_of_length-le, arith}
use Rattle.std.specs.declared.option.Option.{Option}
use Rattle.std.specs.Io.KnownBytes.{Appends, Consumes, Keeps}
use Rattle.std.proofs.KnownBytes.{Appends-nil, Appends-trans, Appends-kept, Consumes-trans}
use Rattle.std.specs.declared.alloc.Global.{Global}
use Rattle.sal_io.specs.Transfer.{TakenBy, TakesFront}
use Rattle.sal_io.specs.declared.fault.ReadFail.TheVariants.{TooLong}

-- nothing was written yet
pub TakesFront-none : (now : Option (List ℕ)) (bytes : List ℕ) → TakesFront now now bytes bytes
TakesFront-none now bytes = record { front = []; whole = refl; taken = Appends-nil now }

-- one write more; `left` is what is left after it
pub TakesFront-more : (before middle now : Option (List ℕ)) (bytes rest left : List ℕ) (count : ℕ) → left ≡ drop count rest → TakesFront before middle bytes rest
    → Appends middle now (take count rest) → TakesFront before now bytes left
TakesFront-more before middle now bytes rest left count cut sent more = record {
  front = sent.front ++ take count rest;
  whole = sent.whole ∙ ap (λ l. sent.front ++ l) (sym (take-append-drop count rest)) ∙ sym (append_assoc sent.front _ _) ∙ ap (λ l. (sent.front ++ take count rest) ++ l) (sym cut);
  taken = Appends-trans before middle now _ _ sent.taken more;
}

-- a write that took nothing
pub TakesFront-kept : (before middle now : Option (List ℕ)) (bytes rest : List ℕ) → TakesFront before middle bytes rest → Keeps middle now → TakesFront before now bytes rest
TakesFront-kept before middle now bytes rest sent kept = record { front = sent.front; whole = sent.whole; taken = Appends-kept before middle now _ sent.taken kept }

-- where no rest is left, all was taken
pub Appends-from_TakesFront : (before now : Option (List ℕ)) (bytes rest : List ℕ) → rest ≡ [] → TakesFront before now bytes rest → Appends before now bytes
Appends-from_TakesFront before now bytes rest none sent =
    subst (Appends before now) (sym (sent.whole ∙ ap (λ l. sent.front ++ l) none ∙ append-nil sent.front)) sent.taken

-- a buffer that was filled up to `filled` with what was taken, and then with `count` bytes more
pub Consumes-filled : (before middle now : Option (List ℕ)) (old new : List ℕ) (filled count : ℕ) → take filled new ≡ take filled old → Consumes before middle (take filled old)
    → Consumes middle now (take count (drop filled new)) → Consumes before now (take (filled + count) new)
Consumes-filled before middle now old new filled count same taken more =
    subst (Consumes before now) (ap (λ l. l ++ take count (drop filled new)) (sym same) ∙ sym (take-add filled count new)) (Consumes-trans before middle now _ _ taken more)

part_all : (xs : List ℕ) (at : ℕ) → take (length xs - at) (drop at xs) ≡ drop at xs
part_all xs at = take_all _ (drop at xs) (omega (arith, length-drop at xs))

-- the front of a buffer after a read of `count` bytes, and the bytes left; `given` is the source's bytes as they are lent
pub read_front : (left bytes given buffer got : List ℕ) (at count : ℕ) → drop at bytes ≡ left → given ≡ bytes
    → got ≡ take count (take (length given - at) (drop at given)) → length got ≡ count
    → left ≡ take count (got ++ drop count buffer) ++ drop (at + count) bytes
read_front left bytes given buffer got at count is_left lent copied long =
    let front : got ≡ take count (drop at bytes) = copied ∙ ap (take count) (part_all given at ∙ ap (drop at) lent) in
    sym (ap (λ l. l ++ drop (at + count) bytes) (take_at got (drop count buffer) count long ∙ front) ∙ ap (λ l. take count (drop at bytes) ++ l) (sym (drop-drop count at bytes))
    ∙ take-append-drop count (drop at bytes) ∙ is_left)

-- a read of min(available, room) bytes puts nothing into a buffer only if nothing is left
pub read_end : (bytes given buffer got : List ℕ) (at count : ℕ) → given ≡ bytes → count ≡ min (length (take (length given - at) (drop at given))) (length buffer)
    → length got ≡ count → count ≡ 0 → 0 < length (got ++ drop count buffer) → drop (at + count) bytes ≡ []
read_end bytes given buffer got at count lent most long none some =
    drop_of_length-le bytes
    (omega (arith, most, ap length lent, ap length (part_all given at), length-drop at given, length-append got (drop count buffer), length-drop count buffer))

-- all bytes that a source is known to have were read, and they are within the limit
pub left-from_TakenBy : (left : List ℕ) (after : Option (List ℕ)) (limit : ℕ) (bytes : Vec ℕ Global) → TakenBy (Some left) after limit (Ok bytes) → (bytes.items ≡ left) × (length left ≤ limit)
left-from_TakenBy left None limit bytes read = absurd read.0.taken
left-from_TakenBy left (Some after) limit bytes read =
    let whole : left ≡ bytes.items = read.0.taken ∙ ap (λ l. bytes.items ++ l) read.0.ended ∙ append-nil bytes.items in
    (sym whole, subst (λ (l : List ℕ). length l ≤ limit) (sym whole) read.1)

-- the same, also for a source with unknown bytes
pub told-from_TakenBy : (before after : Option (List ℕ)) (limit : ℕ) (bytes : Vec ℕ Global) → TakenBy before after limit (Ok bytes) → IfSome before (λ left. (bytes.items ≡ left) × (length left ≤ limit))
told-from_TakenBy None after limit bytes read = tt
told-from_TakenBy (Some left) after limit bytes read = left-from_TakenBy left after limit bytes read

-- a source with known bytes had more than the limit
pub past-from_TakenBy : (left : List ℕ) (after : Option (List ℕ)) (limit : ℕ) → TakenBy (Some left) after limit (Err TooLong) → limit < length left
past-from_TakenBy left None limit read = absurd read.taken
past-from_TakenBy left (Some after) limit read = omega (arith, ap length read.taken, length-append read.bytes after, read.fit)

-- the same, also for a source with unknown bytes
pub told_past-from_TakenBy : (before after : Option (List ℕ)) (limit : ℕ) → TakenBy before after limit (Err TooLong) → IfSome before (λ left. limit < length left)
told_past-from_TakenBy None after limit read = tt
told_past-from_TakenBy (Some left) after limit read = past-from_TakenBy left after limit read
