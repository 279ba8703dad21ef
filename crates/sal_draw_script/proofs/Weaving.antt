-- How many entries were woven in, and what the clients have left.
use Rattle.std.proofs.Common.{◌≡◌, ℕ, ◌+◌, ◌<◌, ◌≤◌, Bool, false, List, [], ◌∷◌, ◌++◌, length, get_or, take, drop, Option, None, Some, refl, ap, sym, ◌∙◌, append_assoc}
use Rattle.std.specs.Prelude.{map, nat_lt, slice_get}
use Rattle.std.specs.List.{fold}
use Rattle.std.proofs.lemmas.List.{append-nil, drop_all, drop_more, take_more}
use Rattle.std.proofs.lemmas.List.Sums.{fold_push}
use Rattle.sal_schema.specs.declared.table.SchemaTable.{SchemaTable}
use Rattle.sal_history.specs.declared.call.Call.{Call}
use Rattle.sal_history.specs.declared.call.Entry.{Entry}
use Rattle.sal_script.specs.declared.reply.StepReply.{StepReply}
use Rattle.sal_script.specs.declared.reply.StepReply.TheVariants as step_reply
use Rattle.sal_shapes.specs.declared.scene.Made.{Made}
use Rattle.sal_shapes.specs.declared.scene.Row.{Row}
use Rattle.sal_shapes.specs.declared.scene.Scene.{Scene}
use Rattle.sal_draw.specs.Acts.{Track}
use Rattle.sal_draw_script.specs.Rows.{Bead, Weave, locals, local_row, rest_rows, shared, shared_by, turn, weave, with_locals}

-- one item more of a fold
pub fold_more : {A B : Type 0} (f : B → A → B) (a : B) (xs : List A) (i : ℕ) (x : A) → i < length xs → x ≡ get_or xs i x → fold f a (take (i + 1) xs) ≡ f (fold f a (take i xs)) x
fold_more f a xs i x h e = ap (fold f a) (take_more xs i x h) ∙ fold_push f a (take i xs) (get_or xs i x) ∙ ap (f (fold f a (take i xs))) (sym e)

module _ (tables : List SchemaTable) (made : ℕ → Option Made) where
  by_place : (lane : ℕ) (hidden : Bool) (call : Call) (b : Bead) (r : StepReply) (w : Weave) → (shared_by tables made lane hidden call b r w).place ≡ w.place
  by_place lane hidden call b (step_reply.Called r) w = refl
  by_place lane hidden call b r w = refl

  shared_place : (lane : ℕ) (hidden : Bool) (call : Call) (o : Option Bead) (w : Weave) → (shared tables made lane hidden call o w).place ≡ w.place
  shared_place lane hidden call None w = refl
  shared_place lane hidden call (Some b) w = by_place lane hidden call b b.reply w

  turn_place : (lane : ℕ) (hidden : Bool) (call : Call) (o : Option (List Bead)) (w : Weave) → (turn tables made lane hidden call o w).place ≡ w.place
  turn_place lane hidden call None w = refl
  turn_place lane hidden call (Some bs) w = shared_place lane hidden call _ (with_locals tables lane hidden bs w)

  -- each entry counts
  pub weave_place : (from : ℕ) (w : Weave) (e : Entry) → (weave tables made from w e).place ≡ w.place + 1
  weave_place from w e = ap (λ (n : ℕ). n + 1) (turn_place e.client (nat_lt w.place from) e.call (slice_get w.left e.client) w)

-- what one client more has left
pub rest_more : (tables : List SchemaTable) (left : List (List Bead)) (i : ℕ) (bs : List Bead) (done : List Row) → i < length left → bs ≡ get_or left i bs → (done ++ map (local_row tables i false) bs) ++ rest_rows tables (i + 1) (drop (i + 1) left) ≡ done ++ rest_rows tables i (drop i left)
rest_more tables left i bs done h e =
    append_assoc done (map (local_row tables i false) bs) (rest_rows tables (i + 1) (drop (i + 1) left))
    ∙ ap (λ (bss : List (List Bead)). done ++ rest_rows tables i bss) (ap (λ (b : List Bead). b ∷ drop (i + 1) left) e ∙ sym (drop_more left i bs h))

pub rest_all : (tables : List SchemaTable) (left : List (List Bead)) (i : ℕ) (done : List Row) → length left ≤ i → done ++ rest_rows tables i (drop i left) ≡ done
rest_all tables left i done h = ap (λ (bss : List (List Bead)). done ++ rest_rows tables i bss) (drop_all i left h) ∙ append-nil done

pub same_weave : (l l' : List (List Bead)) (t : Track) (p : ℕ) (r r' : List Row) → l ≡ l' → r ≡ r' → ◌≡◌ {A = Weave} (record { left = l; track = t; place = p; rows = r }) (record { left = l'; track = t; place = p; rows = r' })
same_weave l l' t p r r' d e = ap (λ (x : List (List Bead)). record { left = x; track = t; place = p; rows = r }) d ∙ ap (λ (x : List Row). record { left = l'; track = t; place = p; rows = x }) e

pub same_scene : (l l' : List (List ℕ)) (d : List ℕ) (r r' : List Row) → l ≡ l' → r ≡ r' → ◌≡◌ {A = Scene} (record { lanes = l; domains = d; rows = r }) (record { lanes = l'; domains = d; rows = r' })
same_scene l l' d r r' e f = ap (λ (x : List (List ℕ)). record { lanes = x; domains = d; rows = r }) e ∙ ap (λ (x : List Row). record { lanes = l'; domains = d; rows = x }) f
