-- The front of a buffer, as bytes that are held.
use Rattle.std.proofs.Common.{Vec, ◌≡◌, ◌∙◌, length-drop, ◌+◌, ◌-◌, ◌*◌, ◌/◌, ◌<◌, ◌≤◌, ℕ, List, ◌++◌, length, take, drop, zero-add, ap, ap₂, refl, sym, arith}
use Rattle.std.proofs.lemmas.List.{drop-take, length-take-le}
use Rattle.std.proofs.lemmas.List.Edits.{length-paste, take-paste}
use Rattle.std.specs.List.{copy_within}
use Rattle.std.proofs.lemmas.Slice.{put_mid-paste}
use Rattle.std.proofs.lemmas.List.{with_items_is}
use Rattle.std.specs.Vec.{with_items}
use Rattle.stair_model.specs.Stripe.{SECTOR}
use Rattle.stair_command.specs.Pieces.{Held, TakesPiece, part_of}
use Rattle.stair_command.specs.declared.intake.Intake.{Intake}
use Rattle.stair_command.specs.Executes.{Gives}
use Rattle.stair_command.specs.Outside.{SourceView}
use Rattle.stair_command.specs.Trace.{Took}
use Rattle.stair_command.proofs.StreamLaws.{take-put_mid_more}
use borrow.Rule.Slice.PartMut.{put_mid}

abbrev pub held_in : List ℕ → ℕ → Held
held_in buffer held = record { bytes = take held buffer; room = length buffer }

pub held_long : (was : Held) (buffer : List ℕ) (held : ℕ) → held_in buffer held ≡ was → held ≤ length buffer → length was.bytes ≡ held
held_long was buffer held is within = ap (λ (h : Held). length h.bytes) (sym is) ∙ length-take-le held buffer within

-- A vector had these bytes, of which so many at its front were held, and a part of it after them was written.
module _ {Z : Type 0} (v : Vec ℕ Z) (blocks from held : ℕ) (was : Held) (buffer into : List ℕ) (is : held_in v.items held ≡ was)
    (same : buffer ≡ v.items) (count_is : from ≡ blocks) (within : held ≤ length v.items) (part : length was.bytes < SECTOR)
    (room : SECTOR * blocks ≤ was.room) (some : 0 < blocks) (long : length into ≡ length (take (SECTOR * from - held) (drop held buffer))) where
  abbrev size : ℕ
  size = SECTOR * from - held

  abbrev written : List ℕ
  written = put_mid held size buffer into

  fits : held + size ≤ length buffer
  fits =
      let had = held_long was v.items held is within in
      let here : length buffer ≡ was.room = ap length same ∙ ap (λ (h : Held). h.room) is in
      omega (arith, room, here, count_is, part, had, some)

  whole : length into ≡ size
  whole = long ∙ length-take-le size (drop held buffer) (omega (arith, length-drop held buffer, fits))

  as_long : length written ≡ length buffer
  as_long = ap length (put_mid-paste held size buffer into into size refl refl (sym whole)) ∙ length-paste buffer held into size fits (omega (arith, whole))

  stands : (with_items v written).items ≡ written
  stands = with_items_is v written (as_long ∙ ap length same ∙ sym v.ok.0)

  -- What was taken stands after what was held.
  pub took_piece : {S : Type 0} (view : SourceView S) (count : ℕ) (first now : Intake) (old new : S)
      → (SECTOR - held ≤ count) × (count ≤ length into) × Gives view (Took (take count into)) old new
      → now ≡ record first { took = first.took + count }
      → TakesPiece view blocks was (held_in (with_items v written).items (held + count)) first now old new
  took_piece view count first now old new came counted =
      let had = held_long was v.items held is within in
      let front : take held buffer ≡ was.bytes = ap (take held) same ∙ ap (λ (h : Held). h.bytes) is in
      let inside : held ≤ length buffer = omega (arith, within, ap length same) in
      let bytes : length (take count into) ≡ count = length-take-le count into came.1 in
      record {
        bytes = take count into;
        enough = record { enough = omega (arith, bytes, had, came.0); within = omega (arith, bytes, had, whole, came.1, count_is) };
        gives = came.2;
        held = ap (λ (items : List ℕ). held_in items (held + count)) stands
            ∙ ap₂ (λ (bytes : List ℕ) (room : ℕ). let h : Held = record { bytes = bytes; room = room } in h)
            (take-put_mid_more held count size buffer into inside came.1 ∙ ap (λ (front : List ℕ). front ++ take count into) front)
            (as_long ∙ ap length same ∙ ap (λ (h : Held). h.room) is);
        counted = counted ∙ ap (λ (n : ℕ). let i : Intake = record first { took = first.took + n } in i) (sym bytes);
      }

-- The bytes after the whole blocks moved to the front.
pub dropped_whole : (was : Held) (items : List ℕ) (held : ℕ) → held_in items held ≡ was → held ≤ length items
    → held_in (copy_within items (held / SECTOR * SECTOR) held 0) (held - held / SECTOR * SECTOR) ≡ record was { bytes = part_of was.bytes }
dropped_whole was items held is within =
    let whole = held / SECTOR * SECTOR in
    let rest = held - whole in
    let had = held_long was items held is within in
    let behind : rest ≤ length (drop whole items) = omega (arith, length-drop whole items, within) in
    let front : take rest (copy_within items whole held 0) ≡ take rest (drop whole items) =
    ap (λ (n : ℕ). take n (copy_within items whole held 0)) (sym (zero-add rest)) ∙ take-paste items 0 (drop whole items) rest (omega arith) behind in
    let all : whole + rest ≡ held = omega arith in
    let left : take rest (drop whole items) ≡ drop whole (take held items) =
    sym (drop-take whole rest items) ∙ ap (λ (n : ℕ). drop whole (take n items)) all in
    let part : drop whole (take held items) ≡ part_of was.bytes =
    ap₂ (λ (n : ℕ) (bytes : List ℕ). drop (n / SECTOR * SECTOR) bytes) (sym had) (ap (λ (h : Held). h.bytes) is) in
    let long : length (copy_within items whole held 0) ≡ was.room =
    length-paste items 0 (drop whole items) rest (omega (arith, within)) behind ∙ ap (λ (h : Held). h.room) is in
    ap₂ (λ (bytes : List ℕ) (room : ℕ). let h : Held = record { bytes = bytes; room = room } in h) (front ∙ left ∙ part) long
