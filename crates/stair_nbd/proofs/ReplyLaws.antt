-- Where a reply lies in the buffer: its header right before its bytes.
use Rattle.std.proofs.Common.{◌≡◌, ◌∙◌, ◌+◌, ◌-◌, ◌≤◌, ℕ, List, [], ◌++◌, append-nil, ap, ap₂, arith, drop, length, length-append, length-drop, subst, sym, take}
use Rattle.std.proofs.lemmas.List.{drop-drop, drop_all, length-take-le, take_all}
use Rattle.std.proofs.Math.Seq.{drop-append_seam, take-append-add}
use borrow.Rule.Slice.PartMut.{put_mid}
use Rattle.stair_nbd.specs.Sessions.{IsKept, data_of}
use Rattle.stair_nbd.specs.Wire.{data_length, simple_reply}
use Rattle.stair_nbd.specs.declared.reply.Reply.{Reply}
use Rattle.stair_nbd.specs.declared.wire.Request.{Request}

-- ---- the room before the blocks

-- the buffer, of which the blocks after the room are these
abbrev pub with_blocks : (room : ℕ) (old blocks : List ℕ) → List ℕ
with_blocks room old blocks = put_mid room (length old - room) old blocks

pub room_stays : (room : ℕ) (old blocks : List ℕ) → room ≤ length old → room ≤ length (with_blocks room old blocks)
room_stays room old blocks fits =
    let rest : List ℕ = drop (length old - room) (drop room old) in
    let long : length (with_blocks room old blocks) ≡ length (take room old) + length (blocks ++ rest) = length-append (take room old) (blocks ++ rest) in
    omega (arith, long, length-take-le room old fits)

pub after_room : (room : ℕ) (old blocks : List ℕ) → room ≤ length old → drop room (with_blocks room old blocks) ≡ blocks
after_room room old blocks fits =
    let rest : List ℕ = drop (length old - room) (drop room old) in
    let none : rest ≡ [] = drop_all (length old - room) (drop room old) (omega (arith, length-drop room old)) in
    ap (λ (n : ℕ). drop n (take room old ++ (blocks ++ rest))) (sym (length-take-le room old fits))
    ∙ drop-append_seam (take room old) (blocks ++ rest)
    ∙ ap (λ (b : List ℕ). blocks ++ b) none
    ∙ append-nil blocks

-- the part after the room, up to the end
abbrev pub part_after : (room : ℕ) → List ℕ → List ℕ
part_after room buffer = take (length buffer - room) (drop room buffer)

module _ (room : ℕ) (old blocks : List ℕ) (fits : room ≤ length old) where
  is_after : part_after room (with_blocks room old blocks) ≡ blocks
  is_after =
      let now : List ℕ = with_blocks room old blocks in
      take_all (length now - room) (drop room now) (omega (arith, length-drop room now)) ∙ after_room room old blocks fits

  -- what is kept in the blocks is kept there
  pub kept_after : (size : ℕ) (q : Request) (bytes : List ℕ) → IsKept size q (data_length q) bytes blocks
      → IsKept size q (data_length q) bytes (part_after room (with_blocks room old blocks))
  kept_after size q bytes = subst (λ (b : List ℕ). IsKept size q (data_length q) bytes b) (sym is_after)

  -- and the blocks afterwards have the bytes of the reply
  pub reply_after : (after : List ℕ) (reply : Reply) (q : Request)
      → simple_reply reply.error q.cookie ++ data_of reply (drop room (with_blocks room (with_blocks room old blocks) after))
      ≡ simple_reply reply.error q.cookie ++ data_of reply after
  reply_after after reply q =
      ap (λ (b : List ℕ). simple_reply reply.error q.cookie ++ data_of reply b)
      (after_room room (with_blocks room old blocks) after (room_stays room old blocks fits))

-- ---- a reply

-- a header that is written right before some bytes is one piece with them
pub one_piece : (header old : List ℕ) (room start end count : ℕ) → end ≡ room + start → length header ≡ room → end + count ≤ length old
    → take (end + count - start) (drop start (put_mid start (end - start) old header)) ≡ header ++ take count (drop start (drop room old))
one_piece header old room start end count at long fits =
    let rest : List ℕ = drop (end - start) (drop start old) in
    let few : length (take start old) ≡ start = length-take-le start old (omega (arith, at, fits)) in
    let many : end + count - start ≡ length header + count = omega (arith, at, long) in
    let behind : start + (end - start) ≡ room + start = omega (arith, at) in
    let same : rest ≡ drop start (drop room old) =
    drop-drop (end - start) start old ∙ ap (λ (n : ℕ). drop n old) behind ∙ sym (drop-drop start room old) in
    ap₂ (λ (m n : ℕ). take m (drop n (take start old ++ (header ++ rest)))) many (sym few)
    ∙ ap (take (length header + count)) (drop-append_seam (take start old) (header ++ rest))
    ∙ take-append-add header rest count
    ∙ ap (λ (b : List ℕ). header ++ take count b) same
