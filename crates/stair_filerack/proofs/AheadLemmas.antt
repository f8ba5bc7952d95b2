-- What is held of the sectors that were read ahead.
use Rattle.std.proofs.Common.{zero, suc, ◌≡◌, ◌≤◌, ◌<◌, ◌↔◌, ℕ, ◌+◌, ◌-◌, ◌*◌, ◌/◌, Bool, false, List, [], ◌++◌, length, take, drop, Option, Some, IsTrue, arith, sym, refl, ap, ◌∙◌, subst, take-append-drop}
use Rattle.std.specs.Prelude.{slice_index_or}
use Rattle.std.proofs.lemmas.List.{drop_all, drop-drop, length-drop, length-take-le, take-take}
use Rattle.std.specs.Simd.{first_chunks}
use Rattle.stair_image.specs.Seal.{IsSealed, payload_in}
use Rattle.stair_filerack.specs.Files.{GivesSector, IsHeld}
use Rattle.stair_filerack.specs.Slot.{ReadAhead, missed_at, released}

-- a sector of the eight
abbrev pub sector_at : ℕ → List ℕ → List ℕ
sector_at j bytes = take 544 (drop (544 * j) bytes)

-- what contracts see where so many of the eight are passed over
abbrev pub ahead_of : ℕ → ℕ → List ℕ → Option ℕ → ReadAhead
ahead_of from passed bytes missed = record { from = from; bytes = drop (544 * passed) bytes; missed = missed }

-- the verdicts on the sectors that are held
abbrev pub AreVerdicts : List Bool → ℕ → ℕ → List ℕ → Type 0
AreVerdicts sealed from passed bytes =
    (j : ℕ) → passed ≤ j → j < 8 → IsTrue (slice_index_or sealed j false) ↔ IsSealed (from + (j - passed)) (sector_at j bytes)

-- once all of the eight are passed over nothing is held
pub all_passed : (from passed : ℕ) (bytes held : List ℕ) (missed : Option ℕ) (old : ReadAhead) → length bytes ≡ 4352
    → ahead_of from passed held missed ≡ old → ahead_of from 8 bytes missed ≡ released old
all_passed from passed bytes held missed old whole is =
    ap (λ (rest : List ℕ). record { from = from; bytes = rest; missed = missed }) (drop_all 4352 bytes (omega (arith, whole))) ∙ ap released is

pub all_missed : (from passed sector : ℕ) (bytes held : List ℕ) (missed : Option ℕ) (old : ReadAhead) → length bytes ≡ 4352
    → ahead_of from passed held missed ≡ old → ahead_of from 8 bytes (Some sector) ≡ missed_at sector old
all_missed from passed sector bytes held missed old whole is =
    ap (λ (rest : List ℕ). record { from = from; bytes = rest; missed = Some sector }) (drop_all 4352 bytes (omega (arith, whole))) ∙ ap (missed_at sector) is

-- which of the eight a sector is
abbrev pub place_of : ℕ → ℕ → ℕ → ℕ
place_of from passed sector = passed + (sector - from)

-- how many are held
held_count : (passed : ℕ) (bytes : List ℕ) → length bytes ≡ 4352 → length (drop (544 * passed) bytes) / 544 ≡ 8 - passed
held_count passed bytes whole =
    let count : length (drop (544 * passed) bytes) ≡ 544 * (8 - passed) = omega (arith, length-drop (544 * passed) bytes, whole) in
    omega (arith, count)

-- a sector that is held is one of the eight
pub held_below : (from passed sector : ℕ) (bytes : List ℕ) (missed : Option ℕ) (old : ReadAhead) → ahead_of from passed bytes missed ≡ old
    → length bytes ≡ 4352 → IsHeld old sector → (from ≤ sector) × (place_of from passed sector < 8)
held_below from passed sector bytes missed old is whole held =
    let here : IsHeld (ahead_of from passed bytes missed) sector = subst (λ (a : ReadAhead). IsHeld a sector) (sym is) held in
    (here.0, omega (arith, here.0, here.1, held_count passed bytes whole))

-- and the other way round
pub is_held : (from passed sector : ℕ) (bytes : List ℕ) (missed : Option ℕ) (old : ReadAhead) → ahead_of from passed bytes missed ≡ old
    → length bytes ≡ 4352 → from ≤ sector → sector - from < 8 - passed → IsHeld old sector
is_held from passed sector bytes missed old is whole low below =
    subst (λ (a : ReadAhead). IsHeld a sector) is (low, omega (arith, low, below, held_count passed bytes whole))

-- the sector stays held, and those before it are passed over
pub gives_sector : (from passed sector : ℕ) (bytes : List ℕ) (missed : Option ℕ) (old : ReadAhead) → ahead_of from passed bytes missed ≡ old
    → length bytes ≡ 4352 → from ≤ sector → place_of from passed sector < 8
    → GivesSector sector (sector_at (place_of from passed sector) bytes) old (ahead_of sector (place_of from passed sector) bytes missed)
gives_sector from passed sector bytes missed old is whole low below =
    let place = place_of from passed sector in
    let over = 544 * (sector - from) in
    let held = drop (544 * passed) bytes in
    let here : 544 * passed + over ≡ 544 * place = omega arith in
    let its : drop over held ≡ drop (544 * place) bytes = drop-drop over (544 * passed) bytes ∙ ap (λ (n : ℕ). drop n bytes) here in
    let before : length (take over held) ≡ over = length-take-le over held (omega (arith, length-drop (544 * passed) bytes, whole)) in
    subst (λ (a : ReadAhead). GivesSector sector (sector_at place bytes) a (ahead_of sector place bytes missed)) is
    (record {
      whole = length-take-le 544 (drop (544 * place) bytes) (omega (arith, length-drop (544 * place) bytes, whole));
      held = (
        take over held,
        sym (take-append-drop over held) ∙ ap (λ (l : List ℕ). take over held ++ l) its,
        omega (arith, before, low),
      );
      first = (drop 544 (drop (544 * place) bytes), sym (take-append-drop 544 (drop (544 * place) bytes)));
      from = refl;
      missed = refl;
    })

-- and so do the verdicts
pub verdicts_after : (sealed : List Bool) (from passed sector : ℕ) (bytes : List ℕ) → from ≤ sector → AreVerdicts sealed from passed bytes
    → AreVerdicts sealed sector (place_of from passed sector) bytes
verdicts_after sealed from passed sector bytes above verdicts j low below =
    let same : from + (j - passed) ≡ sector + (j - place_of from passed sector) = omega arith in
    subst (λ (n : ℕ). IsTrue (slice_index_or sealed j false) ↔ IsSealed n (sector_at j bytes)) same (verdicts j (omega arith) below)

-- the verdict on the sector
pub verdict_on : (sealed : List Bool) (from passed sector : ℕ) (bytes : List ℕ) → from ≤ sector → place_of from passed sector < 8
    → AreVerdicts sealed from passed bytes
    → IsTrue (slice_index_or sealed (place_of from passed sector) false) ↔ IsSealed sector (sector_at (place_of from passed sector) bytes)
verdict_on sealed from passed sector bytes low below verdicts =
    let place = place_of from passed sector in
    let same : from + (place - passed) ≡ sector = omega arith in
    subst (λ (n : ℕ). IsTrue (slice_index_or sealed place false) ↔ IsSealed n (sector_at place bytes)) same (verdicts place (omega arith) below)

-- its payload
pub payload_at : (place : ℕ) (bytes : List ℕ) → take 512 (drop (544 * place) bytes) ≡ payload_in (sector_at place bytes)
payload_at place bytes = sym (take-take 512 544 (drop (544 * place) bytes) (omega arith))

-- a chunk of a list
pub get_or-first_chunks : {X : Type 0} (size count j : ℕ) (xs : List X) → j < count
    → slice_index_or (first_chunks size count xs) j [] ≡ take size (drop (size * j) xs)
get_or-first_chunks size zero j xs below = absurd (omega arith)
get_or-first_chunks size (suc count) zero xs below =
    let none : 0 ≡ size * 0 = omega arith in
    ap (λ (n : ℕ). take size (drop n xs)) none
get_or-first_chunks size (suc count) (suc j) xs below =
    let place : size + size * j ≡ size * suc j = omega arith in
    get_or-first_chunks size count j (drop size xs) (omega arith)
    ∙ ap (take size) (drop-drop (size * j) size xs ∙ ap (λ (n : ℕ). drop n xs) place)
