-- Laws of the sectors of a device.
use Rattle.std.proofs.Common.{◌≡◌, ℕ, ◌+◌, ◌-◌, ◌*◌, ◌/◌, ◌%◌, ◌<◌, ◌≤◌, inl, inr, refl, sym, ◌∙◌, ap, ap₂, arith, nat_lt, if◌then◌else◌, div-add-mod'}
use Rattle.std.proofs.lemmas.Bool.{cases_lt, lt-ltb, le-ltb, cond-true, cond-false}
use Rattle.std.proofs.lemmas.Nat.{div_below, mod_below, mul-add-lt, div-mul-add, mod-mul-add}
use Rattle.stair_model.specs.Geometry.{Geometry, IsWithinLimits, sectors_needed}
use Rattle.stair_model.specs.Device.{DevicePart, Superblock, Gate, Body, Chunk, IsOnDevice, gate_sector, body_start, body_sector, chunks_start, cell_sector, sector_of}

-- the sectors of the journal's body lie before the chunks
body_below : (g : Geometry) (row slot : ℕ) → row < g.r → slot < g.n → body_sector g row slot < chunks_start g
body_below g row slot in_rows in_slots = let at : row * g.n + slot < g.n * g.r = mul-add-lt row g.n slot g.r in_rows in_slots in omega arith

-- each part's sector is needed
pub sector_in_range : (g : Geometry) (part : DevicePart) → IsWithinLimits g → IsOnDevice g part → sector_of g part < sectors_needed g
sector_in_range g (Superblock place) limits on = omega arith
sector_in_range g Gate limits on = omega arith
sector_in_range g (Body row slot) limits on = let before = body_below g row slot on.0 on.1 in omega arith
sector_in_range g (Chunk stripe row) limits on =
    let at : stripe * g.r + row < g.r * g.stripes = mul-add-lt stripe g.r row g.stripes on.0 on.1 in omega arith

-- the part that a sector is for
in_body : Geometry → ℕ → DevicePart
in_body g place = Body (place / g.n) (place % g.n)

in_chunks : Geometry → ℕ → DevicePart
in_chunks g place = Chunk (place / g.r) (place % g.r)

part_at : Geometry → ℕ → DevicePart
part_at g sector =
    if nat_lt sector gate_sector then Superblock sector
    else (if nat_lt sector body_start then Gate
    else (if nat_lt sector (chunks_start g) then in_body g (sector - body_start) else in_chunks g (sector - chunks_start g)))

-- the sector of a part tells the part
part_at-sector_of : (g : Geometry) (part : DevicePart) → IsOnDevice g part → part_at g (sector_of g part) ≡ part
unfolding part_at in_body in_chunks
part_at-sector_of g (Superblock place) on = cond-true _ _ _ (lt-ltb place gate_sector on)
part_at-sector_of g Gate on = refl
part_at-sector_of g (Body row slot) on =
    let sector = body_sector g row slot in
    let place : sector - body_start ≡ row * g.n + slot = omega arith in
    cond-false _ _ _ (le-ltb sector gate_sector (omega arith))
    ∙ cond-false _ _ _ (le-ltb sector body_start (omega arith))
    ∙ cond-true _ _ _ (lt-ltb sector (chunks_start g) (body_below g row slot on.0 on.1))
    ∙ ap (in_body g) place
    ∙ ap₂ Body (div-mul-add row g.n slot on.1) (mod-mul-add row g.n slot on.1)
part_at-sector_of g (Chunk stripe row) on =
    let sector = cell_sector g stripe row in
    let place : sector - chunks_start g ≡ stripe * g.r + row = omega arith in
    cond-false _ _ _ (le-ltb sector gate_sector (omega arith))
    ∙ cond-false _ _ _ (le-ltb sector body_start (omega arith))
    ∙ cond-false _ _ _ (le-ltb sector (chunks_start g) (omega arith))
    ∙ ap (in_chunks g) place
    ∙ ap₂ Chunk (div-mul-add stripe g.r row on.1) (mod-mul-add stripe g.r row on.1)

-- two parts in one sector are one part
pub part_once : (g : Geometry) (part part' : DevicePart) → IsOnDevice g part → IsOnDevice g part'
    → sector_of g part ≡ sector_of g part' → part ≡ part'
part_once g part part' on on' same = sym (part_at-sector_of g part on) ∙ ap (part_at g) same ∙ part_at-sector_of g part' on'

-- a place among rows of equal length
back : (start place width sector : ℕ) → place ≡ sector - start → start ≤ sector
    → start + place / width * width + place % width ≡ sector
back start place width sector is from = omega (arith, div-add-mod' place width)

-- each sector of the journal's body is a cell's, and each one past it a chunk's
body_has_part : (g : Geometry) (sector : ℕ) → IsWithinLimits g → body_start ≤ sector → sector < chunks_start g
    → (part : DevicePart) × IsOnDevice g part × (sector_of g part ≡ sector)
body_has_part g sector limits from to =
    let place = sector - body_start in
    let in_body : place < g.r * g.n = omega arith in
    let some : 0 < g.n = omega (arith, limits.devices) in (
      Body (place / g.n) (place % g.n),
      (div_below place g.n g.r some in_body, mod_below place g.n some),
      back body_start place g.n sector refl from,
    )

chunks_have_part : (g : Geometry) (sector : ℕ) → IsWithinLimits g → chunks_start g ≤ sector → sector < sectors_needed g
    → (part : DevicePart) × IsOnDevice g part × (sector_of g part ≡ sector)
chunks_have_part g sector limits from to =
    let place = sector - chunks_start g in
    let in_chunks : place < g.stripes * g.r = omega arith in
    let some : 0 < g.r = omega (arith, limits.rows) in (
      Chunk (place / g.r) (place % g.r),
      (div_below place g.r g.stripes some in_chunks, mod_below place g.r some),
      back (chunks_start g) place g.r sector refl from,
    )

-- each sector that is needed is for a part
pub sector_has_part : (g : Geometry) (sector : ℕ) → IsWithinLimits g → sector < sectors_needed g
    → (part : DevicePart) × IsOnDevice g part × (sector_of g part ≡ sector)
sector_has_part g sector limits below =
    elim (cases_lt sector gate_sector) [
      | inl superblock ↦ (Superblock sector, superblock, refl)
      | inr past ↦
          elim (cases_lt sector body_start) [
            | inl gate ↦ (Gate, tt, omega arith)
            | inr past_gate ↦
                elim (cases_lt sector (chunks_start g)) [
                  | inl body ↦ body_has_part g sector limits past_gate body
                  | inr past_body ↦ chunks_have_part g sector limits past_body below
                ]
          ]
    ]

-- the last row of the last stripe lies in the last sector that is needed
pub last_sector : (g : Geometry) → IsWithinLimits g → cell_sector g (g.stripes - 1) (g.r - 1) + 1 ≡ sectors_needed g
last_sector g limits = last g.stripes g.r (3 + g.n * g.r) limits.size.0 limits.rows.0
  where
    last : (t r start : ℕ) → 1 ≤ t → 1 ≤ r → start + (t - 1) * r + (r - 1) + 1 ≡ start + t * r
    last t r start some_t some_r =
        let one_more : t * r ≡ (t - 1 + 1) * r = ap (λ (a : ℕ). a * r) (omega arith) in
        omega arith
