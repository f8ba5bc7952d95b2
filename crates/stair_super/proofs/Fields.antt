-- What the bytes of a superblock say of its fields.
use Rattle.std.proofs.Common.{◌≡◌, ℕ, ◌+◌, ◌*◌, ◌-◌, ◌<◌, ◌≤◌, ◌^◌, Bool, true, false, List, ◌∷◌, ◌++◌, length, get_or, take, drop, set, replicate, refl, sym, ap, ◌∙◌, add-zero, arith, inl, inr}
use Rattle.std.specs.Prelude.{nat_lt, nat_eq, ◌⊎◌}
use Rattle.std.specs.Int.{w32, w64, from_be_bytes}
use Rattle.std.proofs.lemmas.Nat.{from_be_bytes-to_be_bytes_4, from_be_bytes-to_be_bytes_8}
use Rattle.std.proofs.lemmas.List.{take_at, drop-drop, drop-take, get_or-drop, get_or-take, get_or-set_same, get_or-set_other, get_or_default, same_lists}
use Rattle.std.proofs.lemmas.Bool.{cases_eq, lt-ltb, le-ltb}
use Rattle.stair_super.specs.declared.configuration.Configuration.{Configuration}
use Rattle.stair_super.specs.declared.mark.Mark.{Mark}
use Rattle.stair_super.specs.declared.mark.Mark.TheVariants.{Live, Rebuilding, Down}
use Rattle.stair_super.specs.declared.version.Version.{Version}
use Rattle.stair_super.specs.declared.version.Version.TheVariants.{One, Two, Three}
use Rattle.stair_super.specs.Superblock.{Superblock, IsSuperblock, IsJoined, mark_at, joined_at}
use Rattle.stair_super.specs.Spelling.{SpellsSuperblock, zeros, number32, number64, code, entry, magic, spelled_in, fields, notes, notes_part, frozen_code, label_part, counts}
use Rattle.stair_super.proofs.Parts.{IsLaid, is_laid}

length-magic : (version : Version) → length (magic version) ≡ 8
length-magic One = refl
length-magic Two = refl
length-magic Three = refl

pub laid : (bytes : List ℕ) (s : Superblock) (h : SpellsSuperblock bytes s) → IsLaid bytes (notes_part h.version s.array) s
unfolding spelled_in
laid bytes s h = is_laid bytes (magic h.version) (notes_part h.version s.array) s (length-magic h.version) h.block h.text

-- the digit of a version
abbrev pub digit : Version → ℕ
digit One = 49
digit Two = 50
digit Three = 51

pub one_digit : (version : Version) → (49 ≤ digit version) × (digit version ≤ 51)
one_digit One = (omega arith, omega arith)
one_digit Two = (omega arith, omega arith)
one_digit Three = (omega arith, omega arith)

pub digit_at : (version : Version) (rest : List ℕ) → get_or (magic version ++ rest) 7 0 ≡ digit version
digit_at One rest = refl
digit_at Two rest = refl
digit_at Three rest = refl

pub digit_once : (a b : Version) → digit a ≡ digit b → a ≡ b
digit_once One One e = refl
digit_once One Two e = absurd (omega arith)
digit_once One Three e = absurd (omega arith)
digit_once Two One e = absurd (omega arith)
digit_once Two Two e = refl
digit_once Two Three e = absurd (omega arith)
digit_once Three One e = absurd (omega arith)
digit_once Three Two e = absurd (omega arith)
digit_once Three Three e = refl

pub spelled_digit : (version : Version) (s : Superblock) → get_or (spelled_in version s) 7 0 ≡ digit version
unfolding spelled_in
spelled_digit version s = digit_at version (fields s ++ notes_part version s.array)

pub digit_is : (bytes : List ℕ) (s : Superblock) (h : SpellsSuperblock bytes s) → get_or bytes 7 0 ≡ digit h.version
digit_is bytes s h = ap (λ (l : List ℕ). get_or l 7 0) h.text ∙ spelled_digit h.version s

pub byte_at : (bytes field : List ℕ) (at size i : ℕ) → take size (drop at bytes) ≡ field → i < size → get_or bytes (at + i) 0 ≡ get_or field i 0
byte_at bytes field at size i here lt =
    sym (get_or-drop at bytes i 0) ∙ sym (get_or-take size (drop at bytes) i 0 lt) ∙ ap (λ (l : List ℕ). get_or l i 0) here

pub number32_back : (n : ℕ) → n < 2 ^ 32 → from_be_bytes w32 (number32 n) ≡ n
unfolding number32
number32_back n lt = from_be_bytes-to_be_bytes_4 n lt

pub number64_back : (n : ℕ) → n < 2 ^ 64 → from_be_bytes w64 (number64 n) ≡ n
unfolding number64
number64_back n lt = from_be_bytes-to_be_bytes_8 n lt

joined_below : (mark : Mark) (joined epoch : ℕ) → IsJoined mark joined epoch → joined ≤ epoch
joined_below Live joined epoch h = omega arith
joined_below Rebuilding joined epoch h = omega arith
joined_below Down joined epoch h = omega arith

pub joined_fits : (s : Superblock) (j : ℕ) → IsSuperblock s → j < 32 → joined_at s j < 2 ^ 64
joined_fits s j block lt =
    let below = joined_below (mark_at s j) (joined_at s j) s.array.epoch (block.rules.array.entries j lt) in
    omega (arith, below, block.rules.drawn, block.sizes.draw)

-- the numbers of a superblock, as its bytes say them
pub joined_is : (bytes : List ℕ) (s : Superblock) → SpellsSuperblock bytes s → from_be_bytes w64 (take 8 (drop 72 bytes)) ≡ s.joined
joined_is bytes s h =
    let slot : s.slot < 32 = omega (arith, h.block.rules.slot_in, h.block.rules.array.limits.devices) in
    let fits : s.joined < 2 ^ 64 = omega (arith, h.block.rules.own, joined_fits s s.slot h.block slot) in
    ap (λ (l : List ℕ). from_be_bytes w64 l) (laid bytes s h).joined ∙ number64_back s.joined fits

pub draw_is : (bytes : List ℕ) (s : Superblock) → SpellsSuperblock bytes s → from_be_bytes w64 (take 8 (drop 80 bytes)) ≡ s.draw
draw_is bytes s h = ap (λ (l : List ℕ). from_be_bytes w64 l) (laid bytes s h).draw ∙ number64_back s.draw h.block.sizes.draw

pub epoch_is : (bytes : List ℕ) (s : Superblock) → SpellsSuperblock bytes s → from_be_bytes w64 (take 8 (drop 88 bytes)) ≡ s.array.epoch
epoch_is bytes s h =
    let fits : s.array.epoch < 2 ^ 64 = omega (arith, h.block.rules.drawn, h.block.sizes.draw) in
    ap (λ (l : List ℕ). from_be_bytes w64 l) (laid bytes s h).epoch ∙ number64_back s.array.epoch fits

pub stripes_is : (bytes : List ℕ) (s : Superblock) → SpellsSuperblock bytes s → from_be_bytes w32 (take 4 (drop 60 bytes)) ≡ s.array.geometry.stripes
stripes_is bytes s h =
    let fits : s.array.geometry.stripes < 2 ^ 32 = omega (arith, h.block.rules.array.limits.size) in
    ap (λ (l : List ℕ). from_be_bytes w32 l) (laid bytes s h).stripes ∙ number32_back s.array.geometry.stripes fits

pub slot_is : (bytes : List ℕ) (s : Superblock) → SpellsSuperblock bytes s → get_or bytes 64 0 ≡ s.slot
slot_is bytes s h = byte_at bytes (s.slot ∷ zeros 7) 64 8 0 (laid bytes s h).slot (omega arith)

pub n_is : (bytes : List ℕ) (s : Superblock) → SpellsSuperblock bytes s → get_or bytes 24 0 ≡ s.array.geometry.n
n_is bytes s h = byte_at bytes (counts s.array.geometry) 24 4 0 (laid bytes s h).numbers (omega arith)

pub m_is : (bytes : List ℕ) (s : Superblock) → SpellsSuperblock bytes s → get_or bytes 25 0 ≡ s.array.geometry.m
m_is bytes s h = byte_at bytes (counts s.array.geometry) 24 4 1 (laid bytes s h).numbers (omega arith)

pub r_is : (bytes : List ℕ) (s : Superblock) → SpellsSuperblock bytes s → get_or bytes 26 0 ≡ s.array.geometry.r
r_is bytes s h = byte_at bytes (counts s.array.geometry) 24 4 2 (laid bytes s h).numbers (omega arith)

pub classes_is : (bytes : List ℕ) (s : Superblock) → SpellsSuperblock bytes s → get_or bytes 27 0 ≡ length s.array.geometry.e
classes_is bytes s h = byte_at bytes (counts s.array.geometry) 24 4 3 (laid bytes s h).numbers (omega arith)

pub coverage_is : (bytes : List ℕ) (s : Superblock) (classes : ℕ) → SpellsSuperblock bytes s → classes ≡ length s.array.geometry.e → take classes (take 32 (drop 28 bytes)) ≡ s.array.geometry.e
coverage_is bytes s classes h count =
    ap (λ (l : List ℕ). take classes l) (laid bytes s h).coverage
    ∙ take_at s.array.geometry.e (replicate (32 - length s.array.geometry.e) 0) classes (sym count)

pub entry_is : (s : Superblock) (j : ℕ) → nat_lt j s.array.geometry.n ≡ true → entry s j ≡ code (mark_at s j) ∷ number64 (joined_at s j)
unfolding entry
entry_is s j within = rw within refl

pub entry_past : (s : Superblock) (j : ℕ) → s.array.geometry.n ≤ j → entry s j ≡ zeros 9
unfolding entry
entry_past s j past =
    let test : nat_lt j s.array.geometry.n ≡ false = le-ltb j s.array.geometry.n past in
    rw test refl

pub entry_at : (bytes : List ℕ) (s : Superblock) (j : ℕ) → SpellsSuperblock bytes s → j < 32 → nat_lt j s.array.geometry.n ≡ true → take 9 (drop (96 + 9 * j) bytes) ≡ code (mark_at s j) ∷ number64 (joined_at s j)
entry_at bytes s j h lt within = (laid bytes s h).slots j lt ∙ entry_is s j within

pub mark_is : (bytes : List ℕ) (s : Superblock) (j : ℕ) → SpellsSuperblock bytes s → j < 32 → nat_lt j s.array.geometry.n ≡ true → get_or bytes (96 + 9 * j) 0 ≡ code (mark_at s j)
mark_is bytes s j h lt within =
    ap (λ (n : ℕ). get_or bytes n 0) (sym (add-zero (96 + 9 * j))) ∙ byte_at bytes _ (96 + 9 * j) 9 0 (entry_at bytes s j h lt within) (omega arith)

pub joined_at_is : (bytes : List ℕ) (s : Superblock) (j : ℕ) → SpellsSuperblock bytes s → j < 32 → nat_lt j s.array.geometry.n ≡ true → from_be_bytes w64 (take 8 (drop (97 + 9 * j) bytes)) ≡ joined_at s j
joined_at_is bytes s j h lt within =
    let next : 97 + 9 * j ≡ 96 + 9 * j + 1 = omega arith in
    let part : take 8 (drop (97 + 9 * j) bytes) ≡ number64 (joined_at s j) =
    ap (λ (n : ℕ). take 8 (drop n bytes)) next
    ∙ ap (λ (l : List ℕ). take 8 l) (sym (drop-drop 1 (96 + 9 * j) bytes))
    ∙ sym (drop-take 1 8 (drop (96 + 9 * j) bytes))
    ∙ ap (λ (l : List ℕ). drop 1 l) (entry_at bytes s j h lt within) in
    ap (λ (l : List ℕ). from_be_bytes w64 l) part ∙ number64_back (joined_at s j) (joined_fits s j h.block lt)

-- the versions from 2 on have the frozen mark and the label
abbrev pub HasBoth : Version → Type 0
HasBoth version = (array : Configuration) → notes_part version array ≡ notes array

pub later_has : (given version : Version) → (given ≡ Two) ⊎ (given ≡ Three) → given ≡ version → HasBoth version
later_has given version (inl two) same = λ array. ap (λ (v : Version). notes_part v array) (sym same ∙ two)
later_has given version (inr three) same = λ array. ap (λ (v : Version). notes_part v array) (sym same ∙ three)

-- what these say besides marks
later_notes : (bytes : List ℕ) (s : Superblock) (h : SpellsSuperblock bytes s) → HasBoth h.version → drop 384 bytes ≡ notes s.array
later_notes bytes s h both = (laid bytes s h).behind_slots ∙ both s.array

pub frozen_is : (bytes : List ℕ) (s : Superblock) (h : SpellsSuperblock bytes s) → HasBoth h.version → get_or bytes 384 0 ≡ frozen_code s.array.frozen
frozen_is bytes s h both = sym (get_or-drop 384 bytes 0 0) ∙ ap (λ (l : List ℕ). get_or l 0 0) (later_notes bytes s h both)

pub frozen_back : (frozen : Bool) → nat_eq (frozen_code frozen) 1 ≡ frozen
frozen_back true = refl
frozen_back false = refl

pub length_is : (bytes : List ℕ) (s : Superblock) (h : SpellsSuperblock bytes s) → HasBoth h.version → get_or bytes 385 0 ≡ length s.array.label
unfolding label_part
length_is bytes s h both = sym (get_or-drop 384 bytes 1 0) ∙ ap (λ (l : List ℕ). get_or l 1 0) (later_notes bytes s h both)

-- the label stands after its length
pub label_among : (frozen : ℕ) (label : List ℕ) (n : ℕ) → n ≡ length label → take n (drop 2 (frozen ∷ label_part label)) ≡ label
unfolding label_part
label_among frozen label n sized = take_at label (zeros (126 - length label)) n (sym sized)

pub label_is : (bytes : List ℕ) (s : Superblock) (h : SpellsSuperblock bytes s) (n : ℕ) → HasBoth h.version → n ≡ length s.array.label → take n (drop 386 bytes) ≡ s.array.label
label_is bytes s h n both sized =
    ap (λ (l : List ℕ). take n l) (sym (drop-drop 2 384 bytes) ∙ ap (λ (l : List ℕ). drop 2 l) (later_notes bytes s h both))
    ∙ label_among (frozen_code s.array.frozen) s.array.label n sized

-- one more entry of an array
pub stored_more : {A : Type 0} (xs : List A) (i : ℕ) (x d : A) (F : ℕ → A) → i < length xs → ((k : ℕ) → k < i → get_or xs k d ≡ F k) → x ≡ F i → (k : ℕ) → k < i + 1 → get_or (set xs i x) k d ≡ F k
stored_more xs i x d F within below here k lt =
    elim (cases_eq k i) [
      | inl same ↦ ap (λ (n : ℕ). get_or (set xs i x) n d) same ∙ get_or-set_same xs i x d within ∙ here ∙ ap F (sym same)
      | inr other ↦ get_or-set_other xs i k x d other ∙ below k (omega arith)
    ]

-- an array of 32 by its entries
pub all_stored : {A : Type 0} (xs ys : List A) (d : A) (i : ℕ) → 32 ≤ i → length xs ≡ 32 → length ys ≡ 32 → ((k : ℕ) → k < i → get_or xs k d ≡ get_or ys k d) → xs ≡ ys
all_stored xs ys d i all a b each =
    same_lists xs ys (a ∙ sym b) (λ k e lt.
    get_or_default xs k e d lt ∙ each k (omega arith) ∙ get_or_default ys k d e (omega arith))

pub within : (j n m : ℕ) → j < n → n ≡ m → nat_lt j m ≡ true
within j n m lt same = lt-ltb j m (omega arith)
