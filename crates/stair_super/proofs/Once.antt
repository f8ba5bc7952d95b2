-- Bytes are those of one superblock at most.
use Rattle.std.proofs.Common.{◌≡◌, ℕ, ◌-◌, ◌<◌, ◌≤◌, Bool, true, false, List, ◌++◌, length, get_or, take, drop, refl, sym, ap, subst, ◌∙◌, arith, inl, inr}
use Rattle.std.proofs.lemmas.Bool.{cases_lt}
use Rattle.std.proofs.lemmas.List.{length-append}
use Rattle.stair_model.specs.Geometry.{Geometry}
use Rattle.stair_super.specs.declared.mark.Mark.{Mark}
use Rattle.stair_super.specs.declared.mark.Mark.TheVariants.{Live, Rebuilding, Down}
use Rattle.stair_super.specs.Superblock.{Superblock, IsSuperblock, IsJoined, mark_at, joined_at}
use Rattle.stair_super.specs.declared.configuration.Configuration.{Configuration}
use Rattle.stair_super.specs.declared.version.Version.{Version}
use Rattle.stair_super.specs.declared.version.Version.TheVariants.{One, Two, Three}
use Rattle.stair_super.specs.Spelling.{padded, magic, SpellsSuperblock, HasNotes, spelled_in, notes, notes_part, label_part, frozen_code, code, zeros, number32, number64, counts, entries, geometry_part, numbers_part, fields}
use Rattle.stair_super.proofs.PageLemmas.{length-zeros}
use Rattle.stair_super.proofs.Parts.{length-number32, length-number64, length-padded, length-entries}
use Rattle.stair_super.proofs.Fields.{laid, digit_is, digit_once, spelled_digit, label_among, n_is, m_is, r_is, classes_is, coverage_is, stripes_is, slot_is, joined_is, draw_is, epoch_is, mark_is, joined_at_is, all_stored, within}

length-geometry_part : (g : Geometry) → length g.id ≡ 16 → length g.e ≤ 32 → length (geometry_part g) ≡ 56
length-geometry_part g id few =
    omega (arith, length-append g.id (counts g ++ (padded g.e ++ number32 g.stripes)), length-append (padded g.e) (number32 g.stripes), length-padded g.e few, length-number32 g.stripes)

length-numbers_part : (s : Superblock) → length (numbers_part s) ≡ 32
length-numbers_part s =
    omega (
      arith,
      length-append (zeros 7) (number64 s.joined ++ (number64 s.draw ++ number64 s.array.epoch)),
      length-append (number64 s.joined) (number64 s.draw ++ number64 s.array.epoch),
      length-append (number64 s.draw) (number64 s.array.epoch),
      length-zeros 7,
      length-number64 s.joined,
      length-number64 s.draw,
      length-number64 s.array.epoch,
    )

length-notes : (array : Configuration) → length array.label ≤ 64 → length (notes array) ≡ 128
unfolding label_part
length-notes array short =
    omega (arith, length-append array.label (zeros (126 - length array.label)), length-zeros (126 - length array.label))

length-notes_part : (version : Version) (array : Configuration) → length array.label ≤ 64 → length (notes_part version array) ≡ 128
unfolding label_part
length-notes_part One array short = length-zeros 128
length-notes_part Two array short = length-notes array short
length-notes_part Three array short = length-notes array short

length-magic : (version : Version) → length (magic version) ≡ 8
length-magic One = refl
length-magic Two = refl
length-magic Three = refl

pub sector : (version : Version) (s : Superblock) → IsSuperblock s → length (spelled_in version s) ≡ 512
unfolding spelled_in
sector version s block =
    let few : length s.array.geometry.e ≤ 32 = omega (arith, block.rules.array.limits.covered_chunks, block.rules.array.limits.devices) in
    omega (
      arith,
      length-append (magic version) (fields s ++ notes_part version s.array),
      length-magic version,
      length-append (fields s) (notes_part version s.array),
      length-append (geometry_part s.array.geometry) (numbers_part s ++ entries s 32),
      length-append (numbers_part s) (entries s 32),
      length-geometry_part s.array.geometry block.sizes.id few,
      length-numbers_part s,
      length-entries s 32,
      length-notes_part version s.array block.sizes.label.short,
    )

pub same_spelling : (bytes other : List ℕ) (s : Superblock) (a : SpellsSuperblock bytes s) (b : SpellsSuperblock other s) → a.version ≡ b.version → bytes ≡ other
same_spelling bytes other s a b same = a.text ∙ ap (λ (v : Version). spelled_in v s) same ∙ sym b.text

pub one_version : (a b : Version) (s t : Superblock) → spelled_in a s ≡ spelled_in b t → a ≡ b
one_version a b s t same =
    digit_once a b (sym (spelled_digit a s) ∙ ap (λ (l : List ℕ). get_or l 7 0) same ∙ spelled_digit b t)

code_once : (a b : Mark) → code a ≡ code b → a ≡ b
code_once Live Live e = refl
code_once Live Rebuilding e = cc
code_once Live Down e = cc
code_once Rebuilding Live e = cc
code_once Rebuilding Rebuilding e = refl
code_once Rebuilding Down e = cc
code_once Down Live e = cc
code_once Down Rebuilding e = cc
code_once Down Down e = refl

-- a slot that the array hasn't has the joined number 0
pub absent_joined : (s : Superblock) (j : ℕ) → IsSuperblock s → s.array.geometry.n ≤ j → j < 32 → joined_at s j ≡ 0
absent_joined s j block past lt =
    subst (λ (mark : Mark). IsJoined mark (joined_at s j) s.array.epoch) (block.rules.array.absent j past lt) (block.rules.array.entries j lt)

same_mark : (bytes : List ℕ) (s t : Superblock) (j : ℕ) → SpellsSuperblock bytes s → SpellsSuperblock bytes t → s.array.geometry.n ≡ t.array.geometry.n → j < 32 → mark_at s j ≡ mark_at t j
same_mark bytes s t j a b n lt =
    elim (cases_lt j s.array.geometry.n) [
      | inl below ↦ code_once _ _ (sym (mark_is bytes s j a lt (within j _ _ below refl)) ∙ mark_is bytes t j b lt (within j _ _ below n))
      | inr past ↦ a.block.rules.array.absent j past lt ∙ sym (b.block.rules.array.absent j (omega arith) lt)
    ]

same_joined : (bytes : List ℕ) (s t : Superblock) (j : ℕ) → SpellsSuperblock bytes s → SpellsSuperblock bytes t → s.array.geometry.n ≡ t.array.geometry.n → j < 32 → joined_at s j ≡ joined_at t j
same_joined bytes s t j a b n lt =
    elim (cases_lt j s.array.geometry.n) [
      | inl below ↦ sym (joined_at_is bytes s j a lt (within j _ _ below refl)) ∙ joined_at_is bytes t j b lt (within j _ _ below n)
      | inr past ↦ absent_joined s j a.block past lt ∙ sym (absent_joined t j b.block (omega arith) lt)
    ]

same_geometry : (bytes : List ℕ) (s t : Superblock) → SpellsSuperblock bytes s → SpellsSuperblock bytes t → s.array.geometry ≡ t.array.geometry
same_geometry bytes s t a b =
    let n = sym (n_is bytes s a) ∙ n_is bytes t b in
    let m = sym (m_is bytes s a) ∙ m_is bytes t b in
    let r = sym (r_is bytes s a) ∙ r_is bytes t b in
    let count : length s.array.geometry.e ≡ length t.array.geometry.e = sym (classes_is bytes s a) ∙ classes_is bytes t b in
    let e = sym (coverage_is bytes s (length s.array.geometry.e) a refl) ∙ coverage_is bytes t (length s.array.geometry.e) b count in
    let stripes = sym (stripes_is bytes s a) ∙ stripes_is bytes t b in
    let id = sym (laid bytes s a).id ∙ (laid bytes t b).id in
    λ i. record { n = n i; m = m i; r = r i; e = e i; stripes = stripes i; id = id i }

frozen_once : (a b : Bool) → frozen_code a ≡ frozen_code b → a ≡ b
frozen_once false false e = refl
frozen_once false true e = cc
frozen_once true false e = cc
frozen_once true true e = refl

-- the frozen mark and the label are the same
record SameNotes (a b : Configuration) : Type 0 where
  frozen : a.frozen ≡ b.frozen
  label : a.label ≡ b.label

both_same : (x y : Configuration) → notes x ≡ notes y → SameNotes x y
unfolding label_part
both_same x y same =
    let sized : length x.label ≡ length y.label = ap (λ (l : List ℕ). get_or l 1 0) same in
    record {
      frozen = frozen_once x.frozen y.frozen (ap (λ (l : List ℕ). get_or l 0 0) same);
      label =
          sym (label_among (frozen_code x.frozen) x.label (length x.label) refl)
          ∙ ap (λ (l : List ℕ). take (length x.label) (drop 2 l)) same
          ∙ label_among (frozen_code y.frozen) y.label (length x.label) sized;
    }

same_notes : (version : Version) (x y : Configuration) → HasNotes version x → HasNotes version y → notes_part version x ≡ notes_part version y → SameNotes x y
same_notes One x y a b same = record { frozen = a.thawed ∙ sym b.thawed; label = a.unlabelled ∙ sym b.unlabelled }
same_notes Two x y a b same = both_same x y same
same_notes Three x y a b same = both_same x y same

same_array : (bytes : List ℕ) (s t : Superblock) → SpellsSuperblock bytes s → SpellsSuperblock bytes t → s.array ≡ t.array
same_array bytes s t a b =
    let geometry = same_geometry bytes s t a b in
    let n = ap (λ (g : Geometry). g.n) geometry in
    let epoch = sym (epoch_is bytes s a) ∙ epoch_is bytes t b in
    let marks = all_stored s.array.marks t.array.marks Down 32 (omega arith) a.block.sizes.marks b.block.sizes.marks (λ j lt. same_mark bytes s t j a b n lt) in
    let joins = all_stored s.array.joins t.array.joins 0 32 (omega arith) a.block.sizes.joins b.block.sizes.joins (λ j lt. same_joined bytes s t j a b n lt) in
    let version : b.version ≡ a.version = digit_once b.version a.version (sym (digit_is bytes t b) ∙ digit_is bytes s a) in
    let notes =
    same_notes a.version s.array t.array a.said.notes
    (subst (λ (v : Version). HasNotes v t.array) version b.said.notes)
    (sym (laid bytes s a).behind_slots ∙ (laid bytes t b).behind_slots ∙ ap (λ (v : Version). notes_part v t.array) version) in
    λ i. record { geometry = geometry i; epoch = epoch i; marks = marks i; joins = joins i; frozen = notes.frozen i; label = notes.label i }

pub same_superblock : (bytes : List ℕ) (s t : Superblock) → SpellsSuperblock bytes s → SpellsSuperblock bytes t → s ≡ t
same_superblock bytes s t a b =
    let array = same_array bytes s t a b in
    let slot = sym (slot_is bytes s a) ∙ slot_is bytes t b in
    let joined = sym (joined_is bytes s a) ∙ joined_is bytes t b in
    let draw = sym (draw_is bytes s a) ∙ draw_is bytes t b in
    λ i. record { array = array i; slot = slot i; joined = joined i; draw = draw i }
