-- Whether bytes are those of a superblock is decided, and so is of which.
use Rattle.std.proofs.Common.{◌≡◌, ◌≢◌, ℕ, zero, suc, ◌+◌, ◌*◌, ◌<◌, ◌≤◌, ◌^◌, Bool, true, false, List, [], ◌∷◌, ◌++◌, length, get_or, take, drop, refl, sym, ap, subst, ◌∙◌, ap₂, add-one, inl, inr, arith}
use Rattle.std.specs.Prelude.{◌⊎◌, nat_eq, nat_lt, All, if◌then◌else◌}
use Rattle.std.specs.Int.{w32, w64, from_be_bytes}
use Rattle.std.proofs.lemmas.Bool.{cases_lt, cases_eq, lt-ltb, le-ltb}
use Rattle.std.proofs.lemmas.List.{take_all, take_more, get_or_default}
use Rattle.stair_model.specs.Geometry.{Geometry, geometry_of, IsWithinLimits}
use Rattle.stair_model.proofs.FirstLaws.{IsKnown, known_le, known_both, known_below}
use Rattle.stair_model.proofs.LimitLaws.{within_or_broken, none_broken, known_small}
use Rattle.stair_super.specs.declared.configuration.Configuration.{Configuration}
use Rattle.stair_super.specs.declared.mark.Mark.{Mark}
use Rattle.stair_super.specs.declared.mark.Mark.TheVariants.{Live, Rebuilding, Down}
use Rattle.stair_super.specs.declared.version.Version.{Version}
use Rattle.stair_super.specs.declared.version.Version.TheVariants.{One, Two, Three}
use Rattle.stair_super.specs.Label.{IsLabel, IsPrintable}
use Rattle.stair_super.specs.Superblock.{Superblock, superblock_of, IsSuperblock, IsWellFormed, IsConfiguration, HasSizes, IsJoined, mark_in, joined_in, mark_at, joined_at}
use Rattle.stair_super.specs.Spelling.{SpellsSuperblock, IsPlain, IsOfVersion, HasNotes, CanSay, spelled_in, code}
use Rattle.stair_super.proofs.Fields.{laid, n_is, m_is, r_is, classes_is, coverage_is, stripes_is, slot_is, joined_is, draw_is, epoch_is, mark_is, joined_at_is, frozen_is, frozen_back, length_is, label_is, later_has, within}
use Rattle.stair_super.proofs.Answered.{same_configuration, same_fields}
use Rattle.stair_super.proofs.Once.{absent_joined}

-- ---- facts that are decided

pub known_if : {P Q : Type 0} → (P → Q) → (Q → P) → IsKnown P → IsKnown Q
known_if to from (inl p) = inl (to p)
known_if to from (inr not) = inr (λ q. not (from q))

known_not : {P : Type 0} → IsKnown P → IsKnown (¬ P)
known_not (inl p) = inr (λ not. not p)
known_not (inr not) = inl not

known_implied : {P Q : Type 0} → IsKnown P → IsKnown Q → IsKnown (P → Q)
known_implied (inr not) q = inl (λ p. absurd (not p))
known_implied (inl p) (inl q) = inl (λ _. q)
known_implied (inl p) (inr not) = inr (λ f. not (f p))

pub known_lt : (a b : ℕ) → IsKnown (a < b)
known_lt a b = elim (cases_lt a b) [ inl lt ↦ inl lt | inr le ↦ inr (λ lt. omega arith) ]

pub known_text : (xs ys : List ℕ) → IsKnown (xs ≡ ys)
known_text [] [] = inl refl
known_text [] (y ∷ ys) = inr (λ e. cc)
known_text (x ∷ xs) [] = inr (λ e. cc)
known_text (x ∷ xs) (y ∷ ys) =
    elim (known_text xs ys) [
      | inr not ↦ inr (λ e. not (ap (λ (l : List ℕ). drop 1 l) e))
      | inl rest ↦
          elim (cases_eq x y) [
            | inr not ↦ inr (λ e. not (ap (λ (l : List ℕ). get_or l 0 0) e))
            | inl first ↦ inl (ap₂ (λ (n : ℕ) (l : List ℕ). n ∷ l) first rest)
          ]
    ]

known_false : (b : Bool) → IsKnown (b ≡ false)
known_false false = inl refl
known_false true = inr (λ e. cc)

known_down : (mark : Mark) → IsKnown (mark ≡ Down)
known_down Live = inr (λ e. cc)
known_down Rebuilding = inr (λ e. cc)
known_down Down = inl refl

known_joined : (mark : Mark) (joined epoch : ℕ) → IsKnown (IsJoined mark joined epoch)
known_joined Live joined epoch = known_both (known_le 1 joined) (known_le joined epoch)
known_joined Rebuilding joined epoch = known_both (known_le 1 joined) (known_le joined epoch)
known_joined Down joined epoch = cases_eq joined 0

known_limits : (g : Geometry) → IsKnown (IsWithinLimits g)
known_limits g =
    elim (within_or_broken g) [
      | inl limits ↦ inl limits
      | inr broken ↦ inr (none_broken g broken.0 broken.1)
    ]

known_printable : (text : List ℕ) → IsKnown (All IsPrintable text)
known_printable text =
    let P : ℕ → Type 0 = λ k. IsPrintable (get_or text k 0) in
    known_if {P = (k : ℕ) → k < length text → P k}
    (λ all k d lt. subst (λ (n : ℕ). IsPrintable n) (get_or_default text k 0 d lt) (all k lt))
    (λ all k lt. all k 0 lt)
    (known_below P (λ k. known_both (known_le 32 (get_or text k 0)) (known_le (get_or text k 0) 126)) (length text))

known_label : (text : List ℕ) → IsKnown (IsLabel text)
known_label text =
    known_if {P = (length text ≤ 64) × All IsPrintable text}
    (λ p. record { short = p.0; printable = p.1 })
    (λ label. (label.short, label.printable))
    (known_both (known_le (length text) 64) (known_printable text))

-- what an epoch may name
known_array : (array : Configuration) → IsKnown (IsConfiguration array)
known_array array =
    let Joined : ℕ → Type 0 = λ j. IsJoined (mark_in array j) (joined_in array j) array.epoch in
    let Absent : ℕ → Type 0 = λ j. array.geometry.n ≤ j → mark_in array j ≡ Down in
    known_if {P = (IsWithinLimits array.geometry × (1 ≤ array.epoch)) × (((j : ℕ) → j < 32 → Joined j) × ((j : ℕ) → j < 32 → Absent j))}
    (λ p. record { limits = p.0.0; begun = p.0.1; entries = p.1.0; absent = λ j past lt. p.1.1 j lt past })
    (λ is. ((is.limits, is.begun), (is.entries, λ j lt past. is.absent j past lt)))
    (known_both
    (known_both (known_limits array.geometry) (known_le 1 array.epoch))
    (known_both
    (known_below Joined (λ j. known_joined (mark_in array j) (joined_in array j) array.epoch) 32)
    (known_below Absent (λ j. known_implied (known_le array.geometry.n j) (known_down (mark_in array j))) 32)))

known_rules : (s : Superblock) → IsKnown (IsWellFormed s)
known_rules s =
    known_if {P = (IsConfiguration s.array × (s.slot < s.array.geometry.n)) × ((s.array.epoch ≤ s.draw) × ((mark_at s s.slot ≢ Down) × (s.joined ≡ joined_at s s.slot)))}
    (λ p. record { array = p.0.0; slot_in = p.0.1; drawn = p.1.0; here = p.1.1.0; own = p.1.1.1 })
    (λ is. ((is.array, is.slot_in), (is.drawn, (is.here, is.own))))
    (known_both
    (known_both (known_array s.array) (known_lt s.slot s.array.geometry.n))
    (known_both (known_le s.array.epoch s.draw) (known_both (known_not (known_down (mark_at s s.slot))) (cases_eq s.joined (joined_at s s.slot)))))

known_sizes : (s : Superblock) → IsKnown (HasSizes s)
known_sizes s =
    known_if {P = ((length s.array.geometry.id ≡ 16) × (s.draw < 2 ^ 64)) × ((length s.array.marks ≡ 32) × ((length s.array.joins ≡ 32) × IsLabel s.array.label))}
    (λ p. record { id = p.0.0; draw = p.0.1; marks = p.1.0; joins = p.1.1.0; label = p.1.1.1 })
    (λ has. ((has.id, has.draw), (has.marks, (has.joins, has.label))))
    (known_both
    (known_both (cases_eq (length s.array.geometry.id) 16) (known_lt s.draw (2 ^ 64)))
    (known_both (cases_eq (length s.array.marks) 32) (known_both (cases_eq (length s.array.joins) 32) (known_label s.array.label))))

known_block : (s : Superblock) → IsKnown (IsSuperblock s)
known_block s =
    known_if {P = HasSizes s × IsWellFormed s}
    (λ p. record { sizes = p.0; rules = p.1 })
    (λ is. (is.sizes, is.rules))
    (known_both (known_sizes s) (known_rules s))

known_version : (version : Version) (g : Geometry) → IsKnown (IsOfVersion version g)
known_version One g = known_small g
known_version Two g = known_small g
known_version Three g = known_not (known_small g)

known_notes : (version : Version) (array : Configuration) → IsKnown (HasNotes version array)
known_notes One array =
    known_if {P = (array.frozen ≡ false) × (array.label ≡ [])}
    (λ p. record { thawed = p.0; unlabelled = p.1 })
    (λ is. (is.thawed, is.unlabelled))
    (known_both (known_false array.frozen) (known_text array.label []))
known_notes Two array = inl tt
known_notes Three array = inl tt

known_said : (version : Version) (array : Configuration) → IsKnown (CanSay version array)
known_said version array =
    known_if {P = IsOfVersion version array.geometry × HasNotes version array}
    (λ p. record { size = p.0; notes = p.1 })
    (λ can. (can.size, can.notes))
    (known_both (known_version version array.geometry) (known_notes version array))

-- ---- the superblock that bytes would have to be

-- a list of these elements
made : {A : Type 0} → (ℕ → A) → ℕ → List A
made f zero = []
made f (suc k) = made f k ++ f k ∷ []

made_is : {A : Type 0} (xs : List A) (d : A) (f : ℕ → A) (k : ℕ) → k ≤ length xs → ((j : ℕ) → j < k → f j ≡ get_or xs j d) → made f k ≡ take k xs
unfolding made
made_is xs d f zero fits each = refl
made_is {A = A} xs d f (suc k) fits each =
    ap₂ (λ (l : List A) (x : A). l ++ x ∷ []) (made_is xs d f k (omega arith) (λ j lt. each j (omega arith))) (each k (omega arith))
    ∙ sym (take_more xs k d (omega arith))
    ∙ ap (λ (n : ℕ). take n xs) (add-one k)

mark_back : ℕ → Mark
mark_back n = if nat_eq n 1 then Live else (if nat_eq n 2 then Rebuilding else Down)

mark_again : (mark : Mark) → mark_back (code mark) ≡ mark
unfolding mark_back
mark_again Live = refl
mark_again Rebuilding = refl
mark_again Down = refl

mark_from : List ℕ → ℕ → ℕ → Mark
mark_from bytes n j = if nat_lt j n then mark_back (get_or bytes (96 + 9 * j) 0) else Down

joined_from : List ℕ → ℕ → ℕ → ℕ
joined_from bytes n j = if nat_lt j n then from_be_bytes w64 (take 8 (drop (97 + 9 * j) bytes)) else 0

frozen_from : Version → List ℕ → Bool
frozen_from One bytes = false
frozen_from Two bytes = nat_eq (get_or bytes 384 0) 1
frozen_from Three bytes = nat_eq (get_or bytes 384 0) 1

label_from : Version → List ℕ → List ℕ
label_from One bytes = []
label_from Two bytes = take (get_or bytes 385 0) (drop 386 bytes)
label_from Three bytes = take (get_or bytes 385 0) (drop 386 bytes)

array_from : Version → List ℕ → Configuration
array_from version bytes =
    let n = get_or bytes 24 0 in
    record {
      geometry =
          geometry_of n (get_or bytes 25 0) (get_or bytes 26 0) (take (get_or bytes 27 0) (take 32 (drop 28 bytes)))
          (from_be_bytes w32 (take 4 (drop 60 bytes))) (take 16 (drop 8 bytes));
      epoch = from_be_bytes w64 (take 8 (drop 88 bytes));
      marks = made (mark_from bytes n) 32;
      joins = made (joined_from bytes n) 32;
      frozen = frozen_from version bytes;
      label = label_from version bytes;
    }

block_from : Version → List ℕ → Superblock
block_from version bytes =
    superblock_of (array_from version bytes) (get_or bytes 64 0)
    (from_be_bytes w64 (take 8 (drop 72 bytes)))
    (from_be_bytes w64 (take 8 (drop 80 bytes)))

mark_is_from : (bytes : List ℕ) (s : Superblock) (n j : ℕ) → SpellsSuperblock bytes s → n ≡ s.array.geometry.n → j < 32 → mark_from bytes n j ≡ mark_at s j
unfolding mark_from
mark_is_from bytes s n j h same lt =
    elim (cases_lt j n) [
      | inl below ↦
          let test : nat_lt j n ≡ true = lt-ltb j n below in
          rw test (ap mark_back (mark_is bytes s j h lt (within j _ _ below same)) ∙ mark_again (mark_at s j))
      | inr past ↦
          let test : nat_lt j n ≡ false = le-ltb j n past in
          rw test (sym (h.block.rules.array.absent j (omega arith) lt))
    ]

joined_is_from : (bytes : List ℕ) (s : Superblock) (n j : ℕ) → SpellsSuperblock bytes s → n ≡ s.array.geometry.n → j < 32 → joined_from bytes n j ≡ joined_at s j
unfolding joined_from
joined_is_from bytes s n j h same lt =
    elim (cases_lt j n) [
      | inl below ↦
          let test : nat_lt j n ≡ true = lt-ltb j n below in
          rw test (joined_at_is bytes s j h lt (within j _ _ below same))
      | inr past ↦
          let test : nat_lt j n ≡ false = le-ltb j n past in
          rw test (sym (absent_joined s j h.block (omega arith) lt))
    ]

-- the frozen mark and the label, by cases on the version
frozen_is_from : (version : Version) (bytes : List ℕ) (s : Superblock) (h : SpellsSuperblock bytes s) → version ≡ h.version → frozen_from version bytes ≡ s.array.frozen
unfolding frozen_from
frozen_is_from One bytes s h same =
    let plain : IsPlain s.array = subst (λ (v : Version). HasNotes v s.array) (sym same) h.said.notes in
    sym plain.thawed
frozen_is_from Two bytes s h same = ap (λ (n : ℕ). nat_eq n 1) (frozen_is bytes s h (later_has Two h.version (inl refl) same)) ∙ frozen_back s.array.frozen
frozen_is_from Three bytes s h same = ap (λ (n : ℕ). nat_eq n 1) (frozen_is bytes s h (later_has Three h.version (inr refl) same)) ∙ frozen_back s.array.frozen

label_is_from : (version : Version) (bytes : List ℕ) (s : Superblock) (h : SpellsSuperblock bytes s) → version ≡ h.version → label_from version bytes ≡ s.array.label
unfolding label_from
label_is_from One bytes s h same =
    let plain : IsPlain s.array = subst (λ (v : Version). HasNotes v s.array) (sym same) h.said.notes in
    sym plain.unlabelled
label_is_from Two bytes s h same = label_is bytes s h (get_or bytes 385 0) (later_has Two h.version (inl refl) same) (length_is bytes s h (later_has Two h.version (inl refl) same))
label_is_from Three bytes s h same = label_is bytes s h (get_or bytes 385 0) (later_has Three h.version (inr refl) same) (length_is bytes s h (later_has Three h.version (inr refl) same))

array_is_from : (bytes : List ℕ) (s : Superblock) (h : SpellsSuperblock bytes s) → array_from h.version bytes ≡ s.array
unfolding array_from
array_is_from bytes s h =
    let n = n_is bytes s h in
    let e = coverage_is bytes s (get_or bytes 27 0) h (classes_is bytes s h) in
    let geometry : (array_from h.version bytes).geometry ≡ s.array.geometry =
    λ i. record { n = n i; m = m_is bytes s h i; r = r_is bytes s h i; e = e i; stripes = stripes_is bytes s h i; id = (laid bytes s h).id i } in
    let marks =
    made_is s.array.marks Down (mark_from bytes (get_or bytes 24 0)) 32 (omega (arith, h.block.sizes.marks)) (λ j lt. mark_is_from bytes s _ j h n lt)
    ∙ take_all 32 s.array.marks (omega (arith, h.block.sizes.marks)) in
    let joins =
    made_is s.array.joins 0 (joined_from bytes (get_or bytes 24 0)) 32 (omega (arith, h.block.sizes.joins)) (λ j lt. joined_is_from bytes s _ j h n lt)
    ∙ take_all 32 s.array.joins (omega (arith, h.block.sizes.joins)) in
    same_configuration (array_from h.version bytes) s.array geometry (epoch_is bytes s h) marks joins
    (frozen_is_from h.version bytes s h refl)
    (label_is_from h.version bytes s h refl)

block_is_from : (bytes : List ℕ) (s : Superblock) (h : SpellsSuperblock bytes s) → block_from h.version bytes ≡ s
unfolding block_from
block_is_from bytes s h =
    same_fields s (array_from h.version bytes) _ _ _ (array_is_from bytes s h) (slot_is bytes s h) (joined_is bytes s h) (draw_is bytes s h)

-- ---- the decision

record SpellsAs (version : Version) (bytes : List ℕ) (s : Superblock) : Type 0 where
  block : IsSuperblock s
  said : CanSay version s.array
  text : bytes ≡ spelled_in version s

known_as : (version : Version) (bytes : List ℕ) (s : Superblock) → IsKnown (SpellsAs version bytes s)
known_as version bytes s =
    known_if {P = IsSuperblock s × (CanSay version s.array × (bytes ≡ spelled_in version s))}
    (λ p. record { block = p.0; said = p.1.0; text = p.1.1 })
    (λ is. (is.block, (is.said, is.text)))
    (known_both (known_block s) (known_both (known_said version s.array) (known_text bytes (spelled_in version s))))

spells_as : (version : Version) (bytes : List ℕ) (s : Superblock) → SpellsAs version bytes s → SpellsSuperblock bytes s
spells_as version bytes s is = record { block = is.block; version = version; said = is.said; text = is.text }

as_spelled : (bytes : List ℕ) (s : Superblock) (h : SpellsSuperblock bytes s) → SpellsAs h.version bytes (block_from h.version bytes)
as_spelled bytes s h =
    subst (λ (t : Superblock). SpellsAs h.version bytes t) (sym (block_is_from bytes s h))
    (record { block = h.block; said = h.said; text = h.text })

-- in no version where in none of the three
none_of : (bytes : List ℕ) → ¬ SpellsAs One bytes (block_from One bytes) → ¬ SpellsAs Two bytes (block_from Two bytes)
    → ¬ SpellsAs Three bytes (block_from Three bytes) → (version : Version) → ¬ SpellsAs version bytes (block_from version bytes)
none_of bytes first second third One = first
none_of bytes first second third Two = second
none_of bytes first second third Three = third

pub superblock_or_none : (bytes : List ℕ) → ((s : Superblock) × SpellsSuperblock bytes s) ⊎ ((s : Superblock) → ¬ SpellsSuperblock bytes s)
superblock_or_none bytes =
    elim (known_as One bytes (block_from One bytes)) [
      | inl first ↦ inl (block_from One bytes, spells_as One bytes _ first)
      | inr not_first ↦
          elim (known_as Two bytes (block_from Two bytes)) [
            | inl second ↦ inl (block_from Two bytes, spells_as Two bytes _ second)
            | inr not_second ↦
                elim (known_as Three bytes (block_from Three bytes)) [
                  | inl third ↦ inl (block_from Three bytes, spells_as Three bytes _ third)
                  | inr not_third ↦ inr (λ s h. none_of bytes not_first not_second not_third h.version (as_spelled bytes s h))
                ]
          ]
    ]
