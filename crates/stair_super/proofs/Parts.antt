-- Where each field stands in the bytes of a superblock.
use Rattle.std.proofs.Common.{◌≡◌, ℕ, zero, suc, ◌+◌, ◌*◌, ◌-◌, ◌<◌, ◌≤◌, Bool, true, false, cond, List, ◌∷◌, ◌++◌, length, take, drop, replicate, refl, sym, ap, ◌∙◌, append_assoc, arith, inl, inr}
use Rattle.std.specs.Prelude.{nat_lt}
use Rattle.std.proofs.lemmas.Bool.{cases_lt}
use Rattle.std.proofs.lemmas.List.{take_at, drop_at, drop-drop, length-append, length-replicate}
use Rattle.stair_super.specs.Superblock.{Superblock, IsSuperblock, mark_at, joined_at}
use Rattle.stair_super.specs.Spelling.{padded, zeros, number32, number64, code, entry, entries, counts, geometry_part, numbers_part, fields}
use Rattle.stair_super.proofs.PageLemmas.{length-zeros}

-- what stands there is the field, and after it the rest
field_at : (bytes field rest : List ℕ) (at size : ℕ) → drop at bytes ≡ field ++ rest → length field ≡ size → take size (drop at bytes) ≡ field
field_at bytes field rest at size here sized = ap (λ (l : List ℕ). take size l) here ∙ take_at field rest size sized

behind : (bytes field rest : List ℕ) (at size next : ℕ) → drop at bytes ≡ field ++ rest → length field ≡ size → at + size ≡ next → drop next bytes ≡ rest
behind bytes field rest at size next here sized there =
    ap (λ (n : ℕ). drop n bytes) (sym there)
    ∙ sym (drop-drop size at bytes)
    ∙ ap (λ (l : List ℕ). drop size l) here
    ∙ drop_at field rest size sized

pub length-number32 : (n : ℕ) → length (number32 n) ≡ 4
unfolding number32
length-number32 n = refl

pub length-number64 : (n : ℕ) → length (number64 n) ≡ 8
unfolding number64
length-number64 n = refl

pub length-padded : (e : List ℕ) → length e ≤ 32 → length (padded e) ≡ 32
length-padded e few = omega (arith, length-append e (replicate (32 - length e) 0), length-replicate {A = ℕ} (32 - length e) 0)

length-cond : (b : Bool) (x y : List ℕ) (n : ℕ) → length x ≡ n → length y ≡ n → length (cond b x y) ≡ n
length-cond true x y n a b = a
length-cond false x y n a b = b

length-entry : (s : Superblock) (j : ℕ) → length (entry s j) ≡ 9
unfolding entry
length-entry s j =
    length-cond (nat_lt j s.array.geometry.n) (code (mark_at s j) ∷ number64 (joined_at s j)) (zeros 9) 9
    (ap suc (length-number64 (joined_at s j)))
    (length-zeros 9)

pub length-entries : (s : Superblock) (k : ℕ) → length (entries s k) ≡ 9 * k
unfolding entries
length-entries s zero = refl
length-entries s (suc k) = omega (arith, length-append (entries s k) (entry s k), length-entries s k, length-entry s k)

entry_among : (s : Superblock) (j k : ℕ) (rest : List ℕ) → j < k → take 9 (drop (9 * j) (entries s k ++ rest)) ≡ entry s j
unfolding entries
entry_among s j zero rest lt = absurd (omega arith)
entry_among s j (suc k) rest lt =
    let regrouped = append_assoc (entries s k) (entry s k) rest in
    elim (cases_lt j k) [
      | inl below ↦ rw regrouped (entry_among s j k (entry s k ++ rest) below)
      | inr above ↦
          let same : j ≡ k = omega arith in
          rw (regrouped, same, drop_at (entries s k) (entry s k ++ rest) (9 * k) (length-entries s k)) (take_at (entry s k) rest 9 (length-entry s k))
    ]

four : (a b c d x : List ℕ) → (a ++ (b ++ (c ++ d))) ++ x ≡ a ++ (b ++ (c ++ (d ++ x)))
four a b c d x = simp append_assoc

three : (a b c x : List ℕ) → (a ++ (b ++ c)) ++ x ≡ a ++ (b ++ (c ++ x))
three a b c x = simp append_assoc

-- the parts of the bytes, whose last are these notes
pub record IsLaid (bytes notes : List ℕ) (s : Superblock) : Type 0 where
  pub id : take 16 (drop 8 bytes) ≡ s.array.geometry.id
  pub numbers : take 4 (drop 24 bytes) ≡ counts s.array.geometry
  pub coverage : take 32 (drop 28 bytes) ≡ padded s.array.geometry.e
  pub stripes : take 4 (drop 60 bytes) ≡ number32 s.array.geometry.stripes
  pub slot : take 8 (drop 64 bytes) ≡ s.slot ∷ zeros 7
  pub joined : take 8 (drop 72 bytes) ≡ number64 s.joined
  pub draw : take 8 (drop 80 bytes) ≡ number64 s.draw
  pub epoch : take 8 (drop 88 bytes) ≡ number64 s.array.epoch
  pub slots : (j : ℕ) → j < 32 → take 9 (drop (96 + 9 * j) bytes) ≡ entry s j
  pub behind_slots : drop 384 bytes ≡ notes

pub is_laid : (bytes first last : List ℕ) (s : Superblock) → length first ≡ 8 → IsSuperblock s → bytes ≡ first ++ (fields s ++ last) → IsLaid bytes last s
is_laid bytes first last s eight block text =
    let few : length s.array.geometry.e ≤ 32 = omega (arith, block.rules.array.limits.covered_chunks, block.rules.array.limits.devices) in
    let wide = length-padded s.array.geometry.e few in
    let seven : length (s.slot ∷ zeros 7) ≡ 8 = ap suc (length-zeros 7) in
    let stripes = length-number32 s.array.geometry.stripes in
    let at8 =
    behind bytes first _ 0 8 8 text eight refl
    ∙ three (geometry_part s.array.geometry) (numbers_part s) (entries s 32) last
    ∙ four s.array.geometry.id (counts s.array.geometry) (padded s.array.geometry.e) (number32 s.array.geometry.stripes) (numbers_part s ++ (entries s 32 ++ last)) in
    let at24 = behind bytes s.array.geometry.id _ 8 16 24 at8 block.sizes.id refl in
    let at28 = behind bytes (counts s.array.geometry) _ 24 4 28 at24 refl refl in
    let at60 = behind bytes (padded s.array.geometry.e) _ 28 32 60 at28 wide refl in
    let at64 =
    behind bytes (number32 s.array.geometry.stripes) _ 60 4 64 at60 stripes refl
    ∙ four (s.slot ∷ zeros 7) (number64 s.joined) (number64 s.draw) (number64 s.array.epoch) (entries s 32 ++ last) in
    let at72 = behind bytes (s.slot ∷ zeros 7) _ 64 8 72 at64 seven refl in
    let at80 = behind bytes (number64 s.joined) _ 72 8 80 at72 (length-number64 s.joined) refl in
    let at88 = behind bytes (number64 s.draw) _ 80 8 88 at80 (length-number64 s.draw) refl in
    let at96 = behind bytes (number64 s.array.epoch) _ 88 8 96 at88 (length-number64 s.array.epoch) refl in
    record {
      id = field_at bytes s.array.geometry.id _ 8 16 at8 block.sizes.id;
      numbers = field_at bytes (counts s.array.geometry) _ 24 4 at24 refl;
      coverage = field_at bytes (padded s.array.geometry.e) _ 28 32 at28 wide;
      stripes = field_at bytes (number32 s.array.geometry.stripes) _ 60 4 at60 stripes;
      slot = field_at bytes (s.slot ∷ zeros 7) _ 64 8 at64 seven;
      joined = field_at bytes (number64 s.joined) _ 72 8 at72 (length-number64 s.joined);
      draw = field_at bytes (number64 s.draw) _ 80 8 at80 (length-number64 s.draw);
      epoch = field_at bytes (number64 s.array.epoch) _ 88 8 at88 (length-number64 s.array.epoch);
      slots = λ j lt.
          ap (λ (l : List ℕ). take 9 l) (sym (drop-drop (9 * j) 96 bytes) ∙ ap (λ (l : List ℕ). drop (9 * j) l) at96)
          ∙ entry_among s j 32 last lt;
      behind_slots = behind bytes (entries s 32) last 96 288 384 at96 (length-entries s 32) refl;
    }
