-- Symbols that are solved along a line.
use Rattle.std.proofs.Common.{◌≡◌, ℕ, ◌+◌, ◌<◌, ◌≤◌, ◌⊎◌, ◌↔◌, List, [], Bool, true, false, length, set, take, replicate, slice_index, slice_index_or, inl, inr, refl, sym, subst, ap, ◌∙◌, arith}
use Rattle.std.specs.Prelude.{Contains}
use Rattle.std.proofs.lemmas.Bool.{cases_eq, cases_Bool, false≢true, false_from_ne_true}
use Rattle.std.proofs.lemmas.List.{get_or-replicate, get_or-set_same, get_or-set_other, get_or-take, get_or_default, length-set, length-take-le}
use Rattle.stair_model.specs.CauchyCode.{Agree}
use Rattle.stair_model.specs.Stripe.{SECTOR, symbol_byte}
use Rattle.stair_mds.specs.Solving.{IsReadAlong, Shape, SolvesAlong, along}
use Rattle.stair_mds.specs.declared.line.Line.{Line}
use Rattle.stair_canon.specs.Canonical.{KnownSymbols, bytes_of, is_known}
use Rattle.stair_canon.specs.Along.{FillsIn, LiesAt, MakesKnown, SolvesKnown}
use Rattle.stair_canon.proofs.Grid.{bytes-known, bytes-unknown}

-- ---- how many of the known places are read

-- beyond the first `read` of the first t places none is known
abbrev pub HasNoneBehind : KnownSymbols → Line → List ℕ → ℕ → ℕ → Type 0
HasNoneBehind s line places read t =
    (i : ℕ) → read ≤ i → i < t → is_known s (along line (slice_index places i)) ≡ false

pub HasNoneBehind-more : (s : KnownSymbols) (line : Line) (places : List ℕ) (read t : ℕ) → HasNoneBehind s line places read t
    → is_known s (along line (slice_index places t)) ≡ false → HasNoneBehind s line places read (t + 1)
HasNoneBehind-more s line places read t before now i from below =
    elim (cases_eq i t) [
      | inl last ↦ ap (λ (x : ℕ). is_known s (along line (slice_index places x))) last ∙ now
      | inr earlier ↦ before i from (omega arith)
    ]

-- ---- filling in

-- the first t places are filled in
pub record HasFilled (line : Line) (places : List ℕ) (old new : KnownSymbols) (t : ℕ) : Type 0 where
  pub count : length new.memory ≡ length old.memory
  pub marks : new.known ≡ old.known
  pub filled :
      (i : ℕ) → i < t →
      slice_index_or new.memory (along line (slice_index places i)) [] ≡ bytes_of old (along line (slice_index places i))
  pub kept : (k : ℕ) → is_known old k ≡ true → slice_index_or new.memory k [] ≡ slice_index_or old.memory k []

pub HasFilled-none : (line : Line) (places : List ℕ) (s : KnownSymbols) → HasFilled line places s s 0
HasFilled-none line places s = record {
  count = refl;
  marks = refl;
  filled = λ i none. absurd (omega arith);
  kept = λ k known. refl;
}

module _ (line : Line) (places : List ℕ) (old new : KnownSymbols) (t : ℕ) (before : HasFilled line places old new t) where
  -- a known symbol stands there already
  pub HasFilled-known : is_known old (along line (slice_index places t)) ≡ true → HasFilled line places old new (t + 1)
  HasFilled-known known = record {
    count = before.count;
    marks = before.marks;
    filled = λ i below.
        elim (cases_eq i t) [
          | inl last ↦
              subst (λ (x : ℕ). slice_index_or new.memory (along line (slice_index places x)) [] ≡ bytes_of old (along line (slice_index places x)))
              (sym last) (before.kept _ known ∙ sym (bytes-known old (along line (slice_index places t)) known))
          | inr earlier ↦ before.filled i (omega arith)
        ];
    kept = before.kept;
  }

  -- zeros are put where one isn't known
  pub HasFilled-zeros : (k : ℕ) (memory : List (List ℕ)) → k ≡ along line (slice_index places t) → is_known old k ≡ false
      → k < length new.memory → memory ≡ set new.memory k (replicate SECTOR 0)
      → HasFilled line places old (record { memory = memory; known = new.known }) (t + 1)
  HasFilled-zeros k memory is unknown within written = record {
    count = ap length written ∙ length-set new.memory k (replicate SECTOR 0) ∙ before.count;
    marks = before.marks;
    filled = λ i below.
        elim (cases_eq (along line (slice_index places i)) k) [
          | inl here ↦
              subst (λ (x : ℕ). slice_index_or memory x [] ≡ bytes_of old x) (sym here)
              (ap (λ m. slice_index_or m k []) written
              ∙ get_or-set_same new.memory k (replicate SECTOR 0) [] within
              ∙ sym (bytes-unknown old k unknown))
          | inr other ↦
              ap (λ m. slice_index_or m (along line (slice_index places i)) []) written
              ∙ get_or-set_other new.memory k (along line (slice_index places i)) (replicate SECTOR 0) [] other
              ∙ before.filled i (earlier i below other)
        ];
    kept = λ x known.
        ap (λ m. slice_index_or m x []) written
        ∙ get_or-set_other new.memory k x (replicate SECTOR 0) []
        (λ same. false≢true (sym unknown ∙ ap (is_known old) (sym same) ∙ known))
        ∙ before.kept x known;
  }
    where
      earlier : (i : ℕ) → i < t + 1 → (along line (slice_index places i) ≡ k → ⊥) → i < t
      earlier i below other =
          elim (cases_eq i t) [
            | inl last ↦ absurd (other (ap (λ (x : ℕ). along line (slice_index places x)) last ∙ sym is))
            | inr before_t ↦ omega arith
          ]

-- all places are filled in
pub FillsIn-all : (line : Line) (places : List ℕ) (old new : KnownSymbols) (t : ℕ) → length places ≤ t → HasFilled line places old new t
    → FillsIn line places old new
FillsIn-all line places old new t all fills = record {
  count = fills.count;
  marks = fills.marks;
  filled = λ i below. fills.filled i (omega arith);
  kept = fills.kept;
}

-- ---- solving

-- two marks that are set for the same reason are the same
same_mark : (a b : Bool) → ((a ≡ true) ↔ (b ≡ true)) → a ≡ b
same_mark a b both =
    elim (cases_Bool b) [
      | inl set_b ↦ both.1 set_b ∙ sym set_b
      | inr clear ↦ false_from_ne_true a (λ set_a. false≢true (sym clear ∙ both.0 set_a)) ∙ sym clear
    ]

-- bytes of a symbol whose mark and memory are as they were
same_bytes : (s t : KnownSymbols) (k : ℕ) → is_known t k ≡ is_known s k
    → (is_known s k ≡ true → slice_index_or t.memory k [] ≡ slice_index_or s.memory k []) → bytes_of t k ≡ bytes_of s k
same_bytes s t k marks memory =
    elim (cases_Bool (is_known s k)) [
      | inl known ↦ bytes-known t k (marks ∙ known) ∙ memory known ∙ sym (bytes-known s k known)
      | inr unknown ↦ bytes-unknown t k (marks ∙ unknown) ∙ sym (bytes-unknown s k unknown)
    ]

module _ (code : Shape) (line : Line) (known wanted : List ℕ) (read : ℕ) (old filled solved new : KnownSymbols) (short : read ≤ length known)
    (behind : HasNoneBehind old line known read (length known)) (fills : FillsIn line (take read known) old filled)
    (solves : SolvesAlong code line read known wanted filled.memory solved.memory) (marks : solved.known ≡ filled.known)
    (makes : MakesKnown line wanted solved new) where
  was_known : (k : ℕ) → is_known solved k ≡ is_known old k
  was_known k = ap (λ m. slice_index_or m k false) (marks ∙ fills.marks)

  known_now : (k : ℕ) → (is_known new k ≡ true) ↔ ((is_known old k ≡ true) ⊎ LiesAt line wanted k)
  known_now k = subst (λ (b : Bool). (is_known new k ≡ true) ↔ ((b ≡ true) ⊎ LiesAt line wanted k)) (was_known k) (makes.known k)

  memory_is : (k : ℕ) → slice_index_or new.memory k [] ≡ slice_index_or solved.memory k []
  memory_is k = ap (λ m. slice_index_or m k []) makes.memory

  read_along : IsReadAlong line read known filled.memory (λ q p. slice_index (bytes_of old (along line p)) q)
  read_along = record {
    as_read = λ i q below in_sector.
        let is : slice_index (take read known) i ≡ slice_index known i = get_or-take read known i 0 below in
        ap (λ bytes. slice_index bytes q)
        (sym (subst (λ (p : ℕ). slice_index_or filled.memory (along line p) [] ≡ bytes_of old (along line p)) is
        (fills.filled i (omega (arith, length-take-le read known short)))));
    zero = λ i q from below in_sector.
        ap (λ bytes. slice_index bytes q) (bytes-unknown old (along line (slice_index known i)) (behind i from below))
        ∙ get_or-replicate SECTOR q 0 0 in_sector;
  }

  wanted_known : (p : ℕ) → Contains wanted p → is_known new (along line p) ≡ true
  wanted_known p one = (known_now (along line p)).1 (inr (p, one, refl))

  wanted_bytes : (q p : ℕ) → Contains wanted p → symbol_byte solved.memory q (along line p) ≡ slice_index (bytes_of new (along line p)) q
  wanted_bytes q p one =
      ap (λ bytes. slice_index bytes q)
      (sym (memory_is (along line p)) ∙ sym (bytes-known new (along line p) (wanted_known p one)))

  agree : (q : ℕ) (c : ℕ → ℕ) → Agree wanted c (λ p. symbol_byte solved.memory q (along line p))
      → Agree wanted c (λ p. slice_index (bytes_of new (along line p)) q)
  agree q c all i d below = all i d below ∙ wanted_bytes q (slice_index_or wanted i d) (i, below, get_or_default wanted i (slice_index_or wanted i d) d below)

  kept_at : (k : ℕ) → ¬ LiesAt line wanted k → bytes_of new k ≡ bytes_of old k
  kept_at k apart =
      same_bytes old new k
      (same_mark (is_known new k) (is_known old k) (
        λ is_now. elim ((known_now k).0 is_now) [ inl before ↦ before | inr one ↦ absurd (apart one) ],
        λ before. (known_now k).1 (inl before),
      ))
      (λ was.
      memory_is k
      ∙ solves.others k (λ p one same. apart (p, one, same))
      ∙ fills.kept k was)

  pub SolvesKnown-from : SolvesKnown code line known wanted old new
  SolvesKnown-from = record {
    count = ap length makes.memory ∙ solves.count ∙ fills.count;
    marks = makes.marks ∙ ap length (marks ∙ fills.marks);
    symbols =
        let made = solves.symbols (λ q p. slice_index (bytes_of old (along line p)) q) read_along in
        record {
          some = λ q in_sector. let one = made.some q in_sector in (one.0, one.1, one.2, agree q one.0 one.3);
          each = λ q c in_sector is_code real. agree q c (made.each q c in_sector is_code real);
        };
    others = kept_at;
    marked = known_now;
  }
