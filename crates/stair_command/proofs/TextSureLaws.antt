-- What is so of the program of a text of lines, where its source tells lines that are spelled, if it is so of what each of them does.
use Rattle.std.proofs.Common.{◌≡◌, ◌≢◌, ◌⊎◌, ◌==◌, inl, inr, ℕ, zero, suc, ◌+◌, ◌<◌, ◌≤◌, List, [], ◌∷◌, ◌++◌, All, Option, Some, Bool, nat_lt, length, length-append, append_assoc, sym, ap, subst, arith}
use Rattle.std.proofs.lemmas.Bool.{eq-eqb, lt-ltb, ne_eqb}
use Rattle.std.proofs.lemmas.List.{append-nil}
use Rattle.std.proofs.lemmas.List.Elements.{All-head, All-tail}
use Rattle.stair_command.specs.Program.{Program, Over, if_so, take_exactly}
use Rattle.stair_command.specs.Trace.{AreEnough}
use Rattle.stair_command.specs.Texts.{AreLines, LineDoes, by_lines, last_of}
use Rattle.stair_status.specs.declared.status.Status.TheVariants.{BadLine}

-- Lines of so many bytes at most, none of which ends one.
pub record AreShort {L : Type 0} (Spells : List ℕ → L → Type 0) (longest : ℕ) : Type 0 where
  pub short : (bytes : List ℕ) (said : L) → Spells bytes said → length bytes ≤ longest
  pub inner : (bytes : List ℕ) (said : L) → Spells bytes said → All (λ b. b ≢ 10) bytes

-- What is so of the program of what is left of a text, where its source tells it, if it is so of each node by what comes after.
pub record IsOfText {L X : Type 0} (Spells : List ℕ → L → Type 0) (does : LineDoes X) (ends : X → Program) (IsOk : L → Type 0)
    (IsSo : Program → Option (List ℕ) → Type 0) : Type 0 where
  pub over : (x : X) → IsSo (ends x) (Some [])
  pub takes : (k short : List ℕ → Program) (told : List ℕ)
      → ((bytes rest : List ℕ) → told ≡ bytes ++ rest → AreEnough 1 1 bytes → IsSo (k bytes) (Some rest))
      → (length told < 1 → IsSo (short told) (Some [])) → IsSo (take_exactly 1 k short) (Some told)
  pub line : (number : ℕ) (bytes : List ℕ) (said : L) (x : X) (rest : X → Program) (left : Option (List ℕ)) → Spells bytes said → IsOk said
      → ((y : X) → IsSo (rest y) left) → IsSo (does number bytes x rest) left

module _ {L X : Type 0} (Spells : List ℕ → L → Type 0) (longest : ℕ) (are : AreShort Spells longest) (does : LineDoes X) (ends : X → Program)
    (IsOk : L → Type 0) (IsSo : Program → Option (List ℕ) → Type 0) (nodes : IsOfText Spells does ends IsOk IsSo) where
  abbrev lines : (room number : ℕ) → List ℕ → X → Program
  lines room number line x = by_lines longest does ends room number line x

  -- Of the first of these lines that much came, and the rest of it and the other lines are left.
  abbrev IsAmid : List L → (line told : List ℕ) → Type 0
  IsAmid [] line told = line ++ told ≡ []
  IsAmid (said ∷ script) line told =
      ((script ≡ []) × Spells (line ++ told) said × (0 < length (line ++ told)))
      ⊎ ((text rest : List ℕ) × Spells (line ++ text) said × (told ≡ text ++ 10 ∷ rest) × AreLines Spells script rest)

  -- none of it came yet
  begins : (script : List L) (told : List ℕ) → AreLines Spells script told → IsAmid script [] told
  begins [] told is = is
  begins (said ∷ script) told is = is

  -- no byte of a line ends it
  no_end : (line rest : List ℕ) (byte : ℕ) (said : L) → Spells (line ++ byte ∷ rest) said → byte ≢ 10
  no_end line rest byte said spells = within line (are.inner (line ++ byte ∷ rest) said spells)
    where
      within : (line : List ℕ) → All (λ b. b ≢ 10) (line ++ byte ∷ rest) → byte ≢ 10
      within [] all = All-head (λ b. b ≢ 10) byte rest all
      within (first ∷ line) all = within line (All-tail (λ b. b ≢ 10) first (line ++ byte ∷ rest) all)

  -- how the program goes on after a byte, which ends the line or doesn't
  abbrev behind_byte : (room number : ℕ) → List ℕ → X → (byte : ℕ) → Bool → Program
  behind_byte room number line x byte is_end = if_so is_end (does number line x (lines room (number + 1) []))
      (if_so (nat_lt (length line) longest) (lines room number (line ++ byte ∷ []) x) (Over (BadLine number)))

  end_so : (k short : List ℕ → Program) → IsSo (short []) (Some []) → IsSo (take_exactly 1 k short) (Some [])
  end_so k short so =
      nodes.takes k short [] (λ bytes rest same enough. absurd (omega (arith, ap length same, length-append bytes rest, enough.enough))) (λ few. so)

  byte_so : (k short : List ℕ → Program) (byte : ℕ) (told : List ℕ) → IsSo (k (byte ∷ [])) (Some told) → IsSo (take_exactly 1 k short) (Some (byte ∷ told))
  byte_so k short byte told so = nodes.takes k short (byte ∷ told) by (λ few. absurd (omega (arith, few)))
    where
      by : (bytes rest : List ℕ) → byte ∷ told ≡ bytes ++ rest → AreEnough 1 1 bytes → IsSo (k bytes) (Some rest)
      by [] rest same enough = absurd (omega (arith, enough.enough))
      by (first ∷ []) rest same enough =
          let head : byte ≡ first = cc in
          let tail : told ≡ rest = cc in
          subst (λ (b : ℕ). IsSo (k (b ∷ [])) (Some rest)) head (subst (λ (left : List ℕ). IsSo (k (byte ∷ [])) (Some left)) tail so)
      by (first ∷ second ∷ more) rest same enough = absurd (omega (arith, enough.within))

  last_so : (number : ℕ) (line : List ℕ) (x : X) (script : List L) → IsAmid script line [] → All IsOk script
      → IsSo (last_of does ends number line x) (Some [])
  last_so number [] x script amid each = nodes.over x
  last_so number (byte ∷ line) x [] amid each = absurd cc
  last_so number (byte ∷ line) x (said ∷ script) (inl last) each =
      nodes.line number (byte ∷ line) said x ends (Some []) (subst (λ (bytes : List ℕ). Spells bytes said) (append-nil (byte ∷ line)) last.1)
      (All-head IsOk said script each) nodes.over
  last_so number (byte ∷ line) x (said ∷ script) (inr more) each = absurd (omega (arith, ap length more.3, length-append more.0 (10 ∷ more.1)))

  -- after a byte, where it is so of each way in which the line and the text may go on
  module _ (room : ℕ) (told : List ℕ)
      (next : (number : ℕ) (line : List ℕ) (x : X) (script : List L) → IsAmid script line told → All IsOk script → IsSo (lines room number line x) (Some told))
      (number : ℕ) (line : List ℕ) (x : X) (byte : ℕ) where
    abbrev IsSoBehind : Bool → Type 0
    IsSoBehind is_end = IsSo (behind_byte room number line x byte is_end) (Some told)

    on_so : (said : L) (rest : List ℕ) (script : List L) → Spells (line ++ byte ∷ rest) said → IsAmid script (line ++ byte ∷ []) told
        → All IsOk script → IsSoBehind (byte == 10)
    on_so said rest script spells amid each =
        let short : length line < longest =
        omega (arith, are.short (line ++ byte ∷ rest) said spells, length-append line (byte ∷ rest)) in
        subst IsSoBehind (sym (ne_eqb byte 10 (no_end line rest byte said spells)))
        (subst (λ (within : Bool). IsSo (if_so within (lines room number (line ++ byte ∷ []) x) (Over (BadLine number))) (Some told))
        (sym (lt-ltb (length line) longest short)) (next number (line ++ byte ∷ []) x script amid each))

    more_so : (said : L) (script : List L) (text rest : List ℕ) → Spells (line ++ text) said → byte ∷ told ≡ text ++ 10 ∷ rest
        → AreLines Spells script rest → All IsOk (said ∷ script) → IsSoBehind (byte == 10)
    more_so said script [] rest spells same is each =
        let ends_it : byte ≡ 10 = cc in
        let left : told ≡ rest = cc in
        subst IsSoBehind (sym (eq-eqb byte 10 ends_it))
        (nodes.line number line said x (lines room (number + 1) []) (Some told) (subst (λ (bytes : List ℕ). Spells bytes said) (append-nil line) spells)
        (All-head IsOk said script each)
        (λ y. next (number + 1) [] y script (begins script told (subst (λ (bytes : List ℕ). AreLines Spells script bytes) (sym left) is))
        (All-tail IsOk said script each)))
    more_so said script (first ∷ text) rest spells same is each =
        let head : first ≡ byte = cc in
        let tail : told ≡ text ++ 10 ∷ rest = cc in
        let spelled : Spells (line ++ byte ∷ text) said = subst (λ (b : ℕ). Spells (line ++ b ∷ text) said) head spells in
        on_so said text (said ∷ script) spelled
        (inr (text, rest, subst (λ (bytes : List ℕ). Spells bytes said) (sym (append_assoc line (byte ∷ []) text)) spelled, tail, is)) each

    behind_so : (script : List L) → IsAmid script line (byte ∷ told) → All IsOk script → IsSoBehind (byte == 10)
    behind_so [] amid each = absurd (omega (arith, ap length amid, length-append line (byte ∷ told)))
    behind_so (said ∷ script) (inl last) each =
        let same : line ++ byte ∷ told ≡ (line ++ byte ∷ []) ++ told = sym (append_assoc line (byte ∷ []) told) in
        on_so said told (said ∷ script) last.1
        (inl (last.0, subst (λ (bytes : List ℕ). Spells bytes said) same last.1, subst (λ (bytes : List ℕ). 0 < length bytes) same last.2)) each
    behind_so (said ∷ script) (inr more) each = more_so said script more.0 more.1 more.2 more.3 more.4 each

  lines_so : (room number : ℕ) (line told : List ℕ) (x : X) (script : List L) → IsAmid script line told → All IsOk script → length told ≤ room
      → IsSo (lines room number line x) (Some told)
  lines_so zero number line [] x script amid each fits = end_so _ _ (last_so number line x script amid each)
  lines_so (suc room) number line [] x script amid each fits = end_so _ _ (last_so number line x script amid each)
  lines_so zero number line (byte ∷ told) x script amid each fits = absurd (omega (arith, fits))
  lines_so (suc room) number line (byte ∷ told) x script amid each fits =
      byte_so _ _ byte told
      (behind_so room told (λ number line x script amid each. lines_so room number line told x script amid each (omega (arith, fits))) number line x byte script
      amid each)

  -- so of a whole text
  pub text_so : (room : ℕ) (told : List ℕ) (x : X) (script : List L) → AreLines Spells script told → All IsOk script → length told ≤ room
      → IsSo (lines room 1 [] x) (Some told)
  text_so room told x script is each fits = lines_so room 1 [] told x script (begins script told is) each fits
