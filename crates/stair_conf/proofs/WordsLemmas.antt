-- What the words of a job are.
use Rattle.std.proofs.Common.{◌≡◌, ◌≢◌, ◌∙◌, ◌<◌, ◌^◌, ℕ, List, [], ◌∷◌, false, map, drop, get_or, refl, sym, ap, subst, inl, inr, arith}
use Rattle.std.specs.Prelude.{codes}
use Rattle.std.specs.Str.{bytes_eq}
use Rattle.std.specs.Fmt.{decimal}
use Rattle.std.proofs.lemmas.Fmt.{decimal_injective}
use Rattle.std.proofs.lemmas.List.{append_cancel_left}
use Rattle.std.proofs.lemmas.List.Elements.{All-append, All-cons, All-map, All-nil, All-weaker}
use Rattle.std.proofs.lemmas.Bool.Decides.{not_from_Decides}
use Rattle.std.proofs.lemmas.Slice.Eq.{bytes_eq-Decides}
use Rattle.stair_conf.specs.declared.job.Method.{Method}
use Rattle.stair_conf.specs.declared.job.Method.TheVariants.{Standard, Up, Down, Fewest}
use Rattle.stair_conf.specs.declared.job.Job.{Job}
use Rattle.stair_conf.specs.declared.job.Job.TheVariants.{OneStripe, Create, Show, Read, Write, Scrub, Replace, Rebuild, Freeze, Thaw, Label, Run, Exercise, Guard, Report, Serve, Volume, Plan}
use Rattle.stair_conf.specs.declared.job.StripeCommand.{StripeCommand}
use Rattle.stair_conf.specs.declared.job.StripeCommand.TheVariants.{Check, Encode, Restore}
use Rattle.stair_conf.specs.declared.job.VolumeJob.{VolumeJob}
use Rattle.stair_conf.specs.Commands.{HasNoOption, IsPlainWord}
use Rattle.stair_conf.specs.Words.{IsCommandLine, IsCommandWord, Spells, SpellsCounted, SpellsGeometry, SpellsSlot, SpellsText, SpellsVolume, command_words, method_word}
use Rattle.stair_conf.proofs.NumberLemmas.{decimal_plain, map_decimal_injective}
use Rattle.stair_conf.proofs.VolumeLemmas.{volume_begins, volume_first, volume_once, volume_plain, volume_word, volume_word_of}

-- ---- the first words

-- without the first word
pub behind : (first : List ℕ) (before words : List (List ℕ)) (n m r : ℕ) (e : List ℕ) → SpellsGeometry (first ∷ before) words n m r e
    → SpellsGeometry before (drop 1 words) n m r e
behind first before words n m r e spells = record {
  spelled = ap (drop 1) spells.spelled;
  some_e = spells.some_e;
  n_fits = spells.n_fits;
  m_fits = spells.m_fits;
  r_fits = spells.r_fits;
  e_fit = spells.e_fit;
}

-- with one more word first
pub in_front : (first : List ℕ) (before words : List (List ℕ)) (n m r : ℕ) (e : List ℕ) → SpellsGeometry before words n m r e
    → SpellsGeometry (first ∷ before) (first ∷ words) n m r e
in_front first before words n m r e spells = record {
  spelled = ap (λ ws. first ∷ ws) spells.spelled;
  some_e = spells.some_e;
  n_fits = spells.n_fits;
  m_fits = spells.m_fits;
  r_fits = spells.r_fits;
  e_fit = spells.e_fit;
}

-- the command's word
abbrev pub word_of : Job → List ℕ
word_of (OneStripe Check n m r e) = codes "check"
word_of (OneStripe (Encode method) n m r e) = codes "stripe"
word_of (OneStripe Restore n m r e) = codes "restore"
word_of Create = codes "create"
word_of Show = codes "show"
word_of (Read block count) = codes "read"
word_of (Write block count) = codes "write"
word_of Scrub = codes "scrub"
word_of (Replace slot) = codes "replace"
word_of Rebuild = codes "rebuild"
word_of Freeze = codes "freeze"
word_of Thaw = codes "thaw"
word_of (Label text) = codes "label"
word_of Run = codes "run"
word_of (Exercise number count) = codes "exercise"
word_of (Guard events fences) = codes "guard"
word_of Report = codes "report"
word_of Serve = codes "serve"
word_of (Volume job) = volume_word_of job
word_of (Plan n m r e) = codes "plan"

-- the words of a job begin with the command's
pub first_word : (words : List (List ℕ)) (job : Job) → Spells words job → get_or words 0 [] ≡ word_of job
first_word words (OneStripe Check n m r e) spells = ap (λ ws. get_or ws 0 []) spells.spelled
first_word words (OneStripe (Encode method) n m r e) spells = ap (λ ws. get_or ws 0 []) spells.spelled
first_word words (OneStripe Restore n m r e) spells = ap (λ ws. get_or ws 0 []) spells.spelled
first_word words Create spells = ap (λ ws. get_or ws 0 []) spells
first_word words Show spells = ap (λ ws. get_or ws 0 []) spells
first_word words (Read block count) spells = ap (λ ws. get_or ws 0 []) spells.spelled
first_word words (Write block count) spells = ap (λ ws. get_or ws 0 []) spells.spelled
first_word words Scrub spells = ap (λ ws. get_or ws 0 []) spells
first_word words (Replace slot) spells = ap (λ ws. get_or ws 0 []) spells.spelled
first_word words Rebuild spells = ap (λ ws. get_or ws 0 []) spells
first_word words Freeze spells = ap (λ ws. get_or ws 0 []) spells
first_word words Thaw spells = ap (λ ws. get_or ws 0 []) spells
first_word words (Label text) spells = ap (λ ws. get_or ws 0 []) spells.spelled
first_word words Run spells = ap (λ ws. get_or ws 0 []) spells
first_word words (Exercise number count) spells = ap (λ ws. get_or ws 0 []) spells.spelled
first_word words (Guard events fences) spells = ap (λ ws. get_or ws 0 []) spells.counted.spelled
first_word words Report spells = ap (λ ws. get_or ws 0 []) spells
first_word words Serve spells = ap (λ ws. get_or ws 0 []) spells
first_word words (Volume job) spells = volume_first words job spells
first_word words (Plan n m r e) spells = ap (λ ws. get_or ws 0 []) spells.spelled

-- ---- no word of a job begins with a hyphen

geometry_plain : (before words : List (List ℕ)) (n m r : ℕ) (e : List ℕ) → HasNoOption before → SpellsGeometry before words n m r e → HasNoOption words
geometry_plain before words n m r e plain spells =
    let numbers : HasNoOption (map decimal e) =
    All-map IsPlainWord decimal e (All-weaker (λ x. x < 2 ^ 64) (λ x. IsPlainWord (decimal x)) decimal_plain e spells.e_fit) in
    let r_on : HasNoOption (decimal r ∷ map decimal e) = All-cons IsPlainWord (decimal r) (map decimal e) (decimal_plain r spells.r_fits) numbers in
    let m_on : HasNoOption (decimal m ∷ decimal r ∷ map decimal e) =
    All-cons IsPlainWord (decimal m) (decimal r ∷ map decimal e) (decimal_plain m spells.m_fits) r_on in
    let n_on : HasNoOption (decimal n ∷ decimal m ∷ decimal r ∷ map decimal e) =
    All-cons IsPlainWord (decimal n) (decimal m ∷ decimal r ∷ map decimal e) (decimal_plain n spells.n_fits) m_on in
    rw spells.spelled (All-append IsPlainWord before (decimal n ∷ decimal m ∷ decimal r ∷ map decimal e) plain n_on)

counted_plain : (before words : List (List ℕ)) (number count : ℕ) → HasNoOption before → SpellsCounted before words number count → HasNoOption words
counted_plain before words number count plain spells =
    let behind_number = All-cons IsPlainWord (decimal count) [] (decimal_plain count spells.count_fits) (All-nil IsPlainWord) in
    rw spells.spelled (All-append IsPlainWord before (decimal number ∷ decimal count ∷ []) plain
    (All-cons IsPlainWord (decimal number) (decimal count ∷ []) (decimal_plain number spells.number_fits) behind_number))

method_plain : (method : Method) → IsPlainWord (method_word method)
method_plain Standard = omega arith
method_plain Up = omega arith
method_plain Down = omega arith
method_plain Fewest = omega arith

one_plain : (word : List ℕ) → IsPlainWord word → HasNoOption (word ∷ [])
one_plain word plain = All-cons IsPlainWord word [] plain (All-nil IsPlainWord)

slot_plain : (before words : List (List ℕ)) (slot : ℕ) → HasNoOption before → SpellsSlot before words slot → HasNoOption words
slot_plain before words slot plain spells =
    rw spells.spelled (All-append IsPlainWord before (decimal slot ∷ []) plain (one_plain (decimal slot) (decimal_plain slot spells.fits)))

text_plain : (before words : List (List ℕ)) (text : List ℕ) → HasNoOption before → SpellsText before words text → HasNoOption words
text_plain before words text plain spells =
    rw spells.spelled (All-append IsPlainWord before (text ∷ []) plain (one_plain text spells.plain))

pub job_plain : (words : List (List ℕ)) (job : Job) → Spells words job → HasNoOption words
job_plain words (OneStripe Check n m r e) spells = geometry_plain _ words n m r e (one_plain (codes "check") (omega arith)) spells
job_plain words (OneStripe (Encode method) n m r e) spells =
    geometry_plain _ words n m r e
    (All-cons IsPlainWord (codes "stripe") (method_word method ∷ []) (omega arith) (one_plain (method_word method) (method_plain method))) spells
job_plain words (OneStripe Restore n m r e) spells = geometry_plain _ words n m r e (one_plain (codes "restore") (omega arith)) spells
job_plain words Create spells = rw spells (one_plain (codes "create") (omega arith))
job_plain words Show spells = rw spells (one_plain (codes "show") (omega arith))
job_plain words (Read block count) spells = counted_plain _ words block count (one_plain (codes "read") (omega arith)) spells
job_plain words (Write block count) spells = counted_plain _ words block count (one_plain (codes "write") (omega arith)) spells
job_plain words Scrub spells = rw spells (one_plain (codes "scrub") (omega arith))
job_plain words (Replace slot) spells = slot_plain _ words slot (one_plain (codes "replace") (omega arith)) spells
job_plain words Rebuild spells = rw spells (one_plain (codes "rebuild") (omega arith))
job_plain words Freeze spells = rw spells (one_plain (codes "freeze") (omega arith))
job_plain words Thaw spells = rw spells (one_plain (codes "thaw") (omega arith))
job_plain words (Label text) spells = text_plain _ words text (one_plain (codes "label") (omega arith)) spells
job_plain words Run spells = rw spells (one_plain (codes "run") (omega arith))
job_plain words (Exercise number count) spells = counted_plain _ words number count (one_plain (codes "exercise") (omega arith)) spells
job_plain words (Guard events fences) spells = counted_plain _ words events fences (one_plain (codes "guard") (omega arith)) spells.counted
job_plain words Report spells = rw spells (one_plain (codes "report") (omega arith))
job_plain words Serve spells = rw spells (one_plain (codes "serve") (omega arith))
job_plain words (Volume job) spells = volume_plain words job spells
job_plain words (Plan n m r e) spells = geometry_plain _ words n m r e (one_plain (codes "plan") (omega arith)) spells

pub command_word : (job : Job) → IsCommandWord (word_of job)
command_word (OneStripe Check n m r e) = inl refl
command_word (OneStripe (Encode method) n m r e) = inr (inl refl)
command_word (OneStripe Restore n m r e) = inr (inr (inl refl))
command_word Create = inr (inr (inr (inl refl)))
command_word Show = inr (inr (inr (inr (inl refl))))
command_word (Read block count) = inr (inr (inr (inr (inr (inl refl)))))
command_word (Write block count) = inr (inr (inr (inr (inr (inr (inl refl))))))
command_word Scrub = inr (inr (inr (inr (inr (inr (inr (inl refl)))))))
command_word (Replace slot) = inr (inr (inr (inr (inr (inr (inr (inr (inl refl))))))))
command_word Rebuild = inr (inr (inr (inr (inr (inr (inr (inr (inr (inl refl)))))))))
command_word Freeze = inr (inr (inr (inr (inr (inr (inr (inr (inr (inr (inl refl))))))))))
command_word Thaw = inr (inr (inr (inr (inr (inr (inr (inr (inr (inr (inr (inl refl)))))))))))
command_word (Label text) = inr (inr (inr (inr (inr (inr (inr (inr (inr (inr (inr (inr (inl refl))))))))))))
command_word Run = inr (inr (inr (inr (inr (inr (inr (inr (inr (inr (inr (inr (inr (inl refl)))))))))))))
command_word (Exercise number count) = inr (inr (inr (inr (inr (inr (inr (inr (inr (inr (inr (inr (inr (inr (inl refl))))))))))))))
command_word (Guard events fences) = inr (inr (inr (inr (inr (inr (inr (inr (inr (inr (inr (inr (inr (inr (inr (inl refl)))))))))))))))
command_word Report = inr (inr (inr (inr (inr (inr (inr (inr (inr (inr (inr (inr (inr (inr (inr (inr (inl refl))))))))))))))))
command_word Serve = inr (inr (inr (inr (inr (inr (inr (inr (inr (inr (inr (inr (inr (inr (inr (inr (inr (inl refl)))))))))))))))))
command_word (Volume job) = inr (inr (inr (inr (inr (inr (inr (inr (inr (inr (inr (inr (inr (inr (inr (inr (inr (inr (inr (volume_word job)))))))))))))))))))
command_word (Plan n m r e) = inr (inr (inr (inr (inr (inr (inr (inr (inr (inr (inr (inr (inr (inr (inr (inr (inr (inr (inl refl))))))))))))))))))

-- the words of a job are a command line
pub job_line : (words : List (List ℕ)) (job : Job) → Spells words job → IsCommandLine words
job_line words job spells = record { command = subst IsCommandWord (sym (first_word words job spells)) (command_word job); no_option = job_plain words job spells }

-- ---- words spell one job at most

-- words with the same words before spell one geometry
geometry_once : (before words : List (List ℕ)) (n m r : ℕ) (e : List ℕ) (n' m' r' : ℕ) (e' : List ℕ)
    → SpellsGeometry before words n m r e → SpellsGeometry before words n' m' r' e' → (n ≡ n') × (m ≡ m') × (r ≡ r') × (e ≡ e')
geometry_once before words n m r e n' m' r' e' one two =
    let same = append_cancel_left before _ _ (sym one.spelled ∙ two.spelled) in
    let n_texts : decimal n ≡ decimal n' = cc in
    let m_texts : decimal m ≡ decimal m' = cc in
    let r_texts : decimal r ≡ decimal r' = cc in
    let e_texts : map decimal e ≡ map decimal e' = cc in (
      decimal_injective n n' one.n_fits two.n_fits n_texts,
      decimal_injective m m' one.m_fits two.m_fits m_texts,
      decimal_injective r r' one.r_fits two.r_fits r_texts,
      map_decimal_injective e e' one.e_fit two.e_fit e_texts,
    )

-- a method has a word of its own
same_method : (a b : Method) → method_word a ≡ method_word b → a ≡ b
same_method Standard Standard same = refl
same_method Up Up same = refl
same_method Down Down same = refl
same_method Fewest Fewest same = refl
same_method _ _ same = cc

-- commands on one stripe with the same words are one job
one_stripe_once : (words : List (List ℕ)) (a b : StripeCommand) (n m r : ℕ) (e : List ℕ) (n' m' r' : ℕ) (e' : List ℕ)
    → SpellsGeometry (command_words a) words n m r e → SpellsGeometry (command_words b) words n' m' r' e' → OneStripe a n m r e ≡ OneStripe b n' m' r' e'
one_stripe_once words Check Check n m r e n' m' r' e' one two =
    let same = geometry_once (codes "check" ∷ []) words n m r e n' m' r' e' one two in
    λ i. OneStripe Check (same.0 i) (same.1 i) (same.2 i) (same.3 i)
one_stripe_once words (Encode method) (Encode method') n m r e n' m' r' e' one two =
    let words_are = sym one.spelled ∙ two.spelled in
    let method_words : method_word method ≡ method_word method' = cc in
    let method_is = same_method method method' method_words in
    let moved : SpellsGeometry (codes "stripe" ∷ method_word method ∷ []) words n' m' r' e' =
    rw method_words two in
    let same = geometry_once (codes "stripe" ∷ method_word method ∷ []) words n m r e n' m' r' e' one moved in
    λ i. OneStripe (Encode (method_is i)) (same.0 i) (same.1 i) (same.2 i) (same.3 i)
one_stripe_once words Restore Restore n m r e n' m' r' e' one two =
    let same = geometry_once (codes "restore" ∷ []) words n m r e n' m' r' e' one two in
    λ i. OneStripe Restore (same.0 i) (same.1 i) (same.2 i) (same.3 i)
one_stripe_once words a b n m r e n' m' r' e' one two =
    let first = sym (first_word words (OneStripe a n m r e) one) ∙ first_word words (OneStripe b n' m' r' e') two in
    cc

-- words with the same words before spell one number and one count
pub counted_once : (before words : List (List ℕ)) (number count number' count' : ℕ)
    → SpellsCounted before words number count → SpellsCounted before words number' count' → (number ≡ number') × (count ≡ count')
counted_once before words number count number' count' one two =
    let same = append_cancel_left before _ _ (sym one.spelled ∙ two.spelled) in
    let number_texts : decimal number ≡ decimal number' = cc in
    let count_texts : decimal count ≡ decimal count' = cc in (
      decimal_injective number number' one.number_fits two.number_fits number_texts,
      decimal_injective count count' one.count_fits two.count_fits count_texts,
    )

-- words with the same words before spell one slot
slot_once : (before words : List (List ℕ)) (slot slot' : ℕ) → SpellsSlot before words slot → SpellsSlot before words slot' → slot ≡ slot'
slot_once before words slot slot' one two =
    let same = append_cancel_left before _ _ (sym one.spelled ∙ two.spelled) in
    let texts : decimal slot ≡ decimal slot' = cc in
    decimal_injective slot slot' one.fits two.fits texts

-- words with the same words before spell one text
text_once : (before words : List (List ℕ)) (text text' : List ℕ) → SpellsText before words text → SpellsText before words text' → text ≡ text'
text_once before words text text' one two =
    let same = append_cancel_left before _ _ (sym one.spelled ∙ two.spelled) in
    cc

-- no words spell two jobs whose commands' words differ
no_other_job : (words : List (List ℕ)) (a b : Job) → Spells words a → Spells words b → bytes_eq (word_of a) (word_of b) ≡ false → ⊥
no_other_job words a b one two apart =
    not_from_Decides (bytes_eq (word_of a) (word_of b)) (bytes_eq-Decides (word_of a) (word_of b)) apart
    (sym (first_word words a one) ∙ first_word words b two)

-- a job that isn't on volumes
abbrev IsNotOnVolumes : Job → Type 0
IsNotOnVolumes (Volume job) = ⊥
IsNotOnVolumes job = Unit {0}

other_letter : (job : Job) → IsNotOnVolumes job → get_or (word_of job) 0 0 ≢ 118
other_letter (OneStripe Check n m r e) other = omega arith
other_letter (OneStripe (Encode method) n m r e) other = omega arith
other_letter (OneStripe Restore n m r e) other = omega arith
other_letter (Volume job) other = absurd other
other_letter job other = omega arith

-- words that spell a job on volumes spell no other
volume_only : (words : List (List ℕ)) (job : VolumeJob) (other : Job) → IsNotOnVolumes other → SpellsVolume words job → Spells words other → ⊥
volume_only words job other apart one two =
    other_letter other apart (ap (λ word. get_or word 0 0) (sym (first_word words other two)) ∙ volume_begins words job one)

pub spells_once : (words : List (List ℕ)) (a b : Job) → Spells words a → Spells words b → a ≡ b
spells_once words (OneStripe a n m r e) (OneStripe b n' m' r' e') one two = one_stripe_once words a b n m r e n' m' r' e' one two
spells_once words Create Create one two = refl
spells_once words Show Show one two = refl
spells_once words (Read block count) (Read block' count') one two =
    let same = counted_once (codes "read" ∷ []) words block count block' count' one two in
    λ i. Read (same.0 i) (same.1 i)
spells_once words (Write block count) (Write block' count') one two =
    let same = counted_once (codes "write" ∷ []) words block count block' count' one two in
    λ i. Write (same.0 i) (same.1 i)
spells_once words Scrub Scrub one two = refl
spells_once words (Replace slot) (Replace slot') one two = ap Replace (slot_once (codes "replace" ∷ []) words slot slot' one two)
spells_once words Rebuild Rebuild one two = refl
spells_once words Freeze Freeze one two = refl
spells_once words Thaw Thaw one two = refl
spells_once words (Label text) (Label text') one two = ap Label (text_once (codes "label" ∷ []) words text text' one two)
spells_once words Run Run one two = refl
spells_once words (Exercise number count) (Exercise number' count') one two =
    let same = counted_once (codes "exercise" ∷ []) words number count number' count' one two in
    λ i. Exercise (same.0 i) (same.1 i)
spells_once words (Guard events fences) (Guard events' fences') one two =
    let same = counted_once (codes "guard" ∷ []) words events fences events' fences' one.counted two.counted in
    λ i. Guard (same.0 i) (same.1 i)
spells_once words Report Report one two = refl
spells_once words Serve Serve one two = refl
spells_once words (Volume a) (Volume b) one two = ap Volume (volume_once words a b one two)
spells_once words (Plan n m r e) (Plan n' m' r' e') one two =
    let same = geometry_once (codes "plan" ∷ []) words n m r e n' m' r' e' one two in
    λ i. Plan (same.0 i) (same.1 i) (same.2 i) (same.3 i)
spells_once words (Volume a) b one two = absurd (volume_only words a b tt one two)
spells_once words a (Volume b) one two = absurd (volume_only words b a tt two one)
spells_once words (OneStripe Check n m r e) b one two = absurd (no_other_job words (OneStripe Check n m r e) b one two refl)
spells_once words (OneStripe (Encode method) n m r e) b one two = absurd (no_other_job words (OneStripe (Encode method) n m r e) b one two refl)
spells_once words (OneStripe Restore n m r e) b one two = absurd (no_other_job words (OneStripe Restore n m r e) b one two refl)
spells_once words a (OneStripe Check n m r e) one two = absurd (no_other_job words a (OneStripe Check n m r e) one two refl)
spells_once words a (OneStripe (Encode method) n m r e) one two = absurd (no_other_job words a (OneStripe (Encode method) n m r e) one two refl)
spells_once words a (OneStripe Restore n m r e) one two = absurd (no_other_job words a (OneStripe Restore n m r e) one two refl)
spells_once words a b one two = absurd (no_other_job words a b one two refl)
