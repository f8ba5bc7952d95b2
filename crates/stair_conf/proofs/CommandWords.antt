-- What the word of a command says of the job that the words spell.
use Rattle.std.proofs.Common.{◌≡◌, ◌≢◌, ◌∙◌, ◌<◌, ◌≤◌, ◌==◌, ℕ, Bool, true, false, List, [], ◌∷◌, Err, length, map, drop, get_or, refl, sym, ap, subst, inr, arith}
use Rattle.std.specs.Prelude.{◌||◌, Result, codes}
use Rattle.std.specs.Result.{IsErrAnd}
use Rattle.std.specs.Str.{bytes_eq}
use Rattle.std.proofs.lemmas.Bool.{false≢true}
use Rattle.std.proofs.lemmas.Bool.Decides.{not_from_Decides}
use Rattle.std.proofs.lemmas.Result.{err_from_is_err_and}
use Rattle.std.proofs.lemmas.Slice.Eq.{bytes_eq-Decides}
use Rattle.stair_conf.specs.declared.fault.WordsFault.{WordsFault}
use Rattle.stair_conf.specs.declared.job.Job.{Job}
use Rattle.stair_conf.specs.declared.job.Job.TheVariants.{OneStripe, Read, Write, Replace, Label, Exercise, Guard, Volume, Plan}
use Rattle.stair_conf.specs.declared.job.StripeCommand.TheVariants.{Check, Encode, Restore}
use Rattle.stair_conf.specs.declared.job.Method.{Method}
use Rattle.stair_conf.specs.declared.job.VolumeJob.{VolumeJob}
use Rattle.stair_conf.specs.Commands.{HasNoOption}
use Rattle.stair_conf.specs.Words.{IsCommandLine, IsCommandWord, IsVolumeWord, Spells, SpellsCounted, SpellsGeometry, SpellsSlot, SpellsText, SpellsVolume, method_word}
use Rattle.stair_conf.proofs.VolumeLemmas.{volume_letter}
use Rattle.stair_conf.proofs.WordsLemmas.{behind, command_word, counted_once, first_word, word_of}

-- the fault that a `?` returns is the one that it met
pub same_fault : {T U : Type 0} (result : Result T WordsFault) (met fault : WordsFault) → IsErrAnd result (λ same. same ≡ met) → result ≡ Err fault
    → ◌≡◌ {A = Result U WordsFault} (Err met) (Err fault)
same_fault result met fault is is_fault =
    let returned = err_from_is_err_and result is in
    let end : result ≡ Err returned.0 = returned.1 in
    let same : returned.0 ≡ fault = cc in
    ap Err (sym returned.2 ∙ same)

-- ---- the first word, and the operands after it

-- the first text of a slice, and the others
pub opening : {A : Type 0} (f : A → List ℕ) (items : List A) (item : A) (text word : List ℕ) → 1 ≤ length items → item ≡ get_or items 0 item → text ≡ f item
    → text ≡ word → map f items ≡ word ∷ drop 1 (map f items)
opening f [] item text word some first is word_is = absurd (omega arith)
opening f (x ∷ xs) item text word some first is word_is = ap (λ w. w ∷ map f xs) (ap f (sym first) ∙ sym is ∙ word_is)

pub command_line : (words : List (List ℕ)) (job : Job) → words ≡ word_of job ∷ drop 1 words → HasNoOption words → IsCommandLine words
command_line words job opens plain = record {
  command = subst IsCommandWord (sym (ap (λ ws. get_or ws 0 []) opens)) (command_word job);
  no_option = plain;
}

pub volume_line : (words : List (List ℕ)) → IsVolumeWord (get_or words 0 []) → HasNoOption words → IsCommandLine words
volume_line words command plain = record {
  command = inr (inr (inr (inr (inr (inr (inr (inr (inr (inr (inr (inr (inr (inr (inr (inr (inr (inr (inr command))))))))))))))))));
  no_option = plain;
}

pub geometry_with : (word : List ℕ) (before words : List (List ℕ)) (n m r : ℕ) (e : List ℕ) → words ≡ word ∷ drop 1 words
    → SpellsGeometry before (drop 1 words) n m r e → SpellsGeometry (word ∷ before) words n m r e
geometry_with word before words n m r e opens spells = record {
  spelled = opens ∙ ap (λ ws. word ∷ ws) spells.spelled;
  some_e = spells.some_e;
  n_fits = spells.n_fits;
  m_fits = spells.m_fits;
  r_fits = spells.r_fits;
  e_fit = spells.e_fit;
}

pub counted_with : (word : List ℕ) (words : List (List ℕ)) (number count : ℕ) → words ≡ word ∷ drop 1 words
    → SpellsCounted [] (drop 1 words) number count → SpellsCounted (word ∷ []) words number count
counted_with word words number count opens spells = record {
  spelled = opens ∙ ap (λ ws. word ∷ ws) spells.spelled;
  number_fits = spells.number_fits;
  count_fits = spells.count_fits;
}

counted_after : (word : List ℕ) (words : List (List ℕ)) (number count : ℕ) → SpellsCounted (word ∷ []) words number count
    → SpellsCounted [] (drop 1 words) number count
counted_after word words number count spells = record {
  spelled = ap (drop 1) spells.spelled;
  number_fits = spells.number_fits;
  count_fits = spells.count_fits;
}

pub slot_with : (word : List ℕ) (words : List (List ℕ)) (slot : ℕ) → words ≡ word ∷ drop 1 words → SpellsSlot [] (drop 1 words) slot
    → SpellsSlot (word ∷ []) words slot
slot_with word words slot opens spells = record { spelled = opens ∙ ap (λ ws. word ∷ ws) spells.spelled; fits = spells.fits }

pub text_with : (word : List ℕ) (words : List (List ℕ)) (text : List ℕ) → words ≡ word ∷ drop 1 words → SpellsText [] (drop 1 words) text
    → SpellsText (word ∷ []) words text
text_with word words text opens spells = record {
  spelled = opens ∙ ap (λ ws. word ∷ ws) spells.spelled;
  is_text = spells.is_text;
  plain = spells.plain;
}

-- ---- words that begin with a command's word spell no job of another command

-- the first word, which is also this one
pub one_first : (word other : List ℕ) (words : List (List ℕ)) → words ≡ word ∷ drop 1 words → get_or words 0 [] ≡ other → word ≡ other
one_first word other words opens first = sym (ap (λ ws. get_or ws 0 []) opens) ∙ first

-- false where the word isn't the job's
abbrev may_open : List ℕ → Job → Bool
may_open word (OneStripe command n m r e) = bytes_eq word (codes "check") || (bytes_eq word (codes "stripe") || bytes_eq word (codes "restore"))
may_open word (Volume job) = get_or word 0 0 == 118
may_open word job = bytes_eq word (word_of job)

own_word : (job : Job) → may_open (word_of job) job ≡ true
own_word (OneStripe Check n m r e) = refl
own_word (OneStripe (Encode method) n m r e) = refl
own_word (OneStripe Restore n m r e) = refl
own_word (Volume job) = ap (λ letter. letter == 118) (volume_letter job)
own_word job = refl

other_job : (word : List ℕ) (words : List (List ℕ)) (job : Job) → words ≡ word ∷ drop 1 words → Spells words job → may_open word job ≡ false → ⊥
other_job word words job opens spells differ =
    let same = one_first word (word_of job) words opens (first_word words job spells) in
    false≢true (sym differ ∙ ap (λ w. may_open w job) same ∙ own_word job)

-- two words, of which each is the first
pub two_words : (a b : List ℕ) (words : List (List ℕ)) → words ≡ a ∷ drop 1 words → get_or words 0 [] ≡ b → bytes_eq a b ≡ false → ⊥
two_words a b words opens first differ = not_from_Decides (bytes_eq a b) (bytes_eq-Decides a b) differ (one_first a b words opens first)

-- ---- where a command's operands are refused the words spell no job

-- the words aren't these, and then those of a geometry
abbrev pub NoGeometry : List (List ℕ) → List (List ℕ) → Type 0
NoGeometry before words = (n m r : ℕ) (e : List ℕ) → SpellsGeometry before words n m r e → ⊥

pub no_check : (words : List (List ℕ)) (job : Job) → words ≡ codes "check" ∷ drop 1 words → NoGeometry [] (drop 1 words) → Spells words job → ⊥
no_check words (OneStripe Check n m r e) opens none spells = none n m r e (behind (codes "check") [] words n m r e spells)
no_check words (OneStripe (Encode method) n m r e) opens none spells =
    two_words (codes "check") (codes "stripe") words opens (ap (λ ws. get_or ws 0 []) spells.spelled) refl
no_check words (OneStripe Restore n m r e) opens none spells =
    two_words (codes "check") (codes "restore") words opens (ap (λ ws. get_or ws 0 []) spells.spelled) refl
no_check words job opens none spells = other_job (codes "check") words job opens spells refl

pub no_stripe : (words : List (List ℕ)) (job : Job) → words ≡ codes "stripe" ∷ drop 1 words
    → ((method : Method) → NoGeometry (method_word method ∷ []) (drop 1 words)) → Spells words job → ⊥
no_stripe words (OneStripe Check n m r e) opens none spells =
    two_words (codes "stripe") (codes "check") words opens (ap (λ ws. get_or ws 0 []) spells.spelled) refl
no_stripe words (OneStripe (Encode method) n m r e) opens none spells =
    none method n m r e (behind (codes "stripe") (method_word method ∷ []) words n m r e spells)
no_stripe words (OneStripe Restore n m r e) opens none spells =
    two_words (codes "stripe") (codes "restore") words opens (ap (λ ws. get_or ws 0 []) spells.spelled) refl
no_stripe words job opens none spells = other_job (codes "stripe") words job opens spells refl

pub no_restore : (words : List (List ℕ)) (job : Job) → words ≡ codes "restore" ∷ drop 1 words → NoGeometry [] (drop 1 words) → Spells words job → ⊥
no_restore words (OneStripe Check n m r e) opens none spells =
    two_words (codes "restore") (codes "check") words opens (ap (λ ws. get_or ws 0 []) spells.spelled) refl
no_restore words (OneStripe (Encode method) n m r e) opens none spells =
    two_words (codes "restore") (codes "stripe") words opens (ap (λ ws. get_or ws 0 []) spells.spelled) refl
no_restore words (OneStripe Restore n m r e) opens none spells = none n m r e (behind (codes "restore") [] words n m r e spells)
no_restore words job opens none spells = other_job (codes "restore") words job opens spells refl

pub no_plan : (words : List (List ℕ)) (job : Job) → words ≡ codes "plan" ∷ drop 1 words → NoGeometry [] (drop 1 words) → Spells words job → ⊥
no_plan words (Plan n m r e) opens none spells = none n m r e (behind (codes "plan") [] words n m r e spells)
no_plan words job opens none spells = other_job (codes "plan") words job opens spells refl

-- the words aren't two numbers
abbrev pub NoCounted : List (List ℕ) → Type 0
NoCounted words = (number count : ℕ) → SpellsCounted [] words number count → ⊥

pub no_read : (words : List (List ℕ)) (job : Job) → words ≡ codes "read" ∷ drop 1 words → NoCounted (drop 1 words) → Spells words job → ⊥
no_read words (Read block count) opens none spells = none block count (counted_after (codes "read") words block count spells)
no_read words job opens none spells = other_job (codes "read") words job opens spells refl

pub no_write : (words : List (List ℕ)) (job : Job) → words ≡ codes "write" ∷ drop 1 words → NoCounted (drop 1 words) → Spells words job → ⊥
no_write words (Write block count) opens none spells = none block count (counted_after (codes "write") words block count spells)
no_write words job opens none spells = other_job (codes "write") words job opens spells refl

pub no_exercise : (words : List (List ℕ)) (job : Job) → words ≡ codes "exercise" ∷ drop 1 words → NoCounted (drop 1 words) → Spells words job → ⊥
no_exercise words (Exercise number count) opens none spells = none number count (counted_after (codes "exercise") words number count spells)
no_exercise words job opens none spells = other_job (codes "exercise") words job opens spells refl

pub no_guard : (words : List (List ℕ)) (job : Job) → words ≡ codes "guard" ∷ drop 1 words
    → ((events fences : ℕ) → SpellsCounted [] (drop 1 words) events fences → 0 < events → 0 < fences → ⊥) → Spells words job → ⊥
no_guard words (Guard events fences) opens none spells =
    none events fences (counted_after (codes "guard") words events fences spells.counted) spells.some_events spells.some_fences
no_guard words job opens none spells = other_job (codes "guard") words job opens spells refl

-- two numbers after `guard` are limits of a watcher only where each is at least 1
pub limits_refused : (words : List (List ℕ)) (number count : ℕ) (job : Job) → words ≡ codes "guard" ∷ drop 1 words
    → SpellsCounted [] (drop 1 words) number count → (0 < number → 0 < count → ⊥) → Spells words job → ⊥
limits_refused words number count job opens counted refused spells =
    no_guard words job opens (λ events fences other some_events some_fences.
    let same = counted_once [] (drop 1 words) number count events fences counted other in
    refused (rw same.0 some_events) (rw same.1 some_fences)) spells

pub no_replace : (words : List (List ℕ)) (job : Job) → words ≡ codes "replace" ∷ drop 1 words
    → ((slot : ℕ) → SpellsSlot [] (drop 1 words) slot → ⊥) → Spells words job → ⊥
no_replace words (Replace slot) opens none spells = none slot record { spelled = ap (drop 1) spells.spelled; fits = spells.fits }
no_replace words job opens none spells = other_job (codes "replace") words job opens spells refl

pub no_label : (words : List (List ℕ)) (job : Job) → words ≡ codes "label" ∷ drop 1 words
    → ((text : List ℕ) → SpellsText [] (drop 1 words) text → ⊥) → Spells words job → ⊥
no_label words (Label text) opens none spells =
    none text record { spelled = ap (drop 1) spells.spelled; is_text = spells.is_text; plain = spells.plain }
no_label words job opens none spells = other_job (codes "label") words job opens spells refl

-- ---- other words

-- the word of no command with operands, apart from those on volumes
pub record IsOther (word : List ℕ) : Type 0 where
  pub check : word ≢ codes "check"
  pub stripe : word ≢ codes "stripe"
  pub restore : word ≢ codes "restore"
  pub read : word ≢ codes "read"
  pub write : word ≢ codes "write"
  pub replace : word ≢ codes "replace"
  pub label : word ≢ codes "label"
  pub exercise : word ≢ codes "exercise"
  pub guard : word ≢ codes "guard"
  pub plan : word ≢ codes "plan"

pub no_other : (word : List ℕ) (words : List (List ℕ)) (total : ℕ) (job : Job) → words ≡ word ∷ drop 1 words → length words ≡ total → IsOther word
    → (total ≡ 1 → (job : Job) → Spells words job → ⊥) → ((job : VolumeJob) → SpellsVolume words job → total ≡ 1) → Spells words job → ⊥
no_other word words total (OneStripe Check n m r e) opens counts other lone volumes spells = other.check (one_first word _ words opens (ap (λ ws. get_or ws 0 []) spells.spelled))
no_other word words total (OneStripe (Encode method) n m r e) opens counts other lone volumes spells = other.stripe (one_first word _ words opens (ap (λ ws. get_or ws 0 []) spells.spelled))
no_other word words total (OneStripe Restore n m r e) opens counts other lone volumes spells = other.restore (one_first word _ words opens (ap (λ ws. get_or ws 0 []) spells.spelled))
no_other word words total (Read block count) opens counts other lone volumes spells = other.read (one_first word _ words opens (ap (λ ws. get_or ws 0 []) spells.spelled))
no_other word words total (Write block count) opens counts other lone volumes spells = other.write (one_first word _ words opens (ap (λ ws. get_or ws 0 []) spells.spelled))
no_other word words total (Replace slot) opens counts other lone volumes spells = other.replace (one_first word _ words opens (ap (λ ws. get_or ws 0 []) spells.spelled))
no_other word words total (Label text) opens counts other lone volumes spells = other.label (one_first word _ words opens (ap (λ ws. get_or ws 0 []) spells.spelled))
no_other word words total (Exercise number count) opens counts other lone volumes spells = other.exercise (one_first word _ words opens (ap (λ ws. get_or ws 0 []) spells.spelled))
no_other word words total (Guard events fences) opens counts other lone volumes spells = other.guard (one_first word _ words opens (ap (λ ws. get_or ws 0 []) spells.counted.spelled))
no_other word words total (Volume job) opens counts other lone volumes spells = lone (volumes job spells) (Volume job) spells
no_other word words total (Plan n m r e) opens counts other lone volumes spells = other.plan (one_first word _ words opens (ap (λ ws. get_or ws 0 []) spells.spelled))
no_other word words total job opens counts other lone volumes spells = lone (sym counts ∙ ap length spells) job spells
