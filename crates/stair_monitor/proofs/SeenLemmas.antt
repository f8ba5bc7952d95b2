-- What was seen of some events, and of one more.
use Rattle.std.proofs.Common.{◌≡◌, ◌∙◌, ℕ, suc, ◌+◌, ◌<◌, ◌≤◌, ◌==◌, ◌^◌, List, [], ◌∷◌, ◌++◌, inl, inr, length, refl, sym, ap, subst, arith, lit<, append_assoc, length-append}
use Rattle.std.specs.Prelude.{Bool, true, false, replicate, slice_index, slice_set, if◌then◌else◌}
use Rattle.std.specs.Fmt.{decimal}
use Rattle.std.proofs.lemmas.Bool.{cond-true, cond-false, eq-eqb}
use Rattle.std.proofs.lemmas.Bool.Decides.{eqb_tells}
use Rattle.std.proofs.lemmas.Fmt.{length-decimal-le}
use Rattle.std.proofs.lemmas.List.{get_or-set_other, get_or-set_same, length-set, get_or-replicate}
use Rattle.stair_rack.specs.Watching.{count_of, is_kind, kind_of}
use Rattle.stair_rack.specs.declared.watcher.Counts.{Counts}
use Rattle.stair_rack.specs.declared.watcher.Event.{Event}
use Rattle.stair_rack.specs.declared.watcher.Event.TheVariants as event
use Rattle.stair_rack.specs.declared.watcher.EventKind.{EventKind}
use Rattle.stair_rack.specs.declared.watcher.EventKind.TheVariants.{Fenced, Repaired, Admitted, Promoted}
use Rattle.stair_watch.specs.Watchers.{count_in, no_counts}
use Rattle.stair_monitor.specs.Reports.{counts_line, fences_of, report_text, slot_line, slot_lines}
use Rattle.stair_monitor.specs.Seen.{CountsOf, IsFew, Tells}
use Rattle.stair_monitor.specs.declared.reporting.Seen.{Seen}

-- ---- no count is greater than the number of events

if_more : (b : Bool) (n m : ℕ) → n ≤ m → (if b then n + 1 else n) ≤ m + 1
if_more true n m few = omega (arith, few)
if_more false n m few = omega (arith, few)

count_few : (kind : EventKind) (events : List Event) → count_of kind events ≤ length events
count_few kind [] = omega arith
count_few kind (one ∷ events) =
    omega (arith, if_more (is_kind kind (kind_of one)) (count_of kind events) (length events) (count_few kind events))

fences_few : (slot : ℕ) (events : List Event) → fences_of slot events ≤ length events
fences_few slot [] = omega arith
fences_few slot (event.Fenced other ∷ events) =
    omega (arith, if_more (other == slot) (fences_of slot events) (length events) (fences_few slot events))
fences_few slot (event.Repaired stripe cells ∷ events) = omega (arith, fences_few slot events)
fences_few slot (event.Admitted other ∷ events) = omega (arith, fences_few slot events)
fences_few slot (event.Promoted other ∷ events) = omega (arith, fences_few slot events)

few_of : (seen : Seen) (kind : EventKind) → IsFew seen → count_in seen.counts kind < 2 ^ 31
few_of seen kind is = omega (arith, is.tells.counts kind, count_few kind is.events, is.few)

pub few_counts : (seen : Seen) → IsFew seen
    → (seen.counts.fenced < 2 ^ 31) × (seen.counts.repaired < 2 ^ 31) × (seen.counts.admitted < 2 ^ 31) × (seen.counts.promoted < 2 ^ 31)
few_counts seen is = (few_of seen Fenced is, few_of seen Repaired is, few_of seen Admitted is, few_of seen Promoted is)

pub few_fences : (seen : Seen) (slot : ℕ) → slot < 32 → IsFew seen → slice_index seen.fences slot < 2 ^ 31
few_fences seen slot within is = omega (arith, is.tells.fences slot within, fences_few slot is.events, is.few)

-- ---- one event more

module _ (events : List Event) (counts : Counts) (are : CountsOf events counts) where
  fenced_more : (slot : ℕ) → CountsOf (event.Fenced slot ∷ events) (record counts { fenced = counts.fenced + 1 })
  fenced_more slot Fenced = ap (λ n. n + 1) (are Fenced)
  fenced_more slot Repaired = are Repaired
  fenced_more slot Admitted = are Admitted
  fenced_more slot Promoted = are Promoted

  repaired_more : (stripe cells : ℕ) → CountsOf (event.Repaired stripe cells ∷ events) (record counts { repaired = counts.repaired + 1 })
  repaired_more stripe cells Fenced = are Fenced
  repaired_more stripe cells Repaired = ap (λ n. n + 1) (are Repaired)
  repaired_more stripe cells Admitted = are Admitted
  repaired_more stripe cells Promoted = are Promoted

  admitted_more : (slot : ℕ) → CountsOf (event.Admitted slot ∷ events) (record counts { admitted = counts.admitted + 1 })
  admitted_more slot Fenced = are Fenced
  admitted_more slot Repaired = are Repaired
  admitted_more slot Admitted = ap (λ n. n + 1) (are Admitted)
  admitted_more slot Promoted = are Promoted

  promoted_more : (slot : ℕ) → CountsOf (event.Promoted slot ∷ events) (record counts { promoted = counts.promoted + 1 })
  promoted_more slot Fenced = are Fenced
  promoted_more slot Repaired = are Repaired
  promoted_more slot Admitted = are Admitted
  promoted_more slot Promoted = ap (λ n. n + 1) (are Promoted)

fences_more : (events : List Event) (fences : List ℕ) (slot : ℕ) → slot < length fences
    → ((other : ℕ) → other < 32 → slice_index fences other ≡ fences_of other events) → slot < 32
    → (other : ℕ) → other < 32 → slice_index (slice_set fences slot (slice_index fences slot + 1)) other ≡ fences_of other (event.Fenced slot ∷ events)
fences_more events fences slot here are within other below =
    elim (eqb_tells slot other) [
      | inl is ↦
          subst (λ (k : ℕ). slice_index (slice_set fences slot (slice_index fences slot + 1)) k ≡ fences_of k (event.Fenced slot ∷ events)) is.1
          (get_or-set_same fences slot (slice_index fences slot + 1) 0 here
          ∙ ap (λ n. n + 1) (are slot within)
          ∙ sym (cond-true (slot == slot) (fences_of slot events + 1) (fences_of slot events) (eq-eqb slot slot refl)))
      | inr not ↦
          get_or-set_other fences slot other (slice_index fences slot + 1) 0 (λ same. not.1 (sym same))
          ∙ are other below
          ∙ sym (cond-false (slot == other) (fences_of other events + 1) (fences_of other events) not.0)
    ]

module _ (events : List Event) (seen : Seen) (tells : Tells events seen) where
  pub tells_fenced : (slot : ℕ) → slot < 32
      → Tells (event.Fenced slot ∷ events) (record seen {
        counts = record seen.counts { fenced = seen.counts.fenced + 1 };
        fences = slice_set seen.fences slot (slice_index seen.fences slot + 1);
      })
  tells_fenced slot within = record {
    counts = fenced_more events seen.counts tells.counts slot;
    fences = fences_more events seen.fences slot (omega (arith, tells.slots, within)) tells.fences within;
    slots = length-set seen.fences slot (slice_index seen.fences slot + 1) ∙ tells.slots;
  }

  pub tells_repaired : (stripe cells : ℕ)
      → Tells (event.Repaired stripe cells ∷ events) (record seen { counts = record seen.counts { repaired = seen.counts.repaired + 1 } })
  tells_repaired stripe cells = record {
    counts = repaired_more events seen.counts tells.counts stripe cells;
    fences = tells.fences;
    slots = tells.slots;
  }

  pub tells_admitted : (slot : ℕ) → Tells (event.Admitted slot ∷ events) (record seen { counts = record seen.counts { admitted = seen.counts.admitted + 1 } })
  tells_admitted slot = record {
    counts = admitted_more events seen.counts tells.counts slot;
    fences = tells.fences;
    slots = tells.slots;
  }

  pub tells_promoted : (slot : ℕ) → Tells (event.Promoted slot ∷ events) (record seen { counts = record seen.counts { promoted = seen.counts.promoted + 1 } })
  tells_promoted slot = record {
    counts = promoted_more events seen.counts tells.counts slot;
    fences = tells.fences;
    slots = tells.slots;
  }

-- ---- none

no_events : CountsOf [] no_counts
no_events Fenced = refl
no_events Repaired = refl
no_events Admitted = refl
no_events Promoted = refl

pub tells_none : Tells [] (record { counts = no_counts; fences = replicate 32 0 })
tells_none = record {
  counts = no_events;
  fences = λ slot within. get_or-replicate 32 slot 0 0 within;
  slots = refl;
}

-- ---- what is put out

-- a name and a number of few digits were pushed
pub named_length : (old name new : List ℕ) (n k : ℕ) → new ≡ old ++ (name ++ decimal n) → length (decimal n) ≤ k
    → length new ≤ length old + length name + k
named_length old name new n k same short =
    omega (arith, ap length same, length-append old (name ++ decimal n), length-append name (decimal n), short)

pub slot_short : (slot n : ℕ) → n ≡ slot → slot < 32 → length (decimal n) ≤ 2
slot_short slot n same few = length-decimal-le 2 n (lit< tt) (omega arith) (omega arith)

pub fences_short : (fences n : ℕ) → n ≡ fences → fences < 2 ^ 32 → length (decimal n) ≤ 10
fences_short fences n same few = length-decimal-le 10 n (lit< tt) (omega arith) (omega arith)

-- the line of one slot more
pub slots_more : (events : List Event) (seen : Seen) (slot at : ℕ) (text longer : List ℕ) → Tells events seen → slot < 32 → at ≡ slot
    → text ≡ counts_line events ++ slot_lines events slot → longer ≡ text ++ slot_line slot (slice_index seen.fences at)
    → longer ≡ counts_line events ++ slot_lines events (slot + 1)
slots_more events seen slot at text longer tells within same is more =
    let next : slot + 1 ≡ suc slot = omega arith in
    more
    ∙ ap (λ (front : List ℕ). front ++ slot_line slot (slice_index seen.fences at)) is
    ∙ append_assoc (counts_line events) (slot_lines events slot) (slot_line slot (slice_index seen.fences at))
    ∙ ap (λ (k : ℕ). counts_line events ++ (slot_lines events slot ++ slot_line slot (slice_index seen.fences k))) same
    ∙ ap (λ (fences : ℕ). counts_line events ++ (slot_lines events slot ++ slot_line slot fences)) (tells.fences slot within)
    ∙ ap (λ (k : ℕ). counts_line events ++ slot_lines events k) (sym next)

-- those of all slots
pub slots_all : (events : List Event) (slot : ℕ) (text : List ℕ) → slot ≡ 32 → text ≡ counts_line events ++ slot_lines events slot
    → text ≡ report_text events
slots_all events slot text all is = is ∙ ap (λ (k : ℕ). counts_line events ++ slot_lines events k) all
