-- The counts of a rack that isn't honest.
use Rattle.std.proofs.Common.{◌≡◌, ℕ, ◌<◌, ◌^◌, true, List, length, sym, ap, ◌∙◌, subst}
use Rattle.std.specs.Prelude.{if◌then◌else◌, slice_index, vec_len}
use Rattle.std.proofs.lemmas.Bool.{cond-true}
use Rattle.std.proofs.lemmas.List.{get_or-set_same}
use Rattle.stair_rack.specs.Count.{Rose, one_more}
use Rattle.stair_rack.specs.RackCounts.{IsLaterCount, NoneFalls}
use Rattle.stair_memrack.specs.declared.record.Call.{Call}
use Rattle.stair_memrack.specs.declared.wild.WildRack.TheInside.{Inside}
use Rattle.stair_memrack.specs.Wild.{WildState}
use Rattle.stair_memrack.specs.WildSound.{IsSoundWild}
use Rattle.stair_memrack.specs.Record.{call_is_gone, call_is_bad}
use Rattle.stair_memrack.proofs.RecordLemmas.{gones_after, gones-fit, gones-count, gones-later, bads-fit, bads-later, one_more-rose}

module _ (call : Call) (j bads bads' : ℕ) (gones gones' : List ℕ) (bads_are : bads' ≡ (if call_is_bad call then one_more bads else bads))
    (gones_are : gones' ≡ gones_after (call_is_gone call) j gones) where
  pub wild_none_falls : bads < 2 ^ 64 → ((i : ℕ) → slice_index gones i < 2 ^ 64) → NoneFalls bads bads' (slice_index gones) (slice_index gones')
  wild_none_falls bads_fit gones_fit = record {
    bad = subst (IsLaterCount bads) (sym bads_are) (bads-later (call_is_bad call) bads bads_fit);
    gone = λ i. subst (λ xs. IsLaterCount (slice_index gones i) (slice_index xs i)) (sym gones_are) (gones-later (call_is_gone call) j gones gones_fit i);
  }

  pub wild_gone : j < length gones → ((i : ℕ) → slice_index gones i < 2 ^ 64) → call_is_gone call ≡ true → Rose (slice_index gones j) (slice_index gones' j)
  wild_gone within gones_fit gone =
      let it : slice_index gones' j ≡ one_more (slice_index gones j) =
      ap (λ xs. slice_index xs j) (gones_are ∙ cond-true (call_is_gone call) _ gones gone)
      ∙ get_or-set_same gones j (one_more (slice_index gones j)) 0 within in
      subst (Rose (slice_index gones j)) (sym it) (one_more-rose (slice_index gones j) (gones_fit j))

  pub wild_bad : bads < 2 ^ 64 → call_is_bad call ≡ true → Rose bads bads'
  wild_bad bads_fit bad =
      subst (Rose bads) (sym (bads_are ∙ cond-true (call_is_bad call) (one_more bads) bads bad)) (one_more-rose bads bads_fit)

module _ (call : Call) (j : ℕ) (r r' : Inside) (sound : IsSoundWild r) (bads_are : r'.bads ≡ (if call_is_bad call then one_more r.bads else r.bads))
    (gones_are : r'.gones.items ≡ gones_after (call_is_gone call) j r.gones.items) where
  pub IsSoundWild-counted : r'.next < vec_len r'.answers → IsSoundWild r'
  IsSoundWild-counted within = record {
    next_within = within;
    count = r'.gones.ok.0 ∙ ap length gones_are ∙ gones-count (call_is_gone call) j r.gones.items ∙ sym r.gones.ok.0 ∙ sound.count;
    bads_fit = subst (λ n. n < 2 ^ 64) (sym bads_are) (bads-fit (call_is_bad call) r.bads sound.bads_fit);
    gones_fit = λ i. subst (λ xs. slice_index xs i < 2 ^ 64) (sym gones_are) (gones-fit (call_is_gone call) j r.gones.items sound.gones_fit i);
  }

pub wild_view : (P : ℕ → List ℕ → Type 0) (r : Inside) (s : WildState) → record {
  inner = r.inner;
  answers = r.answers.items;
  next = r.next;
  bads = r.bads;
  gones = r.gones.items;
} ≡ s → P r.bads r.gones.items → P s.bads s.gones
wild_view P r s view holds = subst (λ (t : WildState). P t.bads t.gones) view holds
