-- A sync of one slot is a pass over the set that has this one alone.
use Rattle.std.proofs.Common.{List, [], ap, arith, inl, inr, refl, subst, suc, sym, true, zero, ℕ, ◌++◌, ◌<◌, ◌∙◌, ◌∷◌, ◌≡◌, ◌≤◌}
use Rattle.std.specs.Prelude.{Bool, false, not, ◌==◌}
use Rattle.std.proofs.lemmas.Bool.{cases_eq, cond-false, cond-true, eq-eqb, ne_eqb, true≢false}
use Rattle.stair_model.specs.Slots.{HasSlot, Slots, has_slot, no_slots}
use Rattle.stair_model.proofs.SetLaws.{has_slot-none}
use Rattle.stair_rack.specs.Answers.{Calls, reply_if}
use Rattle.stair_rack.specs.History.{Happening, Sync}
use Rattle.stair_rack.specs.Passes.{InTurn, IsDone, Settled, Turns, slots_below}
use Rattle.stair_rack.specs.declared.rack.Reply.TheVariants as reply
use Rattle.stair_rack.proofs.PassLemmas.{Settled-from_turns}
use Rattle.stair_member.proofs.CountingLemmas.{slot_in_range, slots_by, slots_by-at, slots_by-formed}

module _ (j : ℕ) (small : j < 32) where
  abbrev pub alone : Slots
  alone = slots_by (λ i. i == j)

  none : (i : ℕ) → ¬ HasSlot no_slots i
  none i has = absurd (true≢false (sym has ∙ has_slot-none i))

  pub is_done : IsDone alone no_slots j
  is_done = (slots_by-at (λ i. i == j) j small ∙ eq-eqb j j refl, none j)

  before_it : (n : ℕ) → n ≤ j → slots_below alone n ≡ []
  unfolding slots_below
  before_it zero most = refl
  before_it (suc n) most =
      let below : n < 32 = omega (arith, most, small) in
      let other : has_slot alone n ≡ false = slots_by-at (λ i. i == j) n below ∙ ne_eqb n j (λ same. omega (arith, same, most)) in
      cond-false (has_slot alone n) (slots_below alone n ++ n ∷ []) (slots_below alone n) other ∙ before_it n (omega (arith, most))

  past_it : (n : ℕ) → j < n → n ≤ 32 → slots_below alone n ≡ j ∷ []
  unfolding slots_below
  past_it zero past most = absurd (omega (arith, past))
  past_it (suc n) past most =
      elim (cases_eq n j) [
        | inl same ↦
            let has : has_slot alone n ≡ true = slots_by-at (λ i. i == j) n (omega (arith, most)) ∙ eq-eqb n j same in
            cond-true (has_slot alone n) (slots_below alone n ++ n ∷ []) (slots_below alone n) has
            ∙ ap (λ (l : List ℕ). l ++ n ∷ []) (before_it n (omega (arith, same))) ∙ ap (λ (i : ℕ). i ∷ []) same
        | inr other ↦
            let out : has_slot alone n ≡ false = slots_by-at (λ i. i == j) n (omega (arith, most)) ∙ ne_eqb n j other in
            cond-false (has_slot alone n) (slots_below alone n ++ n ∷ []) (slots_below alone n) out
            ∙ past_it n (omega (arith, past, other)) (omega (arith, most))
      ]

  turns : (old new : List Happening) → Calls old new j (Sync reply.Done) → Turns Sync alone no_slots 32 old new
  turns old new called = record {
    in_turn =
        subst (λ (l : List ℕ). InTurn Sync no_slots l old new) (sym (past_it 32 small (omega arith))) (
          new,
          subst (λ (b : Bool). Calls old new j (Sync (reply_if (not b)))) (sym (has_slot-none j)) called,
          refl,
        );
  }

  pub synced_alone : (old new : List Happening) → Calls old new j (Sync reply.Done) → Settled alone no_slots old new
  synced_alone old new called =
      Settled-from_turns alone no_slots (λ i has. absurd (none i has))
      (λ i has. slot_in_range alone i (slots_by-formed (λ k. k == j)) has) old new (turns old new called)
