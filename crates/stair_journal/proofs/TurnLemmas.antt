-- The calls in turn: a step more, a gate more, and a cell more.
use Rattle.std.proofs.Common.{◌≡◌, ℕ, zero, suc, ◌+◌, ◌*◌, ◌<◌, ◌↔◌, List, Option, None, Some, inl, inr, refl, sym, subst, ◌∙◌, arith}
use Rattle.std.specs.Prelude.{◌⊎◌, ◌≢◌}
use Rattle.std.specs.Option.{unwrap_or}
use Rattle.std.proofs.lemmas.Nat.{mul-add-lt}
use Rattle.stair_model.specs.CellSet.{HasCell}
use Rattle.stair_model.specs.Device.{body_sector}
use Rattle.stair_model.specs.Geometry.{Geometry}
use Rattle.stair_model.specs.Slots.{Slots, HasSlot}
use Rattle.stair_model.specs.Stripe.{Stripe, cell}
use Rattle.stair_rack.specs.History.{Happening}
use Rattle.stair_rack.specs.Reading.{EachBelow}
use Rattle.stair_journal.specs.GatesSteps.{IsReadOnce}
use Rattle.stair_journal.specs.Reads.{Asking, AsksCell, AsksFor, AsksRow, AsksUpTo, Given, IsUnreadUpTo, NotRedone, ReadOnce, ReadsGate, Redone, Skipped, Ungiven}
use Rattle.stair_journal.specs.declared.gates.Seen.{Seen}
use Rattle.stair_journal.specs.declared.gates.Seen.TheVariants.{Gone}
use Rattle.stair_journal.specs.declared.redo.Redo.{Redo}

-- STEPS

pub each_more : {S : Type 0} (step : ℕ → S → S → Type 0) (n : ℕ) (old mid new : S) → EachBelow step n old mid → step n mid new
    → EachBelow step (n + 1) old new
each_more step n old mid new before here =
    let next : suc n ≡ n + 1 = omega arith in
    let all : EachBelow step (suc n) old new = (mid, before, here) in
    subst (λ (k : ℕ). EachBelow step k old new) next all

pub each_mapped : {S : Type 0} (step more : ℕ → S → S → Type 0) (n : ℕ) (old new : S)
    → ((j : ℕ) (from to : S) → j < n → step j from to → more j from to) → EachBelow step n old new → EachBelow more n old new
each_mapped step more zero old new maps same = same
each_mapped step more (suc n) old new maps each = (
  each.0,
  each_mapped step more n old each.0 (λ j from to less. maps j from to (omega (arith, less))) each.1,
  maps n each.0 new (omega arith) each.2,
)

-- GATES

module _ (live gone gone' : Slots) (i : ℕ) (old now new : List Happening) (before : EachBelow (ReadsGate live gone) i old now) where
  pub gate_unread : ¬ HasSlot live i → EachBelow (ReadsGate live gone) (i + 1) old now
  gate_unread off = each_more (ReadsGate live gone) i old now now before (Skipped off refl)

  gate_same : ((j : ℕ) → j < i → HasSlot gone j ↔ HasSlot gone' j) → (j : ℕ) (from to : List Happening) → j < i → ReadsGate live gone j from to
      → ReadsGate live gone' j from to
  gate_same same j from to below (Skipped off none) = Skipped off none
  gate_same same j from to below (ReadOnce on answer is_gone called) =
      ReadOnce on answer (λ is. (same j below).0 (is_gone.0 is), λ has. is_gone.1 ((same j below).1 has)) called

  pub gate_read : ((j : ℕ) → j < i → HasSlot gone j ↔ HasSlot gone' j) → HasSlot live i → (seen : Seen) → ((seen ≡ Gone) ↔ HasSlot gone' i)
      → IsReadOnce i seen now new → EachBelow (ReadsGate live gone') (i + 1) old new
  gate_read same on seen noted once =
      each_more (ReadsGate live gone') i old now new
      (each_mapped (ReadsGate live gone) (ReadsGate live gone') i old now (gate_same same) before)
      (ReadOnce on once.answer (λ is. noted.0 (once.is_gone.0 is), λ has. once.is_gone.1 (noted.1 has)) once.called)

-- THE FIRST UNREAD SECTOR

-- a later sector is unread too, or none is
module _ (k later : ℕ) (before : k < later) where
  pub unread_not_on : (o o' : Option ℕ) → ((o' ≡ o) ⊎ (o' ≡ Some (unwrap_or o later))) → o ≢ Some k → o' ≢ Some k
  unread_not_on o o' (inl same) not is = not (sym same ∙ is)
  unread_not_on None o' (inr next) not is = let both : Some later ≡ Some k = sym next ∙ is in let same : later ≡ k = cc in omega (arith, same)
  unread_not_on (Some first) o' (inr next) not is = not (sym next ∙ is)

  pub unread_on : (o o' : Option ℕ) → ((o' ≡ o) ⊎ (o' ≡ Some (unwrap_or o later))) → IsUnreadUpTo k o → IsUnreadUpTo k o'
  unread_on o o' (inl same) is = subst (IsUnreadUpTo k) (sym same) is
  unread_on None o' (inr next) is = absurd is
  unread_on (Some first) o' (inr next) is = subst (IsUnreadUpTo k) (sym next) is

pub unread_here : (k : ℕ) (o : Option ℕ) → ((first : ℕ) → o ≡ Some first → first < k) → IsUnreadUpTo k (Some (unwrap_or o k))
unread_here k None below = omega arith
unread_here k (Some first) below = let less = below first refl in omega (arith, less)

-- CELLS

-- what was asked for stays so, where the cells that were are as they were
module _ (g : Geometry) (live : Slots) (redo : Redo) (unread unread' : Option ℕ) (was into into' : Stripe) (row chunk : ℕ)
    (next : (unread' ≡ unread) ⊎ (unread' ≡ Some (unwrap_or unread (body_sector g row chunk))))
    (stays : (i c : ℕ) → HasCell redo.cells i c → body_sector g i c < body_sector g row chunk → cell into' i c ≡ cell into i c) where
  for_on : (i c : ℕ) (old new : Asking) → HasCell redo.cells i c → body_sector g i c < body_sector g row chunk
      → AsksFor g live redo unread was into i c old new → AsksFor g live redo unread' was into' i c old new
  for_on i c old new has below (Given up not) =
      Given (subst (λ (bytes : List ℕ). AsksUpTo live (body_sector g i c) bytes old new) (sym (stays i c has below)) up)
      (unread_not_on (body_sector g i c) (body_sector g row chunk) below unread unread' next not)
  for_on i c old new has below (Ungiven all left is) =
      Ungiven all (stays i c has below ∙ left) (unread_on (body_sector g i c) (body_sector g row chunk) below unread unread' next is)

  cell_on : (i c : ℕ) (old new : Asking) → body_sector g i c < body_sector g row chunk → AsksCell g live redo unread was into i c old new
      → AsksCell g live redo unread' was into' i c old new
  cell_on i c old new below (NotRedone off same) = NotRedone off same
  cell_on i c old new below (Redone has asks) = Redone has (for_on i c old new has below asks)

  pub cells_on : (old new : Asking) → EachBelow (AsksCell g live redo unread was into row) chunk old new
      → EachBelow (AsksCell g live redo unread' was into' row) chunk old new
  cells_on old new =
      each_mapped (AsksCell g live redo unread was into row) (AsksCell g live redo unread' was into' row) chunk old new
      (λ c from to less. cell_on row c from to (omega (arith, less)))

  earlier : (i c : ℕ) → i < row → c < g.n → body_sector g i c < body_sector g row chunk
  earlier i c above c_in = let place : i * g.n + c < g.n * row = mul-add-lt i g.n c row above c_in in omega (arith, place)

  pub rows_on : (old new : Asking) → EachBelow (AsksRow g live redo unread was into) row old new
      → EachBelow (AsksRow g live redo unread' was into') row old new
  rows_on old new =
      each_mapped (AsksRow g live redo unread was into) (AsksRow g live redo unread' was into') row old new
      (λ i from to above.
      each_mapped (AsksCell g live redo unread was into i) (AsksCell g live redo unread' was into' i) g.n from to
      (λ c a b c_in. cell_on i c a b (earlier i c above c_in)))
