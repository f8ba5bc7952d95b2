-- Between the calls of an open array each holder is at rest, wherever it lies, and so is each live slot in use.
use Rattle.std.proofs.Common.{◌≡◌, ℕ, ◌<◌, ◌≤◌, List, [], ◌⊎◌, inl, inr, refl, sym, ap, ◌∙◌, subst, arith, true, false, Bool, Option, None, Some, ◌==◌}
use Rattle.std.specs.Prelude.{◌||◌}
use Rattle.std.proofs.lemmas.Bool.{cases_eq, eq-eqb, false≢true, ne_eqb}
use Rattle.stair_model.specs.Device.{cell_sector, gate_sector}
use Rattle.stair_model.specs.Geometry.{Geometry}
use Rattle.stair_model.specs.Slots.{HasSlot, Slots}
use Rattle.stair_model.specs.Stripe.{cell}
use Rattle.stair_rack.specs.Answers.{IsHistory}
use Rattle.stair_rack.specs.Crash.{CrashMayLeave, SlotMayLeave, image_now}
use Rattle.stair_rack.specs.History.{Happening, slot_state}
use Rattle.stair_rack.specs.Media.{Image, Medium, SlotImage, has_sector}
use Rattle.stair_rack.specs.Offline.{IsAttached}
use Rattle.stair_rack.specs.Placed.{IsSlot}
use Rattle.stair_rack.specs.Sector.{Cell, Damaged, Leaves, MayLeave}
use Rattle.stair_rack.proofs.CrashLemmas.{CrashMayLeave-now, settled_left}
use Rattle.stair_rack.proofs.TidyLemmas.{history_tidy}
use Rattle.stair_super.specs.Superblock.{joined_in, mark_in}
use Rattle.stair_super.specs.declared.configuration.Configuration.{Configuration}
use Rattle.stair_super.specs.declared.mark.Mark.TheVariants as mark
use Rattle.stair_member.specs.Aims.{admitted}
use Rattle.stair_member.specs.Current.{IsLost}
use Rattle.stair_member.specs.Membership.{why_of}
use Rattle.stair_member.specs.Seats.{Seats}
use Rattle.stair_member.specs.declared.aim.EpochChange.{EpochChange}
use Rattle.stair_member.proofs.CountingLemmas.{slot_in_range, slots_by, slots_by-at, slots_by-formed}
use Rattle.stair_member.proofs.EditionLemmas.{bears_below}
use Rattle.stair_journal.specs.Body.{IsOrDamaged}
use Rattle.stair_journal.specs.Gate.{ReadsClosed}
use Rattle.stair_journal.specs.declared.redo.Redo.{Redo}
use Rattle.stair_state.specs.Blocks.{AreEncodingsOf, Codewords}
use Rattle.stair_state.specs.Degraded.{AreDamagedCopies}
use Rattle.stair_state.specs.Forms.{HasForm, HasGate, IdleOld, IsCommitted, IsOpen, RepresentsBy, CommittedOld, CommittedNew, IdleNew, Uncommitted}
use Rattle.stair_state.specs.Holding.{IsConsistentBy, IsCurrentMedium}
use Rattle.stair_state.specs.Reassembly.{Empty, InSlot, IsMediumOf, IsReassembledSlot, IsReassembly, Location, OneOf}
use Rattle.stair_state.specs.Redoing.{AtRest, IsIn}
use Rattle.stair_state.specs.Represents.{IsLargeEnough}
use Rattle.stair_state.specs.State.{Change, Content, State, new_content}
use Rattle.stair_state.specs.Tolerance.{IsTolerated, IsToleratedAlone}
use Rattle.stair_state.proofs.BlockLemmas.{unique}
use Rattle.stair_state.proofs.ExchangedLemmas.{slot_cases, slot_here, slot_there, with_slot}
use Rattle.stair_state.proofs.FormLemmas.{good_whole, or_damaged_still}
use Rattle.stair_state.proofs.HoldingLemmas.{current_since, live_current_medium}
use Rattle.stair_state.proofs.OutsideLemmas.{tolerated_alone}
use Rattle.stair_state.proofs.ReassembledLemmas.{IsBorneFrom, borne_of, from_slot}
use Rattle.stair_state.proofs.ToleranceLemmas.{journal_gate}
use Rattle.stair_invariant.specs.Returning.{KnowsMedia, current_media_of}
use Rattle.stair_invariant.specs.Session.{ArrayState, IsLiveIn, IsOpenWith, ServesSlot}
use Rattle.stair_invariant.proofs.MidwayLemmas.{rebuilding_why}
use Rattle.stair_reinsert.specs.Beginning.{AreCurrentMediaClosed}
use Rattle.stair_reinsert.specs.Behind.{Bearing, ByMedium, ByMember, HasCurrentMedium, HasNumber, InUse, IsKnownBehind, IsRebuiltAs}
use Rattle.stair_reinsert.proofs.StoodSince.{held_here}
use Rattle.stair_reinsert.proofs.WhereverLemmas.{kept_left}

-- an image that a crash may leave is a reassembly of itself
pub left_reassembled : (h : List Happening) → IsHistory h → (image : Image) → CrashMayLeave h image → IsReassembly image image
left_reassembled h history image left j = sized (image j).size refl
  where
    past : (k : ℕ) → has_sector (image j).size k ≡ false → (image j).cell k ≡ Damaged
    past k none =
        settled_left Damaged ((image j).cell k)
        (subst (λ t. MayLeave t ((image j).cell k))
        ((history_tidy history).past_end j k (ap (λ (o : Option ℕ). has_sector o k) (sym (left j).size) ∙ none)) ((left j).each k))

    sized : (o : Option ℕ) → (image j).size ≡ o → IsReassembledSlot (image j) (image j)
    sized (Some n) is = OneOf InSlot (record { size = n; cell = (image j).cell }) (is, refl) is (λ k. inl refl) past
    sized None is = Empty is (λ k. past k (ap (λ (o : Option ℕ). has_sector o k) is))

-- what reads closed does so once it is damaged
pub closed_still : (g : Geometry) (was is : Cell) → (is ≡ was) ⊎ (is ≡ Damaged) → ReadsClosed g was → ReadsClosed g is
closed_still g was is (inl same) closed = subst (λ (c : Cell). ReadsClosed g c) (sym same) closed
closed_still g was is (inr harmed) closed = λ redo opened. good_whole opened.good harmed

neither : (a b : Bool) → a ≡ false → b ≡ false → (a || b) ≡ false
neither false false first second = refl
neither true b first second = absurd (false≢true (sym first))
neither false true first second = absurd (false≢true (sym second))

the_first : (a b : Bool) → a ≡ true → (a || b) ≡ true
the_first true b is = refl
the_first false b is = absurd (false≢true is)

the_second : (a b : Bool) → b ≡ true → (a || b) ≡ true
the_second true b is = refl
the_second false true is = refl
the_second false false is = absurd (false≢true is)

-- A slot with these cells holds the stripes, and its gate reads closed.
pub record IsAtRest (g : Geometry) (words : Codewords) (j : ℕ) (cells : ℕ → Cell) : Type 0 where
  pub gate : ReadsClosed g (cells gate_sector)
  pub chunk : (t i : ℕ) → t < g.stripes → i < g.r → IsOrDamaged (cell (words t) i j) (cells (cell_sector g t i))

-- so it is once it is damaged
pub rest_still : (g : Geometry) (words : Codewords) (j : ℕ) (was is : ℕ → Cell) → AreDamagedCopies was is → IsAtRest g words j was
    → IsAtRest g words j is
rest_still g words j was is copies rests = record {
  gate = closed_still g (was gate_sector) (is gate_sector) (copies gate_sector) rests.gate;
  chunk = λ t i t_in i_in. or_damaged_still (copies (cell_sector g t i)) (rests.chunk t i t_in i_in);
}

no_redo : Redo
no_redo = record { stripe = 0; cells = record { rows = [] } }

-- so does one in use that serves
pub serving_rests : (g : Geometry) (words : Codewords) (h : List Happening) (j : ℕ) → j < g.n → ServesSlot g words h j → (image : SlotImage)
    → SlotMayLeave (slot_state h j) image → IsAtRest g words j image.cell
serving_rests g words h j below serves image left = record {
  gate =
      kept_left {P = Leaves (ReadsClosed g) (ReadsClosed g)} (ReadsClosed g) (slot_state h j).pulls gate_sector (slot_state h j) image
      (λ redo opened. good_whole opened.good refl) (λ c leaves may. leaves.each c may) refl left (at_rest.gates j refl);
  chunk = λ t i t_in i_in.
      kept_left {P = Leaves (IsOrDamaged (cell (words t) i j)) (IsOrDamaged (cell (words t) i j))} (IsOrDamaged (cell (words t) i j)) (slot_state h j).pulls
      (cell_sector g t i) (slot_state h j) image (IsOrDamaged.Harmed refl) (λ c leaves may. leaves.each c may) refl left
      (at_rest.chunks j t i refl below t_in i_in);
}
  where
    at_rest : IsIn (record { geometry = g; redo = no_redo; old = words; new = words }) AtRest (IsSlot j) h h
    at_rest = serves.rests no_redo words

-- slots that are at rest represent the stripes
pub rests_represent : (g : Geometry) (words old new : Codewords) (some : ℕ → Type 0) (to : Image) → ((t : ℕ) → t < g.stripes → old t ≡ words t)
    → ((j : ℕ) → some j → IsAtRest g words j ((to j).cell)) → RepresentsBy g old new some to
rests_represent g words old new some to same rests = record {
  one_redo = λ i j x y on_i on_j opened_i opened_j. absurd ((rests i on_i).gate x opened_i);
  form =
      IdleOld (record {
        encodes = λ t i j t_in i_in j_in on.
            subst (λ w. IsOrDamaged (cell w i j) ((to j).cell (cell_sector g t i))) (sym (same t t_in)) ((rests j on).chunk t i t_in i_in);
        body = λ j redo on opened. absurd ((rests j on).gate redo opened);
      });
}

module _ (content : Content) (in_doubt : Option Change) (seats : Option Seats) (before : List Happening) (a : ArrayState) (words : Codewords)
    (h : List Happening) (history : IsHistory h) (is_open : IsOpenWith before a words h) where
  abbrev g : Geometry
  g = a.member.array.geometry

  abbrev s : State
  s = record { geometry = a.member.array.geometry; content = content; in_doubt = in_doubt; seats = seats }

  module _ (knows : KnowsMedia s a.member h) (tolerated : IsTolerated a.member.array.geometry before h)
      (encoded : AreEncodingsOf a.member.array.geometry content.blocks words) (certain : (new_content s).blocks ≡ content.blocks) where
    pub old_words : (t : ℕ) → t < g.stripes → knows.is.encodings.old t ≡ words t
    old_words t t_in = unique g content.blocks knows.is.encodings.old words t is_open.array.member.array.limits knows.is.encodings.old_are encoded t_in

    new_words : (t : ℕ) → t < g.stripes → knows.is.encodings.new t ≡ words t
    new_words t t_in =
        unique g content.blocks knows.is.encodings.new words t is_open.array.member.array.limits
        (subst (λ blocks. AreEncodingsOf g blocks knows.is.encodings.new) certain knows.is.encodings.new_are) encoded t_in

    module _ (image : Image) (left : CrashMayLeave h image) where
      itself : IsReassembly image image
      itself = left_reassembled h history image left

      alone : IsToleratedAlone g image
      alone = tolerated_alone g before h image tolerated left

      it : IsConsistentBy s knows.is.encodings (current_media_of a.member) a.member.array.epoch image
      it = knows.is.each image left

      -- THE SLOT WHOSE JOURNAL IS WHOLE

      first : ℕ
      first = alone.journal_slot

      first_current_medium : IsCurrentMedium g (current_media_of a.member) alone.journal_slot ((image alone.journal_slot).cell)
      first_current_medium =
          live_current_medium s knows.is.encodings (current_media_of a.member) a.member.array.epoch image it image itself alone alone.current alone.is_current
          alone.journal_slot alone.journal.serves.live

      first_kept : ¬ IsLost ((image alone.journal_slot).cell gate_sector)
      first_kept = journal_gate (λ j. (image j).size ≡ None) g image alone.current alone.journal_slot alone.journal

      first_closed : ReadsClosed g ((image alone.journal_slot).cell gate_sector)
      first_closed = knows.closed image left image alone.journal_slot itself first_current_medium

      -- A HOLDER, WHEREVER IT LIES

      module _ (to : Image) (reassembly : IsReassembly image to) (j : ℕ) (current_medium : IsCurrentMedium g (current_media_of a.member) j ((to j).cell)) where
        -- it with that slot as it is
        abbrev both : Image
        both = with_slot (with_slot image j (to j)) alone.journal_slot (image alone.journal_slot)

        both_reassembled : IsReassembly image both
        both_reassembled i =
            slot_cases (λ n slot. IsReassembledSlot (image n) slot) (with_slot image j (to j)) alone.journal_slot (image alone.journal_slot) i
            (itself alone.journal_slot)
            (λ other. slot_cases (λ n slot. IsReassembledSlot (image n) slot) image j (to j) i (reassembly j) (λ not. itself i))

        abbrev pair : ℕ → Bool
        pair i = (i == j) || (i == alone.journal_slot)

        pub j_below : j < g.n
        j_below = bears_below g j ((to j).cell) current_medium.super current_medium.bears

        -- the cells of j there are those of its medium, of which those in `to` are copies
        there : AreDamagedCopies ((both j).cell) ((to j).cell)
        there =
            elim (cases_eq j alone.journal_slot) [
              | inr other ↦
                  subst (λ (slot : SlotImage). AreDamagedCopies slot.cell ((to j).cell))
                  (sym (slot_there (with_slot image j (to j)) alone.journal_slot (image alone.journal_slot) j other ∙ slot_here image j (to j)))
                  (λ k. inl refl)
              | inl same ↦
                  subst (λ (slot : SlotImage). AreDamagedCopies slot.cell ((to j).cell))
                  (sym (subst (λ (n : ℕ). with_slot (with_slot image j (to j)) alone.journal_slot (image alone.journal_slot) n ≡ image n) (sym same)
                  (slot_here (with_slot image j (to j)) alone.journal_slot (image alone.journal_slot))))
                  (own same)
            ]
          where
            own : j ≡ alone.journal_slot → AreDamagedCopies ((image j).cell) ((to j).cell)
            own same = by came.place came.medium came.is_one in_slot came.copies
              where
                came : IsBorneFrom g image to j current_medium.super
                came = from_slot g image to j current_medium.super (reassembly j) current_medium.bears

                mine : IsCurrentMedium g (current_media_of a.member) j ((image j).cell)
                mine = subst (λ (n : ℕ). IsCurrentMedium g (current_media_of a.member) n ((image n).cell)) (sym same) first_current_medium

                once : {x y : ℕ} → Some x ≡ Some y → x ≡ y
                once is = cc

                slot_size : IsReassembledSlot (image j) (image j)
                slot_size = itself j

                sized : IsBorneFrom g image image j mine.super
                sized = from_slot g image image j mine.super slot_size mine.bears

                in_slot : came.place ≡ InSlot
                in_slot =
                    it.own_joined j came.place InSlot current_medium.super mine.super (borne_of came)
                    (record {
                      medium = record { size = sized.medium.size; cell = (image j).cell };
                      is_one = (sized.size, refl);
                      bears = mine.bears;
                    }) (once (sym current_medium.joined ∙ mine.joined))

                by : (p : Location) (medium : Medium) → IsMediumOf (image j) p medium → p ≡ InSlot → AreDamagedCopies medium.cell ((to j).cell)
                    → AreDamagedCopies ((image j).cell) ((to j).cell)
                by p medium is inside copies =
                    let at : IsMediumOf (image j) InSlot medium = subst (λ (q : Location). IsMediumOf (image j) q medium) inside is in
                    subst (λ (c : ℕ → Cell). AreDamagedCopies c ((to j).cell)) (sym at.1) copies

        -- WHAT FORM THEY HAVE

        at_first : (both alone.journal_slot) ≡ image alone.journal_slot
        at_first = slot_here (with_slot image j (to j)) alone.journal_slot (image alone.journal_slot)

        both_current_medium : (i : ℕ) → (i ≡ j) ⊎ (i ≡ alone.journal_slot) → IsCurrentMedium g (current_media_of a.member) i ((both i).cell)
        both_current_medium i which =
            elim (cases_eq i alone.journal_slot) [
              | inl same ↦
                  subst (λ (n : ℕ). IsCurrentMedium g (current_media_of a.member) n ((both n).cell)) (sym same)
                  (subst (λ (slot : SlotImage). IsCurrentMedium g (current_media_of a.member) alone.journal_slot slot.cell) (sym at_first) first_current_medium)
              | inr other ↦
                  elim which [
                    | inr same ↦ absurd (other same)
                    | inl same ↦
                        subst (λ (slot : SlotImage). IsCurrentMedium g (current_media_of a.member) i slot.cell)
                        (sym (slot_there (with_slot image j (to j)) alone.journal_slot (image alone.journal_slot) i other))
                        (subst (λ (n : ℕ). IsCurrentMedium g (current_media_of a.member) n ((with_slot image j (to j) n).cell)) (sym same)
                        (subst (λ (slot : SlotImage). IsCurrentMedium g (current_media_of a.member) j slot.cell) (sym (slot_here image j (to j))) current_medium))
                  ]
            ]

        limit : g.n ≤ 32
        limit = is_open.array.member.array.limits.devices.1

        first_below : alone.journal_slot < g.n
        first_below = alone.journal.serves.live.below

        set : Slots
        set = slots_by pair

        one_of : (i : ℕ) → HasSlot set i → (i ≡ j) ⊎ (i ≡ alone.journal_slot)
        unfolding set
        one_of i has =
            let small = slot_in_range (slots_by pair) i (slots_by-formed pair) has in
            let is : pair i ≡ true = sym (slots_by-at pair i small) ∙ has in
            elim (cases_eq i j) [
              | inl same ↦ inl same
              | inr other ↦
                  elim (cases_eq i alone.journal_slot) [
                    | inl same ↦ inr same
                    | inr not ↦
                        absurd
                        (false≢true
                        (sym (neither (i == j) (i == alone.journal_slot) (ne_eqb i j other) (ne_eqb i alone.journal_slot not)) ∙ is))
                  ]
            ]

        j_in : HasSlot set j
        unfolding set
        j_in = slots_by-at pair j (omega (arith, limit, j_below)) ∙ the_first (j == j) (j == alone.journal_slot) (eq-eqb j j refl)

        first_in : HasSlot set alone.journal_slot
        unfolding set
        first_in =
            slots_by-at pair alone.journal_slot (omega (arith, limit, first_below))
            ∙ the_second (alone.journal_slot == j) (alone.journal_slot == alone.journal_slot) (eq-eqb alone.journal_slot alone.journal_slot refl)

        form : HasForm g knows.is.encodings.old knows.is.encodings.new (HasSlot set) both
        form =
            (it.forms both set both_reassembled (λ i has. both_current_medium i (one_of i has))
            (record {
              slot = alone.journal_slot;
              among = first_in;
              kept = subst (λ (slot : SlotImage). ¬ IsLost (slot.cell gate_sector)) (sym at_first) first_kept;
            })).form

        not_committed : (w : Codewords) → IsCommitted g w (HasSlot set) both → ⊥
        not_committed w committed =
            elim (committed.gates alone.journal_slot first_in) [
              | inl opened ↦
                  subst (λ (slot : SlotImage). ReadsClosed g (slot.cell gate_sector)) (sym at_first) first_closed committed.redo opened
              | inr lost ↦ subst (λ (slot : SlotImage). ¬ IsLost (slot.cell gate_sector)) (sym at_first) first_kept lost
            ]

        pub current_medium_chunk : (t i : ℕ) → t < g.stripes → i < g.r → IsOrDamaged (cell (words t) i j) ((to j).cell (cell_sector g t i))
        current_medium_chunk t i t_in i_in = or_damaged_still (there (cell_sector g t i)) (by form)
          where
            by : HasForm g knows.is.encodings.old knows.is.encodings.new (HasSlot set) both
                → IsOrDamaged (cell (words t) i j) ((both j).cell (cell_sector g t i))
            by (IdleOld is) =
                subst (λ w. IsOrDamaged (cell w i j) ((both j).cell (cell_sector g t i))) (old_words t t_in) (is.encodes t i j t_in i_in j_below j_in)
            by (CommittedOld is) = absurd (not_committed knows.is.encodings.old is)
            by (Uncommitted is) =
                subst (λ w. IsOrDamaged (cell w i j) ((both j).cell (cell_sector g t i))) (old_words t t_in) (is.encodes t i j t_in i_in j_below j_in)
            by (IdleNew is) =
                subst (λ w. IsOrDamaged (cell w i j) ((both j).cell (cell_sector g t i))) (new_words t t_in) (is.encodes t i j t_in i_in j_below j_in)
            by (CommittedNew is) = absurd (not_committed knows.is.encodings.new is)

      -- A SLOT THAT HAS ITS HOLDER'S NUMBER

      live_in : (j n : ℕ) → current_media_of a.member j ≡ Some n → IsLiveIn a.member j
      live_in j n current_medium = let is = held_here a.member j n current_medium in record { below = is.below; why = is.here }

      in_use : (j : ℕ) → IsLiveIn a.member j → IsAttached h j → IsAtRest g words j ((image j).cell)
      in_use j live on = serving_rests g words h j live.below (is_open.live j live on) (image j) (left j)

      pub has_rest : (to : Image) → IsReassembly image to → (j : ℕ) → HasCurrentMedium g (current_media_of a.member) a.member h (image j) (to j) j
          → IsAtRest g words j ((to j).cell)
      has_rest to reassembly j has = by has.number
        where
          by : HasNumber g a.member h (image j) (to j) j has.joined → IsAtRest g words j ((to j).cell)
          by (Bearing b bears joined) =
              let current_medium : IsCurrentMedium g (current_media_of a.member) j ((to j).cell) =
              record { super = b; bears = bears; joined = has.current_medium ∙ ap Some (sym joined) } in
              record { gate = knows.closed image left to j reassembly current_medium; chunk = current_medium_chunk to reassembly j current_medium }
          by (InUse here on same size copies) =
              rest_still g words j ((image j).cell) ((to j).cell) copies (in_use j (live_in j has.joined has.current_medium) on)

      forms_now : (to : Image) (some : Slots) → IsReassembly image to
          → ((j : ℕ) → HasSlot some j → HasCurrentMedium g (current_media_of a.member) a.member h (image j) (to j) j) → HasGate (HasSlot some) to
          → RepresentsBy g knows.is.encodings.old knows.is.encodings.new (HasSlot some) to
      forms_now to some reassembly have gate =
          rests_represent g words knows.is.encodings.old knows.is.encodings.new (HasSlot some) to old_words (λ j on. has_rest to reassembly j (have j on))

      pub full_now : (to : Image) (j : ℕ) → IsReassembly image to → HasCurrentMedium g (current_media_of a.member) a.member h (image j) (to j) j
          → IsLargeEnough g (to j).size
      full_now to j reassembly has = by has.number
        where
          by : HasNumber g a.member h (image j) (to j) j has.joined → IsLargeEnough g (to j).size
          by (Bearing b bears joined) = it.full to j reassembly (record { super = b; bears = bears; joined = has.current_medium ∙ ap Some (sym joined) })
          by (InUse here on same size copies) =
              subst (λ (o : Option ℕ). IsLargeEnough g o) (sym (left j).size ∙ sym size) (is_open.live j (live_in j has.joined has.current_medium) on).large

      -- A SLOT THAT IS REBUILT

      -- what is current names the member's epoch
      current_is : alone.current.array ≡ a.member.array
      current_is =
          let there = current_since s knows.is.encodings (current_media_of a.member) a.member.array.epoch image it image itself alone alone.current alone.is_current in
          let least : a.member.array.epoch ≤ alone.current.array.epoch = there.since_then in
          let most : alone.current.array.epoch ≤ a.member.array.epoch = knows.latest image left there.slot there.place alone.current there.borne in
          (knows.known image left).named there.slot there.place alone.current there.borne (omega (arith, least, most))

      rebuilt_by : (j n : ℕ) → IsRebuiltAs g a.member.array.epoch a.member h j n → (mark_in a.member.array j ≡ mark.Rebuilding) × (joined_in a.member.array j ≡ n)
      rebuilt_by j n (ByMember marked joined) = (marked, joined)
      rebuilt_by j n (ByMedium x there marked joined) =
          let now : CrashMayLeave h (image_now h) = CrashMayLeave-now h in
          let least : a.member.array.epoch ≤ x.array.epoch = there.since_then in
          let most : x.array.epoch ≤ a.member.array.epoch = knows.latest (image_now h) now there.slot there.place x there.borne in
          let same : x.array ≡ a.member.array = (knows.known (image_now h) now).named there.slot there.place x there.borne (omega (arith, least, most)) in (
            sym (ap (λ (c : Configuration). mark_in c j) same) ∙ marked,
            sym (ap (λ (c : Configuration). joined_in c j) same) ∙ joined,
          )

      pub shut_now : (to : Image) (j n : ℕ) (redo : Redo) → IsReassembly image to → IsRebuiltAs g a.member.array.epoch a.member h j n
          → HasNumber g a.member h (image j) (to j) j n → ¬ IsOpen g to j redo
      shut_now to j n redo reassembly rebuilt number = by number
        where
          marked : mark_in a.member.array j ≡ mark.Rebuilding
          marked = (rebuilt_by j n rebuilt).0

          by : HasNumber g a.member h (image j) (to j) j n → ¬ IsOpen g to j redo
          by (Bearing b bears joined) =
              it.rebuilding to j alone.current b redo reassembly
              (current_since s knows.is.encodings (current_media_of a.member) a.member.array.epoch image it image itself alone alone.current alone.is_current)
              (ap (λ (c : Configuration). mark_in c j) current_is ∙ marked) bears
              (joined ∙ sym (rebuilt_by j n rebuilt).1 ∙ sym (ap (λ (c : Configuration). joined_in c j) current_is))
          by (InUse here on same size copies) =
              closed_still g ((image j).cell gate_sector) ((to j).cell gate_sector) (copies gate_sector)
              (kept_left {P = Leaves (ReadsClosed g) (ReadsClosed g)} (ReadsClosed g) (slot_state h j).pulls gate_sector (slot_state h j) (image j)
              (λ redo opened. good_whole opened.good refl) (λ c leaves may. leaves.each c may) refl (left j)
              (is_open.shut j
              (record {
                below = here.below;
                why = rebuilding_why (why_of a.member j) (sym (is_open.array.marks j here.below) ∙ marked);
              }) on)) redo

    pub session_behind : (aim : EpochChange) → admitted aim ≡ None
        → IsKnownBehind s knows.is.encodings (current_media_of a.member) a.member.array.epoch aim a.member h
    session_behind aim none_joins = record {
      forms = λ image left to some. forms_now image left to some;
      full = λ image left to j. full_now image left to j;
      rebuilding = λ image left to j n redo. shut_now image left to j n redo;
      laid = λ image left j redo joins on. let never : None ≡ Some j = sym none_joins ∙ joins in absurd (cc);
    }

    pub session_closed : AreCurrentMediaClosed g (current_media_of a.member) a.member h
    session_closed image left to j reassembly has = (has_rest image left to reassembly j has).gate
