-- What a session knows of all media it knows still after calls that are beside all that its array has, whatever comes back meanwhile.
use Rattle.std.proofs.Common.{◌≡◌, ◌≢◌, ℕ, ◌<◌, ◌≤◌, List, ◌⊎◌, inl, inr, refl, sym, ap, ◌∙◌, subst, arith, Option, None, Some}
use Rattle.std.proofs.lemmas.Bool.{cases_eq, cases_lt}
use Rattle.stair_model.specs.Device.{gate_sector}
use Rattle.stair_model.specs.Geometry.{Geometry}
use Rattle.stair_model.specs.Slots.{HasSlot, Slots}
use Rattle.stair_rack.specs.Answers.{IsHistory, IsNoAttach, Ran}
use Rattle.stair_rack.specs.Crash.{CrashMayLeave, SlotMayLeave, image_now}
use Rattle.stair_rack.specs.History.{Happening, SlotCall, Attach, Sectors, Read, Write, Sync, slot_state}
use Rattle.stair_rack.specs.Media.{Image, SlotImage}
use Rattle.stair_rack.specs.Offline.{IsAttached}
use Rattle.stair_rack.specs.declared.rack.Reply.{Reply}
use Rattle.stair_rack.proofs.CrashLemmas.{CrashMayLeave-now}
use Rattle.stair_rack.proofs.MomentLemmas.{ran_weakened}
use Rattle.stair_rack.proofs.TidyLemmas.{history_on}
use Rattle.stair_super.specs.Superblock.{Superblock, joined_at, joined_in, mark_at, mark_in}
use Rattle.stair_super.specs.declared.configuration.Configuration.{Configuration}
use Rattle.stair_super.specs.declared.mark.Mark.TheVariants as mark
use Rattle.stair_member.specs.Current.{IsCurrent, IsLost}
use Rattle.stair_member.specs.Aims.{mark_for}
use Rattle.stair_member.specs.Membership.{IsHere, Membership, why_of}
use Rattle.stair_member.specs.Reserve.{Bears}
use Rattle.stair_member.specs.Seats.{seats_of}
use Rattle.stair_member.specs.declared.why.Why.{Why}
use Rattle.stair_member.specs.declared.why.Why.TheVariants as why
use Rattle.stair_member.proofs.EditionLemmas.{bears_below}
use Rattle.stair_journal.specs.Gate.{ReadsClosed, open_gate}
use Rattle.stair_journal.specs.declared.redo.Redo.{Redo}
use Rattle.stair_state.specs.Blocks.{Codewords}
use Rattle.stair_state.specs.Redoing.{AttachesNone, WritesNone}
use Rattle.stair_state.specs.Forms.{HasGate, IsOpen, RepresentsBy}
use Rattle.stair_state.specs.Holding.{HaveCurrentMedia, IsBorneSince, IsConsistentBy, IsCurrentMedium}
use Rattle.stair_state.specs.Reassembly.{IsBorne, IsReassembledSlot, IsReassembly, Location}
use Rattle.stair_state.specs.Represents.{IsLargeEnough}
use Rattle.stair_state.specs.State.{Change, Content, State}
use Rattle.stair_state.specs.Tolerance.{IsTolerated, IsToleratedAlone}
use Rattle.stair_state.proofs.ExchangedLemmas.{slot_here, slot_left, slot_there, with_slot}
use Rattle.stair_state.proofs.FormLemmas.{represents_still}
use Rattle.stair_state.proofs.HoldingLemmas.{current_since}
use Rattle.stair_state.proofs.OutsideLemmas.{tolerated_alone}
use Rattle.stair_invariant.specs.InSession.{IsBehindPlaces}
use Rattle.stair_invariant.specs.Leading.{IsBesideArray}
use Rattle.stair_invariant.specs.Returning.{IsKnownWherever, KnowsMedia, current_media_of}
use Rattle.stair_invariant.specs.Session.{ArrayState, IsLiveIn, IsOpenWith, IsRebuiltIn, seats_in}
use Rattle.stair_invariant.proofs.MidwayLemmas.{rebuilding_why}
use Rattle.stair_invariant.proofs.OwnLaws.{newest_beside}
use Rattle.stair_reinsert.proofs.BesideMedia.{HadSlot, WasSlot, WritesWithin, had_slot, spared_slot}
use Rattle.stair_reinsert.proofs.PlacesSince.{steady_behind}
use Rattle.stair_reinsert.proofs.SessionBehind.{left_reassembled}
use Rattle.stair_reinsert.proofs.StoodSince.{held_here}
use Rattle.stair_reinsert.proofs.SupersSince.{consistent_as, known_so, latest_so}

-- A SLOT IS LIVE to the member or isn't
pub live_or : (m : Membership) (j : ℕ) → IsLiveIn m j ⊎ (¬ IsLiveIn m j)
live_or m j =
    elim (cases_lt j m.array.geometry.n) [
      | inr past ↦ inr (λ live. let below = live.below in omega (arith, below, past))
      | inl below ↦ by below (why_of m j) refl
    ]
  where
    by : j < m.array.geometry.n → (w : Why) → why_of m j ≡ w → IsLiveIn m j ⊎ (¬ IsLiveIn m j)
    by below why.Here is = inl (record { below = below; why = is })
    by below w is = inr (λ live. let never : w ≡ why.Here = sym is ∙ live.why in cc)

module _ (content : Content) (in_doubt : Option Change) (before : List Happening) (a : ArrayState) (words : Codewords) (old new : List Happening)
    (history : IsHistory old) (is_open : IsOpenWith before a words old) (ran : Ran (IsBesideArray a) old new) where
  abbrev m : Membership
  m = a.member

  abbrev g : Geometry
  g = a.member.array.geometry

  abbrev s : State
  s = record { geometry = a.member.array.geometry; content = content; in_doubt = in_doubt; seats = Some (seats_in a.member.array) }

  -- THE CALLS

  behind : Ran IsBehindPlaces old new
  behind = ran_weakened {allowed = IsBesideArray a} {more = IsBehindPlaces} (λ i c may. may.session.epochs.behind) ran

  spared : (j : ℕ) → IsHere m j → Ran (IsNoAttach j) old new
  spared j here =
      ran_weakened {allowed = IsBesideArray a} {more = IsNoAttach j}
      (λ i c may same. may.session.epochs.attaches (subst (λ (n : ℕ). IsHere m n) (sym same) here)) ran

  -- nothing of a live slot is written
  unwritten : (j : ℕ) → IsLiveIn m j → Ran (WritesWithin j (λ k. ⊥)) old new
  unwritten j live =
      ran_weakened {allowed = IsBesideArray a} {more = WritesWithin j (λ k. ⊥)}
      (λ i c may. by i c may.session.epochs.behind may.session.spares) ran
    where
      by : (i : ℕ) (c : SlotCall) → IsBehindPlaces i c → WritesNone (λ i. (i < m.array.geometry.n) × (why_of m i ≡ why.Here)) i c
          → WritesWithin j (λ k. ⊥) i c
      by i (Attach answer) places spares = tt
      by i (Sectors size) places spares = tt
      by i (Read k answer) places spares = tt
      by i (Write k bytes answer) places spares = λ same.
          let least : k < gate_sector =
          spares (subst (λ (n : ℕ). (n < m.array.geometry.n) × (why_of m n ≡ why.Here)) (sym same) (live.below, live.why)) in
          omega (arith, places, least)
      by i (Sync answer) places spares = tt

  -- nor the gate of one that is rebuilt
  abbrev BehindGate : ℕ → Type 0
  BehindGate k = (2 ≤ k) × (k ≢ gate_sector)

  gate_spared : (j : ℕ) → IsRebuiltIn m j → Ran (WritesWithin j BehindGate) old new
  gate_spared j rebuilt =
      ran_weakened {allowed = IsBesideArray a} {more = WritesWithin j BehindGate}
      (λ i c may. by i c may.session.epochs.behind may.session.epochs.gate) ran
    where
      by : (i : ℕ) (c : SlotCall) → IsBehindPlaces i c
          → (i < m.array.geometry.n → why_of m i ≡ why.Rebuilding → (bytes : List ℕ) (answer : Reply) → c ≢ Write gate_sector bytes answer)
          → WritesWithin j BehindGate i c
      by i (Attach answer) places spares = tt
      by i (Sectors size) places spares = tt
      by i (Read k answer) places spares = tt
      by i (Write k bytes answer) places spares = λ same. (
        places,
        λ gate.
            spares (subst (λ (n : ℕ). n < m.array.geometry.n) (sym same) rebuilt.below)
            (ap (why_of m) same ∙ rebuilt.why) bytes answer
            (ap (λ (l : ℕ). Write l bytes answer) gate),
      )
      by i (Sync answer) places spares = tt

  module _ (knows : KnowsMedia s m old) (image : Image) (left : CrashMayLeave new image) where
    now : CrashMayLeave old (image_now old)
    now = CrashMayLeave-now old

    -- THE HOLDERS, wherever they lie, are as they were

    module _ (to : Image) (reassembly : IsReassembly image to) where
      was_slot : (j : ℕ) → IsLiveIn m j → WasSlot old j (to j)
      was_slot j live = spared_slot old new j (unwritten j live) image left (to j) (reassembly j)

      -- the other slots as they were when the calls began
      was_of : (j : ℕ) → IsLiveIn m j ⊎ (¬ IsLiveIn m j) → SlotImage
      was_of j (inl live) = (was_slot j live).was
      was_of j (inr other) = image_now old j

      to_of : (j : ℕ) → IsLiveIn m j ⊎ (¬ IsLiveIn m j) → SlotImage
      to_of j (inl live) = to j
      to_of j (inr other) = image_now old j

      abbrev was : Image
      was j = was_of j (live_or m j)

      abbrev then_to : Image
      then_to j = to_of j (live_or m j)

      was_left : CrashMayLeave old was
      unfolding was_of
      was_left j = by (live_or m j)
        where
          by : (which : IsLiveIn m j ⊎ (¬ IsLiveIn m j)) → SlotMayLeave (slot_state old j) (was_of j which)
          by (inl live) = (was_slot j live).may
          by (inr other) = now j

      was_reassembled : IsReassembly was then_to
      unfolding was_of to_of
      was_reassembled j = by (live_or m j)
        where
          by : (which : IsLiveIn m j ⊎ (¬ IsLiveIn m j)) → IsReassembledSlot (was_of j which) (to_of j which)
          by (inl live) = (was_slot j live).slot
          by (inr other) = left_reassembled old history (image_now old) now j

      same_slot : (j : ℕ) → IsLiveIn m j → then_to j ≡ to j
      unfolding to_of
      same_slot j live = by (live_or m j)
        where
          by : (which : IsLiveIn m j ⊎ (¬ IsLiveIn m j)) → to_of j which ≡ to j
          by (inl is) = refl
          by (inr other) = absurd (other live)

      live_current_medium : (j : ℕ) → IsCurrentMedium g (current_media_of m) j ((to j).cell) → IsLiveIn m j
      live_current_medium j current_medium = let is = held_here m j current_medium.super.joined current_medium.joined in record { below = is.below; why = is.here }

      was_current_medium : (j : ℕ) → IsCurrentMedium g (current_media_of m) j ((to j).cell) → IsCurrentMedium g (current_media_of m) j ((then_to j).cell)
      was_current_medium j current_medium =
          subst (λ (slot : SlotImage). IsCurrentMedium g (current_media_of m) j slot.cell) (sym (same_slot j (live_current_medium j current_medium))) current_medium

      closed_still : (j : ℕ) → IsCurrentMedium g (current_media_of m) j ((to j).cell) → ReadsClosed g ((to j).cell gate_sector)
      closed_still j current_medium =
          subst (λ (slot : SlotImage). ReadsClosed g (slot.cell gate_sector)) (same_slot j (live_current_medium j current_medium))
          (knows.closed was was_left then_to j was_reassembled (was_current_medium j current_medium))

      full_still : (j : ℕ) → IsCurrentMedium g (current_media_of m) j ((to j).cell) → IsLargeEnough g (to j).size
      full_still j current_medium =
          subst (λ (slot : SlotImage). IsLargeEnough g slot.size) (same_slot j (live_current_medium j current_medium))
          ((knows.is.each was was_left).full then_to j was_reassembled (was_current_medium j current_medium))

      forms_still : (some : Slots) → HaveCurrentMedia g (current_media_of m) to (HasSlot some) → HasGate (HasSlot some) to
          → RepresentsBy g knows.is.encodings.old knows.is.encodings.new (HasSlot some) to
      forms_still some current_media gate =
          represents_still g (HasSlot some) (HasSlot some) then_to to (λ j has. has)
          (record {
            each = λ j k has behind_places.
                inl (ap (λ (slot : SlotImage). slot.cell k) (sym (same_slot j (live_current_medium j (current_media j has)))));
          }) knows.is.encodings.old knows.is.encodings.new gate
          ((knows.is.each was was_left).forms then_to some was_reassembled (λ j has. was_current_medium j (current_media j has))
          (record {
            slot = gate.slot;
            among = gate.among;
            kept =
                subst (λ (slot : SlotImage). ¬ IsLost (slot.cell gate_sector))
                (sym (same_slot gate.slot (live_current_medium gate.slot (current_media gate.slot gate.among)))) gate.kept;
          }))

    -- A SLOT THAT IS REBUILT

    module _ (tolerated : IsTolerated g before old) (to : Image) (reassembly : IsReassembly image to) (j : ℕ) (rebuilt : IsRebuiltIn m j) where
      had : HadSlot old j BehindGate (to j)
      had = had_slot old new j BehindGate (gate_spared j rebuilt) image left (to j) (reassembly j)

      abbrev first : Image
      first = with_slot (image_now old) j had.was

      first_left : CrashMayLeave old first
      first_left = slot_left old (image_now old) j had.was now had.may

      abbrev first_to : Image
      first_to = with_slot (image_now old) j had.had

      first_reassembled : IsReassembly first first_to
      first_reassembled i =
          elim (cases_eq i j) [
            | inl same ↦
                subst (λ (n : ℕ). IsReassembledSlot (first n) (first_to n)) (sym same)
                (subst (λ (slot : SlotImage). IsReassembledSlot slot (first_to j)) (sym (slot_here (image_now old) j had.was))
                (subst (λ (slot : SlotImage). IsReassembledSlot had.was slot) (sym (slot_here (image_now old) j had.had)) had.slot))
            | inr other ↦
                subst (λ (slot : SlotImage). IsReassembledSlot slot (first_to i)) (sym (slot_there (image_now old) j had.was i other))
                (subst (λ (slot : SlotImage). IsReassembledSlot (image_now old i) slot) (sym (slot_there (image_now old) j had.had i other))
                (left_reassembled old history (image_now old) now i))
          ]

      alone : IsToleratedAlone g first
      alone = tolerated_alone g before old first tolerated first_left

      since : IsBorneSince g m.array.epoch first alone.current
      since =
          current_since s knows.is.encodings (current_media_of m) m.array.epoch first (knows.is.each first first_left) first
          (left_reassembled old history first first_left) alone alone.current alone.is_current

      names : alone.current.array ≡ m.array
      names =
          let least : m.array.epoch ≤ alone.current.array.epoch = since.since_then in
          let most : alone.current.array.epoch ≤ m.array.epoch = knows.latest first first_left since.slot since.place alone.current since.borne in
          (knows.known first first_left).named since.slot since.place alone.current since.borne (omega (arith, least, most))

      shut_still : (b : Superblock) (redo : Redo) → Bears g j ((to j).cell) b → b.joined ≡ joined_in m.array j → ¬ IsOpen g to j redo
      shut_still b redo bears joined opened =
          (knows.is.each first first_left).rebuilding first_to j alone.current b redo first_reassembled since
          (ap (λ (c : Configuration). mark_in c j) names ∙ is_open.array.marks j rebuilt.below ∙ ap mark_for rebuilt.why)
          (record {
            place = bears.place;
            place_in = bears.place_in;
            holds = record {
              bytes = bears.holds.bytes;
              good =
                  ap (λ (slot : SlotImage). slot.cell bears.place) (slot_here (image_now old) j had.had)
                  ∙ had.good bears.place bears.holds.bytes
                  (λ among. let small = bears.place_in in let least = among.0 in omega (arith, small, least)) bears.holds.good;
              spells = bears.holds.spells;
            };
            slot = bears.slot;
            identity = bears.identity;
          }) (joined ∙ sym (ap (λ (c : Configuration). joined_in c j) names))
          (record {
            good =
                ap (λ (slot : SlotImage). slot.cell gate_sector) (slot_here (image_now old) j had.had)
                ∙ had.good gate_sector (open_gate g redo) (λ among. among.1 refl) opened.good;
            formed = opened.formed;
          })

  -- ALL OF IT

  module _ (knows : KnowsMedia s m old) (was_tolerated : IsTolerated g before old) (tolerated : IsTolerated g before new) where
    module _ (image : Image) (left : CrashMayLeave new image) where
      known_then : IsKnownWherever None m (IsAttached new) image
      known_then = known_so m old new history knows.is.steady behind spared (knows.known (image_now old) (CrashMayLeave-now old)) image left

      latest_then : (i : ℕ) (p : Location) (x : Superblock) → IsBorne g image i p x → x.array.epoch ≤ m.array.epoch
      latest_then i p x there = latest_so g old new knows.is.steady behind image left m.array.epoch knows.latest i p x there

      consistent_still : IsConsistentBy s knows.is.encodings (current_media_of m) m.array.epoch image
      consistent_still =
          consistent_as s knows.is.encodings (current_media_of m) m.array.epoch old new knows.is.steady behind
          (knows.is.each (image_now old) (CrashMayLeave-now old)) image left knows.is.encodings
          (λ to some reassembly current_media gate. forms_still knows image left to reassembly some current_media gate)
          (λ to j reassembly current_medium. full_still knows image left to reassembly j current_medium)
          (λ to j x b redo reassembly there marked bears joined. shut to j x b redo reassembly there marked bears joined)
        where
          shut : (to : Image) (j : ℕ) (x b : Superblock) (redo : Redo) → IsReassembly image to → IsBorneSince g m.array.epoch image x
              → mark_at x j ≡ mark.Rebuilding → Bears g j ((to j).cell) b → b.joined ≡ joined_at x j → ¬ IsOpen g to j redo
          shut to j x b redo reassembly there marked bears joined =
              shut_still knows image left was_tolerated to reassembly j
              (record { below = below; why = rebuilding_why (why_of m j) (sym (is_open.array.marks j below) ∙ marked_so) }) b redo bears
              (joined ∙ ap (λ (c : Configuration). joined_in c j) same)
            where
              same : x.array ≡ m.array
              same =
                  let least : m.array.epoch ≤ x.array.epoch = there.since_then in
                  let most : x.array.epoch ≤ m.array.epoch = latest_then there.slot there.place x there.borne in
                  known_then.named there.slot there.place x there.borne (omega (arith, least, most))

              below : j < g.n
              below = bears_below g j ((to j).cell) b bears

              marked_so : mark_in m.array j ≡ mark.Rebuilding
              marked_so = sym (ap (λ (c : Configuration). mark_in c j) same) ∙ marked

      seat : (current : Superblock) (j : ℕ) → IsCurrent g image current → seats_of current j ≡ seats_in m.array j
      seat current j is_current =
          let there =
          current_since s knows.is.encodings (current_media_of m) m.array.epoch image consistent_still image
          (left_reassembled new (history_on {allowed = IsBesideArray a} history ran) image left)
          (tolerated_alone g before new image tolerated left) current is_current in
          let least : m.array.epoch ≤ current.array.epoch = there.since_then in
          let most : current.array.epoch ≤ m.array.epoch = latest_then there.slot there.place current there.borne in
          ap (λ (c : Configuration). seats_in c j)
          (known_then.named there.slot there.place current there.borne (omega (arith, least, most)))

    pub beside_knows : KnowsMedia s m new
    beside_knows = record {
      known = λ image left. known_then image left;
      is = record {
        encodings = knows.is.encodings;
        each = λ image left. consistent_still image left;
        seats = λ image left current j only is_current. seat image left current j is_current;
        steady = steady_behind g old new knows.is.steady behind;
      };
      latest = λ image left i p x there. latest_then image left i p x there;
      own = λ j here on.
          newest_beside m old new is_open.array.member history
          (ran_weakened {allowed = IsBesideArray a} {more = λ i c. IsBehindPlaces i c × AttachesNone (IsHere m) i c}
          (λ i c may. (may.session.epochs.behind, may.session.epochs.attaches)) ran) j here on (knows.own j here);
      closed = λ image left to j reassembly current_medium. closed_still knows image left to reassembly j current_medium;
    }
