-- What a survey's member knows of all media, in slots and outside.
use Rattle.std.specs.Prelude.{IsTrue, Result, Ok}
use Rattle.std.proofs.Common.{◌≡◌, ℕ, ◌<◌, ◌≤◌, List, refl, sym, ap, ◌∙◌, subst, arith, Option, None, Some, slice_get}
use Rattle.std.specs.Prelude.{IsSome}
use Rattle.stair_model.specs.Geometry.{Geometry}
use Rattle.stair_rack.specs.Answers.{IsHistory, Ran, any_call}
use Rattle.stair_rack.specs.Crash.{CrashMayLeave, EachImage, image_now}
use Rattle.stair_rack.specs.History.{Happening, slot_state}
use Rattle.stair_rack.specs.Media.{Image, SlotImage}
use Rattle.stair_rack.specs.Offline.{IsAttached}
use Rattle.stair_rack.specs.Sector.{Cell, content}
use Rattle.stair_rack.specs.RackState.{RackState}
use Rattle.stair_rack.proofs.CrashLemmas.{CrashMayLeave-now}
use Rattle.stair_rack.proofs.KeptLemmas.{not_none}
use Rattle.stair_rack.proofs.MomentLemmas.{ran_before}
use Rattle.stair_rack.proofs.TidyLemmas.{history_on, history_tidy}
use Rattle.stair_super.specs.Superblock.{Superblock, joined_in, mark_at}
use Rattle.stair_super.specs.declared.configuration.Configuration.{Configuration}
use Rattle.stair_member.specs.Current.{HasMark}
use Rattle.stair_member.specs.Findings.{Findings}
use Rattle.stair_member.specs.Membership.{IsHere, Membership}
use Rattle.stair_member.specs.Reserve.{Bears}
use Rattle.stair_member.specs.Superblocks.{Counts, HoldsSuper}
use Rattle.stair_member.specs.Survey.{IsSurveyed, Surveys}
use Rattle.stair_member.specs.declared.fault.SurveyFault.{SurveyFault}
use Rattle.stair_member.proofs.EditionLemmas.{bears_below}
use Rattle.stair_member.proofs.SuperLemmas.{counts_bears}
use Rattle.stair_state.specs.Holding.{CurrentMedia, IsConsistentBy, IsConsistentSince}
use Rattle.stair_state.specs.Reassembly.{InSlot, IsBorne, IsMediumOf, Location, Outside}
use Rattle.stair_state.specs.Represents.{AreSteady, no_write}
use Rattle.stair_state.specs.State.{State}
use Rattle.stair_state.proofs.DegradedLemmas.{bears_before}
use Rattle.stair_state.proofs.ExchangedLemmas.{slot_here, slot_left, with_slot}
use Rattle.stair_state.proofs.FormLemmas.{good_whole}
use Rattle.stair_state.proofs.HoldingLemmas.{drawn}
use Rattle.stair_state.proofs.OutsideLemmas.{unwritten_ran}
use Rattle.stair_state.proofs.ReassembledLemmas.{borne_of, counts_from}
use Rattle.stair_state.proofs.StillLemmas.{steady_cells}
use Rattle.stair_invariant.specs.Mixed.{IsToleratedMixed}
use Rattle.stair_invariant.specs.Returning.{CoversMedia, IsKnownWherever}
use Rattle.stair_reinsert.specs.Following.{AreOfNamed, Blank, Kept, name_of}
use Rattle.stair_reinsert.specs.Found.{IsToleratedReassembly}
use Rattle.stair_reinsert.proofs.MixedImages.{mixed_reassembly}
use Rattle.stair_reinsert.proofs.OpeningBeginsReads.{WasReadAt, found_marked, found_small, found_there, read_at}
use Rattle.stair_reinsert.proofs.NameLemmas.{attached_name, name_apart, still_attached}
use Rattle.stair_reinsert.proofs.SurveyLemmas.{counts_same, history, is_mine, ran, same_back, together, together_mixed, together_shown}
use Rattle.stair_reinsert.proofs.WhereverLemmas.{looked_wherever}

-- WHAT MEDIA BEAR

-- images that a crash may leave bear the same, where nothing is unsynced in superblock places
pub borne_steady : (g : Geometry) (h : List Happening) (a b : Image) → AreSteady g h → CrashMayLeave h a → CrashMayLeave h b → (i : ℕ) (p : Location)
    (s : Superblock) → IsBorne g a i p s → IsBorne g b i p s
borne_steady g h a b steady left_a left_b i (Outside k) s borne = record {
  medium = borne.medium;
  is_one = subst (λ xs. slice_get xs k ≡ Some borne.medium) ((left_a i).removed ∙ sym (left_b i).removed) borne.is_one;
  bears = borne.bears;
}
borne_steady g h a b steady left_a left_b i InSlot s borne =
    let below : i < g.n = bears_below g i borne.medium.cell s borne.bears in
    record {
      medium = record { size = borne.medium.size; cell = (b i).cell };
      is_one = ((left_b i).size ∙ sym (left_a i).size ∙ borne.is_one.0, refl);
      bears = record {
        place = borne.bears.place;
        place_in = borne.bears.place_in;
        holds =
            subst (λ (c : Cell). HoldsSuper c s)
            (ap (λ (cells : ℕ → Cell). cells borne.bears.place) (sym borne.is_one.1)
            ∙ steady_cells g h a steady left_a i borne.bears.place below borne.bears.place_in
            ∙ sym (steady_cells g h b steady left_b i borne.bears.place below borne.bears.place_in)) borne.bears.holds;
        slot = borne.bears.slot;
        identity = borne.bears.identity;
      };
    }

-- a medium that bears it at a later moment of a look bore it when that began, by the same name
pub record WasBorne (g : Geometry) (old : List Happening) (i : ℕ) (name : Location) (s : Superblock) : Type 0 where
  pub was : Image
  pub left : CrashMayLeave old was
  pub place : Location
  pub named : name_of old i place ≡ name
  pub borne : IsBorne g was i place s

pub borne_before : (g : Geometry) (old x : List Happening) (image : Image) (i : ℕ) (p : Location) (s : Superblock) → IsHistory old → Ran no_write old x
    → CrashMayLeave x image → IsBorne g image i p s → WasBorne g old i (name_of x i p) s
borne_before g old x image i p s is_history looked left borne =
    by (looked_wherever old x i (name_of x i p) is_history looked image left p borne.medium borne.is_one refl)
  where
    by : AreOfNamed old i (name_of x i p) borne.medium.cell → WasBorne g old i (name_of x i p) s
    by (Kept was place medium left_was at named copies) = record {
      was = with_slot (image_now old) i was;
      left = slot_left old (image_now old) i was (CrashMayLeave-now old) left_was;
      place = place;
      named = named;
      borne = record {
        medium = medium;
        is_one = subst (λ (slot : SlotImage). IsMediumOf slot place medium) (sym (slot_here (image_now old) i was)) at;
        bears = bears_before copies borne.bears;
      };
    }
    by (Blank all) = absurd (good_whole borne.bears.holds.good (all borne.bears.place))

-- A survey answered this member, on an honest rack that is consistent by holders, within tolerance of mixed images.
pub record WasSurveyed (s : State) (current_media : CurrentMedia) (since : ℕ) (before : List Happening) (old new : RackState) (m : Membership) : Type 0 where
  pub surveys : Surveys (Ok m) old new
  pub honest : IsTrue new.honest
  pub began : Ran any_call before old.history
  pub consistent : IsConsistentSince s current_media since old.history
  pub tolerated : IsToleratedMixed s.geometry before old.history new.history

pub was_surveyed : {s : State} {current_media : CurrentMedia} {since : ℕ} {before : List Happening} {old new : RackState} {m : Membership}
    (answer : Result Membership SurveyFault) → Surveys answer old new → IsTrue new.honest → Ran any_call before old.history
    → IsConsistentSince s current_media since old.history → IsToleratedMixed s.geometry before old.history new.history → answer ≡ Ok m
    → WasSurveyed s current_media since before old new m
was_surveyed {old} {new} answer surveys honest began consistent tolerated answered = record {
  surveys = subst (λ (a : Result Membership SurveyFault). Surveys a old new) answered surveys;
  honest = honest;
  began = began;
  consistent = consistent;
  tolerated = tolerated;
}

module _ {s : State} {current_media : CurrentMedia} {since : ℕ} {before : List Happening} {old new : RackState} {m : Membership}
    (survey : WasSurveyed s current_media since before old new m) where
  open survey use {began, consistent, honest, surveys, tolerated}

  abbrev g : Geometry
  g = s.geometry

  abbrev f : Findings
  f = surveys.findings

  pub is_history : IsHistory old.history
  is_history = history before old new (Ok m) surveys honest began

  pub looked : Ran no_write old.history new.history
  looked = unwritten_ran (ran before old new (Ok m) surveys honest began)

  pub surveyed : IsSurveyed f m
  surveyed = surveys.answered.0

  pub mine : m.array.geometry ≡ g
  mine = is_mine before old new (Ok m) surveys honest began g tolerated m surveyed

  -- the image in which all was seen together
  abbrev to : Image
  to = together before old new (Ok m) surveys honest began

  pub came : IsToleratedReassembly g old.history to
  came =
      mixed_reassembly before old.history new.history is_history looked g to tolerated (together_mixed before old new (Ok m) surveys honest began)

  pub it : IsConsistentBy s consistent.encodings current_media since came.was
  it = consistent.each came.was came.left

  counts_to : (j : ℕ) (x : Superblock) → Counts g f.image j x → Counts g to j x
  counts_to j x counts =
      counts_same g f.image to j x (same_back to f.image (together_shown before old new (Ok m) surveys honest began)) counts

  -- EVERY EPOCH IS COVERED

  borne_then : (image : Image) → CrashMayLeave old.history image → (i : ℕ) (p : Location) (x : Superblock) → IsBorne g image i p x
      → IsBorne g came.was i p x
  borne_then image left = borne_steady g old.history image came.was consistent.steady left came.left

  pub covers : CoversMedia g m.drawn old.history
  covers image left i p x borne =
      let found = drawn s consistent.encodings current_media since came.was it to came.reassembled came.alone came.alone.current came.alone.is_current in
      let super : Superblock = found.1.serves.live.super in
      let upto : x.array.epoch ≤ super.draw = found.1.above i p x (borne_then image left i p x borne) in
      let seen : super.draw ≤ m.drawn =
      surveyed.drawn.above found.0 super
      (subst (λ (y : Geometry). Counts y f.image found.0 super) (sym mine)
      (counts_same g to f.image found.0 super (together_shown before old new (Ok m) surveys honest began) found.1.serves.live.counts)) in
      omega arith

  -- THE MEMBER'S EPOCH NAMES WHAT IT HAS

  named : (image : Image) → CrashMayLeave old.history image → (i : ℕ) (p : Location) (x : Superblock) → IsBorne g image i p x
      → x.array.epoch ≡ m.array.epoch → x.array ≡ m.array
  named image left i p x borne same =
      let counts =
      counts_to surveyed.current.slot surveyed.current
      (subst (λ (y : Geometry). Counts y f.image surveyed.current.slot surveyed.current) mine surveyed.is_current.counts) in
      let from = counts_from g came.was to surveyed.current.slot surveyed.current came.reassembled counts in
      it.one_list i surveyed.current.slot p from.place x surveyed.current (borne_then image left i p x borne) (borne_of from)
      (same ∙ ap (λ (c : Configuration). c.epoch) surveyed.array)
      ∙ sym surveyed.array

  -- A MEDIUM IN USE IS THE ONE THAT THE MEMBER MEANS

  -- a superblock that was read of a slot was borne when the survey began by the medium that is in the slot now
  read_borne : (j k : ℕ) (x : Superblock) → IsAttached new.history j → x.slot ≡ j → x.array.geometry ≡ g → k < 2
      → (read : WasReadAt before old new (Ok m) surveys honest began j k) → HoldsSuper (content ((slot_state read.moment j).sector k)) x
      → WasBorne g old.history j (name_of new.history j InSlot) x
  read_borne j k x on slot geometry k_in read holds = at_name (borne_at (slot_state read.moment j).size refl)
    where
      upto : Ran no_write old.history read.moment
      upto = ran_before looked read.is_one

      history_then : IsHistory read.moment
      history_then = history_on {allowed = no_write} is_history upto

      name : name_of new.history j InSlot ≡ name_of read.moment j InSlot
      name = attached_name j history_then read.after on

      at_name : WasBorne g old.history j (name_of read.moment j InSlot) x → WasBorne g old.history j (name_of new.history j InSlot) x
      at_name was = record { was = was.was; left = was.left; place = was.place; named = was.named ∙ sym name; borne = was.borne }

      borne_at : (o : Option ℕ) → (slot_state read.moment j).size ≡ o → WasBorne g old.history j (name_of read.moment j InSlot) x
      borne_at (Some n) has =
          borne_before g old.history read.moment (image_now read.moment) j InSlot x is_history upto (CrashMayLeave-now read.moment)
          (record {
            medium = record { size = n; cell = (image_now read.moment j).cell };
            is_one = (has, refl);
            bears = record { place = k; place_in = k_in; holds = holds; slot = slot; identity = geometry };
          })
      borne_at None none =
          let some : IsSome (slot_state read.moment j).size = (history_tidy history_then).attached j (still_attached j read.after on).0 in
          absurd (not_none (slot_state read.moment j).size none some)

  one_medium : (j : ℕ) (name also : Location) (x t : Superblock) → WasBorne g old.history j name x → WasBorne g old.history j also t
      → t.joined ≡ x.joined → also ≡ name
  one_medium j name also x t is_x is_t same =
      let place : is_t.place ≡ is_x.place =
      it.own_joined j is_t.place is_x.place t x (borne_then is_t.was is_t.left j is_t.place t is_t.borne)
      (borne_then is_x.was is_x.left j is_x.place x is_x.borne) same in
      sym is_t.named ∙ ap (name_of old.history j) place ∙ is_x.named

  sole : (image : Image) → CrashMayLeave new.history image → (j : ℕ) (p : Location) (t : Superblock) → IsHere m j → IsAttached new.history j
      → IsBorne g image j p t → t.joined ≡ joined_in m.array j → p ≡ InSlot
  sole image left j p t here on borne joined =
      name_apart new.history j p InSlot
      (one_medium j (name_of new.history j InSlot) (name_of new.history j p) marked.super t
      (read_borne j held.place marked.super on marked.counts.slot (marked.counts.identity ∙ mine) held.place_in read
      ((read.shown.held marked.super).1 held.holds))
      (borne_before g old.history new.history image j p t is_history looked left borne)
      (joined ∙ ap (λ (c : Configuration). joined_in c j) surveyed.array ∙ sym marked.joined))
    where
      marked : HasMark m.array.geometry f.image surveyed.current (mark_at surveyed.current j) j
      marked = found_marked before old new (Ok m) surveys honest began m surveyed j here

      held : Bears m.array.geometry j ((f.image j).cell) marked.super
      held = counts_bears m.array.geometry f.image j marked.super marked.counts

      read : WasReadAt before old new (Ok m) surveys honest began j held.place
      read =
          read_at before old new (Ok m) surveys honest began j held.place (found_small before old new (Ok m) surveys honest began m surveyed j here) held.place_in
          (found_there before old new (Ok m) surveys honest began m surveyed j here)

  pub known : EachImage (IsKnownWherever None m (IsAttached new.history)) new.history
  known image left = record {
    covered = λ i p x borne.
        let was = borne_then_by i p x borne in covers was.was was.left i was.place x was.borne;
    named = λ i p x borne. let was = borne_then_by i p x borne in named was.was was.left i was.place x was.borne;
    sole = λ j p t here on borne. sole image left j p t here on (mine_borne j p t borne);
    down = λ j joins. absurd (cc);
  }
    where
      mine_borne : (i : ℕ) (p : Location) (x : Superblock) → IsBorne m.array.geometry image i p x → IsBorne g image i p x
      mine_borne i p x borne = subst (λ (y : Geometry). IsBorne y image i p x) mine borne

      borne_then_by : (i : ℕ) (p : Location) (x : Superblock) → IsBorne m.array.geometry image i p x
          → WasBorne g old.history i (name_of new.history i p) x
      borne_then_by i p x borne =
          borne_before g old.history new.history image i p x is_history looked left (mine_borne i p x borne)
