-- The stripe of a step of a rebuild, whether media come back or not: it is loaded or not, and its chunk is written or its slot was gone.
use Rattle.std.proofs.Common.{List, None, Option, Some, ap, arith, inl, inr, refl, subst, sym, ℕ, ◌+◌, ◌<◌, ◌∙◌, ◌≡◌, ◌≤◌}
use Rattle.std.specs.Prelude.{Err, IsTrue, Ok, Result}
use Rattle.stair_model.specs.Geometry.{Geometry}
use Rattle.stair_model.specs.Stripe.{Stripe}
use Rattle.stair_rack.specs.Answers.{Ran, any_call}
use Rattle.stair_rack.specs.History.{Happening}
use Rattle.stair_rack.specs.Moments.{AtEveryMoment}
use Rattle.stair_rack.specs.Offline.{IsAttached}
use Rattle.stair_rack.specs.declared.rack.Reply.{Reply}
use Rattle.stair_rack.specs.declared.rack.Reply.TheVariants as reply
use Rattle.stair_rack.proofs.MomentLemmas.{ran_join}
use Rattle.stair_super.specs.Superblock.{mark_in}
use Rattle.stair_super.specs.declared.mark.Mark.TheVariants as mark
use Rattle.stair_member.specs.Aims.{mark_for}
use Rattle.stair_member.specs.Membership.{Membership, why_of}
use Rattle.stair_member.specs.Seats.{Seat}
use Rattle.stair_member.specs.declared.fault.FenceFault.{FenceFault}
use Rattle.stair_member.specs.declared.why.Why.{Why}
use Rattle.stair_state.specs.Blocks.{Codewords}
use Rattle.stair_state.specs.State.{Content}
use Rattle.stair_invariant.specs.Effects.{Snapshot, snapshot}
use Rattle.stair_invariant.specs.Leading.{led_to, rebuild_if, rebuild_in}
use Rattle.stair_invariant.specs.Opening.{StaysArray, opened_with}
use Rattle.stair_invariant.specs.Rebuilding.{IsRebuiltTo, Rebuild}
use Rattle.stair_invariant.specs.Returning.{Returning}
use Rattle.stair_invariant.specs.SeatSteps.{MayDrop}
use Rattle.stair_invariant.specs.Session.{ArrayState, IsOpenWith, IsRebuiltIn, seats_in}
use Rattle.stair_invariant.proofs.OpenWithLemmas.{rebuilds_on}
use Rattle.stair_invariant.proofs.Serving.{StaysWithinToleranceTo, IsGoing, IsServing, LeadsReads}
use Rattle.stair_invariant.proofs.Mending.{calm_going, LeadsBeside, LeadsPromotions}
use Rattle.stair_array.specs.Calls.{LoadsStripe, answer_of}
use Rattle.stair_array.specs.Causes.{IsNextChunk}
use Rattle.stair_array.specs.Machine.{Chunk, Dropped, EpochsSpent, IsFinal, Nothing, Progress, Refusal}
use Rattle.stair_array.specs.Mends.{FencesSlot, Promotes, WritesChunk}
use Rattle.stair_array.specs.Promise.{KeepsProgress}
use Rattle.stair_array.proofs.ChunkServingLemmas.{chunk_more, chunk_serves, chunk_stands}
use Rattle.stair_array.proofs.LedOnLemmas.{led_open, rebuilt_why}
use Rattle.stair_array.proofs.LoadingLemmas.{Comes, Serves, ServesOn, refused_stands, stripe_comes, stripe_moments}
use Rattle.stair_array.proofs.OpenStepLemmas.{calm_over, going_over}
use Rattle.stair_array.proofs.PromoteServingLemmas.{none_rebuilt}
use Rattle.stair_array.proofs.PromotionLemmas.{IsBeside, promotes_never}
use Rattle.stair_array.proofs.ReadCourseLemmas.{loaded_part}
use Rattle.stair_array.proofs.ReadDoneLemmas.{stripe_refused}
use Rattle.stair_array.proofs.ReadPartLemmas.{array_with, none_asked}
use Rattle.stair_array.proofs.RebuildCourseLemmas.{NextIsRebuilt}
use Rattle.stair_array.proofs.RebuildEndLemmas.{chunks_next, drop_ends, drop_moments, plain, promote_ends, promote_moments, stands_moved}
use Rattle.stair_array.proofs.RebuildSeatLemmas.{Goes, MovesAt, Outcome, Spent, goes_by, outcome_sooner}

module _ (returning : Returning) (laws : LeadsReads returning) (besides : LeadsBeside returning) (promotions : LeadsPromotions returning)
    (before : List Happening) (was : ArrayState) (words : Codewords) (kept : Content) where
  -- where a stripe was loaded
  pub record IsLoadedAs (x : Snapshot) (t : ℕ) (into : Stripe) (y : Snapshot) : Type 0 where
    pub serves : ServesOn returning before was.rebuild was.stopped words kept x y
    pub stays : StaysArray x.member y.member
    pub same : into ≡ words t

  loaded_as : (x : Snapshot) (t : ℕ) (into : Stripe) (answer : Result (Unit {0}) Refusal) (y : Snapshot)
      → Comes returning before was.rebuild was.stopped words kept (into ≡ words t) x answer y → answer ≡ Ok tt → IsLoadedAs x t into y
  loaded_as x t into _ _ (Comes.Has y serves stays live same) fine = record { serves = serves; stays = stays; same = same }
  loaded_as x t into _ _ (Comes.Lacks refusal y serves stays not_final) fine = absurd (cc)
  loaded_as x t into _ _ (Comes.Stops fault y at) fine = absurd (cc)

  module _ (x : Snapshot) (is : Serves returning before was.rebuild was.stopped words kept x x.told.history)
      (next : NextIsRebuilt was x) where
    abbrev a : ArrayState
    a = array_with was.rebuild was.stopped x

    marked_first : (j t : ℕ) → IsNextChunk was j t → mark_in x.member.array j ≡ mark.Rebuilding
    marked_first j t at = let rebuilt = next j t at in is.is_open.array.marks j rebuilt.below ∙ ap mark_for rebuilt.why

    -- with this member it is the array that it is led to
    pub led_on : (y : Snapshot) → ServesOn returning before was.rebuild was.stopped words kept x y → (b : ArrayState) → b.member ≡ y.member
        → KeepsProgress was b → IsOpenWith before b words y.told.history
    led_on y serves b same keeps =
        led_open before was b words y.told.history
        (subst (λ (m : Membership). IsOpenWith before (led_to was m) words y.told.history) (sym same) serves.is_open) keeps

    -- A STRIPE THAT WASN'T LOADED, since no number is left to draw

    unread_by : (t : ℕ) (u : Snapshot) → IsTrue u.told.honest → StaysWithinToleranceTo returning x.member.array.geometry before u.told.history → (into : Stripe)
        (answer : Result (Unit {0}) Refusal) (y : Snapshot) → Comes returning before was.rebuild was.stopped words kept
        (into ≡ words t) x answer y → y ≡ u
        → answer ≡ Err EpochsSpent → Outcome returning before was words kept x.member (Err EpochsSpent) y
    unread_by t u honest calm into _ _ (Comes.Has y serves stays live same) ends fine = absurd (cc)
    unread_by t u honest calm into _ _ (Comes.Lacks other y serves stays not_final) ends fine =
        absurd (not_final (subst IsFinal (let one : EpochsSpent ≡ other = cc in one) tt))
    unread_by t u honest calm into _ _ (Comes.Stops fault y at) ends fine =
        let stands =
        refused_stands returning laws before words kept x.member fault y at (subst (λ (p : Snapshot). IsTrue p.told.honest) (sym ends) honest)
        (subst (λ (p : Snapshot). StaysWithinToleranceTo returning x.member.array.geometry before p.told.history) (sym ends) calm) in
        Spent y stands.array stands.stands (inl stands.dropped)

    pub unread : (t : ℕ) (into : Stripe) (refusal : Refusal) (y : Snapshot) → t < x.member.array.geometry.stripes → LoadsStripe t into (Err refusal) x y
        → IsTrue y.told.honest → StaysWithinToleranceTo returning x.member.array.geometry before y.told.history
        → Outcome returning before was words kept x.member (Err refusal) y
    unread t into refusal y below loads honest calm =
        subst (λ (r : Refusal). Outcome returning before was words kept x.member (Err r) y) (sym spent)
        (unread_by t y honest calm into (Err refusal) y
        (stripe_comes returning laws before was.rebuild was.stopped words kept x is t into x (none_asked x) below
        (Err refusal) x y loads refl honest on) refl
        (ap (λ (r : Refusal). Err r) spent))
      where
        on : IsGoing returning x.member.array.geometry before y.told.history
        on =
            calm_going returning x.member.array.geometry before y.told.history
            (ran_join {allowed = any_call} is.is_open.ran
            ((loaded_part t into (Err refusal) x y loads is.is_open.array.member).after.later.ran honest)) calm

        spent : refusal ≡ EpochsSpent
        spent =
            stripe_refused returning laws before was.rebuild was.stopped words kept x is t into x (none_asked x) below
            (Err refusal) x y loads refl honest calm refusal
            refl

    -- A STRIPE THAT WAS LOADED

    module _ (j t : ℕ) (into : Stripe) (y : Snapshot) (at : IsNextChunk was j t) (below : t < x.member.array.geometry.stripes)
        (loads : LoadsStripe t into (Ok tt) x y) (honest_y : IsTrue y.told.honest) where
      pub upto_y : Ran any_call before y.told.history
      upto_y =
          ran_join {allowed = any_call} is.is_open.ran
          ((loaded_part t into (Ok tt) x y loads is.is_open.array.member).after.later.ran honest_y)

      pub load_moments : AtEveryMoment (MovesAt returning before kept x.member) x.told.history y.told.history
      load_moments =
          stands_moved returning before x.member kept x.told.history y.told.history
          (stripe_moments returning laws before was.rebuild was.stopped words kept x is t into x (none_asked x) (Ok tt) x y loads refl honest_y)

      module _ (on : IsGoing returning x.member.array.geometry before y.told.history) where
        pub l : IsLoadedAs x t into y
        l =
            loaded_as x t into (Ok tt) y
            (stripe_comes returning laws before was.rebuild was.stopped words kept x is t into x (none_asked x) below
            (Ok tt) x y loads refl honest_y on) refl

        serves_y : IsServing returning before (opened_with y.member) words kept y.told.history
        serves_y = plain returning before (led_to a y.member) words kept y.told.history l.serves

        below_y : t < y.member.array.geometry.stripes
        below_y = subst (λ (g : Geometry). t < g.stripes) (sym l.stays.geometry) below

        -- by its member too the rack goes on
        pub going_by : (h : List Happening) → IsGoing returning x.member.array.geometry before h → IsGoing returning y.member.array.geometry before h
        going_by h = going_over returning y.member.array.geometry x.member.array.geometry before h l.stays.geometry

        -- the slot itself fell
        pub fell_loading : ¬ IsRebuiltIn y.member j → Outcome returning before was words kept x.member (Ok (Dropped j)) y
        fell_loading fell =
            Goes (Dropped j) y serves_y l.stays.geometry
            (goes_by j mark.Down (seats_in x.member.array) (seats_in y.member.array) l.stays.seats (marked_first j t at) (by (l.stays.seats j)) (inr refl))
            (λ b same keeps. none_rebuilt before y.member words y.told.history serves_y.is_open b same keeps.0)
          where
            by : MayDrop (seats_in x.member.array j) (seats_in y.member.array j) → mark_in y.member.array j ≡ mark.Down
            by (inr away) = ap (λ (s : Seat). s.mark) away.1
            by (inl same) =
                let inside = subst (λ (g : Geometry). j < g.n) (sym l.stays.geometry) (next j t at).below in
                absurd
                (fell
                (record {
                  below = inside;
                  why = rebuilt_why (why_of y.member j)
                      (sym (serves_y.is_open.array.marks j inside) ∙ ap (λ (s : Seat). s.mark) same ∙ marked_first j t at);
                }))

        module _ (rebuilt : IsRebuiltIn y.member j) where
          chunks_y : IsAttached y.told.history j → IsRebuiltTo y.member.array.geometry words j t y.told.history y.told.history
          chunks_y =
              chunks_next returning before was (led_to a y.member) words kept y.told.history j t l.serves at
              (λ r same slot.
              ap (rebuild_in y.member) same
              ∙ ap (λ (w : Why). rebuild_if w r) (ap (why_of y.member) slot ∙ rebuilt.why))

          -- A CHUNK, which was written or whose slot was gone

          module _ (answer : Reply) (z : Snapshot) (wrote : WritesChunk j t into answer y z) (honest_z : IsTrue z.told.honest) where
            abbrev pub now : Snapshot
            now = snapshot y.member z.told

            pub is_now : z ≡ now
            is_now = λ i. record { member = wrote.member i; told = z.told }

            chunk_ran : Ran any_call y.told.history z.told.history
            chunk_ran = wrote.later.ran honest_z

            upto_z : Ran any_call before z.told.history
            upto_z = ran_join {allowed = any_call} upto_y chunk_ran

            pub chunk_moments : AtEveryMoment (MovesAt returning before kept y.member) y.told.history z.told.history
            chunk_moments =
                stands_moved returning before y.member kept y.told.history z.told.history
                (chunk_stands returning laws besides before y.member words kept j rebuilt y.told serves_y z honest_z t into answer wrote)

            serves_z : IsGoing returning y.member.array.geometry before z.told.history
                → IsServing returning before (opened_with y.member) words kept z.told.history
            serves_z = chunk_serves returning laws besides before y.member words kept j rebuilt y.told serves_y z honest_z t into answer wrote

            more : answer ≡ reply.Done → IsAttached z.told.history j
                → IsRebuiltTo y.member.array.geometry words j (t + 1) z.told.history z.told.history
            more done =
                chunk_more returning laws besides before y.member words kept j rebuilt y.told serves_y z honest_z t into answer wrote done l.same
                below_y chunks_y

            pub wrote_chunk : answer ≡ reply.Done → t + 1 < x.member.array.geometry.stripes
                → IsGoing returning y.member.array.geometry before z.told.history
                → Outcome returning before was words kept x.member (Ok (Chunk j t)) now
            wrote_chunk done further on_z =
                Goes (Chunk j t) now (serves_z on_z) l.stays.geometry
                (goes_by j mark.Rebuilding (seats_in x.member.array) (seats_in y.member.array) l.stays.seats (marked_first j t at)
                (serves_y.is_open.array.marks j rebuilt.below ∙ ap mark_for rebuilt.why) (inl refl))
                (λ b same keeps.
                rebuilds_on before (opened_with y.member) b words z.told.history (serves_z on_z).is_open same
                (λ r is_r.
                let one : ◌≡◌ {A = Rebuild} (record { slot = j; stripe = t + 1 }) r =
                (let both : Some (record { slot = j; stripe = t + 1 }) ≡ Some r = sym keeps.2 ∙ is_r in cc) in
                subst
                (λ (k : Rebuild). IsRebuiltIn y.member k.slot
                × ((k.stripe ≤ y.member.array.geometry.stripes)
                × (IsAttached z.told.history k.slot
                → IsRebuiltTo y.member.array.geometry words k.slot k.stripe z.told.history z.told.history))) one
                (rebuilt, (subst (λ (g : Geometry). t + 1 ≤ g.stripes) (sym l.stays.geometry) (omega (arith, further)), more done))))

            module _ (w : Snapshot) (honest_w : IsTrue w.told.honest) (on_z : IsGoing returning y.member.array.geometry before z.told.history) where
              calm_over_y : StaysWithinToleranceTo returning x.member.array.geometry before w.told.history
                  → StaysWithinToleranceTo returning y.member.array.geometry before w.told.history
              calm_over_y = calm_over returning y.member.array.geometry x.member.array.geometry before w.told.history l.stays.geometry

              -- and it is dropped
              module _ (refusal : Option FenceFault) (drops : FencesSlot j refusal z w) where
                drops_now : FencesSlot j refusal now w
                drops_now = subst (λ (p : Snapshot). FencesSlot j refusal p w) is_now drops

                some_fell : (given : Option FenceFault) → ¬ (answer_of (Dropped j) given ≡ Ok Nothing)
                some_fell None same = cc
                some_fell (Some fault) same = cc

                pub fell_moments : AtEveryMoment (MovesAt returning before kept y.member) z.told.history w.told.history
                fell_moments =
                    drop_moments returning laws before was words kept y.member j rebuilt z.told (serves_z on_z) w honest_w refusal drops_now

                pub fell : StaysWithinToleranceTo returning x.member.array.geometry before w.told.history
                    → Outcome returning before was words kept x.member (answer_of (Dropped j) refusal) w
                fell calm =
                    outcome_sooner returning before was words kept x.member y.member l.stays (answer_of (Dropped j) refusal) w (some_fell refusal)
                    (drop_ends returning laws before was words kept y.member j rebuilt z.told (serves_z on_z) w honest_w refusal drops_now
                    (calm_over_y calm))

              -- or it was the last one
              module _ (done : answer ≡ reply.Done) (last : t + 1 ≡ x.member.array.geometry.stripes) (given : Result Progress Refusal)
                  (promotes : Promotes j given z w) where
                promotes_now : Promotes j given now w
                promotes_now = subst (λ (p : Snapshot). Promotes j given p w) is_now promotes

                whole : IsAttached z.told.history j
                    → IsRebuiltTo y.member.array.geometry words j y.member.array.geometry.stripes z.told.history z.told.history
                whole attached =
                    subst (λ (k : ℕ). IsRebuiltTo y.member.array.geometry words j k z.told.history z.told.history)
                    (last ∙ sym (ap (λ (g : Geometry). g.stripes) l.stays.geometry)) (more done attached)

                pub last_moments : AtEveryMoment (MovesAt returning before kept y.member) z.told.history w.told.history
                last_moments =
                    promote_moments returning laws besides promotions before was words kept j given now w promotes_now rebuilt (serves_z on_z) whole
                    honest_w

                pub wrote_last : StaysWithinToleranceTo returning x.member.array.geometry before w.told.history
                    → Outcome returning before was words kept x.member given w
                wrote_last calm =
                    outcome_sooner returning before was words kept x.member y.member l.stays given w
                    (λ same. promotes_never j given z w promotes (subst IsBeside (sym same) tt))
                    (promote_ends returning laws besides promotions before was words kept j given now w promotes_now rebuilt (serves_z on_z) whole
                    honest_w (calm_over_y calm))
