-- A superblock that is written and synced.
use Rattle.std.proofs.Common.{◌≡◌, ◌≢◌, ℕ, ◌<◌, Bool, true, false, List, [], ◌∷◌, ◌++◌, ◌-◌, length, ◌⊎◌, inl, inr, refl, sym, ap, ◌∙◌, subst, arith, Option, None, Some}
use Rattle.std.specs.Prelude.{⊤, ◌&&◌, not, IsTrue, IsSome}
use Rattle.std.proofs.lemmas.Bool.{cases_Bool, cases_eq, false≢true}
use Rattle.std.proofs.lemmas.List.{get_or-set_other, get_or-set_same}
use Rattle.stair_model.specs.Slots.{Slots}
use Rattle.stair_rack.specs.Answers.{Calls, IsBesideAttach, Told, Untold, Ran, is_ready}
use Rattle.stair_rack.specs.History.{Happening, SlotCall, SlotState, Sync, Write, Called, slot_state, stopped}
use Rattle.stair_rack.specs.Media.{has_sector}
use Rattle.stair_rack.specs.Moments.{AtEveryMoment}
use Rattle.stair_rack.specs.Offline.{IsHeld, IsKept, IsOfflineUntilAttached}
use Rattle.stair_rack.specs.Passes.{IsWritten}
use Rattle.stair_rack.specs.Sector.{Good, Sector, content, damaged, settled, synced}
use Rattle.stair_rack.specs.declared.rack.Reply.{Reply}
use Rattle.stair_rack.specs.declared.rack.Reply.TheVariants as reply
use Rattle.stair_rack.proofs.CallLemmas.{sync_done, sync_gone, write_done, write_gone, write_landed}
use Rattle.stair_rack.proofs.KeptLemmas.{IsKept-mapped, IsKept-onward, IsKept-since, keeps_sector}
use Rattle.stair_rack.proofs.MomentLemmas.{IsThis, at_every_join, at_every_none, at_last, at_every_from, at_every_mapped, at_some_wider, calls_ran, moment_last, moment_wider, ran_acts, ran_before, ran_join, ran_none, ran_weakened}
use Rattle.stair_rack.proofs.OfflineLemmas.{and-true_left, and-true_right, held_on, pulls_on, refused, reply_if-Done, stopped_on, unready_when_stopped}
use Rattle.stair_rack.proofs.WritingLemmas.{reach_on}
use Rattle.stair_rack.proofs.StandingLemmas.{has_lower, medium_on, settled_on, standing_throughout}
use Rattle.stair_rack.proofs.StepLemmas.{kept, slot_after_call}
use Rattle.stair_super.specs.Spelling.{spelled}
use Rattle.stair_super.specs.Superblock.{Superblock}
use Rattle.stair_member.specs.ChangesSteps.{issue, turned}
use Rattle.stair_member.specs.Epochs.{HasGot, IsGoneCall, IsGoneOf, IsOnDisk}
use Rattle.stair_member.specs.HandSteps.{HasPlaces, Handed, IsGiven, IsGivenOrNot, IsGiving, IsHanding, IsSpreading, IsUnsynced, PlacesHanded, Stands, StaysSettled, Syncs, Unsynced, Writes, is_twice, place_after, with_places}
use Rattle.stair_member.specs.Membership.{Membership, place_of}
use Rattle.stair_member.proofs.ApartLemmas.{apart_join, apart_once}

abbrev IsUnchanged : Sector → Type 0
IsUnchanged s = s.since ≡ []

-- a superblock that a place got in a stretch it got in a longer one
pub got_sooner : {a : ℕ → SlotCall → Type 0} {j k : ℕ} {block : Superblock} {old mid new : List Happening} → Ran a old mid
    → HasGot mid new j k block → HasGot old new j k block
got_sooner {a} {j} {k} {block} {old} {mid} {new} before got = record {
  moment = got.moment;
  is_one = moment_wider {a = a} {b = a} before (ran_none new) got.is_one;
  ready = got.ready;
  landed =
      at_some_wider {a = a} {b = a} {P = λ h. content ((slot_state h j).sector k) ≡ Good (spelled block)} before (ran_none got.moment)
      got.landed;
  since =
      at_every_mapped {P = λ h. IsOnDisk mid h j k block} {Q = λ h. IsOnDisk old h j k block}
      (λ h is. IsKept-since (pulls_on {allowed = a} j before) is) got.since;
}

-- where it isn't written over
pub got_later : {b : ℕ → SlotCall → Type 0} {j k : ℕ} {block : Superblock} {old mid new : List Happening}
    → ((bytes : List ℕ) → ¬ b j (Write k bytes reply.Done)) → Ran b mid new → HasGot old mid j k block → HasGot old new j k block
got_later {b} {j} {k} {block} {old} {mid} {new} spares after got = record {
  moment = got.moment;
  is_one = moment_wider {a = b} {b = b} (ran_none old) after got.is_one;
  ready = got.ready;
  landed = got.landed;
  since =
      at_every_join {P = λ h. IsOnDisk old h j k block} got.since
      (standing_throughout {allowed = b} (slot_state old j).pulls j k (Good (spelled block)) spares after
      (at_last {P = λ h. IsOnDisk old h j k block} got.since));
}

-- ---- calls that were answered gone

pub gone_wider : {P Q : ℕ → Type 0} {old new : List Happening} → ((j : ℕ) → P j → Q j) → Ran (IsGoneOf P) old new → Ran (IsGoneOf Q) old new
gone_wider {P} {Q} into ran = ran_weakened {allowed = IsGoneOf P} {more = IsGoneOf Q} (λ j c is gone. into j (is gone)) ran

-- of one call on slot j, which was answered so
call_told : {c : SlotCall} {old new : List Happening} (j : ℕ) (answer : Reply) → (IsGoneCall c → answer ≡ reply.Gone) → Calls old new j c
    → Ran (IsGoneOf (λ i. (i ≡ j) × (answer ≡ reply.Gone))) old new
call_told {c} j answer says called =
    ran_weakened {allowed = IsThis j c} {more = IsGoneOf (λ i. (i ≡ j) × (answer ≡ reply.Gone))}
    (λ i d this gone. (this.0, says (subst IsGoneCall this.1 gone))) (calls_ran called)

-- a slot that was synced is ready
sync_ready : {old new : List Happening} {j : ℕ} → Calls old new j (Sync reply.Done) → is_ready new j ≡ true
sync_ready {old} {new} {j} (Told acts runs answered is) =
    let h = acts ++ old in
    ap (λ g. is_ready g j) is
    ∙ ap (λ (b : SlotState). b.attached && not (stopped h)) (slot_after_call h j (Sync reply.Done))
    ∙ reply_if-Done _ answered
sync_ready {old} {new} {j} (Untold acts runs answered is_stopped nothing is) =
    let gone : reply.Done ≡ reply.Gone = refused (acts ++ old) j (Sync reply.Done) is_stopped answered in
    absurd (cc)

sync_going : {old new : List Happening} {j : ℕ} → Calls old new j (Sync reply.Done) → ¬ IsTrue (stopped new)
sync_going {old} {new} {j} called is_stopped = false≢true (sym (unready_when_stopped new j is_stopped) ∙ sync_ready called)

-- ---- runs that keep what is settled

pub stays_none : (h : List Happening) → StaysSettled h h
stays_none h = record { each = λ j k pulls is. inl is }

pub stays_join : {allowed : ℕ → SlotCall → Type 0} {old mid new : List Happening} → StaysSettled old mid → Ran allowed mid new → StaysSettled mid new
    → StaysSettled old new
stays_join {allowed} {old} {mid} {new} first ran second = record {
  each = λ j k pulls is.
      elim (first.each j k pulls is) [
        | inl on ↦ second.each j k pulls on
        | inr was ↦ inr (stopped_on {allowed = allowed} ran was)
      ];
}

-- a sector of the slot's medium, whatever it holds
medium_kept : {allowed : ℕ → SlotCall → Type 0} {old new : List Happening} (pulls j k : ℕ) → Ran allowed old new
    → IsKept pulls k IsUnchanged (slot_state old j) → IsKept pulls k (λ s. ⊤) (slot_state new j)
medium_kept {allowed} {old} pulls j k ran is =
    kept {allowed = allowed} {P = λ h. IsKept pulls k (λ s. ⊤) (slot_state h j)}
    (keeps_sector {allowed = allowed} {j = j} {k = k} {P = λ s. ⊤} pulls (record { write = λ bytes s may before. tt; sync = λ s may before. tt })) ran
    (IsKept-mapped {P = IsUnchanged} {Q = λ s. ⊤} (λ s was. tt) is)

-- a slot that was written is in use
some_of : (size : Option ℕ) (k : ℕ) → has_sector size k ≡ true → IsSome size
some_of None k has = absurd (false≢true has)
some_of (Some n) k has = refl

write_uses : {old new : List Happening} {j k : ℕ} {bytes : List ℕ} → Calls old new j (Write k bytes reply.Done)
    → ((slot_state new j).attached ≡ true) × IsSome (slot_state new j).size
write_uses {old} {new} {j} {k} {bytes} (Told acts runs answered is) =
    let h = acts ++ old in
    let here : slot_state new j ≡ slot_state (Called j (Write k bytes reply.Done) ∷ h) j = ap (λ g. slot_state g j) is in
    let after = slot_after_call h j (Write k bytes reply.Done) in
    let both = reply_if-Done _ answered in
    let ready = and-true_left (is_ready h j) (has_sector (slot_state h j).size k) both in
    let has = and-true_right (is_ready h j) (has_sector (slot_state h j).size k) both in (
      ap (λ (b : SlotState). b.attached) (here ∙ after) ∙ and-true_left (slot_state h j).attached _ ready,
      subst (λ (b : SlotState). IsSome b.size) (sym (here ∙ after)) (some_of (slot_state h j).size k has),
    )
write_uses {old} {new} {j} {k} {bytes} (Untold acts runs answered is_stopped nothing is) =
    let gone : reply.Done ≡ reply.Gone = refused (acts ++ old) j (Write k bytes reply.Done) is_stopped answered in
    absurd (cc)

-- ---- until a slot is synced

unsynced_call : (m : Membership) (j : ℕ) {c : SlotCall} {old new : List Happening} → IsGiving m false j c → c ≢ Sync reply.Done → Calls old new j c
    → Ran (IsUnsynced m j) old new
unsynced_call m j {c} is no_sync called =
    ran_weakened {allowed = IsThis j c} {more = IsUnsynced m j}
    (λ i d this at. subst (λ x. IsGiving m false j x × (x ≢ Sync reply.Done)) (sym this.1) (is, no_sync)) (calls_ran called)

pub between_unsynced : (m : Membership) (j : ℕ) (old new : List Happening) → Ran (IsUnsynced m j) old new
    → AtEveryMoment (IsGivenOrNot m j old) old new
between_unsynced m j old new ran =
    at_every_from {P = IsGivenOrNot m j old} ran.more ran.is (λ x at. inl (ran_before {allowed = IsUnsynced m j} ran at))

-- ---- one superblock

module _ (m : Membership) (j : ℕ) (small : place_of m j < 2) where
  place : ℕ
  place = place_of m j

  giving : {c : SlotCall} {old new : List Happening} → IsGiving m false j c → Calls old new j c → Ran (IsHanding m j false) old new
  giving {c} is called =
      ran_weakened {allowed = IsThis j c} {more = IsHanding m j false}
      (λ i d this. (this.0, subst (λ x. IsGiving m false x d) (sym this.0) (subst (IsGiving m false j) (sym this.1) is))) (calls_ran called)

  writing : {old new : List Happening} (answer : Reply) → Calls old new j (Write (place_of m j) (spelled (issue m j)) answer)
      → Ran (IsHanding m j false) old new
  writing answer called = giving (Writes (place_of m j) answer (inl refl) refl) called

  syncing : {old new : List Happening} (answer : Reply) → Calls old new j (Sync answer) → Ran (IsHanding m j false) old new
  syncing answer called = giving (Syncs answer refl) called

  -- what isn't written stays settled
  sync_steady : {old new : List Happening} (answer : Reply) → Calls old new j (Sync answer) → (i l pulls : ℕ)
      → IsKept pulls l IsUnchanged (slot_state old i) → IsKept pulls l IsUnchanged (slot_state new i)
  sync_steady answer called i l pulls is =
      settled_on {allowed = IsThis j (Sync answer)} pulls i l (λ bytes this. let same : Write l bytes reply.Done ≡ Sync answer = this.1 in absurd (cc))
      (calls_ran called) is

  write_steady : {old new : List Happening} (answer : Reply) → Calls old new j (Write (place_of m j) (spelled (issue m j)) answer) → (i l pulls : ℕ)
      → (¬ ((i ≡ j) × (l ≡ place_of m j) × (answer ≡ reply.Done))) → IsKept pulls l IsUnchanged (slot_state old i)
      → IsKept pulls l IsUnchanged (slot_state new i)
  write_steady answer called i l pulls not_this is =
      settled_on {allowed = IsThis j (Write (place_of m j) (spelled (issue m j)) answer)} pulls i l
      (λ bytes this.
      let same : Write l bytes reply.Done ≡ Write (place_of m j) (spelled (issue m j)) answer = this.1 in
      let at : l ≡ place_of m j = cc in
      let done : answer ≡ reply.Done = cc in
      not_this (this.0, at, done)) (calls_ran called) is

  reach : (b : SlotState) → HasPlaces b → b.attached ≡ true → IsTrue (has_sector b.size (place_of m j))
  reach b has attached = has_lower b.size (place_of m j) 1 (omega (arith, small)) (has attached)

  -- the write was gone
  unwritten_steady : (old new : List Happening) → Calls old new j (Write (place_of m j) (spelled (issue m j)) reply.Gone) → StaysSettled old new
  unwritten_steady old new called =
      record {
        each = λ i l pulls is. inl (write_steady reply.Gone called i l pulls
            (λ this. let done : reply.Gone ≡ reply.Done = this.2 in absurd (cc)) is);
      }

  pub handed_unwritten : (old new : List Happening) → Calls old new j (Write (place_of m j) (spelled (issue m j)) reply.Gone)
      → Handed m m j false reply.Gone old new
  handed_unwritten old new called = record {
    ran = writing reply.Gone called;
    told = call_told j reply.Gone (λ is. refl) called;
    got = λ done k is. absurd (cc);
    stands = λ done k is. absurd (cc);
    synced = λ done k some. absurd (cc);
    going = λ done. absurd (cc);
    steady = unwritten_steady old new called;
    apart = apart_once m j (writing reply.Gone called) (unwritten_steady old new called);
    shut = λ gone before held has. write_gone old new j (place_of m j) (spelled (issue m j)) before called held (reach (slot_state old j) has);
    left = λ gone. Unsynced refl no_write;
    between = between_unsynced m j old new no_write;
  }
    where
      no_write : Ran (IsUnsynced m j) old new
      no_write = unsynced_call m j (Writes (place_of m j) reply.Gone (inl refl) refl) (λ is. cc) called

  module _ (old mid new : List Happening) (wrote : Calls old mid j (Write (place_of m j) (spelled (issue m j)) reply.Done)) where
    steady_by : (answer : Reply) → Calls mid new j (Sync answer)
        → ((pulls : ℕ) → IsKept pulls (place_of m j) IsUnchanged (slot_state old j)
        → IsKept pulls (place_of m j) IsUnchanged (slot_state new j) ⊎ IsTrue (stopped new)) → StaysSettled old new
    steady_by answer called here = record {
      each = λ i l pulls is.
          elim (cases_eq i j) [
            | inr other ↦ inl (sync_steady answer called i l pulls (write_steady reply.Done wrote i l pulls (λ this. other this.0) is))
            | inl same ↦
                elim (cases_eq l (place_of m j)) [
                  | inr other ↦ inl (sync_steady answer called i l pulls (write_steady reply.Done wrote i l pulls (λ this. other this.1) is))
                  | inl at ↦
                      subst (λ x. IsKept pulls l IsUnchanged (slot_state new x) ⊎ IsTrue (stopped new)) (sym same)
                      (subst (λ x. IsKept pulls x IsUnchanged (slot_state new j) ⊎ IsTrue (stopped new)) (sym at)
                      (here pulls (subst (λ x. IsKept pulls x IsUnchanged (slot_state old j)) at (subst (λ x. IsKept pulls l IsUnchanged (slot_state old x)) same is))))
                ]
          ];
    }

    -- the sync was gone: the medium was pulled since the write, or the rack is stopped
    unsynced_here : Calls mid new j (Sync reply.Gone) → (pulls : ℕ) → IsKept pulls (place_of m j) IsUnchanged (slot_state old j)
        → IsKept pulls (place_of m j) IsUnchanged (slot_state new j) ⊎ IsTrue (stopped new)
    unsynced_here called pulls is =
        let uses = write_uses wrote in
        let held : IsHeld mid mid j = IsHeld.InUse uses.0 uses.1 (omega arith) in
        let there = medium_kept {allowed = IsHanding m j false} pulls j (place_of m j) (writing reply.Done wrote) is in
        away there (sync_gone mid new j mid called held)
      where
        away : IsKept pulls (place_of m j) (λ s. ⊤) (slot_state mid j) → IsOfflineUntilAttached mid new j
            → IsKept pulls (place_of m j) IsUnchanged (slot_state new j) ⊎ IsTrue (stopped new)
        away there (IsOfflineUntilAttached.RackStopped was) = inr was
        away (IsKept.Here same some holds) (IsOfflineUntilAttached.Unattached not_attached pulled) = inl (IsKept.Lost (omega (arith, same, pulled)))
        away (IsKept.Lost less) (IsOfflineUntilAttached.Unattached not_attached pulled) = inl (IsKept.Lost (omega (arith, less, pulled)))

    no_sync : Ran (IsUnsynced m j) old mid
    no_sync = unsynced_call m j (Writes (place_of m j) reply.Done (inl refl) refl) (λ is. cc) wrote

    pub handed_unsynced : Calls mid new j (Sync reply.Gone) → Handed m m j false reply.Gone old new
    handed_unsynced called = record {
      ran = ran_join (writing reply.Done wrote) (syncing reply.Gone called);
      told = ran_join (call_told j reply.Gone (λ is. refl) wrote) (call_told j reply.Gone (λ is. refl) called);
      got = λ done k is. absurd (cc);
      stands = λ done k is. absurd (cc);
      synced = λ done k some. absurd (cc);
      going = λ done. absurd (cc);
      steady = steady_by reply.Gone called (unsynced_here called);
      apart =
          apart_once m j (ran_join (writing reply.Done wrote) (syncing reply.Gone called)) (steady_by reply.Gone called (unsynced_here called));
      shut = λ gone before held has.
          sync_gone mid new j before called (held_on {allowed = IsHanding m j false} {before = before} j (writing reply.Done wrote) held);
      left = λ gone. Unsynced refl all_along;
      between = between_unsynced m j old new all_along;
    }
      where
        all_along : Ran (IsUnsynced m j) old new
        all_along = ran_join no_sync (unsynced_call m j (Syncs reply.Gone refl) (λ is. cc) called)

    -- both were done
    synced_here : Calls mid new j (Sync reply.Done) → (pulls k : ℕ) → IsKept pulls k (λ s. ⊤) (slot_state mid j)
        → IsKept pulls k IsUnchanged (slot_state new j)
    synced_here called pulls k there =
        IsKept-onward {P = λ s. ⊤} {Q = λ s. s ≡ synced ((slot_state mid j).sector k)} {R = IsUnchanged}
        (pulls_on {allowed = IsHanding m j false} j (syncing reply.Done called)) there (λ some. sync_done mid new j k called some)
        (λ s was is. inr (ap (λ (x : Sector). x.since) is))

    synced_steady : Calls mid new j (Sync reply.Done) → StaysSettled old new
    synced_steady called =
        steady_by reply.Done called
        (λ pulls is. inl (synced_here called pulls (place_of m j)
        (medium_kept {allowed = IsHanding m j false} pulls j (place_of m j) (writing reply.Done wrote) is)))

    pub handed_once : (last : Membership) → Calls mid new j (Sync reply.Done) → Handed m last j false reply.Done old new
    handed_once last called = record {
      ran = ran_join (writing reply.Done wrote) (syncing reply.Done called);
      told = ran_join (call_told j reply.Done (λ is. is) wrote) (call_told j reply.Done (λ is. is) called);
      got = λ done k is.
          elim is [
            | inl at ↦ subst (λ x. HasGot old new j x (issue m j)) (sym at) (got_once called)
            | inr both ↦ absurd (false≢true both.0)
          ];
      stands = λ done k is.
          elim is [
            | inl at ↦ subst (λ x. IsOnDisk old new j x (issue m j)) (sym at) on_disk
            | inr both ↦ absurd (false≢true both.0)
          ];
      synced = λ done k some.
          synced_here called (slot_state old j).pulls k (medium_on {allowed = IsHanding m j false} j k (writing reply.Done wrote) some);
      going = λ done. sync_going called;
      steady = synced_steady called;
      apart = apart_once m j (ran_join (writing reply.Done wrote) (syncing reply.Done called)) (synced_steady called);
      shut = λ gone before held has. absurd (cc);
      left = λ gone. absurd (cc);
      between = between_once called;
    }
      where
        settles : (s : Sector)
            → ((slot_state mid j).sector (place_of m j) ≡ damaged) ⊎ IsWritten (spelled (issue m j)) (slot_state old j) (place_of m j) ((slot_state mid j).sector (place_of m j))
            → s ≡ synced ((slot_state mid j).sector (place_of m j)) → (s ≡ damaged) ⊎ (s ≡ settled (Good (spelled (issue m j))))
        settles s (inl was) is = inl (is ∙ ap synced was)
        settles s (inr written) is = inr (is ∙ ap settled written.bytes_are)

        on_disk : IsOnDisk old new j (place_of m j) (issue m j)
        on_disk =
            IsKept-onward {P = IsWritten (spelled (issue m j)) (slot_state old j) (place_of m j)}
            {Q = λ s. s ≡ synced ((slot_state mid j).sector (place_of m j))} {R = λ s. s ≡ settled (Good (spelled (issue m j)))}
            (pulls_on {allowed = IsHanding m j false} j (syncing reply.Done called))
            (write_done old mid j (place_of m j) (spelled (issue m j)) wrote) (λ some. sync_done mid new j (place_of m j) called some) settles

        got_once : Calls mid new j (Sync reply.Done) → HasGot old new j (place_of m j) (issue m j)
        got_once called =
            let whole = ran_join (writing reply.Done wrote) (syncing reply.Done called) in
            record {
              moment = new;
              is_one = moment_last whole.more whole.is;
              ready = sync_ready called;
              landed =
                  at_some_wider {a = IsHanding m j false} {b = IsHanding m j false}
                  {P = λ h. content ((slot_state h j).sector (place_of m j)) ≡ Good (spelled (issue m j))} (ran_none old) (syncing reply.Done called)
                  (write_landed old mid j (place_of m j) (spelled (issue m j)) wrote);
              since = at_every_none {P = λ h. IsOnDisk old h j (place_of m j) (issue m j)} new on_disk;
            }

        between_once : Calls mid new j (Sync reply.Done) → AtEveryMoment (IsGivenOrNot m j old) old new
        between_once (Told acts runs answered is) =
            let upto : Ran (IsUnsynced m j) old (acts ++ mid) = ran_join no_sync (ran_acts {allowed = IsUnsynced m j} acts mid runs) in
            let before = between_unsynced m j old (acts ++ mid) upto in
            let whole : new ≡ Called j (Sync reply.Done) ∷ (before.more ++ old) = is ∙ ap (λ x. Called j (Sync reply.Done) ∷ x) before.is in
            record {
              more = Called j (Sync reply.Done) ∷ before.more;
              is = whole;
              each = (subst (IsGivenOrNot m j old) whole (inr on_disk), before.each);
            }
        between_once (Untold acts runs answered is_stopped nothing is) =
            between_unsynced m j old new
            (subst (Ran (IsUnsynced m j) old) (sym is) (ran_join no_sync (ran_acts {allowed = IsUnsynced m j} acts mid runs)))

-- what was told of the write, by the superblock
pub write_told : (m : Membership) (j : ℕ) (old new : List Happening) (k : ℕ) (bytes : List ℕ) (block : Superblock) (answer given : Reply)
    → Calls old new j (Write k bytes answer) → k ≡ place_of m j → bytes ≡ spelled block → block ≡ issue m j → answer ≡ given
    → Calls old new j (Write (place_of m j) (spelled (issue m j)) given)
write_told m j old new k bytes block answer given called place text is answered =
    subst (λ r. Calls old new j (Write (place_of m j) (spelled (issue m j)) r)) answered
    (subst (λ x. Calls old new j (Write (place_of m j) x answer)) (text ∙ ap spelled is)
    (subst (λ x. Calls old new j (Write x bytes answer)) place called))

-- ---- calls that hand attach nothing

giving_beside : (m : Membership) (both : Bool) (j : ℕ) (c : SlotCall) → IsGiving m both j c → IsBesideAttach c
giving_beside m both j c (Writes k answer given is) = subst IsBesideAttach (sym is) tt
giving_beside m both j c (Syncs answer is) = subst IsBesideAttach (sym is) tt

pub handing_beside : (m : Membership) (j : ℕ) (both : Bool) (i : ℕ) (c : SlotCall) → IsHanding m j both i c → IsBesideAttach c
handing_beside m j both i c is = giving_beside m both i c is.1

pub spreading_beside : (m : Membership) (to : Slots) (twice : Option ℕ) (i : ℕ) (c : SlotCall) → IsSpreading m to twice i c → IsBesideAttach c
spreading_beside m to twice i c is = giving_beside m (is_twice twice i) i c is.1

-- ---- of a member that says the same of the slot

giving_back : (m last : Membership) (j : ℕ) (both wider : Bool) → ((k : ℕ) → IsGiven last both j k → IsGiven m wider j k) → issue last j ≡ issue m j
    → (c : SlotCall) → IsGiving last both j c → IsGiving m wider j c
giving_back m last j both wider within same c (Writes k answer given is) =
    Writes k answer (within k given) (is ∙ ap (λ s. Write k (spelled s) answer) same)
giving_back m last j both wider within same c (Syncs answer is) = Syncs answer is

handing_back : (m last : Membership) (j : ℕ) (both wider : Bool) → ((k : ℕ) → IsGiven last both j k → IsGiven m wider j k) → issue last j ≡ issue m j
    → (i : ℕ) (c : SlotCall) → IsHanding last j both i c → IsHanding m j wider i c
handing_back m last j both wider within same i c is =
    (is.0, subst (λ x. IsGiving m wider x c) (sym is.0) (giving_back m last j both wider within same c (subst (λ x. IsGiving last both x c) is.0 is.1)))

unsynced_back : (m last : Membership) (j : ℕ) → place_of last j ≡ place_of m j → issue last j ≡ issue m j → (i : ℕ) (c : SlotCall)
    → IsUnsynced last j i c → IsUnsynced m j i c
unsynced_back m last j place_same same i c is at = (
  giving_back m last j false false
      (λ k given. elim given [ inl one ↦ inl (one ∙ place_same) | inr both ↦ absurd (false≢true both.0) ]) same c (is at).0,
  (is at).1,
)

pub handed_back : (m last next : Membership) (j : ℕ) (both : Bool) (answer : Reply) (old new : List Happening) → last ≡ with_places m last.places
    → place_of last j ≡ place_of m j → Handed last next j both answer old new → Handed m next j both answer old new
handed_back m last next j both answer old new rest place_same handed =
    let same : issue last j ≡ issue m j = ap (λ (x : Membership). issue x j) rest in
    let into : (k : ℕ) → IsGiven last both j k → IsGiven m both j k = λ k given. elim given [ inl is ↦ inl (is ∙ place_same) | inr is ↦ inr is ] in
    let onto : (k : ℕ) → IsGiven m both j k → IsGiven last both j k = λ k given. elim given [ inl is ↦ inl (is ∙ sym place_same) | inr is ↦ inr is ] in
    record {
      ran = ran_weakened {allowed = IsHanding last j both} {more = IsHanding m j both} (handing_back m last j both both into same) handed.ran;
      told = handed.told;
      got = λ done k given. subst (HasGot old new j k) same (handed.got done k (onto k given));
      stands = λ done k given. subst (IsOnDisk old new j k) same (handed.stands done k (onto k given));
      synced = handed.synced;
      going = handed.going;
      steady = handed.steady;
      apart = handed.apart;
      shut = handed.shut;
      left = λ gone.
          elim (handed.left gone) [
            | Unsynced kept ran ↦
                Unsynced (kept ∙ place_same)
                (ran_weakened {allowed = IsUnsynced last j} {more = IsUnsynced m j} (unsynced_back m last j place_same same) ran)
            | Stands on ↦ Stands (subst (IsOnDisk old new j (1 - place_of next j)) same on)
          ];
      between =
          at_every_mapped {P = IsGivenOrNot last j old} {Q = IsGivenOrNot m j old}
          (λ x is.
          elim is [
            | inl ran ↦ inl (ran_weakened {allowed = IsUnsynced last j} {more = IsUnsynced m j} (unsynced_back m last j place_same same) ran)
            | inr on ↦ inr (subst (λ k. IsOnDisk old x j k (issue m j)) place_same (subst (IsOnDisk old x j (place_of last j)) same on))
          ]) handed.between;
    }

-- ---- in both places

module _ (m mid last : Membership) (j : ℕ) (answer : Reply) (old now new : List Happening) (small : place_of m j < 2)
    (other : place_of (turned m j) j ≡ 1 - place_of m j) (first : Handed m mid j false reply.Done old now)
    (second : Handed (turned m j) last j false answer now new) where
  place_or : (k : ℕ) → IsGiven m true j k → (k ≡ place_of m j) ⊎ (k ≡ 1 - place_of m j)
  place_or k (inl is) = inl is
  place_or k (inr both) = elim (cases_eq k (place_of m j)) [ inl is ↦ inl is | inr apart ↦ inr (omega (arith, both.1, apart, small)) ]

  -- the second superblock isn't written over the first
  spares : (bytes : List ℕ) → ¬ IsGiving (turned m j) false j (Write (place_of m j) bytes reply.Done)
  spares bytes (Writes k given (inl at) is) = let same : place_of m j ≡ k = cc in omega (arith, same, at, other, small)
  spares bytes (Writes k given (inr both) is) = false≢true both.0
  spares bytes (Syncs given is) = absurd (cc)

  first_stands : AtEveryMoment (λ h. IsOnDisk old h j (place_of m j) (issue m j)) now new
  first_stands =
      standing_throughout {allowed = IsHanding (turned m j) j false} (slot_state old j).pulls j (place_of m j) (Good (spelled (issue m j)))
      (λ bytes is. spares bytes is.1) second.ran (first.stands refl (place_of m j) (inl refl))

  pub handed_twice : Handed m last j true answer old new
  handed_twice = record {
    ran =
        ran_join
        (ran_weakened {allowed = IsHanding m j false} {more = IsHanding m j true}
        (handing_back m m j false true (λ k given. elim given [ inl is ↦ inl is | inr is ↦ absurd (false≢true is.0) ]) refl) first.ran)
        (ran_weakened {allowed = IsHanding (turned m j) j false} {more = IsHanding m j true}
        (handing_back m (turned m j) j false true
        (λ k given. elim given [ inl is ↦ inr (refl, omega (arith, is, other)) | inr is ↦ absurd (false≢true is.0) ]) refl) second.ran);
    told =
        ran_join
        (gone_wider {P = λ i. (i ≡ j) × (reply.Done ≡ reply.Gone)} {Q = λ i. (i ≡ j) × (answer ≡ reply.Gone)}
        (λ i never. let clash : reply.Done ≡ reply.Gone = never.1 in absurd (cc)) first.told) second.told;
    got = λ done k given.
        elim (place_or k given) [
          | inl is ↦
              subst (λ x. HasGot old new j x (issue m j)) (sym is)
              (got_later {b = IsHanding (turned m j) j false} (λ bytes may. spares bytes may.1) second.ran (first.got refl (place_of m j) (inl refl)))
          | inr is ↦
              subst (λ x. HasGot old new j x (issue m j)) (sym is)
              (got_sooner {a = IsHanding m j false} first.ran (second.got done (1 - place_of m j) (inl (sym other))))
        ];
    stands = λ done k given.
        elim (place_or k given) [
          | inl is ↦
              subst (λ x. IsOnDisk old new j x (issue m j)) (sym is)
              (at_last {P = λ h. IsOnDisk old h j (place_of m j) (issue m j)} first_stands)
          | inr is ↦
              subst (λ x. IsOnDisk old new j x (issue m j)) (sym is)
              (IsKept-since (pulls_on {allowed = IsHanding m j false} j first.ran) (second.stands done (1 - place_of m j) (inl (sym other))))
        ];
    synced = λ done k some.
        IsKept-onward {P = λ s. ⊤} {Q = IsUnchanged} {R = IsUnchanged} (pulls_on {allowed = IsHanding (turned m j) j false} j second.ran)
        (medium_on {allowed = IsHanding m j false} j k first.ran some) (λ there. second.synced done k there) (λ s was is. inr is);
    going = second.going;
    steady = stays_join {allowed = IsHanding (turned m j) j false} first.steady second.ran second.steady;
    apart = apart_join first.apart second.apart;
    shut = λ gone before held has.
        second.shut gone before (held_on {allowed = IsHanding m j false} {before = before} j first.ran held)
        (reach_on {allowed = IsHanding m j false} j 1 (handing_beside m j false j) first.ran has);
    left = λ gone.
        elim (second.left gone) [
          | Unsynced kept ran ↦
              let back : 1 - place_of last j ≡ place_of m j = omega (arith, kept, other, small) in
              Stands
              (subst (λ k. IsOnDisk old new j k (issue m j)) (sym back)
              (at_last {P = λ h. IsOnDisk old h j (place_of m j) (issue m j)} first_stands))
          | Stands on ↦ Stands (IsKept-since (pulls_on {allowed = IsHanding m j false} j first.ran) on)
        ];
    between =
        at_every_join {P = IsGivenOrNot m j old} first.between
        (at_every_mapped {P = λ h. IsOnDisk old h j (place_of m j) (issue m j)} {Q = IsGivenOrNot m j old} (λ h on. inr on) first_stands);
  }

-- it was gone at once
pub handed_neither : (m last : Membership) (j : ℕ) (old new : List Happening) → Handed m last j false reply.Gone old new
    → Handed m last j true reply.Gone old new
handed_neither m last j old new handed = record {
  ran =
      ran_weakened {allowed = IsHanding m j false} {more = IsHanding m j true}
      (handing_back m m j false true (λ k given. elim given [ inl is ↦ inl is | inr is ↦ absurd (false≢true is.0) ]) refl) handed.ran;
  told = handed.told;
  got = λ done k given. absurd (cc);
  stands = λ done k given. absurd (cc);
  synced = λ done k some. absurd (cc);
  going = λ done. absurd (cc);
  steady = handed.steady;
  apart = handed.apart;
  shut = handed.shut;
  left = handed.left;
  between = handed.between;
}

-- ---- the next places

pub place_turned : (m : Membership) (j : ℕ) → j < 32 → length m.places ≡ 32 → place_of (turned m j) j ≡ 1 - place_of m j
place_turned m j small size = get_or-set_same m.places j (1 - place_of m j) 0 (omega (arith, size))

pub place_unturned : (m : Membership) (i j : ℕ) → i ≢ j → place_of (turned m j) i ≡ place_of m i
place_unturned m i j other = get_or-set_other m.places j i (1 - place_of m j) 0 other

-- the place that isn't next after a slot was handed its superblock is one that was written
pub given_last : (m last : Membership) (twice : Option ℕ) (j : ℕ) → place_of m j < 2
    → place_of last j ≡ place_after (is_twice twice j) (place_of m j) → IsGiven m (is_twice twice j) j (1 - place_of last j)
given_last m last twice j small after =
    elim (cases_Bool (is_twice twice j)) [
      | inl both ↦
          let is : place_of last j ≡ place_of m j = after ∙ ap (λ (z : Bool). place_after z (place_of m j)) both in
          inr (both, omega (arith, small, is))
      | inr one ↦
          let is : place_of last j ≡ 1 - place_of m j = after ∙ ap (λ (z : Bool). place_after z (place_of m j)) one in
          inl (omega (arith, small, is))
    ]

pub places_once : (m last : Membership) (j : ℕ) (answer : Reply) → j < 32 → length m.places ≡ 32 → (answer ≡ reply.Done → last ≡ turned m j)
    → (answer ≡ reply.Gone → last ≡ m) → PlacesHanded m last j false answer
places_once m last j reply.Done small size done gone =
    let is = done refl in record {
      rest = is ∙ ap (λ (x : Membership). with_places m x.places) (sym is);
      done = λ was. ap (λ (x : Membership). place_of x j) is ∙ place_turned m j small size;
      gone = λ was. absurd (cc);
      others = λ i other. ap (λ (x : Membership). place_of x i) is ∙ place_unturned m i j other;
    }
places_once m last j reply.Gone small size done gone =
    let is = gone refl in record {
      rest = is ∙ ap (λ (x : Membership). with_places m x.places) (sym is);
      done = λ was. absurd (cc);
      gone = λ was single. ap (λ (x : Membership). place_of x j) is;
      others = λ i other. ap (λ (x : Membership). place_of x i) is;
    }

pub places_neither : (m last : Membership) (j : ℕ) → last ≡ m → PlacesHanded m last j true reply.Gone
places_neither m last j is = record {
  rest = is ∙ ap (λ (x : Membership). with_places m x.places) (sym is);
  done = λ was. absurd (cc);
  gone = λ was single. absurd (false≢true (sym single));
  others = λ i other. ap (λ (x : Membership). place_of x i) is;
}

pub places_twice : (m mid last : Membership) (j : ℕ) (answer : Reply) → j < 32 → length m.places ≡ 32 → length mid.places ≡ 32 → place_of m j < 2
    → mid ≡ turned m j → (answer ≡ reply.Done → last ≡ turned mid j) → (answer ≡ reply.Gone → last ≡ mid) → PlacesHanded m last j true answer
places_twice m mid last j answer small size mid_size place_in is done gone =
    let second = places_once mid last j answer small mid_size done gone in record {
      rest = second.rest ∙ ap (λ (x : Membership). with_places x last.places) is;
      done = λ was.
          let other : place_of mid j ≡ 1 - place_of m j = ap (λ (x : Membership). place_of x j) is ∙ place_turned m j small size in
          let back : place_of last j ≡ 1 - place_of mid j = second.done was in
          omega (arith, other, back, place_in);
      gone = λ was single. absurd (false≢true (sym single));
      others = λ i other. second.others i other ∙ ap (λ (x : Membership). place_of x i) is ∙ place_unturned m i j other;
    }
