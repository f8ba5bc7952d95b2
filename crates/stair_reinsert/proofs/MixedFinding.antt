-- What a survey found of a slot is what the slot shows at some moment, of whose superblock places some may be damaged.
use Rattle.std.proofs.Common.{◌≡◌, ℕ, ◌<◌, List, [], ◌⊎◌, inl, inr, refl, sym, ap, ◌∙◌, subst, arith, None, true, false}
use Rattle.std.specs.Prelude.{Bool, IsSome, not, ◌&&◌, ◌==◌, if◌then◌else◌}
use Rattle.std.proofs.lemmas.Bool.{cases_Bool, cases_eq, cond-true, cond-false, eq-eqb, ne_eqb, false≢true}
use Rattle.stair_rack.specs.Answers.{Calls, IsBesideAttach, IsHistory, IsNoAttach, Ran, any_call, is_good, is_readable, is_ready, read_answer}
use Rattle.stair_rack.specs.History.{Happening, SlotCall, slot_state, stopped}
use Rattle.stair_rack.specs.Media.{SlotImage, has_sector}
use Rattle.stair_rack.specs.Moments.{IsMoment}
use Rattle.stair_rack.specs.Offline.{Here, IsAttached, IsKept, Lost}
use Rattle.stair_rack.specs.Sector.{Cell, Damaged, Sector, content, damaged}
use Rattle.stair_rack.specs.declared.rack.Got.{Got}
use Rattle.stair_rack.specs.declared.rack.Got.TheVariants as got
use Rattle.stair_rack.specs.declared.rack.Reply.TheVariants as reply
use Rattle.stair_rack.proofs.KeptLemmas.{IsLooking, SectorKeeps-looking, keeps_sector}
use Rattle.stair_rack.proofs.MomentLemmas.{IsThis, calls_ran, moment_between, ran_any, ran_join, ran_weakened}
use Rattle.stair_rack.proofs.OfflineLemmas.{and-true_left}
use Rattle.stair_rack.proofs.ReadLemmas.{read_answered}
use Rattle.stair_rack.proofs.StepLemmas.{kept}
use Rattle.stair_rack.proofs.TidyLemmas.{history_called, history_on, history_tidy}
use Rattle.stair_super.specs.Superblock.{Superblock}
use Rattle.stair_member.specs.Asked.{FindsSlot, FindsWithin, FoundBoth, FoundNone, IsWhatWasRead}
use Rattle.stair_member.specs.Superblocks.{HoldsSuper}
use Rattle.stair_state.proofs.FormLemmas.{good_whole}
use Rattle.stair_state.proofs.OutsideLemmas.{slot_now, slot_now_left}
use Rattle.stair_invariant.specs.Mixed.{AsAt, Away, IsMixedSlot, WasDamaged, WasOffline}
use Rattle.stair_reinsert.proofs.NameLemmas.{still_attached}

-- SUPERBLOCKS OF ONE CELL AND OF ANOTHER

-- they hold the same superblock, or none
abbrev pub SameHeld : Cell → Cell → Type 0
SameHeld a b = (s : Superblock) → (HoldsSuper a s → HoldsSuper b s) × (HoldsSuper b s → HoldsSuper a s)

held_same : (a b : Cell) → a ≡ b → SameHeld a b
held_same a b same s = (subst (λ (c : Cell). HoldsSuper c s) same, subst (λ (c : Cell). HoldsSuper c s) (sym same))

held_neither : (a b : Cell) → is_good a ≡ false → b ≡ Damaged → SameHeld a b
held_neither a b bad harmed s = (
  λ holds. absurd (false≢true (sym bad ∙ ap is_good holds.good)),
  λ holds. absurd (good_whole holds.good harmed),
)

-- A READ

-- a place was read at this moment, at which the slot was ready: it shows what was found
pub record WasShown (h : List Happening) (j k : ℕ) (found : Cell) : Type 0 where
  pub on : IsAttached h j
  pub held : SameHeld (content ((slot_state h j).sector k)) found

-- or the slot was gone to the read
pub data IsShown (gone : Type 0) (h : List Happening) (j k : ℕ) (found : Cell) : Type 0 where
  Shows : WasShown h j k found → IsShown gone h j k found
  Unread : gone → found ≡ Damaged → IsShown gone h j k found

attached_unless_gone : (h : List Happening) (j k : ℕ) (answer : Got) → ¬ (answer ≡ got.Gone) → answer ≡ read_answer h j k → IsAttached h j
attached_unless_gone h j k answer there is = and-true_left (slot_state h j).attached (not (stopped h)) (ready (is_ready h j) (is_readable (slot_state h j) k) is)
  where
    ready : (on readable : Bool) → answer ≡ (if on then (if readable then got.Good else got.Bad) else got.Gone) → on ≡ true
    ready true readable same = refl
    ready false readable same = absurd (there same)

-- a read that was bad: nothing could be read
unreadable : (h : List Happening) (j k : ℕ) → IsHistory h → got.Bad ≡ read_answer h j k → is_good (content ((slot_state h j).sector k)) ≡ false
unreadable h j k history is =
    elim (cases_Bool (has_sector (slot_state h j).size k)) [
      | inl has ↦ bad (has_sector (slot_state h j).size k) (is_good (content ((slot_state h j).sector k))) has (not_readable (is_ready h j) (is_readable (slot_state h j) k) is)
      | inr past ↦ ap (λ s. is_good (content s)) ((history_tidy history).past_end j k past)
    ]
  where
    not_readable : (on readable : Bool) → got.Bad ≡ (if on then (if readable then got.Good else got.Bad) else got.Gone) → readable ≡ false
    not_readable true true same = absurd (cc)
    not_readable true false same = refl
    not_readable false readable same = absurd (cc)

    bad : (a b : Bool) → a ≡ true → (a && b) ≡ false → b ≡ false
    bad true b has both = both
    bad false b has both = absurd (false≢true has)

is_shown : (gone : Type 0) (answer : Got) (old new : List Happening) (j k : ℕ) (found : Cell) → IsHistory old
    → Calls old new j (SlotCall.Read k answer) → IsWhatWasRead gone answer new j k found → IsShown gone new j k found
is_shown gone got.Good old new j k found history called is =
    Shows (record {
      on = attached_unless_gone new j k got.Good (λ same. cc) (read_answered old new j k got.Good called);
      held = held_same (content ((slot_state new j).sector k)) found (sym is);
    })
is_shown gone got.Bad old new j k found history called is =
    let answered = read_answered old new j k got.Bad called in
    Shows (record {
      on = attached_unless_gone new j k got.Bad (λ same. cc) answered;
      held = held_neither (content ((slot_state new j).sector k)) found (unreadable new j k (history_called history called) answered) is;
    })
is_shown gone got.Gone old new j k found history called is = Unread is.1 is.0

-- BOTH READS

-- of one medium, at moments of their own after the attach: they show what was found, unless the slot was gone to one
pub record AreReads (gone : Type 0) (old new : List Happening) (j : ℕ) (cell : ℕ → Cell) : Type 0 where
  pub asked : List Happening
  pub attached : List Happening
  pub sooner : Ran any_call old asked
  pub on : Calls asked attached j (SlotCall.Attach reply.Done)
  pub first : List Happening
  pub last : List Happening
  pub upto : Ran any_call attached first
  pub answer : Got
  pub called : Calls first last j (SlotCall.Read 1 answer)
  pub later : Ran any_call last new
  pub history : IsHistory first
  pub shown_first : IsShown gone first j 0 (cell 0)
  pub shown_last : IsShown gone last j 1 (cell 1)

module _ {gone : Type 0} {old new : List Happening} {j : ℕ} {cell : ℕ → Cell} (reads : AreReads gone old new j cell) where
  upto_first : Ran any_call old reads.first
  upto_first = ran_join (ran_join reads.sooner (ran_any (calls_ran reads.on))) reads.upto

  pub at_first : IsMoment old reads.first new
  at_first = moment_between upto_first (ran_join (ran_any (calls_ran reads.called)) reads.later)

  pub at_last : IsMoment old reads.last new
  at_last = moment_between (ran_join upto_first (ran_any (calls_ran reads.called))) reads.later

-- nothing was found of a slot that was gone to its attach
pub data AreShown (gone : Type 0) (old new : List Happening) (j : ℕ) (cell : ℕ → Cell) : Type 0 where
  ShownNone : gone → cell 0 ≡ Damaged → cell 1 ≡ Damaged → AreShown gone old new j cell
  ShownBoth : AreReads gone old new j cell → AreShown gone old new j cell

pub are_shown : (gone : Type 0) (old new : List Happening) (j : ℕ) (cell : ℕ → Cell) → IsHistory old → FindsWithin gone j cell old new
    → AreShown gone old new j cell
are_shown gone old new j cell history within = by within.finds
  where
    by : FindsSlot gone j cell within.from within.to → AreShown gone old new j cell
    by (FoundNone called zero' one' is_gone) = ShownNone is_gone zero' one'
    by (FoundBoth attached between first second on one two found_one found_two only) =
        ShownBoth (record {
          asked = within.from;
          attached = attached;
          sooner = within.sooner;
          on = on;
          first = between;
          last = within.to;
          upto = ran_any (calls_ran one);
          answer = second;
          called = two;
          later = within.later;
          history = history_between;
          shown_first = is_shown gone first attached between j 0 (cell 0) history_attached one found_one;
          shown_last = is_shown gone second between within.to j 1 (cell 1) history_between two found_two;
        })
      where
        history_attached : IsHistory attached
        history_attached = history_on {allowed = any_call} history (ran_join within.sooner (ran_any (calls_ran on)))

        history_between : IsHistory between
        history_between = history_called history_attached one

-- THE SLOT

pub record IsMixedFinding (before old new : List Happening) (cell : ℕ → Cell) (j : ℕ) : Type 0 where
  pub to : SlotImage
  pub mixed : IsMixedSlot before old new j to
  pub shown : (k : ℕ) → k < 2 → SameHeld (to.cell k) (cell k)

module _ (before old new : List Happening) (history : IsHistory old) (cell : ℕ → Cell) (j : ℕ) where
  -- as it was at a moment, with another cell in one place
  slot_with : List Happening → ℕ → Cell → SlotImage
  slot_with x q other = record {
    size = (slot_state x j).size;
    cell = λ k. if k == q then other else content ((slot_state x j).sector k);
    removed = (slot_state x j).removed;
  }

  with_at : (x : List Happening) (q : ℕ) (other : Cell) → (slot_with x q other).cell q ≡ other
  unfolding slot_with
  with_at x q other = cond-true _ _ _ (eq-eqb q q refl)

  with_elsewhere : (x : List Happening) (q k : ℕ) (other : Cell) → ¬ (k ≡ q) → (slot_with x q other).cell k ≡ content ((slot_state x j).sector k)
  unfolding slot_with
  with_elsewhere x q k other apart = cond-false _ _ _ (ne_eqb k q apart)

  mixed_with : (x : List Happening) (q : ℕ) (other : Cell) → IsMoment old x new
      → (other ≡ content ((slot_state x j).sector q)) ⊎ ((other ≡ Damaged) × (WasDamaged old new j q ⊎ WasOffline before old new j))
      → IsMixedSlot before old new j (slot_with x q other)
  unfolding slot_with
  mixed_with x q other at which =
      AsAt (slot_now (slot_state x j)) (record { moment = x; is_one = at; holds = slot_now_left (slot_state x j) }) refl
      (λ k. elim (cases_eq k q) [
        | inl same ↦
            subst (λ (i : ℕ). ((slot_with x q other).cell i ≡ content ((slot_state x j).sector i))
            ⊎ (((slot_with x q other).cell i ≡ Damaged) × (WasDamaged old new j i ⊎ WasOffline before old new j))) (sym same)
            (elim which [
              | inl is ↦ inl (with_at x q other ∙ is)
              | inr harmed ↦ inr (with_at x q other ∙ harmed.0, harmed.1)
            ])
        | inr apart ↦ inl (with_elsewhere x q k other apart)
      ])

  shown_with : (x : List Happening) (p q : ℕ) (other : Cell) → p < 2 → q < 2 → ¬ (p ≡ q) → SameHeld (content ((slot_state x j).sector p)) (cell p)
      → SameHeld other (cell q) → (k : ℕ) → k < 2 → SameHeld ((slot_with x q other).cell k) (cell k)
  shown_with x p q other p_in q_in differ at_p at_q k k_in =
      elim (cases_eq k q) [
        | inl same ↦
            subst (λ (i : ℕ). SameHeld ((slot_with x q other).cell i) (cell i)) (sym same)
            (subst (λ (c : Cell). SameHeld c (cell q)) (sym (with_at x q other)) at_q)
        | inr apart ↦
            let is_p : k ≡ p = omega (arith, p_in, q_in, differ, k_in, apart) in
            subst (λ (c : Cell). SameHeld c (cell k)) (sym (with_elsewhere x q k other apart))
            (subst (λ (i : ℕ). SameHeld (content ((slot_state x j).sector i)) (cell i)) (sym is_p) at_p)
      ]

  -- one place was read, and the slot was gone to the other read
  one_read : (x : List Happening) (p q : ℕ) → IsMoment old x new → p < 2 → q < 2 → ¬ (p ≡ q) → WasShown x j p (cell p)
      → WasOffline before old new j → cell q ≡ Damaged → IsMixedFinding before old new cell j
  one_read x p q at p_in q_in differ read offline harmed = record {
    to = slot_with x q Damaged;
    mixed = mixed_with x q Damaged at (inr (refl, inr offline));
    shown = shown_with x p q Damaged p_in q_in differ read.held (held_same Damaged (cell q) (sym harmed));
  }

  -- none was
  none_read : WasOffline before old new j → cell 0 ≡ Damaged → cell 1 ≡ Damaged → IsMixedFinding before old new cell j
  none_read offline zero' one' = record {
    to = record { size = None; cell = λ k. Damaged; removed = [] };
    mixed = Away offline refl (λ k. refl);
    shown = λ k k_in.
        elim (cases_eq k 0) [
          | inl first ↦ subst (λ (i : ℕ). SameHeld Damaged (cell i)) (sym first) (held_same Damaged (cell 0) (sym zero'))
          | inr apart ↦
              let second : k ≡ 1 = omega (arith, k_in, apart) in
              subst (λ (i : ℕ). SameHeld Damaged (cell i)) (sym second) (held_same Damaged (cell 1) (sym one'))
        ];
  }

  -- a sector stays, or it is damaged, while it is read
  sector_stays : (x y : List Happening) (k l : ℕ) (answer : Got) → Calls x y j (SlotCall.Read l answer) → IsSome (slot_state x j).size
      → (slot_state y j).pulls ≡ (slot_state x j).pulls
      → ((slot_state y j).sector k ≡ damaged) ⊎ ((slot_state y j).sector k ≡ (slot_state x j).sector k)
  sector_stays x y k l answer called some same =
      by
      (kept {allowed = IsThis j (SlotCall.Read l answer)} {P = λ h. IsKept (slot_state x j).pulls k (λ t. t ≡ (slot_state x j).sector k) (slot_state h j)}
      (keeps_sector {allowed = IsThis j (SlotCall.Read l answer)} {j = j} {k = k} {P = λ t. t ≡ (slot_state x j).sector k} (slot_state x j).pulls
      (SectorKeeps-looking {allowed = IsThis j (SlotCall.Read l answer)} j k (λ t. t ≡ (slot_state x j).sector k)
      (λ c is. subst IsLooking (sym is.1) tt))) (calls_ran called) (Here refl some (inr refl)))
    where
      by : IsKept (slot_state x j).pulls k (λ t. t ≡ (slot_state x j).sector k) (slot_state y j)
          → ((slot_state y j).sector k ≡ damaged) ⊎ ((slot_state y j).sector k ≡ (slot_state x j).sector k)
      by (Here pulls there holds) = holds
      by (Lost less) = absurd (omega (arith, less, same))

  -- both were, of one medium, since no attach lies between
  both_read : (x y : List Happening) (answer : Got) → IsHistory x → IsMoment old x new → IsMoment old y new → Calls x y j (SlotCall.Read 1 answer)
      → WasShown x j 0 (cell 0) → WasShown y j 1 (cell 1) → IsMixedFinding before old new cell j
  both_read x y answer history_x at_x at_y called first second =
      by
      (sector_stays x y 1 1 answer called ((history_tidy history_x).attached j first.on)
      (still_attached j
      (ran_weakened {allowed = IsThis j (SlotCall.Read 1 answer)} {more = IsNoAttach j}
      (λ i c is at. subst IsBesideAttach (sym is.1) tt) (calls_ran called)) second.on).1)
    where
      by : ((slot_state y j).sector 1 ≡ damaged) ⊎ ((slot_state y j).sector 1 ≡ (slot_state x j).sector 1) → IsMixedFinding before old new cell j
      by (inl harmed) = record {
        to = slot_with x 1 Damaged;
        mixed = mixed_with x 1 Damaged at_x (inr (refl, inl (record { moment = y; is_one = at_y; holds = harmed })));
        shown = shown_with x 0 1 Damaged (omega arith) (omega arith) (λ is. omega (arith, is)) first.held
            (subst (λ (s : Sector). SameHeld (content s) (cell 1)) harmed second.held);
      }
      by (inr stays) = record {
        to = slot_with x 1 (content ((slot_state x j).sector 1));
        mixed = mixed_with x 1 (content ((slot_state x j).sector 1)) at_x (inl refl);
        shown = shown_with x 0 1 (content ((slot_state x j).sector 1)) (omega arith) (omega arith) (λ is. omega (arith, is)) first.held
            (subst (λ (s : Sector). SameHeld (content s) (cell 1)) stays second.held);
      }

  pub mixed_finding : (gone : Type 0) → FindsWithin gone j cell old new → (gone → WasOffline before old new j) → IsMixedFinding before old new cell j
  mixed_finding gone within offline = by (are_shown gone old new j cell history within)
    where
      by : AreShown gone old new j cell → IsMixedFinding before old new cell j
      by (ShownNone is_gone zero' one') = none_read (offline is_gone) zero' one'
      by (ShownBoth reads) = shown reads.shown_first reads.shown_last
        where
          shown : IsShown gone reads.first j 0 (cell 0) → IsShown gone reads.last j 1 (cell 1) → IsMixedFinding before old new cell j
          shown (Shows here) (Shows there) =
              both_read reads.first reads.last reads.answer reads.history (at_first reads) (at_last reads) reads.called here there
          shown (Shows here) (Unread is_gone harmed) =
              one_read reads.first 0 1 (at_first reads) (omega arith) (omega arith) (λ is. omega (arith, is)) here (offline is_gone) harmed
          shown (Unread is_gone harmed) (Shows there) =
              one_read reads.last 1 0 (at_last reads) (omega arith) (omega arith) (λ is. omega (arith, is)) there (offline is_gone) harmed
          shown (Unread is_gone harmed) (Unread also harmed_too) = none_read (offline is_gone) harmed harmed_too
