-- One list of fates explains every byte of every read of a life, and what follows of it for one byte.
use Rattle.std.proofs.Common.{◌≡◌, ◌∙◌, ◌+◌, ◌*◌, ◌-◌, ◌<◌, ◌≤◌, ◌++◌, ◌&&◌, ◌⊎◌, ℕ, zero, suc, Bool, true, false, List, [], ◌∷◌, Option, None, Some, length, get_or, map, replicate, inl, inr, refl, sym, ap, subst, arith}
use Rattle.std.specs.Prelude.{All, bytes_eq, min, nat_le, nat_lt, slice_get}
use Rattle.std.proofs.lemmas.Bool.{and_from, cases_Bool, cond-false, cond-true, false_from_ne_true, leb-true, ltb-true}
use Rattle.std.specs.List.{concat}
use Rattle.std.proofs.lemmas.List.{get_or-map, length-map}
use Rattle.std.proofs.lemmas.List.Elements.{All-cons, All-head, All-map, All-nil, All-tail, Contains-get_or}
use Rattle.std.proofs.lemmas.Option.{same_Some, slice_get-get_or}
use Rattle.std.proofs.lemmas.Slice.Eq.{bytes_eq-Decides}
use Rattle.stair_model.specs.Geometry.{Geometry, block_count}
use Rattle.stair_model.specs.Stripe.{SECTOR}
use Rattle.stair_state.specs.Blocks.{Blocks}
use Rattle.stair_state.specs.State.{Change, Content, State, changed_if, new_content}
use Rattle.stair_array.specs.Machine.{IsAsItWas}
use Rattle.stair_conf.specs.declared.job.VolumeJob.{VolumeJob}
use Rattle.stair_conf.specs.declared.job.VolumeJob.TheVariants as volume
use Rattle.stair_volume.specs.declared.extent.Entry.{Entry}
use Rattle.stair_volume.specs.Page.{HasTable, table_of}
use Rattle.stair_volume.specs.Table.{IsVolume, Table}
use Rattle.stair_volume.specs.Volumes.{AreFront, Goes, HasDone, IsFinished, IsSettled, MayHold, PutsOut, Volume, blocks_from, most_written, volume_at}
use Rattle.stair_volume.proofs.BlockLemmas.{blocks_from-same, length-blocks_from}
use Rattle.stair_volume.proofs.HeldLaws.{keeps_same}
use Rattle.stair_volume.proofs.ReadingLaws.{has_table_read}
use Rattle.stair_volume_lives.specs.Lives.{AreBytes, AtFirst, Began, Begins, Bytes, Changes, Did, EachReadsLast, Fate, HasChanged, IsAt, IsExplained, IsLast, IsOfVolume, LeavesVolume, Lives, LivesAreExplained, MadeIsZero, MayChange, MayWrite, NoneChanges, Other, ReadsAgree, ReadsAreLast, ReadsLast, Turn, Writes, WrittenIsRead, Wrote, after_job, after_turn, bytes_by, bytes_held, bytes_in, bytes_of, earlier, fate, has_place, last_written}
use Rattle.stair_volume_lives.proofs.ByteLemmas.{AreWhole}
use Rattle.stair_volume_lives.proofs.HeldBytes.{AllWhole, HoldsWhole, IsWholeOf, here, keeps_bytes, next, keeps_whole, one_name, other_name, same_name}
use Rattle.stair_volume_lives.proofs.JobBytes.{after_same, done_bytes, done_whole, place_in, read_bytes}

-- an array in which nothing is in doubt holds its content
pub settled_certain : (s : State) (held : Blocks) → s.in_doubt ≡ None → IsSettled s held → held ≡ s.content.blocks
settled_certain s held certain (inl is) = is
settled_certain s held certain (inr is) = is ∙ ap (λ (o : Option Change). (changed_if o s.content).blocks) certain

-- the geometry stays
pub same_geometry : (name : List ℕ) (life : List Turn) (s new : State) → Lives name life s new → new.geometry ≡ s.geometry
same_geometry name [] s new lives = ap (λ (t : State). t.geometry) lives
same_geometry name (turn ∷ life) s new lives = lives.2 ∙ same_geometry name life s lives.0 lives.1

-- what explains a life up to these blocks, which are whole
record Known (name : List ℕ) (life : List Turn) (s : State) (held : Blocks) : Type 0 where
  pub is : IsExplained name life s held
  pub whole : HoldsWhole name (block_count s.geometry) held

-- ---- a command that was done

put_bytes : (name : List ℕ) (job : VolumeJob) (contents : List (List ℕ)) (count : ℕ) (held now : Blocks) (put : List ℕ)
    (done : HasDone job contents count held now) → PutsOut job done.volumes put → HoldsWhole name count held → (last : Bytes) (taken : List ℕ)
    → ((at : ℕ) → bytes_held count held name at ≡ last name at) → ReadsLast name (Did job taken put) last
put_bytes name (volume.Read other block all) contents count held now put done puts whole last taken same = λ named.
    let are = read_bytes other block all contents count held now put done puts.0 puts.1 puts.2
    (subst (λ (n : List ℕ). HoldsWhole n count held) (sym named) whole) in
    record {
      length = are.length;
      each = λ i below. are.each i below ∙ ap (λ (n : List ℕ). bytes_held count held n (SECTOR * block + i)) named ∙ same (SECTOR * block + i);
    }
put_bytes name volume.Ready contents count held now put done puts whole last taken same = tt
put_bytes name (volume.Make made blocks) contents count held now put done puts whole last taken same = tt
put_bytes name (volume.Remove removed) contents count held now put done puts whole last taken same = tt
put_bytes name volume.List contents count held now put done puts whole last taken same = tt
put_bytes name (volume.Write other block all) contents count held now put done puts whole last taken same = tt

module _ (name : List ℕ) (s : State) (life : List Turn) where
  abbrev size : ℕ
  size = block_count s.geometry

  after_done : (job : VolumeJob) (taken put : List ℕ) (held now : Blocks) (contents : List (List ℕ)) → (front : AreFront contents taken)
      → length contents ≡ most_written job → (done : HasDone job contents size held now) → PutsOut job done.volumes put → Known name life s held
      → Known name (Did job taken put ∷ life) s now
  after_done job taken put held now contents front all done puts known = record {
    is = record {
      fates = None ∷ known.is.fates;
      reads = (put_bytes name job contents size held now put done puts known.whole (last_written life known.is.fates (bytes_in s)) taken known.is.holds, known.is.reads);
      holds = λ at. done_bytes name job contents size held now taken done front (omega (arith, all)) known.whole at
          ∙ after_same job taken (length contents) (bytes_held size held) (last_written life known.is.fates (bytes_in s)) name at (known.is.holds at)
          ∙ ap (λ (k : ℕ). after_job job taken k (last_written life known.is.fates (bytes_in s)) name at) all;
    };
    whole = done_whole name job contents size held now done front.whole known.whole;
  }

  after_begun : (job : VolumeJob) (taken : List ℕ) (held now : Blocks) → MayHold job taken size held now → Known name life s held
      → Known name (Began job taken ∷ life) s now
  after_begun job taken held now (inl keeps) known = record {
    is = record {
      fates = None ∷ known.is.fates;
      reads = (tt, known.is.reads);
      holds = λ at. keeps_bytes size held now keeps name at ∙ known.is.holds at;
    };
    whole = keeps_whole name size held now keeps known.whole;
  }
  after_begun job taken held now (inr made) known = record {
    is = record {
      fates = Some (length made.0) ∷ known.is.fates;
      reads = (tt, known.is.reads);
      holds = λ at. done_bytes name job made.0 size held now taken made.3 made.1 made.2 known.whole at
          ∙ after_same job taken (length made.0) (bytes_held size held) (last_written life known.is.fates (bytes_in s)) name at (known.is.holds at);
    };
    whole = done_whole name job made.0 size held now made.3 made.1.whole known.whole;
  }

  after_other : (held now : Blocks) → ((at : ℕ) → bytes_held size now name at ≡ bytes_held size held name at)
      → (HoldsWhole name size held → HoldsWhole name size now) → Known name life s held → Known name (Other ∷ life) s now
  after_other held now same whole known = record {
    is = record { fates = None ∷ known.is.fates; reads = (tt, known.is.reads); holds = λ at. same at ∙ known.is.holds at };
    whole = whole known.whole;
  }

-- ---- another command

-- what is held of volumes that are the same, if they have this name
named_bytes : (was held : Blocks) (name : List ℕ) (at : ℕ) (entries : List Entry)
    → All (λ e. e.name ≡ name → volume_at held e ≡ volume_at was e) entries
    → bytes_of (map (volume_at held) entries) name at ≡ bytes_of (map (volume_at was) entries) name at
named_bytes was held name at [] same = refl
named_bytes was held name at (e ∷ entries) same =
    elim (one_name e.name name) [
      | inl named ↦
          here (volume_at held e) (map (volume_at held) entries) name at named
          ∙ ap (λ (v : Volume). slice_get (concat v.blocks) at) (All-head (λ e. e.name ≡ name → volume_at held e ≡ volume_at was e) e entries same named)
          ∙ sym (here (volume_at was e) (map (volume_at was) entries) name at named)
      | inr other ↦
          next (volume_at held e) (map (volume_at held) entries) name at other
          ∙ named_bytes was held name at entries (All-tail (λ e. e.name ≡ name → volume_at held e ≡ volume_at was e) e entries same)
          ∙ sym (next (volume_at was e) (map (volume_at was) entries) name at other)
    ]

-- table and volume are kept with their blocks
module _ (name : List ℕ) (count : ℕ) (was held : Blocks) (same : (b : ℕ) → IsOfVolume name count was b → held b ≡ was b) where
  table_same : held 0 ≡ was 0
  table_same = same 0 (inl refl)

  volume_same : (table : Table) → HasTable count (was 0) table → All (λ e. e.name ≡ name → volume_at held e ≡ volume_at was e) table.entries
  volume_same table has k d within named =
      let e : Entry = get_or table.entries k d in
      ap (λ (l : List (List ℕ)). record { name = e.name; blocks = l })
      (blocks_from-same was held e.extent.first e.extent.blocks
      (λ b from below. same b (inr (table, e, has, Contains-get_or table.entries k d within, named, from, below))))

  leaves_bytes : (at : ℕ) → bytes_held count held name at ≡ bytes_held count was name at
  leaves_bytes at = ap (λ (bytes : List ℕ). bytes_by (table_of count bytes) held name at) table_same ∙ by (table_of count (was 0)) refl
    where
      by : (o : Option Table) → table_of count (was 0) ≡ o → bytes_by o held name at ≡ bytes_by o was name at
      by None none = refl
      by (Some table) read = named_bytes was held name at table.entries (volume_same table (has_table_read count (was 0) table read))

  leaves_whole : HoldsWhole name count was → HoldsWhole name count held
  leaves_whole whole volumes has =
      subst (AllWhole name) (sym has.are) (All-map (IsWholeOf name) (volume_at held) has.table.entries there)
    where
      its_table : HasTable count (was 0) has.table
      its_table = subst (λ (bytes : List ℕ). HasTable count bytes has.table) table_same has.is_table

      before : AllWhole name (map (volume_at was) has.table.entries)
      before = whole (map (volume_at was) has.table.entries) (record { table = has.table; is_table = its_table; are = refl })

      there : All (λ e. IsWholeOf name (volume_at held e)) has.table.entries
      there k d within named =
          subst (λ (v : Volume). AreWhole v.blocks) (sym (volume_same has.table its_table k d within named))
          (subst (IsWholeOf name) (get_or-map (volume_at was) has.table.entries k d (volume_at was d) within)
          (before k (volume_at was d) (omega (arith, within, length-map has.table.entries (volume_at was)))) named)

-- ---- where a life begins

get_or-blocks_from : (held : Blocks) (first count k : ℕ) (d : List ℕ) → k < count → get_or (blocks_from held first count) k d ≡ held (first + k)
get_or-blocks_from held first zero k d within = absurd (omega (arith, within))
get_or-blocks_from held first (suc count) zero d within = ap held (let here : first ≡ first + 0 = omega arith in here)
get_or-blocks_from held first (suc count) (suc k) d within =
    get_or-blocks_from held (first + 1) count k d (omega (arith, within)) ∙ ap held (let next : first + 1 + k ≡ first + suc k = omega arith in next)

whole_first : (name : List ℕ) (count : ℕ) (held : Blocks) → ((b : ℕ) → b < count → length (held b) ≡ SECTOR) → HoldsWhole name count held
whole_first name count held each volumes has = subst (AllWhole name) (sym has.are) (All-map (IsWholeOf name) (volume_at held) has.table.entries there)
  where
    there : All (λ e. IsWholeOf name (volume_at held e)) has.table.entries
    there k d within named i other inside =
        let e : Entry = get_or has.table.entries k d in
        let is : IsVolume has.table.blocks e = has.is_table.rules.volumes k d within in
        let below : i < e.extent.blocks = omega (arith, inside, length-blocks_from held e.extent.first e.extent.blocks) in
        ap length (get_or-blocks_from held e.extent.first e.extent.blocks i other below)
        ∙ each (e.extent.first + i) (omega (arith, below, is.within.inside, has.is_table.of_array))

-- ---- a turn more

pub settled_before : (old now : State) (held : Blocks) → IsAsItWas old now → IsSettled now held → IsSettled old held
settled_before old now held same (inl is) = inl (is ∙ ap (λ (c : Content). c.blocks) same.content)
settled_before old now held same (inr is) = inr (is ∙ (λ i. (changed_if (same.in_doubt i) (same.content i)).blocks))

module _ (name : List ℕ) (s : State) (life : List Turn) (mid new : State) (same : mid.geometry ≡ s.geometry) (before : (h : Blocks) → IsSettled mid h → Known name life s h)
  where
    same_count : block_count mid.geometry ≡ block_count s.geometry
    same_count = ap (λ (g : Geometry). block_count g) same

    did_known : (job : VolumeJob) (taken put : List ℕ) (held : Blocks) → IsFinished job taken put mid new → IsSettled new held
        → Known name (Did job taken put ∷ life) s held
    did_known job taken put held fin settled =
        let moved : (done : HasDone job fin.contents (block_count s.geometry) fin.held new.content.blocks) × PutsOut job done.volumes put =
        subst (λ (n : ℕ). (done : HasDone job fin.contents n fin.held new.content.blocks) × PutsOut job done.volumes put) same_count (fin.done, fin.puts) in
        subst (Known name (Did job taken put ∷ life) s) (sym (settled_certain new held fin.certain settled))
        (after_done name s life job taken put fin.held new.content.blocks fin.contents fin.front fin.all moved.0 moved.1 (before fin.held fin.settled))

    may_known : (job : VolumeJob) (taken : List ℕ) (was held : Blocks) → IsSettled mid was → MayHold job taken (block_count mid.geometry) was held
        → Known name (Began job taken ∷ life) s held
    may_known job taken was held settled may =
        after_begun name s life job taken was held (subst (λ (n : ℕ). MayHold job taken n was held) same_count may) (before was settled)

    began_known : (job : VolumeJob) (taken : List ℕ) (held : Blocks) → Goes job taken mid new → IsSettled new held → Known name (Began job taken ∷ life) s held
    began_known job taken held (inl kept) settled =
        may_known job taken held held (settled_before mid new held kept settled) (inl (keeps_same (block_count mid.geometry) held))
    began_known job taken held (inr opened) (inl is) =
        subst (Known name (Began job taken ∷ life) s) (sym is) (may_known job taken opened.held new.content.blocks opened.settled opened.holds)
    began_known job taken held (inr opened) (inr is) =
        subst (Known name (Began job taken ∷ life) s) (sym is) (may_known job taken opened.held (new_content new).blocks opened.settled opened.may_hold)

    other_known : (held : Blocks) → LeavesVolume name mid new → IsSettled new held → Known name (Other ∷ life) s held
    other_known held leaves settled =
        let was = leaves held settled in
        let left = subst (λ (n : ℕ). (b : ℕ) → IsOfVolume name n was.0 b → held b ≡ was.0 b) same_count was.2 in
        after_other name s life was.0 held (leaves_bytes name (block_count s.geometry) was.0 held left) (leaves_whole name (block_count s.geometry) was.0 held left)
        (before was.0 was.1)

-- each life is explained up to each outcome of what is in doubt
known : (name : List ℕ) (s : State) → Begins s → (life : List Turn) (new : State) (held : Blocks) → Lives name life s new → IsSettled new held → Known name life s held
known name s begins [] new held lives settled =
    let is : held ≡ s.content.blocks = settled_certain s held begins.certain (subst (λ (t : State). IsSettled t held) lives settled) in
    record {
      is = record { fates = []; reads = tt; holds = λ at. ap (λ (blocks : Blocks). bytes_held (block_count s.geometry) blocks name at) is };
      whole = subst (HoldsWhole name (block_count s.geometry)) (sym is) (whole_first name (block_count s.geometry) s.content.blocks begins.whole);
    }
known name s begins (Did job taken put ∷ life) new held lives settled =
    did_known name s life lives.0 new (same_geometry name life s lives.0 lives.1) (λ h is. known name s begins life lives.0 h lives.1 is) job taken put held lives.3 settled
known name s begins (Began job taken ∷ life) new held lives settled =
    began_known name s life lives.0 new (same_geometry name life s lives.0 lives.1) (λ h is. known name s begins life lives.0 h lives.1 is) job taken held lives.3 settled
known name s begins (Other ∷ life) new held lives settled =
    other_known name s life lives.0 new (same_geometry name life s lives.0 lives.1) (λ h is. known name s begins life lives.0 h lives.1 is) held lives.3 settled

pub lives_are_explained : LivesAreExplained
lives_are_explained name s new life held begins lives settled = (known name s begins life new held lives settled).is

-- ---- one read of a life

-- a list of fates that explains the reads before it, and what it gives
pub record IsReadOf (s : State) (before : List Turn) (name : List ℕ) (block count : ℕ) (put : List ℕ) : Type 0 where
  pub fates : List Fate
  pub reads : EachReadsLast name before fates (bytes_in s)
  pub are : AreBytes (last_written before fates (bytes_in s)) name (SECTOR * block) (SECTOR * count) put

lives_part : (name : List ℕ) (after rest : List Turn) (s new : State) → Lives name (after ++ rest) s new → (mid : State) × Lives name rest s mid
lives_part name [] rest s new lives = (new, lives)
lives_part name (turn ∷ after) rest s new lives = lives_part name after rest s lives.0 lives.1

pub read_explained : (s new : State) (before after : List Turn) (name : List ℕ) (block count : ℕ) (taken put : List ℕ) → Begins s
    → Lives name (after ++ Did (volume.Read name block count) taken put ∷ before) s new → IsReadOf s before name block count put
read_explained s new before after name block count taken put begins lives =
    let part = lives_part name after (Did (volume.Read name block count) taken put ∷ before) s new lives in
    let all = known name s begins (Did (volume.Read name block count) taken put ∷ before) part.0 part.0.content.blocks part.1 (inl refl) in
    record { fates = earlier all.is.fates; reads = all.is.reads.1; are = all.is.reads.0 refl }

-- one byte of it
byte_at : (held : Bytes) (name : List ℕ) (block count : ℕ) (put : List ℕ) (i at : ℕ) → AreBytes held name (SECTOR * block) (SECTOR * count) put
    → IsAt block count i at → slice_get put i ≡ held name at
byte_at held name block count put i at are is = are.each i is.within ∙ ap (held name) (sym is.place)

-- ---- one byte over a life

clash : true ≡ false → ⊥
clash both = cc

none_some : {X : Type 0} {x : X} → None ≡ Some x → ⊥
none_some both = cc

both_true : (a b : Bool) → (a && b) ≡ true → (a ≡ true) × (b ≡ true)
both_true true b is = (refl, is)
both_true false b is = absurd (clash (sym is))

-- a write changes a byte that its first blocks have
written_here : (other name : List ℕ) (block count written at : ℕ) → (bytes_eq other name && has_place block (min written count) at) ≡ true
    → Changes name at (volume.Write other block count)
written_here other name block count written at is =
    let parts = both_true (bytes_eq other name) (has_place block (min written count) at) is in
    let place = both_true (nat_le (SECTOR * block) at) (nat_lt at (SECTOR * (block + min written count))) parts.1 in
    let from : SECTOR * block ≤ at = leb-true (SECTOR * block) at place.0 in
    let below : at < SECTOR * (block + min written count) = ltb-true at (SECTOR * (block + min written count)) place.1 in
    ((bytes_eq-Decides other name).0 parts.0, from, omega (arith, below))

unchanged : (job : VolumeJob) (taken : List ℕ) (written : ℕ) (old : Bytes) (name : List ℕ) (at : ℕ) → ¬ Changes name at job
    → after_job job taken written old name at ≡ old name at
unchanged volume.Ready taken written old name at none = absurd (none tt)
unchanged (volume.Make made blocks) taken written old name at none = cond-false _ _ _ (other_name made name none)
unchanged (volume.Remove removed) taken written old name at none = cond-false _ _ _ (other_name removed name none)
unchanged (volume.Write other block count) taken written old name at none =
    cond-false _ _ _ (false_from_ne_true (bytes_eq other name && has_place block (min written count) at)
    (λ is. none (written_here other name block count written at is)))
unchanged volume.List taken written old name at none = refl
unchanged (volume.Read other block count) taken written old name at none = refl

turn_unchanged : (turn : Turn) (made : Fate) (old : Bytes) (name : List ℕ) (at : ℕ) → ¬ MayChange name at turn
    → after_turn turn made old name at ≡ old name at
turn_unchanged (Did job taken put) made old name at none = unchanged job taken (most_written job) old name at none
turn_unchanged (Began job taken) None old name at none = refl
turn_unchanged (Began job taken) (Some written) old name at none = unchanged job taken written old name at none
turn_unchanged Other made old name at none = refl

-- the fates of what was before these turns
abbrev dropped : List Turn → List Fate → List Fate
dropped [] fates = fates
dropped (turn ∷ turns) fates = dropped turns (earlier fates)

kept_between : (between rest : List Turn) (fates : List Fate) (first : Bytes) (name : List ℕ) (at : ℕ) → NoneChanges name at between
    → last_written (between ++ rest) fates first name at ≡ last_written rest (dropped between fates) first name at
kept_between [] rest fates first name at none = refl
kept_between (turn ∷ between) rest fates first name at none =
    turn_unchanged turn (fate fates) (last_written (between ++ rest) (earlier fates) first) name at
    (All-head (λ turn. ¬ MayChange name at turn) turn between none)
    ∙ kept_between between rest (earlier fates) first name at (All-tail (λ turn. ¬ MayChange name at turn) turn between none)

each_dropped : (name : List ℕ) (between rest : List Turn) (fates : List Fate) (first : Bytes) → EachReadsLast name (between ++ rest) fates first
    → EachReadsLast name rest (dropped between fates) first
each_dropped name [] rest fates first each = each
each_dropped name (turn ∷ between) rest fates first each = each_dropped name between rest (earlier fates) first each.1

-- zeros
zero_at : (n at byte : ℕ) → slice_get {X = ℕ} (replicate n 0) at ≡ Some byte → (at < n) × (byte ≡ 0)
zero_at zero at byte is = absurd (none_some is)
zero_at (suc n) zero byte is = (omega arith, sym (let none : ℕ = 0 in same_Some none byte is))
zero_at (suc n) (suc at) byte is = let rest = zero_at n at byte is in (omega (arith, rest.0), rest.1)

zero_there : (n at : ℕ) → at < n → slice_get {X = ℕ} (replicate n 0) at ≡ Some 0
zero_there zero at below = absurd (omega (arith, below))
zero_there (suc n) zero below = refl
zero_there (suc n) (suc at) below = zero_there n at (omega (arith, below))

-- A byte after a command was written by it, or is as before. Where all of it was written it doesn't change that byte.
job_last : (job : VolumeJob) (taken : List ℕ) (written : ℕ) (old : Bytes) (name : List ℕ) (at byte : ℕ)
    → after_job job taken written old name at ≡ Some byte
    → Writes name at byte job taken ⊎ ((old name at ≡ Some byte) × (most_written job ≤ written → ¬ Changes name at job))
job_last volume.Ready taken written old name at byte is = absurd (none_some is)
job_last (volume.Make made blocks) taken written old name at byte is = elim (one_name made name) [
  | inl same ↦ let zero = zero_at (SECTOR * blocks) at byte (sym (cond-true _ _ _ (same_name made name same)) ∙ is) in inl (same, zero.0, zero.1)
  | inr other ↦ inr (sym (cond-false _ _ _ (other_name made name other)) ∙ is, λ all. other)
]
job_last (volume.Remove removed) taken written old name at byte is = elim (one_name removed name) [
  | inl same ↦ absurd (none_some (sym (cond-true _ _ _ (same_name removed name same)) ∙ is))
  | inr other ↦ inr (sym (cond-false _ _ _ (other_name removed name other)) ∙ is, λ all. other)
]
job_last (volume.Write other block count) taken written old name at byte is =
    elim (cases_Bool (bytes_eq other name && has_place block (min written count) at)) [
      | inl here ↦ inl (written_here other name block count written at here, sym (cond-true _ _ _ here) ∙ is)
      | inr off ↦ inr (
        sym (cond-false _ _ _ off) ∙ is,
        λ all changes.
            clash (sym (and_from (bytes_eq other name) (has_place block (min written count) at) (same_name other name changes.0)
            (place_in block (min written count) at changes.1 (let below = changes.2 in omega (arith, below, all)))) ∙ off),
      )
    ]
job_last volume.List taken written old name at byte is = inr (is, λ all changes. changes)
job_last (volume.Read other block count) taken written old name at byte is = inr (is, λ all changes. changes)

module _ (first : Bytes) (name : List ℕ) (at byte : ℕ) where
  now_last : (turn : Turn) (life : List Turn) → MayWrite name at byte turn → IsLast first name at byte (turn ∷ life)
  now_last turn life may = Wrote [] life turn refl may (All-nil (λ turn. ¬ HasChanged name at turn))

  later_last : (turn : Turn) (life : List Turn) → ¬ HasChanged name at turn → IsLast first name at byte life → IsLast first name at byte (turn ∷ life)
  later_last turn life none (Wrote after before wrote are may rest) =
      Wrote (turn ∷ after) before wrote (ap (λ (l : List Turn). turn ∷ l) are) may (All-cons (λ turn. ¬ HasChanged name at turn) turn after none rest)
  later_last turn life none (AtFirst is rest) = AtFirst is (All-cons (λ turn. ¬ HasChanged name at turn) turn life none rest)

  -- one that was begun and not done wrote it, or left it
  begun_last : (job : VolumeJob) (taken : List ℕ) (life : List Turn) (made : Fate) (old : Bytes) → (old name at ≡ Some byte → IsLast first name at byte life)
      → after_turn (Began job taken) made old name at ≡ Some byte → IsLast first name at byte (Began job taken ∷ life)
  begun_last job taken life None old before is = later_last (Began job taken) life (λ changed. changed) (before is)
  begun_last job taken life (Some written) old before is =
      elim (job_last job taken written old name at byte is) [
        | inl writes ↦ now_last (Began job taken) life writes
        | inr was ↦ later_last (Began job taken) life (λ changed. changed) (before was.0)
      ]

  is_last : (life : List Turn) (fates : List Fate) → last_written life fates first name at ≡ Some byte → IsLast first name at byte life
  is_last [] fates is = AtFirst is (All-nil (λ turn. ¬ HasChanged name at turn))
  is_last (Did job taken put ∷ life) fates is =
      elim (job_last job taken (most_written job) (last_written life (earlier fates) first) name at byte is) [
        | inl writes ↦ now_last (Did job taken put) life writes
        | inr was ↦ later_last (Did job taken put) life (was.1 (omega arith)) (is_last life (earlier fates) was.0)
      ]
  is_last (Began job taken ∷ life) fates is =
      begun_last job taken life (fate fates) (last_written life (earlier fates) first) (λ was. is_last life (earlier fates) was) is
  is_last (Other ∷ life) fates is = later_last Other life (λ changed. changed) (is_last life (earlier fates) is)

-- ---- the laws of one byte

pub reads_are_last : ReadsAreLast
reads_are_last s new before after name block count taken put i at begins lives is =
    let read = read_explained s new before after name block count taken put begins lives in
    let some : slice_get put i ≡ Some (get_or put i 0) = slice_get-get_or put i 0 (omega (arith, is.within, read.are.length)) in (
      get_or put i 0,
      some,
      is_last (bytes_in s) name at (get_or put i 0) before read.fates
          (sym (byte_at (last_written before read.fates (bytes_in s)) name block count put i at read.are is) ∙ some),
    )

pub written_is_read : WrittenIsRead
written_is_read s new before between after name block count first blocks taken input put none i k at begins lives is wrote same =
    let life = between ++ Did (volume.Write name first blocks) input none ∷ before in
    let read = read_explained s new life after name block count taken put begins lives in
    let old = last_written before (earlier (dropped between read.fates)) (bytes_in s) in
    let from : SECTOR * first ≤ at = omega (arith, wrote.place) in
    let below : at < SECTOR * (first + min blocks blocks) = omega (arith, wrote.place, wrote.within) in
    let place : at - SECTOR * first ≡ k = omega (arith, wrote.place) in
    byte_at (last_written life read.fates (bytes_in s)) name block count put i at read.are is
    ∙ kept_between between (Did (volume.Write name first blocks) input none ∷ before) read.fates (bytes_in s) name at same
    ∙ cond-true (bytes_eq name name && has_place first (min blocks blocks) at) (slice_get input (at - SECTOR * first)) (old name at)
    (and_from (bytes_eq name name) (has_place first (min blocks blocks) at) (same_name name name refl) (place_in first (min blocks blocks) at from below))
    ∙ ap (slice_get input) place

pub made_is_zero : MadeIsZero
made_is_zero s new before between after name block count blocks taken put none line i at begins lives is below same =
    let life = between ++ Did (volume.Make name blocks) none line ∷ before in
    let read = read_explained s new life after name block count taken put begins lives in
    let old = last_written before (earlier (dropped between read.fates)) (bytes_in s) in
    byte_at (last_written life read.fates (bytes_in s)) name block count put i at read.are is
    ∙ kept_between between (Did (volume.Make name blocks) none line ∷ before) read.fates (bytes_in s) name at same
    ∙ cond-true (bytes_eq name name) (slice_get (replicate (SECTOR * blocks) 0) at) (old name at) (same_name name name refl)
    ∙ zero_there (SECTOR * blocks) at below

pub reads_agree : ReadsAgree
reads_agree s new before between after name block count block' count' taken put taken' put' i i' at begins lives is is' same =
    let one : Turn = Did (volume.Read name block count) taken put in
    let life = between ++ one ∷ before in
    let read = read_explained s new life after name block' count' taken' put' begins lives in
    let each = each_dropped name between (one ∷ before) read.fates (bytes_in s) read.reads in
    byte_at (last_written life read.fates (bytes_in s)) name block' count' put' i' at read.are is'
    ∙ kept_between between (one ∷ before) read.fates (bytes_in s) name at same
    ∙ sym (byte_at (last_written before (earlier (dropped between read.fates)) (bytes_in s)) name block count put i at (each.0 refl) is)
