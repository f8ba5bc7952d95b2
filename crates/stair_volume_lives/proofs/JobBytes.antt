-- What a command that was done makes of the bytes of volumes.
use Rattle.std.proofs.Common.{◌≡◌, ◌≢◌, ◌∙◌, ◌+◌, ◌*◌, ◌-◌, ◌<◌, ◌≤◌, ◌++◌, ◌&&◌, ◌⊎◌, ℕ, zero, suc, Bool, true, false, cond, not, List, [], ◌∷◌, None, length, map, drop, take, get_or, replicate, inl, inr, refl, sym, ap, subst, arith}
use Rattle.std.specs.Prelude.{All, bytes_eq, filter, min, nat_le, nat_lt, slice_get}
use Rattle.std.specs.List.{concat}
use Rattle.std.proofs.lemmas.Bool.{and_from, and_left, and_right, cases_Bool, cases_lt, cond-false, cond-true, false_from_ne_true, leb-true, le-leb, ltb-true, lt-ltb}
use Rattle.std.proofs.lemmas.List.{length-append, length-replicate, map-append}
use Rattle.std.proofs.lemmas.List.Elements.{All-append, All-cons, All-filter, All-map, All-nil, All-replicate, All-weaker}
use Rattle.std.proofs.lemmas.Slice.Eq.{bytes_eq-Decides}
use Rattle.std.proofs.Math.Seq.{get_or-append_seam}
use Rattle.stair_model.specs.Stripe.{SECTOR}
use Rattle.stair_state.specs.Blocks.{Blocks, zero_block}
use Rattle.stair_conf.specs.declared.job.VolumeJob.{VolumeJob}
use Rattle.stair_conf.specs.declared.job.VolumeJob.TheVariants as volume
use Rattle.stair_volume.specs.Volumes.{AreFront, HasDone, IsAmong, Volume, after_job as volumes_after, is_of, most_written, overwritten}
use Rattle.stair_volume.proofs.BlockLemmas.{overwritten-none}
use Rattle.stair_volume_lives.specs.Lives.{AreBytes, Bytes, after_job, bytes_held, bytes_of, has_place}
use Rattle.stair_volume_lives.proofs.ByteLemmas.{AreWhole, at_range, length-range, length-whole, over_back, over_front, over_here, slice_get-left, whole-drop, whole-take, zeros_joined}
use Rattle.stair_volume_lives.proofs.HeldBytes.{AllWhole, IsWholeOf, Apart, HoldsWhole, among_bytes, apart, first_named, held_some, next, none_before, one_list, one_name, one_named, other_name, same_name}

-- ---- places

pub place_in : (block count at : ℕ) → SECTOR * block ≤ at → at < SECTOR * (block + count) → has_place block count at ≡ true
place_in block count at from below =
    and_from (nat_le (SECTOR * block) at) (nat_lt at (SECTOR * (block + count))) (le-leb (SECTOR * block) at from) (lt-ltb at (SECTOR * (block + count)) below)

pub place_before : (block count at : ℕ) → at < SECTOR * block → has_place block count at ≡ false
place_before block count at below =
    and_left (nat_le (SECTOR * block) at) (nat_lt at (SECTOR * (block + count)))
    (false_from_ne_true (nat_le (SECTOR * block) at) (λ is. let no = leb-true (SECTOR * block) at is in omega (arith, no, below)))

pub place_past : (block count at : ℕ) → SECTOR * (block + count) ≤ at → has_place block count at ≡ false
place_past block count at past =
    and_right (nat_le (SECTOR * block) at) (nat_lt at (SECTOR * (block + count)))
    (false_from_ne_true (nat_lt at (SECTOR * (block + count))) (λ is. let no = ltb-true at (SECTOR * (block + count)) is in omega (arith, no, past)))

-- ---- a volume more

abbrev zeroed : (name : List ℕ) (blocks : ℕ) → Volume
zeroed name blocks = record { name = name; blocks = replicate blocks zero_block }

added_other : (volumes : List Volume) (new : Volume) (name : List ℕ) (at : ℕ) → new.name ≢ name
    → bytes_of (volumes ++ new ∷ []) name at ≡ bytes_of volumes name at
added_other [] new name at other = next new [] name at other
added_other (v ∷ volumes) new name at other = elim (cases_Bool (is_of name v)) [
  | inl named ↦ cond-true _ _ _ named ∙ sym (cond-true _ _ _ named)
  | inr not_named ↦ cond-false _ _ _ not_named ∙ added_other volumes new name at other ∙ sym (cond-false _ _ _ not_named)
]

-- ---- a volume less

removed_none : (volumes : List Volume) (name : List ℕ) (at : ℕ) → bytes_of (filter (λ v. not (is_of name v)) volumes) name at ≡ None
removed_none [] name at = refl
removed_none (v ∷ volumes) name at = elim (cases_Bool (is_of name v)) [
  | inl named ↦ ap (λ (l : List Volume). bytes_of l name at) (cond-false (not (is_of name v)) (v ∷ filter (λ v. not (is_of name v)) volumes) (filter (λ v. not (is_of name v)) volumes) (ap not named))
      ∙ removed_none volumes name at
  | inr other ↦ ap (λ (l : List Volume). bytes_of l name at) (cond-true (not (is_of name v)) (v ∷ filter (λ v. not (is_of name v)) volumes) (filter (λ v. not (is_of name v)) volumes) (ap not other))
      ∙ cond-false _ _ _ other ∙ removed_none volumes name at
]

removed_other : (volumes : List Volume) (removed name : List ℕ) (at : ℕ) → removed ≢ name
    → bytes_of (filter (λ v. not (is_of removed v)) volumes) name at ≡ bytes_of volumes name at
removed_other [] removed name at other = refl
removed_other (v ∷ volumes) removed name at other = elim (cases_Bool (is_of removed v)) [
  | inl named ↦ ap (λ (l : List Volume). bytes_of l name at) (cond-false (not (is_of removed v)) (v ∷ filter (λ v. not (is_of removed v)) volumes) (filter (λ v. not (is_of removed v)) volumes) (ap not named))
      ∙ removed_other volumes removed name at other
      ∙ sym (next v volumes name at (λ same. other (sym ((bytes_eq-Decides v.name removed).0 named) ∙ same)))
  | inr not_named ↦ ap (λ (l : List Volume). bytes_of l name at) (cond-true (not (is_of removed v)) (v ∷ filter (λ v. not (is_of removed v)) volumes) (filter (λ v. not (is_of removed v)) volumes) (ap not not_named))
      ∙ ap (cond (is_of name v) (slice_get (concat v.blocks) at)) (removed_other volumes removed name at other)
]

-- ---- blocks that are written

abbrev turned : (other : List ℕ) (block : ℕ) (contents : List (List ℕ)) → Volume → Volume
turned other block contents v = cond (is_of other v) (record v { blocks = overwritten block contents v.blocks }) v

turned_name : (other : List ℕ) (block : ℕ) (contents : List (List ℕ)) (v : Volume) → (turned other block contents v).name ≡ v.name
turned_name other block contents v = elim (cases_Bool (is_of other v)) [
  | inl is ↦ ap (λ (w : Volume). w.name) (cond-true (is_of other v) (record v { blocks = overwritten block contents v.blocks }) v is)
  | inr isnt ↦ ap (λ (w : Volume). w.name) (cond-false (is_of other v) (record v { blocks = overwritten block contents v.blocks }) v isnt)
]

turned_other : (volumes : List Volume) (other : List ℕ) (block : ℕ) (contents : List (List ℕ)) (name : List ℕ) (at : ℕ) → other ≢ name
    → bytes_of (map (turned other block contents) volumes) name at ≡ bytes_of volumes name at
turned_other [] other block contents name at apart = refl
turned_other (v ∷ volumes) other block contents name at apart = elim (cases_Bool (is_of other v)) [
  | inl is ↦ next (turned other block contents v) (map (turned other block contents) volumes) name at
      (λ same. apart (sym ((bytes_eq-Decides v.name other).0 is) ∙ sym (turned_name other block contents v) ∙ same))
      ∙ turned_other volumes other block contents name at apart
      ∙ sym (next v volumes name at (λ same. apart (sym ((bytes_eq-Decides v.name other).0 is) ∙ same)))
  | inr isnt ↦ ap (λ (w : Volume). bytes_of (w ∷ map (turned other block contents) volumes) name at)
      (cond-false (is_of other v) (record v { blocks = overwritten block contents v.blocks }) v isnt)
      ∙ ap (cond (is_of name v) (slice_get (concat v.blocks) at)) (turned_other volumes other block contents name at apart)
]

-- of the one volume: the blocks that are written, and its other bytes
over_at : (block at : ℕ) (contents blocks : List (List ℕ)) (rest taken : List ℕ) → AreWhole contents → AreWhole blocks
    → (0 < length contents → block + length contents ≤ length blocks) → taken ≡ concat contents ++ rest
    → slice_get (concat (overwritten block contents blocks)) at
    ≡ cond (has_place block (length contents) at) (slice_get taken (at - SECTOR * block)) (slice_get (concat blocks) at)
over_at block at [] blocks rest taken new old fits are =
    ap (λ (l : List (List ℕ)). slice_get (concat l) at) (overwritten-none block blocks)
    ∙ sym (cond-false _ _ _ (elim (cases_lt at (SECTOR * block)) [
      | inl before ↦ place_before block 0 at before
      | inr past ↦ place_past block 0 at (omega (arith, past))
    ]))
over_at block at (bytes ∷ more) blocks rest taken new old fits are =
    let contents : List (List ℕ) = bytes ∷ more in
    let inside : block + length contents ≤ length blocks = fits (omega arith) in
    elim (cases_lt at (SECTOR * block)) [
      | inl before ↦ over_front block contents blocks new old inside at before ∙ sym (cond-false _ _ _ (place_before block (length contents) at before))
      | inr from ↦ elim (cases_lt at (SECTOR * (block + length contents))) [
        | inl below ↦
            let i : ℕ = at - SECTOR * block in
            let there : i < SECTOR * length contents = omega (arith, from, below) in
            let place : at ≡ SECTOR * block + i = omega (arith, from) in
            over_here block contents blocks new old inside at i place there
            ∙ sym (slice_get-left (concat contents) rest i (omega (arith, there, length-whole contents new)))
            ∙ ap (λ (l : List ℕ). slice_get l i) (sym are)
            ∙ sym (cond-true _ _ _ (place_in block (length contents) at from below))
        | inr past ↦
            over_back block contents blocks new old inside at (at - SECTOR * (block + length contents)) (omega (arith, past))
            ∙ sym (cond-false _ _ _ (place_past block (length contents) at past))
      ]
    ]

-- ---- a command that was done

-- a write, where there is such a volume
written_bytes : (name : List ℕ) (volumes : List Volume) (other : List ℕ) (block count : ℕ) (contents : List (List ℕ)) (rest taken : List ℕ) (v : Volume)
    (among : IsAmong volumes other v) → Apart volumes → AllWhole name volumes → AreWhole contents
    → (0 < length contents → block + length contents ≤ length v.blocks) → taken ≡ concat contents ++ rest → length contents ≤ count → (at : ℕ)
    → bytes_of (map (turned other block contents) volumes) name at
    ≡ after_job (volume.Write other block count) taken (length contents) (bytes_of volumes) name at
written_bytes name volumes other block count contents rest taken v among apart whole new fits are few at = by (one_name other name)
  where
    old : IsWholeOf name v
    old = subst (IsWholeOf name)
        (ap (λ (l : List Volume). get_or l (length among.before) v) among.are ∙ get_or-append_seam among.before v among.after v)
        (whole (length among.before) v (omega (arith, ap length among.are, length-append among.before (v ∷ among.after))))

    least : min (length contents) count ≡ length contents
    least = omega (arith, few)

    held : v.name ≡ name → slice_get (concat (turned other block contents v).blocks) at
        ≡ cond (has_place block (length contents) at) (slice_get taken (at - SECTOR * block)) (slice_get (concat v.blocks) at)
    held named = ap (λ (w : Volume). slice_get (concat w.blocks) at)
        (cond-true (is_of other v) (record v { blocks = overwritten block contents v.blocks }) v (same_name v.name other among.named))
        ∙ over_at block at contents v.blocks rest taken new (old named) fits are

    by : (other ≡ name) ⊎ (other ≢ name) → bytes_of (map (turned other block contents) volumes) name at
        ≡ after_job (volume.Write other block count) taken (length contents) (bytes_of volumes) name at
    by (inl same) =
        let named : v.name ≡ name = among.named ∙ same in
        let none : All (λ w. w.name ≢ name) among.before =
        All-weaker (λ w. w.name ≢ other) (λ w. w.name ≢ name) (λ w apart is. apart (is ∙ sym same)) among.before (none_before volumes apart other v among) in
        let none_now : All (λ w. w.name ≢ name) (map (turned other block contents) among.before) =
        All-map (λ w. w.name ≢ name) (turned other block contents) among.before
        (All-weaker (λ w. w.name ≢ name) (λ w. (turned other block contents w).name ≢ name)
        (λ w apart is. apart (sym (turned_name other block contents w) ∙ is)) among.before none) in
        let was : bytes_of volumes name at ≡ slice_get (concat v.blocks) at =
        ap (λ (l : List Volume). bytes_of l name at) among.are ∙ first_named among.before among.after v name at none named in
        ap (λ (l : List Volume). bytes_of (map (turned other block contents) l) name at) among.are
        ∙ ap (λ (l : List Volume). bytes_of l name at) (map-append (turned other block contents) among.before (v ∷ among.after))
        ∙ first_named (map (turned other block contents) among.before) (map (turned other block contents) among.after) (turned other block contents v) name at
        none_now (turned_name other block contents v ∙ named)
        ∙ held named
        ∙ ap (cond (has_place block (length contents) at) (slice_get taken (at - SECTOR * block))) (sym was)
        ∙ ap (λ (k : ℕ). cond (has_place block k at) (slice_get taken (at - SECTOR * block)) (bytes_of volumes name at)) (sym least)
        ∙ ap (λ (b : Bool). cond (b && has_place block (min (length contents) count) at) (slice_get taken (at - SECTOR * block)) (bytes_of volumes name at))
        (sym (same_name other name same))
    by (inr apart_name) =
        turned_other volumes other block contents name at apart_name
        ∙ sym (cond-false _ _ _ (and_left (bytes_eq other name) (has_place block (min (length contents) count) at) (other_name other name apart_name)))

-- what a command makes depends on the byte alone
pub after_same : (job : VolumeJob) (taken : List ℕ) (written : ℕ) (a b : Bytes) (name : List ℕ) (at : ℕ) → a name at ≡ b name at
    → after_job job taken written a name at ≡ after_job job taken written b name at
after_same volume.Ready taken written a b name at same = refl
after_same (volume.Make made blocks) taken written a b name at same =
    ap (cond (bytes_eq made name) (slice_get (replicate (SECTOR * blocks) 0) at)) same
after_same (volume.Remove removed) taken written a b name at same = ap (cond (bytes_eq removed name) None) same
after_same (volume.Write other block count) taken written a b name at same =
    ap (cond (bytes_eq other name && has_place block (min written count) at) (slice_get taken (at - SECTOR * block))) same
after_same volume.List taken written a b name at same = same
after_same (volume.Read other block count) taken written a b name at same = same

pub done_bytes : (name : List ℕ) (job : VolumeJob) (contents : List (List ℕ)) (count : ℕ) (held now : Blocks) (taken : List ℕ) → HasDone job contents count held now
    → AreFront contents taken → length contents ≤ most_written job → HoldsWhole name count held → (at : ℕ)
    → bytes_held count now name at ≡ after_job job taken (length contents) (bytes_held count held) name at
done_bytes name volume.Ready contents count held now taken done front few whole at = held_some count now [] done.has name at
done_bytes name (volume.Make made blocks) contents count held now taken done front few whole at = by (one_name made name)
  where
    by : (made ≡ name) ⊎ (made ≢ name) → bytes_held count now name at
        ≡ after_job (volume.Make made blocks) taken (length contents) (bytes_held count held) name at
    by (inl same) =
        held_some count now (done.volumes ++ zeroed made blocks ∷ []) done.has name at
        ∙ first_named done.volumes [] (zeroed made blocks) name at
        (All-weaker (λ w. w.name ≢ made) (λ w. w.name ≢ name) (λ w apart is. apart (is ∙ sym same)) done.volumes done.fits) same
        ∙ ap (λ (l : List ℕ). slice_get l at) (zeros_joined blocks) ∙ sym (cond-true _ _ _ (same_name made name same))
    by (inr other) =
        held_some count now (done.volumes ++ zeroed made blocks ∷ []) done.has name at ∙ added_other done.volumes (zeroed made blocks) name at other
        ∙ sym (held_some count held done.volumes done.begins name at) ∙ sym (cond-false _ _ _ (other_name made name other))
done_bytes name (volume.Remove removed) contents count held now taken done front few whole at = by (one_name removed name)
  where
    by : (removed ≡ name) ⊎ (removed ≢ name) → bytes_held count now name at
        ≡ after_job (volume.Remove removed) taken (length contents) (bytes_held count held) name at
    by (inl same) =
        held_some count now _ done.has name at
        ∙ ap (λ (n : List ℕ). bytes_of (filter (λ v. not (is_of removed v)) done.volumes) n at) (sym same) ∙ removed_none done.volumes removed at
        ∙ sym (cond-true _ _ _ (same_name removed name same))
    by (inr other) =
        held_some count now _ done.has name at ∙ removed_other done.volumes removed name at other
        ∙ sym (held_some count held done.volumes done.begins name at) ∙ sym (cond-false _ _ _ (other_name removed name other))
done_bytes name (volume.Write other block all) contents count held now taken done front few whole at =
    held_some count now _ done.has name at
    ∙ written_bytes name done.volumes other block all contents front.rest taken done.fits.0 done.fits.1 (apart count held done.volumes done.begins)
    (whole done.volumes done.begins) front.whole done.fits.2 front.are few at
    ∙ after_same (volume.Write other block all) taken (length contents) (bytes_of done.volumes) (bytes_held count held) name at
    (sym (held_some count held done.volumes done.begins name at))
done_bytes name volume.List contents count held now taken done front few whole at =
    held_some count now done.volumes done.has name at ∙ sym (held_some count held done.volumes done.begins name at)
done_bytes name (volume.Read other block all) contents count held now taken done front few whole at =
    held_some count now done.volumes done.has name at ∙ sym (held_some count held done.volumes done.begins name at)

-- ---- and the blocks stay whole

turned_whole : (other : List ℕ) (block : ℕ) (contents : List (List ℕ)) (v : Volume) → AreWhole contents → AreWhole v.blocks
    → AreWhole (turned other block contents v).blocks
turned_whole other block contents v new old = elim (cases_Bool (is_of other v)) [
  | inl is ↦ subst (λ (w : Volume). AreWhole w.blocks) (sym (cond-true (is_of other v) (record v { blocks = overwritten block contents v.blocks }) v is))
      (All-append (λ bytes. length bytes ≡ SECTOR) (take block v.blocks) (contents ++ drop (block + length contents) v.blocks) (whole-take block v.blocks old)
      (All-append (λ bytes. length bytes ≡ SECTOR) contents (drop (block + length contents) v.blocks) new (whole-drop (block + length contents) v.blocks old)))
  | inr isnt ↦ subst (λ (w : Volume). AreWhole w.blocks) (sym (cond-false (is_of other v) (record v { blocks = overwritten block contents v.blocks }) v isnt)) old
]

all_after : (name : List ℕ) (job : VolumeJob) (contents : List (List ℕ)) (volumes : List Volume) → AreWhole contents → AllWhole name volumes
    → AllWhole name (volumes_after job contents volumes)
all_after name volume.Ready contents volumes new whole = All-nil (IsWholeOf name)
all_after name (volume.Make made blocks) contents volumes new whole =
    All-append (IsWholeOf name) volumes _ whole
    (All-cons (IsWholeOf name) _ [] (λ named. All-replicate (λ bytes. length bytes ≡ SECTOR) blocks zero_block (length-replicate {A = ℕ} SECTOR 0))
    (All-nil (IsWholeOf name)))
all_after name (volume.Remove removed) contents volumes new whole = All-filter (λ v. not (is_of removed v)) (IsWholeOf name) volumes whole
all_after name (volume.Write other block all) contents volumes new whole =
    All-map (IsWholeOf name) (turned other block contents) volumes
    (All-weaker (IsWholeOf name) (λ v. IsWholeOf name (turned other block contents v))
    (λ v old named. turned_whole other block contents v new (old (sym (turned_name other block contents v) ∙ named))) volumes whole)
all_after name volume.List contents volumes new whole = whole
all_after name (volume.Read other block all) contents volumes new whole = whole

-- the command began with whole blocks, or with no volumes
begun_whole : (name : List ℕ) (job : VolumeJob) (contents : List (List ℕ)) (count : ℕ) (held now : Blocks) (done : HasDone job contents count held now) → AreWhole contents
    → HoldsWhole name count held → AllWhole name (volumes_after job contents done.volumes)
begun_whole name volume.Ready contents count held now done new whole = All-nil (IsWholeOf name)
begun_whole name (volume.Make made blocks) contents count held now done new whole =
    all_after name (volume.Make made blocks) contents done.volumes new (whole done.volumes done.begins)
begun_whole name (volume.Remove removed) contents count held now done new whole =
    all_after name (volume.Remove removed) contents done.volumes new (whole done.volumes done.begins)
begun_whole name (volume.Write other block all) contents count held now done new whole =
    all_after name (volume.Write other block all) contents done.volumes new (whole done.volumes done.begins)
begun_whole name volume.List contents count held now done new whole = whole done.volumes done.begins
begun_whole name (volume.Read other block all) contents count held now done new whole = whole done.volumes done.begins

pub done_whole : (name : List ℕ) (job : VolumeJob) (contents : List (List ℕ)) (count : ℕ) (held now : Blocks) (done : HasDone job contents count held now) → AreWhole contents
    → HoldsWhole name count held → HoldsWhole name count now
done_whole name job contents count held now done new whole volumes has =
    subst (AllWhole name) (one_list count now (volumes_after job contents done.volumes) volumes done.has has) (begun_whole name job contents count held now done new whole)

-- what a read puts out is the bytes of its volume
pub read_bytes : (name : List ℕ) (block all : ℕ) (contents : List (List ℕ)) (count : ℕ) (held now : Blocks) (put : List ℕ)
    (done : HasDone (volume.Read name block all) contents count held now) (v : Volume) → IsAmong done.volumes name v
    → put ≡ concat (take all (drop block v.blocks)) → HoldsWhole name count held
    → AreBytes (bytes_held count held) name (SECTOR * block) (SECTOR * all) put
read_bytes name block zero contents count held now put done v among puts whole = record {
  length = ap length puts;
  each = λ i below. absurd (omega (arith, below));
}
read_bytes name block (suc more) contents count held now put done v among puts whole =
    let same = one_named done.volumes (apart count held done.volumes done.begins) name done.fits.0 v done.fits.1 among in
    let fits : block + suc more ≤ length v.blocks = subst (λ (w : Volume). block + suc more ≤ length w.blocks) same (done.fits.2 (omega arith)) in
    let old : AreWhole v.blocks = subst (IsWholeOf name)
    (ap (λ (l : List Volume). get_or l (length among.before) v) among.are ∙ get_or-append_seam among.before v among.after v)
    (whole done.volumes done.begins (length among.before) v (omega (arith, ap length among.are, length-append among.before (v ∷ among.after)))) among.named in
    record {
      length = ap length puts ∙ length-range v.blocks block (suc more) old fits;
      each = λ i below. ap (λ (l : List ℕ). slice_get l i) puts ∙ at_range v.blocks block (suc more) i old fits below
          ∙ sym (held_some count held done.volumes done.begins name (SECTOR * block + i)
          ∙ among_bytes done.volumes (apart count held done.volumes done.begins) name v among (SECTOR * block + i));
    }
