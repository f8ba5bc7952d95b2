-- A volume reads the same wherever it is the same.
use Rattle.std.proofs.Common.{◌≡◌, ◌∙◌, ◌<◌, ◌⊎◌, ℕ, List, ◌∷◌, inl, inr, length, take, drop, get_or, sym, ap, arith}
use Rattle.std.specs.List.{concat}
use Rattle.std.proofs.lemmas.Bool.{cases_order}
use Rattle.std.proofs.lemmas.List.{get_or-map, length-append, length-map}
use Rattle.std.proofs.Math.Seq.{get_or-append_seam}
use Rattle.stair_state.specs.Blocks.{Blocks}
use Rattle.stair_volume.specs.declared.extent.Entry.{Entry}
use Rattle.stair_volume.specs.Changes.{volume_of}
use Rattle.stair_volume.specs.Table.{extent_of}
use Rattle.stair_volume.specs.Volumes.{HasVolumes, IsAmong, Volume, VolumesReadAlike, volume_at}

-- where a volume of the name is
module _ (count : ℕ) (held : Blocks) (volumes : List Volume) (has : HasVolumes count held volumes) (name : List ℕ) (v : Volume)
    (among : IsAmong volumes name v) where
  abbrev entries : List Entry
  entries = has.table.entries

  abbrev none : Entry
  none = volume_of name (extent_of 0 0)

  abbrev pub place : ℕ
  place = length among.before

  pub within : place < length entries
  within =
      let whole : length volumes ≡ length entries = ap length has.are ∙ length-map entries (volume_at held) in
      omega (arith, whole, ap length among.are ∙ length-append among.before (v ∷ among.after))

  pub there : volume_at held (get_or entries place none) ≡ v
  there =
      sym (get_or-map (volume_at held) entries place none (volume_at held none) within)
      ∙ ap (λ (l : List Volume). get_or l place (volume_at held none)) (sym has.are ∙ among.are)
      ∙ get_or-append_seam among.before v among.after (volume_at held none)

  pub named : (get_or entries place none).name ≡ name
  named = ap (λ (w : Volume). w.name) there ∙ among.named

-- one alone has a name
one_named : (count : ℕ) (held : Blocks) (volumes : List Volume) (has : HasVolumes count held volumes) (name : List ℕ) (v w : Volume)
    → IsAmong volumes name v → IsAmong volumes name w → v ≡ w
one_named count held volumes has name v w a b = by (cases_order (length a.before) (length b.before))
  where
    differ : {j k : ℕ} → j < k → k < length has.table.entries → (get_or has.table.entries j (volume_of name (extent_of 0 0))).name ≡ name
        → (get_or has.table.entries k (volume_of name (extent_of 0 0))).name ≡ name → ⊥
    differ before inside first second =
        has.is_table.rules.named_apart _ _ (volume_of name (extent_of 0 0)) before inside (first ∙ sym second)

    by : (length a.before ≡ length b.before) ⊎ ((length a.before < length b.before) ⊎ (length b.before < length a.before)) → v ≡ w
    by (inl same) =
        sym (there count held volumes has name v a)
        ∙ ap (λ (k : ℕ). volume_at held (get_or has.table.entries k (volume_of name (extent_of 0 0)))) same
        ∙ there count held volumes has name w b
    by (inr (inl before)) =
        absurd (differ before (within count held volumes has name w b) (named count held volumes has name v a) (named count held volumes has name w b))
    by (inr (inr behind)) =
        absurd (differ behind (within count held volumes has name v a) (named count held volumes has name w b) (named count held volumes has name v a))

-- two reads of it that are done give the same
pub read_alike : VolumesReadAlike
read_alike name block count taken put taken' put' s now s' now' v a b among among' =
    let first = one_named _ a.held a.done.volumes a.done.begins name a.puts.0 v a.puts.1 among in
    let second = one_named _ b.held b.done.volumes b.done.begins name b.puts.0 v b.puts.1 among' in
    a.puts.2 ∙ ap (λ (w : Volume). concat (take count (drop block w.blocks))) (first ∙ sym second) ∙ sym b.puts.2
